-- What is read weighs at most sixteen for each byte: values, resources, scopes, log records and spans, and the groups of any items.
use Rattle.std.proofs.Common.{◌≡◌, ℕ, zero, suc, ◌+◌, ◌*◌, ◌≤◌, List, [], ◌∷◌, length, true, false, refl, arith}
use Rattle.std.specs.Prelude.{fold, ◌==◌, not, if◌then◌else◌}
use Rattle.std.specs.Int.{w64, cast_signed}
use Rattle.otlp_wire.specs.Wire as wire
use Rattle.otlp_wire.specs.Wire.{FieldValue, Entry}
use Rattle.otlp_wire.specs.Fields.{fields_of}
use Rattle.otlp_messages.specs.Rows.{said, at, bytes_in, embedded_in, many_in}
use Rattle.otlp_model.specs.declared.value.Value.{Value}
use Rattle.otlp_model.specs.declared.value.Value.TheVariants as values
use Rattle.otlp_model.specs.declared.value.Pair.{Pair}
use Rattle.otlp_model.specs.Weight.{total, weight_of_value, weight_of_pair, weight_of_resource, weight_of_scope, weight_of_scope_group, weight_of_resource_group, weight_of_log_record, weight_of_event, weight_of_link, weight_of_span}
use Rattle.otlp_model.proofs.Levels.{weight_of_empty, weight_of_str, weight_of_bool, weight_of_int, weight_of_double, weight_of_bytes, weight_of_array, weight_of_map}
use Rattle.otlp_codec.specs.declared.spans.SpanStatus.{SpanStatus}
use Rattle.otlp_codec.specs.Limits.{level_limit}
use Rattle.otlp_codec.specs.Values.{string_in, bool_value_in, int_value_in, double_value_in, array_value_in, kvlist_value_in, bytes_value_in, any_in, any_of, pair_of, members_of, any_value_at, key_value_at}
use Rattle.otlp_codec.specs.Groups.{value_in, pair_in, resource_in, scope_in, scope_group_in, resource_group_in, groups_in}
use Rattle.otlp_codec.specs.Logs.{log_record_in}
use Rattle.otlp_codec.specs.Spans.{event_in, link_in, no_status, span_status_in, span_in}
use Rattle.otlp_codec.proofs.LightFields.{room, rooms_of, all_rooms, taken, all_within, bytes_light, part_within, LightPart, embedded_light, many_light}

-- ---- the members of a oneof

-- what is there weighs at most as much as what was there, or at most sixteen for each byte of the field
abbrev pub LightMember : {A : Type 0} → (A → ℕ) → (A → FieldValue → A) → Type 0
LightMember {A = A} weigh read = (old : A) (v : FieldValue) (most : ℕ) → weigh old ≤ most → 16 * room v ≤ most → weigh (read old v) ≤ most

pub at_light : {A : Type 0} (weigh : A → ℕ) (read : A → FieldValue → A) → LightMember weigh read → (n : ℕ) (old : A) (f : Entry) (most : ℕ) → weigh old ≤ most → 16 * room f.value ≤ most
    → weigh (at n read old f) ≤ most
at_light weigh read light n old f most few small = elim (f.number == n) as (λ b. weigh (if b then read old f.value else old) ≤ most) [ true ↦ light old f.value most few small | false ↦ few ]

fold_members : {A : Type 0} (weigh : A → ℕ) (step : A → Entry → A) → ((old : A) (f : Entry) → weigh (step old f) ≤ weigh old + 16 * room f.value) → (old : A) (fs : List Entry)
    → weigh (fold step old fs) ≤ weigh old + 16 * all_rooms fs
fold_members weigh step light old [] = omega arith
fold_members weigh step light old (f ∷ fs) = omega (arith, fold_members weigh step light (step old f) fs, light old f)

pub members_light : {A : Type 0} (weigh : A → ℕ) (step : A → Entry → A) (none : A) → ((old : A) (f : Entry) → weigh (step old f) ≤ weigh old + 16 * room f.value) → weigh none ≡ 0
    → (bytes : List ℕ) → weigh (fold step none (fields_of bytes)) ≤ 16 * length bytes
members_light weigh step none light empty bytes = omega (arith, fold_members weigh step light none (fields_of bytes), empty, rooms_of bytes)

-- ---- values

string_light : LightMember weight_of_value string_in
string_light old (wire.Bytes part) most few small = omega (arith, small, weight_of_str part)
string_light old (wire.Varint n) most few small = few
string_light old (wire.Fixed64 n) most few small = few
string_light old (wire.Fixed32 n) most few small = few

bool_light : LightMember weight_of_value bool_value_in
bool_light old (wire.Varint n) most few small = omega (arith, weight_of_bool (not (n == 0)))
bool_light old (wire.Bytes part) most few small = few
bool_light old (wire.Fixed64 n) most few small = few
bool_light old (wire.Fixed32 n) most few small = few

int_light : LightMember weight_of_value int_value_in
int_light old (wire.Varint n) most few small = omega (arith, weight_of_int (cast_signed w64 n))
int_light old (wire.Bytes part) most few small = few
int_light old (wire.Fixed64 n) most few small = few
int_light old (wire.Fixed32 n) most few small = few

double_light : LightMember weight_of_value double_value_in
double_light old (wire.Fixed64 n) most few small = omega (arith, weight_of_double n)
double_light old (wire.Bytes part) most few small = few
double_light old (wire.Varint n) most few small = few
double_light old (wire.Fixed32 n) most few small = few

array_light : (array : List ℕ → List Value) → LightPart (total 32 weight_of_value) array → LightMember weight_of_value (array_value_in array)
array_light array light old (wire.Bytes part) most few small = omega (arith, small, light part, weight_of_array (array part))
array_light array light old (wire.Varint n) most few small = few
array_light array light old (wire.Fixed64 n) most few small = few
array_light array light old (wire.Fixed32 n) most few small = few

map_light : (map : List ℕ → List Pair) → LightPart (total 32 weight_of_pair) map → LightMember weight_of_value (kvlist_value_in map)
map_light map light old (wire.Bytes part) most few small = omega (arith, small, light part, weight_of_map (map part))
map_light map light old (wire.Varint n) most few small = few
map_light map light old (wire.Fixed64 n) most few small = few
map_light map light old (wire.Fixed32 n) most few small = few

octets_light : LightMember weight_of_value bytes_value_in
octets_light old (wire.Bytes part) most few small = omega (arith, small, weight_of_bytes part)
octets_light old (wire.Varint n) most few small = few
octets_light old (wire.Fixed64 n) most few small = few
octets_light old (wire.Fixed32 n) most few small = few

any_light : (array : List ℕ → List Value) (map : List ℕ → List Pair) → LightPart (total 32 weight_of_value) array → LightPart (total 32 weight_of_pair) map → LightPart weight_of_value (any_of array map)
any_light array map arrays maps bytes = members_light weight_of_value (any_in array map) values.Empty step weight_of_empty bytes
  where
    step : (old : Value) (f : Entry) → weight_of_value (any_in array map old f) ≤ weight_of_value old + 16 * room f.value
    step old f =
        let most = weight_of_value old + 16 * room f.value in
        let small : 16 * room f.value ≤ most = omega arith in
        at_light weight_of_value string_in string_light 1 _ f most
        (at_light weight_of_value bool_value_in bool_light 2 _ f most
        (at_light weight_of_value int_value_in int_light 3 _ f most
        (at_light weight_of_value double_value_in double_light 4 _ f most
        (at_light weight_of_value (array_value_in array) (array_light array arrays) 5 _ f most
        (at_light weight_of_value (kvlist_value_in map) (map_light map maps) 6 _ f most
        (at_light weight_of_value bytes_value_in octets_light 7 old f most (omega arith) small) small) small) small) small) small) small

pair_light : (read : List ℕ → Value) → LightPart weight_of_value read → LightPart weight_of_pair (pair_of read)
pair_light read light bytes =
    omega (arith, bytes_light 1 bytes, embedded_light weight_of_value read values.Empty light weight_of_empty 2 bytes, all_within (1 ∷ 2 ∷ []) bytes refl)

-- the members of an array or a key-value list
some_light : {A : Type 0} (weigh : A → ℕ) (read : List ℕ → A) → LightPart weigh read → LightPart (total 32 weigh) (members_of read)
some_light weigh read light bytes = omega (arith, many_light 32 weigh read (omega arith) light 1 bytes, all_within (1 ∷ []) bytes refl)

value_light : (l : ℕ) → LightPart weight_of_value (any_value_at l)
unfolding any_value_at
value_light zero bytes = any_light (λ part. []) (λ part. []) (λ part. omega arith) (λ part. omega arith) bytes
value_light (suc l) bytes =
    any_light (members_of (any_value_at l)) (members_of (pair_of (any_value_at l))) (some_light weight_of_value (any_value_at l) (value_light l))
    (some_light weight_of_pair (pair_of (any_value_at l)) (pair_light (any_value_at l) (value_light l))) bytes

key_value_light : LightPart weight_of_pair pair_in
unfolding key_value_at
key_value_light bytes = pair_light value_in (value_light level_limit) bytes

pub pairs_light : (n : ℕ) (bytes : List ℕ) → total 32 weight_of_pair (said n (many_in pair_in) [] bytes) ≤ 16 * taken n bytes
pairs_light n bytes = many_light 32 weight_of_pair pair_in (omega arith) key_value_light n bytes

-- ---- messages

log_body : (n : ℕ) (bytes : List ℕ) → weight_of_value (said n (embedded_in value_in) values.Empty bytes) ≤ 16 * taken n bytes
log_body n bytes = embedded_light weight_of_value value_in values.Empty (value_light level_limit) weight_of_empty n bytes

pub log_record_light : LightPart weight_of_log_record log_record_in
unfolding log_record_in
log_record_light bytes =
    omega (
      arith,
      bytes_light 3 bytes,
      log_body 5 bytes,
      pairs_light 6 bytes,
      bytes_light 9 bytes,
      bytes_light 10 bytes,
      bytes_light 12 bytes,
      all_within (3 ∷ 5 ∷ 6 ∷ 9 ∷ 10 ∷ 12 ∷ []) bytes refl,
    )

event_light : LightPart weight_of_event event_in
unfolding event_in
event_light bytes = omega (arith, bytes_light 2 bytes, pairs_light 3 bytes, all_within (2 ∷ 3 ∷ []) bytes refl)

link_light : LightPart weight_of_link link_in
unfolding link_in
link_light bytes =
    omega (arith, bytes_light 1 bytes, bytes_light 2 bytes, bytes_light 3 bytes, pairs_light 4 bytes, all_within (1 ∷ 2 ∷ 3 ∷ 4 ∷ []) bytes refl)

weight_of_status : SpanStatus → ℕ
weight_of_status status = length status.message

status_light : LightPart weight_of_status span_status_in
unfolding span_status_in weight_of_status
status_light bytes = omega (arith, bytes_light 2 bytes, all_within (2 ∷ []) bytes refl)

span_status : (bytes : List ℕ) → length (said 15 (embedded_in span_status_in) no_status bytes).message ≤ 16 * taken 15 bytes
unfolding weight_of_status
span_status bytes = embedded_light weight_of_status span_status_in no_status status_light refl 15 bytes

pub span_light : LightPart weight_of_span span_in
unfolding span_in
span_light bytes =
    omega (
      arith,
      bytes_light 1 bytes,
      bytes_light 2 bytes,
      bytes_light 3 bytes,
      bytes_light 4 bytes,
      bytes_light 5 bytes,
      pairs_light 9 bytes,
      many_light 32 weight_of_event event_in (omega arith) event_light 11 bytes,
      many_light 32 weight_of_link link_in (omega arith) link_light 13 bytes,
      span_status bytes,
      all_within (1 ∷ 2 ∷ 3 ∷ 4 ∷ 5 ∷ 9 ∷ 11 ∷ 13 ∷ 15 ∷ []) bytes refl,
    )

-- ---- groups, whatever their items are

resource_light : (url bytes : List ℕ) → weight_of_resource (resource_in url bytes) ≤ length url + 16 * length bytes
resource_light url bytes = omega (arith, pairs_light 1 bytes, all_within (1 ∷ []) bytes refl)

scope_light : (url bytes : List ℕ) → weight_of_scope (scope_in url bytes) ≤ length url + 16 * length bytes
scope_light url bytes = omega (arith, bytes_light 1 bytes, bytes_light 2 bytes, pairs_light 3 bytes, all_within (1 ∷ 2 ∷ 3 ∷ []) bytes refl)

module _ {I : Type 0} (weigh : I → ℕ) (item : List ℕ → I) (light : LightPart weigh item) where
  scope_group_light : LightPart (weight_of_scope_group weigh) (scope_group_in item)
  scope_group_light bytes =
      omega (
        arith,
        scope_light (said 3 bytes_in [] bytes) (said 1 bytes_in [] bytes),
        part_within 1 bytes,
        bytes_light 3 bytes,
        many_light 32 weigh item (omega arith) light 2 bytes,
        all_within (1 ∷ 2 ∷ 3 ∷ []) bytes refl,
      )

  resource_group_light : LightPart (weight_of_resource_group weigh) (resource_group_in item)
  resource_group_light bytes =
      omega (
        arith,
        resource_light (said 3 bytes_in [] bytes) (said 1 bytes_in [] bytes),
        part_within 1 bytes,
        bytes_light 3 bytes,
        many_light 32 (weight_of_scope_group weigh) (scope_group_in item) (omega arith) scope_group_light 2 bytes,
        all_within (1 ∷ 2 ∷ 3 ∷ []) bytes refl,
      )

  pub groups_light : LightPart (total 32 (weight_of_resource_group weigh)) (groups_in item)
  groups_light bytes = omega (arith, many_light 32 (weight_of_resource_group weigh) (resource_group_in item) (omega arith) resource_group_light 1 bytes, all_within (1 ∷ []) bytes refl)
