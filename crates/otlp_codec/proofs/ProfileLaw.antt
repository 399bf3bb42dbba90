-- What is read is within the profile: ids have their lengths, and values are at most 32 deep.
use Rattle.std.proofs.Common.{◌≡◌, ℕ, zero, suc, ◌+◌, ◌≤◌, List, [], ◌∷◌, map, length, true, false, refl, subst, arith, inl, inr, ◌⊎◌}
use Rattle.std.specs.Prelude.{not, ◌==◌, if◌then◌else◌, IsTrue, ⊤}
use Rattle.std.specs.Int.{w64, cast_signed}
use Rattle.std.specs.List.{All, AllByRecursion}
use Rattle.std.proofs.lemmas.Bool.{eq-eqb}
use Rattle.std.proofs.Math.Bool.{or-true}
use Rattle.std.proofs.lemmas.List.Elements.{All-head, All-tail, All-push, All-nil}
use Rattle.lists.proofs.Folds.{fold_keeps, fold_keeps_where}
use Rattle.otlp_wire.specs.Wire as wire
use Rattle.otlp_wire.specs.Wire.{FieldValue, Entry}
use Rattle.otlp_wire.specs.Fields.{fields_of}
use Rattle.otlp_messages.specs.declared.messages.Message.{Message}
use Rattle.otlp_messages.specs.declared.messages.Message.TheVariants as messages
use Rattle.otlp_messages.specs.declared.messages.ItemKind.{ItemKind}
use Rattle.otlp_messages.specs.declared.messages.FieldKind.{FieldKind}
use Rattle.otlp_messages.specs.declared.messages.FieldKind.TheVariants as kinds
use Rattle.otlp_codec.specs.Limits.{level_limit}
use Rattle.otlp_messages.specs.Table.{kind_of, item_of}
use Rattle.otlp_messages.specs.Defects.{IsFine}
use Rattle.otlp_messages.specs.Fine.{FinePart, FineValue}
use Rattle.otlp_messages.specs.Rows.{only, said, at, bytes_in, embedded_in, many_in}
use Rattle.otlp_messages.proofs.EachFine.{fine_only}
use Rattle.otlp_model.specs.declared.value.Value.{Value}
use Rattle.otlp_model.specs.declared.value.Value.TheVariants as values
use Rattle.otlp_model.specs.declared.value.Pair.{Pair}
use Rattle.otlp_model.specs.Each.{Each}
use Rattle.otlp_model.specs.Depth.{depth_of, greatest}
use Rattle.otlp_model.specs.PairDepth.{depth_of_pair}
use Rattle.otlp_model.specs.Profile.{is_id_of, IsProfilePair, IsProfileResource, IsProfileScope, IsProfileLogRecord, IsProfileEvent, IsProfileLink, IsProfileSpan, IsProfileScopeGroup, IsProfileResourceGroup}
use Rattle.otlp_model.proofs.Levels.{depth_of_empty, depth_of_str, depth_of_bool, depth_of_int, depth_of_double, depth_of_bytes, depth_of_array, depth_of_map}
use Rattle.otlp_codec.specs.Values.{string_in, bool_value_in, int_value_in, double_value_in, array_value_in, kvlist_value_in, bytes_value_in, any_in, any_of, pair_of, members_of, any_value_at, key_value_at}
use Rattle.otlp_codec.specs.Groups.{value_in, pair_in, resource_in, scope_in, scope_group_in, resource_group_in, groups_in}
use Rattle.otlp_codec.specs.Logs.{log_record_in}
use Rattle.otlp_codec.specs.Spans.{event_in, link_in, span_in}

many_kept : {A : Type 0} (P : A → Type 0) (Q : FieldValue → Type 0) (read : List ℕ → A) → ((part : List ℕ) → Q (wire.Bytes part) → P (read part))
    → (old : List A) (v : FieldValue) → All P old → Q v → All P (many_in read old v)
many_kept P Q read each old (wire.Bytes part) p q = All-push P old (read part) p (each part q)
many_kept P Q read each old (wire.Varint n) p q = p
many_kept P Q read each old (wire.Fixed64 n) p q = p
many_kept P Q read each old (wire.Fixed32 n) p q = p

embedded_kept : {A : Type 0} (P : A → Type 0) (read : List ℕ → A) → ((part : List ℕ) → P (read part)) → (old : A) (v : FieldValue) → P old → P (embedded_in read old v)
embedded_kept P read each old (wire.Bytes part) p = each part
embedded_kept P read each old (wire.Varint n) p = p
embedded_kept P read each old (wire.Fixed64 n) p = p
embedded_kept P read each old (wire.Fixed32 n) p = p

-- the messages of a repeated field, whatever they are
all_said : {A : Type 0} (P : A → Type 0) (read : List ℕ → A) → ((part : List ℕ) → P (read part)) → (n : ℕ) (bytes : List ℕ) → All P (said n (many_in read) [] bytes)
all_said P read each n bytes = fold_keeps (All P) (many_in read) (λ old v p. many_kept P (λ v. ⊤) read (λ part _. each part) old v p tt) [] (only n (fields_of bytes)) (All-nil P)

-- the messages of a repeated field, in bytes without a defect
pub each_said : {A : Type 0} (P : A → Type 0) (m : Message) (n : ℕ) (read : List ℕ → A) → ((part : List ℕ) → FinePart (kind_of m n) level_limit part → P (read part))
    → (bytes : List ℕ) → IsFine m level_limit bytes → Each P (said n (many_in read) [] bytes)
each_said P m n read each bytes fine = record {
  at = fold_keeps_where (All P) (FineValue (kind_of m n) level_limit) (many_in read) (many_kept P (FineValue (kind_of m n) level_limit) read each) []
      (only n (fields_of bytes)) (All-nil P) (fine_only m level_limit n bytes fine);
}

-- ids
HasLength : ℕ → List ℕ → Type 0
HasLength size id = (length id ≡ 0) ⊎ (length id ≡ size)

id_kept : (size : ℕ) (old : List ℕ) (v : FieldValue) → HasLength size old → FineValue (kinds.Id size) level_limit v → HasLength size (bytes_in old v)
unfolding HasLength
id_kept size old (wire.Bytes part) p q = q
id_kept size old (wire.Varint n) p q = p
id_kept size old (wire.Fixed64 n) p q = p
id_kept size old (wire.Fixed32 n) p q = p

id_is : (size : ℕ) (id : List ℕ) → HasLength size id → IsTrue (is_id_of size id)
unfolding HasLength
id_is size id (inl none) = rw none refl
id_is size id (inr whole) = rw (eq-eqb (length id) size whole) (or-true (length id == 0))

pub id_said : (m : Message) (n size : ℕ) (bytes : List ℕ) → kind_of m n ≡ kinds.Id size → IsFine m level_limit bytes → IsTrue (is_id_of size (said n bytes_in [] bytes))
unfolding HasLength
id_said m n size bytes is fine =
    id_is size (said n bytes_in [] bytes)
    (fold_keeps_where (HasLength size) (FineValue (kinds.Id size) level_limit) bytes_in (id_kept size) [] (only n (fields_of bytes)) (inl refl)
    (subst (λ (k : FieldKind). AllByRecursion (FineValue k level_limit) (only n (fields_of bytes))) is (fine_only m level_limit n bytes fine)))

-- depths
greatest_few : {A : Type 0} (f : A → ℕ) (n : ℕ) (xs : List A) → All (λ x. f x ≤ n) xs → greatest (map f xs) ≤ n
greatest_few f n [] all = omega arith
greatest_few f n (x ∷ xs) all = omega (arith, All-head (λ x. f x ≤ n) x xs all, greatest_few f n xs (All-tail (λ x. f x ≤ n) x xs all))

Shallow : ℕ → Value → Type 0
Shallow n v = depth_of v ≤ n + 1

at_kept : {A : Type 0} (P : A → Type 0) (n : ℕ) (read : A → FieldValue → A) → ((old : A) (v : FieldValue) → P old → P (read old v)) → (old : A) (f : Entry) → P old → P (at n read old f)
at_kept P n read each old f p = elim (f.number == n) as (λ b. P (if b then read old f.value else old)) [ true ↦ each old f.value p | false ↦ p ]

string_kept : (n : ℕ) (old : Value) (v : FieldValue) → Shallow n old → Shallow n (string_in old v)
unfolding Shallow
string_kept n old (wire.Bytes part) p = omega (arith, depth_of_str part)
string_kept n old (wire.Varint k) p = p
string_kept n old (wire.Fixed64 k) p = p
string_kept n old (wire.Fixed32 k) p = p

bool_kept : (n : ℕ) (old : Value) (v : FieldValue) → Shallow n old → Shallow n (bool_value_in old v)
unfolding Shallow
bool_kept n old (wire.Bytes part) p = p
bool_kept n old (wire.Varint k) p = omega (arith, depth_of_bool (not (k == 0)))
bool_kept n old (wire.Fixed64 k) p = p
bool_kept n old (wire.Fixed32 k) p = p

int_kept : (n : ℕ) (old : Value) (v : FieldValue) → Shallow n old → Shallow n (int_value_in old v)
unfolding Shallow
int_kept n old (wire.Bytes part) p = p
int_kept n old (wire.Varint k) p = omega (arith, depth_of_int (cast_signed w64 k))
int_kept n old (wire.Fixed64 k) p = p
int_kept n old (wire.Fixed32 k) p = p

double_kept : (n : ℕ) (old : Value) (v : FieldValue) → Shallow n old → Shallow n (double_value_in old v)
unfolding Shallow
double_kept n old (wire.Bytes part) p = p
double_kept n old (wire.Varint k) p = p
double_kept n old (wire.Fixed64 k) p = omega (arith, depth_of_double k)
double_kept n old (wire.Fixed32 k) p = p

array_kept : (n : ℕ) (array : List ℕ → List Value) → ((part : List ℕ) → All (λ v. depth_of v ≤ n) (array part)) → (old : Value) (v : FieldValue) → Shallow n old → Shallow n (array_value_in array old v)
unfolding Shallow
array_kept n array few old (wire.Bytes part) p = omega (arith, depth_of_array (array part), greatest_few depth_of n (array part) (few part))
array_kept n array few old (wire.Varint k) p = p
array_kept n array few old (wire.Fixed64 k) p = p
array_kept n array few old (wire.Fixed32 k) p = p

map_kept : (n : ℕ) (pairs : List ℕ → List Pair) → ((part : List ℕ) → All (λ p. depth_of_pair p ≤ n) (pairs part)) → (old : Value) (v : FieldValue) → Shallow n old → Shallow n (kvlist_value_in pairs old v)
unfolding Shallow
map_kept n pairs few old (wire.Bytes part) p = omega (arith, depth_of_map (pairs part), greatest_few depth_of_pair n (pairs part) (few part))
map_kept n pairs few old (wire.Varint k) p = p
map_kept n pairs few old (wire.Fixed64 k) p = p
map_kept n pairs few old (wire.Fixed32 k) p = p

bytes_kept : (n : ℕ) (old : Value) (v : FieldValue) → Shallow n old → Shallow n (bytes_value_in old v)
unfolding Shallow
bytes_kept n old (wire.Bytes part) p = omega (arith, depth_of_bytes part)
bytes_kept n old (wire.Varint k) p = p
bytes_kept n old (wire.Fixed64 k) p = p
bytes_kept n old (wire.Fixed32 k) p = p

any_kept : (n : ℕ) (array : List ℕ → List Value) (pairs : List ℕ → List Pair) → ((part : List ℕ) → All (λ v. depth_of v ≤ n) (array part)) → ((part : List ℕ) → All (λ p. depth_of_pair p ≤ n) (pairs part))
    → (old : Value) (f : Entry) → Shallow n old → Shallow n (any_in array pairs old f)
any_kept n array pairs members few old f p =
    at_kept (Shallow n) 1 string_in (string_kept n) _ f
    (at_kept (Shallow n) 2 bool_value_in (bool_kept n) _ f
    (at_kept (Shallow n) 3 int_value_in (int_kept n) _ f
    (at_kept (Shallow n) 4 double_value_in (double_kept n) _ f
    (at_kept (Shallow n) 5 (array_value_in array) (array_kept n array members) _ f
    (at_kept (Shallow n) 6 (kvlist_value_in pairs) (map_kept n pairs few) _ f
    (at_kept (Shallow n) 7 bytes_value_in (bytes_kept n) old f p))))))

no_depth : (n : ℕ) → Shallow n values.Empty
unfolding Shallow
no_depth n = omega (arith, depth_of_empty)

any_deep : (n : ℕ) (array : List ℕ → List Value) (pairs : List ℕ → List Pair) → ((part : List ℕ) → All (λ v. depth_of v ≤ n) (array part)) → ((part : List ℕ) → All (λ p. depth_of_pair p ≤ n) (pairs part))
    → (bytes : List ℕ) → Shallow n (any_of array pairs bytes)
any_deep n array pairs members few bytes = fold_keeps (Shallow n) (any_in array pairs) (any_kept n array pairs members few) values.Empty (fields_of bytes) (no_depth n)

-- the value of a field
value_deep : (n : ℕ) (read : List ℕ → Value) → ((part : List ℕ) → Shallow n (read part)) → (k : ℕ) (bytes : List ℕ) → Shallow n (said k (embedded_in read) values.Empty bytes)
value_deep n read each k bytes = fold_keeps (Shallow n) (embedded_in read) (embedded_kept (Shallow n) read each) values.Empty (only k (fields_of bytes)) (no_depth n)

-- a value below which this number of levels of members may be
pub deep_at : (l : ℕ) (bytes : List ℕ) → depth_of (any_value_at l bytes) ≤ l + 1
unfolding any_value_at Shallow
deep_at zero bytes = any_deep 0 (λ part. []) (λ part. []) (λ part. All-nil (λ v. depth_of v ≤ 0)) (λ part. All-nil (λ p. depth_of_pair p ≤ 0)) bytes
deep_at (suc l) bytes =
    any_deep (suc l) (members_of (any_value_at l)) (members_of (pair_of (any_value_at l)))
    (all_said (λ v. depth_of v ≤ suc l) (any_value_at l) (λ part. omega (arith, deep_at l part)) 1)
    (all_said (λ p. depth_of_pair p ≤ suc l) (pair_of (any_value_at l)) (λ part. omega (arith, value_deep l (any_value_at l) (deep_at l) 2 part)) 1)
    bytes

pair_profile : (bytes : List ℕ) → IsProfilePair (pair_in bytes)
unfolding key_value_at Shallow
pair_profile bytes = omega (arith, value_deep level_limit value_in (deep_at level_limit) 2 bytes)

pub pairs_profile : (n : ℕ) (bytes : List ℕ) → Each IsProfilePair (said n (many_in pair_in) [] bytes)
pairs_profile n bytes = record { at = all_said IsProfilePair pair_in pair_profile n bytes }

resource_profile : (url bytes : List ℕ) → IsProfileResource (resource_in url bytes)
resource_profile url bytes = record { pairs = pairs_profile 1 bytes }

scope_profile : (url bytes : List ℕ) → IsProfileScope (scope_in url bytes)
scope_profile url bytes = record { pairs = pairs_profile 3 bytes }

pub log_record_profile : (bytes : List ℕ) → IsFine messages.LogRecord level_limit bytes → IsProfileLogRecord (log_record_in bytes)
unfolding log_record_in Shallow
log_record_profile bytes fine = record {
  trace_id = id_said messages.LogRecord 9 16 bytes refl fine;
  span_id = id_said messages.LogRecord 10 8 bytes refl fine;
  body = omega (arith, value_deep level_limit value_in (deep_at level_limit) 5 bytes);
  pairs = pairs_profile 6 bytes;
}

event_profile : (bytes : List ℕ) → IsFine messages.Event level_limit bytes → IsProfileEvent (event_in bytes)
unfolding event_in
event_profile bytes fine = record { pairs = pairs_profile 3 bytes }

link_profile : (bytes : List ℕ) → IsFine messages.Link level_limit bytes → IsProfileLink (link_in bytes)
unfolding link_in
link_profile bytes fine = record {
  trace_id = id_said messages.Link 1 16 bytes refl fine;
  span_id = id_said messages.Link 2 8 bytes refl fine;
  pairs = pairs_profile 4 bytes;
}

pub span_profile : (bytes : List ℕ) → IsFine messages.Span level_limit bytes → IsProfileSpan (span_in bytes)
unfolding span_in
span_profile bytes fine = record {
  trace_id = id_said messages.Span 1 16 bytes refl fine;
  span_id = id_said messages.Span 2 8 bytes refl fine;
  parent_span_id = id_said messages.Span 4 8 bytes refl fine;
  pairs = pairs_profile 9 bytes;
  events = each_said IsProfileEvent messages.Span 11 event_in event_profile bytes fine;
  links = each_said IsProfileLink messages.Span 13 link_in link_profile bytes fine;
}

-- groups, whatever their items are
scope_group_profile : {I : Type 0} (P : I → Type 0) (of : ItemKind) (read : List ℕ → I) → ((part : List ℕ) → IsFine (item_of of) level_limit part → P (read part))
    → (bytes : List ℕ) → IsFine (messages.ScopeGroup of) level_limit bytes → IsProfileScopeGroup P (scope_group_in read bytes)
scope_group_profile P of read each bytes fine = record {
  scope = scope_profile (said 3 bytes_in [] bytes) (said 1 bytes_in [] bytes);
  items = each_said P (messages.ScopeGroup of) 2 read each bytes fine;
}

resource_group_profile : {I : Type 0} (P : I → Type 0) (of : ItemKind) (read : List ℕ → I) → ((part : List ℕ) → IsFine (item_of of) level_limit part → P (read part))
    → (bytes : List ℕ) → IsFine (messages.ResourceGroup of) level_limit bytes → IsProfileResourceGroup P (resource_group_in read bytes)
resource_group_profile P of read each bytes fine = record {
  resource = resource_profile (said 3 bytes_in [] bytes) (said 1 bytes_in [] bytes);
  scopes = each_said (IsProfileScopeGroup P) (messages.ResourceGroup of) 2 (scope_group_in read) (scope_group_profile P of read each) bytes fine;
}

pub groups_profile : {I : Type 0} (P : I → Type 0) (of : ItemKind) (read : List ℕ → I) → ((part : List ℕ) → IsFine (item_of of) level_limit part → P (read part))
    → (bytes : List ℕ) → IsFine (messages.Request of) level_limit bytes → Each (IsProfileResourceGroup P) (groups_in read bytes)
groups_profile P of read each bytes fine = each_said (IsProfileResourceGroup P) (messages.Request of) 1 (resource_group_in read) (resource_group_profile P of read each) bytes fine
