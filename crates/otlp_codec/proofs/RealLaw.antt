-- What is read is real: texts are UTF-8, and numbers fit their types.
use Rattle.std.proofs.Common.{◌≡◌, ℕ, zero, suc, ◌+◌, ◌^◌, ◌<◌, ◌≤◌, List, [], ◌∷◌, ◌++◌, length, Bool, true, false, refl, ◌∙◌, subst, arith, rules, length-append, ℤ, pos, negsuc}
use Rattle.std.specs.Prelude.{fold, ◌==◌, not, nat_lt, if◌then◌else◌, FitsSigned}
use Rattle.std.specs.Int.{w32, w64, cast_signed}
use Rattle.std.specs.List.{All, AllByRecursion}
use Rattle.std.proofs.Math.Facts.{sfits_to_z}
use Rattle.std.proofs.lemmas.Bool.{eqb-true, and_from, lt-ltb}
use Rattle.std.proofs.lemmas.Str.{IsUtf8-nil}
use Rattle.std.proofs.lemmas.List.Elements.{All-from_recursion, All-push}
use Rattle.std.proofs.lemmas.List.Sums.{list_all-from_AllPass}
use Rattle.otlp_wire.specs.Wire as wire
use Rattle.otlp_wire.specs.Wire.{FieldValue, Entry}
use Rattle.otlp_wire.specs.Fields.{fields_of}
use Rattle.otlp_messages.specs.declared.messages.Message.{Message}
use Rattle.otlp_messages.specs.declared.messages.Message.TheVariants as messages
use Rattle.otlp_messages.specs.declared.messages.FieldKind.{FieldKind}
use Rattle.otlp_messages.specs.declared.messages.FieldKind.TheVariants as kinds
use Rattle.otlp_messages.specs.Table.{kind_of}
use Rattle.otlp_messages.specs.Defects.{IsFine}
use Rattle.otlp_messages.specs.Fine.{FineValue}
use Rattle.otlp_messages.specs.Rows.{only, said, at, fixed64_in, fixed32_in, uint32_in, int32_in, bytes_in, embedded_in, many_in}
use Rattle.otlp_messages.proofs.EachFine.{fine_only, fine_fields}
use Rattle.otlp_model.specs.declared.value.Value.{Value, the_lemmas}
use Rattle.otlp_model.specs.declared.value.Value.TheVariants as values
use Rattle.otlp_model.specs.declared.value.Pair.{Pair}
use Rattle.otlp_model.specs.Each.{Each}
use Rattle.lists.specs.Bytes.{is_real_text, is_real_octets}
use Rattle.otlp_model.specs.Real.{fits_i64, is_real_value, is_real_pair, are_real_pairs}
use Rattle.lists.proofs.RealBytes.{real_text}
use Rattle.lists.proofs.Folds.{fold_keeps_where}
use Rattle.otlp_model.proofs.Levels.{is_real_array, is_real_map}
use Rattle.otlp_codec.specs.Limits.{level_limit}
use Rattle.otlp_codec.specs.Values.{string_in, bool_value_in, int_value_in, double_value_in, array_value_in, kvlist_value_in, bytes_value_in, any_in, any_of, pair_of, members_of, any_value_at, key_value_at}
use Rattle.otlp_codec.specs.Groups.{value_in, pair_in}
use Rattle.otlp_codec.proofs.Lists.{all_both}
use Rattle.otlp_codec.proofs.Returning.{nothing_fine}
use Rattle.otlp_codec.proofs.RealFields.{Octets, are_octets, no_octets, RealField, real_fields, real_only}

-- bytes that a program can hold, read as a message without a defect
pub record Sound (m : Message) (l : ℕ) (bytes : List ℕ) : Type 0 where
  pub fine : IsFine m l bytes
  pub real : Octets bytes

abbrev pub Keeps : {A : Type 0} → (A → Type 0) → FieldKind → ℕ → (A → FieldValue → A) → Type 0
Keeps {A = A} P k l read = (old : A) (v : FieldValue) → P old → FineValue k l v × RealField v → P (read old v)

pub holds : {A : Type 0} (P : A → Type 0) (m : Message) (l n : ℕ) (k : FieldKind) (read : A → FieldValue → A) (none : A) → kind_of m n ≡ k → P none → Keeps P k l read
    → (bytes : List ℕ) → Sound m l bytes → P (said n read none bytes)
holds P m l n k read none is empty each bytes h =
    fold_keeps_where P (λ v. FineValue k l v × RealField v) read each none (only n (fields_of bytes)) empty
    (all_both (FineValue k l) RealField (only n (fields_of bytes))
    (subst (λ (j : FieldKind). AllByRecursion (FineValue j l) (only n (fields_of bytes))) is (fine_only m l n bytes h.fine)) (real_only n bytes h.real).each)

-- numbers
keeps_fixed64 : (k : FieldKind) (l : ℕ) → Keeps (λ x. x < 2 ^ 64) k l fixed64_in
keeps_fixed64 k l old (wire.Fixed64 n) p h = h.1
keeps_fixed64 k l old (wire.Varint n) p h = p
keeps_fixed64 k l old (wire.Fixed32 n) p h = p
keeps_fixed64 k l old (wire.Bytes part) p h = p

pub fixed64_real : (m : Message) (l n : ℕ) (bytes : List ℕ) → Sound m l bytes → said n fixed64_in 0 bytes < 2 ^ 64
fixed64_real m l n bytes h = holds (λ x. x < 2 ^ 64) m l n (kind_of m n) fixed64_in 0 refl (omega arith) (keeps_fixed64 (kind_of m n) l) bytes h

keeps_fixed32 : (k : FieldKind) (l : ℕ) → Keeps (λ x. x < 2 ^ 32) k l fixed32_in
keeps_fixed32 k l old (wire.Fixed32 n) p h = h.1
keeps_fixed32 k l old (wire.Varint n) p h = p
keeps_fixed32 k l old (wire.Fixed64 n) p h = p
keeps_fixed32 k l old (wire.Bytes part) p h = p

pub fixed32_real : (m : Message) (l n : ℕ) (bytes : List ℕ) → Sound m l bytes → said n fixed32_in 0 bytes < 2 ^ 32
fixed32_real m l n bytes h = holds (λ x. x < 2 ^ 32) m l n (kind_of m n) fixed32_in 0 refl (omega arith) (keeps_fixed32 (kind_of m n) l) bytes h

keeps_uint32 : (k : FieldKind) (l : ℕ) → Keeps (λ x. x < 2 ^ 32) k l uint32_in
keeps_uint32 k l old (wire.Varint n) p h = omega arith
keeps_uint32 k l old (wire.Fixed32 n) p h = p
keeps_uint32 k l old (wire.Fixed64 n) p h = p
keeps_uint32 k l old (wire.Bytes part) p h = p

pub uint32_real : (m : Message) (l n : ℕ) (bytes : List ℕ) → Sound m l bytes → said n uint32_in 0 bytes < 2 ^ 32
uint32_real m l n bytes h = holds (λ x. x < 2 ^ 32) m l n (kind_of m n) uint32_in 0 refl (omega arith) (keeps_uint32 (kind_of m n) l) bytes h

keeps_int32 : (k : FieldKind) (l : ℕ) → Keeps (FitsSigned w32) k l int32_in
keeps_int32 k l old (wire.Varint n) p h = sfits_to_z {w = w32} (record { fits = omega arith })
keeps_int32 k l old (wire.Fixed32 n) p h = p
keeps_int32 k l old (wire.Fixed64 n) p h = p
keeps_int32 k l old (wire.Bytes part) p h = p

pub int32_real : (m : Message) (l n : ℕ) (bytes : List ℕ) → Sound m l bytes → FitsSigned w32 (said n int32_in (pos 0) bytes)
int32_real m l n bytes h = holds (FitsSigned w32) m l n (kind_of m n) int32_in (pos 0) refl (record { sfits = omega arith }) (keeps_int32 (kind_of m n) l) bytes h

-- texts, ids and other bytes
keeps_text : (l : ℕ) → Keeps (λ text. is_real_text text ≡ true) kinds.Text l bytes_in
keeps_text l old (wire.Bytes part) p h = real_text part h.0 h.1.few
keeps_text l old (wire.Varint n) p h = p
keeps_text l old (wire.Fixed64 n) p h = p
keeps_text l old (wire.Fixed32 n) p h = p

pub no_text : is_real_text [] ≡ true
no_text = real_text [] IsUtf8-nil (omega arith)

pub text_real : (m : Message) (l n : ℕ) (bytes : List ℕ) → kind_of m n ≡ kinds.Text → Sound m l bytes → is_real_text (said n bytes_in [] bytes) ≡ true
text_real m l n bytes is h = holds (λ text. is_real_text text ≡ true) m l n kinds.Text bytes_in [] is no_text (keeps_text l) bytes h

keeps_octets : (k : FieldKind) (l : ℕ) → Keeps (λ octets. is_real_octets octets ≡ true) k l bytes_in
keeps_octets k l old (wire.Bytes part) p h = are_octets part h.1
keeps_octets k l old (wire.Varint n) p h = p
keeps_octets k l old (wire.Fixed64 n) p h = p
keeps_octets k l old (wire.Fixed32 n) p h = p

pub octets_real : (m : Message) (l n : ℕ) (bytes : List ℕ) → Sound m l bytes → is_real_octets (said n bytes_in [] bytes) ≡ true
octets_real m l n bytes h = holds (λ octets. is_real_octets octets ≡ true) m l n (kind_of m n) bytes_in [] refl (are_octets [] no_octets) (keeps_octets (kind_of m n) l) bytes h

-- a message that occurs once, or not at all
keeps_part : (item : Message) (l : ℕ) → Keeps (Sound item l) (kinds.Embedded item) l bytes_in
keeps_part item l old (wire.Bytes part) p h = record { fine = h.0; real = h.1 }
keeps_part item l old (wire.Varint n) p h = p
keeps_part item l old (wire.Fixed64 n) p h = p
keeps_part item l old (wire.Fixed32 n) p h = p

pub part_sound : (m : Message) (l n : ℕ) (item : Message) (bytes : List ℕ) → kind_of m n ≡ kinds.Embedded item → Sound m l bytes → Sound item l (said n bytes_in [] bytes)
part_sound m l n item bytes is h = holds (Sound item l) m l n (kinds.Embedded item) bytes_in [] is (record { fine = nothing_fine item l; real = no_octets }) (keeps_part item l) bytes h

-- what is read of a message that occurs once
keeps_embedded : {A : Type 0} (P : A → Type 0) (item : Message) (l : ℕ) (read : List ℕ → A) → ((part : List ℕ) → Sound item l part → P (read part)) → Keeps P (kinds.Embedded item) l (embedded_in read)
keeps_embedded P item l read each old (wire.Bytes part) p h = each part (record { fine = h.0; real = h.1 })
keeps_embedded P item l read each old (wire.Varint n) p h = p
keeps_embedded P item l read each old (wire.Fixed64 n) p h = p
keeps_embedded P item l read each old (wire.Fixed32 n) p h = p

pub embedded_real : {A : Type 0} (P : A → Type 0) (m : Message) (l n : ℕ) (item : Message) (read : List ℕ → A) (none : A) → kind_of m n ≡ kinds.Embedded item → P none
    → ((part : List ℕ) → Sound item l part → P (read part)) → (bytes : List ℕ) → Sound m l bytes → P (said n (embedded_in read) none bytes)
embedded_real P m l n item read none is empty each bytes h = holds P m l n (kinds.Embedded item) (embedded_in read) none is empty (keeps_embedded P item l read each) bytes h

-- messages that occur any number of times, in fields of a kind whose fine parts are messages
keeps_many : {A : Type 0} (P : A → Type 0) (k : FieldKind) (l : ℕ) (read : List ℕ → A) → ((part : List ℕ) → FineValue k l (wire.Bytes part) → Octets part → P (read part)) → Keeps (All P) k l (many_in read)
keeps_many P k l read each old (wire.Bytes part) p h = All-push P old (read part) p (each part h.0 h.1)
keeps_many P k l read each old (wire.Varint n) p h = p
keeps_many P k l read each old (wire.Fixed64 n) p h = p
keeps_many P k l read each old (wire.Fixed32 n) p h = p

all_real : {A : Type 0} (P : A → Type 0) (m : Message) (l n : ℕ) (k : FieldKind) (read : List ℕ → A) → kind_of m n ≡ k → ((part : List ℕ) → FineValue k l (wire.Bytes part) → Octets part → P (read part))
    → (bytes : List ℕ) → Sound m l bytes → All P (said n (many_in read) [] bytes)
all_real P m l n k read is each bytes h = holds (All P) m l n k (many_in read) [] is (All-from_recursion P [] tt) (keeps_many P k l read each) bytes h

pub each_real : {A : Type 0} (P : A → Type 0) (m : Message) (n : ℕ) (item : Message) (read : List ℕ → A) → kind_of m n ≡ kinds.Embedded item
    → ((part : List ℕ) → Sound item level_limit part → P (read part)) → (bytes : List ℕ) → Sound m level_limit bytes → Each P (said n (many_in read) [] bytes)
each_real P m n item read is each bytes h = record { at = all_real P m level_limit n (kinds.Embedded item) read is (λ part fine real. each part (record { fine = fine; real = real })) bytes h }

few_many : {A : Type 0} (read : List ℕ → A) (old : List A) (vs : List FieldValue) → length (fold (many_in read) old vs) ≤ length old + length vs
few_many read old [] = omega arith
few_many read old (wire.Bytes part ∷ vs) = omega (arith, few_many read (old ++ read part ∷ []) vs, length-append old (read part ∷ []))
few_many read old (wire.Varint n ∷ vs) = omega (arith, few_many read old vs)
few_many read old (wire.Fixed64 n ∷ vs) = omega (arith, few_many read old vs)
few_many read old (wire.Fixed32 n ∷ vs) = omega (arith, few_many read old vs)

few_said : {A : Type 0} (read : List ℕ → A) (n : ℕ) (bytes : List ℕ) → Octets bytes → length (said n (many_in read) [] bytes) < 2 ^ 64
few_said read n bytes h = omega (arith, few_many read [] (only n (fields_of bytes)), (real_only n bytes h).few, h.few)

-- values
abbrev pub RealValue : Value → Type 0
RealValue v = is_real_value v ≡ true

at_kept : (P : Value → Type 0) (l n : ℕ) (read : Value → FieldValue → Value) → Keeps P (kind_of messages.AnyValue n) l read → (old : Value) (f : Entry) → P old
    → FineValue (kind_of messages.AnyValue f.number) l f.value × RealField f.value → P (at n read old f)
at_kept P l n read keeps old f p h = go (f.number == n) refl
  where
    go : (b : Bool) → (f.number == n) ≡ b → P (if b then read old f.value else old)
    go true hit = keeps old f.value p (subst (λ (k : ℕ). FineValue (kind_of messages.AnyValue k) l f.value) (eqb-true f.number n hit) h.0, h.1)
    go false miss = p

pub real_empty : RealValue values.Empty
real_empty = search (rules, the_lemmas)

real_str : (text : List ℕ) → is_real_text text ≡ true → RealValue (values.Str text)
real_str text h = (let is : is_real_value (values.Str text) ≡ is_real_text text = search (rules, the_lemmas) in is ∙ h)

real_bool : (b : Bool) → RealValue (values.Bool b)
real_bool b = search (rules, the_lemmas)

real_int : (z : ℤ) → fits_i64 z ≡ true → RealValue (values.Int z)
real_int z h = (let is : is_real_value (values.Int z) ≡ fits_i64 z = search (rules, the_lemmas) in is ∙ h)

real_double : (bits : ℕ) → bits < 2 ^ 64 → RealValue (values.Double bits)
real_double bits h = (let is : is_real_value (values.Double bits) ≡ nat_lt bits (2 ^ 64) = search (rules, the_lemmas) in is ∙ lt-ltb bits (2 ^ 64) h)

real_bytes : (octets : List ℕ) → is_real_octets octets ≡ true → RealValue (values.Bytes octets)
real_bytes octets h = (let is : is_real_value (values.Bytes octets) ≡ is_real_octets octets = search (rules, the_lemmas) in is ∙ h)

pub fits_real : (z : ℤ) → FitsSigned w64 z → fits_i64 z ≡ true
fits_real (pos n) h = lt-ltb n (2 ^ 63) h.sfits
fits_real (negsuc n) h = lt-ltb n (2 ^ 63) h.sfits

keeps_string : (l : ℕ) → Keeps RealValue kinds.Text l string_in
keeps_string l old (wire.Bytes part) p h = real_str part (real_text part h.0 h.1.few)
keeps_string l old (wire.Varint n) p h = p
keeps_string l old (wire.Fixed64 n) p h = p
keeps_string l old (wire.Fixed32 n) p h = p

keeps_bool : (k : FieldKind) (l : ℕ) → Keeps RealValue k l bool_value_in
keeps_bool k l old (wire.Varint n) p h = real_bool (not (n == 0))
keeps_bool k l old (wire.Bytes part) p h = p
keeps_bool k l old (wire.Fixed64 n) p h = p
keeps_bool k l old (wire.Fixed32 n) p h = p

keeps_int : (k : FieldKind) (l : ℕ) → Keeps RealValue k l int_value_in
keeps_int k l old (wire.Varint n) p h = real_int (cast_signed w64 n) (fits_real (cast_signed w64 n) (sfits_to_z {w = w64} (record { fits = h.1 })))
keeps_int k l old (wire.Bytes part) p h = p
keeps_int k l old (wire.Fixed64 n) p h = p
keeps_int k l old (wire.Fixed32 n) p h = p

keeps_double : (k : FieldKind) (l : ℕ) → Keeps RealValue k l double_value_in
keeps_double k l old (wire.Fixed64 n) p h = real_double n h.1
keeps_double k l old (wire.Bytes part) p h = p
keeps_double k l old (wire.Varint n) p h = p
keeps_double k l old (wire.Fixed32 n) p h = p

-- arrays and key-value lists whose members are real, and few
abbrev RealMembers : {A : Type 0} → (A → Bool) → List A → Type 0
RealMembers real xs = All (λ x. real x ≡ true) xs × (length xs < 2 ^ 64)

keeps_array : (l : ℕ) (array : List ℕ → List Value) → ((part : List ℕ) → Sound messages.ArrayValue l part → RealMembers is_real_value (array part))
    → Keeps RealValue (kinds.Embedded messages.ArrayValue) l (array_value_in array)
keeps_array l array each old (wire.Bytes part) p h =
    let members = each part (record { fine = h.0; real = h.1 }) in
    is_real_array (array part) ∙ and_from _ _ (list_all-from_AllPass is_real_value (array part) members.0) (lt-ltb _ _ members.1)
keeps_array l array each old (wire.Varint n) p h = p
keeps_array l array each old (wire.Fixed64 n) p h = p
keeps_array l array each old (wire.Fixed32 n) p h = p

keeps_map : (l : ℕ) (map : List ℕ → List Pair) → ((part : List ℕ) → Sound messages.KeyValueList l part → RealMembers is_real_pair (map part))
    → Keeps RealValue (kinds.Embedded messages.KeyValueList) l (kvlist_value_in map)
keeps_map l map each old (wire.Bytes part) p h =
    let members = each part (record { fine = h.0; real = h.1 }) in
    is_real_map (map part) ∙ and_from _ _ (list_all-from_AllPass is_real_pair (map part) members.0) (lt-ltb _ _ members.1)
keeps_map l map each old (wire.Varint n) p h = p
keeps_map l map each old (wire.Fixed64 n) p h = p
keeps_map l map each old (wire.Fixed32 n) p h = p

keeps_bytes : (k : FieldKind) (l : ℕ) → Keeps RealValue k l bytes_value_in
keeps_bytes k l old (wire.Bytes part) p h = real_bytes part (are_octets part h.1)
keeps_bytes k l old (wire.Varint n) p h = p
keeps_bytes k l old (wire.Fixed64 n) p h = p
keeps_bytes k l old (wire.Fixed32 n) p h = p

member_real : (l : ℕ) (array : List ℕ → List Value) (map : List ℕ → List Pair) → ((part : List ℕ) → Sound messages.ArrayValue l part → RealMembers is_real_value (array part))
    → ((part : List ℕ) → Sound messages.KeyValueList l part → RealMembers is_real_pair (map part))
    → (old : Value) (f : Entry) → RealValue old → FineValue (kind_of messages.AnyValue f.number) l f.value × RealField f.value → RealValue (any_in array map old f)
member_real l array map arrays maps old f p q =
    at_kept RealValue l 1 string_in (keeps_string l) _ f
    (at_kept RealValue l 2 bool_value_in (keeps_bool kinds.Varint l) _ f
    (at_kept RealValue l 3 int_value_in (keeps_int kinds.Varint l) _ f
    (at_kept RealValue l 4 double_value_in (keeps_double kinds.Fixed64 l) _ f
    (at_kept RealValue l 5 (array_value_in array) (keeps_array l array arrays) _ f
    (at_kept RealValue l 6 (kvlist_value_in map) (keeps_map l map maps) _ f
    (at_kept RealValue l 7 bytes_value_in (keeps_bytes kinds.Octets l) old f p q) q) q) q) q) q) q

any_real : (l : ℕ) (array : List ℕ → List Value) (map : List ℕ → List Pair) → ((part : List ℕ) → Sound messages.ArrayValue l part → RealMembers is_real_value (array part))
    → ((part : List ℕ) → Sound messages.KeyValueList l part → RealMembers is_real_pair (map part)) → (bytes : List ℕ) → Sound messages.AnyValue l bytes → RealValue (any_of array map bytes)
any_real l array map arrays maps bytes h =
    fold_keeps_where RealValue (λ f. FineValue (kind_of messages.AnyValue f.number) l f.value × RealField f.value) (any_in array map) (member_real l array map arrays maps) values.Empty (fields_of bytes) real_empty
    (all_both (λ f. FineValue (kind_of messages.AnyValue f.number) l f.value) (λ f. RealField f.value) (fields_of bytes) (fine_fields messages.AnyValue l bytes h.fine) (real_fields bytes h.real).each)

pair_real : (l : ℕ) (read : List ℕ → Value) → ((part : List ℕ) → Sound messages.AnyValue l part → RealValue (read part)) → (bytes : List ℕ) → Sound messages.KeyValue l bytes → is_real_pair (pair_of read bytes) ≡ true
pair_real l read each bytes h =
    and_from _ _ (text_real messages.KeyValue l 1 bytes refl h) (embedded_real RealValue messages.KeyValue l 2 messages.AnyValue read values.Empty refl real_empty each bytes h)

members_real : {A : Type 0} (real : A → Bool) (m item : Message) (l : ℕ) (read : List ℕ → A) → kind_of m 1 ≡ kinds.Member item → ((part : List ℕ) → Sound item l part → real (read part) ≡ true)
    → (bytes : List ℕ) → Sound m (suc l) bytes → RealMembers real (members_of read bytes)
members_real real m item l read is each bytes h =
    (all_real (λ x. real x ≡ true) m (suc l) 1 (kinds.Member item) read is (λ part fine octets. each part (record { fine = fine; real = octets })) bytes h, few_said read 1 bytes h.real)

no_members : {A : Type 0} (real : A → Bool) → RealMembers real []
no_members real = (All-from_recursion (λ x. real x ≡ true) [] tt, omega arith)

pub value_real : (l : ℕ) (bytes : List ℕ) → Sound messages.AnyValue l bytes → RealValue (any_value_at l bytes)
unfolding any_value_at
value_real zero bytes h = any_real 0 (λ part. []) (λ part. []) (λ part _. no_members is_real_value) (λ part _. no_members is_real_pair) bytes h
value_real (suc l) bytes h =
    any_real (suc l) (members_of (any_value_at l)) (members_of (pair_of (any_value_at l)))
    (members_real is_real_value messages.ArrayValue messages.AnyValue l (any_value_at l) refl (value_real l))
    (members_real is_real_pair messages.KeyValueList messages.KeyValue l (pair_of (any_value_at l)) refl (pair_real l (any_value_at l) (value_real l)))
    bytes h

pub pairs_real : (m : Message) (n : ℕ) (bytes : List ℕ) → kind_of m n ≡ kinds.Embedded messages.KeyValue → Sound m level_limit bytes → are_real_pairs (said n (many_in pair_in) [] bytes) ≡ true
unfolding key_value_at
pairs_real m n bytes is h = list_all-from_AllPass is_real_pair (said n (many_in pair_in) [] bytes)
    (each_real (λ p. is_real_pair p ≡ true) m n messages.KeyValue pair_in is (pair_real level_limit value_in (value_real level_limit)) bytes h).at
