-- The fields of bytes take up no more than the bytes, and what is read of a field weighs at most sixteen for each byte that it takes up.
use Rattle.std.proofs.Common.{◌≡◌, ℕ, ◌+◌, ◌*◌, ◌≤◌, List, [], ◌∷◌, length, Bool, true, refl, ap, arith, length-append, inl, inr, sym, ◌∙◌, true≢false}
use Rattle.std.specs.Prelude.{fold, nat_lt, not, ◌&&◌, if◌then◌else◌, Option}
use Rattle.std.proofs.lemmas.Bool.{cases_eq, cases_lt, ne_eqb, eq-eqb, lt-ltb, le-ltb, and_parts}
use Rattle.otlp_wire.specs.declared.parts.WireError.{WireError}
use Rattle.otlp_wire.specs.Wire as wire
use Rattle.otlp_wire.specs.Wire.{FieldValue, Entry, IsValue, IsField}
use Rattle.otlp_wire.specs.Reading.{Reads}
use Rattle.otlp_wire.specs.Fields.{fields_of, end_of}
use Rattle.otlp_wire.proofs.FieldsOf.{fields_of-reads}
use Rattle.otlp_messages.specs.Rows.{only, said, at, bytes_in, embedded_in, many_in}
use Rattle.otlp_model.specs.Weight.{total}
use Rattle.otlp_model.proofs.Totals.{total_append}

-- what a field takes up at least: its tag, and the length and the bytes of a part
abbrev pub room : FieldValue → ℕ
room (wire.Bytes part) = length part + 2
room value = 1

abbrev rooms : List FieldValue → ℕ
rooms [] = 0
rooms (v ∷ vs) = room v + rooms vs

value_room : (bytes : List ℕ) (v : FieldValue) → IsValue bytes v → room v ≤ length bytes + 1
value_room bytes (wire.Varint n) is = omega arith
value_room bytes (wire.Fixed64 n) is = omega arith
value_room bytes (wire.Bytes part) is = omega (arith, ap length is.2, length-append is.0 part, is.1.size)
value_room bytes (wire.Fixed32 n) is = omega arith

field_room : (front : List ℕ) (f : Entry) → IsField front f → room f.value ≤ length front
field_room front f is = omega (arith, ap length is.whole, length-append is.tag is.value, is.is_tag.size, value_room is.value f.value is.is_value)

abbrev pub above : ℕ → List Entry → ℕ
above k [] = 0
above k (f ∷ fs) = (if nat_lt f.number k then 0 else room f.value) + above k fs

abbrev pub all_rooms : List Entry → ℕ
all_rooms [] = 0
all_rooms (f ∷ fs) = room f.value + all_rooms fs

reads_rooms : (fs : List Entry) (bytes : List ℕ) (end : Option WireError) → Reads bytes fs end → all_rooms fs ≤ length bytes
reads_rooms [] bytes end reads = omega arith
reads_rooms (f ∷ fs) bytes end reads =
    let rest = reads.0 in
    let front = reads.1.0 in
    omega (arith, reads_rooms fs rest end reads.2, field_room front f reads.1.2, ap length reads.1.1, length-append front rest)

pub rooms_of : (bytes : List ℕ) → all_rooms (fields_of bytes) ≤ length bytes
rooms_of bytes = reads_rooms (fields_of bytes) bytes (end_of bytes) (fields_of-reads bytes)

above_none : (fs : List Entry) → above 0 fs ≤ all_rooms fs
above_none [] = omega arith
above_none (f ∷ fs) = (let rest = above_none fs in rw (le-ltb f.number 0 (omega arith)) (omega (arith, rest)))

only_above : (k n : ℕ) (fs : List Entry) → k ≤ n → rooms (only n fs) + above (n + 1) fs ≤ above k fs
only_above k n [] low = omega arith
only_above k n (f ∷ fs) low =
    let rest = only_above k n fs low in
    elim (cases_eq f.number n) [
      | inl same ↦ rw (eq-eqb f.number n same) (rw (lt-ltb f.number (n + 1) (omega (arith, same))) (rw (le-ltb f.number k (omega (arith, same, low))) (omega (arith, rest))))
      | inr other ↦ rw (ne_eqb f.number n other) (elim (cases_lt f.number (n + 1)) [
        | inl small ↦ rw (lt-ltb f.number (n + 1) small) (omega (arith, rest))
        | inr large ↦ rw (le-ltb f.number (n + 1) large) (rw (le-ltb f.number k (omega (arith, large, low))) (omega (arith, rest)))
      ])
    ]

-- what the fields of a number take up
unfoldable pub taken : ℕ → List ℕ → ℕ
taken n bytes = rooms (only n (fields_of bytes))

-- what the fields take up whose numbers are not below this one
unfoldable pub left : ℕ → List ℕ → ℕ
left k bytes = above k (fields_of bytes)

abbrev pub ascends : ℕ → List ℕ → Bool
ascends k [] = true
ascends k (n ∷ ns) = not (nat_lt n k) && ascends (n + 1) ns

-- what the fields of these numbers, which ascend, and of those above them take up
abbrev pub all_taken : ℕ → List ℕ → List ℕ → ℕ
all_taken k [] bytes = left k bytes
all_taken k (n ∷ ns) bytes = taken n bytes + all_taken (n + 1) ns bytes

taken_above : (k : ℕ) (ns bytes : List ℕ) → ascends k ns ≡ true → all_taken k ns bytes ≤ above k (fields_of bytes)
unfolding taken left
taken_above k [] bytes up = omega arith
taken_above k (n ∷ ns) bytes up =
    let parts = and_parts (not (nat_lt n k)) (ascends (n + 1) ns) up in
    elim (cases_lt n k) [
      | inl small ↦ absurd (true≢false (sym parts.0 ∙ ap not (lt-ltb n k small)))
      | inr large ↦ omega (arith, only_above k n (fields_of bytes) large, taken_above (n + 1) ns bytes parts.1)
    ]

-- that is no more than the bytes
pub all_within : (ns bytes : List ℕ) → ascends 0 ns ≡ true → all_taken 0 ns bytes ≤ length bytes
all_within ns bytes up = omega (arith, taken_above 0 ns bytes up, above_none (fields_of bytes), rooms_of bytes)

-- what a reader adds weighs at most sixteen for each byte of the field
abbrev pub Light : {A : Type 0} → (A → ℕ) → (A → FieldValue → A) → Type 0
Light {A = A} weigh read = (old : A) (v : FieldValue) → weigh (read old v) ≤ weigh old + 16 * room v

fold_light : {A : Type 0} (weigh : A → ℕ) (read : A → FieldValue → A) → Light weigh read → (old : A) (vs : List FieldValue) → weigh (fold read old vs) ≤ weigh old + 16 * rooms vs
fold_light weigh read light old [] = omega arith
fold_light weigh read light old (v ∷ vs) = omega (arith, fold_light weigh read light (read old v) vs, light old v)

pub said_light : {A : Type 0} (weigh : A → ℕ) (read : A → FieldValue → A) (none : A) → Light weigh read → weigh none ≡ 0 → (n : ℕ) (bytes : List ℕ) → weigh (said n read none bytes) ≤ 16 * taken n bytes
unfolding taken
said_light weigh read none light empty n bytes = omega (arith, fold_light weigh read light none (only n (fields_of bytes)), empty)

-- a text or bytes
light_bytes : Light length bytes_in
light_bytes old (wire.Bytes part) = omega arith
light_bytes old (wire.Varint n) = omega arith
light_bytes old (wire.Fixed64 n) = omega arith
light_bytes old (wire.Fixed32 n) = omega arith

pub bytes_light : (n : ℕ) (bytes : List ℕ) → length (said n bytes_in [] bytes) ≤ 16 * taken n bytes
bytes_light n bytes = said_light length bytes_in [] light_bytes refl n bytes

-- the bytes of a message that occurs once
fold_part : (old : List ℕ) (vs : List FieldValue) → length (fold bytes_in old vs) ≤ length old + rooms vs
fold_part old [] = omega arith
fold_part old (wire.Bytes part ∷ vs) = omega (arith, fold_part part vs)
fold_part old (wire.Varint n ∷ vs) = omega (arith, fold_part old vs)
fold_part old (wire.Fixed64 n ∷ vs) = omega (arith, fold_part old vs)
fold_part old (wire.Fixed32 n ∷ vs) = omega (arith, fold_part old vs)

pub part_within : (n : ℕ) (bytes : List ℕ) → length (said n bytes_in [] bytes) ≤ taken n bytes
unfolding taken
part_within n bytes = omega (arith, fold_part [] (only n (fields_of bytes)))

-- a message that weighs at most sixteen for each of its bytes
abbrev pub LightPart : {A : Type 0} → (A → ℕ) → (List ℕ → A) → Type 0
LightPart weigh read = (part : List ℕ) → weigh (read part) ≤ 16 * length part

light_embedded : {A : Type 0} (weigh : A → ℕ) (read : List ℕ → A) → LightPart weigh read → Light weigh (embedded_in read)
light_embedded weigh read light old (wire.Bytes part) = omega (arith, light part)
light_embedded weigh read light old (wire.Varint n) = omega arith
light_embedded weigh read light old (wire.Fixed64 n) = omega arith
light_embedded weigh read light old (wire.Fixed32 n) = omega arith

pub embedded_light : {A : Type 0} (weigh : A → ℕ) (read : List ℕ → A) (none : A) → LightPart weigh read → weigh none ≡ 0 → (n : ℕ) (bytes : List ℕ) → weigh (said n (embedded_in read) none bytes) ≤ 16 * taken n bytes
embedded_light weigh read none light empty n bytes = said_light weigh (embedded_in read) none (light_embedded weigh read light) empty n bytes

-- messages that occur any number of times, where each adds at most 32
light_many : {A : Type 0} (each : ℕ) (weigh : A → ℕ) (read : List ℕ → A) → each ≤ 32 → LightPart weigh read → Light (total each weigh) (many_in read)
light_many each weigh read few light old (wire.Bytes part) = omega (arith, few, light part, total_append each weigh old (read part ∷ []))
light_many each weigh read few light old (wire.Varint n) = omega arith
light_many each weigh read few light old (wire.Fixed64 n) = omega arith
light_many each weigh read few light old (wire.Fixed32 n) = omega arith

pub many_light : {A : Type 0} (each : ℕ) (weigh : A → ℕ) (read : List ℕ → A) → each ≤ 32 → LightPart weigh read → (n : ℕ) (bytes : List ℕ) → total each weigh (said n (many_in read) [] bytes) ≤ 16 * taken n bytes
many_light each weigh read few light n bytes = said_light (total each weigh) (many_in read) [] (light_many each weigh read few light) refl n bytes
