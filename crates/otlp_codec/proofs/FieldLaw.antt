-- What holds of a field, by its kind: its row fits the table, reads back, and is short. A tag below 2^11 takes two bytes at most.
use Rattle.std.proofs.Common.{◌≡◌, ℕ, ◌+◌, ◌*◌, ◌^◌, ◌<◌, ◌≤◌, List, [], ◌∷◌, ◌++◌, map, length, Bool, true, false, refl, arith, length-append, inl, inr, ℤ, pos}
use Rattle.std.specs.Prelude.{nat_lt, FitsSigned, IsTrue}
use Rattle.std.specs.Int.{w32, w64, cast_unsigned}
use Rattle.std.specs.List.{AllByRecursion}
use Rattle.std.proofs.lemmas.Bool.{cases_eq, ne_eqb, eq-eqb, ltb-true}
use Rattle.byteorder.specs.Endian.{little_bytes}
use Rattle.byteorder.specs.Numbers.{length-bytes_low_first}
use Rattle.otlp_wire.specs.Varint.{varint}
use Rattle.otlp_wire.proofs.Shortest.{ten_at_most, length_varint}
use Rattle.otlp_wire.specs.Wire as wire
use Rattle.otlp_messages.specs.declared.messages.Message.{Message}
use Rattle.otlp_messages.specs.declared.messages.FieldKind.TheVariants as kinds
use Rattle.otlp_codec.specs.Limits.{level_limit}
use Rattle.otlp_messages.specs.Table.{kind_of, mark_of}
use Rattle.otlp_messages.specs.Rows.{fixed64_in, fixed32_in, uint32_in, int32_in, bool_in, bytes_in, embedded_in, many_in}
use Rattle.otlp_messages.specs.Canon.{canon_row, varint_row, signed_row, bool_row, fixed64_row, fixed32_row, bytes_row, many_row}
use Rattle.otlp_messages.proofs.RowKinds.{varint_fits, signed_fits, bool_fits, fixed64_fits, fixed32_fits, part_fits, uint32_back, int32_back, bool_back, fixed64_back, fixed32_back, bytes_back, embedded_back}
use Rattle.lists.specs.Bytes.{is_real_text}
use Rattle.otlp_model.specs.Profile.{is_id_of}
use Rattle.otlp_model.specs.Limits.{weight_limit}
use Rattle.otlp_model.specs.Weight.{total}
use Rattle.lists.proofs.RealBytes.{utf8_of_real}
use Rattle.lists.proofs.Every.{every_weaker}
use Rattle.lists.proofs.Numbers.{wider, unsigned_small}
use Rattle.otlp_codec.proofs.Chain.{Held, Law}
use Rattle.otlp_codec.proofs.Lists.{all_both}
use Rattle.otlp_codec.proofs.Returning.{Returns, each_returned, returned_fits, returned_back, in_row, id_length}

-- how long fields are
tag_short : (n t : ℕ) → nat_lt n 2048 ≡ true → t < 8 → length (varint (8 * n + t)) ≤ 2
tag_short n t low type = (let below = ltb-true n 2048 low in length_varint 1 (8 * n + t) (omega arith))

pub part_short : (n : ℕ) (part : List ℕ) → nat_lt n 2048 ≡ true → length part < 2 ^ 64 → length (canon_row n (wire.Bytes part ∷ [])) ≤ 12 + length part
part_short n part low short =
    let whole : length ((varint (8 * n + 2) ++ (varint (length part) ++ part)) ++ []) ≡ (length (varint (8 * n + 2)) + (length (varint (length part)) + length part)) + 0 = simp length-append refl in
    omega (arith, whole, tag_short n 2 low (omega arith), ten_at_most (length part) short)

pub bytes_short : (n : ℕ) (part : List ℕ) → nat_lt n 2048 ≡ true → length part < 2 ^ 64 → length (canon_row n (bytes_row part)) ≤ 12 + length part
bytes_short n [] low short = omega arith
bytes_short n (byte ∷ part) low short = part_short n (byte ∷ part) low short

pub varint_short : (n x : ℕ) → nat_lt n 2048 ≡ true → x < 2 ^ 64 → length (canon_row n (wire.Varint x ∷ [])) ≤ 12
varint_short n x low fits =
    let whole : length ((varint (8 * n + 0) ++ varint x) ++ []) ≡ (length (varint (8 * n + 0)) + length (varint x)) + 0 = simp length-append refl in
    omega (arith, whole, tag_short n 0 low (omega arith), ten_at_most x fits)

pub fixed64_short : (n x : ℕ) → nat_lt n 2048 ≡ true → length (canon_row n (wire.Fixed64 x ∷ [])) ≤ 10
fixed64_short n x low =
    let whole : length ((varint (8 * n + 1) ++ little_bytes 8 x) ++ []) ≡ (length (varint (8 * n + 1)) + length (little_bytes 8 x)) + 0 = simp length-append refl in
    omega (arith, whole, tag_short n 1 low (omega arith), length-bytes_low_first 0 8 x)

fixed32_short : (n x : ℕ) → nat_lt n 2048 ≡ true → length (canon_row n (wire.Fixed32 x ∷ [])) ≤ 6
fixed32_short n x low =
    let whole : length ((varint (8 * n + 5) ++ little_bytes 4 x) ++ []) ≡ (length (varint (8 * n + 5)) + length (little_bytes 4 x)) + 0 = simp length-append refl in
    omega (arith, whole, tag_short n 5 low (omega arith), length-bytes_low_first 0 4 x)

varint_row_short : (n x : ℕ) → nat_lt n 2048 ≡ true → x < 2 ^ 64 → length (canon_row n (varint_row x)) ≤ 12
varint_row_short n x low fits =
    elim (cases_eq x 0) [ inl none ↦ rw (eq-eqb x 0 none) (omega arith) | inr some ↦ rw (ne_eqb x 0 some) (varint_short n x low fits) ]

fixed64_row_short : (n x : ℕ) → nat_lt n 2048 ≡ true → length (canon_row n (fixed64_row x)) ≤ 10
fixed64_row_short n x low =
    elim (cases_eq x 0) [ inl none ↦ rw (eq-eqb x 0 none) (omega arith) | inr some ↦ rw (ne_eqb x 0 some) (fixed64_short n x low) ]

fixed32_row_short : (n x : ℕ) → nat_lt n 2048 ≡ true → length (canon_row n (fixed32_row x)) ≤ 6
fixed32_row_short n x low =
    elim (cases_eq x 0) [ inl none ↦ rw (eq-eqb x 0 none) (omega arith) | inr some ↦ rw (ne_eqb x 0 some) (fixed32_short n x low) ]

-- numbers
pub uint32_held : {P : Type 0} (m : Message) (n x : ℕ) → kind_of m n ≡ kinds.Varint → nat_lt n 2048 ≡ true → x < 2 ^ 32 → Held P m level_limit n uint32_in 0 x (varint_row x) 0 12
uint32_held m n x is low small = record {
  back = λ p short. (varint_fits m level_limit n x is (omega (arith, small)), uint32_back x small);
  bound = λ few. omega (arith, varint_row_short n x low (omega (arith, small)));
}

pub int32_held : {P : Type 0} (m : Message) (n : ℕ) (z : ℤ) → kind_of m n ≡ kinds.Varint → nat_lt n 2048 ≡ true → FitsSigned w32 z → Held P m level_limit n int32_in (pos 0) z (signed_row z) 0 12
int32_held m n z is low fits = record {
  back = λ p short. (signed_fits m level_limit n z is (wider z fits), int32_back z fits);
  bound = λ few. omega (arith, varint_row_short n (cast_unsigned w64 z) low (unsigned_small z (wider z fits)));
}

bool_row_short : (n : ℕ) (b : Bool) → nat_lt n 2048 ≡ true → length (canon_row n (bool_row b)) ≤ 12
bool_row_short n true low = varint_short n 1 low (omega arith)
bool_row_short n false low = omega arith

pub bool_held : {P : Type 0} (m : Message) (n : ℕ) (b : Bool) → kind_of m n ≡ kinds.Varint → nat_lt n 2048 ≡ true → Held P m level_limit n bool_in false b (bool_row b) 0 12
bool_held m n b is low = record { back = λ p short. (bool_fits m level_limit n b is, bool_back b); bound = λ few. omega (arith, bool_row_short n b low) }

pub fixed64_held : {P : Type 0} (m : Message) (n x : ℕ) → kind_of m n ≡ kinds.Fixed64 → nat_lt n 2048 ≡ true → x < 2 ^ 64 → Held P m level_limit n fixed64_in 0 x (fixed64_row x) 0 10
fixed64_held m n x is low small = record {
  back = λ p short. (fixed64_fits m level_limit n x is small, fixed64_back x);
  bound = λ few. omega (arith, fixed64_row_short n x low);
}

pub fixed32_held : {P : Type 0} (m : Message) (n x : ℕ) → kind_of m n ≡ kinds.Fixed32 → nat_lt n 2048 ≡ true → x < 2 ^ 32 → Held P m level_limit n fixed32_in 0 x (fixed32_row x) 0 6
fixed32_held m n x is low small = record {
  back = λ p short. (fixed32_fits m level_limit n x is small, fixed32_back x);
  bound = λ few. omega (arith, fixed32_row_short n x low);
}

-- a text, an id, and a message that occurs once
pub text_held : {P : Type 0} (m : Message) (n : ℕ) (text : List ℕ) → kind_of m n ≡ kinds.Text → nat_lt n 2048 ≡ true → IsTrue (is_real_text text)
    → Held P m level_limit n bytes_in [] text (bytes_row text) (length text) 12
text_held m n text is low real = record {
  back = λ p short. (part_fits m level_limit n text (λ _. rw is (utf8_of_real text real)), bytes_back text);
  bound = λ few. omega (arith, bytes_short n text low (omega (arith, few)));
}

pub id_held : {P : Type 0} (m : Message) (n size : ℕ) (id : List ℕ) → kind_of m n ≡ kinds.Id size → nat_lt n 2048 ≡ true → (P → IsTrue (is_id_of size id))
    → Held P m level_limit n bytes_in [] id (bytes_row id) (length id) 12
id_held m n size id is low sized = record {
  back = λ p short. (part_fits m level_limit n id (λ _. rw is (id_length size id (sized p))), bytes_back id);
  bound = λ few. omega (arith, bytes_short n id low (omega (arith, few)));
}

pub embedded_held : {A P : Type 0} (m : Message) (n : ℕ) (item : Message) (read : List ℕ → A) (write : A → List ℕ) {none x : A} {w e : ℕ} → kind_of m n ≡ kinds.Embedded item → nat_lt n 2048 ≡ true
    → Law P item level_limit read write x w e → none ≡ read [] → nat_lt e 4096 ≡ true → Held P m level_limit n (embedded_in read) none x (bytes_row (write x)) w (e + 12)
embedded_held m n item read write {none = none} {x = x} is low law empty light = record {
  back = λ p short.
      let inner = law.back p (omega (arith, short, in_row n (write x))) in
      (part_fits m level_limit n (write x) (λ _. rw is inner.0), embedded_back read none x (write x) empty inner.1);
  bound = λ few. omega (arith, law.bound few, few, ltb-true _ _ light, bytes_short n (write x) low (omega (arith, law.bound few, few, ltb-true _ _ light)));
}

-- a message of little weight is written in few bytes: eight for each unit, and e more
pub record IsShortFor {A : Type 0} (write : A → List ℕ) (weigh : A → ℕ) (e : ℕ) (x : A) : Type 0 where
  pub at : weigh x ≤ weight_limit → length (write x) ≤ 8 * weigh x + e

-- messages that occur any number of times: what each weighs for itself has room for its tag and its length
pub many_short : {A : Type 0} (write : A → List ℕ) (each : ℕ) (weigh : A → ℕ) (n e : ℕ) (xs : List A) → nat_lt n 2048 ≡ true → nat_lt (e + 12) (8 * each + 1) ≡ true → nat_lt each 4096 ≡ true
    → AllByRecursion (IsShortFor write weigh e) xs → total each weigh xs ≤ weight_limit → length (canon_row n (many_row (map write xs))) ≤ 8 * total each weigh xs
many_short write each weigh n e [] low light below all few = omega arith
many_short write each weigh n e (x ∷ xs) low light below all few =
    let rest = many_short write each weigh n e xs low light below all.1 (omega (arith, few)) in
    let here = all.0.at (omega (arith, few)) in
    let room = ltb-true (e + 12) (8 * each + 1) light in
    let tag = varint (8 * n + 2) in
    let size = varint (length (write x)) in
    let others = canon_row n (many_row (map write xs)) in
    let whole : length ((tag ++ (size ++ write x)) ++ others) ≡ (length tag + (length size + length (write x))) + length others = simp length-append refl in
    omega (arith, whole, here, rest, few, room, tag_short n 2 low (omega arith), ten_at_most (length (write x)) (omega (arith, here, few, room, ltb-true each 4096 below)))

pub many_held : {A P : Type 0} (Q : A → Type 0) (m : Message) (n : ℕ) (item : Message) (read : List ℕ → A) (write : A → List ℕ) (each : ℕ) (weigh : A → ℕ) (e : ℕ) (xs : List A)
    → kind_of m n ≡ kinds.Embedded item → mark_of m n ≡ 0 → nat_lt n 2048 ≡ true → nat_lt (e + 12) (8 * each + 1) ≡ true → nat_lt each 4096 ≡ true
    → AllByRecursion (λ x. Law (Q x) item level_limit read write x (weigh x) e) xs → (P → AllByRecursion Q xs)
    → Held P m level_limit n (many_in read) [] xs (many_row (map write xs)) (total each weigh xs) 0
many_held Q m n item read write each weigh e xs is unmarked low light below laws profile = record {
  back = λ p short.
      let returns = every_weaker (λ x. Law (Q x) item level_limit read write x (weigh x) e × Q x) (Returns item level_limit read write) (λ x h. record { at = h.0.back h.1 }) xs
      (all_both (λ x. Law (Q x) item level_limit read write x (weigh x) e) Q xs laws (profile p)) in
      let returned = each_returned item level_limit read write n xs returns short in
      (returned_fits m level_limit n item level_limit read write xs unmarked (λ part fine. rw is fine) returned, returned_back item level_limit read write xs returned);
  bound = λ few.
      let bounds = every_weaker (λ x. Law (Q x) item level_limit read write x (weigh x) e) (IsShortFor write weigh e) (λ x h. record { at = h.bound }) xs laws in
      omega (arith, many_short write each weigh n e xs low light below bounds few);
}
