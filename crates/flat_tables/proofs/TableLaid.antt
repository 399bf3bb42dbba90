-- A table as it is laid out, read again.
use Rattle.std.proofs.Common.{◌≡◌, ℕ, ◌+◌, ◌-◌, ◌*◌, ◌%◌, ◌<◌, ◌≤◌, ◌^◌, zero, suc, zero-add, false, List, ◌∷◌, ◌++◌, length, drop, get_or, Some, None, Ok, refl, sym, ap, ◌∙◌, subst, inl, inr, length-append, arith}
use Rattle.std.proofs.lemmas.Bool.{lt-ltb, le-ltb, ne_eqb, eq-eqb, cases_lt}
use Rattle.std.proofs.lemmas.Int.{ints, to_z-of_z}
use Rattle.std.proofs.lemmas.List.{get_or_past}
use Rattle.std.proofs.Math.Facts.{to_z-neg}
use Rattle.std.specs.Prelude.{ℤ, negsuc, FitsSigned}
use Rattle.std.specs.Int.{Width, w16, w32, w64, bytes_low_first, byte_at, cast_signed, cast_unsigned}
use Rattle.byteorder.specs.Endian.{little_bytes, little_number}
use Rattle.byteorder.specs.Numbers.{length-bytes_low_first}
use Rattle.flat_tables.specs.declared.place.Slot.{Slot}
use Rattle.flat_tables.specs.declared.place.Slot.TheVariants.{Absent, U8, I16, I32, I64, At}
use Rattle.flat_tables.specs.Limits.{max_slots, max_held}
use Rattle.flat_tables.specs.Bytes.{part_at, number_at, signed_at}
use Rattle.flat_tables.specs.Tables.{TableIn, table_at, vtable_at, size_at, distance_at, place_of, is_bad_size}
use Rattle.flat_tables.specs.Slots.{Reaches, AllReach, Holds, alignment}
use Rattle.flat_tables.specs.Building.{StaysAt, HasSlots}
use Rattle.flat_tables.specs.Layout.{IsSlot, bytes_of_numbers, cell, cells, vtable_entry, vtable, piece}
use Rattle.flat_tables.proofs.Lying.{Lies, lies_left, lies_right, lies_at, part_at-lies, number_at-lies, little_number-lies, numbers_lie, length-numbers}
use Rattle.flat_tables.proofs.Reaching.{reaches_at}
use Rattle.flat_tables.proofs.Adding.{Put, stands_put, referred_is}

-- a number has the same bytes at its front, however many zero bytes follow
low_first-add : (i n m x : ℕ) → bytes_low_first i (n + m) x ≡ bytes_low_first i n x ++ bytes_low_first (i + n) m x
low_first-add i zero m x = ap (λ (k : ℕ). bytes_low_first i k x) (zero-add m) ∙ ap (λ (j : ℕ). bytes_low_first j m x) (omega arith)
low_first-add i (suc n) m x =
    let k : suc n + m ≡ suc (n + m) = omega arith in
    let j : suc i + n ≡ i + suc n = omega arith in
    ap (λ (k : ℕ). bytes_low_first i k x) k ∙ ap (λ (rest : List ℕ). byte_at i x ∷ rest) (low_first-add (suc i) n m x ∙ ap (λ (j : ℕ). bytes_low_first (suc i) n x ++ bytes_low_first j m x) j)

number_in_front : (n m x : ℕ) (bytes : List ℕ) (place : ℕ) → Lies (little_bytes (n + m) x) bytes place → Lies (little_bytes n x) bytes place
number_in_front n m x bytes place l =
    lies_left (little_bytes n x) (bytes_low_first (0 + n) m x) bytes place (subst (λ (part : List ℕ). Lies part bytes place) (low_first-add 0 n m x) l)

-- a slot whose entry is in the vtable, and one whose isn't
there : (t : TableIn) (k distance : ℕ) → distance_at t k ≡ distance → 0 < distance → place_of t k ≡ Some (t.place + distance)
unfolding place_of
there t k distance e lt = rw (e, ne_eqb distance 0 (λ zero. omega arith)) refl

absent : (t : TableIn) (k : ℕ) → distance_at t k ≡ 0 → place_of t k ≡ None
unfolding place_of
absent t k e = rw e refl

past : (t : TableIn) (k : ℕ) → t.size < 6 + 2 * k → distance_at t k ≡ 0
unfolding distance_at
past t k lt = rw (lt-ltb t.size (6 + 2 * k) lt) refl

within : (t : TableIn) (k distance : ℕ) → 6 + 2 * k ≤ t.size → little_number 2 (drop (t.vtable + 4 + 2 * k) t.bytes) ≡ distance → distance_at t k ≡ distance
unfolding distance_at
within t k distance le e = rw (le-ltb t.size (6 + 2 * k) le) e

small_entry : (k : ℕ) (slot : Slot) → k ≤ max_slots → vtable_entry k slot < 256 ^ 2
small_entry k Absent le = omega arith
small_entry k (U8 n) le = omega arith
small_entry k (I16 z) le = omega arith
small_entry k (I32 z) le = omega arith
small_entry k (I64 z) le = omega arith
small_entry k (At place) le = omega arith

-- a signed number of width w, read in n bytes
signed_is : (w : Width) (n : ℕ) (z : ℤ) (bytes : List ℕ) (place : ℕ) → FitsSigned w z → number_at n bytes place ≡ Ok (cast_unsigned w z) → signed_at w n bytes place ≡ Ok z
unfolding signed_at
signed_is w n z bytes place fits e = rw e (ap Ok (to_z-of_z w z fits))

-- where a slot's cell lies, it reads as the slot
holds_there : (t : TableIn) (k from : ℕ) (slot : Slot) → distance_at t k ≡ vtable_entry k slot → from < max_held → t.place + 4 + from ≡ length t.bytes → 8 * k ≤ from
    → IsSlot slot → Reaches (from - 8 * k) slot → Lies (little_bytes 8 (cell from k slot)) t.bytes (t.place + (4 + 8 * k)) → Holds t k slot
holds_there t k from Absent e small end le fits reach l = absent t k e
holds_there t k from (U8 n) e small end le fits reach l =
    rw (there t k (4 + 8 * k) e (omega arith), number_at-lies 1 n t.bytes (t.place + (4 + 8 * k)) (omega (arith, fits)) (number_in_front 1 7 n t.bytes _ l)) refl
holds_there t k from (I16 z) e small end le fits reach l =
    let number = number_at-lies 2 (cast_unsigned w16 z) t.bytes (t.place + (4 + 8 * k)) (omega (arith, ints)) (number_in_front 2 6 (cast_unsigned w16 z) t.bytes _ l) in
    rw (there t k (4 + 8 * k) e (omega arith), signed_is w16 2 z t.bytes (t.place + (4 + 8 * k)) fits number) refl
holds_there t k from (I32 z) e small end le fits reach l =
    let number = number_at-lies 4 (cast_unsigned w32 z) t.bytes (t.place + (4 + 8 * k)) (omega (arith, ints)) (number_in_front 4 4 (cast_unsigned w32 z) t.bytes _ l) in
    rw (there t k (4 + 8 * k) e (omega arith), signed_is w32 4 z t.bytes (t.place + (4 + 8 * k)) fits number) refl
holds_there t k from (I64 z) e small end le fits reach l =
    let number = number_at-lies 8 (cast_unsigned w64 z) t.bytes (t.place + (4 + 8 * k)) (omega (arith, ints)) l in
    rw (there t k (4 + 8 * k) e (omega arith), signed_is w64 8 z t.bytes (t.place + (4 + 8 * k)) fits number) refl
holds_there t k from (At place) e small end le fits reach l =
    let to : t.place + (4 + 8 * k) + (from - 8 * k - place) ≡ length t.bytes - place = omega (arith, reach, end) in
    rw (
      there t k (4 + 8 * k) e (omega arith),
      referred_is t.bytes (t.place + (4 + 8 * k)) (from - 8 * k - place) (length t.bytes - place) (omega arith) to
          (number_in_front 4 4 (from - 8 * k - place) t.bytes _ l),
    ) refl

aligned_there : (t : TableIn) (k : ℕ) (slot : Slot) → distance_at t k ≡ vtable_entry k slot → (t.place + 4) % 8 ≡ 0 → (t.place + distance_at t k) % alignment slot ≡ 0
aligned_there t k Absent e h = omega arith
aligned_there t k (U8 n) e h = omega arith
aligned_there t k (I16 z) e h = rw e (omega arith)
aligned_there t k (I32 z) e h = rw e (omega arith)
aligned_there t k (I64 z) e h = rw e (omega arith)
aligned_there t k (At place) e h = rw e (omega arith)

-- the vtable of a table with n slots gives its size as 4 + 2 * n
good_size : (n : ℕ) → is_bad_size (4 + 2 * n) ≡ false
good_size n = rw (le-ltb (4 + 2 * n) 4 (omega arith), eq-eqb ((4 + 2 * n) % 2) 0 (omega arith)) refl

size_is : (slots : List Slot) (bytes : List ℕ) (place : ℕ) → length slots ≤ max_slots → Lies (vtable slots) bytes place → size_at bytes place ≡ Ok (4 + 2 * length slots)
unfolding size_at
size_is slots bytes place few l =
    let n = length slots in
    let sizes = little_bytes 2 (4 + 2 * n) ++ little_bytes 2 (4 + 8 * n) in
    let head : Lies sizes bytes place = lies_left sizes (bytes_of_numbers 2 vtable_entry 0 slots) bytes place l in
    let size : length (vtable slots) ≡ 4 + 2 * n = omega (arith, length-append sizes (bytes_of_numbers 2 vtable_entry 0 slots), length-numbers 2 vtable_entry 0 slots) in
    let whole : part_at bytes place (4 + 2 * n) ≡ Ok (vtable slots) = ap (part_at bytes place) (sym size) ∙ part_at-lies (vtable slots) bytes place l in
    rw (part_at-lies sizes bytes place head, number_at-lies 2 (4 + 2 * n) bytes place (omega arith) (lies_left (little_bytes 2 (4 + 2 * n)) (little_bytes 2 (4 + 8 * n)) bytes place head), good_size n, whole) refl

vtable_is : (n : ℕ) (bytes : List ℕ) (place : ℕ) → n ≤ max_slots → Lies (little_bytes 4 (2 ^ 32 - (4 + 8 * n))) bytes place → vtable_at bytes place ≡ Ok (place + (4 + 8 * n))
unfolding vtable_at signed_at
vtable_is n bytes place few l =
    let distance : cast_signed w32 (2 ^ 32 - (4 + 8 * n)) ≡ negsuc (3 + 8 * n) = ap (λ (k : ℕ). cast_signed w32 (2 ^ 32 - k)) (omega arith) ∙ to_z-neg w32 (3 + 8 * n) (omega arith) in
    rw (number_at-lies 4 (2 ^ 32 - (4 + 8 * n)) bytes place (omega arith) l, distance) (ap Ok (omega arith))

-- the distance of each slot's cell, further slots included
distance_is : (slots : List Slot) (t : TableIn) (k : ℕ) → t.size ≡ 4 + 2 * length slots → length slots ≤ max_slots
    → Lies (bytes_of_numbers 2 vtable_entry 0 slots) t.bytes (t.vtable + 4) → distance_at t k ≡ vtable_entry k (get_or slots k Absent)
distance_is slots t k size few l =
    elim (cases_lt k (length slots)) [
      | inl lt ↦
          let here : Lies (little_bytes 2 (vtable_entry (0 + k) (get_or slots k Absent))) t.bytes (t.vtable + 4 + 2 * k) = numbers_lie 2 vtable_entry 0 slots t.bytes (t.vtable + 4) k Absent lt l in
          let same : vtable_entry (0 + k) (get_or slots k Absent) ≡ vtable_entry k (get_or slots k Absent) = ap (λ (j : ℕ). vtable_entry j (get_or slots k Absent)) (zero-add k) in
          within t k (vtable_entry k (get_or slots k Absent)) (omega (arith, size))
          (little_number-lies 2 (vtable_entry (0 + k) (get_or slots k Absent)) t.bytes (t.vtable + 4 + 2 * k) (small_entry (0 + k) (get_or slots k Absent) (omega arith)) here ∙ same)
      | inr le ↦ past t k (omega (arith, size)) ∙ ap (vtable_entry k) (sym (get_or_past slots k Absent le))
    ]

-- the slots of a table that was put in front
table_put : (slots : List Slot) (from pad after : ℕ) → length slots ≤ max_slots → from ≡ after + pad + (10 * length slots + 4) → from < max_held
    → ((k : ℕ) → IsSlot (get_or slots k Absent)) → AllReach after slots → (after + (10 * length slots + 4) + pad) % 8 ≡ 0
    → (bytes : List ℕ) (at : ℕ) → Put (2 ^ 32 - (4 + 8 * length slots)) (cells from slots ++ vtable slots) pad after bytes at → HasSlots slots bytes at
unfolding table_at
table_put slots from pad after few is small fits reach padded bytes at p =
    let n = length slots in
    let t : TableIn = record { bytes = bytes; place = at; vtable = at + (4 + 8 * n); size = 4 + 2 * n } in
    let cells_size : length (cells from slots) ≡ 8 * n = length-numbers 8 (cell from) 0 slots in
    let cells_lie : Lies (cells from slots) bytes (at + 4) = lies_left (cells from slots) (vtable slots) bytes (at + 4) p.content_lies in
    let vtable_lies : Lies (vtable slots) bytes (at + (4 + 8 * n)) = lies_at (vtable slots) bytes (at + 4 + length (cells from slots)) (at + (4 + 8 * n)) (omega (arith, cells_size))
    (lies_right (cells from slots) (vtable slots) bytes (at + 4) p.content_lies) in
    let sizes = little_bytes 2 (4 + 2 * n) ++ little_bytes 2 (4 + 8 * n) in
    let four : length sizes ≡ 4 = omega (arith, length-append (little_bytes 2 (4 + 2 * n)) (little_bytes 2 (4 + 8 * n)), length-bytes_low_first 0 2 (4 + 2 * n), length-bytes_low_first 0 2 (4 + 8 * n)) in
    let entries_lie : Lies (bytes_of_numbers 2 vtable_entry 0 slots) bytes (at + (4 + 8 * n) + 4) =
    lies_at (bytes_of_numbers 2 vtable_entry 0 slots) bytes (at + (4 + 8 * n) + length sizes) (at + (4 + 8 * n) + 4) (omega (arith, four))
    (lies_right sizes (bytes_of_numbers 2 vtable_entry 0 slots) bytes (at + (4 + 8 * n)) vtable_lies) in
    let end : at + 4 + from ≡ length bytes =
    omega (arith, p.size, is, cells_size, length-append (cells from slots) (vtable slots), length-append sizes (bytes_of_numbers 2 vtable_entry 0 slots), length-numbers 2 vtable_entry 0 slots, four) in
    let distance : (k : ℕ) → distance_at t k ≡ vtable_entry k (get_or slots k Absent) = λ k. distance_is slots t k refl few entries_lie in
    record {
      vtable = at + (4 + 8 * n);
      size = 4 + 2 * n;
      read = rw (vtable_is n bytes at few p.head_lies, size_is slots bytes (at + (4 + 8 * n)) few vtable_lies) refl;
      each = λ k. elim (cases_lt k n) [
        | inl lt ↦ holds_there t k from (get_or slots k Absent) (distance k) small end (omega (arith, is)) (fits k) (reaches_at after (from - 8 * k) slots k Absent (omega (arith, is)) lt reach)
            (lies_at _ bytes (at + 4 + 8 * k) (at + (4 + 8 * k)) (omega arith) (subst (λ (j : ℕ). Lies (little_bytes 8 (cell from j (get_or slots k Absent))) bytes (at + 4 + 8 * k)) (zero-add k)
            (numbers_lie 8 (cell from) 0 slots bytes (at + 4) k Absent lt cells_lie)))
        | inr le ↦ subst (Holds t k) (sym (get_or_past slots k Absent le)) (absent t k (past t k (omega arith)))
      ];
      aligned = λ whole.
          let place : (at + 4) % 8 ≡ 0 = omega (arith, whole, p.size, end) in
          record {
            table = omega (arith, place);
            vtable = omega (arith, place);
            each = λ k. aligned_there t k (get_or slots k Absent) (distance k) place;
          };
    }

pub table_stands : (slots : List Slot) (old new : List ℕ) (from pad place : ℕ) → length slots ≤ max_slots → from ≡ length old + pad + (10 * length slots + 4) → from < max_held
    → ((k : ℕ) → IsSlot (get_or slots k Absent)) → AllReach (length old) slots → (length old + (10 * length slots + 4) + pad) % 8 ≡ 0
    → new ≡ piece (2 ^ 32 - (4 + 8 * length slots)) (cells from slots ++ vtable slots) pad ++ old → place ≡ length new → StaysAt (HasSlots slots) new place
table_stands slots old new from pad place few is small fits reach padded put here =
    stands_put (HasSlots slots) (2 ^ 32 - (4 + 8 * length slots)) (cells from slots ++ vtable slots) old new pad place put here
    (table_put slots from pad (length old) few is small fits reach padded)
