-- When a table is read, in words.
use Rattle.std.proofs.Common.{◌≡◌, ◌≢◌, ◌⊎◌, ℕ, ◌+◌, ◌%◌, ◌<◌, ◌≤◌, true, false, List, length, take, drop, Ok, Err, refl, ap, inl, inr, arith}
use Rattle.std.proofs.lemmas.Bool.{lt-ltb, le-ltb, eq-eqb, ne_eqb, cases_lt, cases_eq}
use Rattle.std.specs.Prelude.{ℤ, pos, negsuc, ◌-ℤ◌}
use Rattle.std.specs.Int.{w32, cast_signed}
use Rattle.byteorder.specs.Numbers.{little_from-take}
use Rattle.flat_tables.specs.declared.fault.FlatFault.TheVariants.{OutOfRange, BadVtable}
use Rattle.flat_tables.specs.Bytes.{part_at, number_in, number_at, signed_at}
use Rattle.flat_tables.specs.Tables.{is_bad_size, table_at, vtable_at, size_at}
use Rattle.flat_tables.specs.Words.{NamesVtable, IsTableAt, HasBadVtable}

-- a part lies in the bytes, or it doesn't
pub lies_part : (bytes : List ℕ) (place n : ℕ) → place + n ≤ length bytes → part_at bytes place n ≡ Ok (take n (drop place bytes))
unfolding part_at
lies_part bytes place n le = rw (le-ltb (length bytes) (place + n) le) refl

part_out : (bytes : List ℕ) (place n : ℕ) → length bytes < place + n → part_at bytes place n ≡ Err OutOfRange
unfolding part_at
part_out bytes place n lt = rw (lt-ltb (length bytes) (place + n) lt) refl

number_is : (n : ℕ) (bytes : List ℕ) (place : ℕ) → place + n ≤ length bytes → number_at n bytes place ≡ Ok (number_in n bytes place)
unfolding number_at
number_is n bytes place le = rw (lies_part bytes place n le) (ap Ok (little_from-take 0 n n (drop place bytes) (omega arith)))

number_out : (n : ℕ) (bytes : List ℕ) (place : ℕ) → length bytes < place + n → number_at n bytes place ≡ Err OutOfRange
unfolding number_at
number_out n bytes place lt = rw (part_out bytes place n lt) refl

-- the vtable that is named, and its size
names : (bytes : List ℕ) (place vtable : ℕ) → NamesVtable bytes place vtable → vtable_at bytes place ≡ Ok vtable
unfolding vtable_at signed_at
names bytes place vtable h = rw (number_is 4 bytes place h.distance, h.named) refl

good : (n : ℕ) → 4 ≤ n → n % 2 ≡ 0 → is_bad_size n ≡ false
good n le even = rw (le-ltb n 4 le, eq-eqb (n % 2) 0 even) refl

bad : (n : ℕ) → (n < 4) ⊎ (n % 2 ≢ 0) → is_bad_size n ≡ true
bad n (inl lt) = rw (lt-ltb n 4 lt) refl
bad n (inr odd) = elim (cases_lt n 4) [
  | inl lt ↦ rw (lt-ltb n 4 lt) refl
  | inr le ↦ rw (le-ltb n 4 le, ne_eqb (n % 2) 0 odd) refl
]

good_size : (bytes : List ℕ) (vtable size : ℕ) → vtable + 4 ≤ length bytes → number_in 2 bytes vtable ≡ size → 4 ≤ size → size % 2 ≡ 0 → vtable + size ≤ length bytes → size_at bytes vtable ≡ Ok size
unfolding size_at
good_size bytes vtable size head is least even whole =
    rw (lies_part bytes vtable 4 head, number_is 2 bytes vtable (omega arith), is, good size least even, lies_part bytes vtable size whole) refl

bad_size : (bytes : List ℕ) (vtable : ℕ) → vtable + 4 ≤ length bytes → (number_in 2 bytes vtable < 4) ⊎ (number_in 2 bytes vtable % 2 ≢ 0) → size_at bytes vtable ≡ Err BadVtable
unfolding size_at
bad_size bytes vtable head h =
    rw (lies_part bytes vtable 4 head, number_is 2 bytes vtable (omega arith), bad (number_in 2 bytes vtable) h) refl

pub table_is : (bytes : List ℕ) (place vtable size : ℕ) → IsTableAt bytes place vtable size → table_at bytes place ≡ Ok (record { bytes = bytes; place = place; vtable = vtable; size = size })
unfolding table_at
table_is bytes place vtable size h =
    rw (names bytes place vtable h.names, good_size bytes vtable size h.names.head h.is h.least h.even h.whole) refl

pub bad_vtable : (bytes : List ℕ) (place : ℕ) → HasBadVtable bytes place → table_at bytes place ≡ Err BadVtable
unfolding table_at
bad_vtable bytes place h = rw (names bytes place h.vtable h.names, bad_size bytes h.vtable h.names.head h.bad) refl

-- the size of a vtable that isn't good is bad, or the vtable ends too late
size_out : (bytes : List ℕ) (place vtable : ℕ) → NamesVtable bytes place vtable → ((v size : ℕ) → IsTableAt bytes place v size → ⊥) → (HasBadVtable bytes place → ⊥)
    → size_at bytes vtable ≡ Err OutOfRange
unfolding size_at
size_out bytes place vtable h no_table no_bad =
    let size = number_in 2 bytes vtable in
    elim (cases_lt size 4) [
      | inl lt ↦ absurd (no_bad (record { vtable = vtable; names = h; bad = inl lt }))
      | inr least ↦ elim (cases_eq (size % 2) 0) [
        | inr odd ↦ absurd (no_bad (record { vtable = vtable; names = h; bad = inr odd }))
        | inl even ↦ elim (cases_lt (length bytes) (vtable + size)) [
          | inl lt ↦ rw (lies_part bytes vtable 4 h.head, number_is 2 bytes vtable (omega (arith, h.head)), good size least even, part_out bytes vtable size lt) refl
          | inr whole ↦ absurd (no_table vtable size (record { names = h; is = refl; least = least; even = even; whole = whole }))
        ]
      ]
    ]

-- no vtable is named, or its first four bytes don't lie in the bytes
head_out : (bytes : List ℕ) (vtable : ℕ) → length bytes < vtable + 4 → size_at bytes vtable ≡ Err OutOfRange
unfolding size_at
head_out bytes vtable lt = rw (part_out bytes vtable 4 lt) refl

from_named : (bytes : List ℕ) (place : ℕ) (z : ℤ) → place + 4 ≤ length bytes → pos place -ℤ cast_signed w32 (number_in 4 bytes place) ≡ z
    → ((v size : ℕ) → IsTableAt bytes place v size → ⊥) → (HasBadVtable bytes place → ⊥) → table_at bytes place ≡ Err OutOfRange
unfolding table_at vtable_at signed_at
from_named bytes place (negsuc n) distance named no_table no_bad = rw (number_is 4 bytes place distance, named) refl
from_named bytes place (pos vtable) distance named no_table no_bad =
    let out : size_at bytes vtable ≡ Err OutOfRange = elim (cases_lt (length bytes) (vtable + 4)) [
      | inl lt ↦ head_out bytes vtable lt
      | inr head ↦ size_out bytes place vtable (record { distance = distance; named = named; head = head }) no_table no_bad
    ] in
    rw (number_is 4 bytes place distance, named, out) refl

pub neither_is : (bytes : List ℕ) (place : ℕ) → ((v size : ℕ) → IsTableAt bytes place v size → ⊥) → (HasBadVtable bytes place → ⊥) → table_at bytes place ≡ Err OutOfRange
unfolding table_at vtable_at signed_at
neither_is bytes place no_table no_bad = elim (cases_lt (length bytes) (place + 4)) [
  | inl lt ↦ rw (number_out 4 bytes place lt) refl
  | inr le ↦ from_named bytes place (pos place -ℤ cast_signed w32 (number_in 4 bytes place)) le refl no_table no_bad
]
