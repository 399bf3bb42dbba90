-- A column without cells, and one that ends.
use Rattle.std.proofs.Common.{◌≡◌, ℕ, ◌+◌, ◌*◌, ◌/◌, ◌≤◌, ◌==◌, ◌&&◌, false, pos, List, [], length, Ok, refl, sym, ap, ◌∙◌, inl, inr, arith}
use Rattle.std.proofs.lemmas.Bool.{cases_eq, cond-false, ne_eqb, le-ltb, and_right}
use Rattle.std.proofs.Math.Nat.{zero-div, zero-mod}
use Rattle.arrow_buffers.specs.declared.width.Width.{Width}
use Rattle.arrow_buffers.specs.declared.width.Width.TheVariants.{Bit, Fixed, Var}
use Rattle.arrow_buffers.specs.declared.width.Width.TheVariants as width
use Rattle.arrow_buffers.specs.Bits.{bits_of, validity_of}
use Rattle.arrow_buffers.specs.Fixed.{fixed_of}
use Rattle.arrow_buffers.specs.Offsets.{offset_at, offsets_check}
use Rattle.arrow_buffers.specs.Lists.{lists_of}
use Rattle.arrow_buffers.specs.Vars.{vars_of}
use Rattle.arrow_buffers.specs.Packed.{IsPacked}
use Rattle.arrow_buffers.specs.Flags.{HasFlags}
use Rattle.arrow_buffers.specs.Columns.{HasElementSize, HasNoFault, cells_of, offsets_len, validity_len, values_len, ended, ended_offsets}
use Rattle.arrow_buffers.specs.Building.{HasSpans, HasValueForEach, IsBuilt}
use Rattle.arrow_buffers.proofs.BitPlaces.{bit_at-past}
use Rattle.arrow_buffers.proofs.Placing.{length-ended, offset_at-end}
use Rattle.arrow_buffers.proofs.Spans.{fine-from}
use Rattle.arrow_buffers.proofs.Growing.{nulls-le}

-- no bits
packed-none : IsPacked 0 []
packed-none = record { len = refl; spare = λ k _. bit_at-past [] k (omega arith) }

-- no rows, and the one offset
spans-none : (element : ℕ) → 1 ≤ element → HasSpans element 0 [] []
spans-none element some =
    let none : 0 / element ≡ 0 = zero-div element in
    let first : offset_at (ended element [] []) 0 ≡ 0 = rw none (offset_at-end [] 0 0 refl (omega arith)) in
    record {
      offsets_len = refl;
      whole = zero-mod element;
      fits = omega arith;
      fine = rw first (fine-from 0 0 element 0 (record { fits = omega arith; order = omega arith; within = omega arith }));
    }

values-none : (width : Width) → HasElementSize width → HasValueForEach width 0 [] []
values-none Bit some = (refl, packed-none)
values-none (Fixed width) some = (refl, omega arith)
values-none Var some = spans-none 1 (omega arith)
values-none (width.List element) some = (some, spans-none element some)

lengths-none : (width : Width) → 0 ≡ values_len width []
lengths-none Bit = refl
lengths-none (Fixed width) = omega arith
lengths-none Var = refl
lengths-none (width.List element) = refl

pub built-none : (width : Width) → HasElementSize width → IsBuilt width 0 0 [] [] []
unfolding cells_of
built-none width some = record {
  few = omega arith;
  flags = record { none = λ _. refl; some = λ some. absurd (omega arith) };
  stored = values-none width some;
  lengths = lengths-none width;
  counted = refl;
}

-- the bitmap of a column that ends
pub bitmap-ends : (width : Width) (rows nulls : ℕ) (bitmap offsets values : List ℕ) → IsBuilt width rows nulls bitmap offsets values
    → validity_of bitmap rows (pos nulls) ≡ Ok (record { bytes = bitmap; rows = rows })
unfolding validity_of bits_of
bitmap-ends width rows nulls bitmap offsets values built =
    let le = nulls-le width rows nulls bitmap offsets values built in
    elim (cases_eq nulls 0) [
      | inl none ↦ rw (built.flags.none none, none) refl
      | inr some ↦
          let len = (built.flags.some (omega arith)).len in
          rw (ne_eqb (length bitmap) 0 (omega arith), le-ltb (length bitmap * 8) rows (omega arith)) refl
    ]

pub bitmap-len : (nulls rows : ℕ) (bitmap : List ℕ) → HasFlags nulls rows bitmap → length bitmap ≡ validity_len nulls rows
bitmap-len nulls rows bitmap flags =
    elim (cases_eq nulls 0) [
      | inl none ↦ rw (flags.none none, none) refl
      | inr some ↦ (flags.some (omega arith)).len ∙ sym (cond-false (nulls == 0) 0 ((rows + 7) / 8) (ne_eqb nulls 0 some))
    ]

-- offsets that end here have no fault
spans-fine : (element rows : ℕ) (offsets values : List ℕ) → HasSpans element rows offsets values → offsets_check element (ended element offsets values) values rows ≡ Ok tt
unfolding offsets_check
spans-fine element rows offsets values has =
    let all = ended element offsets values in
    let was = has.offsets_len in
    let len : length all ≡ 4 * (rows + 1) = omega (arith, length-ended element offsets values) in
    let some : (rows == 0 && length all == 0) ≡ false = and_right (rows == 0) (length all == 0) (ne_eqb (length all) 0 (omega arith)) in
    rw (some, le-ltb (length all) (4 * (rows + 1)) (omega arith), has.fine) refl

-- what is stored has no fault
pub no-fault : (width : Width) (rows : ℕ) (offsets values : List ℕ) → HasValueForEach width rows offsets values → HasNoFault width (ended_offsets width offsets values) values rows
unfolding bits_of fixed_of vars_of lists_of
no-fault Bit rows offsets values has = let len = has.1.len in rw (le-ltb (length values * 8) rows (omega arith)) refl
no-fault (Fixed width) rows offsets values has = rw (le-ltb (length values) (rows * width) (omega (arith, has.1))) refl
no-fault Var rows offsets values has = rw (spans-fine 1 rows offsets values has) refl
no-fault (width.List element) rows offsets values has = rw (spans-fine element rows offsets values has.1) refl

pub offsets_len-ended : (width : Width) (rows : ℕ) (offsets values : List ℕ) → HasValueForEach width rows offsets values → length (ended_offsets width offsets values) ≡ offsets_len width rows
offsets_len-ended Bit rows offsets values has = ap length has.0
offsets_len-ended (Fixed width) rows offsets values has = ap length has.0
offsets_len-ended Var rows offsets values has =
    let len = has.offsets_len in omega (arith, length-ended 1 offsets values)
offsets_len-ended (width.List element) rows offsets values has =
    let len = has.1.offsets_len in omega (arith, length-ended element offsets values)
