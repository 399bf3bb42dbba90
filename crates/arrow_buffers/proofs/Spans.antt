-- What offsets without a fault say of one row.
use Rattle.std.proofs.Common.{◌≡◌, ℕ, ◌+◌, ◌-◌, ◌*◌, ◌^◌, ◌<◌, ◌≤◌, ◌==◌, ◌&&◌, ◌⊎◌, inl, inr, nat_lt, Bool, true, false, if◌then◌else◌, List, length, Result, Err, IsOk, refl, arith}
use Rattle.std.proofs.lemmas.Bool.{and_parts, and_from, lt-ltb, le-leb, ltb-true, ltb-false, leb-true, eqb-true, ne_eqb, cases_Bool, false≢true}
use Rattle.arrow_buffers.specs.declared.fault.BufferFault.{BufferFault}
use Rattle.arrow_buffers.specs.declared.fault.BufferFault.TheVariants.{Short}
use Rattle.arrow_buffers.specs.Below.{all_below}
use Rattle.arrow_buffers.specs.Offsets.{offset_at, offset_before, is_fine, is_fine_at, offsets_check, AreNone}
use Rattle.arrow_buffers.proofs.EachBelow.{all_below-at}

-- a row's two offsets are there, in order, and lead into the values
pub record SpanFits (width : ℕ) (offsets values : List ℕ) (row : ℕ) : Type 0 where
  pub there : 4 * (row + 2) ≤ length offsets
  pub order : offset_at offsets row ≤ offset_at offsets (row + 1)
  pub within : offset_at offsets (row + 1) * width ≤ length values

-- a fine offset by its three conditions
pub record IsFine (before offset width len : ℕ) : Type 0 where
  pub fits : offset < 2 ^ 31
  pub order : before ≤ offset
  pub within : offset * width ≤ len

pub fine-from : (before offset width len : ℕ) → IsFine before offset width len → is_fine before offset width len ≡ true
fine-from before offset width len f =
    and_from _ _ (lt-ltb _ _ f.fits) (and_from _ _ (le-leb _ _ f.order) (le-leb _ _ f.within))

pub fine-parts : (before offset width len : ℕ) → is_fine before offset width len ≡ true → IsFine before offset width len
fine-parts before offset width len h =
    let a = and_parts _ _ h in
    let b = and_parts _ _ a.1 in
    record { fits = ltb-true _ _ a.0; order = leb-true _ _ b.0; within = leb-true _ _ b.1 }

-- a check that comes first, and one that comes last
ok-unless : (b : Bool) (e : BufferFault) (r : Result (Unit {0}) BufferFault) → IsOk (if b then Err e else r) → (b ≡ false) × IsOk r
ok-unless true e r h = absurd (false≢true h)
ok-unless false e r h = (refl, h)

ok-only : (b : Bool) (r : Result (Unit {0}) BufferFault) (e : BufferFault) → IsOk (if b then r else Err e) → b ≡ true
ok-only true r e h = refl
ok-only false r e h = absurd (false≢true h)

-- the offsets of rows are enough, and all fine
pub record AllFine (width : ℕ) (offsets values : List ℕ) (rows : ℕ) : Type 0 where
  pub enough : 4 * (rows + 1) ≤ length offsets
  pub fine : all_below (is_fine_at width offsets values) (rows + 1) ≡ true

pub check-cases : (width : ℕ) (offsets values : List ℕ) (rows : ℕ) → IsOk (offsets_check width offsets values rows) → AreNone offsets rows ⊎ AllFine width offsets values rows
unfolding offsets_check
check-cases width offsets values rows ok =
    elim (cases_Bool (rows == 0 && length offsets == 0)) [
      | inl none ↦ let both = and_parts (rows == 0) (length offsets == 0) none in inl (eqb-true rows 0 both.0, eqb-true (length offsets) 0 both.1)
      | inr some ↦
          let enough = ok-unless (nat_lt (length offsets) (4 * (rows + 1))) Short _ (rw some at ok) in
          inr (record { enough = ltb-false _ _ enough.0; fine = ok-only _ _ _ enough.1 })
    ]

-- a row among fine offsets
pub span-among : (width : ℕ) (offsets values : List ℕ) (rows row : ℕ) → row < rows → AllFine width offsets values rows → SpanFits width offsets values row
span-among width offsets values rows row below all =
    let next = fine-parts (offset_before offsets (row + 1)) (offset_at offsets (row + 1)) width (length values) (all_below-at (is_fine_at width offsets values) (rows + 1) (row + 1) all.fine (omega arith)) in
    let other : (row + 1 == 0) ≡ false = ne_eqb (row + 1) 0 (omega arith) in
    let back : row + 1 - 1 ≡ row = omega arith in
    let enough = all.enough in
    record { there = omega arith; order = rw (other, back) at next.order; within = next.within }

pub span-fits : (width : ℕ) (offsets values : List ℕ) (rows row : ℕ) → row < rows → IsOk (offsets_check width offsets values rows) → SpanFits width offsets values row
span-fits width offsets values rows row below ok =
    elim (check-cases width offsets values rows ok) [
      | inl none ↦ absurd (omega (arith, none.0))
      | inr all ↦ span-among width offsets values rows row below all
    ]
