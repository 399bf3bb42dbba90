-- What the check of arrays returns: a first fault is one of the arrays' faults, and without a fault none of them has one.
use Rattle.std.proofs.Common.{◌≡◌, ℕ, zero, suc, ◌⊎◌, List, [], ◌∷◌, slice_get, Some, Result, Ok, Err, IsOk, OnOk, refl, subst, inl, inr}
use Rattle.std.specs.Result.{result_and}
use Rattle.std.proofs.lemmas.Bool.{false≢true}
use Rattle.arrow_buffers.specs.declared.fault.BufferFault.{BufferFault}
use Rattle.arrow_ipc.specs.Batches.{BatchIn}
use Rattle.arrow_arrays.specs.declared.spec.ArraySpec.{ArraySpec}
use Rattle.arrow_arrays.specs.Cells.{array_check}
use Rattle.arrow_arrays.specs.Arrays.{array_place, arrays_check, HasFault, HasNoFault}
use Rattle.arrow_arrays.proofs.FaultsNamed.{named, never_fault}

pub ok_value : {A E : Type 0} (r : Result A E) → IsOk r → (x : A) × (r ≡ Ok x)
ok_value (Ok x) ok = (x, refl)
ok_value (Err e) ok = absurd (false≢true ok)

and_ok : (r s : Result (Unit {0}) BufferFault) → IsOk (result_and r s) → IsOk r × IsOk s
and_ok (Ok x) s ok = (refl, ok)
and_ok (Err e) s ok = absurd (false≢true ok)

and_err : (r s : Result (Unit {0}) BufferFault) (e : BufferFault) → result_and r s ≡ Err e → (r ≡ Err e) ⊎ (s ≡ Err e)
and_err (Ok x) s e is = inr is
and_err (Err d) s e is = inl is

from_and : (r s : Result (Unit {0}) BufferFault) → r ≡ Ok tt → s ≡ Ok tt → result_and r s ≡ Ok tt
from_and (Ok x) s one two = two
from_and (Err e) s one two = one

is_ok_tt : (r : Result (Unit {0}) BufferFault) → IsOk r → r ≡ Ok tt
is_ok_tt (Ok x) ok = refl
is_ok_tt (Err e) ok = absurd (false≢true ok)

-- the parts of a list's first element and of the later ones
pub first_at : {A : Type 0} (x y : A) (xs : List A) → slice_get (x ∷ xs) zero ≡ Some y → x ≡ y
first_at x y xs is = cc

-- where no array has a fault, the one at an index has none
pub check_at : (batch : BatchIn) (arrays : List ArraySpec) (place : ℕ) (a : ArraySpec) → IsOk (arrays_check batch arrays) → slice_get arrays place ≡ Some a → IsOk (array_check batch (array_place a))
unfolding arrays_check
check_at batch [] place a ok at = absurd (cc)
check_at batch (b ∷ arrays) zero a ok at =
    subst (λ (c : ArraySpec). IsOk (array_check batch (array_place c))) (first_at b a arrays at) (and_ok (array_check batch (array_place b)) (arrays_check batch arrays) ok).0
check_at batch (b ∷ arrays) (suc place) a ok at =
    check_at batch arrays place a (and_ok (array_check batch (array_place b)) (arrays_check batch arrays) ok).1 at

fine_each : (batch : BatchIn) (arrays : List ArraySpec) → IsOk (arrays_check batch arrays) → (place : ℕ) (a : ArraySpec) → slice_get arrays place ≡ Some a → array_check batch (array_place a) ≡ Ok tt
fine_each batch arrays ok place a at = is_ok_tt (array_check batch (array_place a)) (check_at batch arrays place a ok at)

pub none_have_faults : (batch : BatchIn) (arrays : List ArraySpec) → IsOk (arrays_check batch arrays) → HasNoFault batch arrays
none_have_faults batch arrays ok fault (place, a, at, bad) = never_fault batch (array_place a) fault (fine_each batch arrays ok place a at) bad

-- the first fault is the fault of an array
pub first_fault : (batch : BatchIn) (arrays : List ArraySpec) (e : BufferFault) → arrays_check batch arrays ≡ Err e → HasFault batch arrays e
unfolding arrays_check
first_fault batch [] e is = absurd (cc)
first_fault batch (a ∷ arrays) e is =
    elim (and_err (array_check batch (array_place a)) (arrays_check batch arrays) e is) [
      | inl here ↦ (zero, a, refl, named batch (array_place a) e here)
      | inr later ↦ let w = first_fault batch arrays e later in (suc w.0, w.1, w.2, w.3)
    ]

-- where each is fine, there is no first fault
pub each_fine_checks : (batch : BatchIn) (arrays : List ArraySpec) → ((place : ℕ) (a : ArraySpec) → slice_get arrays place ≡ Some a → array_check batch (array_place a) ≡ Ok tt) → arrays_check batch arrays ≡ Ok tt
unfolding arrays_check
each_fine_checks batch [] fine = refl
each_fine_checks batch (a ∷ arrays) fine =
    from_and (array_check batch (array_place a)) (arrays_check batch arrays) (fine zero a refl) (each_fine_checks batch arrays (λ place b at. fine (suc place) b at))

-- where none has a fault, there is no first one
pub no_fault_checks : (batch : BatchIn) (arrays : List ArraySpec) → HasNoFault batch arrays → arrays_check batch arrays ≡ Ok tt
no_fault_checks batch arrays none = by_check (arrays_check batch arrays) refl
  where
    by_check : (r : Result (Unit {0}) BufferFault) → arrays_check batch arrays ≡ r → arrays_check batch arrays ≡ Ok tt
    by_check (Ok x) is = is
    by_check (Err e) is = absurd (none e (first_fault batch arrays e is))

-- where an array has a fault, the check is not Ok
pub fault_fails : (batch : BatchIn) (arrays : List ArraySpec) (e : BufferFault) → HasFault batch arrays e → IsOk (arrays_check batch arrays) → ⊥
fault_fails batch arrays e has ok = none_have_faults batch arrays ok e has

-- a check that is Ok finds no fault
pub none_on : (batch : BatchIn) (arrays : List ArraySpec) (r : Result (Unit {0}) BufferFault) → r ≡ arrays_check batch arrays → OnOk r (HasNoFault batch arrays)
none_on batch arrays (Ok x) is = none_have_faults batch arrays (subst (λ (r : Result (Unit {0}) BufferFault). IsOk r) is refl)
none_on batch arrays (Err e) is = tt
