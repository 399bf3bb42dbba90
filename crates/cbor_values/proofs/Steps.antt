-- Steps of a reading that may fail.
use Rattle.std.proofs.Common.{◌≡◌, ℕ, List, Result, Ok, Err, refl, ap, subst, ◌⊎◌, inl, inr}
use Rattle.cbor_values.specs.declared.refusal.CborRefusal.{CborRefusal}
use Rattle.lists.specs.Results.{◌>>=◌}
use Rattle.cbor_values.specs.Reading.{ValueReading}

-- the value of a step that did not fail
pub bind_ok : {A B : Type 0} (r : Result A CborRefusal) (f : A → Result B CborRefusal) (y : B)
    → (r >>= f) ≡ Ok y → (x : A) × (r ≡ Ok x) × (f x ≡ Ok y)
bind_ok (Ok x) f y e = (x, refl, e)
bind_ok (Err d) f y e = absurd cc

abbrev pub failed : (A : Type 0) → CborRefusal → Result A CborRefusal
failed A e = Err e

pub err_is : {A : Type 0} (c d : CborRefusal) → failed A c ≡ failed A d → c ≡ d
err_is c d e = cc

-- where a failure came from
pub bind_err : {A B : Type 0} (r : Result A CborRefusal) (f : A → Result B CborRefusal) (d : CborRefusal)
    → (r >>= f) ≡ Err d → (r ≡ Err d) ⊎ ((x : A) × (r ≡ Ok x) × (f x ≡ Err d))
bind_err (Ok x) f d e = inr (x, refl, e)
bind_err {A} {B} (Err c) f d e = inl (ap (failed A) (err_is {A = B} c d e))

abbrev pub done : {A : Type 0} → A → Result A CborRefusal
done x = Ok x

pub ok_is : {A : Type 0} (x y : A) → done x ≡ done y → x ≡ y
ok_is x y e = cc

-- a reading that did not fail
abbrev pub got : {X : Type 0} → X → List ℕ → ValueReading X
got x rest = Ok (x, rest)

-- what was read is this value, and these bytes are left
pub got_is : {X : Type 0} (P : X → List ℕ → Type 0) (x : X) (bytes : List ℕ) (y : X) (rest : List ℕ)
    → got x bytes ≡ got y rest → P x bytes → P y rest
got_is {X} P x bytes y rest e p = subst (λ (z : X × List ℕ). P z.0 z.1) (ok_is (x, bytes) (y, rest) e) p
