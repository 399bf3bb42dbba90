-- What equal results and equal pairs hold.
use Rattle.std.proofs.Common.{◌≡◌, Result, Ok, ap}

pub ok_is : {A E : Type 0} (x y : A) → (let r : Result A E = Ok x in r ≡ Ok y) → x ≡ y
ok_is x y h = cc (h)

pub pair_is : {A B : Type 0} (x y : A × B) → x ≡ y → (x.0 ≡ y.0) × (x.1 ≡ y.1)
pair_is {A} {B} x y h = (ap (λ (p : A × B). p.0) h, ap (λ (p : A × B). p.1) h)
