-- A step that gave a value, and one that refused.
use Rattle.std.specs.Prelude.{◌≡◌, ◌⊎◌, Bool, true, false, Result, Ok, Err, refl}
use Rattle.std.proofs.Common.{inl, inr}
use Rattle.flat_tables.specs.declared.fault.FlatFault.{FlatFault}
use Rattle.lists.specs.Results.{◌>>=◌}
use Rattle.arrow_schema.specs.declared.refusal.SchemaRefusal.{SchemaRefusal}
use Rattle.arrow_schema.specs.declared.refusal.SchemaRefusal.TheVariants.{Flat, Unsupported}
use Rattle.arrow_schema.specs.Reading.{flat, where_supported}

pub bind_ok : {A B E : Type 0} (r : Result A E) (f : A → Result B E) (y : B) → (r >>= f) ≡ Ok y → (x : A) × (r ≡ Ok x) × (f x ≡ Ok y)
bind_ok (Ok x) f y h = (x, refl, h)
bind_ok (Err e) f y h = cc

pub bind_err : {A B E : Type 0} (r : Result A E) (f : A → Result B E) (e : E) → (r >>= f) ≡ Err e → (r ≡ Err e) ⊎ ((x : A) × (r ≡ Ok x) × (f x ≡ Err e))
bind_err (Ok x) f e h = inr (x, refl, h)
bind_err (Err d) f e h = inl cc

pub flat_ok : {A : Type 0} (r : Result A FlatFault) (x : A) → flat r ≡ Ok x → r ≡ Ok x
flat_ok (Ok y) x h = cc
flat_ok (Err e) x h = cc

pub flat_err : {A : Type 0} (r : Result A FlatFault) (e : SchemaRefusal) → flat r ≡ Err e → (fault : FlatFault) × (r ≡ Err fault) × (e ≡ Flat fault)
flat_err (Ok x) e h = cc
flat_err (Err fault) e h = (fault, refl, cc)

pub supported_ok : {A : Type 0} (b : Bool) (x y : A) → where_supported b x ≡ Ok y → (b ≡ true) × (x ≡ y)
supported_ok true x y h = (refl, cc)
supported_ok false x y h = cc

pub supported_err : {A : Type 0} (b : Bool) (x : A) (e : SchemaRefusal) → where_supported b x ≡ Err e → (b ≡ false) × (e ≡ Unsupported)
supported_err true x e h = cc
supported_err false x e h = (refl, cc)
