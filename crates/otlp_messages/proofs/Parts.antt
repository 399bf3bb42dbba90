-- A reader that looks at each field in turn reads each part of a message as `said` says.
use Rattle.std.proofs.Common.{◌≡◌, ℕ, List, [], ◌∷◌, Bool, true, false, refl, sym, ap, ◌∙◌}
use Rattle.std.specs.Prelude.{fold, ◌==◌}
use Rattle.otlp_wire.specs.Wire.{FieldValue, Entry}
use Rattle.otlp_messages.specs.Rows.{only, at}

-- one more step of the values of a number
one_step : {A : Type 0} (n : ℕ) (read : A → FieldValue → A) (old : A) (f : Entry) (fs : List Entry) → fold read old (only n (f ∷ fs)) ≡ fold read (at n read old f) (only n fs)
one_step n read old f fs = go (f.number == n) refl
  where
    go : (b : Bool) → (f.number == n) ≡ b → fold read old (only n (f ∷ fs)) ≡ fold read (at n read old f) (only n fs)
    go true hit = rw hit refl
    go false miss = rw miss refl

-- a part that only the fields of one number change
pub part_of : {R A : Type 0} (step : R → Entry → R) (get : R → A) (n : ℕ) (read : A → FieldValue → A) → ((r : R) (f : Entry) → get (step r f) ≡ at n read (get r) f)
    → (r : R) (fs : List Entry) → get (fold step r fs) ≡ fold read (get r) (only n fs)
part_of step get n read hears r [] = refl
part_of step get n read hears r (f ∷ fs) =
    part_of step get n read hears (step r f) fs ∙ ap (λ a. fold read a (only n fs)) (hears r f) ∙ sym (one_step n read (get r) f fs)
