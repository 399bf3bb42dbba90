-- Lists that are gone through element by element.
use Rattle.std.proofs.Common.{◌≡◌, List, [], ◌∷◌, ◌++◌, append_assoc, sym, ap, ◌∙◌}

-- the first of those that are left comes after those before
pub front_more : {A : Type 0} (all front left : List A) (x : A) (rest : List A) → all ≡ front ++ left → left ≡ x ∷ rest → all ≡ (front ++ x ∷ []) ++ rest
front_more {A} all front left x rest whole next = whole ∙ ap (λ (xs : List A). front ++ xs) next ∙ sym (append_assoc front (x ∷ []) rest)
