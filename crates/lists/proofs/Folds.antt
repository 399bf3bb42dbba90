-- What each step of a fold keeps.
use Rattle.std.proofs.Common.{List, [], ◌∷◌, fold}
use Rattle.std.specs.List.{AllByRecursion}

pub fold_keeps : {A V : Type 0} (P : A → Type 0) (step : A → V → A) → ((old : A) (v : V) → P old → P (step old v)) → (old : A) (vs : List V) → P old → P (fold step old vs)
fold_keeps P step each old [] p = p
fold_keeps P step each old (v ∷ vs) p = fold_keeps P step each (step old v) vs (each old v p)

-- where something holds of each element
pub fold_keeps_where : {A V : Type 0} (P : A → Type 0) (Q : V → Type 0) (step : A → V → A) → ((old : A) (v : V) → P old → Q v → P (step old v))
    → (old : A) (vs : List V) → P old → AllByRecursion Q vs → P (fold step old vs)
fold_keeps_where P Q step each old [] p q = p
fold_keeps_where P Q step each old (v ∷ vs) p q = fold_keeps_where P Q step each (step old v) vs (each old v p q.0) q.1
