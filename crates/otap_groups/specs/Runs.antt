-- Longest runs: neighbours that are the same are in one run.
use Rattle.std.specs.Prelude.{Bool, List, [], ◌∷◌, if◌then◌else◌}

-- an element before some runs: it joins the first of them where it is the same as that run's first element
abbrev pub before_runs : {A : Type 0} → (A → A → Bool) → A → List (List A) → List (List A)
before_runs same x [] = (x ∷ []) ∷ []
before_runs same x ([] ∷ rest) = (x ∷ []) ∷ rest
before_runs same x ((y ∷ ys) ∷ rest) = if same x y then (x ∷ y ∷ ys) ∷ rest else (x ∷ []) ∷ (y ∷ ys) ∷ rest

-- THE LONGEST RUNS of a list
unfoldable pub runs : {A : Type 0} → (A → A → Bool) → List A → List (List A)
runs same [] = []
runs same (x ∷ xs) = before_runs same x (runs same xs)
