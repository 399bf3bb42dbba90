-- A block of rows that are the same, before other rows, is a run of its own.
use Rattle.std.proofs.Common.{◌≡◌, Bool, true, false, List, [], ◌∷◌, ◌++◌, cond, refl, sym, ◌∙◌, ap}
use Rattle.std.specs.List.{AllByRecursion}
use Rattle.otap_groups.specs.Runs.{before_runs, runs}

-- what holds of the first element
abbrev pub First : {A : Type 0} → (A → Type 0) → List A → Type 0
First P [] = Unit {0}
First P (x ∷ xs) = P x

module _ {A : Type 0} (same : A → A → Bool) where
  -- a run begins with the first element
  record BeginsWith (x : A) (rs : List (List A)) : Type 0 where
    xs : List A
    rest : List (List A)
    is : rs ≡ (x ∷ xs) ∷ rest

  begins_before : (x : A) (rs : List (List A)) → BeginsWith x (before_runs same x rs)
  begins_before x [] = record { xs = []; rest = []; is = refl }
  begins_before x ([] ∷ rs) = record { xs = []; rest = rs; is = refl }
  begins_before x ((y ∷ ys) ∷ rs) = by (same x y) where
    by : (b : Bool) → BeginsWith x (cond b ((x ∷ y ∷ ys) ∷ rs) ((x ∷ []) ∷ (y ∷ ys) ∷ rs))
    by true = record { xs = y ∷ ys; rest = rs; is = refl }
    by false = record { xs = []; rest = (y ∷ ys) ∷ rs; is = refl }

  apart : (x y : A) (rs : List (List A)) → BeginsWith y rs → same x y ≡ false → before_runs same x rs ≡ (x ∷ []) ∷ rs
  apart x y rs begins differ = ap (before_runs same x) begins.is ∙ cut ∙ ap (λ rs. (x ∷ []) ∷ rs) (sym begins.is) where
    cut : before_runs same x ((y ∷ begins.xs) ∷ begins.rest) ≡ (x ∷ []) ∷ (y ∷ begins.xs) ∷ begins.rest
    cut = rw differ refl

  last : (x : A) (rest : List A) → First (λ y. same x y ≡ false) rest → runs same (x ∷ rest) ≡ (x ∷ []) ∷ runs same rest
  unfolding runs
  last x [] first = refl
  last x (y ∷ rest) first = apart x y (runs same (y ∷ rest)) (begins_before y (runs same rest)) first

  module _ (P : A → Type 0) (joined : (x y : A) → P x → P y → same x y ≡ true) where
    pub block : (x : A) (xs rest : List A) → AllByRecursion P (x ∷ xs) → First (λ y. (x : A) → P x → same x y ≡ false) rest
        → runs same ((x ∷ xs) ++ rest) ≡ (x ∷ xs) ∷ runs same rest
    unfolding runs
    block x [] rest all first = last x rest (here rest first) where
      here : (rest : List A) → First (λ y. (x : A) → P x → same x y ≡ false) rest → First (λ y. same x y ≡ false) rest
      here [] first = tt
      here (y ∷ rest) first = first x all.0
    block x (y ∷ ys) rest all first =
        ap (before_runs same x) (block y ys rest all.1 first) ∙ (rw (joined x y all.0 all.1.0) refl)
