-- What groups weigh is weighed row by row: a resource and a scope count at the last row of their runs. Fewer rows weigh no more.
use Rattle.std.proofs.Common.{◌≡◌, ℕ, ◌+◌, ◌≤◌, Bool, true, List, [], ◌∷◌, refl, sym, ◌∙◌, ap, inl, inr, arith}
use Rattle.std.specs.Prelude.{filter, if◌then◌else◌}
use Rattle.std.proofs.lemmas.Bool.{cases_Bool}
use Rattle.otap_groups.specs.Runs.{before_runs, runs}

module _ {A : Type 0} (same : A → A → Bool) (w : A → ℕ) where
  -- what an element adds before others: nothing where its run goes on
  abbrev pub charge : A → List A → ℕ
  charge x [] = w x
  charge x (y ∷ ys) = if same x y then 0 else w x

  abbrev pub cost : List A → ℕ
  cost [] = 0
  cost (x ∷ xs) = charge x xs + cost xs

  -- elements of one run weigh the same, and end it alike
  abbrev pub Alike : Type 0
  Alike = (x y : A) → same x y ≡ true → (w x ≡ w y) × ((z : A) → same x z ≡ same y z)

  module _ (alike : Alike) (test : A → Bool) where
    moved : (x y : A) (ys : List A) → same x y ≡ true → charge x ys ≡ charge y ys
    moved x y [] t = (alike x y t).0
    moved x y (z ∷ zs) t = λ i. if (alike x y t).1 z i then 0 else (alike x y t).0 i

    at_most : (x : A) (ys : List A) → charge x ys ≤ w x
    at_most x [] = omega arith
    at_most x (y ∷ ys) = elim (cases_Bool (same x y)) [ inl t ↦ rw t (omega arith) | inr f ↦ rw f (omega arith) ]

    passed : (x y : A) (ys : List A) → charge x ys ≤ charge x (y ∷ ys) + charge y ys
    passed x y ys = elim (cases_Bool (same x y)) [
      | inl t ↦ rw t (omega (arith, moved x y ys t))
      | inr f ↦ rw f (omega (arith, at_most x ys))
    ]

    fewer_after : (x : A) (ys : List A) → charge x (filter test ys) + cost (filter test ys) ≤ charge x ys + cost ys
    fewer_after x [] = omega arith
    fewer_after x (y ∷ ys) = elim (cases_Bool (test y)) [
      | inl t ↦ let here = fewer_after y ys in rw t (omega (arith, here))
      | inr f ↦ let here = fewer_after x ys in let more = passed x y ys in rw f (omega (arith, here, more))
    ]

    pub fewer_cost : (xs : List A) → cost (filter test xs) ≤ cost xs
    fewer_cost [] = omega arith
    fewer_cost (x ∷ xs) = elim (cases_Bool (test x)) [
      | inl t ↦ rw t (fewer_after x xs)
      | inr f ↦ let here = fewer_cost xs in rw f (omega (arith, here))
    ]

-- ---- runs, one element more at a time

module _ {A : Type 0} (same : A → A → Bool) where
  record BeginsWith (x : A) (rs : List (List A)) : Type 0 where
    xs : List A
    rest : List (List A)
    is : rs ≡ (x ∷ xs) ∷ rest

  begins_before : (x : A) (rs : List (List A)) → BeginsWith x (before_runs same x rs)
  begins_before x [] = record { xs = []; rest = []; is = refl }
  begins_before x ([] ∷ rs) = record { xs = []; rest = rs; is = refl }
  begins_before x ((y ∷ ys) ∷ rs) = elim (cases_Bool (same x y)) [
    | inl t ↦ record { xs = y ∷ ys; rest = rs; is = rw t refl }
    | inr f ↦ record { xs = []; rest = (y ∷ ys) ∷ rs; is = rw f refl }
  ]

  begins : (x : A) (xs : List A) → BeginsWith x (runs same (x ∷ xs))
  unfolding runs
  begins x xs = begins_before x (runs same xs)

  abbrev pub summed : (List A → ℕ) → List (List A) → ℕ
  summed weigh [] = 0
  summed weigh (run ∷ rest) = weigh run + summed weigh rest

  -- what an element adds to the runs of others
  abbrev pub adds : (List A → ℕ) → (A → A → ℕ) → A → List A → ℕ
  adds weigh more x [] = weigh (x ∷ [])
  adds weigh more x (y ∷ ys) = if same x y then more x y else weigh (x ∷ [])

  module _ (weigh : List A → ℕ) (more : A → A → ℕ) (joined : (x y : A) (ys : List A) → same x y ≡ true → weigh (x ∷ y ∷ ys) ≡ more x y + weigh (y ∷ ys)) where
    step : (x y : A) (rs : List (List A)) → BeginsWith y rs → summed weigh (before_runs same x rs) ≡ (if same x y then more x y else weigh (x ∷ [])) + summed weigh rs
    step x y rs first =
        ap (λ rs. summed weigh (before_runs same x rs)) first.is ∙ by ∙ ap (λ rs. (if same x y then more x y else weigh (x ∷ [])) + summed weigh rs) (sym first.is) where
          by : summed weigh (before_runs same x ((y ∷ first.xs) ∷ first.rest)) ≡ (if same x y then more x y else weigh (x ∷ [])) + summed weigh ((y ∷ first.xs) ∷ first.rest)
          by = elim (cases_Bool (same x y)) [
            | inl t ↦ let e = joined x y first.xs t in rw t (omega (arith, e))
            | inr f ↦ rw f refl
          ]

    pub weighed : (x : A) (xs : List A) → summed weigh (runs same (x ∷ xs)) ≡ adds weigh more x xs + summed weigh (runs same xs)
    unfolding runs
    weighed x [] = refl
    weighed x (y ∷ ys) = step x y (runs same (y ∷ ys)) (begins y ys)
