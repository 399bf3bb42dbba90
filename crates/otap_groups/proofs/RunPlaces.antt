-- Runs of rows that are given by their places.
use Rattle.std.proofs.Common.{◌≡◌, ℕ, zero, suc, ◌+◌, ◌-◌, ◌<◌, ◌≤◌, Bool, true, false, [], ◌∷◌, refl, sym, ◌∙◌, ap, arith, inl, inr}
use Rattle.std.specs.Prelude.{◌⊎◌, if◌then◌else◌}
use Rattle.std.proofs.lemmas.Bool.{cases_Bool}
use Rattle.otap_groups.specs.Runs.{runs}
use Rattle.otap_groups.specs.Inside.{part}

-- how many of the n rows past a place belong to the run of its row
unfoldable pub more : {A : Type 0} → (A → A → Bool) → (ℕ → A) → ℕ → ℕ → ℕ
more same row from zero = 0
more same row from (suc n) = if same (row from) (row (from + 1)) then suc (more same row (from + 1) n) else 0

module _ {A : Type 0} (same : A → A → Bool) (row : ℕ → A) where
  align : (a b k l : ℕ) → a ≡ b → k ≡ l → runs same (part row a k) ≡ runs same (part row b l)
  align a b k l e f i = runs same (part row (e i) (f i))

  by : (from n : ℕ) → runs same (part row (from + 1) (suc n))
      ≡ part row (from + 1) (suc (more same row (from + 1) n)) ∷ runs same (part row (from + 1 + suc (more same row (from + 1) n)) (n - more same row (from + 1) n))
      → ((same (row from) (row (from + 1)) ≡ true) ⊎ (same (row from) (row (from + 1)) ≡ false))
      → runs same (part row from (suc (suc n)))
      ≡ part row from (suc (more same row from (suc n))) ∷ runs same (part row (from + suc (more same row from (suc n))) (suc n - more same row from (suc n)))
  unfolding runs more
  by from n ih (inl joined) =
      rw (ih, joined) (ap (λ rest. (row from ∷ part row (from + 1) (suc (more same row (from + 1) n))) ∷ rest)
      (align (from + 1 + suc (more same row (from + 1) n)) (from + suc (suc (more same row (from + 1) n)))
      (n - more same row (from + 1) n) (suc n - suc (more same row (from + 1) n)) (omega arith) (omega arith)))
  by from n ih (inr apart) =
      rw (ih, apart) (ap (λ rest. (row from ∷ []) ∷ rest) (sym ih ∙ align (from + 1) (from + 1) (suc n) (suc n - 0) refl (omega arith)))

  one : (from : ℕ) → runs same (part row from 1) ≡ part row from 1 ∷ runs same (part row (from + 1) 0)
  unfolding runs more
  one from = refl

  cut : (from n : ℕ) → runs same (part row from (suc n))
      ≡ part row from (suc (more same row from n)) ∷ runs same (part row (from + suc (more same row from n)) (n - more same row from n))
  unfolding more
  cut from zero = one from
  cut from (suc n) = by from n (cut (from + 1) n) (cases_Bool (same (row from) (row (from + 1))))

  none : (a k : ℕ) → same (row a) (row (a + 1)) ≡ false → more same row a k ≡ 0
  unfolding more
  none a zero apart = refl
  none a (suc k) apart = rw apart refl

  zero_more : (a : ℕ) → more same row a 0 ≡ 0
  unfolding more
  zero_more a = refl

  pub cut_at : (from to end : ℕ) → from < to → end ≡ from + 1 + more same row from (to - from - 1)
      → runs same (part row from (to - from)) ≡ part row from (end - from) ∷ runs same (part row end (to - end))
  cut_at from to end some is =
      let e : to - from ≡ suc (to - from - 1) = omega arith in
      let f : suc (more same row from (to - from - 1)) ≡ end - from = omega arith in
      let g : from + suc (more same row from (to - from - 1)) ≡ end = omega arith in
      let h : to - from - 1 - more same row from (to - from - 1) ≡ to - end = omega arith in
      ap (λ n. runs same (part row from n)) e ∙ cut from (to - from - 1)
      ∙ (λ i. part row from (f i) ∷ runs same (part row (g i) (h i)))

  -- the run goes on with the row at `end`
  pub goes_on : (to end whole : ℕ) → 0 < end → end < to → same (row (end - 1)) (row end) ≡ true
      → end + more same row (end - 1) (to - end) ≡ whole → end + 1 + more same row (end + 1 - 1) (to - (end + 1)) ≡ whole
  unfolding more
  goes_on to end whole some within joined is =
      let e : end ≡ end - 1 + 1 = omega arith in
      let f : to - end ≡ suc (to - (end + 1)) = omega arith in
      let g : end + 1 - 1 ≡ end = omega arith in
      let step : more same row (end - 1) (to - end) ≡ suc (more same row end (to - (end + 1))) =
      ap (more same row (end - 1)) f ∙ rw (← e, joined) refl in
      rw g (omega (arith, step, is))

  -- it ends there
  pub stops : (to end whole : ℕ) → 0 < end → same (row (end - 1)) (row end) ≡ false
      → end + more same row (end - 1) (to - end) ≡ whole → end ≡ whole
  stops to end whole some apart is =
      let e : end ≡ end - 1 + 1 = omega arith in
      let step : more same row (end - 1) (to - end) ≡ 0 = none (end - 1) (to - end) (rw (← e) apart) in
      omega (arith, step, is)

  pub is_over : (to end whole : ℕ) → to ≤ end → end + more same row (end - 1) (to - end) ≡ whole → end ≡ whole
  is_over to end whole over is =
      let e : to - end ≡ 0 = omega arith in
      let step : more same row (end - 1) (to - end) ≡ 0 = ap (more same row (end - 1)) e ∙ zero_more (end - 1) in
      omega (arith, step, is)
