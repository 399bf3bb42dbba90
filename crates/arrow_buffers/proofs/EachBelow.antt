-- A test that holds for each number below one.
use Rattle.std.proofs.Common.{◌≡◌, ℕ, zero, suc, ◌<◌, Bool, true, false, ◌&&◌, inl, inr, refl, ap, ◌∙◌, arith}
use Rattle.std.proofs.lemmas.Bool.{and_parts, and_from, and_left, and_right, and_cases, cases_eq, true≢false}
use Rattle.arrow_buffers.specs.Below.{all_below}

-- it holds for one of them
pub all_below-at : (test : ℕ → Bool) (n i : ℕ) → all_below test n ≡ true → i < n → test i ≡ true
all_below-at test zero i holds below = absurd (omega arith)
all_below-at test (suc n) i holds below =
    let parts = and_parts (all_below test n) (test n) holds in
    elim (cases_eq i n) [ inl e ↦ rw e parts.1 | inr e ↦ all_below-at test n i parts.0 (omega arith) ]

-- from each of them
pub all_below-each : (test : ℕ → Bool) (n : ℕ) → ((i : ℕ) → i < n → test i ≡ true) → all_below test n ≡ true
all_below-each test zero each = refl
all_below-each test (suc n) each =
    and_from (all_below test n) (test n) (all_below-each test n (λ i below. each i (omega arith))) (each n (omega arith))

-- one number for which it fails is enough
pub all_below-fails : (test : ℕ → Bool) (n i : ℕ) → test i ≡ false → i < n → all_below test n ≡ false
all_below-fails test zero i fails below = absurd (omega arith)
all_below-fails test (suc n) i fails below =
    elim (cases_eq i n) [
      | inl e ↦ and_right (all_below test n) (test n) (rw (← e) fails)
      | inr e ↦ and_left (all_below test n) (test n) (all_below-fails test n i fails (omega arith))
    ]

-- where it fails, it fails for one of them
pub all_below-where : (test : ℕ → Bool) (n : ℕ) → all_below test n ≡ false → (i : ℕ) × (i < n) × (test i ≡ false)
all_below-where test zero fails = absurd (true≢false fails)
all_below-where test (suc n) fails =
    elim (and_cases (all_below test n) (test n) fails) [
      | inl earlier ↦ let w = all_below-where test n earlier in (w.0, omega (arith, w.1), w.2)
      | inr here ↦ (n, omega arith, here)
    ]

-- tests that agree below
pub all_below-same : (f g : ℕ → Bool) (n : ℕ) → ((i : ℕ) → i < n → f i ≡ g i) → all_below f n ≡ all_below g n
all_below-same f g zero same = refl
all_below-same f g (suc n) same =
    ap (λ b. b && f n) (all_below-same f g n (λ i below. same i (omega arith))) ∙ ap (λ b. all_below g n && b) (same n (omega arith))
