-- Words name one of the numbers from 1 to a last one, or none of them.
use Rattle.std.proofs.Common.{◌≡◌, ◌⊎◌, inl, inr, ℕ, zero, suc, ◌<◌, ◌≤◌, List, ap, subst, arith}
use Rattle.otap_gateway.proofs.EachWords.{same_words}

pub record NamesOne (words : List (List ℕ)) (named : ℕ → List (List ℕ)) (most : ℕ) : Type 0 where
  pub number : ℕ
  pub some : 0 < number
  pub few : number ≤ most
  pub names : words ≡ named number

abbrev pub NamesNone : List (List ℕ) → (ℕ → List (List ℕ)) → ℕ → Type 0
NamesNone words named most = (number : ℕ) → 0 < number → number ≤ most → words ≡ named number → ⊥

last_or_below : (n most : ℕ) → n ≤ suc most → (n ≡ suc most) ⊎ (n ≤ most)
last_or_below zero most few = inr (omega arith)
last_or_below (suc n) zero few = inl (omega (arith, few))
last_or_below (suc n) (suc most) few = by (last_or_below n most (omega (arith, few)))
  where
    by : (n ≡ suc most) ⊎ (n ≤ most) → (suc n ≡ suc (suc most)) ⊎ (suc n ≤ suc most)
    by (inl last) = inl (ap suc last)
    by (inr below) = inr (omega (arith, below))

pub one_of : (words : List (List ℕ)) (named : ℕ → List (List ℕ)) (most : ℕ) → NamesOne words named most ⊎ NamesNone words named most
one_of words named zero = inr (λ number some few names. absurd (omega (arith, some, few)))
one_of words named (suc most) = by (same_words words (named (suc most))) (one_of words named most)
  where
    other : NamesNone words named most → (words ≡ named (suc most) → ⊥) → (number : ℕ) → 0 < number → words ≡ named number → (number ≡ suc most) ⊎ (number ≤ most) → ⊥
    other none no_last number some names (inl last) = no_last (subst (λ (n : ℕ). words ≡ named n) last names)
    other none no_last number some names (inr below) = none number some below names

    by : (words ≡ named (suc most)) ⊎ (words ≡ named (suc most) → ⊥) → NamesOne words named most ⊎ NamesNone words named most
        → NamesOne words named (suc most) ⊎ NamesNone words named (suc most)
    by (inl last) rest = inl (record { number = suc most; some = omega arith; few = omega arith; names = last })
    by (inr no_last) (inl one) = inl (record { number = one.number; some = one.some; few = (let few = one.few in omega (arith, few)); names = one.names })
    by (inr no_last) (inr none) = inr (λ number some few names. other none no_last number some names (last_or_below number most few))
