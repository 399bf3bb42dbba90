-- The ids of the first requests are taken away.
use Rattle.std.proofs.Common.{◌≡◌, ℕ, zero, suc, ◌+◌, ◌<◌, List, [], ◌∷◌, ◌++◌, length, take, drop, set, get_or, map, refl, ap, ◌∙◌, arith}
use Rattle.otap_resend.specs.declared.unanswered.Unanswered.{Unanswered}
use Rattle.otap_resend.specs.States.{without_id}

-- the first of these have no id any longer
abbrev pub reset_to : ℕ → List Unanswered → List Unanswered
reset_to i ws = map without_id (take i ws) ++ drop i ws

next_reset : (ws : List Unanswered) (i : ℕ) (d : Unanswered) → i < length ws → set (reset_to i ws) i (without_id (get_or (reset_to i ws) i d)) ≡ reset_to (suc i) ws
next_reset [] i d few = absurd (omega (arith, few))
next_reset (w ∷ ws) zero d few = refl
next_reset (w ∷ ws) (suc i) d few = ap (λ us. without_id w ∷ us) (next_reset ws i d (omega (arith, few)))

pub one_reset : (old now : List Unanswered) (i : ℕ) (d : Unanswered) → i < length old → now ≡ reset_to i old → set now i (without_id (get_or now i d)) ≡ reset_to (i + 1) old
one_reset old now i d few is =
    let more : suc i ≡ i + 1 = omega arith in
    (λ j. set (is j) i (without_id (get_or (is j) i d))) ∙ next_reset old i d few ∙ ap (λ n. reset_to n old) more

pub none_reset : (ws : List Unanswered) → ws ≡ reset_to 0 ws
none_reset [] = refl
none_reset (w ∷ ws) = refl

pub all_reset : (ws : List Unanswered) (n : ℕ) → n ≡ length ws → reset_to n ws ≡ map without_id ws
all_reset ws n is = ap (λ m. reset_to m ws) is ∙ whole ws
  where
    whole : (us : List Unanswered) → reset_to (length us) us ≡ map without_id us
    whole [] = refl
    whole (u ∷ us) = ap (λ vs. without_id u ∷ vs) (whole us)

-- the list that a slice was made of, with the slice in its place
pub refilled : (ws new : List Unanswered) (n : ℕ) → new ≡ map without_id ws → n ≡ length ws → take n (new ++ drop (length new) ws) ≡ map without_id ws
refilled ws new n is long = (λ j. take (long j) (is j ++ drop (length (is j)) ws)) ∙ whole ws
  where
    whole : (us : List Unanswered) → take (length us) (map without_id us ++ drop (length (map without_id us)) us) ≡ map without_id us
    whole [] = refl
    whole (u ∷ us) = ap (λ vs. without_id u ∷ vs) (whole us)
