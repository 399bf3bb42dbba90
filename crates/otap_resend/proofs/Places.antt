-- The first unanswered request that passes a test, by its index.
use Rattle.std.proofs.Common.{◌≡◌, ◌⊎◌, inl, inr, ℕ, zero, suc, ◌+◌, ◌<◌, ◌≤◌, Bool, true, false, List, [], ◌∷◌, length, set, Option, Some, None, refl, sym, ap, ◌∙◌, arith}
use Rattle.std.specs.Prelude.{find, position, remove, is_some, slice_get, slice_index_or, nat_lt}
use Rattle.std.specs.List.{position_or_len}
use Rattle.std.proofs.lemmas.Bool.{cases_Bool, false≢true, ltb-true, ltb-false}
use Rattle.std.proofs.lemmas.List.Folds.{find_at}
use Rattle.otap_resend.specs.declared.unanswered.Unanswered.{Unanswered}
use Rattle.otap_resend.specs.States.{is_unwritten, without_first, with_first_written}

plus_one : (n : ℕ) → 1 + n ≡ suc n
plus_one n = omega arith

-- what is at the first index is taken away
without_at : (p : Unanswered → Bool) (ws : List Unanswered) → remove ws (position_or_len p ws) ≡ without_first p ws
without_at p [] = refl
without_at p (w ∷ ws) = by (cases_Bool (p w)) (without_at p ws)
  where
    by : (p w ≡ true) ⊎ (p w ≡ false) → remove ws (position_or_len p ws) ≡ without_first p ws → remove (w ∷ ws) (position_or_len p (w ∷ ws)) ≡ without_first p (w ∷ ws)
    by (inl is) rest = rw is refl
    by (inr is_not) rest = rw (is_not, plus_one (position_or_len p ws)) (ap (λ us. w ∷ us) rest)

written_at : (id : ℕ) (w : Unanswered) (ws : List Unanswered) → find is_unwritten ws ≡ Some w → set ws (position_or_len is_unwritten ws) (record { number = w.number; request = w.request; id = Some id }) ≡ with_first_written id ws
written_at id w [] found = let clash : None ≡ Some w = found in cc
written_at id w (v ∷ ws) found = by (cases_Bool (is_unwritten v)) (written_at id w ws)
  where
    by : (is_unwritten v ≡ true) ⊎ (is_unwritten v ≡ false)
        → (find is_unwritten ws ≡ Some w → set ws (position_or_len is_unwritten ws) (record { number = w.number; request = w.request; id = Some id }) ≡ with_first_written id ws)
        → set (v ∷ ws) (position_or_len is_unwritten (v ∷ ws)) (record { number = w.number; request = w.request; id = Some id }) ≡ with_first_written id (v ∷ ws)
    by (inl is) again =
        let first : Some v ≡ Some w = rw is at found in
        let same : v ≡ w = cc in
        rw (is, same) refl
    by (inr is_not) again =
        let rest : find is_unwritten ws ≡ Some w = rw is_not at found in
        rw (is_not, plus_one (position_or_len is_unwritten ws)) (ap (λ us. v ∷ us) (again rest))

-- ---- by `position`

pub record IsFirst (p : Unanswered → Bool) (ws : List Unanswered) (place : ℕ) : Type 0 where
  pub request : Unanswered
  pub found : find p ws ≡ Some request
  pub at : slice_get ws place ≡ Some request
  pub without : remove ws place ≡ without_first p ws
  pub place_is : place ≡ position_or_len p ws

pub first_at : (p : Unanswered → Bool) (ws : List Unanswered) (place : ℕ) → position p ws ≡ Some place → IsFirst p ws place
first_at p ws place is = by (cases_Bool (nat_lt (position_or_len p ws) (length ws)))
  where
    get_some : (us : List Unanswered) (n : ℕ) → n < length us → (w : Unanswered) × (slice_get us n ≡ Some w)
    get_some [] n few = absurd (omega (arith, few))
    get_some (u ∷ us) zero few = (u, refl)
    get_some (u ∷ us) (suc n) few = get_some us n (omega (arith, few))

    by : (nat_lt (position_or_len p ws) (length ws) ≡ true) ⊎ (nat_lt (position_or_len p ws) (length ws) ≡ false) → IsFirst p ws place
    by (inl inside) =
        let some : Some (position_or_len p ws) ≡ Some place = rw inside at is in
        let same : position_or_len p ws ≡ place = cc in
        let there = get_some ws (position_or_len p ws) (ltb-true (position_or_len p ws) (length ws) inside) in
        record {
          request = there.0;
          found = find_at p ws ∙ there.1;
          at = rw (sym same) there.1;
          without = rw (sym same) (without_at p ws);
          place_is = sym same;
        }
    by (inr outside) = let none : ◌≡◌ {A = Option ℕ} None (Some place) = rw outside at is in cc

pub none_at : (p : Unanswered → Bool) (ws : List Unanswered) → position p ws ≡ None → find p ws ≡ None
none_at p ws none = by (cases_Bool (nat_lt (position_or_len p ws) (length ws)))
  where
    get_none : (us : List Unanswered) (n : ℕ) → length us ≤ n → slice_get us n ≡ None
    get_none [] n many = refl
    get_none (u ∷ us) zero many = absurd (omega (arith, many))
    get_none (u ∷ us) (suc n) many = get_none us n (omega (arith, many))

    by : (nat_lt (position_or_len p ws) (length ws) ≡ true) ⊎ (nat_lt (position_or_len p ws) (length ws) ≡ false) → find p ws ≡ None
    by (inl inside) = let clash : ◌≡◌ {A = Option ℕ} (Some (position_or_len p ws)) None = rw inside at none in cc
    by (inr outside) = find_at p ws ∙ get_none ws (position_or_len p ws) (ltb-false (position_or_len p ws) (length ws) outside)

pub written_first : (id : ℕ) (ws : List Unanswered) (place : ℕ) (first : IsFirst is_unwritten ws place) (new : Unanswered)
    → new ≡ record { number = first.request.number; request = first.request.request; id = Some id } → set ws place new ≡ with_first_written id ws
written_first id ws place first new is = rw (is, first.place_is) (written_at id first.request ws first.found)

pub some_at : (p : Unanswered → Bool) (ws : List Unanswered) (place : Option ℕ) → place ≡ position p ws → is_some place ≡ true → (w : Unanswered) × (find p ws ≡ Some w)
some_at p ws None is some = absurd (false≢true some)
some_at p ws (Some n) is some = let first = first_at p ws n (sym is) in (first.request, first.found)

pub none_found : (p : Unanswered → Bool) (ws : List Unanswered) (place : Option ℕ) → place ≡ position p ws → is_some place ≡ false → find p ws ≡ None
none_found p ws None is none = none_at p ws (sym is)
none_found p ws (Some n) is none = absurd (false≢true (sym none))

-- what an index reads there
pub item_at : (ws : List Unanswered) (n : ℕ) (d w : Unanswered) → slice_get ws n ≡ Some w → slice_index_or ws n d ≡ w
item_at [] n d w is = let clash : None ≡ Some w = is in cc
item_at (u ∷ us) zero d w is = let first : Some u ≡ Some w = is in let same : u ≡ w = cc in same
item_at (u ∷ us) (suc n) d w is = item_at us n d w is
