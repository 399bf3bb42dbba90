-- What is made for one index after the other, and the indices of a group.
use Rattle.std.proofs.Common.{◌≡◌, ◌≢◌, ℕ, ◌+◌, ◌%◌, List, [], ◌∷◌, ◌++◌, refl, ap, zero-add, append-nil}
use Rattle.std.specs.Prelude.{◌==◌, map, if◌then◌else◌}
use Rattle.std.specs.List.{range_with_len}
use Rattle.std.proofs.lemmas.List.FromFn.{map-range_with_len_more, filter_of_map_range_with_len_more}
use Rattle.std.proofs.lemmas.Bool.{eq-eqb, ne_eqb}
use Rattle.std.proofs.lemmas.List.{map-append}
use Rattle.otlp_load.specs.Load.{places_below}

pub one_more : {X : Type 0} (f : ℕ → X) (k : ℕ) → map f (range_with_len 0 (k + 1)) ≡ map f (range_with_len 0 k) ++ f k ∷ []
one_more f k = map-range_with_len_more f 0 k k (zero-add k)

same_list : (xs : List ℕ) → map (λ k. k) xs ≡ xs
same_list [] = refl
same_list (k ∷ ks) = ap (λ rest. k ∷ rest) (same_list ks)

pub one_place_more : (g k : ℕ) → places_below (k + 1) g ≡ places_below k g ++ (if k % 3 == g then k ∷ [] else [])
unfolding places_below
one_place_more g k =
    let more = filter_of_map_range_with_len_more (λ n. n % 3 == g) (λ n. n) 0 k k (zero-add k) in
    rw (same_list (range_with_len 0 (k + 1)), same_list (range_with_len 0 k)) at more

pub no_places : (g : ℕ) → places_below 0 g ≡ []
unfolding places_below
no_places g = refl

-- what is made for each index of a group, where the next index is one of the group
pub made_for_one : {X : Type 0} (f : ℕ → X) (g k : ℕ) (made : List X) → made ≡ map f (places_below k g) → k % 3 ≡ g
    → made ++ f k ∷ [] ≡ map f (places_below (k + 1) g)
made_for_one f g k made so_far here =
    rw (one_place_more g k, eq-eqb (k % 3) g here, map-append f (places_below k g) (k ∷ [])) (ap (λ xs. xs ++ f k ∷ []) so_far)

-- and where it isn't
pub made_for_none : {X : Type 0} (f : ℕ → X) (g k : ℕ) (made : List X) → made ≡ map f (places_below k g) → k % 3 ≢ g
    → made ≡ map f (places_below (k + 1) g)
made_for_none f g k made so_far other =
    rw (one_place_more g k, ne_eqb (k % 3) g other, append-nil (places_below k g)) so_far
