-- Sums over what is made of other things.
use Rattle.std.proofs.Common.{◌≡◌, ℕ, ◌+◌, List, [], ◌∷◌, map, refl, sym, arith}
use Rattle.std.specs.Prelude.{sum_by}
use Rattle.std.specs.List.{flat_map}
use Rattle.std.proofs.lemmas.List.Sums.{sum_by-append, sum_by-cons}

pub sum_of_map : {A B : Type 0} (weigh : B → ℕ) (f : A → B) (xs : List A) → sum_by weigh (map f xs) ≡ sum_by (λ x. weigh (f x)) xs
sum_of_map weigh f [] = refl
sum_of_map weigh f (x ∷ xs) =
    let a = sum_by-cons weigh (f x) (map f xs) in
    let b = sum_by-cons (λ x. weigh (f x)) x xs in
    let more = sum_of_map weigh f xs in
    omega (arith, a, b, more)

pub sum_of_flat : {A B : Type 0} (weigh : B → ℕ) (f : A → List B) (xs : List A) → sum_by weigh (flat_map f xs) ≡ sum_by (λ x. sum_by weigh (f x)) xs
sum_of_flat weigh f [] = refl
sum_of_flat weigh f (x ∷ xs) =
    let a = sum_by-append weigh (f x) (flat_map f xs) in
    let b = sum_by-cons (λ x. sum_by weigh (f x)) x xs in
    let more = sum_of_flat weigh f xs in
    omega (arith, a, b, more)

pub sum_of_lists : {A : Type 0} (weigh : A → ℕ) (lists : List (List A)) → sum_by (λ xs. sum_by weigh xs) lists ≡ sum_by weigh (flat_map (λ (xs : List A). xs) lists)
sum_of_lists {A} weigh lists = sym (sum_of_flat weigh (λ (xs : List A). xs) lists)

pub sum_of_both : {A : Type 0} (f g : A → ℕ) (xs : List A) → sum_by (λ x. f x + g x) xs ≡ sum_by f xs + sum_by g xs
sum_of_both f g [] = refl
sum_of_both f g (x ∷ xs) =
    let a = sum_by-cons (λ x. f x + g x) x xs in
    let b = sum_by-cons f x xs in
    let c = sum_by-cons g x xs in
    let more = sum_of_both f g xs in
    omega (arith, a, b, c, more)
