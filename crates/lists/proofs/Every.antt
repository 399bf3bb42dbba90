-- What holds of each element of a list.
use Rattle.std.proofs.Common.{◌≡◌, ◌⊎◌, ◌∙◌, ℕ, zero, suc, ◌<◌, Bool, true, List, [], ◌∷◌, ◌++◌, length, get_or, drop, map, refl, sym, ap, subst, arith, inl, inr}
use Rattle.std.specs.Prelude.{All, Contains}
use Rattle.std.specs.List.{AllByRecursion, flat_map, list_all}
use Rattle.std.proofs.lemmas.List.Elements.{All-nil, All-cons, All-append, All-head, All-tail}
use Rattle.std.proofs.lemmas.List.Sums.{AllPass-from_list_all}

pub every_contained : {A : Type 0} (P : A → Type 0) (xs : List A) (x : A) → AllByRecursion P xs → Contains xs x → P x
every_contained P [] x all (k, within, at) = absurd (omega arith)
every_contained P (y ∷ ys) x all (zero, within, at) = subst P at all.0
every_contained P (y ∷ ys) x all (suc k, within, at) = every_contained P ys x all.1 (k, omega arith, at)

pub every_weaker : {A : Type 0} (P Q : A → Type 0) → ((x : A) → P x → Q x) → (xs : List A) → AllByRecursion P xs → AllByRecursion Q xs
every_weaker P Q weaker [] all = tt
every_weaker P Q weaker (x ∷ xs) all = (weaker x all.0, every_weaker P Q weaker xs all.1)

pub every_at : {A : Type 0} (P : A → Type 0) (before after : List A) (x : A) → AllByRecursion P (before ++ x ∷ after) → P x
every_at P [] after x all = all.0
every_at P (y ∷ before) after x all = every_at P before after x all.1

pub every_drop : {A : Type 0} (P : A → Type 0) (n : ℕ) (xs : List A) → AllByRecursion P xs → AllByRecursion P (drop n xs)
every_drop P zero xs all = all
every_drop P (suc n) [] all = tt
every_drop P (suc n) (x ∷ xs) all = every_drop P n xs all.1

pub every_made : {A B : Type 0} (P : A → Type 0) (f : B → A) (ys : List B) → ((y : B) → P (f y)) → AllByRecursion P (map f ys)
every_made P f [] made = tt
every_made P f (y ∷ ys) made = (made y, every_made P f ys made)

pub every_append : {A : Type 0} (P : A → Type 0) (xs ys : List A) → AllByRecursion P xs → AllByRecursion P ys → AllByRecursion P (xs ++ ys)
every_append P [] ys front after = after
every_append P (x ∷ xs) ys front after = (front.0, every_append P xs ys front.1 after)

-- what follows from two facts holds of each element of which both hold
pub all_of_both : {A : Type 0} (P Q R : A → Type 0) → ((x : A) → P x → Q x → R x) → (xs : List A) → All P xs → All Q xs → All R xs
all_of_both P Q R both [] p q = All-nil R
all_of_both P Q R both (x ∷ xs) p q =
    All-cons R x xs (both x (All-head P x xs p) (All-head Q x xs q)) (all_of_both P Q R both xs (All-tail P x xs p) (All-tail Q x xs q))

-- a test that all elements pass, at one of them
pub all_pass_at : {A : Type 0} (p : A → Bool) (xs : List A) (i : ℕ) (d : A) → list_all p xs ≡ true → i < length xs → p (get_or xs i d) ≡ true
all_pass_at p xs i d all within = AllPass-from_list_all p xs all i d within

-- what holds of what is seen of each element holds of each element
pub all_unmapped : {A B : Type 0} (P : B → Type 0) (f : A → B) (xs : List A) → All P (map f xs) → All (λ x. P (f x)) xs
all_unmapped P f [] all = All-nil (λ x. P (f x))
all_unmapped P f (x ∷ xs) all = All-cons (λ x. P (f x)) x xs (All-head P (f x) (map f xs) all) (all_unmapped P f xs (All-tail P (f x) (map f xs) all))

pub found_all : {B X : Type 0} (deref : B → X) (P : X → Type 0) (found : List B) (xs : List X) → map deref found ≡ xs → All P xs → All (λ b. P (deref b)) found
found_all deref P found xs is all = all_unmapped P deref found (subst (All P) (sym is) all)

pub map_over : {B X Y : Type 0} (deref : B → X) (f : X → Y) (found : List B) → map (λ b. f (deref b)) found ≡ map f (map deref found)
map_over deref f [] = refl
map_over deref f (b ∷ bs) = ap (λ ys. f (deref b) ∷ ys) (map_over deref f bs)

-- elements that come back one by one
pub map_back : {A B : Type 0} (read : B → A) (write : A → B) (xs : List A) → AllByRecursion (λ x. read (write x) ≡ x) xs → map read (map write xs) ≡ xs
map_back read write [] back = refl
map_back read write (x ∷ xs) back = ap (λ y. y ∷ map read (map write xs)) back.0 ∙ ap (λ ys. x ∷ ys) (map_back read write xs back.1)

pub all_flat_map : {A B : Type 0} (P : B → Type 0) (f : A → List B) (xs : List A) → All (λ x. All P (f x)) xs → All P (flat_map f xs)
all_flat_map P f [] all = All-nil P
all_flat_map P f (x ∷ xs) all =
    All-append P (f x) (flat_map f xs) (All-head (λ x. All P (f x)) x xs all) (all_flat_map P f xs (All-tail (λ x. All P (f x)) x xs all))

pub all_joined : {A B : Type 0} (P : B → Type 0) (f : A → List B) (xs : List A) → All (λ x. All P (f x)) xs → All P (flat_map (λ (ys : List B). ys) (map f xs))
all_joined P f [] all = All-nil P
all_joined {B = B} P f (x ∷ xs) all =
    All-append P (f x) (flat_map (λ (ys : List B). ys) (map f xs)) (All-head (λ x. All P (f x)) x xs all) (all_joined P f xs (All-tail (λ x. All P (f x)) x xs all))

pub some_or_none : {A : Type 0} (P : A → Type 0) → ((x : A) → P x ⊎ (P x → ⊥)) → (xs : List A)
    → ((x : A) × Contains xs x × P x) ⊎ ((x : A) → Contains xs x → P x → ⊥)
some_or_none P decide [] = inr (λ x at is. absurd (omega (arith, at.1)))
some_or_none {A} P decide (x ∷ xs) = by_first (decide x) (some_or_none P decide xs)
  where
    after : (P x → ⊥) → ((y : A) → Contains xs y → P y → ⊥) → (y : A) → Contains (x ∷ xs) y → P y → ⊥
    after first none y (zero, within, at) is = first (subst P (sym at) is)
    after first none y (suc k, within, at) is = none y (k, omega arith, at) is

    by_first : P x ⊎ (P x → ⊥) → ((y : A) × Contains xs y × P y) ⊎ ((y : A) → Contains xs y → P y → ⊥)
        → ((y : A) × Contains (x ∷ xs) y × P y) ⊎ ((y : A) → Contains (x ∷ xs) y → P y → ⊥)
    by_first (inl is) rest = inl (x, (0, omega arith, refl), is)
    by_first (inr first) (inl (y, (k, within, at), is)) = inl (y, (suc k, omega arith, at), is)
    by_first (inr first) (inr none) = inr (after first none)
