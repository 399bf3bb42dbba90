-- What holds of each element of a list.
use Rattle.std.proofs.Common.{◌≡◌, ℕ, ◌≤◌, List, [], ◌∷◌, map, Bool, true, arith}
use Rattle.std.specs.List.{AllByRecursion, list_all}
use Rattle.std.proofs.lemmas.List.Sums.{AllPass-from_list_all}
use Rattle.std.proofs.lemmas.List.Elements.{recursion_from_All}
use Rattle.otlp_model.specs.Depth.{greatest}

pub tests_from : {A : Type 0} (p : A → Bool) (xs : List A) → list_all p xs ≡ true → AllByRecursion (λ x. p x ≡ true) xs
tests_from p xs h = recursion_from_All (λ x. p x ≡ true) xs (AllPass-from_list_all p xs h)

pub all_both : {A : Type 0} (P Q : A → Type 0) (xs : List A) → AllByRecursion P xs → AllByRecursion Q xs → AllByRecursion (λ x. P x × Q x) xs
all_both P Q [] p q = tt
all_both P Q (x ∷ xs) p q = ((p.0, q.0), all_both P Q xs p.1 q.1)

pub all_under : {A B : Type 0} (P : B → Type 0) (f : A → B) (xs : List A) → AllByRecursion (λ x. P (f x)) xs → AllByRecursion P (map f xs)
all_under P f [] h = tt
all_under P f (x ∷ xs) h = (h.0, all_under P f xs h.1)

pub below_greatest : {A : Type 0} (f : A → ℕ) (n : ℕ) (xs : List A) → greatest (map f xs) ≤ n → AllByRecursion (λ x. f x ≤ n) xs
below_greatest f n [] h = tt
below_greatest f n (x ∷ xs) h = (omega (arith, h), below_greatest f n xs (omega (arith, h)))
