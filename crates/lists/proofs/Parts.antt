-- Parts of lists, and the element at an index of a list.
use Rattle.std.proofs.Common.{◌≡◌, ℕ, zero, suc, ◌+◌, ◌<◌, ◌≤◌, List, [], ◌∷◌, ◌++◌, length, get_or, take, drop, replicate, Option, Some, None, refl, ap, ◌∙◌, arith, length-drop}
use Rattle.std.proofs.lemmas.List.{drop-append-le, take-append-le}

-- what comes after leaves the parts before it
pub part_stays : {A : Type 0} (from len : ℕ) (old more : List A) → from + len ≤ length old → take len (drop from (old ++ more)) ≡ take len (drop from old)
part_stays from len old more h =
    let near : from ≤ length old = omega arith in
    let within : len ≤ length (drop from old) = omega (arith, length-drop from old) in
    ap (take len) (drop-append-le from old more near) ∙ take-append-le len (drop from old) more within

-- a list of one element over and over has it everywhere, and after its end too where it is the default
pub same_all_over : {A : Type 0} (n : ℕ) (x : A) (k : ℕ) → get_or (replicate n x) k x ≡ x
same_all_over zero x k = refl
same_all_over (suc n) x zero = refl
same_all_over (suc n) x (suc k) = same_all_over n x k

-- the indices before the first one that may be filled
pub nones_first : {A : Type 0} (k : ℕ) (xs : List (Option A)) → ((i : ℕ) → i < k → get_or xs i None ≡ None) → k ≤ length xs → replicate k None ≡ take k xs
nones_first zero xs none low = refl
nones_first (suc k) [] none low = absurd (omega (arith, low))
nones_first {A} (suc k) (None ∷ xs) none low =
    ap (λ (ys : List (Option A)). None ∷ ys) (nones_first k xs (λ i below. none (suc i) (omega (arith, below))) (omega (arith, low)))
nones_first (suc k) (Some x ∷ xs) none low = absurd (let wrong : Some x ≡ None = none 0 (omega arith) in cc)
