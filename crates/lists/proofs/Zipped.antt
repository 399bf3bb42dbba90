-- Lists that are alike one by one.
use Rattle.std.proofs.Common.{◌≡◌, ℕ, suc, ◌<◌, List, [], ◌∷◌, ◌++◌, length, get_or, arith}
use Rattle.std.specs.List.{AllZip}

pub zipped_from_places : {A B : Type 0} (R : A → B → Type 0) (xs : List A) (ys : List B) → length xs ≡ length ys
    → ((k : ℕ) (d : A) (e : B) → k < length xs → R (get_or xs k d) (get_or ys k e)) → AllZip R xs ys
zipped_from_places R [] [] long each = tt
zipped_from_places R [] (y ∷ ys) long each = absurd (omega arith)
zipped_from_places R (x ∷ xs) [] long each = absurd (omega arith)
zipped_from_places R (x ∷ xs) (y ∷ ys) long each =
    (each 0 x y (omega arith), zipped_from_places R xs ys (omega arith) (λ k d e h. each (suc k) d e (omega arith)))

pub zipped_append : {A B : Type 0} (R : A → B → Type 0) (xs xs' : List A) (ys ys' : List B)
    → AllZip R xs ys → AllZip R xs' ys' → AllZip R (xs ++ xs') (ys ++ ys')
zipped_append R [] xs' [] ys' h k = k
zipped_append R [] xs' (y ∷ ys) ys' h k = absurd h
zipped_append R (x ∷ xs) xs' [] ys' h k = absurd h
zipped_append R (x ∷ xs) xs' (y ∷ ys) ys' h k = (h.0, zipped_append R xs xs' ys ys' h.1 k)

pub zipped_front : {A B : Type 0} (R : A → B → Type 0) (xs xs' : List A) (ys ys' : List B)
    → length xs ≡ length ys → AllZip R (xs ++ xs') (ys ++ ys') → AllZip R xs ys
zipped_front R [] xs' [] ys' long h = tt
zipped_front R [] xs' (y ∷ ys) ys' long h = absurd (omega arith)
zipped_front R (x ∷ xs) xs' [] ys' long h = absurd (omega arith)
zipped_front R (x ∷ xs) xs' (y ∷ ys) ys' long h = (h.0, zipped_front R xs xs' ys ys' (omega arith) h.1)

pub zipped_rest : {A B : Type 0} (R : A → B → Type 0) (xs xs' : List A) (ys ys' : List B)
    → length xs ≡ length ys → AllZip R (xs ++ xs') (ys ++ ys') → AllZip R xs' ys'
zipped_rest R [] xs' [] ys' long h = h
zipped_rest R [] xs' (y ∷ ys) ys' long h = absurd (omega arith)
zipped_rest R (x ∷ xs) xs' [] ys' long h = absurd (omega arith)
zipped_rest R (x ∷ xs) xs' (y ∷ ys) ys' long h = zipped_rest R xs xs' ys ys' (omega arith) h.1
