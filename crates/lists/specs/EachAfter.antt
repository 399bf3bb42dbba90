-- A relation that holds of each element of a list, or of two lists in step, after what came before it.
use Rattle.std.specs.Prelude.{List, [], ◌∷◌, ◌++◌, ⊤}

-- The two lists go in step, and R holds of each x and y after all xs and ys before them. The pasts come before the lists.
abbrev pub EachAfter : {A B : Type 0} → (List A → List B → A → B → Type 0) → List A → List B → List A → List B → Type 0
EachAfter R past past' [] [] = ⊤
EachAfter R past past' [] (y ∷ ys) = ⊥
EachAfter R past past' (x ∷ xs) [] = ⊥
EachAfter R past past' (x ∷ xs) (y ∷ ys) = R past past' x y × EachAfter R (past ++ x ∷ []) (past' ++ y ∷ []) xs ys

-- P holds of each element of a list after those before it. The past comes before the list.
abbrev pub AllAfter : {A : Type 0} → (List A → A → Type 0) → List A → List A → Type 0
AllAfter P past [] = ⊤
AllAfter P past (x ∷ xs) = P past x × AllAfter P (past ++ x ∷ []) xs
