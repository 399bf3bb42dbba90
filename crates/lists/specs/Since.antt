-- A list from its latest element on that passes a test, and the latest element of all.
use Rattle.std.specs.Prelude.{Bool, List, [], ◌∷◌, Option, Some, if◌then◌else◌}
use Rattle.std.specs.List.{list_any}

-- the list from its latest element on that passes the test, and all of it where none does
abbrev pub since : {A : Type 0} → (A → Bool) → List A → List A
since p [] = []
since p (x ∷ xs) = if list_any p xs then since p xs else x ∷ xs

-- the last element of a list, or what came before it
abbrev pub last_after : {A : Type 0} → Option A → List A → Option A
last_after last [] = last
last_after last (x ∷ xs) = last_after (Some x) xs
