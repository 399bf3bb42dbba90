-- What is found below a parent: the rows that name it, in their order.
use Rattle.std.specs.Prelude.{◌≡◌, ℕ, suc, List, [], ◌∷◌, Option, None, Some, map, filter}
use Rattle.otap_cells.specs.Cells.{Cell}
use Rattle.otap_groups.specs.Rows.{ChildRow, is_child_of}

-- the part that a row makes
abbrev pub child_of_row : {C : Type 0} → (Option ℕ → List Cell → C) → ChildRow → C
child_of_row item row = item row.id row.cells

-- THE CHILDREN of a parent; a row whose id is null has none
abbrev pub children : {C : Type 0} → (Option ℕ → List Cell → C) → List ChildRow → Option ℕ → List C
children item rows None = []
children item rows (Some parent) = map (child_of_row item) (filter (is_child_of parent) rows)

-- ---- the words of the laws

-- rows have running ids, or none
abbrev pub numbered : ℕ → Option ℕ
numbered n = Some n

abbrev pub unnumbered : ℕ → Option ℕ
unnumbered n = None

-- the parents from k on are found with these parts, one after the other
abbrev pub Agree : {C : Type 0} → (Option ℕ → C) → ℕ → List C → Type 0
Agree find k [] = Unit {0}
Agree find k (part ∷ parts) = (find (Some k) ≡ part) × Agree find (suc k) parts

-- the cells that are written for these parts, from id k on, are read as them
abbrev pub ReadsEach : {C : Type 0} → (ℕ → Option ℕ) → (C → List Cell) → (Option ℕ → List Cell → C) → ℕ → List C → Type 0
ReadsEach own cells_of item k [] = Unit {0}
ReadsEach own cells_of item k (part ∷ parts) = (item (own k) (cells_of part) ≡ part) × ReadsEach own cells_of item (suc k) parts
