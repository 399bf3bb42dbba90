-- Children beside their parents.
use Rattle.std.specs.Prelude.{◌≡◌, ℕ, List, [], Option, None, Some, map, filter, ◌==◌}
use Rattle.otap_cells.specs.Cells.{Cell}
use Rattle.otap_groups.specs.declared.entry.ChildEntry.{ChildEntry}
use Rattle.otap_groups.specs.Found.{child_at, finds_in}

-- the children of a parent; of a row without an id there are none
abbrev pub beside : {C : Type 0} → Option ℕ → List (ℕ × C) → List C
beside None all = []
beside (Some parent) all = map (λ pair. pair.1) (filter (λ pair. pair.0 == parent) all)

-- the same, where the table of the children may be missing
abbrev pub beside_if : {C : Type 0} → Option ℕ → Option (List (ℕ × C)) → List C
beside_if parent made = finds_in (λ all above. beside above all) made parent

-- two ways to find the children of a parent are alike
abbrev pub FindAlike : {C : Type 0} → (Option ℕ → List C) → (Option ℕ → List C) → Type 0
FindAlike find other = (parent : Option ℕ) → find parent ≡ other parent

-- the children of each parent among these
abbrev pub Finds : {C : Type 0} → (Option ℕ → List C) → List (ℕ × C) → Type 0
Finds children all = (parent : Option ℕ) → beside parent all ≡ children parent

abbrev pub FindsIf : {C : Type 0} → (Option ℕ → List C) → Option (List (ℕ × C)) → Type 0
FindsIf children made = (parent : Option ℕ) → beside_if parent made ≡ children parent

-- the children of an index, each beside its parent
abbrev pub with_parents : {C : Type 0} → (Option ℕ → List Cell → C) → List (Option ℕ) → List (List Cell) → List ChildEntry → List (ℕ × C)
with_parents item ids cells entries = map (λ (e : ChildEntry). (e.parent, child_at item ids cells e.place)) entries
