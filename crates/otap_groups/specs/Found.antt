-- What an index of children finds for a parent.
use Rattle.std.specs.Prelude.{ℕ, List, [], Option, None, Some, map, filter, ◌==◌}
use Rattle.std.specs.List.{slice_index_or}
use Rattle.otap_cells.specs.Cells.{Cell}
use Rattle.otap_groups.specs.declared.entry.ChildEntry.{ChildEntry}
use Rattle.otap_groups.specs.Rows.{id_at}

-- the entries of a parent
abbrev pub of_parent : ℕ → List ChildEntry → List ChildEntry
of_parent parent entries = filter (λ (e : ChildEntry). e.parent == parent) entries

abbrev pub child_entries : Option ℕ → List ChildEntry → List ChildEntry
child_entries None entries = []
child_entries (Some parent) entries = of_parent parent entries

-- the part of the row at a place
abbrev pub child_at : {C : Type 0} → (Option ℕ → List Cell → C) → List (Option ℕ) → List (List Cell) → ℕ → C
child_at item ids cells place = item (id_at ids place) (slice_index_or cells place [])

-- what an index finds for a parent
abbrev pub found : {C : Type 0} → (Option ℕ → List Cell → C) → List (Option ℕ) → List (List Cell) → List ChildEntry → Option ℕ → List C
found item ids cells entries parent = map (λ (e : ChildEntry). child_at item ids cells e.place) (child_entries parent entries)

-- what a lookup finds, where there may be none
abbrev pub finds_in : {L C : Type 0} → (L → Option ℕ → List C) → Option L → Option ℕ → List C
finds_in finds None parent = []
finds_in finds (Some lookup) parent = finds lookup parent
