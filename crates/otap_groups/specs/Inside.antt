-- Words of an invariant and of private contracts: rows by their places, and the index of children.
use Rattle.std.specs.Prelude.{◌≡◌, ◌-◌, ℕ, suc, ◌<◌, ◌≤◌, length, Bool, List, [], ◌∷◌, Option, None, Some, All, map, ◌==◌, ◌&&◌, not}
use Rattle.std.specs.List.{slice_index_or, range_with_len}
use Rattle.std.specs.List.Sorted.{IsNonDecreasingBy}
use Rattle.otap_cells.specs.Cells.{Cell}
use Rattle.otap_groups.specs.declared.entry.ChildEntry.{ChildEntry}
use Rattle.otap_groups.specs.declared.level.Level.{Level}
use Rattle.otap_groups.specs.declared.level.Level.TheVariants as level
use Rattle.otap_groups.specs.Disagree.{DifferBy}
use Rattle.otap_groups.specs.Found.{of_parent}
use Rattle.otap_groups.specs.Rows.{MainRow, cells_are, id_at, main_row, row_at, same_resource, same_scope}
use Rattle.otap_groups.specs.Runs.{runs}

-- rows from a place on
abbrev pub part : {A : Type 0} → (ℕ → A) → ℕ → ℕ → List A
part row from count = map row (range_with_len from count)

-- the rows from a place up to another
abbrev pub rows_between : List MainRow → ℕ → ℕ → List MainRow
rows_between front from to = part (row_at front) from (to - from)

-- which rows are in one group
abbrev pub same_at : Level → MainRow → MainRow → Bool
same_at level.Resource = same_resource
same_at level.Scope = same_scope

-- the group that begins at `from`, among the rows up to `to`, ends at `end`
abbrev pub EndsRun : Level → List MainRow → ℕ → ℕ → ℕ → Type 0
EndsRun level front from end to =
    runs (same_at level) (rows_between front from to) ≡ rows_between front from end ∷ runs (same_at level) (rows_between front end to)

-- the id of a resource or of a scope, and the cells beside it
abbrev pub id_by : Level → MainRow → Option ℕ
id_by level.Resource row = row.resource_id
id_by level.Scope row = row.scope_id

abbrev pub cells_by : Level → MainRow → List Cell
cells_by level.Resource row = row.resource
cells_by level.Scope row = row.scope

-- these cells of the row at a place of a table
abbrev pub cells_at : Level → List (List Cell) → ℕ → List Cell
cells_at level rows place = cells_by level (main_row None None None (slice_index_or rows place []))

-- two rows have one of these ids, and cells beside it that aren't equal
abbrev pub DifferAt : Level → List MainRow → Type 0
DifferAt level rows = DifferBy (id_by level) (cells_by level) rows

abbrev pub blank : ChildEntry
blank = record { parent = 0; place = 0 }

-- two entries have one parent, and rows whose cells aren't equal
abbrev pub clash : (MainRow → List Cell) → (ℕ → MainRow) → ChildEntry → ChildEntry → Bool
clash cells row a b = (a.parent == b.parent) && not (cells_are (cells (row a.place)) (cells (row b.place)))

-- the entry at a place has the parent of the one before it, and other cells
abbrev pub clash_at : Level → List MainRow → List ChildEntry → ℕ → Bool
clash_at level front entries place = clash (cells_by level) (row_at front) (slice_index_or entries (place - 1) blank) (slice_index_or entries place blank)

-- parents don't fall from entry to entry
abbrev pub AreByParent : List ChildEntry → Type 0
AreByParent entries = IsNonDecreasingBy (λ (e : ChildEntry). e.parent) entries

-- each entry's place is below a number
abbrev pub ArePlacesBelow : ℕ → List ChildEntry → Type 0
ArePlacesBelow end entries = All (λ (e : ChildEntry). e.place < end) entries

-- each entry's parent is below a number
abbrev pub AreParentsBelow : ℕ → List ChildEntry → Type 0
AreParentsBelow limit entries = All (λ (e : ChildEntry). e.parent < limit) entries

-- each entry's parent is the one at its place
abbrev pub AreNamedIn : List (Option ℕ) → List ChildEntry → Type 0
AreNamedIn parents entries = All (λ (e : ChildEntry). id_at parents e.place ≡ Some e.parent) entries

-- the entries of each parent are the same, in the same order
abbrev pub HaveSameParents : List ChildEntry → List ChildEntry → Type 0
HaveSameParents entries others = (parent : ℕ) → of_parent parent entries ≡ of_parent parent others

abbrev pub entry_before : ℕ → Option ℕ → List ChildEntry → List ChildEntry
entry_before place None entries = entries
entry_before place (Some parent) entries = record { parent = parent; place = place } ∷ entries

-- the entries of rows that have these parents, from a place on
abbrev pub entries_from : ℕ → List (Option ℕ) → List ChildEntry
entries_from place [] = []
entries_from place (parent ∷ parents) = entry_before place parent (entries_from (suc place) parents)

-- the entries of a parent, and of those after it, begin at a place
pub record BeginsParent (entries : List ChildEntry) (parent place : ℕ) : Type 0 where
  pub within : place ≤ length entries
  pub before : (k : ℕ) (d : ChildEntry) → k < place → (slice_index_or entries k d).parent < parent
  pub after : (k : ℕ) (d : ChildEntry) → place ≤ k → k < length entries → parent ≤ (slice_index_or entries k d).parent

-- those of each parent begin at its start
abbrev pub AreStarts : List ChildEntry → List ℕ → Type 0
AreStarts entries starts = (parent d : ℕ) → parent < length starts → BeginsParent entries parent (slice_index_or starts parent d)
