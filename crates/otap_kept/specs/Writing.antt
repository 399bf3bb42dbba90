-- Words of private contracts: rows that are written with other ids.
use Rattle.std.specs.Prelude.{◌≡◌, ℕ, suc, Bool, ◌&&◌, true, List, [], ◌∷◌, Option, None, Some, codes, drop, map}
use Rattle.std.specs.List.{slice_index_or}
use Rattle.otap_cells.specs.declared.payload.Kind.{Kind}
use Rattle.otap_cells.specs.ByName.{cell_of, cells_from}
use Rattle.otap_cells.specs.Cells.{Cell, seen}
use Rattle.otap_cells.specs.Columns.{common, place_in}
use Rattle.otap_cells.specs.Continuing.{has_attributes}
use Rattle.otap_groups.specs.declared.entry.ChildEntry.{ChildEntry}
use Rattle.otap_groups.specs.Flat.{PlacedIn, placed_at}
use Rattle.otap_groups.specs.Kinds.{IsPart}
use Rattle.otap_groups.specs.Rows.{ChildRow, MainRow, child_row, id_at, main_row}
use Rattle.otap_groups.specs.Stored.{id_cell}
use Rattle.otap_checks.specs.declared.known.ColumnIds.{ColumnIds}
use Rattle.otap_checks.specs.declared.signals.TableLink.{TableLink}
use Rattle.otap_checks.specs.Known.{ids_named}
use Rattle.otap_kept.specs.declared.main_table.FrontIds.{FrontIds}
use Rattle.otap_kept.specs.Kept.{KeptIds}
use Rattle.otap_kept.specs.Numbering.{numbers_rise}
use Rattle.otap_kept.specs.Numbers.{first_ids}

-- the rows of attributes that have a number, with it in the place of their parent
abbrev pub with_number : Option ℕ → List Cell → List (List Cell) → List (List Cell)
with_number None row rows = rows
with_number (Some n) row rows = (id_cell n ∷ drop 1 row) ∷ rows

abbrev pub with_numbers : List (Option ℕ) → List (List Cell) → List (List Cell)
with_numbers [] rows = []
with_numbers (n ∷ ns) [] = []
with_numbers (n ∷ ns) (row ∷ rows) = with_number n row (with_numbers ns rows)

-- the part of an entry, which has the cells of the row at its place after the two ids
abbrev pub part_at : List (List Cell) → ChildEntry → PlacedIn ChildRow
part_at rows entry = placed_at entry.parent (child_row None None (drop 2 (slice_index_or rows entry.place [])))

-- the main rows at these places. Their own ids are n and the numbers after it; those of their resources and scopes are in these
-- lists, at the indexes of their own ids
abbrev pub main_at : List (Option ℕ) → List (Option ℕ) → List (List Cell) → ℕ → ℕ → MainRow
main_at resources scopes rows n place =
    main_row (Some n) (id_at resources n) (id_at scopes n) (slice_index_or rows place [])

abbrev pub mains_from : List (Option ℕ) → List (Option ℕ) → List (List Cell) → ℕ → List ℕ → List MainRow
mains_from resources scopes rows n [] = []
mains_from resources scopes rows n (place ∷ places) =
    main_at resources scopes rows n place ∷ mains_from resources scopes rows (suc n) places

-- a main row with these cells for its three ids
abbrev pub main_cells : FrontIds → List Cell → List Cell
main_cells ids row =
    seen ids.own
    ∷ seen ids.resource
    ∷ cell_of common (codes "resource.schema_url") row
    ∷ cell_of common (codes "resource.dropped_attributes_count") row
    ∷ seen ids.scope
    ∷ cells_from common (codes "scope.name") row

-- the ids of a column
abbrev pub seen_ids : ColumnIds → KeptIds
seen_ids ids = record { kind = ids.kind; column = ids.column; ids = ids.ids.items }

-- of a column of main rows, the ids at these places
abbrev pub ids_kept : Kind → List ColumnIds → List ℕ → ℕ → List (Option ℕ)
ids_kept main read places column = map (id_at (ids_named main column read)) places

-- whether the new numbers of these rows rise: those of their resources, and of their scopes
abbrev pub places_rise : Kind → List ColumnIds → List ℕ → Bool
places_rise main read places =
    numbers_rise (ids_kept main read places (place_in common (codes "resource.id")))
    && numbers_rise (ids_kept main read places (place_in common (codes "scope.id")))

-- of a column, what these ids become
abbrev pub column_kept : (List (Option ℕ) → List (Option ℕ)) → Kind → List ColumnIds → List ℕ → ℕ → KeptIds
column_kept become main read places column = record { kind = main; column = column; ids = become (ids_kept main read places column) }

-- the ids of these rows: their own, and each of their resources and scopes once
abbrev pub main_ids_kept : Kind → List ColumnIds → List ℕ → List KeptIds
main_ids_kept main read places =
    column_kept (λ ids. ids) main read places (place_in common (codes "id"))
    ∷ column_kept first_ids main read places (place_in common (codes "resource.id"))
    ∷ column_kept first_ids main read places (place_in common (codes "scope.id"))
    ∷ []

-- a table below others: attributes have no ids of their own, and parts have
pub record IsBelow (link : TableLink) : Type 0 where
  pub attributes : link.own ≡ None → has_attributes link.kind ≡ true
  pub parts : (column : ℕ) → link.own ≡ Some column → IsPart link.kind
