-- Tables of attributes as they are written.
use Rattle.std.specs.Prelude.{ℕ, List, [], ◌∷◌, length, map, nat_lt, Bool, true, ◌==◌, ◌&&◌, not, if◌then◌else◌}
use Rattle.otlp_model.specs.declared.value.Pair.{Pair}
use Rattle.otap_cells.specs.declared.payload.Kind.{Kind}
use Rattle.otap_cells.specs.Cells.{Cell}
use Rattle.otap_cells.specs.Tables.{Table, profile_table}
use Rattle.otap_groups.specs.Flat.{PlacedIn, placed}
use Rattle.otap_attrs.specs.Sorting.{coded_rows}
use Rattle.otap_attrs.specs.Values.{pair_row}

-- the row of a pair, before its parent is coded
abbrev pub row_of_pair : PlacedIn Pair → List Cell
row_of_pair p = pair_row p.parent p.part

-- THE TABLE of the pairs of these parents, one list for each parent
unfoldable pub attribute_table : Kind → List (List Pair) → Table
attribute_table kind lists = profile_table kind (coded_rows (map row_of_pair (placed lists)))

-- a table only where it has rows
abbrev pub where_rows : Table → List Table
where_rows t = if nat_lt 0 (length t.rows) then t ∷ [] else []

abbrev pub beside_kind : Table → Kind × Table
beside_kind t = (t.kind, t)

-- a number isn't in the list
abbrev pub missing : ℕ → List ℕ → Bool
missing n [] = true
missing n (m ∷ ms) = not (n == m) && missing n ms

-- no number is there twice
abbrev pub apart : List ℕ → Bool
apart [] = true
apart (n ∷ ns) = missing n ns && apart ns
