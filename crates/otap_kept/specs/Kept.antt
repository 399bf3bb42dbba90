-- WHAT A FILTER KEEPS of the tables of a batch: the main rows that have a pair, and what is below these.
use Rattle.std.specs.Prelude.{ℕ, ◌==◌, ◌&&◌, Bool, if◌then◌else◌, filter, List, [], ◌∷◌, Option, None, Some, codes}
use Rattle.std.specs.List.{flat_map, list_any}
use Rattle.otlp_model.specs.declared.request.Signal.{Signal}
use Rattle.otlp_model.specs.declared.request.Signal.TheVariants as signal
use Rattle.otlp_model.specs.declared.value.Pair.{Pair}
use Rattle.otlp_model.specs.Equal.{pair_is}
use Rattle.otap_cells.specs.declared.payload.Kind.{Kind}
use Rattle.otap_cells.specs.declared.payload.Kind.TheVariants as table
use Rattle.otap_cells.specs.Columns.{common, place_in}
use Rattle.otap_cells.specs.Continuing.{has_attributes}
use Rattle.otap_cells.specs.Named.{table_named}
use Rattle.otap_cells.specs.Payload.{is_kind, main_of}
use Rattle.otap_cells.specs.Tables.{Table}
use Rattle.otap_groups.specs.Rows.{MainRow}
use Rattle.otap_attrs.specs.Index.{attribute_rows_in, pairs_in}
use Rattle.otap_attrs.specs.Tables.{where_rows}
use Rattle.otap_checks.specs.declared.signals.TableLink.{TableLink}
use Rattle.otap_checks.specs.declared.signals.Parents.{Parents}
use Rattle.otap_checks.specs.Links.{links_of}
use Rattle.otap_checks.specs.Reading.{main_rows_in, part_rows_in}
use Rattle.otap_kept.specs.declared.whose.Whose.{Whose}
use Rattle.otap_kept.specs.declared.whose.Whose.TheVariants as whose
use Rattle.otap_kept.specs.Numbers.{first_ids, rise_after}
use Rattle.otap_kept.specs.Rows.{former_ids, own_ids, parts_under, renewed, resource_ids, scope_ids, under}
use Rattle.otap_kept.specs.Tables.{kept_attributes, kept_main, kept_parts}

-- ---- which main rows

-- a pair is among some
abbrev pub has : Pair → List Pair → Bool
has pair pairs = list_any (pair_is pair) pairs

-- the pairs that are looked at: those of a row's item, or of its resource. A metric has none of its own
abbrev pub pairs_looked_at : Signal → Whose → List Table → MainRow → List Pair
pairs_looked_at of whose.Resource tables row = pairs_in (table_named table.ResourceAttrs tables) row.resource_id
pairs_looked_at signal.Logs whose.Item tables row = pairs_in (table_named table.LogAttrs tables) row.id
pairs_looked_at signal.Traces whose.Item tables row = pairs_in (table_named table.SpanAttrs tables) row.id
pairs_looked_at signal.Metrics whose.Item tables row = []

abbrev pub is_kept : Signal → Whose → Pair → List Table → MainRow → Bool
is_kept of by pair tables row = has pair (pairs_looked_at of by tables row)

-- THE MAIN ROWS THAT ARE KEPT, in their order
unfoldable pub kept_rows : Signal → Whose → Pair → List Table → List MainRow
kept_rows of by pair tables = filter (is_kept of by pair tables) (main_rows_in (table_named (main_of of) tables))

-- ---- what is below them, table by table; a table comes after that of its parents

-- the former ids of what is kept, in their new order: those of one column of the table of a kind
pub record KeptIds : Type 0 where
  pub kind : Kind
  pub column : ℕ
  pub ids : List (Option ℕ)

-- those of a column, where they are known
abbrev pub kept_ids : Kind → ℕ → List KeptIds → List (Option ℕ)
kept_ids kind column [] = []
kept_ids kind column (k ∷ known) = if is_kind k.kind kind && k.column == column then k.ids else kept_ids kind column known

-- those of the parents that a table names
abbrev pub parent_ids : Option Parents → List KeptIds → List (Option ℕ)
parent_ids None known = []
parent_ids (Some parents) known = kept_ids parents.of parents.at known

-- what is kept of the table of a kind, where these are the former ids of its parents
abbrev pub table_below : List Table → List (Option ℕ) → Kind → Table
table_below tables ids kind =
    if has_attributes kind then kept_attributes kind (under ids (attribute_rows_in (table_named kind tables)))
    else kept_parts kind (parts_under ids (part_rows_in (table_named kind tables)))

-- the ids that are known after this table: of parts their own too, which tables below them name as parents
abbrev pub known_after : List Table → List (Option ℕ) → Kind → List KeptIds → List KeptIds
known_after tables ids kind known =
    if has_attributes kind then known
    else record { kind = kind; column = 0; ids = former_ids (parts_under ids (part_rows_in (table_named kind tables))) } ∷ known

-- what is kept of the tables of these links, one after the other
abbrev pub kept_below : List Table → List KeptIds → List TableLink → List Table
kept_below tables known [] = []
kept_below tables known (link ∷ links) =
    table_below tables (parent_ids link.parents known) link.kind
    ∷ kept_below tables (known_after tables (parent_ids link.parents known) link.kind known) links

-- the ids of main rows: their own, and each of their resources and scopes once
abbrev pub main_ids : Kind → List MainRow → List KeptIds
main_ids main rows =
    record { kind = main; column = place_in common (codes "id"); ids = own_ids rows }
    ∷ record { kind = main; column = place_in common (codes "resource.id"); ids = first_ids (resource_ids rows) }
    ∷ record { kind = main; column = place_in common (codes "scope.id"); ids = first_ids (scope_ids rows) }
    ∷ []

-- the links of a signal below that of its main table
abbrev pub links_below : List TableLink → List TableLink
links_below [] = []
links_below (link ∷ links) = links

abbrev pub tables_below : Signal → List MainRow → List Table → List Table
tables_below of rows tables = kept_below tables (main_ids (main_of of) rows) (links_below (links_of of))

-- the tables of these main rows: their own, and of those below it the ones that have rows
abbrev pub kept_of : Signal → List MainRow → List Table → List Table
kept_of of rows tables = kept_main (main_of of) (renewed rows) ∷ flat_map where_rows (tables_below of rows tables)

-- THE TABLES THAT ARE KEPT, the main one first, then by ascending type
unfoldable pub kept : Signal → Whose → Pair → List Table → List Table
kept of by pair tables = kept_of of (kept_rows of by pair tables) tables

-- ---- whether they can be written

-- from a row to a later one neither the numbers of resources fall nor those of scopes
abbrev pub rise : List MainRow → Bool
rise rows = rise_after 0 (resource_ids rows) && rise_after 0 (scope_ids rows)

-- WHAT IS KEPT IS ORDERED: its new numbers don't fall
unfoldable pub is_ordered : Signal → Whose → Pair → List Table → Bool
is_ordered of by pair tables = rise (renewed (kept_rows of by pair tables))
