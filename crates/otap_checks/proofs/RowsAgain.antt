-- The rows that are written for a request, and for parts, are those that their tables have.
use Rattle.std.proofs.Common.{◌≡◌, ◌≤◌, ◌^◌, List, length, map, drop, ◌∙◌}
use Rattle.std.specs.List.{flat_map}
use Rattle.otlp_model.specs.declared.groups.ResourceGroup.{ResourceGroup}
use Rattle.otap_cells.specs.declared.payload.Kind.{Kind}
use Rattle.otap_cells.specs.Cells.{Cell}
use Rattle.otap_cells.specs.Tables.{Table}
use Rattle.otap_groups.specs.Children.{numbered}
use Rattle.otap_groups.specs.Flat.{flat_items, items_of, numbered_rows, part_rows, placed}
use Rattle.otap_groups.specs.Kinds.{IsMain, IsPart}
use Rattle.otap_groups.specs.Rows.{child_rows, main_rows}
use Rattle.otap_groups.specs.Stored.{main_table, part_table}
use Rattle.otap_groups.proofs.StoredRows.{main_rows_of, part_rows_of}
use Rattle.otap_checks.specs.Reading.{main_rows_in, part_rows_in}
use Rattle.otap_attrs.proofs.TablePairs.{ids_are}

pub main_rows_again : {A : Type 0} (kind : Kind) (cells_of : A → List Cell) (groups : List (ResourceGroup A)) → IsMain kind → length (items_of groups) ≤ 2 ^ 32
    → numbered_rows cells_of 0 (flat_items groups) ≡ main_rows_in (main_table kind cells_of groups)
main_rows_again kind cells_of groups main few =
    let t : Table = main_table kind cells_of groups in
    let have = main_rows_of cells_of kind groups main few in
    have.are ∙ (λ i. main_rows (ids_are t 0 have.ids have.own i) (ids_are t 1 have.resource_ids have.resource i) (ids_are t 4 have.scope_ids have.scope i) t.rows)

pub part_rows_again : {C : Type 0} (kind : Kind) (cells_of : C → List Cell) (lists : List (List C)) → IsPart kind
    → length lists ≤ 2 ^ 32 → length (flat_map (λ (parts : List C). parts) lists) ≤ 2 ^ 32
    → part_rows numbered cells_of 0 (placed lists) ≡ part_rows_in (part_table kind cells_of lists)
part_rows_again kind cells_of lists part few_lists few =
    let t : Table = part_table kind cells_of lists in
    let have = part_rows_of kind cells_of lists part few_lists few in
    have.are ∙ (λ i. child_rows (ids_are t 0 have.ids have.own i) (ids_are t 1 have.parents have.above i) (map (drop 2) t.rows))
