-- What is stored in the tables that are kept reads as the rows with their new numbers.
use Rattle.std.proofs.Common.{◌≡◌, ◌≤◌, ◌^◌, ℕ, true, List, [], Option, drop, length, map, ◌∙◌, ap, subst, arith}
use Rattle.std.specs.Prelude.{IsPermutation}
use Rattle.otlp_model.specs.declared.request.Signal.{Signal}
use Rattle.otlp_model.specs.declared.value.Pair.{Pair}
use Rattle.otap_cells.specs.declared.payload.Kind.{Kind}
use Rattle.otap_cells.specs.Continuing.{has_attributes}
use Rattle.otap_cells.specs.Named.{table_named}
use Rattle.otap_cells.specs.Payload.{main_of}
use Rattle.otap_cells.specs.Tables.{Table}
use Rattle.otap_groups.specs.Children.{numbered, unnumbered}
use Rattle.otap_groups.specs.Flat.{part_rows}
use Rattle.otap_groups.specs.Kinds.{IsPart}
use Rattle.otap_groups.specs.Rows.{ChildRow, child_rows}
use Rattle.otap_attrs.specs.Index.{attribute_rows_in}
use Rattle.otap_attrs.proofs.TablePairs.{ids_are}
use Rattle.otap_checks.specs.Reading.{main_rows_in, part_rows_in}
use Rattle.otap_kept.specs.declared.whose.Whose.{Whose}
use Rattle.otap_kept.specs.Clean.{AreCleanAndLight}
use Rattle.otap_kept.specs.Kept.{is_ordered, kept, kept_rows}
use Rattle.otap_kept.specs.Rows.{own_cells, parts_under, renewed, under}
use Rattle.otap_kept.specs.Tables.{kept_attributes, kept_parts}
use Rattle.otap_kept.proofs.AttributeTables.{kept_has_rows}
use Rattle.otap_kept.proofs.KeptRows.{main_again}
use Rattle.otap_kept.proofs.MainTables.{under_low}
use Rattle.otap_kept.proofs.PartTables.{kept_parts_again, parts_few, parts_low, parts_rising}

pub main_read : (of : Signal) (by : Whose) (pair : Pair) (tables : List Table) → AreCleanAndLight of tables → is_ordered of by pair tables ≡ true
    → main_rows_in (table_named (main_of of) (kept of by pair tables)) ≡ renewed (kept_rows of by pair tables)
unfolding kept
main_read of by pair tables accepted ordered = main_again of by pair tables accepted ordered

pub parts_read : (kind : Kind) (ids : List (Option ℕ)) (rows : List ChildRow) → IsPart kind → length ids ≤ 2 ^ 32 → length rows ≤ 2 ^ 32
    → part_rows_in (kept_parts kind (parts_under ids rows)) ≡ part_rows numbered own_cells 0 (parts_under ids rows)
parts_read kind ids rows part few_ids few_rows =
    kept_parts_again kind (parts_under ids rows) part (omega (arith, parts_few ids rows, few_rows)) (parts_rising ids rows)
    (parts_low ids rows (under_low ids few_ids rows))

pub attributes_read : (kind : Kind) (ids : List (Option ℕ)) (rows : List ChildRow) → has_attributes kind ≡ true → length ids ≤ 2 ^ 32
    → IsPermutation (part_rows unnumbered own_cells 0 (under ids rows)) (attribute_rows_in (kept_attributes kind (under ids rows)))
attributes_read kind ids rows kinds few =
    let t : Table = kept_attributes kind (under ids rows) in
    let have = kept_has_rows kind (under ids rows) kinds (under_low ids few rows) in
    subst (IsPermutation (part_rows unnumbered own_cells 0 (under ids rows)))
    (have.1.are ∙ ap (λ parents. child_rows [] parents (map (drop 1) t.rows)) (ids_are t 0 have.1.parents have.1.above)) have.2
