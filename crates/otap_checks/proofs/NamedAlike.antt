-- The tables of a kind in two sets of which one reads as the other: the same pairs, the same ids, the same rows, and wrong values alike.
use Rattle.std.proofs.Common.{◌≡◌, ℕ, true, List, Option, map, drop}
use Rattle.std.specs.Prelude.{All}
use Rattle.otap_cells.specs.declared.payload.Kind.{Kind}
use Rattle.otap_cells.specs.Columns.{is_id_at}
use Rattle.otap_cells.specs.Continuing.{has_attributes}
use Rattle.otap_cells.specs.GivenIds.{ReadAs, ids_in}
use Rattle.otap_cells.specs.Named.{table_named}
use Rattle.otap_cells.specs.Tables.{Table}
use Rattle.otap_cells.proofs.KindNamed.{id_named}
use Rattle.otap_groups.specs.Kinds.{IsMain, IsPart}
use Rattle.otap_groups.specs.Rows.{child_rows}
use Rattle.otap_attrs.specs.Index.{pairs_in}
use Rattle.otap_attrs.proofs.TablePairs.{attribute_id}
use Rattle.otap_checks.specs.Reading.{HasAllIds, main_rows_in, part_rows_in}
use Rattle.otap_checks.proofs.ReadAlike.{all_ids_named, ids_same, main_rows_same, pairs_same, reads_named}

module _ (tables others : List Table) (reads : ReadAs tables others) (given : All HasAllIds others) where
  pub pairs_alike : (kind : Kind) → has_attributes kind ≡ true → (parent : Option ℕ) → pairs_in (table_named kind tables) parent ≡ pairs_in (table_named kind others) parent
  pairs_alike kind is parent =
      pairs_same (table_named kind tables) (table_named kind others) (reads_named tables others kind reads) (all_ids_named others kind given) parent
      (id_named kind 0 (attribute_id kind is) others)

  ids_alike : (kind : Kind) (column : ℕ) → is_id_at kind column ≡ true → ids_in (table_named kind tables) column ≡ ids_in (table_named kind others) column
  ids_alike kind column is =
      ids_same (table_named kind tables) (table_named kind others) (reads_named tables others kind reads) (all_ids_named others kind given) column (id_named kind column is others)

  pub parts_alike : (kind : Kind) → IsPart kind → part_rows_in (table_named kind tables) ≡ part_rows_in (table_named kind others)
  parts_alike kind part = λ i.
      child_rows (ids_alike kind 0 part.id i) (ids_alike kind 1 part.parent i) (map (drop 2) ((reads_named tables others kind reads).same.rows i))

  pub main_alike : (kind : Kind) → IsMain kind → main_rows_in (table_named kind tables) ≡ main_rows_in (table_named kind others)
  main_alike kind main =
      main_rows_same (table_named kind tables) (table_named kind others) (reads_named tables others kind reads) (all_ids_named others kind given)
      (id_named kind 0 main.id others) (id_named kind 1 main.resource_id others) (id_named kind 4 main.scope_id others)
