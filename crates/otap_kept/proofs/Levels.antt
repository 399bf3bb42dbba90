-- One level of tables below others: the attributes that are kept, and the parts that are kept.
use Rattle.std.proofs.Common.{◌≡◌, ℕ, ◌≤◌, ◌^◌, true, List, Option, Some, length, map, drop, sym, ◌∙◌, ap, subst, arith}
use Rattle.std.specs.Prelude.{Contains}
use Rattle.std.specs.List.{AllZip}
use Rattle.std.proofs.lemmas.List.{length-map}
use Rattle.std.proofs.lemmas.List.FromFn.{length-map-range_with_len}
use Rattle.otlp_model.specs.Same.{SameOften}
use Rattle.otlp_model.specs.Weight.{total, weight_of_pair}
use Rattle.otlp_model.specs.declared.request.Signal.{Signal}
use Rattle.otap_cells.specs.declared.payload.Kind.{Kind}
use Rattle.otap_cells.specs.Cells.{Cell}
use Rattle.otap_cells.specs.Continuing.{has_attributes}
use Rattle.otap_cells.specs.GivenIds.{ids_in}
use Rattle.otap_cells.specs.Named.{table_named}
use Rattle.otap_cells.specs.Tables.{Table}
use Rattle.otap_groups.specs.Children.{children, numbered}
use Rattle.otap_groups.specs.Flat.{PlacedIn, part_rows}
use Rattle.otap_groups.specs.Kinds.{IsPart}
use Rattle.otap_groups.specs.Rows.{ChildRow, child_row_at, child_rows}
use Rattle.otap_groups.proofs.AlikeLaws.{alike_children}
use Rattle.otap_groups.proofs.LightGroups.{children_weigh}
use Rattle.otap_attrs.specs.Index.{attribute_rows_in, pairs_in}
use Rattle.otap_checks.specs.declared.signals.TableLink.{TableLink}
use Rattle.otap_checks.specs.Links.{links_of}
use Rattle.otap_checks.specs.Reading.{part_rows_in}
use Rattle.otap_kept.specs.Clean.{AreCleanAndLight}
use Rattle.otap_kept.specs.Rows.{former_ids, own_cells, parts_under, under}
use Rattle.otap_kept.specs.Tables.{kept_parts}
use Rattle.otap_kept.proofs.AcceptedTables.{few_rows, kept_parts_apart}
use Rattle.otap_kept.proofs.AttributeTables.{kept_pairs}
use Rattle.otap_kept.proofs.MainTables.{under_low}
use Rattle.otap_kept.proofs.NewNumbers.{AreApart}
use Rattle.otap_kept.proofs.PairsBelow.{attributes_under, pairs_under, parts_before}
use Rattle.otap_kept.proofs.PartTables.{kept_parts_again, parts_few, parts_low, parts_rising}
use Rattle.otap_kept.proofs.RenewedWeigh.{kept_pairs_weigh}

-- ---- attributes: the sort changes only in which order they are found

module _ (kind : Kind) (ids : List (Option ℕ)) (tables others : List Table) (attributes : has_attributes kind ≡ true) (few : length ids ≤ 2 ^ 32)
    (named : table_named kind others ≡ attributes_under kind ids (table_named kind tables)) (id : Option ℕ) where
  abbrev t : Table
  t = table_named kind tables

  pub pairs_alike : SameOften (pairs_under ids t id) (pairs_in (table_named kind others) id)
  pairs_alike =
      subst (λ (u : Table). SameOften (pairs_under ids t id) (pairs_in u id)) (sym named)
      (kept_pairs kind (under ids (attribute_rows_in t)) attributes (under_low ids few (attribute_rows_in t)) id)

  pub pairs_weigh : total 32 weight_of_pair (pairs_under ids t id) ≡ total 32 weight_of_pair (pairs_in (table_named kind others) id)
  pairs_weigh =
      kept_pairs_weigh kind (under ids (attribute_rows_in t)) attributes (under_low ids few (attribute_rows_in t)) id
      ∙ ap (λ (u : Table). total 32 weight_of_pair (pairs_in u id)) (sym named)

-- ---- parts

pub part_count : (t : Table) → length (part_rows_in t) ≡ length t.rows
unfolding child_rows
part_count t = length-map-range_with_len (child_row_at (ids_in t 0) (ids_in t 1) (map (drop 2) t.rows)) 0 (length (map (drop 2) t.rows)) ∙ length-map t.rows (drop 2)

module _ (of : Signal) (tables : List Table) (accepted : AreCleanAndLight of tables) (link : TableLink) (listed : Contains (links_of of) link) (own : link.own ≡ Some 0)
    (part : IsPart link.kind) (ids : List (Option ℕ)) where
  abbrev ps : List (PlacedIn ChildRow)
  ps = parts_under ids (part_rows_in (table_named link.kind tables))

  pub level_apart : AreApart (former_ids ps)
  level_apart = kept_parts_apart of tables accepted link listed own part.id ids

  few_ps : length ps ≤ 2 ^ 21
  few_ps =
      omega (arith, parts_few ids (part_rows_in (table_named link.kind tables)), part_count (table_named link.kind tables), few_rows of tables accepted link.kind)

  pub level_few : length (former_ids ps) ≤ 2 ^ 32
  level_few = omega (arith, length-map ps (λ (p : PlacedIn ChildRow). p.part.id), few_ps)

  -- the table that is kept has the parts with their new numbers
  pub level_again : length ids ≤ 2 ^ 32 → part_rows_in (kept_parts link.kind ps) ≡ part_rows numbered own_cells 0 ps
  level_again few =
      kept_parts_again link.kind ps part (omega (arith, few_ps)) (parts_rising ids (part_rows_in (table_named link.kind tables)))
      (parts_low ids (part_rows_in (table_named link.kind tables)) (under_low ids few (part_rows_in (table_named link.kind tables))))

-- parts that are read with what is below them in two ways are alike where each two are
module _ {C D : Type 0} (part : List Cell → D → C) (ids : List (Option ℕ)) (rows others : List ChildRow) (before after : Option ℕ → D)
    (again : others ≡ part_rows numbered own_cells 0 (parts_under ids rows)) (id : Option ℕ) where
  pub parts_alike : (R : C → C → Type 0) → ((id : Option ℕ) (cells : List Cell) → R (part cells (before id)) (part cells (after id)))
      → AllZip R (parts_before part ids rows before id) (children (λ id cells. part cells (after id)) others id)
  parts_alike R alike =
      subst (λ (xs : List ChildRow). AllZip R (parts_before part ids rows before id) (children (λ id cells. part cells (after id)) xs id)) (sym again)
      (alike_children R (λ id cells. part cells (before id)) (λ id cells. part cells (after id)) alike (part_rows numbered own_cells 0 (parts_under ids rows)) id)

  pub parts_weigh : (weigh : C → ℕ) → ((id : Option ℕ) (cells : List Cell) → weigh (part cells (before id)) ≡ weigh (part cells (after id)))
      → total 32 weigh (parts_before part ids rows before id) ≡ total 32 weigh (children (λ id cells. part cells (after id)) others id)
  parts_weigh weigh same =
      children_weigh weigh (λ id cells. part cells (before id)) (λ id cells. part cells (after id)) same (part_rows numbered own_cells 0 (parts_under ids rows)) id
      ∙ ap (λ (xs : List ChildRow). total 32 weigh (children (λ id cells. part cells (after id)) xs id)) (sym again)
