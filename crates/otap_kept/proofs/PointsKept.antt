-- The points that are kept below metrics, with their attributes and exemplars.
use Rattle.std.proofs.Common.{◌≡◌, ℕ, ◌≤◌, ◌^◌, true, List, get_or, Option, None, Some, length, refl, ◌∙◌, ap}
use Rattle.std.specs.Prelude.{Contains}
use Rattle.std.specs.List.{AllZip}
use Rattle.otlp_model.specs.Same.{SameExemplar, SameOften}
use Rattle.otlp_model.specs.Weight.{total, weight_of_exemplar, weight_of_pair}
use Rattle.otlp_model.specs.declared.metrics.Exemplar.{Exemplar}
use Rattle.otlp_model.specs.declared.request.Signal.TheVariants as signal
use Rattle.otlp_model.specs.declared.value.Pair.{Pair}
use Rattle.otap_cells.specs.declared.payload.Kind.{Kind}
use Rattle.otap_cells.specs.declared.payload.Kind.TheVariants as table
use Rattle.otap_cells.specs.Cells.{Cell}
use Rattle.otap_cells.specs.Continuing.{has_attributes}
use Rattle.otap_cells.specs.Named.{table_named}
use Rattle.otap_cells.specs.Tables.{Table}
use Rattle.otap_groups.specs.Children.{children, numbered}
use Rattle.otap_groups.specs.Flat.{PlacedIn, part_rows}
use Rattle.otap_groups.specs.Kinds.{IsPart}
use Rattle.otap_groups.specs.Rows.{ChildRow}
use Rattle.otap_attrs.specs.Index.{pairs_in}
use Rattle.otap_checks.specs.Links.{links_of, parts}
use Rattle.otap_checks.specs.Reading.{part_rows_in}
use Rattle.otap_points.specs.Found.{exemplars_in}
use Rattle.otap_points.specs.Points.{exemplar_of}
use Rattle.otap_metrics.proofs.MetricsTold.{exemplar_weighs, same_exemplar}
use Rattle.otap_kept.specs.Clean.{AreCleanAndLight}
use Rattle.otap_kept.specs.Rows.{former_ids, own_cells, parts_under}
use Rattle.otap_kept.specs.Tables.{kept_parts}
use Rattle.otap_kept.proofs.Levels.{level_again, level_apart, level_few, pairs_alike, pairs_weigh, parts_alike, parts_weigh}
use Rattle.otap_kept.proofs.NewNumbers.{AreApart}
use Rattle.otap_kept.proofs.PairsBelow.{attributes_under, pairs_by_place, pairs_under, parts_before, parts_by_place}

module _ {C : Type 0} (point : List Cell → List Pair → List Exemplar → C) (tables : List Table) (own : List (Option ℕ)) (points exemplars pairs exemplar_pairs : Kind) where
  -- what is below a point
  abbrev Below : Type 0
  Below = List Pair × List Exemplar

  abbrev with_below : List Cell → Below → C
  with_below cells below = point cells below.0 below.1

  abbrev below_in : List Table → Option ℕ → Below
  below_in ts id = (pairs_in (table_named pairs ts) id, exemplars_in (table_named exemplars ts) (table_named exemplar_pairs ts) id)

  -- the points below a metric in tables
  abbrev pub points_found : List Table → Option ℕ → List C
  points_found ts = children (λ id cells. with_below cells (below_in ts id)) (part_rows_in (table_named points ts))

  abbrev pub kept_points : List (PlacedIn ChildRow)
  kept_points = parts_under own (part_rows_in (table_named points tables))

  abbrev pub kept_exemplars : List (PlacedIn ChildRow)
  kept_exemplars = parts_under (former_ids kept_points) (part_rows_in (table_named exemplars tables))

  -- and before attributes are sorted
  abbrev exemplar_pairs_before : Option ℕ → List Pair
  exemplar_pairs_before = pairs_under (former_ids kept_exemplars) (table_named exemplar_pairs tables)

  abbrev below_before : Option ℕ → Below
  below_before id = (
    pairs_under (former_ids kept_points) (table_named pairs tables) id,
    parts_before exemplar_of (former_ids kept_points) (part_rows_in (table_named exemplars tables)) exemplar_pairs_before id,
  )

  abbrev pub points_before : Option ℕ → List C
  points_before = parts_before with_below own (part_rows_in (table_named points tables)) below_before

  module _ (accepted : AreCleanAndLight signal.Metrics tables) (points_listed : Contains (links_of signal.Metrics) (parts points table.Metrics 0))
      (exemplars_listed : Contains (links_of signal.Metrics) (parts exemplars points 0)) (points_part : IsPart points) (exemplars_part : IsPart exemplars) where
    points_apart : AreApart (former_ids kept_points)
    points_apart = level_apart signal.Metrics tables accepted (parts points table.Metrics 0) points_listed refl points_part own

    few_points : length (former_ids kept_points) ≤ 2 ^ 32
    few_points = level_few signal.Metrics tables accepted (parts points table.Metrics 0) points_listed refl points_part own

    exemplars_apart : AreApart (former_ids kept_exemplars)
    exemplars_apart = level_apart signal.Metrics tables accepted (parts exemplars points 0) exemplars_listed refl exemplars_part (former_ids kept_points)

    few_exemplars : length (former_ids kept_exemplars) ≤ 2 ^ 32
    few_exemplars = level_few signal.Metrics tables accepted (parts exemplars points 0) exemplars_listed refl exemplars_part (former_ids kept_points)

    below_by_place : (k : ℕ) → below_before (Some k) ≡ below_in tables (get_or (former_ids kept_points) k None)
    below_by_place k = λ i. (
      pairs_by_place (former_ids kept_points) (table_named pairs tables) points_apart k i,
      parts_by_place exemplar_of (former_ids kept_points) (part_rows_in (table_named exemplars tables)) (pairs_in (table_named exemplar_pairs tables)) exemplar_pairs_before
          points_apart (pairs_by_place (former_ids kept_exemplars) (table_named exemplar_pairs tables) exemplars_apart) k i,
    )

    pub points_by_place : AreApart own → (k : ℕ) → points_before (Some k) ≡ points_found tables (get_or own k None)
    points_by_place apart k = parts_by_place with_below own (part_rows_in (table_named points tables)) (below_in tables) below_before apart below_by_place k

    module _ (others : List Table) (few : length own ≤ 2 ^ 32) (has_pairs : has_attributes pairs ≡ true) (has_exemplar_pairs : has_attributes exemplar_pairs ≡ true)
        (points_named : table_named points others ≡ kept_parts points kept_points)
        (pairs_named : table_named pairs others ≡ attributes_under pairs (former_ids kept_points) (table_named pairs tables))
        (exemplars_named : table_named exemplars others ≡ kept_parts exemplars kept_exemplars)
        (exemplar_pairs_named : table_named exemplar_pairs others ≡ attributes_under exemplar_pairs (former_ids kept_exemplars) (table_named exemplar_pairs tables)) where
      points_again : part_rows_in (table_named points others) ≡ part_rows numbered own_cells 0 kept_points
      points_again = ap part_rows_in points_named ∙ level_again signal.Metrics tables accepted (parts points table.Metrics 0) points_listed refl points_part own few

      exemplars_again : part_rows_in (table_named exemplars others) ≡ part_rows numbered own_cells 0 kept_exemplars
      exemplars_again =
          ap part_rows_in exemplars_named
          ∙ level_again signal.Metrics tables accepted (parts exemplars points 0) exemplars_listed refl exemplars_part (former_ids kept_points) few_points

      pub points_alike : (R : C → C → Type 0)
          → ((cells : List Cell) (xs ys : List Pair) (es fs : List Exemplar) → SameOften xs ys → AllZip SameExemplar es fs → R (point cells xs es) (point cells ys fs))
          → (id : Option ℕ) → AllZip R (points_before id) (points_found others id)
      points_alike R same id =
          parts_alike with_below own (part_rows_in (table_named points tables)) (part_rows_in (table_named points others)) below_before (below_in others) points_again id R
          (λ id cells. same cells _ _ _ _ (pairs_alike pairs (former_ids kept_points) tables others has_pairs few_points pairs_named id)
          (parts_alike exemplar_of (former_ids kept_points) (part_rows_in (table_named exemplars tables)) (part_rows_in (table_named exemplars others)) exemplar_pairs_before
          (pairs_in (table_named exemplar_pairs others)) exemplars_again id SameExemplar
          (λ id cells. same_exemplar cells _ _ (pairs_alike exemplar_pairs (former_ids kept_exemplars) tables others has_exemplar_pairs few_exemplars exemplar_pairs_named id))))

      pub points_weigh : (weigh : C → ℕ)
          → ((cells : List Cell) (xs ys : List Pair) (es fs : List Exemplar) → total 32 weight_of_pair xs ≡ total 32 weight_of_pair ys
          → total 32 weight_of_exemplar es ≡ total 32 weight_of_exemplar fs → weigh (point cells xs es) ≡ weigh (point cells ys fs))
          → (id : Option ℕ) → total 32 weigh (points_before id) ≡ total 32 weigh (points_found others id)
      points_weigh weigh same id =
          parts_weigh with_below own (part_rows_in (table_named points tables)) (part_rows_in (table_named points others)) below_before (below_in others) points_again id weigh
          (λ id cells. same cells _ _ _ _ (pairs_weigh pairs (former_ids kept_points) tables others has_pairs few_points pairs_named id)
          (parts_weigh exemplar_of (former_ids kept_points) (part_rows_in (table_named exemplars tables)) (part_rows_in (table_named exemplars others)) exemplar_pairs_before
          (pairs_in (table_named exemplar_pairs others)) exemplars_again id weight_of_exemplar
          (λ id cells. exemplar_weighs cells _ _ (pairs_weigh exemplar_pairs (former_ids kept_exemplars) tables others has_exemplar_pairs few_exemplars exemplar_pairs_named id))))
