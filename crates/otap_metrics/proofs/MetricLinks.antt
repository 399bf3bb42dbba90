-- Nothing is wrong with the ids of the tables of a request of metrics, nor do rows of one id differ.
use Rattle.std.proofs.Common.{◌≡◌, ◌∙◌, ℕ, ◌≤◌, ◌^◌, List, ◌∷◌, length, map, refl, sym, arith, inl, inr}
use Rattle.std.specs.Prelude.{Contains, ◌⊎◌}
use Rattle.std.specs.List.{flat_map}
use Rattle.std.proofs.lemmas.List.{length-map}
use Rattle.otlp_model.specs.Limits.{weight_limit}
use Rattle.otlp_model.specs.Weight.{weight_of}
use Rattle.otlp_model.specs.declared.groups.Resource.{Resource}
use Rattle.otlp_model.specs.declared.groups.ResourceGroup.{ResourceGroup}
use Rattle.otlp_model.specs.declared.groups.Scope.{Scope}
use Rattle.otlp_model.specs.declared.histograms.HistPoint.{HistPoint}
use Rattle.otlp_model.specs.declared.histograms.SumPoint.{SumPoint}
use Rattle.otlp_model.specs.declared.metrics.Exemplar.{Exemplar}
use Rattle.otlp_model.specs.declared.metrics.Metric.{Metric}
use Rattle.otlp_model.specs.declared.metrics.Point.{Point}
use Rattle.otlp_model.specs.declared.request.Request.TheVariants.{Metrics}
use Rattle.otlp_model.specs.declared.request.Signal.TheVariants as signal
use Rattle.otlp_model.specs.declared.value.Pair.{Pair}
use Rattle.otap_cells.specs.declared.payload.Kind.{Kind}
use Rattle.otap_cells.specs.declared.payload.Kind.TheVariants as table
use Rattle.otap_cells.specs.Cells.{Cell}
use Rattle.otap_cells.specs.Columns.{exemplars as exemplar_columns, hist_points as hist_columns, number_points, summary_points as summary_columns}
use Rattle.otap_cells.specs.Named.{table_named}
use Rattle.otap_groups.specs.Flat.{items_of, resources_of, scopes_of}
use Rattle.otap_attrs.specs.declared.refusal.RowRefusal.{RowRefusal}
use Rattle.otap_checks.specs.IdDefects.{IdDefect}
use Rattle.otap_checks.specs.Links.{items, links_of}
use Rattle.otap_checks.specs.Reading.{Disagrees}
use Rattle.otap_checks.specs.Written.{AreSound, HaveParentsIn, HasParentsIn, IsPartKind, IsSoundBy, Parts, link_of, pairs_below, parts_below}
use Rattle.otap_checks.proofs.FineWritten.{fine_ids, rows_alike}
use Rattle.otap_checks.proofs.MainKinds.{metrics_kind, other_name}
use Rattle.otap_checks.proofs.SeenParts.{seen_all}
use Rattle.otap_points.specs.Points.{exemplar_cells, hist_point_cells, point_cells, sum_point_cells}
use Rattle.otap_points.proofs.PointColumns.{exemplar_ids, exemplars_are_parts, hist_exemplar_ids, hist_exemplars_are_parts, hist_ids, hists_are_parts, point_ids, points_are_parts, summaries_are_parts, summary_ids}
use Rattle.otap_metrics.specs.Metrics.{hist_points_of, metric_cells, points_of, summary_points_of}
use Rattle.otap_metrics.specs.Tables.{below_metrics, exemplar_lists, hist_exemplar_lists, hist_lists, point_lists, summary_lists, tables_of_metrics}
use Rattle.otap_metrics.proofs.FewParts.{few_all_exemplars, few_all_points, few_exemplar_lists, few_exemplar_pairs, few_metrics, few_point_lists, few_point_pairs, few_resource_pairs, few_scope_pairs}
use Rattle.otap_metrics.proofs.FoundHists.{few_all_exemplars as few_all_hist_exemplars, few_all_hists, few_all_summaries, few_exemplar_lists as few_hist_exemplar_lists, few_exemplar_pairs as few_hist_exemplar_pairs, few_hist_lists, few_hist_pairs, few_summary_lists, few_summary_pairs}

-- ---- the kinds of parts

abbrev IsFront : ℕ → Type 0
IsFront column = (column ≡ 0) ⊎ (column ≡ 1)

number_kind : IsPartKind table.NumberPoints
unfolding number_points
number_kind = record { part = points_are_parts; ids = point_ids IsFront (inl refl) (inr refl); own = other_name _ refl }

summary_kind : IsPartKind table.SummaryPoints
unfolding summary_columns
summary_kind = record { part = summaries_are_parts; ids = summary_ids IsFront (inl refl) (inr refl); own = other_name _ refl }

hist_kind : IsPartKind table.HistPoints
unfolding hist_columns
hist_kind = record { part = hists_are_parts; ids = hist_ids IsFront (inl refl) (inr refl); own = other_name _ refl }

number_exemplar_kind : IsPartKind table.NumberExemplars
unfolding exemplar_columns
number_exemplar_kind = record { part = exemplars_are_parts; ids = exemplar_ids IsFront (inl refl) (inr refl); own = other_name _ refl }

hist_exemplar_kind : IsPartKind table.HistExemplars
unfolding exemplar_columns
hist_exemplar_kind = record { part = hist_exemplars_are_parts; ids = hist_exemplar_ids IsFront (inl refl) (inr refl); own = other_name _ refl }

-- ---- how many there are, and what they are

sound_parts : {C : Type 0} (kind : Kind) (f : C → List Cell) (lists : List (List C)) → IsPartKind kind → length lists ≤ 2 ^ 32 → length (flat_map (λ xs. xs) lists) ≤ 2 ^ 32
    → IsSoundBy kind (Parts (map (map f) lists))
sound_parts kind f lists is few few_all =
    let lists_are = length-map lists (map f) in
    let parts_are = seen_all f lists in (is, omega (arith, few, lists_are), omega (arith, few_all, parts_are))

module _ (groups : List (ResourceGroup Metric)) (light : weight_of (Metrics groups) ≤ weight_limit) where
  sound : AreSound (below_metrics groups)
  sound = (
    (refl, few_resource_pairs groups light),
    (
      (refl, few_scope_pairs groups light),
      (
        sound_parts table.NumberPoints point_cells (point_lists groups) number_kind (few_point_lists groups light) (few_all_points groups light),
        (
          sound_parts table.SummaryPoints sum_point_cells (summary_lists groups) summary_kind (few_summary_lists groups light) (few_all_summaries groups light),
          (
            sound_parts table.HistPoints hist_point_cells (hist_lists groups) hist_kind (few_hist_lists groups light) (few_all_hists groups light),
            (
              (refl, few_point_pairs groups light),
              (
                (refl, few_summary_pairs groups light),
                (
                  (refl, few_hist_pairs groups light),
                  (
                    sound_parts table.NumberExemplars exemplar_cells (exemplar_lists groups) number_exemplar_kind (few_exemplar_lists groups light) (few_all_exemplars groups light),
                    (
                      sound_parts table.HistExemplars exemplar_cells (hist_exemplar_lists groups) hist_exemplar_kind (few_hist_exemplar_lists groups light) (few_all_hist_exemplars groups light),
                      ((refl, few_exemplar_pairs groups light), ((refl, few_hist_exemplar_pairs groups light), tt)),
                    ),
                  ),
                ),
              ),
            ),
          ),
        ),
      ),
    ),
  )

  -- ---- their parents

  -- the parts of each metric
  of_items : {C : Type 0} (kind : Kind) (f : C → List Cell) (parts : Metric → List C)
      → HasParentsIn table.Metrics groups (below_metrics groups) (parts_below kind table.Metrics f (map parts (items_of groups)))
  of_items kind f parts = inl (record { kind = refl; at = inl refl; count = length-map (map parts (items_of groups)) (map f) ∙ length-map (items_of groups) parts })

  -- the attributes of parts, and the parts of parts
  pairs_of : {C : Type 0} (kind above of : Kind) (f : C → List Cell) (lists : List (List C)) (pairs : C → List Pair)
      → Contains (below_metrics groups) (parts_below above of f lists)
      → HasParentsIn table.Metrics groups (below_metrics groups) (pairs_below kind above 0 (map pairs (flat_map (λ xs. xs) lists)))
  pairs_of kind above of f lists pairs listed = inr (record {
    above = parts_below above of f lists;
    listed = listed;
    kind = refl;
    at = refl;
    lists = map (map f) lists;
    content = refl;
    count = length-map (flat_map (λ xs. xs) lists) pairs ∙ sym (seen_all f lists);
  })

  parts_of : {C D : Type 0} (kind above of : Kind) (f : C → List Cell) (g : D → List Cell) (lists : List (List C)) (parts : C → List D)
      → Contains (below_metrics groups) (parts_below above of f lists)
      → HasParentsIn table.Metrics groups (below_metrics groups) (parts_below kind above g (map parts (flat_map (λ xs. xs) lists)))
  parts_of kind above of f g lists parts listed = inr (record {
    above = parts_below above of f lists;
    listed = listed;
    kind = refl;
    at = refl;
    lists = map (map f) lists;
    content = refl;
    count = length-map (map parts (flat_map (λ xs. xs) lists)) (map g) ∙ length-map (flat_map (λ xs. xs) lists) parts ∙ sym (seen_all f lists);
  })

  linked : HaveParentsIn table.Metrics groups (below_metrics groups) (below_metrics groups)
  linked = (
    inl (record { kind = refl; at = inr (inl refl); count = length-map (resources_of groups) (λ (resource : Resource). resource.pairs) }),
    (
      inl (record { kind = refl; at = inr (inr refl); count = length-map (scopes_of groups) (λ (scope : Scope). scope.pairs) }),
      (
        of_items table.NumberPoints point_cells (λ (metric : Metric). points_of metric.shape),
        (
          of_items table.SummaryPoints sum_point_cells (λ (metric : Metric). summary_points_of metric.shape),
          (
            of_items table.HistPoints hist_point_cells (λ (metric : Metric). hist_points_of metric.shape),
            (
              pairs_of table.NumberPointAttrs table.NumberPoints table.Metrics point_cells (point_lists groups) (λ (point : Point). point.pairs) (2, omega arith, refl),
              (
                pairs_of table.SummaryPointAttrs table.SummaryPoints table.Metrics sum_point_cells (summary_lists groups) (λ (point : SumPoint). point.pairs) (3, omega arith, refl),
                (
                  pairs_of table.HistPointAttrs table.HistPoints table.Metrics hist_point_cells (hist_lists groups) (λ (point : HistPoint). point.pairs) (4, omega arith, refl),
                  (
                    parts_of table.NumberExemplars table.NumberPoints table.Metrics point_cells exemplar_cells (point_lists groups) (λ (point : Point). point.exemplars) (2, omega arith, refl),
                    (
                      parts_of table.HistExemplars table.HistPoints table.Metrics hist_point_cells exemplar_cells (hist_lists groups) (λ (point : HistPoint). point.exemplars) (4, omega arith, refl),
                      (
                        pairs_of table.NumberExemplarAttrs table.NumberExemplars table.NumberPoints exemplar_cells (exemplar_lists groups) (λ (exemplar : Exemplar). exemplar.pairs) (8, omega arith, refl),
                        (
                          pairs_of table.HistExemplarAttrs table.HistExemplars table.HistPoints exemplar_cells (hist_exemplar_lists groups) (λ (exemplar : Exemplar). exemplar.pairs) (9, omega arith, refl),
                          tt,
                        ),
                      ),
                    ),
                  ),
                ),
              ),
            ),
          ),
        ),
      ),
    ),
  )

  same_links : links_of signal.Metrics ≡ items table.Metrics ∷ map link_of (below_metrics groups)
  unfolding links_of
  same_links = refl

  pub ids_fine : (kind : Kind) (wrong : RowRefusal) → IdDefect signal.Metrics (tables_of_metrics groups) kind wrong → ⊥
  unfolding tables_of_metrics
  ids_fine = fine_ids table.Metrics metric_cells (below_metrics groups) groups refl metrics_kind (few_metrics groups light) sound linked signal.Metrics same_links

  pub rows_agree : Disagrees (table_named table.Metrics (tables_of_metrics groups)) → ⊥
  unfolding tables_of_metrics
  rows_agree = rows_alike table.Metrics metric_cells (below_metrics groups) groups refl metrics_kind (few_metrics groups light) sound linked
