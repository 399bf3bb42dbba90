-- What the tables of a request of metrics weigh.
use Rattle.std.proofs.Common.{◌≡◌, ℕ, ◌+◌, ◌^◌, List, [], ◌∷◌, refl, ap, ◌∙◌, arith, map}
use Rattle.std.specs.Prelude.{min, sum_by}
use Rattle.lists.proofs.MadeSums.{sum_of_map, sum_of_lists, sum_of_both}
use Rattle.otlp_model.specs.declared.groups.Resource.{Resource}
use Rattle.otlp_model.specs.declared.groups.Scope.{Scope}
use Rattle.otlp_model.specs.declared.metrics.Point.{Point}
use Rattle.otap_groups.specs.Flat.{items_of, resources_of, scopes_of, resource_pairs, scope_pairs}
use Rattle.otap_groups.specs.Stored.{part_table}
use Rattle.otap_groups.specs.Weighing.{cells_weight, parts_weight, rows_of_groups}
use Rattle.otap_groups.proofs.RowsApart.{rows_apart}
use Rattle.otap_groups.proofs.RowsWeighed.{main_weighs, parts_weigh}
use Rattle.otap_attrs.specs.Tables.{attribute_table}
use Rattle.otap_points.specs.Weighing.{exemplar_weight, point_weight, hist_point_weight, summary_point_weight}
use Rattle.otap_points.specs.Points.{exemplar_cells, point_cells, hist_point_cells, sum_point_cells}
use Rattle.otap_metrics.specs.Metrics.{metric_cells, points_of, hist_points_of, summary_points_of}
use Rattle.otap_metrics.specs.Tables.{all_exemplars, all_points, below_metrics, exemplar_lists, exemplar_pairs, point_lists, point_pairs, tables_of_metrics, hist_lists, summary_lists, all_hist_exemplars, all_hist_points, all_summary_points, hist_exemplar_lists, hist_exemplar_pairs, hist_pairs, summary_pairs}
use Rattle.std.proofs.lemmas.List.Sums.{sum_by-cons}
use Rattle.otlp_model.specs.declared.groups.ResourceGroup.{ResourceGroup}
use Rattle.otlp_model.specs.declared.histograms.HistPoint.{HistPoint}
use Rattle.otlp_model.specs.declared.histograms.SumPoint.{SumPoint}
use Rattle.otlp_model.specs.declared.metrics.Exemplar.{Exemplar}
use Rattle.otlp_model.specs.declared.metrics.Metric.{Metric}
use Rattle.otlp_model.specs.declared.value.Pair.{Pair}
use Rattle.otap_cells.specs.declared.payload.Kind.TheVariants as table
use Rattle.otap_cells.specs.Cells.{Cell}
use Rattle.otap_cells.specs.Tables.{Table}
use Rattle.otap_cells.specs.Weights.{weight_of_table, weight_of_tables}
use Rattle.otap_attrs.specs.Values.{pair_cells}
use Rattle.otap_attrs.proofs.AttributesWeighed.{table_weighs}
use Rattle.otap_metrics.specs.Weighing.{metric_weight, points_weight}
use Rattle.otap_checks.specs.Written.{Written, pairs_below, parts_below, table_of}
use Rattle.otap_checks.proofs.AllWritten.{weighs}
use Rattle.otap_checks.proofs.SeenParts.{table_seen}

-- ---- points and exemplars, and their attributes

pub exemplars_split : (exemplars : List Exemplar)
    → sum_by exemplar_weight exemplars ≡ parts_weight exemplar_cells exemplars + sum_by (λ exemplar. parts_weight pair_cells exemplar.pairs) exemplars
exemplars_split [] = refl
exemplars_split (exemplar ∷ exemplars) =
    let a = sum_by-cons exemplar_weight exemplar exemplars in
    let b = sum_by-cons (λ (exemplar : Exemplar). 32 + cells_weight (exemplar_cells exemplar)) exemplar exemplars in
    let c = sum_by-cons (λ (exemplar : Exemplar). parts_weight pair_cells exemplar.pairs) exemplar exemplars in
    let more = exemplars_split exemplars in
    omega (arith, a, b, c, more)

points_split : (points : List Point)
    → sum_by point_weight points ≡ parts_weight point_cells points + sum_by (λ point. parts_weight pair_cells point.pairs) points
    + sum_by (λ point. sum_by exemplar_weight point.exemplars) points
points_split [] = refl
points_split (point ∷ points) =
    let a = sum_by-cons point_weight point points in
    let b = sum_by-cons (λ (point : Point). 32 + cells_weight (point_cells point)) point points in
    let c = sum_by-cons (λ (point : Point). parts_weight pair_cells point.pairs) point points in
    let d = sum_by-cons (λ (point : Point). sum_by exemplar_weight point.exemplars) point points in
    let more = points_split points in
    omega (arith, a, b, c, d, more)

module _ (groups : List (ResourceGroup Metric)) where
  abbrev points : Table
  points = part_table table.NumberPoints point_cells (point_lists groups)

  abbrev of_points : Table
  of_points = attribute_table table.NumberPointAttrs (point_pairs groups)

  abbrev exemplars : Table
  exemplars = part_table table.NumberExemplars exemplar_cells (exemplar_lists groups)

  abbrev of_exemplars : Table
  of_exemplars = attribute_table table.NumberExemplarAttrs (exemplar_pairs groups)

  points_weigh : weight_of_table points ≡ parts_weight point_cells (all_points groups)
  points_weigh = parts_weigh table.NumberPoints point_cells (point_lists groups) ∙ sum_of_lists (λ (point : Point). 32 + cells_weight (point_cells point)) (point_lists groups)

  exemplars_weigh : weight_of_table exemplars ≡ parts_weight exemplar_cells (all_exemplars groups)
  exemplars_weigh =
      parts_weigh table.NumberExemplars exemplar_cells (exemplar_lists groups)
      ∙ sum_of_lists (λ (exemplar : Exemplar). 32 + cells_weight (exemplar_cells exemplar)) (exemplar_lists groups)

  below_points : sum_by (λ (point : Point). sum_by exemplar_weight point.exemplars) (all_points groups) ≡ weight_of_table exemplars + weight_of_table of_exemplars
  below_points =
      let a = sum_of_map (λ (xs : List Exemplar). sum_by exemplar_weight xs) (λ (point : Point). point.exemplars) (all_points groups) in
      let b = sum_of_lists exemplar_weight (exemplar_lists groups) in
      let c = exemplars_split (all_exemplars groups) in
      let d = exemplars_weigh in
      let e = table_weighs table.NumberExemplarAttrs (exemplar_pairs groups) in
      let f = sum_of_map (parts_weight pair_cells) (λ (exemplar : Exemplar). exemplar.pairs) (all_exemplars groups) in
      omega (arith, a, b, c, d, e, f)

  below_metrics_weigh : sum_by (λ (metric : Metric). sum_by point_weight (points_of metric.shape)) (items_of groups)
      ≡ weight_of_table points + weight_of_table of_points + weight_of_table exemplars + weight_of_table of_exemplars
  below_metrics_weigh =
      let a = sum_of_map (λ (xs : List Point). sum_by point_weight xs) (λ (metric : Metric). points_of metric.shape) (items_of groups) in
      let b = sum_of_lists point_weight (point_lists groups) in
      let c = points_split (all_points groups) in
      let d = points_weigh in
      let e = table_weighs table.NumberPointAttrs (point_pairs groups) in
      let f = sum_of_map (parts_weight pair_cells) (λ (point : Point). point.pairs) (all_points groups) in
      let g = below_points in
      omega (arith, a, b, c, d, e, f, g)

-- ---- points of histograms and summaries

-- parts with their attributes below them
of_pairs : {A : Type 0} (cells_of : A → List Cell) (pairs : A → List Pair) (parts : List A)
    → sum_by (λ part. 32 + cells_weight (cells_of part) + parts_weight pair_cells (pairs part)) parts
    ≡ parts_weight cells_of parts + sum_by (parts_weight pair_cells) (map pairs parts)
of_pairs cells_of pairs parts =
    let a = sum_of_both (λ part. 32 + cells_weight (cells_of part)) (λ part. parts_weight pair_cells (pairs part)) parts in
    let b = sum_of_map (parts_weight pair_cells) pairs parts in
    omega (arith, a, b)

module _ (groups : List (ResourceGroup Metric)) where
  abbrev s : Table
  s = part_table table.SummaryPoints sum_point_cells (summary_lists groups)

  abbrev n : Table
  n = part_table table.HistPoints hist_point_cells (hist_lists groups)

  abbrev sp : Table
  sp = attribute_table table.SummaryPointAttrs (summary_pairs groups)

  abbrev np : Table
  np = attribute_table table.HistPointAttrs (hist_pairs groups)

  abbrev x : Table
  x = part_table table.HistExemplars exemplar_cells (hist_exemplar_lists groups)

  abbrev xp : Table
  xp = attribute_table table.HistExemplarAttrs (hist_exemplar_pairs groups)

  summaries_weigh : weight_of_table s ≡ parts_weight sum_point_cells (all_summary_points groups)
  summaries_weigh = parts_weigh table.SummaryPoints sum_point_cells (summary_lists groups) ∙ sum_of_lists (λ (point : SumPoint). 32 + cells_weight (sum_point_cells point)) (summary_lists groups)

  hists_weigh : weight_of_table n ≡ parts_weight hist_point_cells (all_hist_points groups)
  hists_weigh = parts_weigh table.HistPoints hist_point_cells (hist_lists groups) ∙ sum_of_lists (λ (point : HistPoint). 32 + cells_weight (hist_point_cells point)) (hist_lists groups)

  hist_exemplars_weigh : weight_of_table x ≡ parts_weight exemplar_cells (all_hist_exemplars groups)
  hist_exemplars_weigh =
      parts_weigh table.HistExemplars exemplar_cells (hist_exemplar_lists groups)
      ∙ sum_of_lists (λ (exemplar : Exemplar). 32 + cells_weight (exemplar_cells exemplar)) (hist_exemplar_lists groups)

  -- all exemplars, with what is below them
  below_hists : sum_by (λ (point : HistPoint). sum_by exemplar_weight point.exemplars) (all_hist_points groups) ≡ weight_of_table x + weight_of_table xp
  below_hists =
      let a = sum_of_map (λ (xs : List Exemplar). sum_by exemplar_weight xs) (λ (point : HistPoint). point.exemplars) (all_hist_points groups) in
      let b = sum_of_lists exemplar_weight (hist_exemplar_lists groups) in
      let c = of_pairs exemplar_cells (λ (exemplar : Exemplar). exemplar.pairs) (all_hist_exemplars groups) in
      let d = hist_exemplars_weigh in
      let e = table_weighs table.HistExemplarAttrs (hist_exemplar_pairs groups) in
      omega (arith, a, b, c, d, e)

  -- all points, with what is below them
  all_summaries : sum_by summary_point_weight (all_summary_points groups) ≡ weight_of_table s + weight_of_table sp
  all_summaries =
      let a = of_pairs sum_point_cells (λ (point : SumPoint). point.pairs) (all_summary_points groups) in
      let b = summaries_weigh in
      let c = table_weighs table.SummaryPointAttrs (summary_pairs groups) in
      omega (arith, a, b, c)

  all_hists : sum_by hist_point_weight (all_hist_points groups) ≡ weight_of_table n + weight_of_table np + weight_of_table x + weight_of_table xp
  all_hists =
      let a = sum_of_both (λ (point : HistPoint). 32 + cells_weight (hist_point_cells point))
      (λ (point : HistPoint). parts_weight pair_cells point.pairs + sum_by exemplar_weight point.exemplars) (all_hist_points groups) in
      let b = sum_of_both (λ (point : HistPoint). parts_weight pair_cells point.pairs) (λ (point : HistPoint). sum_by exemplar_weight point.exemplars) (all_hist_points groups) in
      let c = sum_of_map (parts_weight pair_cells) (λ (point : HistPoint). point.pairs) (all_hist_points groups) in
      let d = hists_weigh in
      let e = table_weighs table.HistPointAttrs (hist_pairs groups) in
      let f = below_hists in
      omega (arith, a, b, c, d, e, f)

-- ---- all of a request

twelve : (f : Written → ℕ) (a b c d e g h i j k l m : Written)
    → sum_by f (a ∷ b ∷ c ∷ d ∷ e ∷ g ∷ h ∷ i ∷ j ∷ k ∷ l ∷ m ∷ []) ≡ f a + f b + f c + f d + f e + f g + f h + f i + f j + f k + f l + f m
twelve f a b c d e g h i j k l m =
    let w1 = sum_by-cons f a (b ∷ c ∷ d ∷ e ∷ g ∷ h ∷ i ∷ j ∷ k ∷ l ∷ m ∷ []) in
    let w2 = sum_by-cons f b (c ∷ d ∷ e ∷ g ∷ h ∷ i ∷ j ∷ k ∷ l ∷ m ∷ []) in
    let w3 = sum_by-cons f c (d ∷ e ∷ g ∷ h ∷ i ∷ j ∷ k ∷ l ∷ m ∷ []) in
    let w4 = sum_by-cons f d (e ∷ g ∷ h ∷ i ∷ j ∷ k ∷ l ∷ m ∷ []) in
    let w5 = sum_by-cons f e (g ∷ h ∷ i ∷ j ∷ k ∷ l ∷ m ∷ []) in
    let w6 = sum_by-cons f g (h ∷ i ∷ j ∷ k ∷ l ∷ m ∷ []) in
    let w7 = sum_by-cons f h (i ∷ j ∷ k ∷ l ∷ m ∷ []) in
    let w8 = sum_by-cons f i (j ∷ k ∷ l ∷ m ∷ []) in
    let w9 = sum_by-cons f j (k ∷ l ∷ m ∷ []) in
    let w10 = sum_by-cons f k (l ∷ m ∷ []) in
    let w11 = sum_by-cons f l (m ∷ []) in
    let w12 = sum_by-cons f m [] in
    omega (arith, w1, w2, w3, w4, w5, w6, w7, w8, w9, w10, w11, w12)

module _ (groups : List (ResourceGroup Metric)) where
  -- the points of all metrics, sort by sort
  items_weigh : sum_by (λ (metric : Metric). points_weight metric.shape) (items_of groups)
      ≡ sum_by (λ (metric : Metric). sum_by point_weight (points_of metric.shape)) (items_of groups) + sum_by hist_point_weight (all_hist_points groups)
      + sum_by summary_point_weight (all_summary_points groups)
  items_weigh =
      let a = sum_of_both (λ (metric : Metric). sum_by point_weight (points_of metric.shape) + sum_by hist_point_weight (hist_points_of metric.shape))
      (λ (metric : Metric). sum_by summary_point_weight (summary_points_of metric.shape)) (items_of groups) in
      let b = sum_of_both (λ (metric : Metric). sum_by point_weight (points_of metric.shape)) (λ (metric : Metric). sum_by hist_point_weight (hist_points_of metric.shape)) (items_of groups) in
      let c = sum_of_map (λ (points : List HistPoint). sum_by hist_point_weight points) (λ (metric : Metric). hist_points_of metric.shape) (items_of groups) in
      let d = sum_of_lists hist_point_weight (hist_lists groups) in
      let e = sum_of_map (λ (points : List SumPoint). sum_by summary_point_weight points) (λ (metric : Metric). summary_points_of metric.shape) (items_of groups) in
      let f = sum_of_lists summary_point_weight (summary_lists groups) in
      omega (arith, a, b, c, d, e, f)

  -- the tables below the metrics, one by one
  below_weigh : sum_by (λ w. weight_of_table (table_of w)) (below_metrics groups)
      ≡ weight_of_table (attribute_table table.ResourceAttrs (resource_pairs groups))
      + weight_of_table (attribute_table table.ScopeAttrs (scope_pairs groups))
      + weight_of_table (part_table table.NumberPoints point_cells (point_lists groups))
      + weight_of_table (part_table table.SummaryPoints sum_point_cells (summary_lists groups))
      + weight_of_table (part_table table.HistPoints hist_point_cells (hist_lists groups))
      + weight_of_table (attribute_table table.NumberPointAttrs (point_pairs groups))
      + weight_of_table (attribute_table table.SummaryPointAttrs (summary_pairs groups))
      + weight_of_table (attribute_table table.HistPointAttrs (hist_pairs groups))
      + weight_of_table (part_table table.NumberExemplars exemplar_cells (exemplar_lists groups))
      + weight_of_table (part_table table.HistExemplars exemplar_cells (hist_exemplar_lists groups))
      + weight_of_table (attribute_table table.NumberExemplarAttrs (exemplar_pairs groups))
      + weight_of_table (attribute_table table.HistExemplarAttrs (hist_exemplar_pairs groups))
  below_weigh =
      let seen_n : weight_of_table (table_of (parts_below table.NumberPoints table.Metrics point_cells (point_lists groups))) ≡ weight_of_table (part_table table.NumberPoints point_cells (point_lists groups)) =
      ap weight_of_table (table_seen point_cells table.NumberPoints (point_lists groups)) in
      let seen_y : weight_of_table (table_of (parts_below table.SummaryPoints table.Metrics sum_point_cells (summary_lists groups))) ≡ weight_of_table (part_table table.SummaryPoints sum_point_cells (summary_lists groups)) =
      ap weight_of_table (table_seen sum_point_cells table.SummaryPoints (summary_lists groups)) in
      let seen_h : weight_of_table (table_of (parts_below table.HistPoints table.Metrics hist_point_cells (hist_lists groups))) ≡ weight_of_table (part_table table.HistPoints hist_point_cells (hist_lists groups)) =
      ap weight_of_table (table_seen hist_point_cells table.HistPoints (hist_lists groups)) in
      let seen_x : weight_of_table (table_of (parts_below table.NumberExemplars table.NumberPoints exemplar_cells (exemplar_lists groups))) ≡ weight_of_table (part_table table.NumberExemplars exemplar_cells (exemplar_lists groups)) =
      ap weight_of_table (table_seen exemplar_cells table.NumberExemplars (exemplar_lists groups)) in
      let seen_e : weight_of_table (table_of (parts_below table.HistExemplars table.HistPoints exemplar_cells (hist_exemplar_lists groups))) ≡ weight_of_table (part_table table.HistExemplars exemplar_cells (hist_exemplar_lists groups)) =
      ap weight_of_table (table_seen exemplar_cells table.HistExemplars (hist_exemplar_lists groups)) in
      let all : sum_by (λ w. weight_of_table (table_of w)) (below_metrics groups)
      ≡ weight_of_table (attribute_table table.ResourceAttrs (resource_pairs groups))
      + weight_of_table (attribute_table table.ScopeAttrs (scope_pairs groups))
      + weight_of_table (table_of (parts_below table.NumberPoints table.Metrics point_cells (point_lists groups)))
      + weight_of_table (table_of (parts_below table.SummaryPoints table.Metrics sum_point_cells (summary_lists groups)))
      + weight_of_table (table_of (parts_below table.HistPoints table.Metrics hist_point_cells (hist_lists groups)))
      + weight_of_table (attribute_table table.NumberPointAttrs (point_pairs groups))
      + weight_of_table (attribute_table table.SummaryPointAttrs (summary_pairs groups))
      + weight_of_table (attribute_table table.HistPointAttrs (hist_pairs groups))
      + weight_of_table (table_of (parts_below table.NumberExemplars table.NumberPoints exemplar_cells (exemplar_lists groups)))
      + weight_of_table (table_of (parts_below table.HistExemplars table.HistPoints exemplar_cells (hist_exemplar_lists groups)))
      + weight_of_table (attribute_table table.NumberExemplarAttrs (exemplar_pairs groups))
      + weight_of_table (attribute_table table.HistExemplarAttrs (hist_exemplar_pairs groups)) =
      twelve (λ w. weight_of_table (table_of w))
      (pairs_below table.ResourceAttrs table.Metrics 1 (resource_pairs groups))
      (pairs_below table.ScopeAttrs table.Metrics 4 (scope_pairs groups))
      (parts_below table.NumberPoints table.Metrics point_cells (point_lists groups))
      (parts_below table.SummaryPoints table.Metrics sum_point_cells (summary_lists groups))
      (parts_below table.HistPoints table.Metrics hist_point_cells (hist_lists groups))
      (pairs_below table.NumberPointAttrs table.NumberPoints 0 (point_pairs groups))
      (pairs_below table.SummaryPointAttrs table.SummaryPoints 0 (summary_pairs groups))
      (pairs_below table.HistPointAttrs table.HistPoints 0 (hist_pairs groups))
      (parts_below table.NumberExemplars table.NumberPoints exemplar_cells (exemplar_lists groups))
      (parts_below table.HistExemplars table.HistPoints exemplar_cells (hist_exemplar_lists groups))
      (pairs_below table.NumberExemplarAttrs table.NumberExemplars 0 (exemplar_pairs groups))
      (pairs_below table.HistExemplarAttrs table.HistExemplars 0 (hist_exemplar_pairs groups)) in
      omega (arith, all, seen_n, seen_y, seen_h, seen_x, seen_e)

  pub tables_weigh : rows_of_groups (λ resource. parts_weight pair_cells resource.pairs) (λ scope. parts_weight pair_cells scope.pairs) metric_weight groups
      ≡ weight_of_tables (tables_of_metrics groups)
  unfolding tables_of_metrics
  tables_weigh =
      let all = weighs table.Metrics metric_cells (below_metrics groups) groups in
      let below = below_weigh in
      let wr = table_weighs table.ResourceAttrs (resource_pairs groups) ∙ sum_of_map (parts_weight pair_cells) (λ (resource : Resource). resource.pairs) (resources_of groups) in
      let ws = table_weighs table.ScopeAttrs (scope_pairs groups) ∙ sum_of_map (parts_weight pair_cells) (λ (scope : Scope). scope.pairs) (scopes_of groups) in
      let wm = main_weighs metric_cells table.Metrics groups in
      let wn = below_metrics_weigh groups in
      let wh = all_hists groups in
      let wy = all_summaries groups in
      let items = items_weigh in
      let apart = rows_apart (λ (resource : Resource). parts_weight pair_cells resource.pairs) (λ (scope : Scope). parts_weight pair_cells scope.pairs)
      (λ (metric : Metric). cells_weight (metric_cells metric)) (λ (metric : Metric). points_weight metric.shape) groups in
      omega (arith, all, below, wr, ws, wm, wn, wh, wy, items, apart)

pub weighed : (groups gs : List (ResourceGroup Metric)) (n : ℕ) → gs ≡ groups
    → n ≡ min (rows_of_groups (λ resource. parts_weight pair_cells resource.pairs) (λ scope. parts_weight pair_cells scope.pairs) metric_weight gs) (2 ^ 63)
    → n ≡ min (weight_of_tables (tables_of_metrics groups)) (2 ^ 63)
weighed groups gs n same is =
    is ∙ ap (λ m. min m (2 ^ 63)) (tables_weigh gs) ∙ ap (λ gs. min (weight_of_tables (tables_of_metrics gs)) (2 ^ 63)) same
