-- The points of histograms and summaries are found in the rows that are written for them, before pairs are sorted and after.
use Rattle.std.proofs.Common.{◌≡◌, ℕ, ◌^◌, ◌≤◌, List, Option, length, refl, sym, ap, ◌∙◌, subst, arith}
use Rattle.std.specs.Prelude.{All}
use Rattle.std.specs.List.{AllZip}
use Rattle.std.proofs.lemmas.List.{length-map}
use Rattle.std.proofs.lemmas.List.Elements.{All-map, All-weaker, recursion_from_All}
use Rattle.lists.proofs.Every.{all_joined}
use Rattle.otlp_model.specs.Limits.{weight_limit}
use Rattle.otlp_model.specs.Profile.{IsProfile, IsProfileMetric}
use Rattle.otlp_model.specs.Real.{IsReal, IsRealMetric}
use Rattle.otlp_model.specs.Same.{SameExemplar, SameHistPoint, SameOften, SameSumPoint}
use Rattle.otlp_model.specs.Weight.{total, weight_of, weight_of_exemplar, weight_of_hist_point, weight_of_metric, weight_of_pair, weight_of_sum_point}
use Rattle.otlp_model.specs.declared.groups.ResourceGroup.{ResourceGroup}
use Rattle.otlp_model.specs.declared.histograms.HistPoint.{HistPoint}
use Rattle.otlp_model.specs.declared.histograms.SumPoint.{SumPoint}
use Rattle.otlp_model.specs.declared.metrics.Exemplar.{Exemplar}
use Rattle.otlp_model.specs.declared.metrics.Metric.{Metric}
use Rattle.otlp_model.specs.declared.request.Request.TheVariants.{Metrics}
use Rattle.otlp_model.specs.declared.value.Pair.{Pair}
use Rattle.otap_cells.specs.declared.payload.Kind.TheVariants as table
use Rattle.otap_cells.specs.Cells.{Cell}
use Rattle.otap_cells.specs.Tables.{Table}
use Rattle.otap_groups.specs.Children.{Agree, children, numbered}
use Rattle.otap_groups.specs.Flat.{items_of, part_rows, placed}
use Rattle.otap_groups.specs.Rows.{ChildRow}
use Rattle.otap_groups.specs.Stored.{part_table}
use Rattle.otap_groups.specs.Weighing.{CanWriteGroup}
use Rattle.otap_groups.proofs.AlikeLaws.{alike_children}
use Rattle.otap_groups.proofs.LightGroups.{children_weigh}
use Rattle.otap_groups.proofs.ReadLaws.{agree_two, agrees_with}
use Rattle.otap_groups.proofs.RealGroups.{real_groups}
use Rattle.otap_groups.proofs.WritableGroups.{all_items_can, few_items}
use Rattle.otap_attrs.specs.Tables.{attribute_table}
use Rattle.otap_attrs.specs.Index.{pairs_in}
use Rattle.otap_checks.specs.Reading.{part_rows_in}
use Rattle.otap_checks.proofs.PairsAgain.{AreBack, IsBackResource, IsBackScope, pairs_agree, pairs_back, sorted_alike, sorted_weigh, unsorted}
use Rattle.otap_checks.proofs.RowsAgain.{part_rows_again}
use Rattle.otap_metrics.specs.Metrics.{hist_points_of, summary_points_of}
use Rattle.otap_points.specs.Points.{exemplar_cells, exemplar_of, hist_point_cells, hist_point_of, sum_point_cells, sum_point_of}
use Rattle.otap_points.specs.Found.{exemplar_in, exemplars_in, hist_point_in, hist_points_in, summary_point_in, summary_points_in}
use Rattle.otap_points.proofs.PointsBack.{IsBackExemplar, IsBackHistPoint, IsBackSumPoint}
use Rattle.otap_points.proofs.PointColumns.{hist_exemplars_are_parts as exemplars_are_parts, hists_are_parts, summaries_are_parts}
use Rattle.otap_metrics.specs.Tables.{hist_lists, summary_lists, all_hist_exemplars, all_hist_points, all_summary_points, hist_exemplar_lists, hist_exemplar_pairs, hist_pairs, summary_pairs}
use Rattle.otap_metrics.proofs.MetricsTold.{same_exemplar, exemplar_weighs}
use Rattle.otap_metrics.proofs.HistsBack.{AreBackPoints, points_again}
use Rattle.otap_metrics.proofs.LightHists.{few_hist_exemplars, few_hist_points, few_summary_points}
use Rattle.otap_metrics.proofs.NamedTables.{HoldMetrics}

-- ---- what is found before pairs are sorted

module _ (groups : List (ResourceGroup Metric)) where
  abbrev pub exemplars_found : Option ℕ → List Exemplar
  exemplars_found = children (λ id cells. exemplar_of cells (unsorted (hist_exemplar_pairs groups) id)) (part_rows numbered exemplar_cells 0 (placed (hist_exemplar_lists groups)))

  abbrev pub hists_found : Option ℕ → List HistPoint
  hists_found =
      children (λ id cells. hist_point_of cells (unsorted (hist_pairs groups) id) (exemplars_found id)) (part_rows numbered hist_point_cells 0 (placed (hist_lists groups)))

  abbrev pub summaries_found : Option ℕ → List SumPoint
  summaries_found = children (λ id cells. sum_point_of cells (unsorted (summary_pairs groups) id)) (part_rows numbered sum_point_cells 0 (placed (summary_lists groups)))

-- ---- that it is what was written

abbrev HasHistsBack : ResourceGroup Metric → Type 0
HasHistsBack = CanWriteGroup IsBackResource IsBackScope AreBackPoints

groups_again : (groups : List (ResourceGroup Metric)) → IsReal (Metrics groups) → IsProfile (Metrics groups) → All HasHistsBack groups
groups_again groups real is = real_groups IsRealMetric IsProfileMetric AreBackPoints points_again AreBack pairs_back groups real.at is.at

module _ (groups : List (ResourceGroup Metric)) (real : IsReal (Metrics groups)) (is : IsProfile (Metrics groups)) where
  metrics_back : All AreBackPoints (items_of groups)
  metrics_back = all_items_can IsBackResource IsBackScope AreBackPoints groups (groups_again groups real is)

  hists_back : All IsBackHistPoint (all_hist_points groups)
  hists_back = all_joined IsBackHistPoint (λ (metric : Metric). hist_points_of metric.shape) (items_of groups)
      (All-weaker AreBackPoints (λ (metric : Metric). All IsBackHistPoint (hist_points_of metric.shape)) (λ metric back. back.hist_points) (items_of groups) metrics_back)

  summaries_back : All IsBackSumPoint (all_summary_points groups)
  summaries_back = all_joined IsBackSumPoint (λ (metric : Metric). summary_points_of metric.shape) (items_of groups)
      (All-weaker AreBackPoints (λ (metric : Metric). All IsBackSumPoint (summary_points_of metric.shape)) (λ metric back. back.summary_points) (items_of groups) metrics_back)

  exemplars_back : All IsBackExemplar (all_hist_exemplars groups)
  exemplars_back = all_joined IsBackExemplar (λ (point : HistPoint). point.exemplars) (all_hist_points groups)
      (All-weaker IsBackHistPoint (λ (point : HistPoint). All IsBackExemplar point.exemplars) (λ point back. back.exemplars) (all_hist_points groups) hists_back)

  exemplar_pairs_agree : Agree (unsorted (hist_exemplar_pairs groups)) 0 (hist_exemplar_pairs groups)
  exemplar_pairs_agree = pairs_agree (hist_exemplar_pairs groups) (All-map AreBack (λ (exemplar : Exemplar). exemplar.pairs) (all_hist_exemplars groups)
      (All-weaker IsBackExemplar (λ (exemplar : Exemplar). AreBack exemplar.pairs) (λ exemplar back. back.pairs) (all_hist_exemplars groups) exemplars_back))

  exemplars_agree : Agree (exemplars_found groups) 0 (hist_exemplar_lists groups)
  exemplars_agree =
      agrees_with exemplar_cells exemplar_of (λ (exemplar : Exemplar). exemplar.pairs) (unsorted (hist_exemplar_pairs groups)) IsBackExemplar (λ exemplar back. back.again)
      (hist_exemplar_lists groups) (recursion_from_All IsBackExemplar (all_hist_exemplars groups) exemplars_back) exemplar_pairs_agree

  hist_pairs_agree : Agree (unsorted (hist_pairs groups)) 0 (hist_pairs groups)
  hist_pairs_agree = pairs_agree (hist_pairs groups) (All-map AreBack (λ (point : HistPoint). point.pairs) (all_hist_points groups)
      (All-weaker IsBackHistPoint (λ (point : HistPoint). AreBack point.pairs) (λ point back. back.pairs) (all_hist_points groups) hists_back))

  pub hists_agree : Agree (hists_found groups) 0 (hist_lists groups)
  hists_agree =
      agrees_with {D = List Pair × List Exemplar} hist_point_cells (λ cells below. hist_point_of cells below.0 below.1) (λ (point : HistPoint). (point.pairs, point.exemplars))
      (λ id. (unsorted (hist_pairs groups) id, exemplars_found groups id)) IsBackHistPoint (λ point back. back.again)
      (hist_lists groups) (recursion_from_All IsBackHistPoint (all_hist_points groups) hists_back)
      (agree_two (unsorted (hist_pairs groups)) (exemplars_found groups) (λ (point : HistPoint). point.pairs) (λ (point : HistPoint). point.exemplars) 0 (all_hist_points groups)
      hist_pairs_agree exemplars_agree)

  summary_pairs_agree : Agree (unsorted (summary_pairs groups)) 0 (summary_pairs groups)
  summary_pairs_agree = pairs_agree (summary_pairs groups) (All-map AreBack (λ (point : SumPoint). point.pairs) (all_summary_points groups)
      (All-weaker IsBackSumPoint (λ (point : SumPoint). AreBack point.pairs) (λ point back. back.pairs) (all_summary_points groups) summaries_back))

  pub summaries_agree : Agree (summaries_found groups) 0 (summary_lists groups)
  summaries_agree =
      agrees_with sum_point_cells sum_point_of (λ (point : SumPoint). point.pairs) (unsorted (summary_pairs groups)) IsBackSumPoint (λ point back. back.again)
      (summary_lists groups) (recursion_from_All IsBackSumPoint (all_summary_points groups) summaries_back) summary_pairs_agree

-- ---- points that are read alike

same_hist : (cells : List Cell) (xs ys : List Pair) (es fs : List Exemplar) → SameOften xs ys → AllZip SameExemplar es fs → SameHistPoint (hist_point_of cells xs es) (hist_point_of cells ys fs)
unfolding hist_point_of
same_hist cells xs ys es fs same alike = record { scalars = refl; pairs = same; exemplars = alike }

same_summary : (cells : List Cell) (xs ys : List Pair) → SameOften xs ys → SameSumPoint (sum_point_of cells xs) (sum_point_of cells ys)
unfolding sum_point_of
same_summary cells xs ys same = record { scalars = refl; pairs = same }

hist_weighs : (cells : List Cell) (xs ys : List Pair) (es fs : List Exemplar) → total 32 weight_of_pair xs ≡ total 32 weight_of_pair ys
    → total 32 weight_of_exemplar es ≡ total 32 weight_of_exemplar fs → weight_of_hist_point (hist_point_of cells xs es) ≡ weight_of_hist_point (hist_point_of cells ys fs)
unfolding hist_point_of
hist_weighs cells xs ys es fs same alike = omega (arith, same, alike)

summary_weighs : (cells : List Cell) (xs ys : List Pair) → total 32 weight_of_pair xs ≡ total 32 weight_of_pair ys
    → weight_of_sum_point (sum_point_of cells xs) ≡ weight_of_sum_point (sum_point_of cells ys)
unfolding sum_point_of
summary_weighs cells xs ys same = omega (arith, same)

-- ---- few of each sort

module _ (groups : List (ResourceGroup Metric)) (light : weight_of (Metrics groups) ≤ weight_limit) where
  pub few_hist_lists : length (hist_lists groups) ≤ 2 ^ 32
  few_hist_lists = omega (arith, light, few_items weight_of_metric groups, length-map (items_of groups) (λ (metric : Metric). hist_points_of metric.shape))

  pub few_summary_lists : length (summary_lists groups) ≤ 2 ^ 32
  few_summary_lists = omega (arith, light, few_items weight_of_metric groups, length-map (items_of groups) (λ (metric : Metric). summary_points_of metric.shape))

  pub few_all_hists : length (all_hist_points groups) ≤ 2 ^ 32
  few_all_hists = omega (arith, light, few_hist_points groups)

  pub few_all_summaries : length (all_summary_points groups) ≤ 2 ^ 32
  few_all_summaries = omega (arith, light, few_summary_points groups)

  pub few_hist_pairs : length (hist_pairs groups) ≤ 2 ^ 32
  few_hist_pairs = omega (arith, light, few_hist_points groups, length-map (all_hist_points groups) (λ (point : HistPoint). point.pairs))

  pub few_summary_pairs : length (summary_pairs groups) ≤ 2 ^ 32
  few_summary_pairs = omega (arith, light, few_summary_points groups, length-map (all_summary_points groups) (λ (point : SumPoint). point.pairs))

  pub few_exemplar_lists : length (hist_exemplar_lists groups) ≤ 2 ^ 32
  few_exemplar_lists = omega (arith, light, few_hist_points groups, length-map (all_hist_points groups) (λ (point : HistPoint). point.exemplars))

  pub few_all_exemplars : length (all_hist_exemplars groups) ≤ 2 ^ 32
  few_all_exemplars = omega (arith, light, few_hist_exemplars groups)

  pub few_exemplar_pairs : length (hist_exemplar_pairs groups) ≤ 2 ^ 32
  few_exemplar_pairs = omega (arith, light, few_hist_exemplars groups, length-map (all_hist_exemplars groups) (λ (exemplar : Exemplar). exemplar.pairs))

  -- ---- after pairs are sorted

  abbrev y : Table
  y = part_table table.SummaryPoints sum_point_cells (summary_lists groups)

  abbrev h : Table
  h = part_table table.HistPoints hist_point_cells (hist_lists groups)

  abbrev yp : Table
  yp = attribute_table table.SummaryPointAttrs (summary_pairs groups)

  abbrev hp : Table
  hp = attribute_table table.HistPointAttrs (hist_pairs groups)

  abbrev e : Table
  e = part_table table.HistExemplars exemplar_cells (hist_exemplar_lists groups)

  abbrev ep : Table
  ep = attribute_table table.HistExemplarAttrs (hist_exemplar_pairs groups)

  exemplar_rows : part_rows numbered exemplar_cells 0 (placed (hist_exemplar_lists groups)) ≡ part_rows_in e
  exemplar_rows = part_rows_again table.HistExemplars exemplar_cells (hist_exemplar_lists groups) exemplars_are_parts few_exemplar_lists few_all_exemplars

  hist_rows : part_rows numbered hist_point_cells 0 (placed (hist_lists groups)) ≡ part_rows_in h
  hist_rows = part_rows_again table.HistPoints hist_point_cells (hist_lists groups) hists_are_parts few_hist_lists few_all_hists

  summary_rows : part_rows numbered sum_point_cells 0 (placed (summary_lists groups)) ≡ part_rows_in y
  summary_rows = part_rows_again table.SummaryPoints sum_point_cells (summary_lists groups) summaries_are_parts few_summary_lists few_all_summaries

  abbrev found_exemplar : Option ℕ → List Cell → Exemplar
  found_exemplar id cells = exemplar_of cells (unsorted (hist_exemplar_pairs groups) id)

  abbrev found_hist : Option ℕ → List Cell → HistPoint
  found_hist id cells = hist_point_of cells (unsorted (hist_pairs groups) id) (exemplars_found groups id)

  abbrev found_summary : Option ℕ → List Cell → SumPoint
  found_summary id cells = sum_point_of cells (unsorted (summary_pairs groups) id)

  exemplars_alike : (parent : Option ℕ) → AllZip SameExemplar (exemplars_found groups parent) (exemplars_in e ep parent)
  exemplars_alike parent =
      subst (λ (rows : List ChildRow). AllZip SameExemplar (exemplars_found groups parent) (children (exemplar_in ep) rows parent)) exemplar_rows
      (alike_children SameExemplar found_exemplar (exemplar_in ep)
      (λ id cells. same_exemplar cells (unsorted (hist_exemplar_pairs groups) id) (pairs_in ep id) (sorted_alike table.HistExemplarAttrs (hist_exemplar_pairs groups) refl few_exemplar_pairs id))
      (part_rows numbered exemplar_cells 0 (placed (hist_exemplar_lists groups))) parent)

  hists_alike : (parent : Option ℕ) → AllZip SameHistPoint (hists_found groups parent) (children (hist_point_in hp (exemplars_in e ep)) (part_rows_in h) parent)
  hists_alike parent =
      subst (λ (rows : List ChildRow). AllZip SameHistPoint (hists_found groups parent) (children (hist_point_in hp (exemplars_in e ep)) rows parent)) hist_rows
      (alike_children SameHistPoint found_hist (hist_point_in hp (exemplars_in e ep))
      (λ id cells. same_hist cells (unsorted (hist_pairs groups) id) (pairs_in hp id) (exemplars_found groups id) (exemplars_in e ep id)
      (sorted_alike table.HistPointAttrs (hist_pairs groups) refl few_hist_pairs id) (exemplars_alike id))
      (part_rows numbered hist_point_cells 0 (placed (hist_lists groups))) parent)

  summaries_alike : (parent : Option ℕ) → AllZip SameSumPoint (summaries_found groups parent) (children (summary_point_in yp) (part_rows_in y) parent)
  summaries_alike parent =
      subst (λ (rows : List ChildRow). AllZip SameSumPoint (summaries_found groups parent) (children (summary_point_in yp) rows parent)) summary_rows
      (alike_children SameSumPoint found_summary (summary_point_in yp)
      (λ id cells. same_summary cells (unsorted (summary_pairs groups) id) (pairs_in yp id) (sorted_alike table.SummaryPointAttrs (summary_pairs groups) refl few_summary_pairs id))
      (part_rows numbered sum_point_cells 0 (placed (summary_lists groups))) parent)

  exemplars_weigh : (parent : Option ℕ) → total 32 weight_of_exemplar (exemplars_found groups parent) ≡ total 32 weight_of_exemplar (exemplars_in e ep parent)
  exemplars_weigh parent =
      subst (λ (rows : List ChildRow). total 32 weight_of_exemplar (exemplars_found groups parent) ≡ total 32 weight_of_exemplar (children (exemplar_in ep) rows parent)) exemplar_rows
      (children_weigh weight_of_exemplar found_exemplar (exemplar_in ep)
      (λ id cells. exemplar_weighs cells (unsorted (hist_exemplar_pairs groups) id) (pairs_in ep id) (sorted_weigh table.HistExemplarAttrs (hist_exemplar_pairs groups) refl few_exemplar_pairs id))
      (part_rows numbered exemplar_cells 0 (placed (hist_exemplar_lists groups))) parent)

  hists_weigh : (parent : Option ℕ) → total 32 weight_of_hist_point (hists_found groups parent)
      ≡ total 32 weight_of_hist_point (children (hist_point_in hp (exemplars_in e ep)) (part_rows_in h) parent)
  hists_weigh parent =
      subst (λ (rows : List ChildRow). total 32 weight_of_hist_point (hists_found groups parent) ≡ total 32 weight_of_hist_point (children (hist_point_in hp (exemplars_in e ep)) rows parent)) hist_rows
      (children_weigh weight_of_hist_point found_hist (hist_point_in hp (exemplars_in e ep))
      (λ id cells. hist_weighs cells (unsorted (hist_pairs groups) id) (pairs_in hp id) (exemplars_found groups id) (exemplars_in e ep id)
      (sorted_weigh table.HistPointAttrs (hist_pairs groups) refl few_hist_pairs id) (exemplars_weigh id))
      (part_rows numbered hist_point_cells 0 (placed (hist_lists groups))) parent)

  summaries_weigh : (parent : Option ℕ) → total 32 weight_of_sum_point (summaries_found groups parent)
      ≡ total 32 weight_of_sum_point (children (summary_point_in yp) (part_rows_in y) parent)
  summaries_weigh parent =
      subst (λ (rows : List ChildRow). total 32 weight_of_sum_point (summaries_found groups parent) ≡ total 32 weight_of_sum_point (children (summary_point_in yp) rows parent)) summary_rows
      (children_weigh weight_of_sum_point found_summary (summary_point_in yp)
      (λ id cells. summary_weighs cells (unsorted (summary_pairs groups) id) (pairs_in yp id) (sorted_weigh table.SummaryPointAttrs (summary_pairs groups) refl few_summary_pairs id))
      (part_rows numbered sum_point_cells 0 (placed (summary_lists groups))) parent)

  -- ---- in tables among which they stand

  module _ (tables : List Table) (hold : HoldMetrics groups tables) where
    hists_are : (parent : Option ℕ) → children (hist_point_in hp (exemplars_in e ep)) (part_rows_in h) parent ≡ hist_points_in tables parent
    hists_are parent = λ i. children (hist_point_in (sym hold.of_hist_points i) (exemplars_in (sym hold.hist_exemplars i) (sym hold.of_hist_exemplars i))) (part_rows_in (sym hold.hist_points i)) parent

    summaries_are : (parent : Option ℕ) → children (summary_point_in yp) (part_rows_in y) parent ≡ summary_points_in tables parent
    summaries_are parent = λ i. children (summary_point_in (sym hold.of_summary_points i)) (part_rows_in (sym hold.summary_points i)) parent

    pub hists_told : (id : Option ℕ) → AllZip SameHistPoint (hists_found groups id) (hist_points_in tables id)
    hists_told id = subst (λ (points : List HistPoint). AllZip SameHistPoint (hists_found groups id) points) (hists_are id) (hists_alike id)

    pub summaries_told : (id : Option ℕ) → AllZip SameSumPoint (summaries_found groups id) (summary_points_in tables id)
    summaries_told id = subst (λ (points : List SumPoint). AllZip SameSumPoint (summaries_found groups id) points) (summaries_are id) (summaries_alike id)

    pub hists_light : (id : Option ℕ) → total 32 weight_of_hist_point (hists_found groups id) ≡ total 32 weight_of_hist_point (hist_points_in tables id)
    hists_light id = hists_weigh id ∙ ap (total 32 weight_of_hist_point) (hists_are id)

    pub summaries_light : (id : Option ℕ) → total 32 weight_of_sum_point (summaries_found groups id) ≡ total 32 weight_of_sum_point (summary_points_in tables id)
    summaries_light id = summaries_weigh id ∙ ap (total 32 weight_of_sum_point) (summaries_are id)
