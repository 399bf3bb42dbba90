-- Points and exemplars come back from their cells.
use Rattle.std.proofs.Common.{◌≡◌, ℕ, ◌^◌, ◌<◌, List, [], ◌∷◌, Option, None, Some, map, refl, ap, ◌∙◌}
use Rattle.std.specs.Prelude.{All}
use Rattle.std.proofs.lemmas.List.Elements.{All-map, All-weaker}
use Rattle.lists.proofs.Every.{all_of_both}
use Rattle.otlp_model.specs.Profile.{IsProfileExemplar, IsProfileHistPoint, IsProfilePoint, IsProfileSumPoint}
use Rattle.otlp_model.specs.Real.{IsRealExemplar, IsRealHistPoint, IsRealPoint, IsRealQuantile, IsRealSumPoint}
use Rattle.otlp_model.specs.declared.histograms.HistPoint.{HistPoint}
use Rattle.otlp_model.specs.declared.histograms.Quantile.{Quantile}
use Rattle.otlp_model.specs.declared.histograms.SumPoint.{SumPoint}
use Rattle.otlp_model.specs.declared.metrics.Exemplar.{Exemplar}
use Rattle.otlp_model.specs.declared.metrics.Number.{Number}
use Rattle.otlp_model.specs.declared.metrics.Number.TheVariants as numbers
use Rattle.otlp_model.specs.declared.metrics.Point.{Point}
use Rattle.otap_cells.proofs.ScalarLaws.{bits_back, number_back, text_back}
use Rattle.otap_checks.proofs.PairsAgain.{AreBack, pairs_back}
use Rattle.otap_points.specs.Lists.{list_cell, list_in}
use Rattle.otap_points.specs.Numbers.{double_value, int_value, measured_in}
use Rattle.otap_points.specs.Points.{exemplar_cells, exemplar_of, hist_point_cells, hist_point_of, optional_cell, optional_in, point_cells, point_of, quantiles_of, sum_point_cells, sum_point_of}
use Rattle.otap_points.proofs.ListBytes.{list_back}

number_again : (n : Number) → measured_in (int_value n) (double_value n) ≡ n
number_again numbers.Missing = refl
number_again (numbers.Int n) = refl
number_again (numbers.Double n) = refl

optional_back : (n : Option ℕ) → optional_in (optional_cell n) ≡ n
optional_back None = refl
optional_back (Some n) = refl

-- ---- exemplars

pub record IsBackExemplar (exemplar : Exemplar) : Type 0 where
  pub again : exemplar_of (exemplar_cells exemplar) exemplar.pairs ≡ exemplar
  pub pairs : AreBack exemplar.pairs

exemplar_back : (exemplar : Exemplar) → exemplar_of (exemplar_cells exemplar) exemplar.pairs ≡ exemplar
unfolding exemplar_of
exemplar_back exemplar = λ i. record exemplar {
  time = bits_back exemplar.time i;
  value = number_again exemplar.value i;
  span_id = text_back exemplar.span_id i;
  trace_id = text_back exemplar.trace_id i;
}

pub exemplar_again : (exemplar : Exemplar) → IsRealExemplar exemplar → IsProfileExemplar exemplar → IsBackExemplar exemplar
exemplar_again exemplar real is = record { again = exemplar_back exemplar; pairs = pairs_back exemplar.pairs real.pairs is.pairs.at }

-- ---- points of gauges and sums

pub record IsBackPoint (point : Point) : Type 0 where
  pub again : point_of (point_cells point) point.pairs point.exemplars ≡ point
  pub pairs : AreBack point.pairs
  pub exemplars : All IsBackExemplar point.exemplars

point_back : (point : Point) → point_of (point_cells point) point.pairs point.exemplars ≡ point
unfolding point_of
point_back point = λ i. record point {
  start = bits_back point.start i;
  time = bits_back point.time i;
  value = number_again point.value i;
  flags = number_back point.flags i;
}

pub point_again : (point : Point) → IsRealPoint point → IsProfilePoint point → IsBackPoint point
point_again point real is = record {
  again = point_back point;
  pairs = pairs_back point.pairs real.pairs is.pairs.at;
  exemplars = all_of_both IsRealExemplar IsProfileExemplar IsBackExemplar exemplar_again point.exemplars real.exemplars.at is.exemplars.at;
}

pub points_again : (points : List Point) → All IsRealPoint points → All IsProfilePoint points → All IsBackPoint points
points_again = all_of_both IsRealPoint IsProfilePoint IsBackPoint point_again

-- ---- points of histograms

pub record IsBackHistPoint (point : HistPoint) : Type 0 where
  pub again : hist_point_of (hist_point_cells point) point.pairs point.exemplars ≡ point
  pub pairs : AreBack point.pairs
  pub exemplars : All IsBackExemplar point.exemplars

hist_back : (point : HistPoint) → IsRealHistPoint point → hist_point_of (hist_point_cells point) point.pairs point.exemplars ≡ point
unfolding hist_point_of
hist_back point real = λ i. record point {
  start = bits_back point.start i;
  time = bits_back point.time i;
  count = bits_back point.count i;
  buckets = list_back point.buckets real.buckets.at i;
  bounds = list_back point.bounds real.bounds.at i;
  sum = optional_back point.sum i;
  flags = number_back point.flags i;
  min = optional_back point.min i;
  max = optional_back point.max i;
}

pub hist_again : (point : HistPoint) → IsRealHistPoint point → IsProfileHistPoint point → IsBackHistPoint point
hist_again point real is = record {
  again = hist_back point real;
  pairs = pairs_back point.pairs real.pairs is.pairs.at;
  exemplars = all_of_both IsRealExemplar IsProfileExemplar IsBackExemplar exemplar_again point.exemplars real.exemplars.at is.exemplars.at;
}

-- ---- points of summaries

pub record IsBackSumPoint (point : SumPoint) : Type 0 where
  pub again : sum_point_of (sum_point_cells point) point.pairs ≡ point
  pub pairs : AreBack point.pairs

abbrev asked : List Quantile → List ℕ
asked quantiles = map (λ (q : Quantile). q.quantile) quantiles

abbrev values : List Quantile → List ℕ
values quantiles = map (λ (q : Quantile). q.value) quantiles

zip_back : (quantiles : List Quantile) → quantiles_of (asked quantiles) (values quantiles) ≡ quantiles
zip_back [] = refl
zip_back (q ∷ quantiles) = ap (λ qs. q ∷ qs) (zip_back quantiles)

quantiles_back : (quantiles : List Quantile) → All IsRealQuantile quantiles
    → quantiles_of (list_in (list_cell (asked quantiles))) (list_in (list_cell (values quantiles))) ≡ quantiles
quantiles_back quantiles real =
    let low : All (λ n. n < 2 ^ 64) (asked quantiles) = All-map (λ n. n < 2 ^ 64) (λ (q : Quantile). q.quantile) quantiles
    (All-weaker IsRealQuantile (λ (q : Quantile). q.quantile < 2 ^ 64) (λ q real. real.quantile) quantiles real) in
    let few : All (λ n. n < 2 ^ 64) (values quantiles) = All-map (λ n. n < 2 ^ 64) (λ (q : Quantile). q.value) quantiles
    (All-weaker IsRealQuantile (λ (q : Quantile). q.value < 2 ^ 64) (λ q real. real.value) quantiles real) in
    (λ i. quantiles_of (list_back (asked quantiles) low i) (list_back (values quantiles) few i)) ∙ zip_back quantiles

summary_back : (point : SumPoint) → IsRealSumPoint point → sum_point_of (sum_point_cells point) point.pairs ≡ point
unfolding sum_point_of
summary_back point real = λ i. record point {
  start = bits_back point.start i;
  time = bits_back point.time i;
  count = bits_back point.count i;
  sum = bits_back point.sum i;
  quantiles = quantiles_back point.quantiles real.quantiles.at i;
  flags = number_back point.flags i;
}

pub summary_again : (point : SumPoint) → IsRealSumPoint point → IsProfileSumPoint point → IsBackSumPoint point
summary_again point real is = record { again = summary_back point real; pairs = pairs_back point.pairs real.pairs is.pairs.at }
