-- Gauges, sums, histograms and summaries: what is written reads back, and is short.
use Rattle.std.proofs.Common.{List, refl, arith}
use Rattle.std.specs.Prelude.{FitsSigned}
use Rattle.std.specs.Int.{w32}
use Rattle.std.proofs.lemmas.List.Elements.{recursion_from_All}
use Rattle.lists.proofs.Every.{every_weaker}
use Rattle.otlp_messages.specs.declared.messages.Message.TheVariants as messages
use Rattle.otlp_codec.specs.Limits.{level_limit}
use Rattle.otlp_model.specs.Each.{Each}
use Rattle.otlp_model.specs.declared.metrics.Point.{Point}
use Rattle.otlp_model.specs.declared.histograms.SumPoint.{SumPoint}
use Rattle.otlp_model.specs.Weight.{total, weight_of_point, weight_of_hist_point, weight_of_sum_point}
use Rattle.otlp_model.specs.Real.{IsRealPoint, IsRealHistPoint, IsRealSumPoint}
use Rattle.otlp_model.specs.Profile.{IsProfilePoint, IsProfileHistPoint, IsProfileSumPoint}
use Rattle.otlp_codec.specs.declared.shapes.Sum.{Sum}
use Rattle.otlp_codec.specs.declared.shapes.Histogram.{Histogram}
use Rattle.otlp_codec.specs.Points.{point_in, hist_point_in, sum_point_in}
use Rattle.otlp_codec.specs.Metrics.{gauge_in, sum_in, histogram_in, summary_in}
use Rattle.otlp_codec.specs.MetricSpelling.{canon_point, canon_hist_point, canon_sum_point, canon_gauge, canon_sum, canon_histogram, canon_summary}
use Rattle.otlp_codec.specs.lemmas.MetricsPassed.{gauge_passes, sum_passes, histogram_passes, summary_passes}
use Rattle.otlp_codec.proofs.Chain.{Law, also, last, law_of}
use Rattle.otlp_codec.proofs.FieldLaw.{int32_held, bool_held, many_held}
use Rattle.otlp_codec.proofs.PointLaw.{point_law}
use Rattle.otlp_codec.proofs.HistogramLaw.{hist_point_law, sum_point_law}

pub gauge_law : (points : List Point) → Each IsRealPoint points → Law (Each IsProfilePoint points) messages.Gauge level_limit gauge_in canon_gauge points (total 32 weight_of_point points) 24
unfolding canon_gauge
gauge_law points real =
    law_of gauge_in canon_gauge
    (also (λ a r. a) (many_held IsProfilePoint messages.Gauge 1 messages.NumberDataPoint point_in canon_point 32 weight_of_point 236 points refl refl refl refl refl
    (every_weaker _ _ point_law points (recursion_from_All IsRealPoint points real.at)) (λ p. recursion_from_All _ points p.at)) refl (λ a v. refl) last)
    gauge_passes refl refl (omega arith) (omega arith)

pub sum_law : (x : Sum) → Each IsRealPoint x.points → FitsSigned w32 x.temporality
    → Law (Each IsProfilePoint x.points) messages.Sum level_limit sum_in canon_sum x (total 32 weight_of_point x.points) 24
unfolding canon_sum
sum_law x real fits =
    let m = messages.Sum in
    law_of sum_in canon_sum
    (also (λ a r. record r { points = a }) (many_held IsProfilePoint m 1 messages.NumberDataPoint point_in canon_point 32 weight_of_point 236 x.points refl refl refl refl refl
    (every_weaker _ _ point_law x.points (recursion_from_All IsRealPoint x.points real.at)) (λ p. recursion_from_All _ x.points p.at)) refl (λ a v. refl)
    (also (λ a r. record r { temporality = a }) (int32_held m 2 x.temporality refl refl fits) refl (λ a v. refl)
    (also (λ a r. record r { monotonic = a }) (bool_held m 3 x.monotonic refl refl) refl (λ a v. refl) last)))
    sum_passes refl refl (omega arith) (omega arith)

pub histogram_law : (x : Histogram) → Each IsRealHistPoint x.points → FitsSigned w32 x.temporality
    → Law (Each IsProfileHistPoint x.points) messages.Histogram level_limit histogram_in canon_histogram x (total 32 weight_of_hist_point x.points) 24
unfolding canon_histogram
histogram_law x real fits =
    let m = messages.Histogram in
    law_of histogram_in canon_histogram
    (also (λ a r. record r { points = a }) (many_held IsProfileHistPoint m 1 messages.HistogramDataPoint hist_point_in canon_hist_point 32 weight_of_hist_point 236 x.points refl refl refl refl refl
    (every_weaker _ _ hist_point_law x.points (recursion_from_All IsRealHistPoint x.points real.at)) (λ p. recursion_from_All _ x.points p.at)) refl (λ a v. refl)
    (also (λ a r. record r { temporality = a }) (int32_held m 2 x.temporality refl refl fits) refl (λ a v. refl) last))
    histogram_passes refl refl (omega arith) (omega arith)

pub summary_law : (points : List SumPoint) → Each IsRealSumPoint points
    → Law (Each IsProfileSumPoint points) messages.Summary level_limit summary_in canon_summary points (total 32 weight_of_sum_point points) 24
unfolding canon_summary
summary_law points real =
    law_of summary_in canon_summary
    (also (λ a r. a) (many_held IsProfileSumPoint messages.Summary 1 messages.SummaryDataPoint sum_point_in canon_sum_point 32 weight_of_sum_point 236 points refl refl refl refl refl
    (every_weaker _ _ sum_point_law points (recursion_from_All IsRealSumPoint points real.at)) (λ p. recursion_from_All _ points p.at)) refl (λ a v. refl) last)
    summary_passes refl refl (omega arith) (omega arith)
