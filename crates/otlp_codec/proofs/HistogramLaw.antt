-- The points of histograms and summaries: what is written reads back, and is short.
use Rattle.std.proofs.Common.{◌<◌, ◌^◌, List, [], ◌∷◌, refl, arith}
use Rattle.std.specs.List.{AllByRecursion}
use Rattle.std.proofs.lemmas.List.Elements.{recursion_from_All}
use Rattle.lists.proofs.Every.{every_weaker}
use Rattle.otlp_messages.specs.declared.messages.Message.TheVariants as messages
use Rattle.otlp_codec.specs.Limits.{level_limit}
use Rattle.otlp_model.specs.declared.histograms.HistPoint.{HistPoint}
use Rattle.otlp_model.specs.declared.histograms.Quantile.{Quantile}
use Rattle.otlp_model.specs.declared.histograms.SumPoint.{SumPoint}
use Rattle.otlp_model.specs.Weight.{weight_of_exemplar, weight_of_hist_point, weight_of_quantile, weight_of_sum_point}
use Rattle.otlp_model.specs.Real.{IsRealExemplar, IsRealHistPoint, IsRealQuantile, IsRealSumPoint}
use Rattle.otlp_model.specs.Profile.{IsProfileExemplar, IsProfileHistPoint, IsProfileSumPoint}
use Rattle.otlp_codec.specs.Points.{exemplar_in, hist_point_in, quantile_in, sum_point_in}
use Rattle.otlp_codec.specs.MetricSpelling.{canon_exemplar, canon_hist_point, canon_quantile, canon_sum_point}
use Rattle.otlp_codec.specs.lemmas.MetricsPassed.{hist_point_passes, quantile_passes, sum_point_passes}
use Rattle.otlp_codec.proofs.Chain.{Law, also, last, law_of}
use Rattle.otlp_codec.proofs.FieldLaw.{uint32_held, fixed64_held, many_held}
use Rattle.otlp_codec.proofs.Attributes.{pairs_held}
use Rattle.otlp_codec.proofs.NumberHeld.{optional_held, packed_held}
use Rattle.otlp_codec.proofs.PointLaw.{exemplar_law}

pub hist_point_law : (x : HistPoint) → IsRealHistPoint x → Law (IsProfileHistPoint x) messages.HistogramDataPoint level_limit hist_point_in canon_hist_point x (weight_of_hist_point x) 236
unfolding canon_hist_point
hist_point_law x real =
    let m = messages.HistogramDataPoint in
    law_of hist_point_in canon_hist_point
    (also (λ a r. record r { start = a }) (fixed64_held m 2 x.start refl refl real.start) refl (λ a v. refl)
    (also (λ a r. record r { time = a }) (fixed64_held m 3 x.time refl refl real.time) refl (λ a v. refl)
    (also (λ a r. record r { count = a }) (fixed64_held m 4 x.count refl refl real.count) refl (λ a v. refl)
    (also (λ a r. record r { sum = a }) (optional_held m 5 x.sum refl refl real.sum) refl (λ a v. refl)
    (also (λ a r. record r { buckets = a }) (packed_held m 6 x.buckets refl refl (recursion_from_All (λ n. n < 2 ^ 64) x.buckets real.buckets.at)) refl (λ a v. refl)
    (also (λ a r. record r { bounds = a }) (packed_held m 7 x.bounds refl refl (recursion_from_All (λ n. n < 2 ^ 64) x.bounds real.bounds.at)) refl (λ a v. refl)
    (also (λ a r. record r { exemplars = a }) (many_held IsProfileExemplar m 8 messages.Exemplar exemplar_in canon_exemplar 32 weight_of_exemplar 236 x.exemplars refl refl refl refl refl
    (every_weaker _ _ exemplar_law x.exemplars (recursion_from_All IsRealExemplar x.exemplars real.exemplars.at)) (λ p. recursion_from_All _ x.exemplars p.exemplars.at)) refl (λ a v. refl)
    (also (λ a r. record r { pairs = a }) (pairs_held m 9 x.pairs refl refl refl real.pairs (λ p. p.pairs.at)) refl (λ a v. refl)
    (also (λ a r. record r { flags = a }) (uint32_held m 10 x.flags refl refl real.flags) refl (λ a v. refl)
    (also (λ a r. record r { min = a }) (optional_held m 11 x.min refl refl real.min) refl (λ a v. refl)
    (also (λ a r. record r { max = a }) (optional_held m 12 x.max refl refl real.max) refl (λ a v. refl) last)))))))))))
    hist_point_passes refl refl (omega arith) (omega arith)

all_any : {A : Type 0} (xs : List A) → AllByRecursion (λ x. Unit {0}) xs
all_any [] = tt
all_any (x ∷ xs) = (tt, all_any xs)

-- a quantile is within the profile whatever it is
quantile_law : (x : Quantile) → IsRealQuantile x → Law (Unit {0}) messages.ValueAtQuantile level_limit quantile_in canon_quantile x (weight_of_quantile x) 20
unfolding canon_quantile
quantile_law x real =
    let m = messages.ValueAtQuantile in
    law_of quantile_in canon_quantile
    (also (λ a r. record r { quantile = a }) (fixed64_held m 1 x.quantile refl refl real.quantile) refl (λ a v. refl)
    (also (λ a r. record r { value = a }) (fixed64_held m 2 x.value refl refl real.value) refl (λ a v. refl) last))
    quantile_passes refl refl (omega arith) (omega arith)

pub sum_point_law : (x : SumPoint) → IsRealSumPoint x → Law (IsProfileSumPoint x) messages.SummaryDataPoint level_limit sum_point_in canon_sum_point x (weight_of_sum_point x) 236
unfolding canon_sum_point
sum_point_law x real =
    let m = messages.SummaryDataPoint in
    law_of sum_point_in canon_sum_point
    (also (λ a r. record r { start = a }) (fixed64_held m 2 x.start refl refl real.start) refl (λ a v. refl)
    (also (λ a r. record r { time = a }) (fixed64_held m 3 x.time refl refl real.time) refl (λ a v. refl)
    (also (λ a r. record r { count = a }) (fixed64_held m 4 x.count refl refl real.count) refl (λ a v. refl)
    (also (λ a r. record r { sum = a }) (fixed64_held m 5 x.sum refl refl real.sum) refl (λ a v. refl)
    (also (λ a r. record r { quantiles = a }) (many_held (λ q. Unit {0}) m 6 messages.ValueAtQuantile quantile_in canon_quantile 16 weight_of_quantile 20 x.quantiles refl refl refl refl refl
    (every_weaker _ _ quantile_law x.quantiles (recursion_from_All IsRealQuantile x.quantiles real.quantiles.at)) (λ p. all_any x.quantiles)) refl (λ a v. refl)
    (also (λ a r. record r { pairs = a }) (pairs_held m 7 x.pairs refl refl refl real.pairs (λ p. p.pairs.at)) refl (λ a v. refl)
    (also (λ a r. record r { flags = a }) (uint32_held m 8 x.flags refl refl real.flags) refl (λ a v. refl) last)))))))
    sum_point_passes refl refl (omega arith) (omega arith)
