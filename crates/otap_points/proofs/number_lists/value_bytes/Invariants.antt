use Rattle.std.proofs.Common.{◌≡◌, ◌++◌, drop, map}
use Rattle.otlp_model.specs.declared.histograms.Quantile.{Quantile}
use Rattle.otap_points.specs.Lists.{bytes_of}
use Rattle.otap_points.proofs.number_lists.value_bytes.Given as goal

abbrev pub invariant-quantiles : goal.invariant-quantiles
invariant-quantiles l = l.bytes.items ++ bytes_of (map (λ (q : Quantile). q.value) (drop l.quantile-index l.quantiles)) ≡ bytes_of (map (λ (q : Quantile). q.value) l.quantiles)
