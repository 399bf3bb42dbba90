-- Words of private contracts: what is found below a metric.
use Rattle.std.specs.Prelude.{ℕ, List, Option}
use Rattle.otlp_model.specs.declared.histograms.HistPoint.{HistPoint}
use Rattle.otlp_model.specs.declared.histograms.SumPoint.{SumPoint}
use Rattle.otlp_model.specs.declared.metrics.Point.{Point}
use Rattle.otap_metrics.specs.Metrics.{Below}

-- what is found below an id, where points of each kind are found in these ways
abbrev pub below_by : (Option ℕ → List Point) → (Option ℕ → List HistPoint) → (Option ℕ → List SumPoint) → Option ℕ → Below
below_by points hist_points summary_points id = record { points = points id; hist_points = hist_points id; summary_points = summary_points id }
