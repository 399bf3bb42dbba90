-- The request that tables of metrics make, and what may be wrong with their rows.
use Rattle.std.specs.Prelude.{ℕ, List, Option}
use Rattle.otlp_model.specs.declared.groups.ResourceGroup.{ResourceGroup}
use Rattle.otlp_model.specs.declared.metrics.Metric.{Metric}
use Rattle.otlp_model.specs.declared.request.Request.TheVariants.{Metrics}
use Rattle.otlp_model.specs.declared.request.Signal.TheVariants as signal
use Rattle.otlp_model.specs.Weight.{weight_of}
use Rattle.otap_cells.specs.declared.payload.Kind.{Kind}
use Rattle.otap_cells.specs.declared.payload.Kind.TheVariants as table
use Rattle.otap_cells.specs.Cells.{Cell}
use Rattle.otap_cells.specs.Tables.{Table}
use Rattle.otap_attrs.specs.declared.refusal.RowRefusal.{RowRefusal}
use Rattle.otap_checks.specs.Refusing.{IsClean}
use Rattle.otap_checks.specs.Regrouping.{regrouped_in}
use Rattle.otap_checks.specs.RowDefects.{RowDefect}
use Rattle.otap_points.specs.Found.{hist_points_in, points_in, summary_points_in}
use Rattle.otap_metrics.specs.Metrics.{metric_of}

-- the metric of an id and own cells, with the points that the tables have for the id
abbrev pub metric_in : List Table → Option ℕ → List Cell → Metric
metric_in tables id cells = metric_of cells (record { points = points_in tables id; hist_points = hist_points_in tables id; summary_points = summary_points_in tables id })

-- THE REQUEST that tables make
unfoldable pub regrouped_metrics : List Table → List (ResourceGroup Metric)
regrouped_metrics tables = regrouped_in table.Metrics metric_in tables

-- what that request weighs
abbrev pub regrouped_weight : List Table → ℕ
regrouped_weight tables = weight_of (Metrics (regrouped_metrics tables))

-- WHAT IS WRONG WITH THE ROWS of a kind's table among the tables of metrics
abbrev pub WrongMetrics : List Table → Kind → RowRefusal → Type 0
WrongMetrics tables kind wrong = RowDefect signal.Metrics tables kind wrong

-- nothing is wrong with the rows of any table of metrics or below them; other tables aren't looked at
abbrev pub AreCleanMetrics : List Table → Type 0
AreCleanMetrics tables = IsClean (WrongMetrics tables)
