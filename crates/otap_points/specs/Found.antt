-- What tables have below metrics and below points: the points and exemplars of a parent, in the order of their rows.
use Rattle.std.specs.Prelude.{ℕ, List, Option}
use Rattle.otlp_model.specs.declared.histograms.HistPoint.{HistPoint}
use Rattle.otlp_model.specs.declared.histograms.SumPoint.{SumPoint}
use Rattle.otlp_model.specs.declared.metrics.Exemplar.{Exemplar}
use Rattle.otlp_model.specs.declared.metrics.Point.{Point}
use Rattle.otap_cells.specs.declared.payload.Kind.TheVariants as table
use Rattle.otap_cells.specs.Cells.{Cell}
use Rattle.otap_cells.specs.Named.{table_named}
use Rattle.otap_cells.specs.Tables.{Table}
use Rattle.otap_groups.specs.Children.{children}
use Rattle.otap_attrs.specs.Index.{pairs_in}
use Rattle.otap_checks.specs.Reading.{part_rows_in}
use Rattle.otap_points.specs.Points.{exemplar_of, hist_point_of, point_of, sum_point_of}

-- the exemplar of an id and own cells, with the pairs that a table has for the id
abbrev pub exemplar_in : Table → Option ℕ → List Cell → Exemplar
exemplar_in pairs id cells = exemplar_of cells (pairs_in pairs id)

-- THE EXEMPLARS of a parent
abbrev pub exemplars_in : Table → Table → Option ℕ → List Exemplar
exemplars_in exemplars pairs = children (exemplar_in pairs) (part_rows_in exemplars)

-- those of a point of a gauge or sum, and of a point of a histogram
abbrev pub point_exemplars_in : List Table → Option ℕ → List Exemplar
point_exemplars_in tables = exemplars_in (table_named table.NumberExemplars tables) (table_named table.NumberExemplarAttrs tables)

abbrev pub hist_exemplars_in : List Table → Option ℕ → List Exemplar
hist_exemplars_in tables = exemplars_in (table_named table.HistExemplars tables) (table_named table.HistExemplarAttrs tables)

-- the point of an id and own cells, with the pairs that a table has for the id, and the exemplars that are found for it
abbrev pub point_in : Table → (Option ℕ → List Exemplar) → Option ℕ → List Cell → Point
point_in pairs exemplars id cells = point_of cells (pairs_in pairs id) (exemplars id)

-- THE POINTS of a metric that is a gauge or a sum
abbrev pub points_in : List Table → Option ℕ → List Point
points_in tables = children (point_in (table_named table.NumberPointAttrs tables) (point_exemplars_in tables)) (part_rows_in (table_named table.NumberPoints tables))

-- the same of histograms
abbrev pub hist_point_in : Table → (Option ℕ → List Exemplar) → Option ℕ → List Cell → HistPoint
hist_point_in pairs exemplars id cells = hist_point_of cells (pairs_in pairs id) (exemplars id)

abbrev pub hist_points_in : List Table → Option ℕ → List HistPoint
hist_points_in tables = children (hist_point_in (table_named table.HistPointAttrs tables) (hist_exemplars_in tables)) (part_rows_in (table_named table.HistPoints tables))

-- and of summaries, whose points have no exemplars
abbrev pub summary_point_in : Table → Option ℕ → List Cell → SumPoint
summary_point_in pairs id cells = sum_point_of cells (pairs_in pairs id)

abbrev pub summary_points_in : List Table → Option ℕ → List SumPoint
summary_points_in tables = children (summary_point_in (table_named table.SummaryPointAttrs tables)) (part_rows_in (table_named table.SummaryPoints tables))
