-- No table has more columns than the limit.
use Rattle.std.proofs.Common.{◌≤◌, arith}
use Rattle.otap_cells.specs.declared.payload.Kind.{Kind}
use Rattle.otap_cells.specs.declared.payload.Kind.TheVariants as table
use Rattle.otap_cells.specs.Limits.{column_limit}
use Rattle.otap_cells.specs.Columns.{width_of, logs, spans, metrics, attrs, deep_attrs, span_events, span_links, number_points, summary_points, hist_points, exemplars}

pub few_columns : (kind : Kind) → width_of kind ≤ column_limit
unfolding logs spans metrics attrs deep_attrs span_events span_links number_points summary_points hist_points exemplars
few_columns table.ResourceAttrs = omega arith
few_columns table.ScopeAttrs = omega arith
few_columns table.Metrics = omega arith
few_columns table.NumberPoints = omega arith
few_columns table.SummaryPoints = omega arith
few_columns table.HistPoints = omega arith
few_columns table.NumberPointAttrs = omega arith
few_columns table.SummaryPointAttrs = omega arith
few_columns table.HistPointAttrs = omega arith
few_columns table.NumberExemplars = omega arith
few_columns table.HistExemplars = omega arith
few_columns table.NumberExemplarAttrs = omega arith
few_columns table.HistExemplarAttrs = omega arith
few_columns table.Logs = omega arith
few_columns table.LogAttrs = omega arith
few_columns table.Spans = omega arith
few_columns table.SpanAttrs = omega arith
few_columns table.SpanEvents = omega arith
few_columns table.SpanLinks = omega arith
few_columns table.EventAttrs = omega arith
few_columns table.LinkAttrs = omega arith
