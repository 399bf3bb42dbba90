-- The records of the tables of a batch are short together.
use Rattle.std.proofs.Common.{◌≡◌, true, refl, ◌+◌, ◌*◌, ◌≤◌, List, [], ◌∷◌, length, arith}
use Rattle.std.specs.Prelude.{nat_le, sum_by}
use Rattle.std.proofs.lemmas.Bool.{leb-true}
use Rattle.std.proofs.lemmas.List.Sums.{sum_by-cons}
use Rattle.otlp_model.specs.declared.request.Signal.{Signal}
use Rattle.otlp_model.specs.declared.request.Signal.TheVariants as signal
use Rattle.otap_cells.specs.Columns.{logs, spans, metrics, attrs, deep_attrs, span_events, span_links, number_points, summary_points, hist_points, exemplars}
use Rattle.otap_cells.specs.Payload.{kinds_of}
use Rattle.otap_cells.specs.Tables.{Table}
use Rattle.otap_cells.specs.Weights.{row_weight_limit, weight_of_table, weight_of_tables}
use Rattle.otap_columns.specs.Limits.{dictionary_columns, record_limit, head_limit, row_limit, columns_limit, tables_limit, records_limit, rest_limit}
use Rattle.otap_columns.proofs.RowsAdded.{rows_light}

limits_are : (tables : List Table) → sum_by record_limit tables
    ≡ row_limit * sum_by (λ (t : Table). length t.rows) tables + weight_of_tables tables + head_limit * sum_by (λ (t : Table). dictionary_columns t.kind) tables + rest_limit * length tables
limits_are [] = omega arith
limits_are (t ∷ tables) =
    omega (
      arith,
      sum_by-cons record_limit t tables,
      sum_by-cons (λ (u : Table). length u.rows) t tables,
      sum_by-cons weight_of_table t tables,
      sum_by-cons (λ (u : Table). dictionary_columns u.kind) t tables,
      limits_are tables,
    )

rows_weigh : (tables : List Table) → 32 * sum_by (λ (t : Table). length t.rows) tables ≤ weight_of_tables tables
rows_weigh [] = omega arith
rows_weigh (t ∷ tables) = omega (arith, sum_by-cons (λ (u : Table). length u.rows) t tables, sum_by-cons weight_of_table t tables, rows_light t, rows_weigh tables)

pub batch_short : (tables : List Table) → weight_of_tables tables ≤ row_weight_limit → sum_by (λ t. dictionary_columns t.kind) tables ≤ columns_limit
    → length tables ≤ tables_limit → sum_by record_limit tables ≤ records_limit
batch_short tables light dictionaries few = omega (arith, limits_are tables, rows_weigh tables, light, dictionaries, few)

-- ---- the tables of each signal

columns_counted : (s : Signal) → nat_le (sum_by dictionary_columns (kinds_of s)) columns_limit ≡ true
unfolding logs spans metrics attrs deep_attrs span_events span_links number_points summary_points hist_points exemplars
columns_counted signal.Traces = refl
columns_counted signal.Logs = refl
columns_counted signal.Metrics = refl

pub few_columns : (s : Signal) → sum_by dictionary_columns (kinds_of s) ≤ columns_limit
few_columns s = leb-true (sum_by dictionary_columns (kinds_of s)) columns_limit (columns_counted s)

pub few_tables : (s : Signal) → length (kinds_of s) ≤ tables_limit
few_tables signal.Traces = omega arith
few_tables signal.Logs = omega arith
few_tables signal.Metrics = omega arith
