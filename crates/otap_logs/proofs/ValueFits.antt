-- The cells of records fit their columns.
use Rattle.std.proofs.Common.{drop, refl, take}
use Rattle.otlp_model.specs.Profile.{IsProfileLogRecord}
use Rattle.otlp_model.specs.Real.{IsRealLogRecord}
use Rattle.otlp_model.specs.declared.logs.LogRecord.{LogRecord}
use Rattle.otap_cells.specs.Columns.{logs}
use Rattle.otap_cells.specs.Tables.{IsRow}
use Rattle.otap_groups.proofs.ProfileRows.{number_fits, rows_join, text_fits}
use Rattle.otap_attrs.specs.Values.{value_bases, value_cells}
use Rattle.otap_attrs.proofs.CellFits.{bits_fit, cells_row, small_fits, span_fits, trace_fits, value_fits}
use Rattle.otap_logs.specs.Records.{last_cells, record_cells}

pub own_fits : (log : LogRecord) → IsRealLogRecord log → IsProfileLogRecord log → IsRow (drop 9 logs) (record_cells log)
unfolding logs
own_fits log real is =
    let body : IsRow (take 7 (drop 15 logs)) (value_cells log.body) = cells_row (take 7 (drop 15 logs)) value_bases (value_cells log.body) refl (value_fits log.body real.body) in
    let last : IsRow (drop 22 logs) (last_cells log) = (number_fits log.dropped real.dropped, (number_fits log.flags real.flags, (text_fits log.event_name real.event_name, tt))) in (
      (bits_fit log.time real.time).0,
      (
        (bits_fit log.observed real.observed).0,
        (
          trace_fits log.trace_id is.trace_id,
          (
            span_fits log.span_id is.span_id,
            (
              small_fits log.severity real.severity,
              (text_fits log.severity_text real.severity_text, rows_join (take 7 (drop 15 logs)) (drop 22 logs) (value_cells log.body) (last_cells log) body last),
            ),
          ),
        ),
      ),
    )
