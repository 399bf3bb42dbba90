-- Log records as rows: the cells of a record's own columns, and the record that such cells make.
use Rattle.std.specs.Prelude.{List, [], ◌∷◌, ◌++◌, codes}
use Rattle.otlp_model.specs.declared.value.Pair.{Pair}
use Rattle.otlp_model.specs.declared.logs.LogRecord.{LogRecord}
use Rattle.otap_cells.specs.ByName.{cell_of, cells_from}
use Rattle.otap_cells.specs.Cells.{Cell, bytes_in, nat_in}
use Rattle.otap_cells.specs.Columns.{own_logs}
use Rattle.otap_cells.specs.Scalars.{text_cell, number_cell, int_cell, bits_cell, int_in, bits_in}
use Rattle.otap_attrs.specs.Values.{value_cells, value_in}

-- the cells of a record: those after its body, and all
abbrev pub last_cells : LogRecord → List Cell
last_cells log = number_cell log.dropped ∷ number_cell log.flags ∷ text_cell log.event_name ∷ []

abbrev pub record_cells : LogRecord → List Cell
record_cells log =
    bits_cell log.time ∷ bits_cell log.observed ∷ text_cell log.trace_id ∷ text_cell log.span_id
    ∷ int_cell log.severity ∷ text_cell log.severity_text ∷ value_cells log.body ++ last_cells log

-- THE RECORD that cells and pairs make; null reads as the default
unfoldable pub record_of : List Cell → List Pair → LogRecord
record_of cells pairs = record {
  time = bits_in (cell_of own_logs (codes "time_unix_nano") cells);
  observed = bits_in (cell_of own_logs (codes "observed_time_unix_nano") cells);
  severity = int_in (cell_of own_logs (codes "severity_number") cells);
  severity_text = bytes_in (cell_of own_logs (codes "severity_text") cells);
  body = value_in (cells_from own_logs (codes "body.type") cells);
  pairs = pairs;
  dropped = nat_in (cell_of own_logs (codes "dropped_attributes_count") cells);
  flags = nat_in (cell_of own_logs (codes "flags") cells);
  trace_id = bytes_in (cell_of own_logs (codes "trace_id") cells);
  span_id = bytes_in (cell_of own_logs (codes "span_id") cells);
  event_name = bytes_in (cell_of own_logs (codes "event_name") cells);
}
