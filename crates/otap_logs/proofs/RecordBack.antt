-- A record comes back from its cells.
use Rattle.std.proofs.Common.{◌≡◌, ℕ, ◌+◌, List, ◌++◌, length, get_or, ◌∙◌, ap, subst}
use Rattle.otlp_model.specs.declared.logs.LogRecord.{LogRecord}
use Rattle.otap_cells.specs.Cells.{Cell, null, bytes_in, nat_in}
use Rattle.otap_cells.proofs.ScalarLaws.{text_back, number_back, int_back, bits_back}
use Rattle.otap_attrs.specs.Values.{value_cells, value_in}
use Rattle.otap_logs.specs.Records.{record_cells, record_of, last_cells}
use Rattle.std.proofs.lemmas.List.{get_or-append-add}

-- what comes after seven cells
after_seven : (value rest : List Cell) (k : ℕ) → length value ≡ 7 → get_or (value ++ rest) (7 + k) null ≡ get_or rest k null
after_seven value rest k long =
    let at : length value + k ≡ 7 + k = ap (λ n. n + k) long in
    subst (λ (n : ℕ). get_or (value ++ rest) n null ≡ get_or rest k null) at (get_or-append-add value rest k null)

pub record_back : (log : LogRecord) → length (value_cells log.body) ≡ 7 → value_in (value_cells log.body ++ last_cells log) ≡ log.body
    → record_of (record_cells log) log.pairs ≡ log
unfolding record_of
record_back log long body = λ i. record log {
  time = bits_back log.time i;
  observed = bits_back log.observed i;
  severity = int_back log.severity i;
  severity_text = text_back log.severity_text i;
  body = body i;
  dropped = (ap nat_in (after_seven (value_cells log.body) (last_cells log) 0 long) ∙ number_back log.dropped) i;
  flags = (ap nat_in (after_seven (value_cells log.body) (last_cells log) 1 long) ∙ number_back log.flags) i;
  trace_id = text_back log.trace_id i;
  span_id = text_back log.span_id i;
  event_name = (ap bytes_in (after_seven (value_cells log.body) (last_cells log) 2 long) ∙ text_back log.event_name) i;
}
