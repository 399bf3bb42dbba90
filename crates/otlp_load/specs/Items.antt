-- The items of the load, by their numbers: item `number` is in request r. What isn't given for an item is absent or 0.
use Rattle.std.specs.Prelude.{ℕ, ◌+◌, ◌*◌, ◌%◌, ◌==◌, true, List, [], ◌∷◌, ◌++◌, codes, pos, if◌then◌else◌}
use Rattle.std.specs.Int.{w64, to_be_bytes}
use Rattle.otlp_load.specs.Pairs.{numbered_text, double_bits, pairs_of}
use Rattle.otlp_model.specs.declared.value.Value.TheVariants as values
use Rattle.otlp_model.specs.declared.spans.Span.{Span}
use Rattle.otlp_model.specs.declared.spans.Event.{Event}
use Rattle.otlp_model.specs.declared.logs.LogRecord.{LogRecord}
use Rattle.otlp_model.specs.declared.metrics.Metric.{Metric}
use Rattle.otlp_model.specs.declared.metrics.Shape.{Shape}
use Rattle.otlp_model.specs.declared.metrics.Shape.TheVariants as shapes
use Rattle.otlp_model.specs.declared.metrics.Number.{Number}
use Rattle.otlp_model.specs.declared.metrics.Number.TheVariants as numbers
use Rattle.otlp_model.specs.declared.metrics.Point.{Point}

-- one second for each item
abbrev pub time_of : ℕ → ℕ
time_of number = 1000000000 * number

-- the number as eight bytes, the highest first
abbrev pub load_id : ℕ → List ℕ
load_id number = to_be_bytes w64 number

abbrev pub event_at : List ℕ → ℕ → Event
event_at name time = record { time = time; name = name; pairs = []; dropped = 0 }

abbrev pub load_span : ℕ → ℕ → Span
load_span r number = record {
  trace_id = load_id number ++ load_id number;
  span_id = load_id number;
  parent_span_id = [];
  trace_state = [];
  name = numbered_text (codes "op-") (number % 300);
  kind = pos (1 + number % 5);
  start = time_of number;
  end = time_of number + number % 700;
  flags = 0;
  pairs = pairs_of r number;
  dropped_pairs = 0;
  events = event_at (codes "e0") (time_of number) ∷ event_at (codes "e1") (time_of number) ∷ [];
  dropped_events = 0;
  links = [];
  dropped_links = 0;
  status_code = pos 0;
  status_message = [];
}

abbrev pub load_log_record : ℕ → ℕ → LogRecord
load_log_record r number = record {
  time = time_of number;
  observed = 0;
  severity = pos (1 + number % 24);
  severity_text = [];
  body = values.Str (numbered_text (codes "message ") (number % 5000));
  pairs = pairs_of r number;
  dropped = 0;
  flags = 0;
  trace_id = [];
  span_id = [];
  event_name = [];
}

abbrev pub load_point : ℕ → ℕ → Number → Point
load_point r number value = record {
  start = 0;
  time = time_of number;
  value = value;
  flags = 0;
  pairs = pairs_of r number;
  exemplars = [];
}

-- an odd number has a sum that is cumulative (temporality 2) and monotonic, an even one a gauge
abbrev pub load_shape : ℕ → ℕ → Shape
load_shape r number =
    if number % 2 == 1 then shapes.Sum (load_point r number (numbers.Int (pos number)) ∷ []) (pos 2) true
    else shapes.Gauge (load_point r number (numbers.Double (double_bits number)) ∷ [])

abbrev pub load_metric : ℕ → ℕ → Metric
load_metric r number = record {
  name = numbered_text (codes "m-") (number % 300);
  description = [];
  unit = codes "1";
  shape = load_shape r number;
}
