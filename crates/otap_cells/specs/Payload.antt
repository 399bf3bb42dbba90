-- Payload types (OpenTelemetry Arrow Protocol, ArrowPayloadType).
use Rattle.std.specs.Prelude.{ℕ, ℤ, pos, Bool, true, false, Option, List, [], ◌∷◌, find, ◌==◌}
use Rattle.std.specs.Ordering.{int_eq}
use Rattle.otlp_model.specs.declared.request.Signal.{Signal}
use Rattle.otlp_model.specs.declared.request.Signal.TheVariants as signal
use Rattle.otap_cells.specs.declared.payload.Kind.{Kind}
use Rattle.otap_cells.specs.declared.payload.Kind.TheVariants as table

-- the number of a payload type
abbrev pub number_of : Kind → ℕ
number_of table.ResourceAttrs = 1
number_of table.ScopeAttrs = 2
number_of table.Metrics = 10
number_of table.NumberPoints = 11
number_of table.SummaryPoints = 12
number_of table.HistPoints = 13
number_of table.NumberPointAttrs = 15
number_of table.SummaryPointAttrs = 16
number_of table.HistPointAttrs = 17
number_of table.NumberExemplars = 19
number_of table.HistExemplars = 20
number_of table.NumberExemplarAttrs = 22
number_of table.HistExemplarAttrs = 23
number_of table.Logs = 30
number_of table.LogAttrs = 31
number_of table.Spans = 40
number_of table.SpanAttrs = 41
number_of table.SpanEvents = 42
number_of table.SpanLinks = 43
number_of table.EventAttrs = 44
number_of table.LinkAttrs = 45

-- the kinds of a signal: its main table, then the others by ascending number
abbrev pub kinds_of : Signal → List Kind
kinds_of signal.Traces = table.Spans ∷ table.ResourceAttrs ∷ table.ScopeAttrs ∷ table.SpanAttrs ∷ table.SpanEvents ∷ table.SpanLinks ∷ table.EventAttrs ∷ table.LinkAttrs ∷ []
kinds_of signal.Logs = table.Logs ∷ table.ResourceAttrs ∷ table.ScopeAttrs ∷ table.LogAttrs ∷ []
kinds_of signal.Metrics = table.Metrics ∷ table.ResourceAttrs ∷ table.ScopeAttrs ∷ table.NumberPoints ∷ table.SummaryPoints ∷ table.HistPoints
    ∷ table.NumberPointAttrs ∷ table.SummaryPointAttrs ∷ table.HistPointAttrs ∷ table.NumberExemplars ∷ table.HistExemplars ∷ table.NumberExemplarAttrs ∷ table.HistExemplarAttrs ∷ []

-- a signal's main table, which has its spans, log records or metrics
abbrev pub main_of : Signal → Kind
main_of signal.Traces = table.Spans
main_of signal.Logs = table.Logs
main_of signal.Metrics = table.Metrics

-- the kind of the signal that has the number
abbrev pub kind_numbered : Signal → ℤ → Option Kind
kind_numbered of number = find (λ kind. int_eq (pos (number_of kind)) number) (kinds_of of)

-- two kinds are one
abbrev pub is_kind : Kind → Kind → Bool
is_kind a b = number_of a == number_of b

-- the main table of some signal
abbrev pub is_main : Kind → Bool
is_main table.Metrics = true
is_main table.Logs = true
is_main table.Spans = true
is_main other = false
