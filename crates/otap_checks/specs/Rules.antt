-- What the tables of a signal must satisfy beside their ids, rule by rule.
use Rattle.std.specs.Prelude.{List, [], ◌∷◌}
use Rattle.otlp_model.specs.declared.request.Signal.{Signal}
use Rattle.otlp_model.specs.declared.request.Signal.TheVariants as signal
use Rattle.otap_cells.specs.declared.payload.Kind.{Kind}
use Rattle.otap_cells.specs.declared.payload.Kind.TheVariants as table
use Rattle.otap_cells.specs.Places.{exemplar_int, first_of_body, first_of_value, point_int, summary_quantiles, summary_values}
use Rattle.otap_checks.specs.declared.signals.Asks.{Asks}
use Rattle.otap_checks.specs.declared.signals.Asks.TheVariants as asks
use Rattle.otap_checks.specs.declared.signals.CellRule.{CellRule}
use Rattle.otap_checks.specs.declared.shapes.PointSort.TheVariants as sort

abbrev pub rule : Kind → Asks → CellRule
rule kind asked = record { kind = kind; asks = asked }

-- the values of a table of attributes
abbrev pub pairs : Kind → CellRule
pairs kind = rule kind (asks.Values first_of_value)

-- THE RULES for the tables of a signal
unfoldable pub rules_of : Signal → List CellRule
rules_of signal.Logs = rule table.Logs (asks.Values first_of_body) ∷ pairs table.ResourceAttrs ∷ pairs table.ScopeAttrs ∷ pairs table.LogAttrs
    ∷ rule table.Logs asks.Agree ∷ []
rules_of signal.Traces = pairs table.ResourceAttrs ∷ pairs table.ScopeAttrs ∷ pairs table.SpanAttrs ∷ pairs table.EventAttrs ∷ pairs table.LinkAttrs
    ∷ rule table.Spans asks.Agree ∷ []
rules_of signal.Metrics = rule table.Metrics asks.KnownShape ∷ rule table.NumberPoints (asks.OfShape sort.Numbers) ∷ rule table.NumberPoints (asks.OneNumber point_int)
    ∷ rule table.NumberExemplars (asks.OneNumber exemplar_int) ∷ pairs table.ResourceAttrs ∷ pairs table.ScopeAttrs ∷ pairs table.NumberPointAttrs ∷ pairs table.NumberExemplarAttrs
    ∷ rule table.SummaryPoints (asks.OfShape sort.Summaries) ∷ rule table.SummaryPoints (asks.EvenLists summary_quantiles summary_values) ∷ rule table.HistPoints (asks.OfShape sort.Histograms)
    ∷ rule table.HistExemplars (asks.OneNumber exemplar_int) ∷ pairs table.SummaryPointAttrs ∷ pairs table.HistPointAttrs ∷ pairs table.HistExemplarAttrs
    ∷ rule table.Metrics asks.Agree ∷ []
