-- The filter of telemetry.
use Rattle.std.specs.Prelude.{◌≤◌, Bool, false, filter, List}
use Rattle.otlp_model.specs.Same.{SameTelemetry}
use Rattle.otlp_model.specs.Telemetry.{Item, ItemEntry, log_record, metric, span, telemetry}
use Rattle.otlp_model.specs.Weight.{weight_of}
use Rattle.otlp_model.specs.declared.request.Signal.{Signal}
use Rattle.otlp_model.specs.declared.value.Pair.{Pair}
use Rattle.otap_cells.specs.Tables.{Table}
use Rattle.otap_signals.specs.BySignal.{request_in}
use Rattle.otap_kept.specs.declared.whose.Whose.{Whose}
use Rattle.otap_kept.specs.declared.whose.Whose.TheVariants as whose
use Rattle.otap_kept.specs.Kept.{has, kept}

-- an item has the pair; a metric has none of its own
abbrev pub item_has : Pair → Item → Bool
item_has pair (span one) = has pair one.pairs
item_has pair (log_record one) = has pair one.pairs
item_has pair (metric one) = false

-- an entry has it: its item does, or its resource
abbrev pub entry_has : Whose → Pair → ItemEntry Item → Bool
entry_has whose.Item pair entry = item_has pair entry.item
entry_has whose.Resource pair entry = has pair entry.resource.pairs

-- THE FILTER of telemetry
abbrev pub filtered : Whose → Pair → List (ItemEntry Item) → List (ItemEntry Item)
filtered by pair entries = filter (entry_has by pair) entries

-- THE TELEMETRY OF WHAT IS KEPT is the filter of that of the tables
abbrev pub MeansFilter : Signal → Whose → Pair → List Table → Type 0
MeansFilter of by pair tables =
    SameTelemetry (filtered by pair (telemetry (request_in of tables))) (telemetry (request_in of (kept of by pair tables)))

-- and it weighs no more
abbrev pub IsNoHeavier : Signal → Whose → Pair → List Table → Type 0
IsNoHeavier of by pair tables = weight_of (request_in of (kept of by pair tables)) ≤ weight_of (request_in of tables)
