use Rattle.std.proofs.Common.{◌∙◌, drop, map, refl, sym, ap, arith}
use Rattle.otlp_model.specs.declared.request.Signal.TheVariants as signal
use Rattle.otap_cells.specs.declared.payload.Kind.TheVariants as table
use Rattle.otap_cells.specs.Named.{table_named}
use Rattle.otap_cells.specs.Tables.{Table}
use Rattle.otap_groups.specs.Children.{children}
use Rattle.otap_groups.proofs.FrontKinds.{events_front}
use Rattle.otap_checks.specs.Links.{links_of}
use Rattle.otap_checks.specs.Reading.{part_rows_in}
use Rattle.otap_checks.proofs.MissingRows.{no_parts}
use Rattle.otap_checks.proofs.RulesFit.{known_at}
use Rattle.otap_spans.specs.Records.{event_of}
use Rattle.otap_spans.specs.Requests.{event_in}
use Rattle.otap_spans.proofs.below.find_events.Goals as goal

pub returns-in_default : goal.returns-in_default
returns-in_default g c = λ parent.
    let item = event_in (table_named table.EventAttrs c.args.set.now) in
    no_parts item table.SpanEvents parent ∙ ap (λ (t : Table). children item (part_rows_in t) parent) (sym c.in_default.ensures.table)

pub find_pairs-requires-clause-known : goal.find_pairs-requires-clause-known
unfolding links_of
find_pairs-requires-clause-known g c = known_at signal.Traces c.args.set.now c.args.known.now.ids c.requires.known 6 table.EventAttrs (omega arith) refl

pub index_rows-requires-clause-part : goal.index_rows-requires-clause-part
index_rows-requires-clause-part g c = events_front

pub index_rows-requires-clause-known : goal.index_rows-requires-clause-known
unfolding links_of
index_rows-requires-clause-known g c = known_at signal.Traces c.args.set.now c.args.known.now.ids c.requires.known 4 table.SpanEvents (omega arith) refl

pub index_rows-requires-clause-rows : goal.index_rows-requires-clause-rows
index_rows-requires-clause-rows g c = ap (λ (t : Table). map (drop 2) t.rows) (sym c.in-Some.ensures.table)

pub returns : goal.returns
returns g c = λ parent.
    c.in_ok-made.ensures parent ∙ (λ i. children (λ id own. event_of own (c.in_ok-pairs.ensures id i)) (part_rows_in (table_named table.SpanEvents c.args.set.now)) parent)
