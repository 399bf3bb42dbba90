-- Which kinds have which columns in front.
use Rattle.std.proofs.Common.{refl, arith}
use Rattle.otap_cells.specs.declared.payload.Kind.TheVariants as table
use Rattle.otap_cells.specs.Columns.{span_events, span_links}
use Rattle.otap_groups.specs.Kinds.{IsPart}

pub events_front : IsPart table.SpanEvents
unfolding span_events
events_front = record { wide = omega arith; other = refl; id = refl; parent = refl; ids_rise = refl }

pub links_front : IsPart table.SpanLinks
unfolding span_links
links_front = record { wide = omega arith; other = refl; id = refl; parent = refl; ids_rise = refl }
