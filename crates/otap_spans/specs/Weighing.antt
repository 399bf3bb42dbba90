-- Words of private contracts: what the rows below a span weigh.
use Rattle.std.specs.Prelude.{ℕ, ◌+◌, sum_by}
use Rattle.otlp_model.specs.declared.spans.Span.{Span}
use Rattle.otlp_model.specs.declared.spans.Event.{Event}
use Rattle.otlp_model.specs.declared.spans.Link.{Link}
use Rattle.otap_cells.specs.Limits.{row_unit}
use Rattle.otap_groups.specs.Weighing.{cells_weight, parts_weight}
use Rattle.otap_attrs.specs.Values.{pair_cells}
use Rattle.otap_spans.specs.Records.{event_cells, link_cells}

-- an event, and a link, with its attributes
abbrev pub event_weight : Event → ℕ
event_weight event = row_unit + cells_weight (event_cells event) + parts_weight pair_cells event.pairs

abbrev pub link_weight : Link → ℕ
link_weight link = row_unit + cells_weight (link_cells link) + parts_weight pair_cells link.pairs

-- the attributes, events and links of a span, without its own row
abbrev pub below_weight : Span → ℕ
below_weight span = parts_weight pair_cells span.pairs + sum_by event_weight span.events + sum_by link_weight span.links
