-- The laws of spans, events, links and statuses.
use Rattle.std.proofs.Common.{◌≡◌, [], length, refl, sym, ap, ◌∙◌, arith}
use Rattle.std.specs.Prelude.{fold}
use Rattle.std.proofs.lemmas.List.Elements.{recursion_from_All}
use Rattle.lists.proofs.Every.{every_weaker}
use Rattle.otlp_wire.specs.Wire as wire
use Rattle.otlp_wire.specs.Wire.{FieldValue}
use Rattle.otlp_wire.proofs.FieldsOf.{fields_of_nothing}
use Rattle.otlp_messages.specs.declared.messages.Message.TheVariants as messages
use Rattle.otlp_messages.specs.Rows.{embedded_in}
use Rattle.otlp_model.specs.declared.spans.Span.{Span}
use Rattle.otlp_model.specs.declared.spans.Event.{Event}
use Rattle.otlp_model.specs.declared.spans.Link.{Link}
use Rattle.otlp_model.specs.Weight.{weight_of_event, weight_of_link, weight_of_span}
use Rattle.otlp_model.specs.Real.{IsRealEvent, IsRealLink, IsRealSpan}
use Rattle.otlp_model.specs.Profile.{IsProfileEvent, IsProfileLink, IsProfileSpan}
use Rattle.otlp_codec.specs.declared.spans.SpanStatus.{SpanStatus}
use Rattle.otlp_codec.specs.Limits.{level_limit}
use Rattle.otlp_codec.specs.Spans.{event_in, link_in, no_status, span_status_in, span_in, span_status_of}
use Rattle.otlp_codec.specs.SpanSteps.{status_step, span_step}
use Rattle.otlp_codec.specs.SpanSpelling.{canon_event, canon_link, canon_span_status, canon_span}
use Rattle.otlp_codec.specs.lemmas.SpansPassed.{event_passes, link_passes, status_passes, span_passes}
use Rattle.otlp_codec.proofs.Chain.{Law, last, also, law_of}
use Rattle.otlp_codec.proofs.FieldLaw.{fixed64_held, fixed32_held, int32_held, uint32_held, text_held, id_held, embedded_held, many_held}
use Rattle.otlp_codec.proofs.Attributes.{pairs_held}

event_law : (x : Event) → IsRealEvent x → Law (IsProfileEvent x) messages.Event level_limit event_in canon_event x (weight_of_event x) 236
unfolding canon_event
event_law x real =
    let m = messages.Event in
    law_of event_in canon_event
    (also (λ a r. record r { time = a }) (fixed64_held m 1 x.time refl refl real.time) refl (λ a v. refl)
    (also (λ a r. record r { name = a }) (text_held m 2 x.name refl refl real.name) refl (λ a v. refl)
    (also (λ a r. record r { pairs = a }) (pairs_held m 3 x.pairs refl refl refl real.pairs (λ p. p.pairs.at)) refl (λ a v. refl)
    (also (λ a r. record r { dropped = a }) (uint32_held m 4 x.dropped refl refl real.dropped) refl (λ a v. refl) last))))
    event_passes refl refl (omega arith) (omega arith)

link_law : (x : Link) → IsRealLink x → Law (IsProfileLink x) messages.Link level_limit link_in canon_link x (weight_of_link x) 236
unfolding canon_link
link_law x real =
    let m = messages.Link in
    law_of link_in canon_link
    (also (λ a r. record r { trace_id = a }) (id_held m 1 16 x.trace_id refl refl (λ p. p.trace_id)) refl (λ a v. refl)
    (also (λ a r. record r { span_id = a }) (id_held m 2 8 x.span_id refl refl (λ p. p.span_id)) refl (λ a v. refl)
    (also (λ a r. record r { trace_state = a }) (text_held m 3 x.trace_state refl refl real.trace_state) refl (λ a v. refl)
    (also (λ a r. record r { pairs = a }) (pairs_held m 4 x.pairs refl refl refl real.pairs (λ p. p.pairs.at)) refl (λ a v. refl)
    (also (λ a r. record r { dropped = a }) (uint32_held m 5 x.dropped refl refl real.dropped) refl (λ a v. refl)
    (also (λ a r. record r { flags = a }) (fixed32_held m 6 x.flags refl refl real.flags) refl (λ a v. refl) last))))))
    link_passes refl refl (omega arith) (omega arith)

-- the status weighs what its message does
status_law : {P : Type 0} (x : Span) → IsRealSpan x → Law P messages.Status level_limit span_status_in canon_span_status (span_status_of x) (length x.status_message) 24
status_law x real =
    let m = messages.Status in
    law_of span_status_in canon_span_status
    (also (λ a r. record r { message = a }) (text_held m 2 x.status_message refl refl real.status_message) refl (λ a v. refl)
    (also (λ a r. record r { code = a }) (int32_held m 3 x.status_code refl refl real.status_code) refl (λ a v. refl) last))
    status_passes refl refl (omega arith) (omega arith)

-- the status, whose parts are in the span
status_heard : (old : Span) (a : SpanStatus) (v : FieldValue)
    → span_step (record old { status_message = a.message; status_code = a.code }) (record { number = 15; value = v })
    ≡ record old { status_message = (embedded_in span_status_in a v).message; status_code = (embedded_in span_status_in a v).code }
status_heard old a (wire.Bytes part) = refl
status_heard old a (wire.Varint n) = refl
status_heard old a (wire.Fixed64 n) = refl
status_heard old a (wire.Fixed32 n) = refl

no_status_is : no_status ≡ span_status_in []
no_status_is = sym (ap (fold status_step no_status) fields_of_nothing) ∙ status_passes []

pub span_law : (x : Span) → IsRealSpan x → Law (IsProfileSpan x) messages.Span level_limit span_in canon_span x (weight_of_span x) 236
unfolding canon_span
span_law x real =
    let m = messages.Span in
    let events = every_weaker IsRealEvent (λ e. Law (IsProfileEvent e) messages.Event level_limit event_in canon_event e (weight_of_event e) 236) event_law
    x.events (recursion_from_All IsRealEvent x.events real.events.at) in
    let links = every_weaker IsRealLink (λ l. Law (IsProfileLink l) messages.Link level_limit link_in canon_link l (weight_of_link l) 236) link_law x.links (recursion_from_All IsRealLink x.links real.links.at) in
    law_of span_in canon_span
    (also (λ a r. record r { trace_id = a }) (id_held m 1 16 x.trace_id refl refl (λ p. p.trace_id)) refl (λ a v. refl)
    (also (λ a r. record r { span_id = a }) (id_held m 2 8 x.span_id refl refl (λ p. p.span_id)) refl (λ a v. refl)
    (also (λ a r. record r { trace_state = a }) (text_held m 3 x.trace_state refl refl real.trace_state) refl (λ a v. refl)
    (also (λ a r. record r { parent_span_id = a }) (id_held m 4 8 x.parent_span_id refl refl (λ p. p.parent_span_id)) refl (λ a v. refl)
    (also (λ a r. record r { name = a }) (text_held m 5 x.name refl refl real.name) refl (λ a v. refl)
    (also (λ a r. record r { kind = a }) (int32_held m 6 x.kind refl refl real.kind) refl (λ a v. refl)
    (also (λ a r. record r { start = a }) (fixed64_held m 7 x.start refl refl real.start) refl (λ a v. refl)
    (also (λ a r. record r { end = a }) (fixed64_held m 8 x.end refl refl real.end) refl (λ a v. refl)
    (also (λ a r. record r { pairs = a }) (pairs_held m 9 x.pairs refl refl refl real.pairs (λ p. p.pairs.at)) refl (λ a v. refl)
    (also (λ a r. record r { dropped_pairs = a }) (uint32_held m 10 x.dropped_pairs refl refl real.dropped_pairs) refl (λ a v. refl)
    (also (λ a r. record r { events = a }) (many_held IsProfileEvent m 11 messages.Event event_in canon_event 32 weight_of_event 236 x.events refl refl refl refl refl events
    (λ p. recursion_from_All IsProfileEvent x.events p.events.at)) refl (λ a v. refl)
    (also (λ a r. record r { dropped_events = a }) (uint32_held m 12 x.dropped_events refl refl real.dropped_events) refl (λ a v. refl)
    (also (λ a r. record r { links = a }) (many_held IsProfileLink m 13 messages.Link link_in canon_link 32 weight_of_link 236 x.links refl refl refl refl refl links
    (λ p. recursion_from_All IsProfileLink x.links p.links.at)) refl (λ a v. refl)
    (also (λ a r. record r { dropped_links = a }) (uint32_held m 14 x.dropped_links refl refl real.dropped_links) refl (λ a v. refl)
    (also (λ (a : SpanStatus) r. record r { status_message = a.message; status_code = a.code })
    (embedded_held m 15 messages.Status span_status_in canon_span_status refl refl (status_law x real) no_status_is refl) refl (status_heard (record x { flags = 0 }))
    (also (λ a r. record r { flags = a }) (fixed32_held m 16 x.flags refl refl real.flags) refl (λ a v. refl) last))))))))))))))))
    span_passes refl refl (omega arith) (omega arith)
