use Rattle.std.proofs.Common.{sym, ◌∙◌}
use Rattle.otlp_messages.specs.declared.messages.Defect.TheVariants.{BadMessage}
use Rattle.otlp_messages.specs.Defects.{wire_error}
use Rattle.otap_capture.proofs.Events.{the_request, the_status, status_fine}
use Rattle.otap_capture.proofs.event.read_event.Goals as goal

-- no error of the wire is behind the fields
pub unreachable-requires : goal.unreachable-requires
unreachable-requires c =
    let last = rw c.in_default-next.is at c.in-Some.ensures.steps in
    c.in_default.ensures.fine.none BadMessage (wire_error _ _ _ _ (sym c.fields.invariant.end ∙ last.1))

pub returns-in-1-Bytes-clause-read : goal.returns-in-1-Bytes-clause-read
returns-in-1-Bytes-clause-read c =
    let first = rw (c.in-Ok.is, c.in-1-Bytes.is-0, c.in-1-Bytes.is-1) at c.in-Some.ensures.steps in
    (c.in_default.ensures.fine, the_request _ _ _ _ c.in_default.ensures.fine c.fields.invariant.requests first.0)

-- the status inside has no defect
pub status_of-requires : goal.status_of-requires
status_of-requires c =
    let first = rw (c.in-Ok.is, c.in-2-Bytes.is-0, c.in-2-Bytes.is-1) at c.in-Some.ensures.steps in
    status_fine _ _ _ c.in_default.ensures.fine (the_status _ _ _ _ c.in_default.ensures.fine c.fields.invariant.statuses first.0)

pub returns-in-2-Bytes-clause-read : goal.returns-in-2-Bytes-clause-read
returns-in-2-Bytes-clause-read c =
    let first = rw (c.in-Ok.is, c.in-2-Bytes.is-0, c.in-2-Bytes.is-1) at c.in-Some.ensures.steps in
    let alone = the_status _ _ _ _ c.in_default.ensures.fine c.fields.invariant.statuses first.0 in
    (c.in_default.ensures.fine, (_, alone, (status_fine _ _ _ c.in_default.ensures.fine alone, c.status_of.ensures)))
