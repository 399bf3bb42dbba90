use Rattle.std.proofs.Common.{◌∙◌, refl, arith, rules}
use Rattle.std.specs.Prelude.{is_some}
use Rattle.std.proofs.lemmas.Result.{err_from_is_err_and}
use Rattle.otlp_wire.specs.Wire.{entry}
use Rattle.otlp_messages.specs.Defects.{wire_error}
use Rattle.otlp_messages.proofs.Steps.{fine_from}
use Rattle.otap_capture.proofs.BatchFields.{one_at_most, scanned_none, scanned_more, scanned_stands}
use Rattle.otap_capture.specs.BatchScanning.{numbered_part}
use Rattle.otap_capture.proofs.batch.scan_fields.Goals as goal

pub fields-init : goal.fields-init
fields-init c =
    rw (c.into_iter-next-iterator.ensures.into_iter_gives, c.new-next-items.ensures)
    (record { scanned = scanned_none c.args.bytes.now _ refl refl refl; few = omega arith })

pub returns-in_default-clause-refused : goal.returns-in_default-clause-refused
returns-in_default-clause-refused c =
    let last = rw c.in_default.is at c.in-Some.ensures.steps in
    wire_error _ _ _ _ (c.fields.invariant.scanned.checked.end ∙ last.1)

pub fields-preserved : goal.fields-preserved
fields-preserved c =
    let first = rw c.in-Ok.is at c.in-Some.ensures.steps in
    let f = entry c.in-Ok.field in
    let more = c.in_ok-take.ensures.says in
    record {
      scanned = scanned_more _ _ _ c.fields.scan c.take.new.self f c.fields.invariant.scanned first.0 first.1 c.in_ok-take.ensures.fine more;
      few = let one = one_at_most (is_some (numbered_part 2 f)) in search rules;
    }

pub returns-in_err-take-clause-refused : goal.returns-in_err-take-clause-refused
returns-in_err-take-clause-refused c =
    let first = rw c.in-Ok.is at c.in-Some.ensures.steps in
    let p = err_from_is_err_and c.from_residual.result c.from_residual.ensures.1 in
    rw (p.1, p.2) (scanned_stands _ _ _ c.fields.scan (entry c.in-Ok.field) _ c.fields.invariant.scanned first.0 c.in_err-take.ensures.fault)

pub returns-clause-fine : goal.returns-clause-fine
returns-clause-fine c = fine_from _ _ _ _ _ c.fields.invariant.scanned.checked c.in-None.ensures.steps.0 c.in-None.ensures.steps.1
