use Rattle.std.proofs.Common.{rules, ◌≡◌, to_z, of_z, to_z-of_z, w32, w64, FitsSigned, ◌∙◌}
use Rattle.otap_capture.proofs.WrittenBatch.{as_given}
use Rattle.otap_capture.proofs.WrittenStatus.{status_written}
use Rattle.otap_capture.specs.Statuses.{status_content}
use Rattle.otap_capture.proofs.status.write_status.Goals as goal

pub returns : goal.returns
returns c =
    let id : to_z w64 (of_z w64 c.args.status.now.id) ≡ c.args.status.now.id = search (to_z-of_z) in
    let fits : FitsSigned w32 c.args.status.now.code = search rules in
    let code = as_given c.args.status.now.code c.from.result c.from.ensures fits in
    c.finish.ensures ∙ status_written (status_content c.args.status.now) _ _ _ _ _ _ _ id code c.as_bytes.ensures.value
    c.new-to.ensures c.in_ok-put_bytes_row.ensures.ok c.in_ok-put_signed_row.ensures.ok c.in_ok-put_signed_row-2.ensures.ok
