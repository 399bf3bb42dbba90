use Rattle.otap_capture.proofs.WrittenBatch.{as_given, three_appended}
use Rattle.otap_capture.proofs.batch_writer.put_fields.Goals as goal

pub returns-clause-ok : goal.returns-clause-ok
returns-clause-ok c =
    let kind = as_given _ _ c.from.ensures c.ranges.kind in
    three_appended _ _ _ _ _ _ _ c.in_ok-put_bytes_row.ensures.ok (rw kind at c.in_ok-put_signed_row.ensures.ok) c.in_ok-put_bytes_row-2.ensures.ok
