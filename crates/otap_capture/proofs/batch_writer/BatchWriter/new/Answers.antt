use Rattle.std.proofs.Common.{◌<◌, ◌^◌, [], length, arith}
use Rattle.std.proofs.lemmas.Int.{to_z-of_z}
use Rattle.std.specs.Int.{w64}
use Rattle.otap_capture.proofs.WrittenBatch.{AreWritten, written_first}
use Rattle.otap_capture.proofs.batch_writer.BatchWriter.new.Goals as goal
use Rattle.otap_capture.proofs.batch_writer.BatchWriter.new.Goals.{In_ok-put_signed_row}

first : (c : In_ok-put_signed_row) → AreWritten c.put_signed_row.new.to.items (record { id = c.args.id; payloads = [] })
first c =
    let row = rw (to_z-of_z w64 c.args.id c.ranges.id, c.new-bytes.ensures.items) at c.in_ok-put_signed_row.ensures.ok in
    let vec = c.put_signed_row.new.to in
    let small : length vec.items < 2 ^ 64 = omega (arith, vec.ok, vec.small) in
    written_first _ c.args.id c.ranges.id row small

pub invariant_of-result : goal.invariant_of-result
invariant_of-result c = record { real = (first c).real; canonical = (first c).canonical }

pub returns : goal.returns
returns c = (first c).read
