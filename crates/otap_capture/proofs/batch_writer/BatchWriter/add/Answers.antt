use Rattle.std.proofs.Common.{◌<◌, ◌^◌, length, arith}
use Rattle.std.proofs.lemmas.Int.{to_z-of_z}
use Rattle.std.specs.Int.{w32}
use Rattle.otap_capture.specs.BatchWriting.{with_payload}
use Rattle.otap_capture.proofs.WrittenBatch.{AreWritten, written_more}
use Rattle.otap_capture.proofs.batch_writer.BatchWriter.add.Goals as goal
use Rattle.otap_capture.proofs.batch_writer.BatchWriter.add.Goals.{In_ok-put_payload}

more : (c : In_ok-put_payload) → AreWritten c.put_payload.new.to.items (with_payload c.args.self.now (record { schema_id = c.args.schema_id.now; kind = c.args.kind; bytes = c.args.bytes.now }))
more c =
    let row = rw (to_z-of_z w32 c.args.kind c.ranges.kind, c.as_bytes.ensures.value) at c.in_ok-put_payload.ensures.ok in
    let vec = c.put_payload.new.to in
    let small : length vec.items < 2 ^ 64 = omega (arith, vec.ok, vec.small) in
    let before : AreWritten c.self.inside.bytes.items c.args.self.now =
    record { read = c.self.view_is; real = c.self.invariant.real; canonical = c.self.invariant.canonical } in
    written_more _ _ c.args.self.now _ before (record { schema_id = c.utf8.schema_id; kind = c.ranges.kind }) row small

pub invariant_of-self-2 : goal.invariant_of-self-2
invariant_of-self-2 c = record { real = (more c).real; canonical = (more c).canonical }

pub returns-clause-ok : goal.returns-clause-ok
returns-clause-ok c = (more c).read
