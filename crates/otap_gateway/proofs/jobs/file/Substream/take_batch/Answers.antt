use Rattle.std.proofs.Common.{Some, None, sym, ap, rules}
use Rattle.otap_capture.specs.Batch.{content_of}
use Rattle.otap_capture.specs.Capture.{frame_of}
use Rattle.otap_gateway.proofs.FiledBatches.{found_for, is_light, kind_is, takes_none, takes_other, takes_own, there_is}
use Rattle.otap_gateway.proofs.UnfiledBatches.{on_ok}
use Rattle.otap_gateway.proofs.jobs.file.Substream.take_batch.Goals as goal

pub returns-in_default-payload_of : goal.returns-in_default-payload_of
returns-in_default-payload_of c =
    takes_none c.args.kind _ c.args.segment.now c.in-Message.bytes.now c.in-Ok.batch (ap frame_of c.in-Message.is) c.in-Ok.ensures.read c.args.self.now
    (found_for c.args.kind _ c.in-Ok.batch.payloads None (search rules) (sym c.in_default-payload_of.ensures))

pub returns-then-not-is_within : goal.returns-then-not-is_within
returns-then-not-is_within c =
    takes_other c.args.kind _ c.args.segment.now c.in-Message.bytes.now c.in-Ok.batch (ap frame_of c.in-Message.is) c.in-Ok.ensures.read (content_of c.in-Some.payload) c.args.self.now c.note.new.self
    (found_for c.args.kind _ c.in-Ok.batch.payloads (Some (content_of c.in-Some.payload)) (search rules) (sym c.in-Some.ensures)) c.in_ok-note.ensures (search rules)

pub unreachable-requires-in_default-rows_of : goal.unreachable-requires-in_default-rows_of
unreachable-requires-in_default-rows_of c =
    there_is c.args.kind _ c.args.segment.now c.in-Message.bytes.now c.in-Ok.batch (ap frame_of c.in-Message.is) c.in-Ok.ensures.read c.requires.accepted c.in_ok-set.set c.in_ok-set.ensures
    (content_of c.in-Some.payload) (found_for c.args.kind _ c.in-Ok.batch.payloads (Some (content_of c.in-Some.payload)) (search rules) (sym c.in-Some.ensures)) (sym c.in_default-rows_of.ensures)

pub add-requires-clause-kind : goal.add-requires-clause-kind
add-requires-clause-kind c =
    kind_is c.args.kind _ c.args.segment.now c.in-Message.bytes.now c.in-Ok.batch (ap frame_of c.in-Message.is) c.in-Ok.ensures.read c.in_ok-set.set c.in-Some-rows_of.rows.now (sym c.in-Some-rows_of.ensures)

pub add-requires-clause-light : goal.add-requires-clause-light
add-requires-clause-light c =
    is_light c.args.kind _ c.args.segment.now c.in-Message.bytes.now c.in-Ok.batch (ap frame_of c.in-Message.is) c.in-Ok.ensures.read c.requires.accepted c.in_ok-set.set c.in_ok-set.ensures
    c.in-Some-rows_of.rows.now (sym c.in-Some-rows_of.ensures)

pub returns : goal.returns
returns c =
    on_ok c.add.result
    (takes_own c.args.kind _ c.args.segment.now c.in-Message.bytes.now c.in-Ok.batch (ap frame_of c.in-Message.is) c.in-Ok.ensures.read (content_of c.in-Some.payload) c.args.self.now c.note.new.self
    c.add.new.self c.in_ok-set.set c.in-Some-rows_of.rows.now (found_for c.args.kind _ c.in-Ok.batch.payloads (Some (content_of c.in-Some.payload)) (search rules) (sym c.in-Some.ensures))
    c.in_ok-note.ensures (search rules) c.in_ok-set.ensures (sym c.in-Some-rows_of.ensures)) c.add.ensures
