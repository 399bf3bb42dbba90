use Rattle.std.proofs.Common.{◌≡◌, ◌+◌, ◌<◌, ◌≤◌, ◌^◌, ℕ, List, length, drop, sym, ◌∙◌, subst, arith}
use Rattle.byteorder.specs.Endian.{little_number}
use Rattle.arrow_ipc.specs.declared.messages.IpcMessage.TheVariants.{Rows}
use Rattle.arrow_ipc.specs.Batches.{BatchIn}
use Rattle.arrow_ipc.specs.Written.{most_of_batch, Appends}
use Rattle.arrow_file.specs.BlockBytes.{IsBlock}
use Rattle.arrow_file.proofs.RowsWritten.{sizes, rest_written, written_at}
use Rattle.arrow_file.proofs.writer.append_rows.Goals as goal

-- the message that is looked at is the one that was appended
message_is : (batch : BatchIn) (old new bytes message : List ℕ) (offset : ℕ) (a : Appends (Rows batch) (most_of_batch batch) old new)
    → offset ≡ length old → bytes ≡ new → message ≡ drop offset bytes → message ≡ a.written
message_is batch old new bytes message offset a at same is = is ∙ (λ i. drop (at i) (same i)) ∙ rest_written batch old new a

pub block_of-requires-clause-whole : goal.block_of-requires-clause-whole
block_of-requires-clause-whole c =
    let a = c.in_ok-finish_rows.ensures.ok in
    let s = sizes c.args.batch c.args.bytes.now.items c.finish_rows.new.to.items a c.requires.nodes c.requires.buffers in
    let is = message_is c.args.batch c.args.bytes.now.items c.finish_rows.new.to.items c.deref.result.now c.rest-message.result.now c.len-offset.result a (omega arith) c.deref.ensures.value c.rest-message.ensures in
    subst (λ (m : List ℕ). 8 + little_number 4 (drop 4 m) ≤ length m) (sym is) (omega (arith, s.number, s.whole))

pub block_of-requires-clause-fits : goal.block_of-requires-clause-fits
block_of-requires-clause-fits c =
    let a = c.in_ok-finish_rows.ensures.ok in
    let s = sizes c.args.batch c.args.bytes.now.items c.finish_rows.new.to.items a c.requires.nodes c.requires.buffers in
    let is = message_is c.args.batch c.args.bytes.now.items c.finish_rows.new.to.items c.deref.result.now c.rest-message.result.now c.len-offset.result a (omega arith) c.deref.ensures.value c.rest-message.ensures in
    subst (λ (m : List ℕ). 8 + little_number 4 (drop 4 m) < 2 ^ 31) (sym is) (omega (arith, s.number, s.fits))

pub returns-clause-ok : goal.returns-clause-ok
returns-clause-ok c =
    let a = c.in_ok-finish_rows.ensures.ok in
    let at : c.len-offset.result ≡ length c.args.bytes.now.items = omega arith in
    let is = message_is c.args.batch c.args.bytes.now.items c.finish_rows.new.to.items c.deref.result.now c.rest-message.result.now c.len-offset.result a at c.deref.ensures.value c.rest-message.ensures in
    written_at c.args.batch c.args.bytes.now.items c.finish_rows.new.to.items a c.requires.nodes c.requires.buffers c.block_of.result
    (subst (λ (m : List ℕ). IsBlock (length c.args.bytes.now.items) m c.block_of.result) is
    (subst (λ (o : ℕ). IsBlock o c.rest-message.result.now c.block_of.result) at c.block_of.ensures))
