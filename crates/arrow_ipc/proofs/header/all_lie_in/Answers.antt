use Rattle.std.proofs.Common.{refl, sym, ◌∙◌, arith}
use Rattle.arrow_ipc.specs.Batches.{lies_in}
use Rattle.arrow_ipc.proofs.Pairs.{slice_get-pairs_in, one_bad, one_more, all_good}
use Rattle.arrow_ipc.proofs.header.all_lie_in.Goals as goal

pub unwrap-buffer-requires : goal.unwrap-buffer-requires
unwrap-buffer-requires c = rw (c.pair_at.ensures, slice_get-pairs_in c.args.buffers.now c.loop-place.place (omega arith)) refl

pub returns-then-not-lies_in : goal.returns-then-not-lies_in
returns-then-not-lies_in c =
    sym (one_bad (lies_in c.args.size) c.args.buffers.now c.loop-place.place c.unwrap-buffer.result
    (sym c.pair_at.ensures ∙ c.unwrap-buffer.ensures) (sym c.lies_in.ensures ∙ c.if-not-lies_in.true))

pub loop-place-preserved : goal.loop-place-preserved
loop-place-preserved c =
    one_more (lies_in c.args.size) c.args.buffers.now c.loop-place.place c.unwrap-buffer.result c.loop-place.invariant
    (sym c.pair_at.ensures ∙ c.unwrap-buffer.ensures) (sym c.lies_in.ensures ∙ c.if-not-lies_in.false)

pub returns : goal.returns
returns c = sym (all_good (lies_in c.args.size) c.args.buffers.now c.loop-place.place (omega arith) c.loop-place.invariant)
