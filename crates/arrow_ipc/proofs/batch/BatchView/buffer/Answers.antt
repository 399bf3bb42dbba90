use Rattle.std.proofs.Common.{◌≡◌, Some, length, refl, sym}
use Rattle.std.proofs.lemmas.Option.{slice_get-map}
use Rattle.arrow_ipc.specs.Batches.{structs_of, lies_in}
use Rattle.arrow_ipc.proofs.Pairs.{each_good}
use Rattle.arrow_ipc.proofs.batch.BatchView.buffer.Goals as goal

pub buffer_of-requires : goal.buffer_of-requires
buffer_of-requires c =
    let there : c.self.inside.buffers ≡ Some c.in_ok-as_ref.field-0.now = sym c.in_ok-as_ref.ensures.value in
    each_good (lies_in (length c.self.inside.body.now)) (structs_of c.self.inside.buffers) c.args.place c.in_ok-place.place c.self.invariant.inside
    (rw (there, ← c.pair_at.ensures) c.in_ok-place.was)

pub returns : goal.returns
returns c =
    let there : c.self.inside.buffers ≡ Some c.in_ok-as_ref.field-0.now = sym c.in_ok-as_ref.ensures.value in
    rw (← c.self.view_is, there, slice_get-map, ← c.pair_at.ensures, c.in_ok-place.was, c.buffer_of.ensures) refl
