use Rattle.std.proofs.Common.{◌≡◌, ◌+◌, arith}
use Rattle.std.specs.Prelude.{slice_set}
use Rattle.otap_consume.specs.Streams.{StreamIn}
use Rattle.otap_consume.specs.StreamSteps.{closed}
use Rattle.otap_consume.proofs.Lists.{UpTo, up_to_more}
use Rattle.otap_consume.proofs.RecordSteps.{closed_all}
use Rattle.otap_consume.proofs.segment.close_all.Goals as goal

pub returns : goal.returns
returns c = closed_all c.args.streams.now c.streams.streams c.streams.auto.streams (λ i d inside. c.streams.invariant.done i d (omega arith))

-- one more is closed
pub streams-preserved : goal.streams-preserved
streams-preserved c =
    let shut : StreamIn → StreamIn → Type 0 = λ old new. new ≡ closed old in
    let so_far : UpTo shut c.args.streams.now c.streams.streams c.streams.place = record { done = c.streams.invariant.done; rest = c.streams.invariant.rest } in
    let more : UpTo shut c.args.streams.now (slice_set c.streams.streams c.streams.place c.close.new.self) (c.streams.place + 1) =
    up_to_more shut c.args.streams.now c.streams.streams c.streams.place c.index-streams-place.result c.close.new.self c.streams.auto.streams (omega arith)
    c.close.ensures so_far in
    record { done = more.done; rest = more.rest }
