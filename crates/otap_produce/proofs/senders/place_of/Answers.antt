use Rattle.std.proofs.Common.{◌<◌, length, sym, ◌∙◌, arith}
use Rattle.std.proofs.lemmas.List.{get_or-map, length-map}
use Rattle.otap_produce.specs.Senders.{SenderIn}
use Rattle.otap_produce.proofs.Fresh.{some_sender}
use Rattle.otap_produce.proofs.senders.place_of.Goals as goal

pub unreachable-requires : goal.unreachable-requires
unreachable-requires c =
    let senders = c.args.senders.now in
    let at = c.requires.0 in
    let inside : at < length senders = omega (arith, c.requires.1, length-map senders (λ (s : SenderIn). s.writer.kind)) in
    let d : SenderIn = some_sender c.args.kind in
    c.senders.invariant at d (omega (arith, inside, c.senders-test.false))
    (sym (get_or-map (λ (s : SenderIn). s.writer.kind) senders at d c.args.kind inside) ∙ c.requires.2)
