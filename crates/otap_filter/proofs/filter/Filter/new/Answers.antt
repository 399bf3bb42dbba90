use Rattle.std.proofs.Common.{refl, sym, ap, ◌∙◌}
use Rattle.otap_cells.specs.Payload.{kinds_of}
use Rattle.otap_kept.specs.Texts.{text_under}
use Rattle.otap_filter.proofs.Fresh.{fresh, stands_new}
use Rattle.otap_filter.proofs.filter.Filter.new.Goals as goal

pub invariant_of-result : goal.invariant_of-result
invariant_of-result c = fresh _ _ _ (c.in_ok-senders.ensures.kinds ∙ ap kinds_of (sym c.in_ok-segment.ensures.same)) c.in_ok-senders.ensures.sent

pub returns : goal.returns
returns c =
    stands_new c.args.signal c.args.whose (text_under c.args.key.now c.args.text.now) _ refl (λ i. text_under (c.in_ok-key.ensures.ok i) (c.in_ok-text.ensures.ok i))
    c.in_ok-segment.ensures refl c.in_ok-senders.ensures.sent
