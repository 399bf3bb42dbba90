use Rattle.std.proofs.Common.{◌≡◌, ◌++◌, ◌∙◌, ap, List, ℕ, append_assoc}
use Rattle.std.specs.Prelude.{codes}
use Rattle.otap_gateway.specs.Lines.{batch_head, or_dash, line_feed, refusal_text}
use Rattle.otap_gateway.proofs.texts.lines.refused_line.Goals as goal

-- a head, and the parts that follow it
joined : (line old part head a b c : List ℕ) → line ≡ old ++ part → old ≡ head → part ≡ a ++ b ++ c → line ≡ head ++ (a ++ (b ++ c))
joined line old part head a b c whole first last = rw (whole, first, last) (simp append_assoc)

pub returns : goal.returns
returns c =
    let head : c.push_batch_head.new.to.items ≡ batch_head c.args.number (or_dash c.args.id)
    = c.in_ok-push_batch_head.ensures ∙ rw c.new-line.ensures.items (ap (batch_head c.args.number) (c.as_bytes.ensures.value ∙ c.in_ok-id.ensures)) in
    joined _ _ _ _ (codes " refused: ") (refusal_text c.args.stage c.args.cause.now c.args.payload) line_feed
    c.in_ok-extend_from_slice.ensures.items head (c.as_bytes-2.ensures.value ∙ c.in_ok-rest.ensures.ok ∙ rw c.in_ok-text.ensures (simp append_assoc))
