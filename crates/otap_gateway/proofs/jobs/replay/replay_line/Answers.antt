use Rattle.std.proofs.Common.{◌≡◌, ◌++◌, ◌∙◌, ap, ℤ, w64, to_z, of_z}
use Rattle.std.specs.Prelude.{codes}
use Rattle.std.specs.Fmt.{decimal, signed_decimal}
use Rattle.std.proofs.lemmas.Int.{to_z-of_z}
use Rattle.otap_gateway.specs.Lines.{batch_head}
use Rattle.otap_gateway.specs.Receptions.{weights_text}
use Rattle.otap_gateway.proofs.Replying.{line_made}
use Rattle.otap_gateway.proofs.jobs.replay.replay_line.Goals as goal

pub returns : goal.returns
returns c =
    let id : to_z w64 (of_z w64 c.args.id) ≡ c.args.id = to_z-of_z w64 c.args.id c.ranges.id in
    line_made c.new-line.result.items c.push_head.new.to.items c.extend_from_slice.new.self.items c.push_number.new.to.items c.push_weights.new.to.items
    (batch_head c.args.number (signed_decimal c.args.id)) (codes " accepted items ") (decimal c.args.items) (weights_text c.args.rows c.args.tree)
    c.new-line.ensures.items (c.in_ok-push_head.ensures ∙ ap (λ (z : ℤ). c.new-line.result.items ++ batch_head c.args.number (signed_decimal z)) id)
    c.in_ok-extend_from_slice.ensures.items c.in_ok-push_number.ensures c.in_ok-push_weights.ensures
