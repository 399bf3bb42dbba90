use Rattle.std.proofs.Common.{◌++◌, sym, ◌∙◌}
use Rattle.std.proofs.lemmas.List.{take-append-drop}
use Rattle.otap_gateway.proofs.Printed.{digits_go_on}
use Rattle.otap_gateway.proofs.texts.rows.push_hex.Goals as goal

pub parts-preserved : goal.parts-preserved
parts-preserved c = digits_go_on _ _ _ c.parts.rest.now _ _
    (sym (take-append-drop 16 c.parts.rest.now) ∙ (λ i. sym c.split_at.ensures.front i ++ sym c.split_at.ensures.back i))
    c.parts.invariant c.in_ok-push_digits.ensures
