use Rattle.std.proofs.Common.{◌≡◌, arith, rules, subst, sym}
use Rattle.otap_cells.specs.Named.{table_named}
use Rattle.otap_attrs.specs.Facts.{HasWeights}
use Rattle.otap_checks.specs.Known.{IsWeighed}
use Rattle.otap_checks.proofs.known.find_weights.Goals as goal

pub returns-then-eq : goal.returns-then-eq
returns-then-eq c = λ tables all.
    let here : IsWeighed tables c.pairs-item.result =
    subst (IsWeighed tables) (sym c.pairs-item.is) (all c.known.pairs-index c.pairs-item.result (omega arith)) in
    let same : c.pairs-item.result.kind ≡ c.args.kind = search rules in
    subst (HasWeights (table_named c.args.kind tables)) (sym c.deref.ensures.value)
    (subst (λ kind. HasWeights (table_named kind tables) c.pairs-item.result.weights.items) same here)
