use Rattle.std.proofs.Common.{rules, sym}
use denote.Enum.Bare.{same_true}
use Rattle.cbor_values.specs.contracts.weighing.Nesting.{the_type}
use Rattle.otap_attrs.proofs.ValueFaults.{nested_is_fine}
use Rattle.otap_attrs.proofs.values.check_nested.Goals as goal

pub returns-then-eq-clause-ok : goal.returns-then-eq-clause-ok
returns-then-eq-clause-ok c =
    nested_is_fine c.args.nesting c.args.part.now c.in-Ok.told c.in-Ok.ensures.found c.in-Ok.ensures.fine
    (same_true the_type (search rules) _ _ (sym c.if-eq.ensures))
