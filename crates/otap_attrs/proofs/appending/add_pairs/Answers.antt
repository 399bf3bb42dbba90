use Rattle.std.proofs.Common.{◌≤◌, List, ap, subst, sym, arith}
use Rattle.std.proofs.lemmas.Result.{err_from_is_err_and}
use Rattle.otlp_model.specs.declared.value.Pair.{Pair}
use Rattle.otlp_model.specs.Limits.{weight_limit}
use Rattle.otlp_model.specs.Weight.{total, weight_of_pair, weight_of_value}
use Rattle.otap_cells.specs.Tables.{Table}
use Rattle.otap_attrs.proofs.AppendedPairs.{first_stay}
use Rattle.otap_attrs.proofs.PairRows.{value_weight}
use Rattle.otap_attrs.proofs.appending.add_pairs.Goals as goal

pub nested_bytes-requires : goal.nested_bytes-requires
nested_bytes-requires c =
    subst (λ (pair : Pair). weight_of_value pair.value ≤ weight_limit) (sym c.pair-item.is)
    (value_weight c.as_slice-pair-items.result.now c.pairs.pair-index weight_limit c.pair-item.result
    (subst (λ (pairs : List Pair). total 32 weight_of_pair pairs ≤ weight_limit) (sym c.as_slice-pair-items.ensures) c.requires.weight) (omega arith))

pub returns-in_err-add_pair-clause-err : goal.returns-in_err-add_pair-clause-err
returns-in_err-add_pair-clause-err c =
    let p = err_from_is_err_and c.from_residual-in_err-add_pair.result c.from_residual-in_err-add_pair.ensures.1 in
    rw p.1 (first_stay c.args.table.now.rows _ c.pairs.table.rows c.add_pair.new.table.rows (ap (λ (t : Table). t.rows) c.pairs.invariant) c.in_err-add_pair.ensures.err)
