use Rattle.std.proofs.Common.{sym, arith}
use Rattle.std.proofs.lemmas.Result.{err_from_is_err_and}
use Rattle.arrow_schema.proofs.PairLoop.{pairs_go_on, pair_lost, pair_fails, pairs_end}
use Rattle.arrow_schema.proofs.encoding.read_pairs.Goals as goal

pub returns-in_err-pair : goal.returns-in_err-pair
returns-in_err-pair c =
    let p = err_from_is_err_and c.from_residual.result c.from_residual.ensures.1 in
    rw (p.1, p.2) (pair_lost c.args.pairs.now c.loop-place.place c.loop-place.found c.in_err-pair.field-0.0 _ (omega arith) (sym c.in_err-pair.ensures) c.loop-place.invariant)

pub returns-in_err-found : goal.returns-in_err-found
returns-in_err-found c =
    let p = err_from_is_err_and c.from_residual-in_err-found.result c.from_residual-in_err-found.ensures.1 in
    rw (p.1, p.2) (pair_fails c.args.pairs.now c.loop-place.place c.loop-place.found c.in_ok-pair.pair c.in_err-found.field-0.0 _ (omega arith) (sym c.in_ok-pair.ensures) (sym c.in_err-found.ensures)
    c.loop-place.invariant)

pub loop-place-preserved : goal.loop-place-preserved
loop-place-preserved c =
    pairs_go_on c.args.pairs.now c.loop-place.place c.loop-place.found c.in_ok-found.found c.in_ok-pair.pair _ (omega arith) (sym c.in_ok-pair.ensures) (sym c.in_ok-found.ensures) c.loop-place.invariant

pub returns : goal.returns
returns c = pairs_end c.args.pairs.now c.loop-place.place c.loop-place.found _ (omega arith) c.loop-place.invariant
