use Rattle.std.proofs.Common.{arith, drop}
use Rattle.otap_cells.specs.Continuing.{again_of, ids_in_front}
use Rattle.otap_cells.proofs.Flags.{flags_done, flags_more}
use Rattle.otap_cells.proofs.continuing.continuing_rows.Goals as goal

pub rows-preserved : goal.rows-preserved
rows-preserved g c =
    let t = g.R.Rows.table c.args.rows.now in
    flags_more (again_of t.kind) (drop (ids_in_front t.kind)) t.rows c.rows.row _ _ _ (omega (arith, c.rows-row-end.ensures.count))
    c.continues.ensures c.rows.invariant c.in_ok-push.ensures.items

pub returns : goal.returns
returns g c =
    let t = g.R.Rows.table c.args.rows.now in
    flags_done (again_of t.kind) (drop (ids_in_front t.kind)) t.rows c.rows.row _ (omega (arith, c.rows-row-end.ensures.count)) c.rows.invariant
