use Rattle.std.proofs.Common.{drop, arith}
use Rattle.std.proofs.lemmas.List.{drop_all}
use Rattle.otap_kept.proofs.WrittenTables.{parts_written}
use Rattle.otap_kept.proofs.parts.write_parts.Goals as goal

pub returns : goal.returns
returns g c =
    let t = g.R.Rows.table c.args.rows.now in
    let entries = c.args.entries.now in
    parts_written t.kind t.rows c.entries.table c.entries.step c.entries.parent _ entries (drop c.entries.entry-index entries)
    (drop_all c.entries.entry-index entries (omega (arith, c.entries-test.false))) c.entries.invariant.table c.entries.invariant.rows
