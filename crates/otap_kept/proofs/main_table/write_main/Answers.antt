use Rattle.std.proofs.Common.{ap, drop, arith}
use Rattle.std.proofs.lemmas.List.{drop_all}
use Rattle.otap_cells.specs.Tables.{Table}
use Rattle.otap_kept.proofs.WrittenTables.{mains_step, mains_written, still_profile}
use Rattle.otap_kept.proofs.main_table.write_main.Goals as goal

pub rows-preserved : goal.rows-preserved
rows-preserved g c =
    let t = g.R.Rows.table c.args.rows.now in
    let places = c.args.places.now in
    record {
      table = still_profile t.kind c.rows.table c.push_row.new.table _ c.in_ok-push_row.ensures c.rows.invariant.table;
      rows = mains_step t c.rows-count.ensures.sound c.requires.main c.args.resources.now c.args.scopes.now places c.rows.own c.rows.resource c.rows.scope c.rows.n
          c.rows.table.rows c.push_row.new.table.rows (record { own = c.distance.result; resource = c.distance-in-rows.result; scope = c.distance-in-rows-2.result })
          c.past_id-own.result c.past_id-resource.result c.past_id-scope.result _ c.rows-test.true (c.requires.within c.rows.n 0 c.rows-test.true)
          c.distance.ensures.value c.distance-in-rows.ensures.value c.distance-in-rows-2.ensures.value
          c.past_id-own.ensures c.past_id-resource.ensures c.past_id-scope.ensures
          (ap (λ (t : Table). t.rows) c.in_ok-push_row.ensures) c.rows.invariant.rows;
    }

pub returns : goal.returns
returns g c =
    let t = g.R.Rows.table c.args.rows.now in
    let places = c.args.places.now in
    mains_written t.kind c.args.resources.now c.args.scopes.now t.rows c.rows.table c.rows.own c.rows.resource c.rows.scope c.rows.n places (drop c.rows.n places)
    (drop_all c.rows.n places (omega (arith, c.rows-test.false))) c.rows.invariant.table c.rows.invariant.rows
