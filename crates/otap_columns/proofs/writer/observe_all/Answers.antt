use Rattle.std.proofs.Common.{◌≡◌, ◌<◌, length, ap, subst, arith}
use Rattle.std.proofs.lemmas.List.{get_or_default}
use Rattle.otap_cells.specs.Columns.{width_of}
use Rattle.otap_columns.specs.SeenInside.{SeesTable}
use Rattle.otap_columns.specs.WrittenRows.{unseen}
use Rattle.otap_columns.proofs.StateMade.{observed_none, observed_more}
use Rattle.otap_columns.proofs.writer.observe_all.Goals as goal

pub columns-init : goal.columns-init
columns-init c = observed_none c.args.table.now.kind c.args.table.now c.args.seen.now

pub columns-preserved : goal.columns-preserved
columns-preserved c =
    let n = c.columns.column in
    let width : width_of c.kind.result ≡ width_of c.args.table.now.kind = ap width_of c.kind.ensures in
    let low : n < length c.columns.seen = omega (arith, c.columns-test.true, c.columns-2.ensures.width, c.requires.count, width, c.columns.invariant.count) in
    observed_more c.args.table.now.kind c.args.table.now c.args.seen.now c.columns.seen n c.observe.new.self low c.columns.invariant
    (subst (λ s. SeesTable c.args.table.now.kind n c.args.table.now s c.observe.new.self) (get_or_default c.columns.seen n _ unseen low) c.in_ok-observe.ensures)

pub returns : goal.returns
returns c =
    let width : width_of c.kind.result ≡ width_of c.args.table.now.kind = ap width_of c.kind.ensures in
    record { count = c.columns.invariant.count; each = λ column low. c.columns.invariant.done column (omega (arith, low, c.columns-test.false, c.columns-2.ensures.width, width)) }
