use Rattle.std.proofs.Common.{◌∙◌, ◌++◌, ap, sym, arith}
use Rattle.otap_kept.proofs.WrittenSteps.{numbers_none}
use Rattle.otap_kept.proofs.attributes.numbered_rows.Goals as goal

pub rows-preserved-in_default : goal.rows-preserved-in_default
rows-preserved-in_default g c =
    let rows = (g.R.Rows.table c.args.rows.now).rows in
    let within = c.rows-test.true in
    record {
      table = c.rows.invariant.table;
      rows = ap (λ more. c.rows.table.rows ++ more) (sym (numbers_none c.args.numbers.now rows c.rows.row
          (omega (arith, within, c.rows-count.ensures.count, c.requires.long)) (omega (arith, within, c.rows-count.ensures.count)) c.in_default.is))
          ∙ c.rows.invariant.rows;
    }
