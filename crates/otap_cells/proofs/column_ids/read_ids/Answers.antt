use Rattle.otap_cells.specs.Continuing.{continues_in}
use Rattle.otap_cells.proofs.WithoutRuns.{given_too, refusals_too}
use Rattle.otap_cells.proofs.column_ids.read_ids.Goals as goal

pub returns-in-Plain-clause-ids : goal.returns-in-Plain-clause-ids
returns-in-Plain-clause-ids g c =
    let t = g.R.Rows.table c.args.rows.now in
    given_too (λ ids. ids.items) t c.args.column _ (continues_in t) c.ids_of-in-Plain.result _ c.in-Plain.is c.coding.ensures c.ids_of-in-Plain.ensures.ids

pub returns-in-Plain-clause-refused : goal.returns-in-Plain-clause-refused
returns-in-Plain-clause-refused g c =
    let t = g.R.Rows.table c.args.rows.now in
    refusals_too (λ ids. ids.items) t c.args.column _ (continues_in t) c.ids_of-in-Plain.result _ c.in-Plain.is c.coding.ensures c.ids_of-in-Plain.ensures.refused
