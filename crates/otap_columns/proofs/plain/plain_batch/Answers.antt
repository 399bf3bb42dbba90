use Rattle.otap_columns.proofs.PlainForms.{batch_can, batch_fit, batch_holds, batch_nodes, batch_values}
use Rattle.otap_columns.proofs.plain.plain_batch.Goals as goal

pub rows_of-requires-clause-can : goal.rows_of-requires-clause-can
rows_of-requires-clause-can g c =
    batch_can (g.R.Rows.table c.args.rows.now) c.args.kind c.in_ok-forms.forms.items _ c.in_ok-forms.ensures.sound c.requires.kind c.in_ok-forms.ensures.plain c.deref.ensures.value c.in_ok-table.table c.in_ok-unseen.unseen.items _ c.in_ok-table.ensures c.in_ok-unseen.ensures c.deref-2.ensures.value c.requires.light

pub rows_of-requires-clause-fit : goal.rows_of-requires-clause-fit
rows_of-requires-clause-fit g c =
    batch_fit (g.R.Rows.table c.args.rows.now) c.args.kind c.in_ok-forms.forms.items _ c.in_ok-forms.ensures.sound c.requires.kind c.in_ok-forms.ensures.plain c.deref.ensures.value c.in_ok-table.table c.in_ok-unseen.unseen.items _ c.in_ok-table.ensures c.in_ok-unseen.ensures c.deref-2.ensures.value

pub rows_of-requires-clause-values : goal.rows_of-requires-clause-values
rows_of-requires-clause-values g c =
    batch_values (g.R.Rows.table c.args.rows.now) c.args.kind c.in_ok-forms.forms.items _ c.in_ok-forms.ensures.sound c.requires.kind c.in_ok-forms.ensures.plain c.deref.ensures.value c.in_ok-table.table c.in_ok-unseen.unseen.items _ c.in_ok-table.ensures c.in_ok-unseen.ensures c.deref-2.ensures.value

pub returns-clause-holds : goal.returns-clause-holds
returns-clause-holds g c =
    batch_holds (g.R.Rows.table c.args.rows.now) c.args.kind c.in_ok-forms.forms.items _ c.in_ok-forms.ensures.sound c.requires.kind c.in_ok-forms.ensures.plain c.deref.ensures.value c.in_ok-table.table c.in_ok-unseen.unseen.items _ c.in_ok-table.ensures c.in_ok-unseen.ensures c.deref-2.ensures.value c.rows_of.result c.rows_of.ensures.holds

pub returns-clause-nodes : goal.returns-clause-nodes
returns-clause-nodes g c =
    batch_nodes (g.R.Rows.table c.args.rows.now) c.args.kind c.in_ok-forms.forms.items _ c.in_ok-forms.ensures.sound c.requires.kind c.in_ok-forms.ensures.plain c.deref.ensures.value c.in_ok-table.table c.in_ok-unseen.unseen.items _ c.in_ok-table.ensures c.in_ok-unseen.ensures c.deref-2.ensures.value c.rows_of.result c.rows_of.ensures.holds
