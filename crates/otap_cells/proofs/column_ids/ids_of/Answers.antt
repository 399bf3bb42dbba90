use Rattle.std.proofs.Common.{◌≡◌, ◌∙◌, sym, ap, length, arith}
use Rattle.otap_cells.proofs.ColumnSteps.{written_back, ids_given, ids_missing, all_parents}
use Rattle.otap_cells.proofs.column_ids.ids_of.Goals as goal

pub returns-then-undo-clause-ids : goal.returns-then-undo-clause-ids
returns-then-undo-clause-ids g c =
    let stored = c.deref_mut.ensures.value ∙ c.in_ok-ids.ensures in
    let long : length c.undo.new.ids ≡ length c.in_ok-ids.ids.items = c.undo.ensures.long ∙ ap length c.deref_mut.ensures.value in
    rw (written_back c.in_ok-ids.ids.len c.in_ok-ids.ids.items c.undo.new.ids long (omega (arith, c.in_ok-ids.ids.ok.0)))
    (ids_given (g.R.Rows.table c.args.rows.now) c.args.column c.args.continues.now _ _ _ c.coding.ensures c.greatest.ensures stored _
    (sym c.undo.ensures.exactly ∙ c.if-undo.true) c.undo.ensures.undone)

pub returns-else-undo-clause-refused : goal.returns-else-undo-clause-refused
returns-else-undo-clause-refused g c =
    let stored = c.deref_mut.ensures.value ∙ c.in_ok-ids.ensures in (
      all_parents (g.R.Rows.table c.args.rows.now) c.args.column c.kind.result c.deref.result.now _ c.kind.ensures (c.deref.ensures.value ∙ c.in_ok-ids.ensures)
          c.lacks_parent.ensures.1 c.if-lacks_parent.false,
      λ given. ids_missing (g.R.Rows.table c.args.rows.now) c.args.column c.args.continues.now _ _ _ c.coding.ensures c.greatest.ensures stored given
          (sym c.undo.ensures.exactly ∙ c.if-undo.false),
    )
