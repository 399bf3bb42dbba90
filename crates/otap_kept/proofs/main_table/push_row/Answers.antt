use Rattle.std.proofs.Common.{◌≡◌, ◌∙◌, ◌++◌, ◌∷◌, [], drop, get_or, map, ap, subst, sym}
use Rattle.otap_cells.specs.Cells.{cell_at, seen}
use Rattle.otap_cells.specs.Columns.{columns_of}
use Rattle.otap_cells.specs.Tables.{IsRow}
use Rattle.otap_kept.proofs.RowFits.{front_fits}
use Rattle.otap_kept.proofs.main_table.push_row.Goals as goal

pub push_cells-requires : goal.push_cells-requires
push_cells-requires g c =
    let t = g.R.Rows.table c.args.rows.now in
    let row = get_or t.rows c.args.row [] in
    let ids = c.args.ids.now in
    let views : c.push-5.new.self.items ≡ ids.own ∷ ids.resource ∷ c.cell.result ∷ c.cell-2.result ∷ ids.scope ∷ [] =
    c.in_ok-push-5.ensures.items ∙ ap (λ xs. xs ++ ids.scope ∷ []) (c.in_ok-push-4.ensures.items
    ∙ ap (λ xs. xs ++ c.cell-2.result ∷ []) (c.in_ok-push-3.ensures.items ∙ ap (λ xs. xs ++ c.cell.result ∷ []) (c.in_ok-push-2.ensures.items
    ∙ ap (λ xs. xs ++ ids.resource ∷ []) (c.in_ok-push.ensures.items ∙ ap (λ xs. xs ++ ids.own ∷ []) c.clear.ensures.items)))) in
    let cells : map seen c.deref.result.now ≡ seen ids.own ∷ seen ids.resource ∷ cell_at row 2 ∷ cell_at row 3 ∷ seen ids.scope ∷ drop 5 row =
    ap (map seen) c.deref.ensures.value ∙ c.in_ok-add_cells.ensures ∙ ap (λ xs. map seen xs ++ drop 5 row) views
    ∙ (λ i. seen ids.own ∷ seen ids.resource ∷ c.cell.ensures.value i ∷ c.cell-2.ensures.value i ∷ seen ids.scope ∷ drop 5 row) in
    subst (IsRow (columns_of c.args.table.now.kind)) (sym cells)
    (front_fits t c.rows-count.ensures.sound c.args.row c.requires.row c.args.table.now.kind c.requires.kind c.requires.main
    (seen ids.own) (seen ids.resource) (seen ids.scope) c.requires.own c.requires.resource c.requires.scope)
