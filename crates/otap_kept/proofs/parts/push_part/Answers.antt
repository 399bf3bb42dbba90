use Rattle.std.proofs.Common.{◌≡◌, ◌∙◌, ◌++◌, ◌∷◌, [], drop, get_or, map, ap, subst, sym}
use Rattle.otap_cells.specs.Cells.{seen}
use Rattle.otap_cells.specs.Columns.{columns_of}
use Rattle.otap_cells.specs.Tables.{IsRow}
use Rattle.otap_kept.proofs.RowFits.{part_fits}
use Rattle.otap_kept.proofs.parts.push_part.Goals as goal

pub push_cells-requires : goal.push_cells-requires
push_cells-requires g c =
    let t = g.R.Rows.table c.args.rows.now in
    let cells : map seen c.deref.result.now ≡ seen c.id_cell.result ∷ seen c.id_cell-2.result ∷ drop 2 (get_or t.rows c.args.row []) =
    ap (map seen) c.deref.ensures.value ∙ c.in_ok-add_cells.ensures
    ∙ ap (λ xs. map seen xs ++ drop 2 (get_or t.rows c.args.row [])) (c.in_ok-push-2.ensures.items
    ∙ ap (λ xs. xs ++ c.id_cell-2.result ∷ []) (c.in_ok-push.ensures.items ∙ ap (λ xs. xs ++ c.id_cell.result ∷ []) c.clear.ensures.items)) in
    subst (IsRow (columns_of c.args.table.now.kind)) (sym cells)
    (part_fits t c.rows-count.ensures.sound c.args.row c.requires.row c.args.table.now.kind c.requires.kind c.requires.part
    (seen c.id_cell.result) (seen c.id_cell-2.result) c.id_cell.ensures.fits c.id_cell-2.ensures.fits)
