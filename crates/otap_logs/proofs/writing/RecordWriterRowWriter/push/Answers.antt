use Rattle.std.proofs.Common.{◌≡◌, List, [], ◌∷◌, ◌++◌, refl, rules, subst}
use Rattle.std.specs.Prelude.{OnOk}
use Rattle.std.proofs.lemmas.Int.{ints}
use Rattle.otap_cells.specs.declared.profile.Base.TheVariants as base
use Rattle.otap_cells.specs.Cells.{Cell}
use Rattle.otap_groups.specs.Views.{front_cells}
use Rattle.otap_attrs.proofs.AttributeRows.{seven_fit}
use Rattle.otap_logs.proofs.RecordRows.{record_fits, record_row}
use Rattle.otap_logs.proofs.writing.RecordWriterRowWriter.push.Goals as goal

pub push_cells-requires : goal.push_cells-requires
push_cells-requires c =
    record_fits c.args.table.now.kind (front_cells c.args.front.now) _ _ _ _ _ _ _ _ _ _ _ _ _ _ _ _ c.requires.kind c.requires.front
    (c.bits_cell.ensures.fits base.Timestamp refl) (c.bits_cell-2.ensures.fits base.Timestamp refl) (c.octets_cell.ensures.trace c.requires.item.trace_id) (c.octets_cell-2.ensures.span c.requires.item.span_id)
    (c.int_cell.ensures.small (search (rules, ints))) c.text_cell.ensures.fits (seven_fit c.value_cells-body.result _ c.value_cells-body.ensures.fits)
    c.number_cell.ensures.fits c.number_cell-2.ensures.fits c.text_cell-2.ensures.fits

pub returns-clause-ok : goal.returns-clause-ok
returns-clause-ok c =
    subst (λ (row : List Cell). OnOk c.push_cells.result (c.push_cells.new.self ≡ record c.args.table.now { rows = c.args.table.now.rows ++ row ∷ [] }))
    (record_row (front_cells c.args.front.now) c.args.log.now c.value_cells-body.result _ _ _ _ _ _ _ _ _ _ c.value_cells-body.ensures.fits c.value_cells-body.ensures.cells
    c.bits_cell.ensures.value c.bits_cell-2.ensures.value c.octets_cell.ensures.value c.octets_cell-2.ensures.value (search (rules, ints)) c.text_cell.ensures.value
    c.number_cell.ensures.value c.number_cell-2.ensures.value c.text_cell-2.ensures.value) c.push_cells.ensures.ok
