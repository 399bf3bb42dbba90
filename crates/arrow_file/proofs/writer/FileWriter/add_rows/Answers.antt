use Rattle.std.proofs.Common.{◌≡◌, [], ◌∷◌, ◌++◌, refl, subst, arith}
use Rattle.std.proofs.lemmas.Grind.{common_steps}
use Rattle.arrow_file.specs.Inside.{writer_in}
use Rattle.arrow_file.specs.Writers.{WriterIn, AddsRows}
use Rattle.arrow_file.proofs.RowsAdded.{rows_added}
use Rattle.arrow_file.proofs.writer.FileWriter.add_rows.Goals as goal

pub returns-clause-ok : goal.returns-clause-ok
returns-clause-ok c =
    let new : WriterIn = record { bytes = c.append_rows.new.bytes.items; blocks = c.push.new.self.items; footer = c.self.inside.footer; schema = c.self.inside.schema } in
    let blocks : c.push.new.self.items ≡ c.self.inside.blocks.items ++ c.in_ok-block.block ∷ [] = grind (arith, common_steps, c.in_ok-push.ensures.items, c.in_ok-reserve.ensures.items) in
    subst (λ (old : WriterIn). AddsRows c.args.batch old new) c.self.view_is
    (rows_added c.args.batch (writer_in c.self.inside) new c.in_ok-block.block c.in_ok-block.ensures.ok blocks refl refl)
