use Rattle.std.proofs.Common.{◌≡◌, ℕ, List, ◌++◌, ap, ◌∙◌, subst}
use Rattle.arrow_ipc.specs.Batches.{BatchIn}
use Rattle.arrow_schema.specs.declared.spec.SchemaSpec.{SchemaSpec}
use Rattle.arrow_file.specs.declared.block.Block.{Block}
use Rattle.arrow_file.specs.Inside.{writer_in}
use Rattle.arrow_file.specs.Footers.{IsFooter}
use Rattle.arrow_file.specs.Written.{IsWrittenFile}
use Rattle.arrow_file.specs.Writers.{WriterIn, StandsFor}
use Rattle.arrow_file.proofs.Filed.{tail_of, file_written}
use Rattle.arrow_file.proofs.writer.FileWriter.finish.Goals as goal

pub returns : goal.returns
returns c =
    let footer : List ℕ = c.in_ok-footer.footer.items in
    let is : IsFooter c.self.inside.footer c.self.inside.schema c.self.inside.blocks.items footer =
    subst (λ (blocks : List Block). IsFooter c.self.inside.footer c.self.inside.schema blocks footer) c.deref.ensures.value c.in_ok-footer.ensures in
    let whole : c.append_end.new.bytes.items ≡ c.self.inside.bytes.items ++ tail_of footer =
    c.in_ok-append_end.ensures.ok ∙ ap (λ (f : List ℕ). c.self.inside.bytes.items ++ tail_of f) c.deref-2.ensures.value in
    subst (λ (w : WriterIn). (spec : SchemaSpec) (batches : List BatchIn) → StandsFor spec batches w → IsWrittenFile spec batches c.append_end.new.bytes.items) c.self.view_is
    (file_written (writer_in c.self.inside) c.append_end.new.bytes.items footer is whole)
