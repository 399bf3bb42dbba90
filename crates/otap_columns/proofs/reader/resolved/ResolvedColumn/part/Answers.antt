use Rattle.std.proofs.Common.{true, false, refl, sym, ◌∙◌}
use Rattle.otap_columns.specs.Resolved.{resolved_value}
use Rattle.otap_columns.proofs.Storing.{part_by}
use Rattle.otap_columns.proofs.reader.resolved.ResolvedColumn.part.Goals as goal

pub returns-then-has_bytes : goal.returns-then-has_bytes
returns-then-has_bytes c =
    c.value.ensures ∙ part_by c.args.self.now.base (resolved_value c.args.self.now c.args.row) _ true refl (sym c.if-has_bytes.true ∙ c.has_bytes.ensures)

pub returns-else-has_bytes : goal.returns-else-has_bytes
returns-else-has_bytes c =
    part_by c.args.self.now.base (resolved_value c.args.self.now c.args.row) _ false refl (sym c.if-has_bytes.false ∙ c.has_bytes.ensures)
