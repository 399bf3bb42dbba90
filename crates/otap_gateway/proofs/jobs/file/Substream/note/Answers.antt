use Rattle.std.proofs.Common.{◌∙◌, ap, not, refl, rules}
use Rattle.otap_gateway.proofs.FiledBatches.{notes_new}
use Rattle.otap_gateway.proofs.jobs.file.Substream.note.Goals as goal

pub returns : goal.returns
returns c = notes_new c.args.schema_id.now c.args.self.now _ (c.is_open.ensures ∙ ap not c.if-is_open.false) c.next-self.ensures (search rules) refl
