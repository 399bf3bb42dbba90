use Rattle.otap_columns.proofs.SeenOn.{stands}
use Rattle.otap_columns.proofs.writer.seen.SeenColumn.form.Goals as goal

pub returns : goal.returns
returns c = λ tables is. stands c.args.kind c.args.column c.args.self.now c.form_now.result c.form_now.ensures tables is
