use Rattle.otap_columns.proofs.SeenOn.{sees_step}
use Rattle.otap_columns.proofs.writer.seen.SeenColumn.observe.Goals as goal

pub returns : goal.returns
returns c =
    sees_step c.args.table.now.kind c.args.column c.args.table.now c.args.self.now c.step.new.self c.step.result c.step.ensures.ladder c.step.ensures.wide c.step.ensures.placed
