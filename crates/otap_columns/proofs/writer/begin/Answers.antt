use Rattle.std.proofs.Common.{sym, ◌∙◌}
use Rattle.otap_columns.proofs.StateMade.{none_first}
use Rattle.otap_columns.proofs.writer.begin.Goals as goal

pub returns-in_ok-seen : goal.returns-in_ok-seen
returns-in_ok-seen c = λ tables begun seen. none_first c.args.kind tables c.in_ok-seen.field-0.items (sym begun ∙ c.if-not-started.true) c.in_ok-seen.ensures

pub returns-else-not-started : goal.returns-else-not-started
returns-else-not-started c = λ tables begun seen. seen c.if-not-started.false
