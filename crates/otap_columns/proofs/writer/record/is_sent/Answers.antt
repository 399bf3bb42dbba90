use Rattle.std.proofs.Common.{◌∙◌, sym, ap, drop, nat_lt, ◌&&◌}
use Rattle.std.specs.Prelude.{◌||◌}
use Rattle.otap_columns.specs.WrittenPayloads.{has_some}
use Rattle.otap_columns.proofs.RecordAppended.{some_left}
use Rattle.otap_columns.proofs.writer.record.is_sent.Goals as goal

pub returns-else-opening : goal.returns-else-opening
returns-else-opening c =
    ap (λ n. nat_lt c.args.from n) c.count.ensures ∙ some_left c.args.from c.args.ladder.now.values
    ∙ (λ i. c.if-is_dictionary.ensures i && (sym c.if-opening.false i || has_some (drop c.args.from c.args.ladder.now.values)))
