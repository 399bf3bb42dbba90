use Rattle.std.proofs.Common.{sym, drop}
use Rattle.otap_cells.specs.Columns.{base_at}
use Rattle.std.specs.Prelude.{not}
use Rattle.otap_columns.specs.Schemas.{arrow_type_in}
use Rattle.otap_columns.specs.WrittenRecords.{is_sent}
use Rattle.otap_columns.proofs.RecordAppended.{sends_none}
use Rattle.otap_columns.proofs.writer.record.add_head.Goals as goal

pub returns-then-not-is_sent-clause-adds : goal.returns-then-not-is_sent-clause-adds
returns-then-not-is_sent-clause-adds c =
    sends_none (arrow_type_in (base_at c.args.kind c.args.column) c.args.form) (is_sent c.args.opening c.args.form (drop c.args.from c.args.ladder.now.values)) (not c.args.opening) c.args.column
    (drop c.args.from c.args.ladder.now.values) c.args.to.now.items (sym c.if-not-is_sent.ensures)
