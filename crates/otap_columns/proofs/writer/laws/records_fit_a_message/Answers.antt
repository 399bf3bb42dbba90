use Rattle.otap_columns.proofs.BatchShort.{batch_short, few_columns, few_tables}
use Rattle.otap_columns.proofs.writer.laws.records_fit_a_message.Goals as goal

pub returns-clause-bound : goal.returns-clause-bound
returns-clause-bound c = batch_short

pub returns-clause-columns : goal.returns-clause-columns
returns-clause-columns c = few_columns

pub returns-clause-tables : goal.returns-clause-tables
returns-clause-tables c = few_tables
