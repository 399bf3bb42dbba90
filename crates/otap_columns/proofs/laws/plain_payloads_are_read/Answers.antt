use Rattle.otap_columns.proofs.PlainRead.{one_schema, read_again, same_stream}
use Rattle.otap_columns.proofs.laws.plain_payloads_are_read.Goals as goal

pub returns-clause-again : goal.returns-clause-again
returns-clause-again c = read_again

pub returns-clause-one : goal.returns-clause-one
returns-clause-one c = one_schema

pub returns-clause-stream : goal.returns-clause-stream
returns-clause-stream c = same_stream
