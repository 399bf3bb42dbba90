use Rattle.std.proofs.Common.{arith, rules}
use Rattle.otap_gateway.proofs.FileWords.{too_large, type_told}
use Rattle.otap_gateway.proofs.jobs.payload_type.kind_of.Goals as goal

pub returns-then-number-gt-LAST_TYPE : goal.returns-then-number-gt-LAST_TYPE
returns-then-number-gt-LAST_TYPE c = too_large c.args.word.now c.args.signal c.in_ok-number.number c.in_ok-number.ensures.0 (omega arith) c.in_ok-number.ensures.1

pub returns : goal.returns
returns c = type_told c.args.word.now c.args.signal c.in_ok-number.number _ c.table_of.result c.in_ok-number.ensures.0 c.in_ok-number.ensures.1 (search rules) c.table_of.ensures
