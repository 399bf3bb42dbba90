use Rattle.otap_columns.proofs.Simulated.{far_end}
use Rattle.otap_signals.specs.BySignal.{meaning_by, rows_by}
use Rattle.otap_transit.proofs.Arriving.{some, arrive}
use Rattle.otap_transit.proofs.laws.what_is_sent_arrives.Goals as goal

pub returns-clause-some : goal.returns-clause-some
returns-clause-some c = λ signal sendings allowed. some far_end (meaning_by signal) (rows_by signal) (c.tables_are_faithful.ensures signal) sendings allowed

pub returns-clause-all : goal.returns-clause-all
returns-clause-all c = λ signal sendings returned allowed each. arrive far_end (meaning_by signal) (rows_by signal) (c.tables_are_faithful.ensures signal) sendings returned allowed each
