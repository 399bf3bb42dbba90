use Rattle.std.proofs.lemmas.List.Elements.{recursion_from_All}
use Rattle.lists.proofs.AllBytes.{IsBytes-from_all}
use Rattle.otap_signals.specs.BySignal.{meaning_by}
use Rattle.otap_consume.specs.Bytes.{IsOfBytes}
use Rattle.otap_consume.proofs.ByteCaptures.{capture_bytes}
use Rattle.otap_consume.proofs.Receivable.{some_received, all_received}
use Rattle.otap_consume.proofs.receiving_laws.received_some_outcome.Goals as goal

pub returns-clause-next : goal.returns-clause-next
returns-clause-next c = λ signal frames outcomes frame before bytes received.
    some_received (meaning_by signal) (c.row_defects_are_decided.ensures.decided signal) frames outcomes frame (recursion_from_All IsOfBytes frames before) bytes received

pub returns-clause-all : goal.returns-clause-all
returns-clause-all c = λ signal frames bytes. all_received (meaning_by signal) (c.row_defects_are_decided.ensures.decided signal) frames (recursion_from_All IsOfBytes frames bytes)

pub returns-clause-capture : goal.returns-clause-capture
returns-clause-capture c = λ signal bytes frames end fits is.
    all_received (meaning_by signal) (c.row_defects_are_decided.ensures.decided signal) frames (capture_bytes bytes frames end (IsBytes-from_all bytes fits) is)
