use Rattle.std.proofs.Common.{length}
use Rattle.arrow_ipc.specs.Fronts.{rest_of}
use Rattle.otap_columns.proofs.Judging.{GoneSoFar}
use Rattle.otap_columns.proofs.reader.Reader.take_dictionaries.Given as goal

abbrev pub invariant-messages : goal.invariant-messages
invariant-messages l = GoneSoFar l.initial.self l.initial.messages l.self l.messages

abbrev pub decreases-messages : goal.decreases-messages
decreases-messages l = length (rest_of l.messages)
