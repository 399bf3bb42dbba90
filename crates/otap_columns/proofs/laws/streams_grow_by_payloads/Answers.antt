use Rattle.otap_columns.specs.Streams.{opens}
use Rattle.otap_columns.proofs.Openings.{stream_of-other, stream_of-own, own_type}
use Rattle.otap_columns.proofs.laws.streams_grow_by_payloads.Goals as goal

pub returns-clause-other : goal.returns-clause-other
returns-clause-other c = λ kind before p other. stream_of-other kind before p other

pub returns-clause-own : goal.returns-clause-own
unfolding opens
returns-clause-own c = λ before p. stream_of-own p.kind before p (own_type p)
