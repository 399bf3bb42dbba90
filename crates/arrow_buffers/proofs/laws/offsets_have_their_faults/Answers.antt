use Rattle.arrow_buffers.proofs.Faults.{no-fault-law, short-law, bad-law}
use Rattle.arrow_buffers.proofs.laws.offsets_have_their_faults.Goals as goal

pub returns-clause-no_fault : goal.returns-clause-no_fault
returns-clause-no_fault c = no-fault-law

pub returns-clause-short : goal.returns-clause-short
returns-clause-short c = short-law

pub returns-clause-bad_offsets : goal.returns-clause-bad_offsets
returns-clause-bad_offsets c = bad-law
