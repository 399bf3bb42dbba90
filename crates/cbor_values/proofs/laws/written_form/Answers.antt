use Rattle.cbor_values.proofs.Told.{written_again}
use Rattle.cbor_values.proofs.WrittenBytes.{written_in_bytes}
use Rattle.cbor_values.proofs.WrittenLaws.{written_is, length_bound}
use Rattle.cbor_values.proofs.laws.written_form.Goals as goal

pub returns-clause-stands : goal.returns-clause-stands
returns-clause-stands c = written_is

pub returns-clause-again : goal.returns-clause-again
returns-clause-again c = written_again

pub returns-clause-bytes : goal.returns-clause-bytes
returns-clause-bytes c = written_in_bytes

pub returns-clause-short : goal.returns-clause-short
returns-clause-short c = length_bound
