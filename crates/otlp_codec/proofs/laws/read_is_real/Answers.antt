use Rattle.otlp_codec.proofs.RealFields.{octets}
use Rattle.otlp_codec.proofs.RequestReal.{request_real}
use Rattle.otlp_codec.proofs.laws.read_is_real.Goals as goal

pub returns : goal.returns
returns c = λ signal bytes q real reads. rw reads.1 (request_real signal bytes (record { fine = reads.0; real = octets bytes real }))
