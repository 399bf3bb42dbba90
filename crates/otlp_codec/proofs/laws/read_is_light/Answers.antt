use Rattle.otlp_codec.proofs.LightMetrics.{request_light}
use Rattle.otlp_codec.proofs.laws.read_is_light.Goals as goal

pub returns : goal.returns
returns c = λ signal bytes q reads. rw reads.1 (request_light signal bytes)
