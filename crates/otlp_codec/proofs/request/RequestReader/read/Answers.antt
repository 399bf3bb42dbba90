use Rattle.otlp_model.specs.declared.request.Signal.TheVariants as signals
use Rattle.otlp_codec.proofs.RequestProfile.{request_profile}
use Rattle.otlp_codec.proofs.request.RequestReader.read.Goals.{in-Traces+in_ok-read_part-in-Traces, in-Logs+in_ok-read_part-in-Logs, in-Metrics+in_ok-read_part-in-Metrics}
use Rattle.otlp_codec.proofs.request.RequestReader.read.Goals as goal

pub returns-clause-profile : goal.returns-clause-profile
returns-clause-profile c = elim c.match-signal.branch [ in-Traces+in_ok-read_part-in-Traces w ↦ (let h = w.in_ok-read_part-in-Traces.ensures.value in rw w.result-is (rw h.1 (request_profile signals.Traces c.args.bytes.now h.0))) | in-Logs+in_ok-read_part-in-Logs w ↦ (let h = w.in_ok-read_part-in-Logs.ensures.value in rw w.result-is (rw h.1 (request_profile signals.Logs c.args.bytes.now h.0))) | in-Metrics+in_ok-read_part-in-Metrics w ↦ (let h = w.in_ok-read_part-in-Metrics.ensures.value in rw w.result-is (rw h.1 (request_profile signals.Metrics c.args.bytes.now h.0))) ]
