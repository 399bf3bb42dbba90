use Rattle.std.proofs.Common.{IfOk, subst, sym}
use Rattle.otlp_model.specs.declared.request.Signal.{Signal}
use Rattle.otap_capture.specs.Capture.{frame_of}
use Rattle.otap_signals.specs.BySignal.{meaning_by, rows_by}
use Rattle.otap_gateway.specs.declared.jobs.command.Command.TheVariants as command
use Rattle.otap_gateway.specs.Commands.{ReplyOf}
use Rattle.otap_gateway.specs.Encoding.{encoded, Encodes}
use Rattle.otap_gateway.specs.EncodingSteps.{HasEncoded}
use Rattle.otap_gateway.specs.Jobs.{Extends}
use Rattle.otap_gateway.specs.JobStates.{HasRepliedBy}
use Rattle.otap_gateway.proofs.Extending.{extends_ok}
use Rattle.otap_gateway.proofs.EncodedFrames.{all_arrive, exporter_replies, is_encoding, few_batches}
use Rattle.otap_gateway.proofs.jobs.encode.EncodeJobJob.step.Goals as goal

pub returns-clause-next : goal.returns-clause-next
unfolding ReplyOf
returns-clause-next c =
    let signal : Signal = c.args.self.now.exporter.signal in
    subst
    (λ (s : Signal). IfOk c.encode_frame.result (Extends (ReplyOf (command.Encode signal))
    (HasRepliedBy (Encodes (rows_by signal) (meaning_by signal)) encoded (HasEncoded (rows_by signal) c.args.self.now.exporter))
    (HasRepliedBy (Encodes (rows_by s) (meaning_by s)) encoded (HasEncoded (rows_by s) c.encode_frame.new.exporter)) c.args.number (frame_of c.args.frame.now)))
    (sym c.encode_frame.ensures.signal)
    (extends_ok _ _ _ _ _ _ _ c.encode_frame.ensures.encodes
    (exporter_replies (rows_by signal) (meaning_by signal) _ _ _ _ (all_arrive signal (c.what_is_sent_arrives.ensures.some signal) (c.what_is_sent_arrives.ensures.all signal))))

pub encode_frame-requires-clause-few : goal.encode_frame-requires-clause-few
encode_frame-requires-clause-few c =
    few_batches (rows_by c.args.self.now.exporter.signal) (meaning_by c.args.self.now.exporter.signal) _ _ c.requires.history c.requires.few

pub encode_frame-requires-clause-history : goal.encode_frame-requires-clause-history
encode_frame-requires-clause-history c =
    is_encoding (rows_by c.args.self.now.exporter.signal) (meaning_by c.args.self.now.exporter.signal) _ _ c.requires.history
