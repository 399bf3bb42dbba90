-- The law of a log record.
use Rattle.std.proofs.Common.{refl, arith}
use Rattle.otlp_messages.specs.declared.messages.Message.TheVariants as messages
use Rattle.otlp_codec.specs.Limits.{level_limit}
use Rattle.otlp_model.specs.declared.logs.LogRecord.{LogRecord}
use Rattle.otlp_model.specs.Weight.{weight_of_log_record}
use Rattle.otlp_model.specs.Real.{IsRealLogRecord}
use Rattle.otlp_model.specs.Profile.{IsProfileLogRecord}
use Rattle.otlp_codec.specs.Groups.{value_in}
use Rattle.otlp_codec.specs.Logs.{log_record_in}
use Rattle.otlp_codec.specs.Canonical.{canon_value, canon_log_record}
use Rattle.otlp_codec.specs.lemmas.Passed.{log_record_passes}
use Rattle.otlp_codec.proofs.Chain.{Law, last, also, law_of}
use Rattle.otlp_codec.proofs.FieldLaw.{fixed64_held, int32_held, text_held, embedded_held, uint32_held, fixed32_held, id_held}
use Rattle.otlp_codec.proofs.ValueLaw.{no_value}
use Rattle.otlp_codec.proofs.Attributes.{value_whole, pairs_held}

pub log_record_law : (x : LogRecord) → IsRealLogRecord x → Law (IsProfileLogRecord x) messages.LogRecord level_limit log_record_in canon_log_record x (weight_of_log_record x) 236
unfolding canon_log_record
log_record_law x real =
    let m = messages.LogRecord in
    law_of log_record_in canon_log_record
    (also (λ a r. record r { time = a }) (fixed64_held m 1 x.time refl refl real.time) refl (λ a v. refl)
    (also (λ a r. record r { severity = a }) (int32_held m 2 x.severity refl refl real.severity) refl (λ a v. refl)
    (also (λ a r. record r { severity_text = a }) (text_held m 3 x.severity_text refl refl real.severity_text) refl (λ a v. refl)
    (also (λ a r. record r { body = a }) (embedded_held m 5 messages.AnyValue value_in canon_value refl refl (value_whole x.body real.body (λ p. p.body)) (no_value level_limit) refl) refl (λ a v. refl)
    (also (λ a r. record r { pairs = a }) (pairs_held m 6 x.pairs refl refl refl real.pairs (λ p. p.pairs.at)) refl (λ a v. refl)
    (also (λ a r. record r { dropped = a }) (uint32_held m 7 x.dropped refl refl real.dropped) refl (λ a v. refl)
    (also (λ a r. record r { flags = a }) (fixed32_held m 8 x.flags refl refl real.flags) refl (λ a v. refl)
    (also (λ a r. record r { trace_id = a }) (id_held m 9 16 x.trace_id refl refl (λ p. p.trace_id)) refl (λ a v. refl)
    (also (λ a r. record r { span_id = a }) (id_held m 10 8 x.span_id refl refl (λ p. p.span_id)) refl (λ a v. refl)
    (also (λ a r. record r { observed = a }) (fixed64_held m 11 x.observed refl refl real.observed) refl (λ a v. refl)
    (also (λ a r. record r { event_name = a }) (text_held m 12 x.event_name refl refl real.event_name) refl (λ a v. refl) last)))))))))))
    log_record_passes refl refl (omega arith) (omega arith)
