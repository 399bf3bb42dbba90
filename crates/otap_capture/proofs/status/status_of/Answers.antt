use Rattle.std.proofs.Common.{refl}
use Rattle.otlp_messages.specs.declared.messages.Message.TheVariants.{BatchStatus}
use Rattle.otlp_messages.proofs.EachFine.{text_said}
use Rattle.otap_capture.proofs.status.status_of.Goals as goal

-- the message of a fine status is UTF-8
pub unreachable-requires : goal.unreachable-requires
unreachable-requires c =
    let no_text = rw (c.in_default.is, c.bytes_of.ensures) at c.from_utf8.ensures.cases in
    no_text.0 (text_said BatchStatus 0 3 _ refl c.requires)
