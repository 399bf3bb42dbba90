use Rattle.std.proofs.Common.{refl}
use Rattle.otlp_messages.proofs.EachFine.{text_said}
use Rattle.otap_capture.proofs.batch.payload_of.Goals as goal

-- the schema id of a fine payload is UTF-8
pub unreachable-requires : goal.unreachable-requires
unreachable-requires c =
    let no_text = rw (c.in_default.is, c.parts_of-parts.ensures.schema_id) at c.from_utf8.ensures.cases in
    no_text.0 (text_said _ _ 1 _ refl c.requires)
