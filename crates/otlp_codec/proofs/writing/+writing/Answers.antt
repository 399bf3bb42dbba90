use Rattle.otlp_messages.proofs.Keeping.{keeps_closed, on_any_err}
use Rattle.otlp_codec.proofs.writing.+writing.Goals as goal

pub write_pair-returns-in_err-write_text-clause-err : goal.write_pair-returns-in_err-write_text-clause-err
write_pair-returns-in_err-write_text-clause-err t c =
    on_any_err c.from_residual-in_err-write_text.result
    (keeps_closed c.len.result c.len-before.result _ _ _ _ _ _ c.in_ok-write_value.ensures.ok c.len.ensures c.len-before.ensures c.in_ok-close_row.ensures.ok c.in_err-write_text.ensures.err)
