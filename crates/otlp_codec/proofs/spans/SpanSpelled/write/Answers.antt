use Rattle.std.proofs.lemmas.Result.{on_err_weaker}
use Rattle.otlp_messages.proofs.Keeping.{keeps_on}
use Rattle.otlp_codec.proofs.spans.SpanSpelled.write.Goals as goal

pub returns-clause-err : goal.returns-clause-err
returns-clause-err c =
    on_err_weaker c.write_octets-3.result
    (λ kept.
    keeps_on _ _ _ _ c.in_ok-put_fixed32_row.ensures.ok
    (keeps_on _ _ _ _ c.in_ok-write_one.ensures.ok
    (keeps_on _ _ _ _ c.in_ok-put_varint_row.ensures.ok
    (keeps_on _ _ _ _ c.in_ok-write_more.ensures.ok
    (keeps_on _ _ _ _ c.in_ok-put_varint_row-2.ensures.ok
    (keeps_on _ _ _ _ c.in_ok-write_more-2.ensures.ok
    (keeps_on _ _ _ _ c.in_ok-put_varint_row-3.ensures.ok
    (keeps_on _ _ _ _ c.in_ok-write_pairs.ensures.ok
    (keeps_on _ _ _ _ c.in_ok-put_fixed64_row.ensures.ok
    (keeps_on _ _ _ _ c.in_ok-put_fixed64_row-2.ensures.ok
    (keeps_on _ _ _ _ c.in_ok-put_signed_row.ensures.ok
    (keeps_on _ _ _ _ c.in_ok-write_text.ensures.ok
    (keeps_on _ _ _ _ c.in_ok-write_octets.ensures.ok
    (keeps_on _ _ _ _ c.in_ok-write_text-2.ensures.ok
    (keeps_on _ _ _ _ c.in_ok-write_octets-2.ensures.ok
    kept)))))))))))))))
    c.write_octets-3.ensures.err
