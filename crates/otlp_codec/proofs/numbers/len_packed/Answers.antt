use Rattle.std.proofs.Common.{length, arith, ap, ◌∙◌}
use Rattle.std.specs.Prelude.{◌==◌}
use Rattle.std.proofs.lemmas.Bool.{false≢true}
use Rattle.otlp_codec.proofs.PackedLoop.{packed_len}
use Rattle.otlp_codec.proofs.numbers.len_packed.Goals as goal

pub returns : goal.returns
returns c =
    packed_len c.args.number c.args.values.now c.min-size.result c.len_part.result
    (λ none. false≢true (c.if-is_empty.ensures ∙ ap (λ ns. length ns == 0) none))
    (omega (arith, c.saturating_mul.ensures, c.min-size.ensures)) c.len_part.ensures
