use Rattle.std.proofs.Common.{◌∷◌, ap, ◌∙◌}
use Rattle.otlp_codec.proofs.ShortFields.{none_left}
use Rattle.otlp_codec.proofs.ShortValues.{text_field, value_field}
use Rattle.otlp_codec.proofs.short.short_pair.Goals as goal

pub returns-clause-fields : goal.returns-clause-fields
returns-clause-fields c =
    let second = c.in_ok-second.ensures.first ∙ ap (λ fs. value_field c.in_ok-second.field-0.0.now ∷ fs) (none_left _ c.in_default-empty.len_below).0 in
    c.in_ok-first.ensures.first ∙ ap (λ fs. text_field c.in_ok-first.first.now ∷ fs) second

pub returns-clause-end : goal.returns-clause-end
returns-clause-end c = c.in_ok-first.ensures.end ∙ c.in_ok-second.ensures.end ∙ (none_left _ c.in_default-empty.len_below).1
