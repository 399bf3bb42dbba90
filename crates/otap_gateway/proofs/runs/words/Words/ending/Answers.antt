use Rattle.std.proofs.Common.{◌≡◌, [], ◌∷◌, map, sym, ap, ◌∙◌}
use Rattle.std.specs.Prelude.{string_bytes}
use Rattle.otap_gateway.proofs.FileWords.{four_words}
use Rattle.otap_gateway.proofs.runs.words.Words.ending.Goals as goal

pub returns-in-len4 : goal.returns-in-len4
returns-in-len4 c =
    let words = four_words string_bytes c.as_slice.result.now c.job-item-then-this-lt5.result c.signal-item-then-this-lt5.result c.kind-item.result c.number-item.result c.in-len4.len_at_least
    c.in-len4.len_below c.job-item-then-this-lt5.is c.signal-item-then-this-lt5.is c.kind-item.is c.number-item.is in
    let same : c.args.self.now ≡ c.as_str-in-len4.result.now ∷ c.as_str-in-len4-2.result.now ∷ c.as_str-in-len4-3.result.now ∷ c.as_str-in-len4-4.result.now ∷ []
    = sym c.self.view_is ∙ ap (map string_bytes) (sym c.as_slice.ensures.value) ∙ words
    ∙ (λ i. sym c.as_str-in-len4.ensures.value i ∷ sym c.as_str-in-len4-2.ensures.value i ∷ sym c.as_str-in-len4-3.ensures.value i ∷ sym c.as_str-in-len4-4.ensures.value i ∷ []) in
    rw same c.file_of.ensures
