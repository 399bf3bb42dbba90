use Rattle.std.proofs.Common.{◌≡◌, [], ◌∷◌, map, sym, ap, ◌∙◌}
use Rattle.std.specs.Prelude.{string_bytes}
use Rattle.otap_gateway.proofs.EachWords.{five_words}
use Rattle.otap_gateway.proofs.runs.words.Words.command.Goals as goal

pub returns-in-len5 : goal.returns-in-len5
returns-in-len5 c =
    let words = five_words string_bytes c.as_slice.result.now c.job-item-then-this-lt6.result c.signal-item-then-this-lt6.result c.whose-item.result c.key-item.result c.text-item.result
    c.in-len5.len_at_least c.in-len5.len_below c.job-item-then-this-lt6.is c.signal-item-then-this-lt6.is c.whose-item.is c.key-item.is c.text-item.is in
    let same : c.args.self.now
    ≡ c.as_str-in-len5.result.now ∷ c.as_str-in-len5-2.result.now ∷ c.as_str-in-len5-3.result.now ∷ c.as_str-in-len5-4.result.now ∷ c.as_str-in-len5-5.result.now ∷ []
    = sym c.self.view_is ∙ ap (map string_bytes) (sym c.as_slice.ensures.value) ∙ words
    ∙ (λ i. sym c.as_str-in-len5.ensures.value i ∷ sym c.as_str-in-len5-2.ensures.value i ∷ sym c.as_str-in-len5-3.ensures.value i ∷ sym c.as_str-in-len5-4.ensures.value i
    ∷ sym c.as_str-in-len5-5.ensures.value i ∷ []) in
    rw same c.five_words.ensures
