-- Texts in which no byte is escaped.
use Rattle.std.proofs.Common.{◌≡◌, ℕ, false, List, [], ◌∷◌, ◌++◌, if◌then◌else◌, refl, ◌∙◌}
use Rattle.std.specs.List.{list_any}
use Rattle.std.proofs.lemmas.Bool.{or_parts}
use Rattle.otap_gateway.specs.Quoting.{is_special, escaped, quoted}

-- they are written as they are
pub quoted_plain : (text : List ℕ) → list_any is_special text ≡ false → quoted text ≡ text
quoted_plain [] none = refl
quoted_plain (byte ∷ text) none =
    let both : (is_special byte ≡ false) × (list_any is_special text ≡ false) = or_parts (is_special byte) (list_any is_special text) none in
    (λ i. (if both.0 i then escaped byte else byte ∷ []) ++ quoted text) ∙ (λ i. byte ∷ quoted_plain text both.1 i)
