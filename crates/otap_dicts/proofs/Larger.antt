-- A dictionary that is too large stays so as it grows.
use Rattle.std.proofs.Common.{◌≡◌, ℕ, ◌≤◌, nat_lt, Bool, true, false, if◌then◌else◌, true≢false, refl, sym, ap, inl, inr, arith}
use Rattle.std.proofs.lemmas.Bool.{or_cases, or_left, or_right, ltb-true, lt-ltb}
use Rattle.otap_dicts.specs.declared.form.Form.TheVariants.{Dict8, Dict16, Plain}
use Rattle.otap_dicts.specs.Forms.{is_too_large, dictionary_form}
use Rattle.otap_dicts.specs.Ladders.{is_plain}
use Rattle.otap_dicts.specs.Limits.{narrow_limit, value_limit, byte_limit}

plain-is : (large wide : Bool) → (if large then Plain else (if wide then Dict16 else Dict8)) ≡ Plain → large ≡ true
plain-is true wide is = refl
plain-is false true is = absurd (true≢false (sym (ap is_plain is)))
plain-is false false is = absurd (true≢false (sym (ap is_plain is)))

pub large-plain : (count bytes : ℕ) → dictionary_form count bytes ≡ Plain → is_too_large count bytes ≡ true
large-plain count bytes is = plain-is (is_too_large count bytes) (nat_lt narrow_limit count) is

more : (limit a b : ℕ) → a ≤ b → nat_lt limit a ≡ true → nat_lt limit b ≡ true
more limit a b le is = let above = ltb-true limit a is in lt-ltb limit b (omega arith)

pub large-stays : (count bytes more_count more_bytes : ℕ) → count ≤ more_count → bytes ≤ more_bytes → is_too_large count bytes ≡ true → is_too_large more_count more_bytes ≡ true
large-stays count bytes more_count more_bytes le le_bytes is =
    elim (or_cases (nat_lt value_limit count) (nat_lt byte_limit bytes) is) [
      | inl many ↦ or_left (nat_lt value_limit more_count) (nat_lt byte_limit more_bytes) (more value_limit count more_count le many)
      | inr long ↦ or_right (nat_lt value_limit more_count) (nat_lt byte_limit more_bytes) (more byte_limit bytes more_bytes le_bytes long)
    ]
