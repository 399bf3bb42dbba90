-- Texts in chunks.
use Rattle.std.proofs.Common.{◌≡◌, ℕ, List, [], ◌∷◌, ◌++◌, Err, refl, sym, ap, ◌∙◌, append_assoc}
use Rattle.std.specs.Prelude.{encode_utf8, encode_utf8_all}
use Rattle.std.specs.Str.{IsUtf8, is_utf8}
use Rattle.std.proofs.lemmas.Bool.{false_from_ne_true}
use Rattle.std.proofs.lemmas.List.{append-nil}
use Rattle.std.proofs.lemmas.Str.{is_utf8-from_IsUtf8, IsUtf8-from_is_utf8}
use Rattle.cbor_values.specs.declared.refusal.CborRefusal.TheVariants.{BadUtf8}
use Rattle.cbor_values.specs.Reading.{front_part, letters_at}
use Rattle.cbor_values.proofs.Steps.{got}

encode_utf8_all-push : (letters : List ℕ) (letter : ℕ)
    → encode_utf8_all (letters ++ letter ∷ []) ≡ encode_utf8_all letters ++ encode_utf8 letter
encode_utf8_all-push [] letter = append-nil (encode_utf8 letter)
encode_utf8_all-push (first ∷ letters) letter =
    ap (λ (t : List ℕ). encode_utf8 first ++ t) (encode_utf8_all-push letters letter)
    ∙ sym (append_assoc (encode_utf8 first) (encode_utf8_all letters) (encode_utf8 letter))

-- one more letter
pub letter_pushed : (before text new letters : List ℕ) (letter : ℕ) → text ≡ before ++ encode_utf8_all letters
    → new ≡ text ++ encode_utf8 letter → new ≡ before ++ encode_utf8_all (letters ++ letter ∷ [])
letter_pushed before text new letters letter is pushed =
    pushed ∙ ap (λ (t : List ℕ). t ++ encode_utf8 letter) is
    ∙ append_assoc before (encode_utf8_all letters) (encode_utf8 letter)
    ∙ ap (λ (t : List ℕ). before ++ t) (sym (encode_utf8_all-push letters letter))

pub letters_read : (n : ℕ) (bytes part letters rest : List ℕ) → front_part n bytes ≡ got part rest → letters ≡ part → IsUtf8 part
    → letters_at n bytes ≡ got letters rest
unfolding letters_at
letters_read n bytes part letters rest e same utf8 = rw (e, is_utf8-from_IsUtf8 part utf8) (ap (λ (t : List ℕ). got t rest) (sym same))

pub letters_refused : (n : ℕ) (bytes part rest : List ℕ) → front_part n bytes ≡ got part rest → (IsUtf8 part → ⊥)
    → letters_at n bytes ≡ Err BadUtf8
unfolding letters_at
letters_refused n bytes part rest e bad =
    rw (e, false_from_ne_true (is_utf8 part) (λ t. bad (IsUtf8-from_is_utf8 part t))) refl
