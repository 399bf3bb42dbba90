-- Between the tests of texts and byte strings and what they say.
use Rattle.std.proofs.Common.{◌≡◌, ℕ, ◌<◌, ◌^◌, List, length, true}
use Rattle.std.specs.List.{All, AllPass}
use Rattle.std.specs.Prelude.{nat_lt}
use Rattle.std.specs.Str.{IsUtf8}
use Rattle.std.proofs.lemmas.Bool.{ltb-true, lt-ltb, and_from, and_parts}
use Rattle.std.proofs.lemmas.List.Sums.{AllPass-from_list_all, list_all-from_AllPass}
use Rattle.std.proofs.lemmas.Str.{IsUtf8-from_is_utf8, is_utf8-from_IsUtf8}
use Rattle.lists.specs.Bytes.{is_real_text, is_real_octets}

pub real_text : (text : List ℕ) → IsUtf8 text → length text < 2 ^ 64 → is_real_text text ≡ true
unfolding is_real_text
real_text text utf8 long = and_from _ _ (is_utf8-from_IsUtf8 text utf8) (lt-ltb _ _ long)

pub utf8_of_real : (text : List ℕ) → is_real_text text ≡ true → IsUtf8 text
unfolding is_real_text
utf8_of_real text real = IsUtf8-from_is_utf8 text (and_parts _ _ real).0

pub length_of_real_text : (text : List ℕ) → is_real_text text ≡ true → length text < 2 ^ 64
unfolding is_real_text
length_of_real_text text real = ltb-true _ _ (and_parts _ _ real).1

pub real_octets : (octets : List ℕ) → All (λ byte. byte < 256) octets → length octets < 2 ^ 64 → is_real_octets octets ≡ true
unfolding is_real_octets
real_octets octets bytes long =
    let each : AllPass (λ byte. nat_lt byte 256) octets = λ k d h. lt-ltb _ _ (bytes k d h) in
    and_from _ _ (list_all-from_AllPass (λ byte. nat_lt byte 256) octets each) (lt-ltb _ _ long)

pub bytes_of_real : (octets : List ℕ) → is_real_octets octets ≡ true → All (λ byte. byte < 256) octets
unfolding is_real_octets
bytes_of_real octets real = λ k d h.
    ltb-true _ _ (AllPass-from_list_all (λ byte. nat_lt byte 256) octets (and_parts _ _ real).0 k d h)

pub length_of_real_octets : (octets : List ℕ) → is_real_octets octets ≡ true → length octets < 2 ^ 64
unfolding is_real_octets
length_of_real_octets octets real = ltb-true _ _ (and_parts _ _ real).1
