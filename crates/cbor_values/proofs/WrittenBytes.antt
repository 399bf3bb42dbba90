-- What is written for a value is bytes: numbers below 256.
use Rattle.std.proofs.Common.{◌≡◌, ℕ, zero, suc, ◌+◌, ◌/◌, ◌^◌, ◌<◌, ◌≤◌, Bool, true, false, cond, List, [], ◌∷◌, ◌++◌, length, sym, subst, ◌∙◌, arith, inl, inr}
use Rattle.std.specs.Prelude.{ℤ, pos, negsuc, nat_lt}
use Rattle.std.specs.Int.{byte_at, bytes_high_first}
use Rattle.std.specs.List.{All, AllByRecursion, list_all}
use Rattle.std.specs.Str.{IsUtf8}
use Rattle.std.proofs.Math.Utf8.{encode, encodes, scalar, scalars, scalar_cases}
use Rattle.std.proofs.lemmas.Bool.{and_parts, cases_Bool, cases_lt, le-ltb, lt-ltb}
use Rattle.otlp_model.specs.declared.value.Value.{Value}
use Rattle.otlp_model.specs.declared.value.Pair.{Pair}
use Rattle.lists.specs.Bytes.{is_real_text}
use Rattle.otlp_model.specs.Real.{is_real_value, is_real_pair}
use Rattle.otlp_model.proofs.Induction.{holds}
use Rattle.otlp_model.proofs.Levels.{is_real_str, is_real_bytes, is_real_array, is_real_map}
use Rattle.lists.proofs.RealBytes.{bytes_of_real, utf8_of_real}
use Rattle.cbor_values.specs.Heads.{argument_len}
use Rattle.cbor_values.specs.Written.{head, string, all_of, int, cbor_of}
use Rattle.cbor_values.specs.Lengths.{cbor_of_pair}
use Rattle.cbor_values.proofs.WrittenForm.{written_empty, written_str, written_bool, written_int, written_double, written_bytes, written_array, written_map}

abbrev Low : List ℕ → Type 0
Low [] = Unit {0}
Low (byte ∷ bytes) = (byte < 256) × Low bytes

low_more : (xs ys : List ℕ) → Low xs → Low ys → Low (xs ++ ys)
low_more [] ys a b = b
low_more (x ∷ xs) ys a b = (a.0, low_more xs ys a.1 b)

low_all : (xs : List ℕ) → All (λ byte. byte < 256) xs → Low xs
low_all [] all = tt
low_all (x ∷ xs) all = (all 0 0 (omega arith), low_all xs (λ k d within. all (suc k) d (omega arith)))

all_low : (xs : List ℕ) → Low xs → All (λ byte. byte < 256) xs
all_low [] low k d within = absurd (omega arith)
all_low (x ∷ xs) low zero d within = low.0
all_low (x ∷ xs) low (suc k) d within = all_low xs low.1 k d (omega arith)

-- ---- numbers

low_byte : (k n : ℕ) → byte_at k n < 256
low_byte zero n = omega arith
low_byte (suc k) n = omega arith

low_number : (k n : ℕ) → Low (bytes_high_first k n)
low_number zero n = tt
low_number (suc k) n = (low_byte k n, low_number k n)

low_head : (major n : ℕ) → major ≤ 5 → Low (head major n)
unfolding head
low_head major n small = elim (cases_lt n 24) [
  | inl a ↦ rw (lt-ltb n 24 a) (omega arith, tt)
  | inr b ↦ rw (le-ltb n 24 b) (elim (cases_Bool (nat_lt n (2 ^ 8))) [
    | inl c ↦ rw c (omega arith, low_number (argument_len 24) n)
    | inr d ↦ rw d (elim (cases_Bool (nat_lt n (2 ^ 16))) [
      | inl e ↦ rw e (omega arith, low_number (argument_len 25) n)
      | inr f ↦ rw f (elim (cases_Bool (nat_lt n (2 ^ 32))) [
        | inl g ↦ rw g (omega arith, low_number (argument_len 26) n)
        | inr h ↦ rw h (omega arith, low_number (argument_len 27) n)
      ])
    ])
  ])
]

low_int : (z : ℤ) → Low (int z)
low_int (pos n) = low_head 0 n (omega arith)
low_int (negsuc n) = low_head 1 n (omega arith)

-- ---- texts

low_letter : (c : ℕ) → scalar c ≡ true → Low (encode c)
unfolding encode
low_letter c is = elim (cases_lt c 128) [
  | inl a ↦ rw (lt-ltb c 128 a) (omega arith, tt)
  | inr b ↦ rw (le-ltb c 128 b) (elim (cases_lt c 2048) [
    | inl d ↦ rw (lt-ltb c 2048 d) (omega arith, (omega arith, tt))
    | inr e ↦ rw (le-ltb c 2048 e) (elim (cases_lt c 65536) [
      | inl f ↦ rw (lt-ltb c 65536 f) (omega arith, (omega arith, (omega arith, tt)))
      | inr g ↦ rw (le-ltb c 65536 g) (below, (omega arith, (omega arith, (omega arith, tt))))
    ])
  ])
]
  where
    below : 240 + c / 262144 < 256
    below = elim (scalar_cases c is) [ inl low ↦ omega arith | inr high ↦ (let most = high.1 in omega arith) ]

low_letters : (cs : List ℕ) → scalars cs ≡ true → Low (encodes cs)
low_letters [] are = tt
low_letters (c ∷ cs) are = let both = and_parts (scalar c) (scalars cs) are in low_more (encode c) (encodes cs) (low_letter c both.0) (low_letters cs both.1)

low_text : (text : List ℕ) → IsUtf8 text → Low text
low_text text utf8 = subst Low utf8.1.1 (low_letters utf8.0 utf8.1.0)

-- ---- values

abbrev IsLow : Value → Type 0
IsLow value = is_real_value value ≡ true → Low (cbor_of value)

low_members : (members : List Value) → AllByRecursion IsLow members → list_all is_real_value members ≡ true → Low (all_of cbor_of members)
low_members [] low real = tt
low_members (member ∷ members) low real =
    let both = and_parts (is_real_value member) (list_all is_real_value members) real in
    low_more (cbor_of member) (all_of cbor_of members) (low.0 both.0) (low_members members low.1 both.1)

low_string : (major : ℕ) (s : List ℕ) → major ≤ 5 → Low s → Low (string major s)
low_string major s small low = low_more (head major (length s)) s (low_head major (length s) small) low

low_pairs : (pairs : List Pair) → AllByRecursion (λ pair. IsLow pair.value) pairs → list_all is_real_pair pairs ≡ true → Low (all_of cbor_of_pair pairs)
low_pairs [] low real = tt
low_pairs (pair ∷ pairs) low real =
    let both = and_parts (is_real_pair pair) (list_all is_real_pair pairs) real in
    let parts = and_parts (is_real_text pair.key) (is_real_value pair.value) both.0 in
    low_more (cbor_of_pair pair) (all_of cbor_of_pair pairs)
    (low_more (string 3 pair.key) (cbor_of pair.value) (low_string 3 pair.key (omega arith) (low_text pair.key (utf8_of_real pair.key parts.0))) (low.0 parts.1))
    (low_pairs pairs low.1 both.1)

low_flag : (flag : Bool) → Low ((cond flag 245 244) ∷ [])
low_flag true = (omega arith, tt)
low_flag false = (omega arith, tt)

written_low : (value : Value) → is_real_value value ≡ true → Low (cbor_of value)
written_low = holds IsLow (record {
  empty = λ real. subst Low (sym written_empty) (omega arith, tt);
  str = λ text real. subst Low (sym (written_str text)) (low_string 3 text (omega arith) (low_text text (utf8_of_real text (sym (is_real_str text) ∙ real))));
  flag = λ flag real. subst Low (sym (written_bool flag)) (low_flag flag);
  int = λ z real. subst Low (sym (written_int z)) (low_int z);
  double = λ bits real. subst Low (sym (written_double bits)) (omega arith, low_number 8 bits);
  array = λ members low real.
      let both = and_parts (list_all is_real_value members) (nat_lt (length members) (2 ^ 64)) (sym (is_real_array members) ∙ real) in
      subst Low (sym (written_array members)) (low_more (head 4 (length members)) (all_of cbor_of members) (low_head 4 (length members) (omega arith)) (low_members members low both.0));
  pairs = λ pairs low real.
      let both = and_parts (list_all is_real_pair pairs) (nat_lt (length pairs) (2 ^ 64)) (sym (is_real_map pairs) ∙ real) in
      subst Low (sym (written_map pairs)) (low_more (head 5 (length pairs)) (all_of cbor_of_pair pairs) (low_head 5 (length pairs) (omega arith)) (low_pairs pairs low both.0));
  bytes = λ octets real. subst Low (sym (written_bytes octets)) (low_string 2 octets (omega arith) (low_all octets (bytes_of_real octets (sym (is_real_bytes octets) ∙ real))));
})

pub written_in_bytes : (value : Value) → is_real_value value ≡ true → All (λ byte. byte < 256) (cbor_of value)
written_in_bytes value real = all_low (cbor_of value) (written_low value real)
