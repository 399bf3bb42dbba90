-- The written form encodes its value, and is little longer than the value weighs.
use Rattle.std.proofs.Common.{◌≡◌, ℕ, ◌+◌, ◌^◌, ◌<◌, ◌≤◌, Bool, true, false, cond, List, [], ◌∷◌, ◌++◌, length, sym, subst, ◌∙◌, append_assoc, arith, inl, inr}
use Rattle.std.specs.Prelude.{ℤ, pos, negsuc, nat_lt}
use Rattle.std.specs.List.{AllByRecursion, list_all}
use Rattle.std.specs.Str.{IsUtf8}
use Rattle.std.proofs.lemmas.Bool.{cases_lt, lt-ltb, le-ltb, ltb-true, and_parts}
use Rattle.otlp_model.specs.declared.value.Value.{Value}
use Rattle.otlp_model.specs.declared.value.Value as values
use Rattle.otlp_model.specs.declared.value.Pair.{Pair}
use Rattle.otlp_model.specs.Weight.{weight_of_value, weight_of_pair, total}
use Rattle.byteorder.specs.Endian.{big_bytes}
use Rattle.lists.specs.Bytes.{is_real_text}
use Rattle.otlp_model.specs.Real.{is_real_value, is_real_pair, fits_i64}
use Rattle.otlp_model.proofs.Induction.{holds}
use Rattle.otlp_model.proofs.Levels.{weight_of_str, weight_of_bytes, weight_of_array, weight_of_map, is_real_str, is_real_int, is_real_double, is_real_bytes, is_real_array, is_real_map}
use Rattle.lists.proofs.RealBytes.{utf8_of_real, length_of_real_text, length_of_real_octets}
use Rattle.cbor_values.specs.Heads.{IsHead, short, long}
use Rattle.cbor_values.specs.Strings.{IsString, whole}
use Rattle.cbor_values.specs.Cbor.{Cbor, Members, Pairs, is_null, is_false, is_true, is_whole, is_negative, is_double, is_bytes, is_text, is_array, is_map, no_member, one_member, no_pair, one_pair}
use Rattle.cbor_values.specs.Written.{head, string, all_of, int, cbor_of}
use Rattle.cbor_values.specs.Lengths.{cbor_of_pair, lengths, int_argument}
use Rattle.cbor_values.proofs.WrittenForm.{written_empty, written_str, written_bool, written_int, written_double, written_bytes, written_array, written_map, head_len_bound}
use Rattle.cbor_values.proofs.WrittenForm.{length_empty, length_str, length_bool, length_int, length_double, length_bytes, length_array, length_pair, length_map}

-- ---- the written form encodes the value

pub head_is : (major n : ℕ) → n < 2 ^ 64 → IsHead major n (head major n)
unfolding head
head_is major n fits = elim (cases_lt n 24) [
  | inl a ↦ rw (lt-ltb n 24 a) (short a)
  | inr b ↦ rw (le-ltb n 24 b) (elim (cases_lt n (2 ^ 8)) [
    | inl c ↦ rw (lt-ltb n (2 ^ 8) c) (long 24 (omega arith) (omega arith) c)
    | inr d ↦ rw (le-ltb n (2 ^ 8) d) (elim (cases_lt n (2 ^ 16)) [
      | inl e ↦ rw (lt-ltb n (2 ^ 16) e) (long 25 (omega arith) (omega arith) e)
      | inr f ↦ rw (le-ltb n (2 ^ 16) f) (elim (cases_lt n (2 ^ 32)) [
        | inl g ↦ rw (lt-ltb n (2 ^ 32) g) (long 26 (omega arith) (omega arith) g)
        | inr h ↦ rw (le-ltb n (2 ^ 32) h) (long 27 (omega arith) (omega arith) fits)
      ])
    ])
  ])
]

-- a real value is the one that its written form encodes
abbrev IsWritten : Value → Type 0
IsWritten value = is_real_value value ≡ true → Cbor (cbor_of value) value

text_is : (text : List ℕ) → length text < 2 ^ 64 → IsUtf8 text → IsString 3 IsUtf8 (string 3 text) text
text_is text fits utf8 = whole (head 3 (length text)) text (head_is 3 (length text) fits) utf8

members_are : (members : List Value) → AllByRecursion IsWritten members → list_all is_real_value members ≡ true
    → Members (all_of cbor_of members) members
members_are [] written real = no_member
members_are (member ∷ members) written real =
    let both = and_parts (is_real_value member) (list_all is_real_value members) real in
    one_member (cbor_of member) (all_of cbor_of members) member members (written.0 both.0) (members_are members written.1 both.1)

pairs_are : (pairs : List Pair) → AllByRecursion (λ pair. IsWritten pair.value) pairs → list_all is_real_pair pairs ≡ true
    → Pairs (all_of cbor_of_pair pairs) pairs
pairs_are [] written real = no_pair
pairs_are (pair ∷ pairs) written real =
    let both = and_parts (is_real_pair pair) (list_all is_real_pair pairs) real in
    let parts = and_parts (is_real_text pair.key) (is_real_value pair.value) both.0 in
    subst (λ (b : List ℕ). Pairs b (pair ∷ pairs)) (sym (append_assoc (string 3 pair.key) (cbor_of pair.value) (all_of cbor_of_pair pairs)))
    (one_pair (string 3 pair.key) (cbor_of pair.value) (all_of cbor_of_pair pairs) pair.key pair.value pairs
    (text_is pair.key (length_of_real_text pair.key parts.0) (utf8_of_real pair.key parts.0))
    (written.0 parts.1) (pairs_are pairs written.1 both.1))

pub cbor_bool : (flag : Bool) → Cbor ((cond flag 245 244) ∷ []) (values.Bool flag)
cbor_bool true = is_true
cbor_bool false = is_false

int_is : (z : ℤ) → fits_i64 z ≡ true → Cbor (int z) (values.Int z)
int_is (pos n) fits = let small = ltb-true n (2 ^ 63) fits in is_whole n (head 0 n) (head_is 0 n (omega arith)) small
int_is (negsuc n) fits = let small = ltb-true n (2 ^ 63) fits in is_negative n (head 1 n) (head_is 1 n (omega arith)) small

-- where the written form is known to be this one
told : (value : Value) (form : List ℕ) → cbor_of value ≡ form → Cbor form value → Cbor (cbor_of value) value
told value form is cbor = subst (λ (b : List ℕ). Cbor b value) (sym is) cbor

pub written_is : (value : Value) → is_real_value value ≡ true → Cbor (cbor_of value) value
written_is = holds IsWritten (record {
  empty = λ real. told values.Empty (246 ∷ []) written_empty is_null;
  str = λ text real.
      let known = sym (is_real_str text) ∙ real in
      told (values.Str text) (string 3 text) (written_str text) (is_text (string 3 text) text (text_is text (length_of_real_text text known) (utf8_of_real text known)));
  flag = λ flag real. told (values.Bool flag) ((cond flag 245 244) ∷ []) (written_bool flag) (cbor_bool flag);
  int = λ z real. told (values.Int z) (int z) (written_int z) (int_is z (sym (is_real_int z) ∙ real));
  double = λ bits real.
      let fits = ltb-true bits (2 ^ 64) (sym (is_real_double bits) ∙ real) in
      told (values.Double bits) (251 ∷ big_bytes 8 bits) (written_double bits) (is_double bits fits);
  array = λ members written real.
      let both = and_parts (list_all is_real_value members) (nat_lt (length members) (2 ^ 64)) (sym (is_real_array members) ∙ real) in
      let fits = ltb-true (length members) (2 ^ 64) both.1 in
      told (values.Array members) (head 4 (length members) ++ all_of cbor_of members) (written_array members)
      (is_array (head 4 (length members)) (all_of cbor_of members) members (head_is 4 (length members) fits) (members_are members written both.0));
  pairs = λ pairs written real.
      let both = and_parts (list_all is_real_pair pairs) (nat_lt (length pairs) (2 ^ 64)) (sym (is_real_map pairs) ∙ real) in
      let fits = ltb-true (length pairs) (2 ^ 64) both.1 in
      told (values.Map pairs) (head 5 (length pairs) ++ all_of cbor_of_pair pairs) (written_map pairs)
      (is_map (head 5 (length pairs)) (all_of cbor_of_pair pairs) pairs (head_is 5 (length pairs) fits) (pairs_are pairs written both.0));
  bytes = λ octets real.
      let known = sym (is_real_bytes octets) ∙ real in
      told (values.Bytes octets) (string 2 octets) (written_bytes octets)
      (is_bytes (string 2 octets) octets (whole (head 2 (length octets)) octets (head_is 2 (length octets) (length_of_real_octets octets known)) tt));
})

-- ---- how long it is

abbrev IsShort : Value → Type 0
IsShort value = length (cbor_of value) ≤ weight_of_value value + 9

members_short : (members : List Value) → AllByRecursion IsShort members → lengths cbor_of members ≤ total 32 weight_of_value members
members_short [] each = omega arith
members_short (member ∷ members) each = let rest = members_short members each.1 in omega (arith, each.0, rest)

pairs_short : (pairs : List Pair) → AllByRecursion (λ pair. IsShort pair.value) pairs → lengths cbor_of_pair pairs ≤ total 32 weight_of_pair pairs
pairs_short [] each = omega arith
pairs_short (pair ∷ pairs) each =
    let rest = pairs_short pairs each.1 in
    omega (arith, each.0, rest, length_pair pair, head_len_bound (length pair.key))

pub length_bound : (value : Value) → length (cbor_of value) ≤ weight_of_value value + 9
length_bound = holds IsShort (record {
  empty = omega (arith, length_empty);
  str = λ text. omega (arith, length_str text, weight_of_str text, head_len_bound (length text));
  flag = λ flag. omega (arith, length_bool flag);
  int = λ z. omega (arith, length_int z, head_len_bound (int_argument z));
  double = λ bits. omega (arith, length_double bits);
  array = λ members each. omega (arith, length_array members, weight_of_array members, head_len_bound (length members), members_short members each);
  pairs = λ pairs each. omega (arith, length_map pairs, weight_of_map pairs, head_len_bound (length pairs), pairs_short pairs each);
  bytes = λ octets. omega (arith, length_bytes octets, weight_of_bytes octets, head_len_bound (length octets));
})
