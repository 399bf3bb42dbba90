-- The written form of each kind of value, and how long it is.
use Rattle.std.proofs.Common.{◌≡◌, ℕ, ◌+◌, ◌^◌, ◌≤◌, Bool, cond, List, [], ◌∷◌, ◌++◌, length, map, refl, sym, ap, ◌∙◌, append_assoc, arith, rules, inl, inr}
use Rattle.std.specs.Prelude.{ℤ, pos, negsuc}
use Rattle.std.proofs.lemmas.Bool.{cases_lt, lt-ltb, le-ltb}
use Rattle.std.proofs.lemmas.List.{length-append, length-map}
use Rattle.byteorder.specs.Endian.{big_bytes}
use Rattle.otlp_model.specs.declared.value.Value.{Value, the_lemmas}
use Rattle.otlp_model.specs.declared.value.Value as values
use Rattle.otlp_model.specs.declared.value.Pair.{Pair}
use Rattle.cbor_values.specs.Written.{head, string, all_of, int, cbor_of}
use Rattle.cbor_values.specs.Lengths.{cbor_of_pair, head_len, lengths, int_argument}

pub written_empty : cbor_of values.Empty ≡ 246 ∷ []
written_empty = search (rules, the_lemmas)

pub written_str : (text : List ℕ) → cbor_of (values.Str text) ≡ string 3 text
written_str text = search (rules, the_lemmas)

pub written_bool : (flag : Bool) → cbor_of (values.Bool flag) ≡ (cond flag 245 244) ∷ []
written_bool flag = search (rules, the_lemmas)

pub written_int : (z : ℤ) → cbor_of (values.Int z) ≡ int z
written_int z = search (rules, the_lemmas)

pub written_double : (bits : ℕ) → cbor_of (values.Double bits) ≡ 251 ∷ big_bytes 8 bits
written_double bits = search (rules, the_lemmas)

pub written_bytes : (bytes : List ℕ) → cbor_of (values.Bytes bytes) ≡ string 2 bytes
written_bytes bytes = search (rules, the_lemmas)

all_of-map : {A : Type 0} (write : A → List ℕ) (xs : List A) → all_of (λ form. form) (map write xs) ≡ all_of write xs
all_of-map write [] = refl
all_of-map write (x ∷ xs) = ap (λ (t : List ℕ). write x ++ t) (all_of-map write xs)

pub written_array : (members : List Value) → cbor_of (values.Array members) ≡ head 4 (length members) ++ all_of cbor_of members
written_array members = search (rules, the_lemmas, length-map, all_of-map)

pub written_map : (pairs : List Pair) → cbor_of (values.Map pairs) ≡ head 5 (length pairs) ++ all_of cbor_of_pair pairs
written_map pairs = search (rules, the_lemmas, length-map, all_of-map)

-- ---- lengths

pub length_head : (major n : ℕ) → length (head major n) ≡ head_len n
unfolding head head_len
length_head major n = elim (cases_lt n 24) [
  | inl a ↦ rw (lt-ltb n 24 a) refl
  | inr b ↦ rw (le-ltb n 24 b) (elim (cases_lt n (2 ^ 8)) [
    | inl c ↦ rw (lt-ltb n (2 ^ 8) c) refl
    | inr d ↦ rw (le-ltb n (2 ^ 8) d) (elim (cases_lt n (2 ^ 16)) [
      | inl e ↦ rw (lt-ltb n (2 ^ 16) e) refl
      | inr f ↦ rw (le-ltb n (2 ^ 16) f) (elim (cases_lt n (2 ^ 32)) [
        | inl g ↦ rw (lt-ltb n (2 ^ 32) g) refl
        | inr h ↦ rw (le-ltb n (2 ^ 32) h) refl
      ])
    ])
  ])
]

pub head_len_bound : (n : ℕ) → head_len n ≤ 9
unfolding head_len
head_len_bound n = elim (cases_lt n 24) [
  | inl a ↦ rw (lt-ltb n 24 a) (omega arith)
  | inr b ↦ rw (le-ltb n 24 b) (elim (cases_lt n (2 ^ 8)) [
    | inl c ↦ rw (lt-ltb n (2 ^ 8) c) (omega arith)
    | inr d ↦ rw (le-ltb n (2 ^ 8) d) (elim (cases_lt n (2 ^ 16)) [
      | inl e ↦ rw (lt-ltb n (2 ^ 16) e) (omega arith)
      | inr f ↦ rw (le-ltb n (2 ^ 16) f) (elim (cases_lt n (2 ^ 32)) [
        | inl g ↦ rw (lt-ltb n (2 ^ 32) g) (omega arith)
        | inr h ↦ rw (le-ltb n (2 ^ 32) h) (omega arith)
      ])
    ])
  ])
]

pub length_string : (major : ℕ) (s : List ℕ) → length (string major s) ≡ head_len (length s) + length s
length_string major s = length-append (head major (length s)) s ∙ ap (λ (n : ℕ). n + length s) (length_head major (length s))

pub length_all : {A : Type 0} (write : A → List ℕ) (xs : List A) → length (all_of write xs) ≡ lengths write xs
length_all write [] = refl
length_all write (x ∷ xs) = length-append (write x) (all_of write xs) ∙ ap (λ (n : ℕ). length (write x) + n) (length_all write xs)

pub length_empty : length (cbor_of values.Empty) ≡ 1
length_empty = ap length written_empty

pub length_bool : (flag : Bool) → length (cbor_of (values.Bool flag)) ≡ 1
length_bool flag = ap length (written_bool flag)

pub length_int : (z : ℤ) → length (cbor_of (values.Int z)) ≡ head_len (int_argument z)
length_int (pos n) = ap length (written_int (pos n)) ∙ length_head 0 n
length_int (negsuc n) = ap length (written_int (negsuc n)) ∙ length_head 1 n

pub length_double : (bits : ℕ) → length (cbor_of (values.Double bits)) ≡ 9
length_double bits = ap length (written_double bits)

pub length_str : (text : List ℕ) → length (cbor_of (values.Str text)) ≡ head_len (length text) + length text
length_str text = ap length (written_str text) ∙ length_string 3 text

pub length_bytes : (bytes : List ℕ) → length (cbor_of (values.Bytes bytes)) ≡ head_len (length bytes) + length bytes
length_bytes bytes = ap length (written_bytes bytes) ∙ length_string 2 bytes

pub length_array : (members : List Value) → length (cbor_of (values.Array members)) ≡ head_len (length members) + lengths cbor_of members
length_array members =
    ap length (written_array members) ∙ length-append (head 4 (length members)) (all_of cbor_of members)
    ∙ ap (λ (n : ℕ). n + length (all_of cbor_of members)) (length_head 4 (length members))
    ∙ ap (λ (n : ℕ). head_len (length members) + n) (length_all cbor_of members)

pub length_pair : (pair : Pair) → length (cbor_of_pair pair) ≡ (head_len (length pair.key) + length pair.key) + length (cbor_of pair.value)
length_pair pair = length-append (string 3 pair.key) (cbor_of pair.value) ∙ ap (λ (n : ℕ). n + length (cbor_of pair.value)) (length_string 3 pair.key)

pub length_map : (pairs : List Pair) → length (cbor_of (values.Map pairs)) ≡ head_len (length pairs) + lengths cbor_of_pair pairs
length_map pairs =
    ap length (written_map pairs) ∙ length-append (head 5 (length pairs)) (all_of cbor_of_pair pairs)
    ∙ ap (λ (n : ℕ). n + length (all_of cbor_of_pair pairs)) (length_head 5 (length pairs))
    ∙ ap (λ (n : ℕ). head_len (length pairs) + n) (length_all cbor_of_pair pairs)

-- ---- begun with the head

pub array_begun : (old now : List ℕ) (members : List Value) → now ≡ old ++ head 4 (length members)
    → now ++ all_of cbor_of members ≡ old ++ cbor_of (values.Array members)
array_begun old now members is =
    ap (λ (b : List ℕ). b ++ all_of cbor_of members) is ∙ append_assoc old (head 4 (length members)) (all_of cbor_of members)
    ∙ ap (λ (b : List ℕ). old ++ b) (sym (written_array members))

pub map_begun : (old now : List ℕ) (pairs : List Pair) → now ≡ old ++ head 5 (length pairs)
    → now ++ all_of cbor_of_pair pairs ≡ old ++ cbor_of (values.Map pairs)
map_begun old now pairs is =
    ap (λ (b : List ℕ). b ++ all_of cbor_of_pair pairs) is ∙ append_assoc old (head 5 (length pairs)) (all_of cbor_of_pair pairs)
    ∙ ap (λ (b : List ℕ). old ++ b) (sym (written_map pairs))
