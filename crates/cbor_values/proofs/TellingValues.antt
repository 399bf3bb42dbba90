-- What the code returns of a value, by what it returns of its parts.
use Rattle.std.proofs.Common.{◌≡◌, ℕ, zero, suc, ◌+◌, ◌^◌, min, List, Option, Some, None, Result, Ok, Err, refl, sym, ap, ◌∙◌, arith, rules}
use Rattle.std.specs.Prelude.{ℤ, pos, negsuc, Bool, IfOk, IfErr, OnOk}
use Rattle.lists.proofs.AllBytes.{IsBytes}
use Rattle.otlp_model.specs.declared.value.Value.{Value, the_lemmas}
use Rattle.otlp_model.specs.declared.value.Value as values
use Rattle.otlp_model.specs.declared.value.Pair.{Pair}
use Rattle.otlp_model.specs.Weight.{weight_of_value}
use Rattle.otlp_model.proofs.Levels.{weight_of_empty, weight_of_str, weight_of_bool, weight_of_int, weight_of_double, weight_of_bytes, weight_of_array, weight_of_map}
use Rattle.cbor_values.specs.declared.refusal.CborRefusal.{CborRefusal}
use Rattle.cbor_values.specs.declared.heads.Head.TheVariants as heads
use Rattle.cbor_values.specs.declared.weighing.Nesting.{Nesting}
use Rattle.cbor_values.specs.declared.weighing.Nesting.TheVariants as nesting
use Rattle.cbor_values.specs.declared.weighing.WeighedValue.{WeighedValue}
use Rattle.cbor_values.specs.Reading.{ValueReading, head_at, key_at, octets_at, text_at, many_at, open_at, pair_at, body_at, item_at, all_at, whole_of}
use Rattle.cbor_values.specs.Values.{value_if, value_of}
use Rattle.cbor_values.specs.Refusals.{Stands}
use Rattle.cbor_values.proofs.Refused.{all_refused}
use Rattle.cbor_values.proofs.Told.{no_value}
use Rattle.cbor_values.specs.Weighing.{IsWeighed, nesting_of, weighed}
use Rattle.cbor_values.specs.Returned.{IsTold, TellsAll, long, pair_weighed, told_of, weight_of_members, weight_of_pairs}

-- what is returned of each
told_is : (nested : Nesting) (weight : ℕ) (value : Value) → nesting_of value ≡ nested → weight ≡ min (weight_of_value value) (2 ^ 63) → told_of nested weight ≡ weighed value
told_is nested weight value same is = λ k. record { nesting = sym same k; weight = is k }

nesting_empty : nesting_of values.Empty ≡ nesting.Plain
nesting_empty = search (rules, the_lemmas)

nesting_str : (text : List ℕ) → nesting_of (values.Str text) ≡ nesting.Plain
nesting_str text = search (rules, the_lemmas)

nesting_bool : (b : Bool) → nesting_of (values.Bool b) ≡ nesting.Plain
nesting_bool b = search (rules, the_lemmas)

nesting_int : (z : ℤ) → nesting_of (values.Int z) ≡ nesting.Plain
nesting_int z = search (rules, the_lemmas)

nesting_double : (bits : ℕ) → nesting_of (values.Double bits) ≡ nesting.Plain
nesting_double bits = search (rules, the_lemmas)

nesting_bytes : (octets : List ℕ) → nesting_of (values.Bytes octets) ≡ nesting.Plain
nesting_bytes octets = search (rules, the_lemmas)

pub nesting_array : (members : List Value) → nesting_of (values.Array members) ≡ nesting.Array
nesting_array members = search (rules, the_lemmas)

pub nesting_map : (pairs : List Pair) → nesting_of (values.Map pairs) ≡ nesting.Map
nesting_map pairs = search (rules, the_lemmas)

pub told_empty : told_of nesting.Plain 0 ≡ weighed values.Empty
told_empty = told_is nesting.Plain 0 values.Empty nesting_empty (omega (arith, weight_of_empty))

pub told_bool : (b : Bool) → told_of nesting.Plain 0 ≡ weighed (values.Bool b)
told_bool b = told_is nesting.Plain 0 (values.Bool b) (nesting_bool b) (omega (arith, weight_of_bool b))

pub told_int : (z : ℤ) → told_of nesting.Plain 0 ≡ weighed (values.Int z)
told_int z = told_is nesting.Plain 0 (values.Int z) (nesting_int z) (omega (arith, weight_of_int z))

pub told_double : (bits : ℕ) → told_of nesting.Plain 0 ≡ weighed (values.Double bits)
told_double bits = told_is nesting.Plain 0 (values.Double bits) (nesting_double bits) (omega (arith, weight_of_double bits))

-- after a head
pub told_whole : (one : List ℕ → ValueReading Value) (n : ℕ) (bytes : List ℕ) → whole_of n ≡ Ok n
    → IsTold weighed (body_at one (heads.Whole n) bytes) (told_of nesting.Plain 0) bytes
unfolding body_at
told_whole one n bytes e = record { value = values.Int (pos n); is = rw e refl; of = told_int (pos n) }

pub told_negative : (one : List ℕ → ValueReading Value) (n : ℕ) (bytes : List ℕ) → whole_of n ≡ Ok n
    → IsTold weighed (body_at one (heads.Negative n) bytes) (told_of nesting.Plain 0) bytes
unfolding body_at
told_negative one n bytes e = record { value = values.Int (negsuc n); is = rw e refl; of = told_int (negsuc n) }

pub told_bytes : (one : List ℕ → ValueReading Value) (len : Option ℕ) (bytes : List ℕ) (n : ℕ) (rest : List ℕ) → IsTold long (octets_at len bytes) n rest
    → IsTold weighed (body_at one (heads.Bytes len) bytes) (told_of nesting.Plain n) rest
unfolding body_at
told_bytes one len bytes n rest t = record {
  value = values.Bytes t.value;
  is = rw t.is refl;
  of = told_is nesting.Plain n (values.Bytes t.value) (nesting_bytes t.value) (omega (arith, t.of, weight_of_bytes t.value));
}

pub told_text : (one : List ℕ → ValueReading Value) (len : Option ℕ) (bytes : List ℕ) (n : ℕ) (rest : List ℕ) → IsTold long (text_at len bytes) n rest
    → IsTold weighed (body_at one (heads.Text len) bytes) (told_of nesting.Plain n) rest
unfolding body_at
told_text one len bytes n rest t = record {
  value = values.Str t.value;
  is = rw t.is refl;
  of = told_is nesting.Plain n (values.Str t.value) (nesting_str t.value) (omega (arith, t.of, weight_of_str t.value));
}

told_members : (members : List Value) (n : ℕ) → n ≡ weight_of_members members → told_of nesting.Array n ≡ weighed (values.Array members)
told_members members n is = told_is nesting.Array n (values.Array members) (nesting_array members) (omega (arith, weight_of_array members))

told_pairs : (pairs : List Pair) (n : ℕ) → n ≡ weight_of_pairs pairs → told_of nesting.Map n ≡ weighed (values.Map pairs)
told_pairs pairs n is = told_is nesting.Map n (values.Map pairs) (nesting_map pairs) (omega (arith, weight_of_map pairs))

pub told_array : (one : List ℕ → ValueReading Value) (count : ℕ) (bytes : List ℕ) (n : ℕ) (rest : List ℕ) → IsTold weight_of_members (many_at one count bytes) n rest
    → IsTold weighed (body_at one (heads.Array (Some count)) bytes) (told_of nesting.Array n) rest
unfolding body_at
told_array one count bytes n rest t = record { value = values.Array t.value; is = rw t.is refl; of = told_members t.value n t.of }

pub told_open_array : (one : List ℕ → ValueReading Value) (bytes : List ℕ) (n : ℕ) (rest : List ℕ) → IsTold weight_of_members (open_at one bytes) n rest
    → IsTold weighed (body_at one (heads.Array None) bytes) (told_of nesting.Array n) rest
unfolding body_at
told_open_array one bytes n rest t = record { value = values.Array t.value; is = rw t.is refl; of = told_members t.value n t.of }

pub told_map : (one : List ℕ → ValueReading Value) (count : ℕ) (bytes : List ℕ) (n : ℕ) (rest : List ℕ) → IsTold weight_of_pairs (many_at (pair_at one) count bytes) n rest
    → IsTold weighed (body_at one (heads.Map (Some count)) bytes) (told_of nesting.Map n) rest
unfolding body_at
told_map one count bytes n rest t = record { value = values.Map t.value; is = rw t.is refl; of = told_pairs t.value n t.of }

pub told_open_map : (one : List ℕ → ValueReading Value) (bytes : List ℕ) (n : ℕ) (rest : List ℕ) → IsTold weight_of_pairs (open_at (pair_at one) bytes) n rest
    → IsTold weighed (body_at one (heads.Map None) bytes) (told_of nesting.Map n) rest
unfolding body_at
told_open_map one bytes n rest t = record { value = values.Map t.value; is = rw t.is refl; of = told_pairs t.value n t.of }

pub told_null : (one : List ℕ → ValueReading Value) (bytes : List ℕ) → IsTold weighed (body_at one heads.Null bytes) (told_of nesting.Plain 0) bytes
unfolding body_at
told_null one bytes = record { value = values.Empty; is = refl; of = told_empty }

pub told_flag : (one : List ℕ → ValueReading Value) (b : Bool) (bytes : List ℕ) → IsTold weighed (body_at one (heads.Bool b) bytes) (told_of nesting.Plain 0) bytes
unfolding body_at
told_flag one b bytes = record { value = values.Bool b; is = refl; of = told_bool b }

pub told_bits : (one : List ℕ → ValueReading Value) (bits : ℕ) (bytes : List ℕ) → IsTold weighed (body_at one (heads.Double bits) bytes) (told_of nesting.Plain 0) bytes
unfolding body_at
told_bits one bits bytes = record { value = values.Double bits; is = refl; of = told_double bits }

-- a head that can't be read
pub item_fails_at : (d : ℕ) (bytes : List ℕ) (e : CborRefusal) → head_at bytes ≡ Err e → item_at d bytes ≡ Err e
unfolding item_at
item_fails_at zero bytes e fails = rw fails refl
item_fails_at (suc d) bytes e fails = rw fails refl

-- a pair
pub told_pair : (one : List ℕ → ValueReading Value) (bytes : List ℕ) (key : ℕ) (between : List ℕ) (value : WeighedValue) (rest : List ℕ) (weight : ℕ)
    → IsTold long (key_at bytes) key between → IsTold weighed (one between) value rest → weight ≡ min (key + value.weight) (2 ^ 63)
    → IsTold pair_weighed (pair_at one bytes) weight rest
unfolding pair_at
told_pair one bytes key between value rest weight k v is = record {
  value = record { key = k.value; value = v.value };
  is = rw (k.is, v.is) refl;
  of = let same : value.weight ≡ min (weight_of_value v.value) (2 ^ 63) = ap (λ (w : WeighedValue). w.weight) v.of in omega (arith, k.of);
}

-- ---- all of the bytes

pub is_weighed : (bytes : List ℕ) (r : Result WeighedValue CborRefusal) → TellsAll weighed r (all_at bytes) → IfOk r (IsWeighed bytes)
unfolding value_of
is_weighed bytes (Ok told) t = record { value = t.0; is = ap value_if t.1; of = t.2 }
is_weighed bytes (Err e) t = tt

pub weighing_refused : (bytes : List ℕ) (r : Result WeighedValue CborRefusal) → IsBytes bytes → TellsAll weighed r (all_at bytes) → IfErr r (λ e. Stands e bytes)
weighing_refused bytes (Ok told) fits t = tt
weighing_refused bytes (Err e) fits t = all_refused bytes e fits t

pub nothing_weighed : (bytes : List ℕ) (r : Result WeighedValue CborRefusal) → TellsAll weighed r (all_at bytes) → IfErr r (λ e. value_of bytes ≡ None)
unfolding value_of
nothing_weighed bytes (Ok told) t = tt
nothing_weighed bytes (Err e) t = ap value_if t

pub weighing_fine : (bytes : List ℕ) (r : Result WeighedValue CborRefusal) → IsBytes bytes → TellsAll weighed r (all_at bytes)
    → OnOk r ((e : CborRefusal) → Stands e bytes → ⊥)
unfolding value_of
weighing_fine bytes (Ok told) fits t = λ e stands.
    let none : value_of bytes ≡ None = no_value bytes fits e stands (value_of bytes) refl in
    let some : value_of bytes ≡ Some t.0 = ap value_if t.1 in
    let clash : Some t.0 ≡ None = sym some ∙ none in
    absurd cc
weighing_fine bytes (Err e) fits t = tt
