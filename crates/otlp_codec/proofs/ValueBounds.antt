-- How long the spelling of a value is: at most eight bytes for each unit of weight, and 20 more.
use Rattle.std.proofs.Common.{◌≡◌, ℕ, ◌+◌, ◌*◌, ◌≤◌, List, [], ◌∷◌, ◌++◌, map, length, Bool, true, false, refl, sym, ap, ◌∙◌, arith, length-append}
use Rattle.std.specs.Int.{w64, cast_unsigned}
use Rattle.std.specs.List.{AllByRecursion}
use Rattle.std.proofs.lemmas.Bool.{and_parts}
use Rattle.otlp_wire.specs.Wire as wire
use Rattle.otlp_messages.specs.Canon.{canon_row, bytes_row, many_row}
use Rattle.otlp_model.specs.declared.value.Value.{Value}
use Rattle.otlp_model.specs.declared.value.Value.TheVariants as values
use Rattle.otlp_model.specs.declared.value.Pair.{Pair}
use Rattle.otlp_model.specs.Limits.{weight_limit}
use Rattle.otlp_model.specs.Weight.{total, weight_of_value, weight_of_pair}
use Rattle.otlp_model.specs.Real.{is_real_value, is_real_pair}
use Rattle.lists.specs.Bytes.{is_real_text}
use Rattle.otlp_model.proofs.Levels.{weight_of_array, weight_of_map, is_real_array, is_real_map, weight_of_str, weight_of_bytes, is_real_int}
use Rattle.lists.proofs.Every.{every_weaker}
use Rattle.lists.proofs.Numbers.{unsigned_small}
use Rattle.otlp_model.proofs.Induction.{holds}
use Rattle.otlp_model.proofs.RealParts.{signed_of_real}
use Rattle.otlp_codec.specs.Canonical.{canon_value, canon_pair}
use Rattle.otlp_codec.proofs.Lists.{tests_from, all_both}
use Rattle.otlp_codec.proofs.FieldLaw.{IsShortFor, part_short, bytes_short, varint_short, fixed64_short, many_short}
use Rattle.otlp_codec.proofs.ValueLaw.{canon_empty, canon_str, canon_bool, canon_int, canon_double, canon_array, canon_map, canon_bytes}

two_rows : (a b : List ℕ) → length (a ++ (b ++ [])) ≡ length a + length b
two_rows a b =
    let whole : length (a ++ (b ++ [])) ≡ length a + (length b + 0) = simp length-append refl in
    omega (arith, whole)

pub one_row : (a : List ℕ) → length (a ++ []) ≡ length a
one_row a =
    let whole : length (a ++ []) ≡ length a + 0 = simp length-append refl in
    omega (arith, whole)

-- values: a value weighs nothing for itself
pub record ValueBounded (v : Value) : Type 0 where
  pub at : is_real_value v ≡ true → weight_of_value v ≤ weight_limit → length (canon_value v) ≤ 8 * weight_of_value v + 20

pub pair_bound : (p : Pair) → is_real_pair p ≡ true → ValueBounded p.value → IsShortFor canon_pair weight_of_pair 236 p
pair_bound p real value = record {
  at = λ few.
      let inner : length (canon_value p.value) ≤ 8 * weight_of_value p.value + 20 = value.at (and_parts (is_real_text p.key) (is_real_value p.value) real).1 (omega (arith, few)) in
      let rows = two_rows (canon_row 1 (bytes_row p.key)) (canon_row 2 (bytes_row (canon_value p.value))) in
      omega (arith, rows, few, inner, bytes_short 1 p.key refl (omega (arith, few)), bytes_short 2 (canon_value p.value) refl (omega (arith, inner, few)));
}

pairs_bounded : (pairs : List Pair) → AllByRecursion (λ p. is_real_pair p ≡ true) pairs → AllByRecursion (λ p. ValueBounded p.value) pairs → AllByRecursion (IsShortFor canon_pair weight_of_pair 236) pairs
pairs_bounded pairs real law =
    every_weaker (λ p. (is_real_pair p ≡ true) × ValueBounded p.value) (IsShortFor canon_pair weight_of_pair 236) (λ p h. pair_bound p h.0 h.1) pairs
    (all_both (λ p. is_real_pair p ≡ true) (λ p. ValueBounded p.value) pairs real law)

member_bound : (v : Value) → is_real_value v ≡ true → ValueBounded v → IsShortFor canon_value weight_of_value 236 v
member_bound v real law = record { at = λ few. omega (arith, law.at real few) }

-- a value that is one field
one_field : (v : Value) (field : List ℕ) → canon_value v ≡ field ++ [] → length field ≤ 8 * weight_of_value v + 20 → length (canon_value v) ≤ 8 * weight_of_value v + 20
one_field v field is few = omega (arith, ap length is, one_row field, few)

array_bounded : (members : List Value) → AllByRecursion ValueBounded members → ValueBounded (values.Array members)
array_bounded members law = record {
  at = λ real few.
      let inside = canon_row 1 (many_row (map canon_value members)) in
      let reals = tests_from is_real_value members (and_parts _ _ (sym (is_real_array members) ∙ real)).0 in
      let all = every_weaker (λ v. (is_real_value v ≡ true) × ValueBounded v) (IsShortFor canon_value weight_of_value 236) (λ v h. member_bound v h.0 h.1) members
      (all_both (λ v. is_real_value v ≡ true) ValueBounded members reals law) in
      let few' : total 32 weight_of_value members ≤ weight_limit = omega (arith, weight_of_array members, few) in
      let part = many_short canon_value 32 weight_of_value 1 236 members refl refl refl all few' in
      let whole = part_short 5 (inside ++ []) refl (omega (arith, one_row inside, part, few')) in
      one_field (values.Array members) (canon_row 5 (wire.Bytes (inside ++ []) ∷ [])) (canon_array members) (omega (arith, whole, one_row inside, part, weight_of_array members));
}

map_bounded : (pairs : List Pair) → AllByRecursion (λ p. ValueBounded p.value) pairs → ValueBounded (values.Map pairs)
map_bounded pairs law = record {
  at = λ real few.
      let inside = canon_row 1 (many_row (map canon_pair pairs)) in
      let reals = tests_from is_real_pair pairs (and_parts _ _ (sym (is_real_map pairs) ∙ real)).0 in
      let few' : total 32 weight_of_pair pairs ≤ weight_limit = omega (arith, weight_of_map pairs, few) in
      let part = many_short canon_pair 32 weight_of_pair 1 236 pairs refl refl refl (pairs_bounded pairs reals law) few' in
      let whole = part_short 6 (inside ++ []) refl (omega (arith, one_row inside, part, few')) in
      one_field (values.Map pairs) (canon_row 6 (wire.Bytes (inside ++ []) ∷ [])) (canon_map pairs) (omega (arith, whole, one_row inside, part, weight_of_map pairs));
}

pub value_bound : (v : Value) → ValueBounded v
value_bound v = holds ValueBounded (record {
  empty = record { at = λ real few. omega (arith, ap length canon_empty) };
  str = λ text. record {
    at = λ real few. one_field (values.Str text) (canon_row 1 (wire.Bytes text ∷ [])) (canon_str text)
        (omega (arith, part_short 1 text refl (omega (arith, few, weight_of_str text)), weight_of_str text));
  };
  flag = flag;
  int = λ z. record {
    at = λ real few. one_field (values.Int z) (canon_row 3 (wire.Varint (cast_unsigned w64 z) ∷ [])) (canon_int z)
        (omega (arith, varint_short 3 (cast_unsigned w64 z) refl (unsigned_small z (signed_of_real z (sym (is_real_int z) ∙ real)))));
  };
  double = λ bits. record { at = λ real few. one_field (values.Double bits) (canon_row 4 (wire.Fixed64 bits ∷ [])) (canon_double bits) (omega (arith, fixed64_short 4 bits refl)) };
  array = array_bounded;
  pairs = map_bounded;
  bytes = λ bytes. record {
    at = λ real few. one_field (values.Bytes bytes) (canon_row 7 (wire.Bytes bytes ∷ [])) (canon_bytes bytes)
        (omega (arith, part_short 7 bytes refl (omega (arith, few, weight_of_bytes bytes)), weight_of_bytes bytes));
  };
}) v
  where
    flag : (b : Bool) → ValueBounded (values.Bool b)
    flag true = record { at = λ real few. one_field (values.Bool true) (canon_row 2 (wire.Varint 1 ∷ [])) (canon_bool true) (omega (arith, varint_short 2 1 refl (omega arith))) }
    flag false = record { at = λ real few. one_field (values.Bool false) (canon_row 2 (wire.Varint 0 ∷ [])) (canon_bool false) (omega (arith, varint_short 2 0 refl (omega arith))) }
