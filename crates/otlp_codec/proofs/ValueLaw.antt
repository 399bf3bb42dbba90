-- The canonical spelling of a value has no defect, and reads as the value.
use Rattle.std.proofs.Common.{◌≡◌, ℕ, zero, suc, ◌+◌, ◌^◌, ◌<◌, ◌≤◌, List, [], ◌∷◌, ◌++◌, map, length, Bool, true, false, refl, sym, ap, ◌∙◌, subst, arith, rules, length-append}
use Rattle.std.specs.Prelude.{fold, ℤ, if◌then◌else◌}
use Rattle.std.specs.Int.{w64, cast_unsigned}
use Rattle.std.specs.List.{AllByRecursion}
use Rattle.std.proofs.lemmas.Bool.{ltb-true, and_parts}
use Rattle.std.proofs.lemmas.Int.{to_z-of_z}
use Rattle.otlp_wire.specs.Wire as wire
use Rattle.otlp_wire.specs.Varint.{varint}
use Rattle.otlp_wire.proofs.FieldsOf.{fields_of_nothing}
use Rattle.otlp_messages.specs.declared.messages.Message.TheVariants as messages
use Rattle.otlp_messages.specs.Defects.{IsFine}
use Rattle.otlp_messages.specs.Rows.{said, bytes_in, embedded_in}
use Rattle.otlp_messages.specs.Canon.{Filled, row, canon, canon_row, entries, bytes_row, is_laid_out, RowFits}
use Rattle.otlp_messages.proofs.Canonical.{rows_read}
use Rattle.otlp_messages.proofs.RowKinds.{varint_field_fits, fixed64_field_fits, part_fits, part_field_fits, many_fits, bytes_back, embedded_back}
use Rattle.otlp_model.specs.declared.value.Value.{Value, the_lemmas}
use Rattle.otlp_model.specs.declared.value.Value.TheVariants as values
use Rattle.otlp_model.specs.declared.value.Pair.{Pair}
use Rattle.otlp_model.specs.Depth.{depth_of, greatest}
use Rattle.otlp_model.specs.PairDepth.{depth_of_pair}
use Rattle.otlp_model.specs.Real.{is_real_value, is_real_pair}
use Rattle.lists.specs.Bytes.{is_real_text}
use Rattle.otlp_model.proofs.Levels.{depth_of_array, depth_of_map, is_real_array, is_real_map, is_real_str, is_real_int, is_real_double}
use Rattle.lists.proofs.RealBytes.{utf8_of_real}
use Rattle.lists.proofs.Every.{every_weaker}
use Rattle.lists.proofs.Numbers.{unsigned_small}
use Rattle.otlp_model.proofs.Induction.{Step, holds}
use Rattle.otlp_model.proofs.RealParts.{signed_of_real}
use Rattle.otlp_codec.specs.Values.{any_in, any_value_at, key_value_at}
use Rattle.otlp_codec.specs.Steps.{array_at, map_at}
use Rattle.otlp_codec.specs.Canonical.{canon_value, canon_pair, pair_rows, members_rows}
use Rattle.otlp_codec.proofs.Folded.{value_is}
use Rattle.otlp_codec.proofs.Lists.{tests_from, all_both, below_greatest}
use Rattle.otlp_codec.proofs.Returning.{Returns, repeated_returns, in_row}

-- so deep that this number of levels of members may be below
pub record ValueReturns (v : Value) : Type 0 where
  pub at : (l : ℕ) → is_real_value v ≡ true → depth_of v ≤ l + 1 → Returns messages.AnyValue l (any_value_at l) canon_value v

-- by the rows of the value
by_rows : (l : ℕ) (v : Value) (rows : List Filled) → canon_value v ≡ canon rows → is_laid_out messages.AnyValue rows ≡ true
    → (length (canon rows) < 2 ^ 64 → AllByRecursion (RowFits messages.AnyValue l) rows × (fold (any_in (array_at l) (map_at l)) values.Empty (entries rows) ≡ v))
    → Returns messages.AnyValue l (any_value_at l) canon_value v
by_rows l v rows is laid fits = record {
  at = λ short.
      let small : length (canon rows) < 2 ^ 64 = subst (λ (bytes : List ℕ). length bytes < 2 ^ 64) is short in
      let both = fits small in
      let back = rows_read messages.AnyValue l rows laid both.0 small in (
        subst (λ (bytes : List ℕ). IsFine messages.AnyValue l bytes) (sym is) back.fine,
        ap (any_value_at l) is ∙ sym (value_is l (canon rows)) ∙ ap (λ fs. fold (any_in (array_at l) (map_at l)) values.Empty fs) back.fields ∙ both.1,
      );
}

pub no_value : (l : ℕ) → values.Empty ≡ any_value_at l []
no_value l = sym (sym (value_is l []) ∙ ap (λ fs. fold (any_in (array_at l) (map_at l)) values.Empty fs) fields_of_nothing)

-- the spelling of each shape of value
pub canon_empty : canon_value values.Empty ≡ canon []
canon_empty = search (rules, the_lemmas)

pub canon_str : (text : List ℕ) → canon_value (values.Str text) ≡ canon (row 1 (wire.Bytes text ∷ []) ∷ [])
canon_str text = search (rules, the_lemmas)

pub canon_bool : (b : Bool) → canon_value (values.Bool b) ≡ canon (row 2 (wire.Varint (if b then 1 else 0) ∷ []) ∷ [])
canon_bool b = search (rules, the_lemmas)

pub canon_int : (z : ℤ) → canon_value (values.Int z) ≡ canon (row 3 (wire.Varint (cast_unsigned w64 z) ∷ []) ∷ [])
canon_int z = search (rules, the_lemmas)

pub canon_double : (bits : ℕ) → canon_value (values.Double bits) ≡ canon (row 4 (wire.Fixed64 bits ∷ []) ∷ [])
canon_double bits = search (rules, the_lemmas)

pub canon_array : (members : List Value) → canon_value (values.Array members) ≡ canon (row 5 (wire.Bytes (canon (members_rows (map canon_value members))) ∷ []) ∷ [])
canon_array members = search (rules, the_lemmas)

pub canon_map : (pairs : List Pair) → canon_value (values.Map pairs) ≡ canon (row 6 (wire.Bytes (canon (members_rows (map canon_pair pairs))) ∷ []) ∷ [])
canon_map pairs = search (rules, the_lemmas)

pub canon_bytes : (bytes : List ℕ) → canon_value (values.Bytes bytes) ≡ canon (row 7 (wire.Bytes bytes ∷ []) ∷ [])
canon_bytes bytes = search (rules, the_lemmas)

str_returns : (text : List ℕ) → ValueReturns (values.Str text)
str_returns text = record {
  at = λ l real deep. by_rows l (values.Str text) (row 1 (wire.Bytes text ∷ []) ∷ []) (canon_str text) refl
      (λ _. ((part_field_fits messages.AnyValue l 1 text (λ _. utf8_of_real text (sym (is_real_str text) ∙ real)), tt), refl));
}

bool_returns : (b : Bool) → ValueReturns (values.Bool b)
bool_returns true = record {
  at = λ l real deep. by_rows l (values.Bool true) (row 2 (wire.Varint 1 ∷ []) ∷ []) (canon_bool true) refl
      (λ _. ((varint_field_fits messages.AnyValue l 2 1 refl (omega arith), tt), refl));
}
bool_returns false = record {
  at = λ l real deep. by_rows l (values.Bool false) (row 2 (wire.Varint 0 ∷ []) ∷ []) (canon_bool false) refl
      (λ _. ((varint_field_fits messages.AnyValue l 2 0 refl (omega arith), tt), refl));
}

int_returns : (z : ℤ) → ValueReturns (values.Int z)
int_returns z = record {
  at = λ l real deep.
      let fits = signed_of_real z (sym (is_real_int z) ∙ real) in
      by_rows l (values.Int z) (row 3 (wire.Varint (cast_unsigned w64 z) ∷ []) ∷ []) (canon_int z) refl
      (λ _. ((varint_field_fits messages.AnyValue l 3 (cast_unsigned w64 z) refl (unsigned_small z fits), tt), ap values.Int (to_z-of_z w64 z fits)));
}

double_returns : (bits : ℕ) → ValueReturns (values.Double bits)
double_returns bits = record {
  at = λ l real deep. by_rows l (values.Double bits) (row 4 (wire.Fixed64 bits ∷ []) ∷ []) (canon_double bits) refl
      (λ _. ((fixed64_field_fits messages.AnyValue l 4 bits refl (ltb-true bits (2 ^ 64) (sym (is_real_double bits) ∙ real)), tt), refl));
}

bytes_returns : (bytes : List ℕ) → ValueReturns (values.Bytes bytes)
bytes_returns bytes = record {
  at = λ l real deep. by_rows l (values.Bytes bytes) (row 7 (wire.Bytes bytes ∷ []) ∷ []) (canon_bytes bytes) refl
      (λ _. ((part_field_fits messages.AnyValue l 7 bytes (λ _. tt), tt), refl));
}

empty_returns : ValueReturns values.Empty
empty_returns = record { at = λ l real deep. by_rows l values.Empty [] canon_empty refl (λ _. (tt, refl)) }

-- a pair, by its value
pub pair_returns : (l : ℕ) (p : Pair) → is_real_pair p ≡ true → Returns messages.AnyValue l (any_value_at l) canon_value p.value → Returns messages.KeyValue l (key_value_at l) canon_pair p
unfolding key_value_at
pair_returns l p real value = record {
  at = λ short.
      let rows = pair_rows p.key (canon_value p.value) in
      let parts = and_parts (is_real_text p.key) (is_real_value p.value) real in
      let long : length (canon_value p.value) ≤ length (canon rows) = in_pair p.key (canon_value p.value) in
      let inner = value.at (omega (arith, short, long)) in
      let back = rows_read messages.KeyValue l rows refl
      (part_fits messages.KeyValue l 1 p.key (λ _. utf8_of_real p.key parts.0), (part_fits messages.KeyValue l 2 (canon_value p.value) (λ _. inner.0), tt)) short in
      let key : said 1 bytes_in [] (canon rows) ≡ p.key = ap (fold bytes_in []) (back.only 1) ∙ bytes_back p.key in
      let is : said 2 (embedded_in (any_value_at l)) values.Empty (canon rows) ≡ p.value =
      ap (fold (embedded_in (any_value_at l)) values.Empty) (back.only 2) ∙ embedded_back (any_value_at l) values.Empty p.value (canon_value p.value) (no_value l) inner.1 in
      (back.fine, λ i. record { key = key i; value = is i });
}
  where
    in_pair : (key value : List ℕ) → length value ≤ length (canon (pair_rows key value))
    in_pair key value =
        let whole : length (canon_row 1 (bytes_row key) ++ (canon_row 2 (bytes_row value) ++ [])) ≡ length (canon_row 1 (bytes_row key)) + (length (canon_row 2 (bytes_row value)) + 0) = simp length-append refl in
        omega (arith, whole, in_row 2 value)

-- no value has no depth
some_depth : (v : Value) → 1 ≤ depth_of v
some_depth v = holds (λ w. 1 ≤ depth_of w) deep v
  where
    leaf : (w : Value) → depth_of w ≡ 1 → 1 ≤ depth_of w
    leaf w is = omega (arith, is)

    deep : Step (λ w. 1 ≤ depth_of w)
    deep = record {
      empty = leaf values.Empty (search (rules, the_lemmas));
      str = λ text. leaf (values.Str text) (search (rules, the_lemmas));
      flag = λ b. leaf (values.Bool b) (search (rules, the_lemmas));
      int = λ z. leaf (values.Int z) (search (rules, the_lemmas));
      double = λ bits. leaf (values.Double bits) (search (rules, the_lemmas));
      array = λ members _. omega (arith, depth_of_array members);
      pairs = λ pairs _. omega (arith, depth_of_map pairs);
      bytes = λ bytes. leaf (values.Bytes bytes) (search (rules, the_lemmas));
    }

none_at_zero : {A : Type 0} (depth : A → ℕ) (xs : List A) → ((x : A) → 1 ≤ depth x) → AllByRecursion (λ x. depth x ≤ 0) xs → xs ≡ []
none_at_zero depth [] some h = refl
none_at_zero depth (x ∷ xs) some h = absurd (omega (arith, some x, h.0))

-- the members of an array, and of a key-value list
members_return : (l : ℕ) (members : List Value) → AllByRecursion ValueReturns members → AllByRecursion (λ v. is_real_value v ≡ true) members → AllByRecursion (λ v. depth_of v ≤ l) members
    → length (canon (members_rows (map canon_value members))) < 2 ^ 64
    → IsFine messages.ArrayValue l (canon (members_rows (map canon_value members))) × (array_at l (canon (members_rows (map canon_value members))) ≡ members)
unfolding array_at
members_return zero members law real deep short = rw (none_at_zero depth_of members some_depth deep)
    ((rows_read messages.ArrayValue zero (members_rows []) refl (many_fits messages.ArrayValue zero 1 [] refl tt, tt) (omega arith)).fine, refl)
members_return (suc l) members law real deep short =
    repeated_returns messages.ArrayValue (suc l) messages.AnyValue l (any_value_at l) canon_value members refl (λ part fine. fine)
    (every_weaker (λ v. ValueReturns v × ((is_real_value v ≡ true) × (depth_of v ≤ suc l))) (Returns messages.AnyValue l (any_value_at l) canon_value)
    (λ v h. h.0.at l h.1.0 (omega (arith, h.1.1))) members
    (all_both ValueReturns (λ v. (is_real_value v ≡ true) × (depth_of v ≤ suc l)) members law (all_both (λ v. is_real_value v ≡ true) (λ v. depth_of v ≤ suc l) members real deep)))
    short

-- a pair, whose value is so deep
pub pair_law : (l : ℕ) (p : Pair) → ValueReturns p.value → is_real_pair p ≡ true → depth_of_pair p ≤ l + 1 → Returns messages.KeyValue l (key_value_at l) canon_pair p
pair_law l p law real deep = pair_returns l p real (law.at l (and_parts (is_real_text p.key) (is_real_value p.value) real).1 deep)

pairs_return : (l : ℕ) (pairs : List Pair) → AllByRecursion (λ p. ValueReturns p.value) pairs → AllByRecursion (λ p. is_real_pair p ≡ true) pairs → AllByRecursion (λ p. depth_of_pair p ≤ l) pairs
    → length (canon (members_rows (map canon_pair pairs))) < 2 ^ 64
    → IsFine messages.KeyValueList l (canon (members_rows (map canon_pair pairs))) × (map_at l (canon (members_rows (map canon_pair pairs))) ≡ pairs)
unfolding map_at
pairs_return zero pairs law real deep short = rw (none_at_zero depth_of_pair pairs (λ p. some_depth p.value) deep)
    ((rows_read messages.KeyValueList zero (members_rows []) refl (many_fits messages.KeyValueList zero 1 [] refl tt, tt) (omega arith)).fine, refl)
pairs_return (suc l) pairs law real deep short =
    repeated_returns messages.KeyValueList (suc l) messages.KeyValue l (key_value_at l) canon_pair pairs refl (λ part fine. fine)
    (every_weaker (λ p. ValueReturns p.value × ((is_real_pair p ≡ true) × (depth_of_pair p ≤ suc l))) (Returns messages.KeyValue l (key_value_at l) canon_pair)
    (λ p h. pair_law l p h.0 h.1.0 (omega (arith, h.1.1))) pairs
    (all_both (λ p. ValueReturns p.value) (λ p. (is_real_pair p ≡ true) × (depth_of_pair p ≤ suc l)) pairs law (all_both (λ p. is_real_pair p ≡ true) (λ p. depth_of_pair p ≤ suc l) pairs real deep)))
    short

-- a part is no longer than its field
in_field : (tag part : List ℕ) → length (((tag ++ (varint (length part) ++ part)) ++ []) ++ []) < 2 ^ 64 → length part < 2 ^ 64
in_field tag part h =
    let whole : length (((tag ++ (varint (length part) ++ part)) ++ []) ++ []) ≡ ((length tag + (length (varint (length part)) + length part)) + 0) + 0 = simp length-append refl in
    omega (arith, h, whole)

array_returns : (members : List Value) → AllByRecursion ValueReturns members → ValueReturns (values.Array members)
array_returns members law = record {
  at = λ l real deep.
      let part = canon (members_rows (map canon_value members)) in
      let reals = tests_from is_real_value members (and_parts _ _ (sym (is_real_array members) ∙ real)).0 in
      let depths : greatest (map depth_of members) ≤ l = omega (arith, depth_of_array members, deep) in
      by_rows l (values.Array members) (row 5 (wire.Bytes part ∷ []) ∷ []) (canon_array members) refl
      (λ short.
      let inner = members_return l members law reals (below_greatest depth_of l members depths) (in_field (varint 42) part short) in
      ((part_field_fits messages.AnyValue l 5 part (λ _. inner.0), tt), ap values.Array inner.1));
}

map_returns : (pairs : List Pair) → AllByRecursion (λ p. ValueReturns p.value) pairs → ValueReturns (values.Map pairs)
map_returns pairs law = record {
  at = λ l real deep.
      let part = canon (members_rows (map canon_pair pairs)) in
      let reals = tests_from is_real_pair pairs (and_parts _ _ (sym (is_real_map pairs) ∙ real)).0 in
      let depths : greatest (map depth_of_pair pairs) ≤ l = omega (arith, depth_of_map pairs, deep) in
      by_rows l (values.Map pairs) (row 6 (wire.Bytes part ∷ []) ∷ []) (canon_map pairs) refl
      (λ short.
      let inner = pairs_return l pairs law reals (below_greatest depth_of_pair l pairs depths) (in_field (varint 50) part short) in
      ((part_field_fits messages.AnyValue l 6 part (λ _. inner.0), tt), ap values.Map inner.1));
}

pub value_law : (v : Value) → ValueReturns v
value_law v = holds ValueReturns (record {
  empty = empty_returns;
  str = str_returns;
  flag = bool_returns;
  int = int_returns;
  double = double_returns;
  array = array_returns;
  pairs = map_returns;
  bytes = bytes_returns;
}) v
