-- Values come back from their cells.
use Rattle.std.proofs.Common.{◌≡◌, ℕ, ◌≤◌, true, List, [], ◌∷◌, Some, None, refl, sym, ap, subst, ◌∙◌, arith, inl, inr, ◌⊎◌}
use Rattle.std.specs.Prelude.{ℤ, Bool, IsTrue}
use Rattle.otlp_model.specs.declared.value.Value.{Value}
use Rattle.lists.proofs.AllBytes.{IsBytes, IsBytes-from_all}
use Rattle.otlp_model.specs.declared.value.Value as values
use Rattle.otlp_model.specs.Depth.{depth_of}
use Rattle.otlp_model.specs.Limits.{depth_limit}
use Rattle.otlp_model.specs.Real.{is_real_value}
use Rattle.otlp_model.proofs.Induction.{holds}
use Rattle.cbor_values.specs.declared.weighing.Nesting.{Nesting}
use Rattle.cbor_values.specs.declared.weighing.Nesting.TheVariants as nesting
use Rattle.cbor_values.specs.Values.{value_of}
use Rattle.cbor_values.specs.Weighing.{nesting_of}
use Rattle.cbor_values.specs.Written.{cbor_of}
use Rattle.cbor_values.proofs.WrittenBytes.{written_in_bytes}
use Rattle.cbor_values.proofs.Told.{no_value, written_again}
use Rattle.cbor_values.proofs.TellingValues.{nesting_array, nesting_map}
use Rattle.otap_cells.specs.Cells.{Cell, null, bytes}
use Rattle.otap_cells.specs.Scalars.{text_cell, int_cell, bits_cell, flag_cell}
use Rattle.otap_cells.proofs.ScalarLaws.{text_back, int_back, bits_back, flag_back}
use Rattle.otap_attrs.specs.declared.refusal.RowRefusal.{RowRefusal}
use Rattle.otap_attrs.specs.declared.refusal.RowRefusal.TheVariants as row
use Rattle.otap_attrs.specs.Values.{BadValue, value_type_in, value_cells, value_in, value_row}
use Rattle.otap_attrs.specs.Inside.{BadNested}
use Rattle.otap_attrs.proofs.ValueCells.{cells_of_array, cells_of_bool, cells_of_bytes, cells_of_double, cells_of_empty, cells_of_int, cells_of_map, cells_of_str}
use Rattle.otap_attrs.proofs.ValueFaults.{array_is_fine, map_is_fine}

-- a value that can be written comes back, and nothing is wrong with its cells
record IsValueBack (value : Value) : Type 0 where
  again : value_in (value_cells value) ≡ value
  fine : (why : RowRefusal) → BadValue (value_cells value) why → ⊥

abbrev ComesBack : Value → Type 0
ComesBack value = is_real_value value ≡ true → depth_of value ≤ depth_limit → IsValueBack value

-- nothing is wrong with a value that isn't nested
pub flat_is_fine : (cells : List Cell) → value_type_in cells ≤ 7 → (value_type_in cells ≡ 5 → ⊥) → (value_type_in cells ≡ 6 → ⊥) → (why : RowRefusal) → BadValue cells why → ⊥
flat_is_fine cells low a b row.BadValueType (inl high) = omega arith
flat_is_fine cells low a b row.BadValueType (inr (inl map)) = a map.0
flat_is_fine cells low a b row.BadValueType (inr (inr array)) = b array.0
flat_is_fine cells low a b (row.BadCbor refusal) bad = nested bad.0
  where
    nested : (value_type_in cells ≡ 5) ⊎ (value_type_in cells ≡ 6) → ⊥
    nested (inl five) = a five
    nested (inr six) = b six
flat_is_fine cells low a b (row.Ids fault) bad = bad
flat_is_fine cells low a b row.Orphan bad = bad
flat_is_fine cells low a b row.Disagree bad = bad
flat_is_fine cells low a b row.TwoValues bad = bad
flat_is_fine cells low a b row.BadKind bad = bad
flat_is_fine cells low a b (row.Memory error) bad = bad

-- nor with bytes that have a value of the wanted shape
shape_is_fine : (wanted : Nesting) (part : List ℕ) (value : Value) → IsBytes part → value_of part ≡ Some value → nesting_of value ≡ wanted
    → (why : RowRefusal) → BadNested wanted part why → ⊥
shape_is_fine wanted part value fits is same row.BadValueType other =
    let one : Some other.value ≡ Some value = sym other.is ∙ is in
    other.other ((let equal : other.value ≡ value = cc in ap nesting_of equal) ∙ same)
shape_is_fine wanted part value fits is same (row.BadCbor refusal) stands =
    let none : value_of part ≡ None = no_value part fits refusal stands (value_of part) refl in
    let clash : Some value ≡ None = sym is ∙ none in
    absurd cc
shape_is_fine wanted part value fits is same (row.Ids fault) bad = bad
shape_is_fine wanted part value fits is same row.Orphan bad = bad
shape_is_fine wanted part value fits is same row.Disagree bad = bad
shape_is_fine wanted part value fits is same row.TwoValues bad = bad
shape_is_fine wanted part value fits is same row.BadKind bad = bad
shape_is_fine wanted part value fits is same (row.Memory error) bad = bad

text_again : (text : List ℕ) → value_in (value_row 1 (text_cell text) null null null null null) ≡ values.Str text
unfolding value_in
text_again text = ap values.Str (text_back text)

int_again : (z : ℤ) → value_in (value_row 2 null (int_cell z) null null null null) ≡ values.Int z
unfolding value_in
int_again z = ap values.Int (int_back z)

double_again : (n : ℕ) → value_in (value_row 3 null null (bits_cell n) null null null) ≡ values.Double n
unfolding value_in
double_again n = ap values.Double (bits_back n)

flag_again : (b : Bool) → value_in (value_row 4 null null null (flag_cell b) null null) ≡ values.Bool b
unfolding value_in
flag_again b = ap values.Bool (flag_back b)

bytes_again : (octets : List ℕ) → value_in (value_row 7 null null null null (text_cell octets) null) ≡ values.Bytes octets
unfolding value_in
bytes_again octets = ap values.Bytes (text_back octets)

empty_again : value_in (null ∷ null ∷ null ∷ null ∷ null ∷ null ∷ null ∷ []) ≡ values.Empty
unfolding value_in
empty_again = refl

map_again : (part : List ℕ) (value : Value) → value_of part ≡ Some value → value_in (value_row 5 null null null null null (bytes part)) ≡ value
unfolding value_in
map_again part value e = rw e refl

array_again : (part : List ℕ) (value : Value) → value_of part ≡ Some value → value_in (value_row 6 null null null null null (bytes part)) ≡ value
unfolding value_in
array_again part value e = rw e refl

flat_back : (value : Value) (cells : List Cell) → value_cells value ≡ cells → value_in cells ≡ value → value_type_in cells ≤ 7 → (value_type_in cells ≡ 5 → ⊥) → (value_type_in cells ≡ 6 → ⊥)
    → IsValueBack value
flat_back value cells are again low a b = record {
  again = ap value_in are ∙ again;
  fine = subst (λ (cs : List Cell). (why : RowRefusal) → BadValue cs why → ⊥) (sym are) (flat_is_fine cells low a b);
}

each_comes_back : (value : Value) → ComesBack value
each_comes_back = holds ComesBack (record {
  empty = λ real deep. flat_back values.Empty _ cells_of_empty empty_again (omega arith) (λ e. omega (arith, e)) (λ e. omega (arith, e));
  str = λ text real deep. flat_back (values.Str text) _ (cells_of_str text) (text_again text) (omega arith) (λ e. omega (arith, e)) (λ e. omega (arith, e));
  flag = λ b real deep. flat_back (values.Bool b) _ (cells_of_bool b) (flag_again b) (omega arith) (λ e. omega (arith, e)) (λ e. omega (arith, e));
  int = λ z real deep. flat_back (values.Int z) _ (cells_of_int z) (int_again z) (omega arith) (λ e. omega (arith, e)) (λ e. omega (arith, e));
  double = λ n real deep. flat_back (values.Double n) _ (cells_of_double n) (double_again n) (omega arith) (λ e. omega (arith, e)) (λ e. omega (arith, e));
  bytes = λ octets real deep. flat_back (values.Bytes octets) _ (cells_of_bytes octets) (bytes_again octets) (omega arith) (λ e. omega (arith, e)) (λ e. omega (arith, e));
  array = λ members each real deep. record {
    again = ap value_in (cells_of_array members) ∙ array_again (cbor_of (values.Array members)) (values.Array members) (written_again (values.Array members) real deep);
    fine = subst (λ (cs : List Cell). (why : RowRefusal) → BadValue cs why → ⊥) (sym (cells_of_array members)) (array_is_fine (value_row 6 null null null null null (bytes (cbor_of (values.Array members)))) refl
        (shape_is_fine nesting.Array (cbor_of (values.Array members)) (values.Array members) (IsBytes-from_all (cbor_of (values.Array members)) (written_in_bytes (values.Array members) real))
        (written_again (values.Array members) real deep) (nesting_array members)));
  };
  pairs = λ pairs each real deep. record {
    again = ap value_in (cells_of_map pairs) ∙ map_again (cbor_of (values.Map pairs)) (values.Map pairs) (written_again (values.Map pairs) real deep);
    fine = subst (λ (cs : List Cell). (why : RowRefusal) → BadValue cs why → ⊥) (sym (cells_of_map pairs)) (map_is_fine (value_row 5 null null null null null (bytes (cbor_of (values.Map pairs)))) refl
        (shape_is_fine nesting.Map (cbor_of (values.Map pairs)) (values.Map pairs) (IsBytes-from_all (cbor_of (values.Map pairs)) (written_in_bytes (values.Map pairs) real))
        (written_again (values.Map pairs) real deep) (nesting_map pairs)));
  };
})

pub value_again : (value : Value) → IsTrue (is_real_value value) → depth_of value ≤ depth_limit → value_in (value_cells value) ≡ value
value_again value real deep = (each_comes_back value real deep).again

pub value_fine : (value : Value) → IsTrue (is_real_value value) → depth_of value ≤ depth_limit → (why : RowRefusal) → BadValue (value_cells value) why → ⊥
value_fine value real deep = (each_comes_back value real deep).fine
