-- The cells of values, constructor by constructor, and what they weigh.
use Rattle.std.proofs.Common.{◌≡◌, ◌≢◌, ℕ, List, [], ◌∷◌, length, refl, rules}
use Rattle.std.proofs.Common.{inl, inr}
use Rattle.std.specs.Prelude.{ℤ, Bool, unwrap_or}
use Rattle.std.proofs.lemmas.Bool.{cases_eq, ne_eqb}
use Rattle.otlp_model.specs.declared.value.Value.{Value, the_lemmas}
use Rattle.otlp_model.specs.declared.value.Value as values
use Rattle.otlp_model.specs.declared.value.Pair.{Pair}
use Rattle.otlp_model.specs.Weight.{weight_of_value}
use Rattle.cbor_values.specs.Values.{value_of}
use Rattle.cbor_values.specs.Written.{cbor_of}
use Rattle.otap_cells.specs.Cells.{Cell, null, bytes, bytes_in, cell_at}
use Rattle.otap_cells.specs.Scalars.{text_cell, int_cell, bits_cell, flag_cell, int_in, bits_in, flag_in}
use Rattle.otap_attrs.specs.Values.{nested_in, nested_of, value_type_in, value_cells, value_in, value_row}
use Rattle.otlp_model.proofs.Levels.{weight_of_str, weight_of_bytes, weight_of_empty, weight_of_bool, weight_of_int, weight_of_double}

pub cells_of_empty : value_cells values.Empty ≡ null ∷ null ∷ null ∷ null ∷ null ∷ null ∷ null ∷ []
unfolding value_cells
cells_of_empty = search (rules, the_lemmas)

pub cells_of_str : (text : List ℕ) → value_cells (values.Str text) ≡ value_row 1 (text_cell text) null null null null null
unfolding value_cells
cells_of_str text = search (rules, the_lemmas)

pub cells_of_int : (z : ℤ) → value_cells (values.Int z) ≡ value_row 2 null (int_cell z) null null null null
unfolding value_cells
cells_of_int z = search (rules, the_lemmas)

pub cells_of_double : (n : ℕ) → value_cells (values.Double n) ≡ value_row 3 null null (bits_cell n) null null null
unfolding value_cells
cells_of_double n = search (rules, the_lemmas)

pub cells_of_bool : (b : Bool) → value_cells (values.Bool b) ≡ value_row 4 null null null (flag_cell b) null null
unfolding value_cells
cells_of_bool b = search (rules, the_lemmas)

pub cells_of_map : (pairs : List Pair) → value_cells (values.Map pairs) ≡ value_row 5 null null null null null (bytes (cbor_of (values.Map pairs)))
unfolding value_cells
cells_of_map pairs = search (rules, the_lemmas)

pub cells_of_array : (members : List Value) → value_cells (values.Array members) ≡ value_row 6 null null null null null (bytes (cbor_of (values.Array members)))
unfolding value_cells
cells_of_array members = search (rules, the_lemmas)

pub cells_of_bytes : (octets : List ℕ) → value_cells (values.Bytes octets) ≡ value_row 7 null null null null (text_cell octets) null
unfolding value_cells
cells_of_bytes octets = search (rules, the_lemmas)

-- the bytes of nested ones
pub nested_of_map : (pairs : List Pair) → nested_of (values.Map pairs) ≡ cbor_of (values.Map pairs)
nested_of_map pairs = search (rules, the_lemmas)

pub nested_of_array : (members : List Value) → nested_of (values.Array members) ≡ cbor_of (values.Array members)
nested_of_array members = search (rules, the_lemmas)

-- ---- what they weigh

pub weight_of_text : (cells : List Cell) → value_type_in cells ≡ 1 → weight_of_value (value_in cells) ≡ length (bytes_in (cell_at cells 1))
unfolding value_in
weight_of_text cells e = rw e (weight_of_str (bytes_in (cell_at cells 1)))

pub weight_of_octets : (cells : List Cell) → value_type_in cells ≡ 7 → weight_of_value (value_in cells) ≡ length (bytes_in (cell_at cells 5))
unfolding value_in
weight_of_octets cells e = rw e (weight_of_bytes (bytes_in (cell_at cells 5)))

pub weight_of_map : (cells : List Cell) → value_type_in cells ≡ 5 → weight_of_value (value_in cells) ≡ weight_of_value (unwrap_or (value_of (nested_in cells)) values.Empty)
unfolding value_in
weight_of_map cells e = rw e refl

pub weight_of_array : (cells : List Cell) → value_type_in cells ≡ 6 → weight_of_value (value_in cells) ≡ weight_of_value (unwrap_or (value_of (nested_in cells)) values.Empty)
unfolding value_in
weight_of_array cells e = rw e refl

pub weight_of_other : (cells : List Cell) → value_type_in cells ≢ 1 → value_type_in cells ≢ 7 → value_type_in cells ≢ 5 → value_type_in cells ≢ 6 → weight_of_value (value_in cells) ≡ 0
unfolding value_in
weight_of_other cells a b c d =
    rw (ne_eqb (value_type_in cells) 1 a, ne_eqb (value_type_in cells) 7 b, ne_eqb (value_type_in cells) 5 c, ne_eqb (value_type_in cells) 6 d) (elim (cases_eq (value_type_in cells) 2) [
      | inl two ↦ rw two (weight_of_int (int_in (cell_at cells 2)))
      | inr no_two ↦ rw (ne_eqb (value_type_in cells) 2 no_two) (elim (cases_eq (value_type_in cells) 3) [
        | inl three ↦ rw three (weight_of_double (bits_in (cell_at cells 3)))
        | inr no_three ↦ rw (ne_eqb (value_type_in cells) 3 no_three) (elim (cases_eq (value_type_in cells) 4) [
          | inl four ↦ rw four (weight_of_bool (flag_in (cell_at cells 4)))
          | inr no_four ↦ rw (ne_eqb (value_type_in cells) 4 no_four) weight_of_empty
        ])
      ])
    ])
