-- Values in cells: the type, then a cell for a text, an integer, a double, a truth value, bytes, and a nested value as CBOR.
use Rattle.std.specs.Prelude.{◌≡◌, ℕ, pos, ◌<◌, ◌==◌, ◌||◌, ◌⊎◌, if◌then◌else◌, List, [], ◌∷◌, ◌++◌, codes, map, take, drop, Some, unwrap_or}
use Rattle.otlp_model.specs.declared.value.Value.{Value, out-Value}
use Rattle.otlp_model.specs.declared.value.Value as values
use Rattle.otlp_model.specs.declared.value.Value.TheOpen.{Value-F}
use Rattle.otlp_model.specs.declared.value.Pair.{Pair}
use Rattle.cbor_values.specs.Values.{value_of}
use Rattle.cbor_values.specs.Written.{cbor_of}
use Rattle.cbor_values.specs.declared.weighing.Nesting.{Nesting}
use Rattle.cbor_values.specs.declared.weighing.Nesting.TheVariants as nesting
use Rattle.cbor_values.specs.Refusals.{Stands}
use Rattle.cbor_values.specs.Weighing.{nesting_of}
use Rattle.otap_cells.specs.declared.payload.Kind.{Kind}
use Rattle.otap_cells.specs.declared.payload.Kind.TheVariants as table
use Rattle.otap_cells.specs.declared.profile.Base.{Base}
use Rattle.otap_cells.specs.declared.profile.Base.TheVariants as base
use Rattle.otap_cells.specs.ByName.{cell_of, cells_from}
use Rattle.otap_cells.specs.Cells.{Cell, null, number, bytes, bytes_in, nat_in, IsCellOf}
use Rattle.otap_cells.specs.Scalars.{text_cell, int_cell, bits_cell, flag_cell, int_in, bits_in, flag_in}
use Rattle.otap_cells.specs.Columns.{ColumnSpec, columns_of, own_attributes, own_values}
use Rattle.otap_attrs.specs.declared.refusal.RowRefusal.{RowRefusal}
use Rattle.otap_attrs.specs.declared.refusal.RowRefusal.TheVariants as row

-- ---- reading

-- what the columns of a value hold
abbrev pub value_bases : List Base
value_bases = base.U8 ∷ base.Utf8 ∷ base.I64 ∷ base.Double ∷ base.Bool ∷ base.Binary ∷ base.Binary ∷ []

-- the type of the value, and the bytes of a nested one
abbrev pub value_type_in : List Cell → ℕ
value_type_in cells = nat_in (cell_of own_values (codes "type") cells)

abbrev pub nested_in : List Cell → List ℕ
nested_in cells = bytes_in (cell_of own_values (codes "ser") cells)

-- the value of a type
abbrev pub value_of_type : ℕ → List Cell → Value
value_of_type kind cells =
    if kind == 1 then values.Str (bytes_in (cell_of own_values (codes "str") cells))
    else if kind == 2 then values.Int (int_in (cell_of own_values (codes "int") cells))
    else if kind == 3 then values.Double (bits_in (cell_of own_values (codes "double") cells))
    else if kind == 4 then values.Bool (flag_in (cell_of own_values (codes "bool") cells))
    else if kind == 7 then values.Bytes (bytes_in (cell_of own_values (codes "bytes") cells))
    else if kind == 5 || kind == 6 then unwrap_or (value_of (nested_in cells)) values.Empty
    else values.Empty

-- THE VALUE that the cell of its type says; cells of other types are passed over. Where the type is above 7, or CBOR is refused, it is empty
unfoldable pub value_in : List Cell → Value
value_in cells = value_of_type (value_type_in cells) cells

-- what comes before the names of a value's columns
abbrev pub value_prefix : Kind → List ℕ
value_prefix table.Logs = codes "body."
value_prefix _ = []

-- the columns of a value begin at this one
pub record HasValueAt (kind : Kind) (column : ℕ) : Type 0 where
  pub names : map (λ (c : ColumnSpec). c.name) (take 7 (drop column (columns_of kind))) ≡ map (λ (c : ColumnSpec). value_prefix kind ++ c.name) own_values
  pub bases : map (λ (c : ColumnSpec). c.base) (take 7 (drop column (columns_of kind))) ≡ value_bases

-- ---- what may be wrong

-- bytes have a value, and it isn't of that shape
pub record IsOther (wanted : Nesting) (part : List ℕ) : Type 0 where
  pub value : Value
  pub is : value_of part ≡ Some value
  pub other : nesting_of value ≡ wanted → ⊥

-- the type is that of a map or an array, and the nested value has another shape
abbrev pub IsOtherNested : List Cell → Type 0
IsOtherNested cells =
    ((value_type_in cells ≡ 5) × IsOther nesting.Map (nested_in cells)) ⊎ ((value_type_in cells ≡ 6) × IsOther nesting.Array (nested_in cells))

abbrev pub IsNested : List Cell → Type 0
IsNested cells = (value_type_in cells ≡ 5) ⊎ (value_type_in cells ≡ 6)

-- WHAT IS WRONG with the cells of a value: a type above 7, a nested value of another shape, or one that can't be read
abbrev pub BadValue : List Cell → RowRefusal → Type 0
BadValue cells row.BadValueType = (7 < value_type_in cells) ⊎ IsOtherNested cells
BadValue cells (row.BadCbor refusal) = IsNested cells × Stands refusal (nested_in cells)
BadValue cells _ = ⊥

-- ---- writing

-- the cells of a value; a default is null
abbrev pub value_row : ℕ → Cell → Cell → Cell → Cell → Cell → Cell → List Cell
value_row kind text int double truth octets nested = number (pos kind) ∷ text ∷ int ∷ double ∷ truth ∷ octets ∷ nested ∷ []

abbrev pub cells_step : Value-F Value Pair → List Cell
cells_step Value-F.Empty = null ∷ null ∷ null ∷ null ∷ null ∷ null ∷ null ∷ []
cells_step (Value-F.Str text) = value_row 1 (text_cell text) null null null null null
cells_step (Value-F.Int n) = value_row 2 null (int_cell n) null null null null
cells_step (Value-F.Double bits) = value_row 3 null null (bits_cell bits) null null null
cells_step (Value-F.Bool b) = value_row 4 null null null (flag_cell b) null null
cells_step (Value-F.Map pairs) = value_row 5 null null null null null (bytes (cbor_of (values.Map pairs)))
cells_step (Value-F.Array members) = value_row 6 null null null null null (bytes (cbor_of (values.Array members)))
cells_step (Value-F.Bytes octets) = value_row 7 null null null null (text_cell octets) null

unfoldable pub value_cells : Value → List Cell
value_cells value = cells_step (out-Value value)

-- the bytes that are written for a nested value
abbrev pub nested_step : Value-F Value Pair → List ℕ
nested_step (Value-F.Map pairs) = cbor_of (values.Map pairs)
nested_step (Value-F.Array members) = cbor_of (values.Array members)
nested_step _ = []

abbrev pub nested_of : Value → List ℕ
nested_of value = nested_step (out-Value value)

-- cells that columns of these bases may hold
abbrev pub AreCellsOf : List Base → List Cell → Type 0
AreCellsOf [] [] = Unit {0}
AreCellsOf [] (cell ∷ cells) = ⊥
AreCellsOf (holds ∷ bases) [] = ⊥
AreCellsOf (holds ∷ bases) (cell ∷ cells) = IsCellOf holds cell × AreCellsOf bases cells

-- ---- pairs, from the key's cell on

unfoldable pub pair_in : List Cell → Pair
pair_in cells = record {
  key = bytes_in (cell_of own_attributes (codes "key") cells);
  value = value_in (cells_from own_attributes (codes "type") cells);
}

abbrev pub pair_cells : Pair → List Cell
pair_cells pair = text_cell pair.key ∷ value_cells pair.value

-- the row of a pair whose parent isn't coded yet
abbrev pub pair_row : ℕ → Pair → List Cell
pair_row parent pair = number (pos parent) ∷ pair_cells pair
