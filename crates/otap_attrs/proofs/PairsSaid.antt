-- What the row of a pair says, by the value.
use Rattle.std.proofs.Common.{◌≡◌, ℕ, pos, Bool, true, false, List, [], ◌∷◌, refl, ap, ◌∙◌}
use Rattle.std.specs.Prelude.{ℤ}
use Rattle.otlp_model.specs.declared.value.Value.{Value}
use Rattle.otlp_model.specs.declared.value.Value as values
use Rattle.otlp_model.specs.declared.value.Pair.{Pair}
use Rattle.cbor_values.specs.Written.{cbor_of}
use Rattle.otap_cells.proofs.ScalarLaws.{text_back, int_back, bits_back}
use Rattle.otap_cells.specs.Cells.{Cell, bytes_in}
use Rattle.otap_cells.specs.Scalars.{text_cell}
use Rattle.otap_cells.specs.Continuing.{AttributeIn, attribute_in}
use Rattle.otap_attrs.specs.Values.{pair_cells, value_cells}
use Rattle.otap_attrs.proofs.ValueCells.{cells_of_empty, cells_of_str, cells_of_int, cells_of_double, cells_of_bool, cells_of_bytes, cells_of_map, cells_of_array}

abbrev says : ℕ → List ℕ → ℤ → ℕ → List ℕ → AttributeIn
says kind key int bits part = record { kind = kind; key = key; int = int; bits = bits; bytes = part }

-- the cells of the value, after that of the key
by_cells : (key : List ℕ) (value : Value) (cells : List Cell) (kind : ℕ) (int : ℤ) (bits : ℕ) (part : List ℕ) → value_cells value ≡ cells
    → attribute_in (text_cell key ∷ cells) ≡ says kind (bytes_in (text_cell key)) int bits part
    → attribute_in (pair_cells (record { key = key; value = value })) ≡ says kind key int bits part
by_cells key value cells kind int bits part are said =
    ap (λ (cells : List Cell). attribute_in (text_cell key ∷ cells)) are ∙ said ∙ ap (λ (k : List ℕ). says kind k int bits part) (text_back key)

pub says_empty : (key : List ℕ) → attribute_in (pair_cells (record { key = key; value = values.Empty })) ≡ says 0 key (pos 0) 0 []
unfolding attribute_in
says_empty key = by_cells key values.Empty _ 0 (pos 0) 0 [] cells_of_empty refl

pub says_str : (key text : List ℕ) → attribute_in (pair_cells (record { key = key; value = values.Str text })) ≡ says 1 key (pos 0) 0 text
unfolding attribute_in
says_str key text = by_cells key (values.Str text) _ 1 (pos 0) 0 text (cells_of_str text) (ap (says 1 (bytes_in (text_cell key)) (pos 0) 0) (text_back text))

pub says_int : (key : List ℕ) (z : ℤ) → attribute_in (pair_cells (record { key = key; value = values.Int z })) ≡ says 2 key z 0 []
unfolding attribute_in
says_int key z = by_cells key (values.Int z) _ 2 z 0 [] (cells_of_int z) (ap (λ (n : ℤ). says 2 (bytes_in (text_cell key)) n 0 []) (int_back z))

pub says_double : (key : List ℕ) (n : ℕ) → attribute_in (pair_cells (record { key = key; value = values.Double n })) ≡ says 3 key (pos 0) n []
unfolding attribute_in
says_double key n = by_cells key (values.Double n) _ 3 (pos 0) n [] (cells_of_double n) (ap (λ (b : ℕ). says 3 (bytes_in (text_cell key)) (pos 0) b []) (bits_back n))

abbrev bit_of : Bool → ℕ
bit_of true = 1
bit_of false = 0

pub says_bool : (key : List ℕ) (b : Bool) → attribute_in (pair_cells (record { key = key; value = values.Bool b })) ≡ says 4 key (pos 0) (bit_of b) []
unfolding attribute_in
says_bool key true = by_cells key (values.Bool true) _ 4 (pos 0) 1 [] (cells_of_bool true) refl
says_bool key false = by_cells key (values.Bool false) _ 4 (pos 0) 0 [] (cells_of_bool false) refl

pub says_map : (key : List ℕ) (pairs : List Pair) → attribute_in (pair_cells (record { key = key; value = values.Map pairs })) ≡ says 5 key (pos 0) 0 (cbor_of (values.Map pairs))
unfolding attribute_in
says_map key pairs = by_cells key (values.Map pairs) _ 5 (pos 0) 0 (cbor_of (values.Map pairs)) (cells_of_map pairs) refl

pub says_array : (key : List ℕ) (members : List Value) → attribute_in (pair_cells (record { key = key; value = values.Array members })) ≡ says 6 key (pos 0) 0 (cbor_of (values.Array members))
unfolding attribute_in
says_array key members = by_cells key (values.Array members) _ 6 (pos 0) 0 (cbor_of (values.Array members)) (cells_of_array members) refl

pub says_bytes : (key octets : List ℕ) → attribute_in (pair_cells (record { key = key; value = values.Bytes octets })) ≡ says 7 key (pos 0) 0 octets
unfolding attribute_in
says_bytes key octets = by_cells key (values.Bytes octets) _ 7 (pos 0) 0 octets (cells_of_bytes octets) (ap (says 7 (bytes_in (text_cell key)) (pos 0) 0) (text_back octets))
