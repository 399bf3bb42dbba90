-- What attributes weigh as rows: the cells of values, pairs, and whole tables, in whatever order and however coded.
use Rattle.std.proofs.Common.{◌≡◌, ℕ, suc, ◌+◌, inl, inr, Bool, List, [], ◌∷◌, length, map, drop, Option, None, Some, refl, ap, ◌∙◌, arith}
use Rattle.std.specs.Prelude.{ℤ, sum_by}
use Rattle.std.proofs.lemmas.Bool.{cases_Bool}
use Rattle.std.proofs.lemmas.List.Sums.{sum_by-append, sum_by-cons}
use Rattle.std.proofs.lemmas.List.{map-append}
use Rattle.otlp_model.specs.declared.value.Value.{Value}
use Rattle.otlp_model.specs.declared.value.Value as values
use Rattle.otlp_model.specs.declared.value.Pair.{Pair}
use Rattle.cbor_values.specs.Written.{cbor_of}
use Rattle.otap_cells.specs.declared.payload.Kind.{Kind}
use Rattle.otap_cells.specs.Cells.{Cell}
use Rattle.otap_cells.specs.Scalars.{text_cell}
use Rattle.otap_cells.specs.Weights.{cell_weight, weight_of_row, weight_of_table}
use Rattle.otap_groups.specs.Flat.{placed, placed_at, placed_from}
use Rattle.otap_groups.specs.Weighing.{cells_weight, parts_weight}
use Rattle.otap_attrs.specs.Sorting.{coded_after, coded_rows, is_before, parent_in, placed_by, sorted_by, sorted_rows, stored_parent}
use Rattle.otap_attrs.specs.Tables.{attribute_table, row_of_pair}
use Rattle.otap_attrs.specs.Values.{pair_cells, value_cells}
use Rattle.otap_attrs.proofs.ValueCells.{cells_of_empty, cells_of_str, cells_of_int, cells_of_double, cells_of_bool, cells_of_map, cells_of_array, cells_of_bytes}
use Rattle.otap_cells.proofs.ScalarLaws.{text_weighs, int_weighs_nothing, bits_weigh, flag_weighs}

-- ---- values

pub empty_weighs : cells_weight (value_cells values.Empty) ≡ 0
empty_weighs = rw cells_of_empty refl

pub str_weighs : (text : List ℕ) → cells_weight (value_cells (values.Str text)) ≡ length text
str_weighs text = rw (cells_of_str text) (let w = text_weighs text in omega (arith, w))

pub int_weighs : (z : ℤ) → cells_weight (value_cells (values.Int z)) ≡ 0
int_weighs z = rw (cells_of_int z) (let w = int_weighs_nothing z in omega (arith, w))

pub double_weighs : (n : ℕ) → cells_weight (value_cells (values.Double n)) ≡ 0
double_weighs n = rw (cells_of_double n) (let w = bits_weigh n in omega (arith, w))

pub bool_weighs : (b : Bool) → cells_weight (value_cells (values.Bool b)) ≡ 0
bool_weighs b = rw (cells_of_bool b) (let w = flag_weighs b in omega (arith, w))

pub bytes_weighs : (octets : List ℕ) → cells_weight (value_cells (values.Bytes octets)) ≡ length octets
bytes_weighs octets = rw (cells_of_bytes octets) (let w = text_weighs octets in omega (arith, w))

pub map_weighs : (pairs : List Pair) → cells_weight (value_cells (values.Map pairs)) ≡ length (cbor_of (values.Map pairs))
map_weighs pairs = rw (cells_of_map pairs) (omega arith)

pub array_weighs : (members : List Value) → cells_weight (value_cells (values.Array members)) ≡ length (cbor_of (values.Array members))
array_weighs members = rw (cells_of_array members) (omega arith)

-- ---- pairs

pub pair_weighs : (pair : Pair) → cells_weight (pair_cells pair) ≡ length pair.key + cells_weight (value_cells pair.value)
pair_weighs pair =
    let split = sum_by-cons cell_weight (text_cell pair.key) (value_cells pair.value) in
    let key = text_weighs pair.key in
    omega (arith, split, key)

-- ---- whole tables

-- a row without its first cell
abbrev after_first : List Cell → ℕ
after_first row = 32 + sum_by cell_weight (drop 1 row)

placed_weighs : {A : Type 0} (weigh : A → ℕ) (before : A → A → Bool) (x : A) (xs : List A) → sum_by weigh (placed_by before x xs) ≡ weigh x + sum_by weigh xs
placed_weighs weigh before x [] = sum_by-cons weigh x []
placed_weighs weigh before x (y ∷ ys) = elim (cases_Bool (before y x)) [
  | inl t ↦ rw t (
      let a = sum_by-cons weigh y (placed_by before x ys) in
      let b = sum_by-cons weigh y ys in
      let more = placed_weighs weigh before x ys in
      omega (arith, a, b, more)
      )
  | inr f ↦ rw f (sum_by-cons weigh x (y ∷ ys))
]

sorted_weighs : {A : Type 0} (weigh : A → ℕ) (before : A → A → Bool) (xs : List A) → sum_by weigh (sorted_by before xs) ≡ sum_by weigh xs
sorted_weighs weigh before [] = refl
sorted_weighs weigh before (x ∷ xs) =
    let a = placed_weighs weigh before x (sorted_by before xs) in
    let b = sum_by-cons weigh x xs in
    let more = sorted_weighs weigh before xs in
    omega (arith, a, b, more)

coded_weighs : (parent : ℕ) (before : Option (List Cell)) (rows : List (List Cell)) → sum_by weight_of_row (coded_after parent before rows) ≡ sum_by after_first rows
coded_weighs parent before [] = refl
coded_weighs parent before (row ∷ rows) =
    let a = sum_by-cons weight_of_row (stored_parent parent before row ∷ drop 1 row) (coded_after (parent_in row) (Some (drop 1 row)) rows) in
    let b = sum_by-cons after_first row rows in
    let c = sum_by-cons cell_weight (stored_parent parent before row) (drop 1 row) in
    let more = coded_weighs (parent_in row) (Some (drop 1 row)) rows in
    omega (arith, a, b, c, more)

one_list : (k : ℕ) (pairs : List Pair) → sum_by after_first (map row_of_pair (map (placed_at k) pairs)) ≡ parts_weight pair_cells pairs
one_list k [] = refl
one_list k (pair ∷ pairs) =
    let a = sum_by-cons after_first (row_of_pair (placed_at k pair)) (map row_of_pair (map (placed_at k) pairs)) in
    let b = sum_by-cons (λ (pair : Pair). 32 + cells_weight (pair_cells pair)) pair pairs in
    let more = one_list k pairs in
    omega (arith, a, b, more)

lists_weigh : (k : ℕ) (lists : List (List Pair)) → sum_by after_first (map row_of_pair (placed_from k lists)) ≡ sum_by (parts_weight pair_cells) lists
lists_weigh k [] = refl
lists_weigh k (pairs ∷ lists) =
    let split = ap (sum_by after_first) (map-append row_of_pair (map (placed_at k) pairs) (placed_from (suc k) lists))
    ∙ sum_by-append after_first (map row_of_pair (map (placed_at k) pairs)) (map row_of_pair (placed_from (suc k) lists)) in
    let a = one_list k pairs in
    let b = sum_by-cons (parts_weight pair_cells) pairs lists in
    let more = lists_weigh (suc k) lists in
    omega (arith, split, a, b, more)

pub table_weighs : (kind : Kind) (lists : List (List Pair)) → weight_of_table (attribute_table kind lists) ≡ sum_by (parts_weight pair_cells) lists
unfolding attribute_table coded_rows sorted_rows placed
table_weighs kind lists =
    coded_weighs 0 None (sorted_by is_before (map row_of_pair (placed_from 0 lists)))
    ∙ sorted_weighs after_first is_before (map row_of_pair (placed_from 0 lists)) ∙ lists_weigh 0 lists
