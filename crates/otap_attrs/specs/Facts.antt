-- What one pass over the rows of a table of attributes finds.
use Rattle.std.specs.Prelude.{◌≡◌, ℕ, ◌<◌, true, List, [], ◌∷◌, ◌++◌, codes, drop, map, min, take, ◌==◌, ◌||◌, if◌then◌else◌}
use Rattle.std.specs.List.{slice_index_or}
use Rattle.otlp_model.specs.Limits.{count_cap}
use Rattle.otlp_model.specs.Weight.{weight_of_value}
use Rattle.otap_cells.specs.ByName.{cell_of}
use Rattle.otap_cells.specs.Cells.{Cell, bytes_in}
use Rattle.otap_cells.specs.Columns.{own_values}
use Rattle.otap_cells.specs.Continuing.{AttributeIn, attribute_in}
use Rattle.otap_cells.specs.Tables.{Table}
use Rattle.otap_cells.specs.Places.{first_of_pair, first_of_value}
use Rattle.otap_attrs.specs.declared.facts.Found.{Found}
use Rattle.otap_attrs.specs.declared.refusal.RowRefusal.{RowRefusal}
use Rattle.otap_attrs.specs.Defects.{WrongValue}
use Rattle.otap_attrs.specs.Index.{pair_weight_in}
use Rattle.otap_attrs.specs.Values.{BadValue, nested_in, value_in, value_type_in}

-- the weights are those of the pairs of a table's rows, and nothing is wrong with their values
pub record HasWeights (t : Table) (weights : List ℕ) : Type 0 where
  pub are : weights ≡ map pair_weight_in t.rows
  pub fine : (why : RowRefusal) → WrongValue t 2 why → ⊥

-- ---- words of private contracts

-- nothing is wrong with the value of cells, which weighs this, or 2^63 where it is more
pub record HasFineValue (cells : List Cell) (weight : ℕ) : Type 0 where
  pub weighs : weight ≡ min (weight_of_value (value_in cells)) count_cap
  pub fine : (why : RowRefusal) → BadValue cells why → ⊥

-- the bytes that cells have for a value of a type
abbrev pub bytes_of_type : ℕ → List Cell → List ℕ
bytes_of_type kind cells =
    if kind == 1 then bytes_in (cell_of own_values (codes "str") cells)
    else if kind == 7 then bytes_in (cell_of own_values (codes "bytes") cells)
    else if kind == 5 || kind == 6 then nested_in cells
    else []

-- a value of this type, of which these are the bytes, is fine and weighs this
abbrev pub WeighsValue : ℕ → List ℕ → ℕ → Type 0
WeighsValue kind bytes weight =
    (cells : List Cell) → value_type_in cells ≡ kind → bytes ≡ bytes_of_type kind cells → HasFineValue cells weight

-- a row's pair weighs this, or 2^63 where it is more, and its value is fine
pub record HasFinePair (row : List Cell) (weight : ℕ) : Type 0 where
  pub weighs : weight ≡ pair_weight_in row
  pub fine : (why : RowRefusal) → BadValue (drop first_of_value row) why → ⊥

-- the pair of each row that says this is fine and weighs this
abbrev pub WeighsPair : AttributeIn → ℕ → Type 0
WeighsPair says weight = (row : List Cell) → says ≡ attribute_in (drop first_of_pair row) → HasFinePair row weight

-- the pairs of the first rows are fine, and these are their weights
pub record HasWeightsSoFar (rows : List (List Cell)) (count : ℕ) (weights : List ℕ) : Type 0 where
  pub are : weights ≡ map pair_weight_in (take count rows)
  pub fine : (k : ℕ) → k < count → (why : RowRefusal) → BadValue (drop first_of_value (slice_index_or rows k [])) why → ⊥

-- a weight more, which is that of the pair of each row that says this; all before was fine
pub record AddsWeight (old new : Found) (says : AttributeIn) : Type 0 where
  pub fine : old.fine ≡ true
  pub weight : ℕ
  pub pushed : new.weights.items ≡ old.weights.items ++ weight ∷ []
  pub is : WeighsPair says weight
