-- What a builder keeps while its column grows: used in an invariant and in private contracts.
use Rattle.std.specs.Prelude.{◌≡◌, ℕ, zero, suc, ◌+◌, ◌*◌, ◌/◌, ◌%◌, ◌<◌, ◌≤◌, ⊤, true, is_none, count_by, List, [], ◌∷◌, ◌++◌, length, replicate, Option, None, ◌==◌, Bool, false, slice_index, Some}
use Rattle.std.specs.Option.{ForSome}
use Rattle.arrow_buffers.specs.declared.width.Width.{Width}
use Rattle.arrow_buffers.specs.declared.width.Width.TheVariants.{Bit, Fixed, Var}
use Rattle.arrow_buffers.specs.declared.width.Width.TheVariants as width
use Rattle.arrow_buffers.specs.Limits.{max_rows, max_values}
use Rattle.arrow_buffers.specs.Below.{all_below}
use Rattle.arrow_buffers.specs.Flags.{HasFlags}
use Rattle.arrow_buffers.specs.Offsets.{is_fine_at}
use Rattle.arrow_buffers.specs.Packed.{IsPacked}
use Rattle.arrow_buffers.specs.Columns.{value_at, values_len, ended, ended_offsets, cells_so_far}

-- the offsets of some rows, each fine, into whole elements
pub record HasSpans (element rows : ℕ) (offsets values : List ℕ) : Type 0 where
  pub offsets_len : length offsets ≡ 4 * rows
  pub whole : length values % element ≡ 0
  pub fits : length values < max_values
  pub fine : all_below (is_fine_at element (ended element offsets values) values) (rows + 1) ≡ true

-- how long the values of some rows are where each has the same width
abbrev pub sized_len : Width → ℕ → ℕ
sized_len Bit rows = (rows + 7) / 8
sized_len (Fixed width) rows = rows * width
sized_len Var rows = 0
sized_len (width.List element) rows = 0

-- the buffers have a value for each of the rows
abbrev pub HasValueForEach : Width → ℕ → List ℕ → List ℕ → Type 0
HasValueForEach Bit rows offsets values = (offsets ≡ []) × IsPacked rows values
HasValueForEach (Fixed width) rows offsets values = (offsets ≡ []) × (length values ≡ rows * width)
HasValueForEach Var rows offsets values = HasSpans 1 rows offsets values
HasValueForEach (width.List element) rows offsets values = (1 ≤ element) × HasSpans element rows offsets values

-- offsets can count these bytes, where there are offsets
abbrev pub OffsetsFit : Width → ℕ → Type 0
OffsetsFit Bit len = ⊤
OffsetsFit (Fixed width) len = ⊤
OffsetsFit Var len = len < max_values
OffsetsFit (width.List element) len = (1 ≤ element) × (len < max_values)

-- one more value after those of the rows, which are as they were
pub record PushesValue (width : Width) (rows : ℕ) (cell : Option (List ℕ)) (offsets values new_offsets new_values : List ℕ) : Type 0 where
  pub stored : HasValueForEach width (rows + 1) new_offsets new_values
  pub before : (k : ℕ) → k < rows → value_at width (ended_offsets width new_offsets new_values) new_values k ≡ value_at width (ended_offsets width offsets values) values k
  pub there : ForSome cell (λ value. value_at width (ended_offsets width new_offsets new_values) new_values rows ≡ value)
  pub grown : (cells : List (Option (List ℕ))) → length cells ≡ rows → length values ≡ values_len width cells → length new_values ≡ values_len width (cells ++ cell ∷ [])

-- what is stored for nulls, after the values of the rows, which are as they were
pub record PushesNulls (width : Width) (rows count : ℕ) (offsets values new_offsets new_values : List ℕ) : Type 0 where
  pub stored : HasValueForEach width (rows + count) new_offsets new_values
  pub before : (k : ℕ) → k < rows → value_at width (ended_offsets width new_offsets new_values) new_values k ≡ value_at width (ended_offsets width offsets values) values k
  pub grown : (cells : List (Option (List ℕ))) → length cells ≡ rows → length values ≡ values_len width cells → length new_values ≡ values_len width (cells ++ replicate count None)

-- the offsets of some more values, each without elements
abbrev pub ended_times : ℕ → ℕ → List ℕ → List ℕ → List ℕ
ended_times element zero offsets values = offsets
ended_times element (suc n) offsets values = ended element (ended_times element n offsets values) values

-- all of them together
pub record IsBuilt (width : Width) (rows nulls : ℕ) (validity offsets values : List ℕ) : Type 0 where
  pub few : rows < max_rows
  pub flags : HasFlags nulls rows validity
  pub stored : HasValueForEach width rows offsets values
  pub lengths : length values ≡ values_len width (cells_so_far width validity offsets values rows)
  pub counted : nulls ≡ count_by is_none (cells_so_far width validity offsets values rows)

-- whether a value is the bit 1
abbrev pub is_one : Option (List ℕ) → Bool
is_one None = false
is_one (Some value) = slice_index value 0 == 1
