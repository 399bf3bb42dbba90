-- Columns of cells, as arrays of a batch.
use Rattle.std.specs.Prelude.{◌≡◌, ℕ, ◌+◌, ◌*◌, ◌≤◌, ⊤, true, ℤ, pos, List, [], length, slice_get, Option, None, Some, Ok}
use Rattle.std.specs.List.{list_all}
use Rattle.arrow_buffers.specs.declared.width.Width.{Width}
use Rattle.arrow_buffers.specs.declared.width.Width.TheVariants as width
use Rattle.arrow_buffers.specs.Bits.{validity_of}
use Rattle.arrow_buffers.specs.Vars.{is_text}
use Rattle.arrow_buffers.specs.Columns.{HasNoFault}
use Rattle.arrow_ipc.specs.Batches.{BatchIn}
use Rattle.arrow_arrays.specs.declared.layout.Layout.{Layout}
use Rattle.arrow_arrays.specs.declared.layout.Layout.TheVariants as layout
use Rattle.arrow_arrays.specs.declared.place.ArrayPlace.{ArrayPlace}
use Rattle.arrow_arrays.specs.Layouts.{element_len}
use Rattle.arrow_arrays.specs.Cells.{rows_in}

-- how a column is stored whose array has a layout
abbrev pub stored_width : Layout → Option Width
stored_width layout.Struct = None
stored_width layout.Bits = Some width.Bit
stored_width (layout.Fixed n) = Some (width.Fixed n)
stored_width layout.Binary = Some width.Var
stored_width layout.Text = Some width.Var
stored_width layout.List = Some (width.List element_len)

-- the elements of lists are the array of this node and this first buffer, and none of them is null
pub record AreElements (batch : BatchIn) (place buffer : ℕ) (values : List ℕ) : Type 0 where
  pub count : ℕ
  pub len : length values ≡ count * element_len
  pub node : slice_get batch.nodes place ≡ Some (pos count, pos 0)
  pub bitmap : slice_get batch.buffers buffer ≡ Some []
  pub stand : slice_get batch.buffers (buffer + 1) ≡ Some values

-- the buffers of an array hold the values of a column, after their offsets where they have them
abbrev pub StandAt : BatchIn → ArrayPlace → Width → List ℕ → List ℕ → Type 0
StandAt batch a width.Bit offsets values = slice_get batch.buffers (a.buffer + 1) ≡ Some values
StandAt batch a (width.Fixed n) offsets values = (1 ≤ n) × (slice_get batch.buffers (a.buffer + 1) ≡ Some values)
StandAt batch a width.Var offsets values = (slice_get batch.buffers (a.buffer + 1) ≡ Some offsets) × (slice_get batch.buffers (a.buffer + 2) ≡ Some values)
StandAt batch a (width.List n) offsets values = (slice_get batch.buffers (a.buffer + 1) ≡ Some offsets) × AreElements batch (a.node + 1) (a.buffer + 2) values

-- a batch holds a column of some rows, without a fault, as this array
pub record HoldsColumn (batch : BatchIn) (a : ArrayPlace) (width : Width) (rows : ℕ) (validity offsets values : List ℕ) : Type 0 where
  pub layout : stored_width a.layout ≡ Some width
  pub counted : rows_in batch a ≡ Ok rows
  pub nulls : ℤ
  pub node : slice_get batch.nodes a.node ≡ Some (pos rows, nulls)
  pub bitmap : slice_get batch.buffers a.buffer ≡ Some validity
  pub valid : validity_of validity rows nulls ≡ Ok (record { bytes = validity; rows = rows })
  pub stand : StandAt batch a width offsets values
  pub fine : HasNoFault width offsets values rows

-- where an array is to hold texts, the cells are UTF-8
abbrev pub AreTexts : Layout → List (Option (List ℕ)) → Type 0
AreTexts layout.Text cells = list_all is_text cells ≡ true
AreTexts other cells = ⊤
