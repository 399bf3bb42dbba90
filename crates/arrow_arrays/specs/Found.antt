-- How an array without a fault is found, by the indexes of its buffers, before anything is said of its bytes: used in private contracts.
use Rattle.std.specs.Prelude.{◌≡◌, ℕ, ◌+◌, ◌*◌, ◌<◌, min, List, [], slice_get, Option, Some, None, Result, Ok, Err, unwrap_or, IsSome}
use Rattle.arrow_buffers.specs.declared.fault.BufferFault.{BufferFault}
use Rattle.arrow_buffers.specs.Bits.{is_valid}
use Rattle.arrow_buffers.specs.Columns.{bit_byte}
use Rattle.arrow_ipc.specs.Batches.{BatchIn}
use Rattle.arrow_arrays.specs.declared.layout.Layout.{Layout}
use Rattle.arrow_arrays.specs.declared.layout.Layout.TheVariants as layout
use Rattle.arrow_arrays.specs.declared.place.ArrayPlace.{ArrayPlace}
use Rattle.arrow_arrays.specs.declared.column.ColumnView.{ColumnView}
use Rattle.arrow_arrays.specs.declared.spec.ArraySpec.{ArraySpec}
use Rattle.arrow_arrays.specs.Layouts.{element_len}
use Rattle.arrow_arrays.specs.Cells.{rows_in, own_cell}
use Rattle.arrow_arrays.specs.Arrays.{cell_within}
use Rattle.arrow_arrays.specs.Views.{part_between, span_between, value_seen, cell_seen}

-- a number, or 0 where there is none
abbrev pub or_zero : Result ℕ BufferFault → ℕ
or_zero (Ok n) = n
or_zero (Err e) = 0

abbrev pub rows_at : BatchIn → ArrayPlace → ℕ
rows_at batch a = or_zero (rows_in batch a)

-- a buffer, or no bytes where there is none
abbrev pub bytes_at : BatchIn → ℕ → List ℕ
bytes_at batch place = unwrap_or (slice_get batch.buffers place) []

-- a row's value, by the buffers from an index on
abbrev pub value_by_buffers : BatchIn → ℕ → Layout → ℕ → Option (List ℕ)
value_by_buffers batch place layout.Struct row = Some []
value_by_buffers batch place layout.Bits row = Some (bit_byte (is_valid (bytes_at batch place) row))
value_by_buffers batch place (layout.Fixed width) row = part_between (bytes_at batch place) (row * width) ((row + 1) * width)
value_by_buffers batch place layout.Binary row = span_between (bytes_at batch place) (bytes_at batch (place + 1)) 1 row
value_by_buffers batch place layout.Text row = span_between (bytes_at batch place) (bytes_at batch (place + 1)) 1 row
value_by_buffers batch place layout.List row = span_between (bytes_at batch place) (bytes_at batch (place + 2)) element_len row

-- a column without rows
pub record IsEmpty (v : ColumnView) : Type 0 where
  pub cells : (row : ℕ) → cell_seen v row ≡ None
  pub rows : v.rows ≡ 0
  pub own : v.own.now ≡ []
  pub above : v.above.now ≡ []
  pub top : v.top.now ≡ []

-- a column below a struct, whose bitmaps come after its own
pub record IsBelow (outer inner v : ColumnView) : Type 0 where
  pub rows : v.rows ≡ min inner.rows outer.rows
  pub own : v.own.now ≡ inner.own.now
  pub above : v.above.now ≡ outer.own.now
  pub top : v.top.now ≡ outer.above.now
  pub stored : v.stored ≡ inner.stored

-- each row has a value
abbrev pub IsFull : ColumnView → Type 0
IsFull v = (row : ℕ) → row < v.rows → IsSome (value_seen v.stored row)

-- a column of an array's own cells: no bitmap of a struct above
pub record Finds (batch : BatchIn) (a : ArrayPlace) (v : ColumnView) : Type 0 where
  pub cells : (row : ℕ) → cell_seen v row ≡ own_cell batch a row
  pub full : IsFull v
  pub above : v.above.now ≡ []
  pub top : v.top.now ≡ []

-- a column of the cells of an array at most so deep: with at most one bitmap for each struct above
pub record FindsWithin (depth : ℕ) (arrays : List ArraySpec) (batch : BatchIn) (place : ℕ) (v : ColumnView) : Type 0 where
  pub cells : (row : ℕ) → cell_seen v row ≡ cell_within depth arrays batch place row
  pub full : IsFull v
  pub own : depth < 1 → v.own.now ≡ []
  pub above : depth < 2 → v.above.now ≡ []
  pub top : depth < 3 → v.top.now ≡ []
