-- The column that is found has the cells of the definition.
use Rattle.std.proofs.Common.{◌≡◌, ℕ, ◌+◌, ◌-◌, ◌*◌, ◌<◌, ◌≤◌, nat_lt, nat_le, ◌&&◌, Bool, List, [], ◌++◌, length, take, drop, slice_range, Option, Some, None, option_map, Result, Ok}
use Rattle.std.proofs.Common.{IsOk, is_some, if◌then◌else◌, refl, sym, ap, ◌∙◌, subst, inl, inr, arith}
use Rattle.std.proofs.lemmas.Bool.{cases_lt, lt-ltb, le-ltb, le-leb, and_from}
use Rattle.std.proofs.Math.Bool.{and-true}
use Rattle.std.proofs.lemmas.List.{length-append, take-append-drop, take_all}
use Rattle.std.proofs.Math.Nat.{mul-le-mul_right}
use Rattle.arrow_buffers.specs.declared.fault.BufferFault.{BufferFault}
use Rattle.arrow_buffers.specs.Bits.{BitsIn, is_valid, flag_of}
use Rattle.arrow_buffers.specs.Columns.{bit_byte}
use Rattle.arrow_buffers.specs.Fixed.{part_of}
use Rattle.arrow_buffers.specs.Offsets.{offset_at, offsets_check, span_at}
use Rattle.arrow_buffers.specs.Vars.{row_span}
use Rattle.arrow_buffers.specs.Lists.{elements_of}
use Rattle.arrow_buffers.proofs.Spans.{span-fits}
use Rattle.arrow_buffers.proofs.Placing.{slice_range-append}
use Rattle.arrow_buffers.proofs.CellLaws.{where-some}
use Rattle.arrow_ipc.specs.Batches.{BatchIn}
use Rattle.arrow_arrays.specs.declared.layout.Layout.{Layout}
use Rattle.arrow_arrays.specs.declared.layout.Layout.TheVariants as layout
use Rattle.arrow_arrays.specs.declared.place.ArrayPlace.{ArrayPlace}
use Rattle.arrow_arrays.specs.declared.view.RowValues.{RowValues}
use Rattle.arrow_arrays.specs.declared.view.RowValues.TheVariants.{Nothing}
use Rattle.arrow_arrays.specs.declared.view.ArrayView.{ArrayView}
use Rattle.arrow_arrays.specs.declared.column.ColumnView.{ColumnView}
use Rattle.arrow_arrays.specs.Layouts.{element_len}
use Rattle.arrow_arrays.specs.Cells.{values_by, array_in, value_in, cell_in, cell_if, own_cell}
use Rattle.arrow_arrays.specs.Views.{part_between, span_between, value_seen, is_there, cell_seen}
use Rattle.arrow_arrays.specs.Found.{or_zero, rows_at, bytes_at, value_by_buffers, Finds}
use Rattle.arrow_arrays.proofs.Checked.{ok_value}
use Rattle.arrow_arrays.proofs.Parts.{none, some, array_is, valid_is, bits_are, fixed_are, vars_are, lists_are}

-- ---- a row's value

-- a row has a value, and it is the one that is found
record HasValue (seen read : Option (List ℕ)) : Type 0 where
  value : List ℕ
  found : seen ≡ Some value
  given : read ≡ Some value

pub part_found : (bytes : List ℕ) (start end : ℕ) → start ≤ end → end ≤ length bytes → part_between bytes start end ≡ Some (slice_range bytes start end)
part_found bytes start end order within =
    rw (and_from (nat_le start end) (nat_le end (length bytes)) (le-leb start end order) (le-leb end (length bytes) within)) refl

fixed_value : (bytes : List ℕ) (width rows row : ℕ) → row < rows → rows * width ≤ length bytes
    → HasValue (part_between bytes (row * width) ((row + 1) * width)) (part_of (record { bytes = bytes; width = width; rows = rows }) row)
unfolding part_of
fixed_value bytes width rows row below enough =
    let next : (row + 1) * width ≤ rows * width = mul-le-mul_right width (omega arith) in
    let long : (row + 1) * width - row * width ≡ width = omega arith in
    record {
      value = slice_range bytes (row * width) ((row + 1) * width);
      found = part_found bytes (row * width) ((row + 1) * width) (omega arith) (omega (arith, next, enough));
      given = rw (lt-ltb row rows below, long) refl;
    }

nothing_value : (bytes : List ℕ) (width row : ℕ) → width ≡ 0 → HasValue (part_between bytes (row * width) ((row + 1) * width)) (Some [])
nothing_value bytes width row is =
    let start : row * width ≡ 0 = rw is (omega arith) in
    let end : (row + 1) * width ≡ 0 = rw is (omega arith) in
    record { value = []; found = rw (start, end) (part_found bytes 0 0 (omega arith) (omega arith)); given = refl }

-- a span of the values that were checked is one of all
front_slice : (values front : List ℕ) (len a b : ℕ) → len ≤ length values → take len values ≡ front → a ≤ b → b ≤ length front → (b ≤ length values) × (slice_range values a b ≡ slice_range front a b)
front_slice values front len a b enough is order within =
    let split : take len values ++ drop len values ≡ values = take-append-drop len values in
    let whole : front ++ drop len values ≡ values = ap (λ (xs : List ℕ). xs ++ drop len values) (sym is) ∙ split in
    let long : length values ≡ length front + length (drop len values) = ap length (sym whole) ∙ length-append front (drop len values) in
    (omega (arith, long, within), ap (λ (xs : List ℕ). slice_range xs a b) (sym whole) ∙ slice_range-append front (drop len values) a b order within)

-- offsets without a fault lead to a span of the values, of which a front was checked
span_found : (offsets values front : List ℕ) (width rows row len : ℕ) → row < rows → len ≤ length values → take len values ≡ front → IsOk (offsets_check width offsets front rows)
    → span_between offsets values width row ≡ Some (span_at width offsets front row)
span_found offsets values front width rows row len below enough is fine =
    let fits = span-fits width offsets front rows row below fine in
    let a = offset_at offsets row * width in
    let b = offset_at offsets (row + 1) * width in
    let order : a ≤ b = mul-le-mul_right width fits.order in
    let slice = front_slice values front len a b enough is order fits.within in
    rw (le-leb (4 * (row + 2)) (length offsets) fits.there)
    (part_found values a b order slice.0 ∙ ap (λ (xs : List ℕ). Some xs) slice.1)

vars_value : (offsets values : List ℕ) (rows row : ℕ) → row < rows → IsOk (offsets_check 1 offsets values rows)
    → HasValue (span_between offsets values 1 row) (row_span (record { offsets = offsets; values = values; rows = rows }) row)
unfolding row_span
vars_value offsets values rows row below fine = record {
  value = span_at 1 offsets values row;
  found = span_found offsets values values 1 rows row (length values) below (omega arith) (take_all (length values) values (omega arith)) fine;
  given = rw (lt-ltb row rows below) refl;
}

lists_value : (offsets values front : List ℕ) (rows row len : ℕ) → row < rows → len ≤ length values → take len values ≡ front → IsOk (offsets_check element_len offsets front rows)
    → HasValue (span_between offsets values element_len row) (elements_of (record { offsets = offsets; values = front; width = element_len; rows = rows }) row)
unfolding elements_of
lists_value offsets values front rows row len below enough is fine = record {
  value = span_at element_len offsets front row;
  found = span_found offsets values front element_len rows row len below enough is fine;
  given = rw (lt-ltb row rows below) refl;
}

-- the value of a row that is there
value_found : (kind : Layout) (batch : BatchIn) (a : ArrayPlace) (rows row : ℕ) (values : RowValues) → values_by batch rows a kind ≡ Ok values → row < rows
    → HasValue (value_by_buffers batch (a.buffer + 1) kind row) (value_in values row)
unfolding flag_of row_span elements_of
value_found layout.Struct batch a rows row values is below =
    let e : Nothing ≡ values = cc (is) in
    record { value = []; found = refl; given = ap (λ (v : RowValues). value_in v row) (sym e) }
value_found layout.Bits batch a rows row values is below =
    let bytes = bytes_at batch (a.buffer + 1) in
    let e = bits_are batch rows (a.buffer + 1) values is in
    let flag : flag_of (record { bytes = bytes; rows = rows }) row ≡ Some (is_valid bytes row) = rw (lt-ltb row rows below) refl in
    record {
      value = bit_byte (is_valid bytes row);
      found = refl;
      given = ap (λ (v : RowValues). value_in v row) (sym e) ∙ ap (λ (f : Option Bool). option_map bit_byte f) flag;
    }
value_found (layout.Fixed width) batch a rows row values is below =
    let bytes = bytes_at batch (a.buffer + 1) in
    elim (fixed_are batch rows (a.buffer + 1) width values is) [
      | none zero_wide e ↦ subst (λ (v : RowValues). HasValue (part_between bytes (row * width) ((row + 1) * width)) (value_in v row)) e (nothing_value bytes width row zero_wide)
      | some enough e ↦ subst (λ (v : RowValues). HasValue (part_between bytes (row * width) ((row + 1) * width)) (value_in v row)) e (fixed_value bytes width rows row below enough)
    ]
value_found layout.Binary batch a rows row values is below =
    let v = vars_are batch rows (a.buffer + 1) values is in
    let offsets = bytes_at batch (a.buffer + 1) in
    let texts = bytes_at batch (a.buffer + 1 + 1) in
    subst (λ (w : RowValues). HasValue (span_between offsets texts 1 row) (value_in w row)) v.are (vars_value offsets texts rows row below v.fine)
value_found layout.Text batch a rows row values is below =
    let v = vars_are batch rows (a.buffer + 1) values is in
    let offsets = bytes_at batch (a.buffer + 1) in
    let texts = bytes_at batch (a.buffer + 1 + 1) in
    subst (λ (w : RowValues). HasValue (span_between offsets texts 1 row) (value_in w row)) v.are (vars_value offsets texts rows row below v.fine)
value_found layout.List batch a rows row values is below =
    let l = lists_are batch rows a values is in
    let offsets = bytes_at batch (a.buffer + 1) in
    let bytes = bytes_at batch (a.buffer + 1 + 2) in
    subst (λ (w : RowValues). HasValue (span_between offsets bytes element_len row) (value_in w row)) l.are (lists_value offsets bytes l.elements rows row l.len below l.enough l.front l.fine)

-- ---- a row's cell

-- without structs above, a row is there by its own bitmap
alone : (v : ColumnView) (row : ℕ) → v.above.now ≡ [] → v.top.now ≡ [] → is_there v row ≡ (nat_lt row v.rows && is_valid v.own.now row)
unfolding is_there
alone v row above top =
    rw (above, top) (ap (λ (b : Bool). nat_lt row v.rows && b) (and-true (is_valid v.own.now row)))

-- the column of an array that can be read
pub record IsOwn (batch : BatchIn) (a : ArrayPlace) (v : ColumnView) : Type 0 where
  pub rows : v.rows ≡ rows_at batch a
  pub own : v.own.now ≡ bytes_at batch a.buffer
  pub above : v.above.now ≡ []
  pub top : v.top.now ≡ []
  pub stored : (row : ℕ) → value_seen v.stored row ≡ value_by_buffers batch (a.buffer + 1) a.layout row

-- how a cell is read where the row is there, and where it isn't
cell_read : (bytes : List ℕ) (rows row : ℕ) (values : RowValues) (value : List ℕ) → row < rows → value_in values row ≡ Some value
    → cell_in (record { valid = record { bytes = bytes; rows = rows }; values = values }) row ≡ (if is_valid bytes row then Some value else None)
unfolding flag_of
cell_read bytes rows row values value below is =
    rw (lt-ltb row rows below, is) (where-some (is_valid bytes row) value)

cell_past : (bytes : List ℕ) (rows row : ℕ) (values : RowValues) → rows ≤ row
    → cell_in (record { valid = record { bytes = bytes; rows = rows }; values = values }) row ≡ None
unfolding flag_of
cell_past bytes rows row values past = rw (le-ltb row rows past) refl

own_is : (batch : BatchIn) (a : ArrayPlace) (view : ArrayView) (bits : BitsIn) (row : ℕ) → array_in batch a ≡ Ok view → bits ≡ view.valid
    → own_cell batch a row ≡ cell_in (record { valid = bits; values = view.values }) row
unfolding own_cell
own_is batch a view bits row is valid =
    ap (λ (r : Result ArrayView BufferFault). cell_if r row) is ∙ ap (λ (b : BitsIn). cell_in (record { valid = b; values = view.values }) row) (sym valid)

seen_there : (v : ColumnView) (bytes : List ℕ) (rows row : ℕ) (value : List ℕ) → v.rows ≡ rows → v.own.now ≡ bytes → v.above.now ≡ [] → v.top.now ≡ [] → row < rows → value_seen v.stored row ≡ Some value
    → cell_seen v row ≡ (if is_valid bytes row then Some value else None)
unfolding cell_seen
seen_there v bytes rows row value counted own above top below is =
    rw (alone v row above top, counted, own, lt-ltb row rows below, is) refl

seen_past : (v : ColumnView) (rows row : ℕ) → v.rows ≡ rows → v.above.now ≡ [] → v.top.now ≡ [] → rows ≤ row → cell_seen v row ≡ None
unfolding cell_seen
seen_past v rows row counted above top past = rw (alone v row above top, counted, le-ltb row rows past) refl

-- the column of an array that can be read has the array's cells
pub finds : (batch : BatchIn) (a : ArrayPlace) (v : ColumnView) → IsOk (array_in batch a) → IsOwn batch a v → Finds batch a v
finds batch a v ok own =
    let r = ok_value (array_in batch a) ok in
    let view : ArrayView = r.0 in
    let read = array_is batch a view r.1 in
    let rows = read.rows in
    let bytes = bytes_at batch a.buffer in
    let counted : v.rows ≡ rows = own.rows ∙ ap or_zero read.counted in
    let valid = valid_is batch rows a.node a.buffer view.valid read.valid in
    record {
      cells = λ row.
          elim (cases_lt row rows) [
            | inl below ↦
                let found = value_found a.layout batch a rows row view.values read.values below in
                seen_there v bytes rows row found.value counted own.own own.above own.top below (own.stored row ∙ found.found)
                ∙ sym (own_is batch a view (record { bytes = bytes; rows = rows }) row r.1 valid ∙ cell_read bytes rows row view.values found.value below found.given)
            | inr past ↦
                seen_past v rows row counted own.above own.top past
                ∙ sym (own_is batch a view (record { bytes = bytes; rows = rows }) row r.1 valid ∙ cell_past bytes rows row view.values past)
          ];
      full = λ row below.
          let within : row < rows = omega (arith, below, counted) in
          let found = value_found a.layout batch a rows row view.values read.values within in
          ap (λ (o : Option (List ℕ)). is_some o) (own.stored row ∙ found.found);
      above = own.above;
      top = own.top;
    }
