-- How many bytes the cells of a column have at most.
use Rattle.std.proofs.Common.{◌≡◌, ℕ, suc, ◌+◌, ◌-◌, ◌*◌, ◌<◌, ◌≤◌, Bool, true, false, List, [], ◌∷◌, length, get_or, take, drop, Option, Some, None, refl, sym, ap, inl, inr, arith}
use Rattle.std.specs.Prelude.{All, sum_by}
use Rattle.std.specs.List.{slice_index_or}
use Rattle.std.proofs.lemmas.Bool.{cases_lt}
use Rattle.std.proofs.lemmas.List.{length-take}
use Rattle.std.proofs.lemmas.List.Sums.{sum_by-cons}
use Rattle.arrow_buffers.specs.Columns.{cell_len}
use Rattle.otap_cells.specs.declared.profile.Base.{Base}
use Rattle.otap_cells.specs.declared.profile.Base.TheVariants as base
use Rattle.otap_cells.specs.Cells.{Cell, null}
use Rattle.otap_cells.specs.Tables.{Table, cell_in, column_in}
use Rattle.otap_cells.specs.Weights.{cell_weight}
use Rattle.otap_columns.specs.declared.reader.ends.End.{End}
use Rattle.otap_columns.specs.declared.reader.resolved.ResolvedColumn.{ResolvedColumn}
use Rattle.otap_columns.specs.Ends.{value_between, values_by_ends, start_of, AreEnds}
use Rattle.otap_columns.specs.Known.{stored, stored_cell}
use Rattle.otap_columns.specs.Resolved.{resolved_value, AtMost, ShowsColumn}
use Rattle.otap_columns.proofs.Lying.{IsThere, value_there, none_there}

-- ---- the values of a dictionary

between_len : (bytes : List ℕ) (from longest : ℕ) (e : End) (there : Bool) → e.there ≡ there → e.place ≤ from + longest → cell_len (value_between bytes from e) ≤ longest
between_len bytes from longest e true is short =
    let size : length (take (e.place - from) (drop from bytes)) ≤ longest = omega (arith, length-take (e.place - from) (drop from bytes), short) in
    rw is size
between_len bytes from longest e false is short = rw is (omega arith)

-- none is longer than its end says
pub value_len : (bytes : List ℕ) (ends : List End) (longest place : ℕ) → AreEnds 0 ends (length bytes) → All (λ e. e.place ≤ e.from + longest) ends
    → cell_len (slice_index_or (values_by_ends bytes 0 ends) place None) ≤ longest
value_len bytes ends longest place are short =
    let gone : End = record { from = 0; place = 0; there = false } in
    elim (cases_lt place (length ends)) [
      | inl below ↦
          let t : IsThere bytes 0 ends place (length bytes) (get_or ends place gone) = value_there bytes 0 ends place (length bytes) gone are below in
          let e : (get_or ends place gone).place ≤ start_of 0 ends place + longest = omega (arith, short place gone below, t.begins) in
          omega (arith, ap cell_len t.is, between_len bytes (start_of 0 ends place) longest (get_or ends place gone) (get_or ends place gone).there refl e)
      | inr past ↦ omega (arith, ap cell_len (none_there bytes 0 ends place past))
    ]

-- ---- the cells of a column

stored_weight : (holds : Base) (value : List ℕ) → cell_weight (stored holds value) ≤ length value
stored_weight base.U8 value = omega arith
stored_weight base.U16 value = omega arith
stored_weight base.U32 value = omega arith
stored_weight base.U64 value = omega arith
stored_weight base.I32 value = omega arith
stored_weight base.I64 value = omega arith
stored_weight base.Double value = omega arith
stored_weight base.Bool value = omega arith
stored_weight base.Utf8 value = omega arith
stored_weight base.Binary value = omega arith
stored_weight base.Fixed16 value = omega arith
stored_weight base.Fixed8 value = omega arith
stored_weight base.Timestamp value = omega arith
stored_weight base.Duration value = omega arith
stored_weight base.ListU64 value = omega arith
stored_weight base.ListF64 value = omega arith
stored_weight (base.Id wide) value = omega arith

cell_at_most : (holds : Base) (value : Option (List ℕ)) → cell_weight (stored_cell holds value) ≤ cell_len value
unfolding stored_cell
cell_at_most holds None = omega arith
cell_at_most holds (Some value) = stored_weight holds value

sum_at_most : (rows : List (List Cell)) (column each : ℕ) → ((row : ℕ) → row < length rows → cell_weight (cell_in rows column row) ≤ each)
    → sum_by cell_weight (column_in rows column) ≤ length rows * each
sum_at_most [] column each short = omega arith
sum_at_most (row ∷ rows) column each short =
    let first : cell_weight (slice_index_or row column null) ≤ each = short 0 (omega arith) in
    let rest = sum_at_most rows column each (λ k below. short (suc k) (omega (arith, below))) in
    omega (arith, first, rest, sum_by-cons cell_weight (slice_index_or row column null) (column_in rows column))

-- they have as many as the column says
pub column_at_most : (t : Table) (column rows most : ℕ) (c : ResolvedColumn) → ShowsColumn t column c → rows ≡ length t.rows → AtMost c rows most
    → sum_by cell_weight (column_in t.rows column) ≤ most
column_at_most t column rows most c shows count limit =
    let cell : (row : ℕ) → row < length t.rows → cell_weight (cell_in t.rows column row) ≤ limit.each =
    λ row below. omega (arith, ap cell_weight (shows.cells row below), cell_at_most c.base (resolved_value c row), limit.bytes row) in
    let same : length t.rows * limit.each ≡ rows * limit.each = ap (λ n. n * limit.each) (sym count) in
    omega (arith, sum_at_most t.rows column limit.each cell, same, limit.all)
