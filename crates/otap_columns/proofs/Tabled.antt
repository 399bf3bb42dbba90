-- The table of a record batch by its parts.
use Rattle.std.proofs.Common.{◌≡◌, ℕ, ◌<◌, true, length, Some, sym, ap, ◌∙◌, subst}
use Rattle.arrow_ipc.specs.declared.messages.IpcMessage.{IpcMessage}
use Rattle.std.specs.Prelude.{List}
use Rattle.arrow_ipc.specs.Batches.{BatchIn}
use Rattle.otap_cells.specs.declared.payload.Kind.{Kind}
use Rattle.otap_cells.specs.Cells.{Cell, IsCellOf}
use Rattle.otap_cells.specs.declared.profile.Coding.{Coding}
use Rattle.otap_cells.specs.Columns.{base_at, is_id_at, width_of}
use Rattle.otap_cells.specs.Tables.{Table, IsTable, cell_in, coding_in, greatest_in}
use Rattle.otap_cells.proofs.ByPlace.{kind-table_by, count-table_by, rows-table_by, coding-table_by, greatest-table_by, cell_in-rows_by}
use Rattle.otap_columns.specs.Known.{column_coding, column_greatest}
use Rattle.otap_columns.specs.Substreams.{SubstreamIn, substream_in, column_cell, table_of_batch, table_if, last_rows, logical}

pub table_kind : (kind : Kind) (s : SubstreamIn) (batch : BatchIn) → (table_of_batch kind s batch).kind ≡ kind
unfolding table_of_batch
table_kind kind s batch = kind-table_by kind (column_coding kind s.arrays) (column_greatest kind s.arrays) batch.rows (column_cell kind s batch)

pub table_count : (kind : Kind) (s : SubstreamIn) (batch : BatchIn) → length (table_of_batch kind s batch).rows ≡ batch.rows
unfolding table_of_batch
table_count kind s batch = count-table_by kind (column_coding kind s.arrays) (column_greatest kind s.arrays) batch.rows (column_cell kind s batch)

pub table_cell : (kind : Kind) (s : SubstreamIn) (batch : BatchIn) (column row : ℕ) → column < width_of kind → row < batch.rows
    → cell_in (table_of_batch kind s batch).rows column row ≡ column_cell kind s batch column row
unfolding table_of_batch
table_cell kind s batch column row in_width in_rows =
    ap (λ rows. cell_in rows column row) (rows-table_by kind (column_coding kind s.arrays) (column_greatest kind s.arrays) batch.rows (column_cell kind s batch))
    ∙ cell_in-rows_by kind batch.rows (column_cell kind s batch) column row in_width in_rows

pub table_coding : (kind : Kind) (s : SubstreamIn) (batch : BatchIn) (column : ℕ) → is_id_at kind column ≡ true → coding_in (table_of_batch kind s batch) column ≡ column_coding kind s.arrays column
unfolding table_of_batch
table_coding kind s batch column id = coding-table_by kind (column_coding kind s.arrays) (column_greatest kind s.arrays) batch.rows (column_cell kind s batch) column id

pub table_greatest : (kind : Kind) (s : SubstreamIn) (batch : BatchIn) (column : ℕ) → is_id_at kind column ≡ true → greatest_in (table_of_batch kind s batch) column ≡ column_greatest kind s.arrays column
unfolding table_of_batch
table_greatest kind s batch column id = greatest-table_by kind (column_coding kind s.arrays) (column_greatest kind s.arrays) batch.rows (column_cell kind s batch) column id

pub logical_is : (kind : Kind) (messages : List IpcMessage) (s : SubstreamIn) (batch : BatchIn) → substream_in messages ≡ Some s → last_rows messages ≡ Some batch
    → logical kind messages ≡ Some (table_of_batch kind s batch)
unfolding logical
logical_is kind messages s batch stands last = λ i. table_if kind (stands i) (last i)

-- a table that is this one has its kind, rows and cells
module _ (kind : Kind) (s : SubstreamIn) (batch : BatchIn) (t : Table) (is : table_of_batch kind s batch ≡ t) where
  pub same_kind : kind ≡ t.kind
  same_kind = sym (table_kind kind s batch) ∙ ap (λ (u : Table). u.kind) is

  pub same_width : (column : ℕ) → column < width_of t.kind → column < width_of kind
  same_width column below = subst (λ (k : Kind). column < width_of k) (ap (λ (u : Table). u.kind) (sym is) ∙ table_kind kind s batch) below

  pub same_rows : (row : ℕ) → row < length t.rows → row < batch.rows
  same_rows row below = subst (λ (n : ℕ). row < n) (ap (λ (u : Table). length u.rows) (sym is) ∙ table_count kind s batch) below

  pub shows : (column row : ℕ) (x : Cell) → x ≡ column_cell kind s batch column row → column < width_of t.kind → row < length t.rows → x ≡ cell_in t.rows column row
  shows column row x here in_width in_rows =
      here ∙ sym (table_cell kind s batch column row (same_width column in_width) (same_rows row in_rows)) ∙ ap (λ (u : Table). cell_in u.rows column row) is

  pub holds : IsTable (table_of_batch kind s batch) → (column row : ℕ) (x : Cell) → x ≡ cell_in t.rows column row → IsCellOf (base_at t.kind column) x
  holds sound column row x here =
      let all : IsTable t = subst IsTable is sound in
      subst (IsCellOf (base_at t.kind column)) (sym here) (all.fits column row)

  pub same_id : (column : ℕ) → is_id_at t.kind column ≡ true → is_id_at kind column ≡ true
  same_id column id = subst (λ (k : Kind). is_id_at k column ≡ true) (ap (λ (u : Table). u.kind) (sym is) ∙ table_kind kind s batch) id

  pub coded : (column : ℕ) (x : Coding) → x ≡ column_coding kind s.arrays column → is_id_at t.kind column ≡ true → x ≡ coding_in t column
  coded column x here id = here ∙ sym (table_coding kind s batch column (same_id column id)) ∙ ap (λ (u : Table). coding_in u column) is

  pub bounded : (column : ℕ) (x : ℕ) → x ≡ column_greatest kind s.arrays column → is_id_at t.kind column ≡ true → x ≡ greatest_in t column
  bounded column x here id = here ∙ sym (table_greatest kind s batch column (same_id column id)) ∙ ap (λ (u : Table). greatest_in u column) is
