-- Columns that are found once.
use Rattle.std.proofs.Common.{◌≡◌, ℕ, ◌+◌, ◌<◌, true, List, length, get_or, set, Option, Some, None, IsOk, refl, sym, ap, ◌∙◌, subst, arith, inl, inr}
use Rattle.std.specs.Prelude.{All}
use Rattle.std.specs.Option.{ForSome}
use Rattle.std.proofs.lemmas.Bool.{cases_eq}
use Rattle.std.proofs.lemmas.List.{get_or-set_same, get_or-set_other}
use Rattle.arrow_ipc.specs.Batches.{BatchIn}
use Rattle.arrow_arrays.specs.Arrays.{arrays_check}
use Rattle.otap_cells.specs.declared.payload.Kind.{Kind}
use Rattle.otap_cells.specs.Columns.{base_at, width_of}
use Rattle.otap_cells.specs.declared.profile.Base.{Base}
use Rattle.otap_cells.specs.Tables.{Table, IsTable, cell_in}
use Rattle.otap_columns.specs.declared.reader.resolved.ResolvedColumn.{ResolvedColumn}
use Rattle.otap_columns.specs.Known.{place_at, columns_fit, stored_cell}
use Rattle.otap_columns.specs.Resolved.{FitsBase, resolved_value, IsResolved, IsFieldColumn, IsColumn, ShowsColumn}
use Rattle.otap_columns.specs.Steps.{FitsIn}
use Rattle.otap_columns.specs.Substreams.{SubstreamIn, column_cell, table_of_batch}
use Rattle.otap_columns.proofs.Placed.{column_value_is}
use Rattle.otap_columns.proofs.Showing.{column_value_fits}
use Rattle.otap_columns.proofs.Tabled.{same_kind, shows, holds}

-- ---- the column of a table

module _ (kind : Kind) (s : SubstreamIn) (batch : BatchIn) (types : columns_fit kind s.arrays ≡ true) (all : All FitsIn s.dictionaries) (fine : IsOk (arrays_check batch s.arrays)) where
  pub column_missing : (column : ℕ) (c : ResolvedColumn) → place_at kind s.arrays column ≡ None → ((row : ℕ) → resolved_value c row ≡ None) → IsResolved c
      → c.base ≡ base_at kind column → IsColumn kind s batch column c
  column_missing column c at values resolved base = record {
    values = λ row. values row ∙ column_value_is kind s batch column row None at;
    resolved = resolved;
    base = base;
    fits = λ row. column_value_fits kind s batch types all fine column row;
  }

  pub column_there : (column place : ℕ) (c : ResolvedColumn) → place_at kind s.arrays column ≡ Some place → IsFieldColumn s batch place c
      → c.base ≡ base_at kind column → IsColumn kind s batch column c
  column_there column place c at field base = record {
    values = λ row. field.values row ∙ column_value_is kind s batch column row (Some place) at;
    resolved = field.resolved;
    base = base;
    fits = λ row. column_value_fits kind s batch types all fine column row;
  }

-- ---- all columns of a table

pub one_more_column : (kind : Kind) (s : SubstreamIn) (batch : BatchIn) (found : List ResolvedColumn) (n : ℕ) (c : ResolvedColumn) → n < length found
    → ((k : ℕ) (d : ResolvedColumn) → k < n → IsColumn kind s batch k (get_or found k d)) → IsColumn kind s batch n c
    → (k : ℕ) (d : ResolvedColumn) → k < n + 1 → IsColumn kind s batch k (get_or (set found n c) k d)
one_more_column kind s batch found n c inside before here k d below =
    elim (cases_eq k n) [
      | inl same ↦
          subst (λ (m : ℕ). IsColumn kind s batch m (get_or (set found n c) m d)) (sym same)
          (subst (λ (x : ResolvedColumn). IsColumn kind s batch n x) (sym (get_or-set_same found n c d inside)) here)
      | inr other ↦ subst (λ (x : ResolvedColumn). IsColumn kind s batch k x) (sym (get_or-set_other found n k c d other)) (before k d (omega (arith, below, other)))
    ]

-- a column shows the cells of the table
pub shows_column : (kind : Kind) (s : SubstreamIn) (batch : BatchIn) (t : Table) → table_of_batch kind s batch ≡ t → IsTable (table_of_batch kind s batch) → (column : ℕ) (c : ResolvedColumn)
    → IsColumn kind s batch column c → column < width_of t.kind → ShowsColumn t column c
unfolding column_cell
shows_column kind s batch t is sound column c here in_width = record {
  base = here.base ∙ ap (λ (k : Kind). base_at k column) (same_kind kind s batch t is);
  cells = λ row in_rows. shows kind s batch t is column row (stored_cell c.base (resolved_value c row)) (λ i. stored_cell (here.base i) (here.values row i)) in_width in_rows;
  holds = λ row. holds kind s batch t is sound column row (cell_in t.rows column row) refl;
  fits = λ row.
      subst (λ (b : Base). ForSome (resolved_value c row) (FitsBase b)) (sym here.base)
      (subst (λ (o : Option (List ℕ)). ForSome o (FitsBase (base_at kind column))) (sym (here.values row)) (here.fits row));
  resolved = here.resolved;
}
