use Rattle.std.proofs.Common.{◌≡◌, ℕ, ◌<◌, length, get_or}
use Rattle.otap_columns.specs.declared.reader.resolved.ResolvedColumn.{ResolvedColumn}
use Rattle.otap_columns.specs.Resolved.{IsColumn}
use Rattle.otap_columns.proofs.reader.view.RowsView.new.Given as goal

abbrev pub invariant-columns : goal.invariant-columns
invariant-columns l = record {
  long : length l.found ≡ 25;
  columns : (k : ℕ) (d : ResolvedColumn) → k < l.column → IsColumn l.reader.kind l.reader.substream l.batch k (get_or l.found k d);
}
