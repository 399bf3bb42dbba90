use Rattle.std.proofs.Common.{◌≡◌, ◌≤◌, take, drop}
use Rattle.otap_columns.proofs.HeadsTaken.{all_some}
use Rattle.otap_columns.proofs.writer.batches.values_column.Given as goal

abbrev pub invariant-values : goal.invariant-values
invariant-values l = (l.fn.from ≤ l.place) × (l.column ≡ record { width = l.fn.width; cells = all_some (drop l.fn.from (take l.place l.fn.ladder.values)) })
