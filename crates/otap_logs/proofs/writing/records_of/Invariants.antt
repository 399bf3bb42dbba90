use Rattle.std.proofs.Common.{◌≡◌, ◌++◌, drop, map}
use Rattle.otap_logs.proofs.writing.records_of.Given as goal

abbrev pub invariant-rows : goal.invariant-rows
invariant-rows l = map (λ log. log.now) l.found.items ++ map (λ row. row.item.now) (drop l.row-index l.rows) ≡ map (λ row. row.item.now) l.rows
