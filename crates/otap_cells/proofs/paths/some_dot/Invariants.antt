use Rattle.std.proofs.Common.{◌≡◌, map, drop}
use Rattle.std.specs.List.{list_any}
use Rattle.otap_cells.specs.Columns.{has_dot}
use Rattle.otap_cells.proofs.paths.some_dot.Given as goal

abbrev pub invariant-names : goal.invariant-names
invariant-names l = list_any has_dot (map (λ name. name.now) (drop l.name-index l.path)) ≡ list_any has_dot (map (λ name. name.now) l.path)
