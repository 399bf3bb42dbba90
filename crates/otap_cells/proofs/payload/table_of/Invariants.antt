use Rattle.std.proofs.Common.{◌≡◌, drop, find, pos}
use Rattle.std.specs.Ordering.{int_eq}
use Rattle.otap_cells.specs.Payload.{number_of, kind_numbered}
use Rattle.otap_cells.proofs.payload.table_of.Given as goal

abbrev pub invariant-kinds : goal.invariant-kinds
invariant-kinds l = find (λ kind. int_eq (pos (number_of kind)) l.kind) (drop l.known-index l.known-items) ≡ kind_numbered l.fn.signal l.kind
