use Rattle.std.proofs.Common.{◌≡◌, ◌++◌, length}
use Rattle.otap_gateway.specs.Rows.{elements}
use Rattle.otap_gateway.specs.RowsInside.{after_commas}
use Rattle.otap_gateway.proofs.texts.rows.push_more.Given as goal

abbrev pub invariant-elements : goal.invariant-elements
invariant-elements l = l.to.items ++ after_commas l.base (elements l.rest) ≡ l.fn.to.items ++ after_commas l.base (elements l.part)

abbrev pub decreases-elements : goal.decreases-elements
decreases-elements l = length l.rest
