use Rattle.std.proofs.Common.{◌≡◌, ◌++◌, length}
use Rattle.hex.specs.Hex.{encode_lower}
use Rattle.otap_gateway.proofs.texts.rows.push_hex.Given as goal

abbrev pub invariant-parts : goal.invariant-parts
invariant-parts l = l.to.items ++ encode_lower l.rest ≡ l.fn.to.items ++ encode_lower l.part

abbrev pub decreases-parts : goal.decreases-parts
decreases-parts l = length l.rest
