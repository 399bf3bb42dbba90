use Rattle.std.proofs.Common.{◌≡◌, ◌++◌, drop}
use Rattle.otap_gateway.specs.Quoting.{quoted}
use Rattle.otap_gateway.proofs.texts.quoting.push_escaping.Given as goal

abbrev pub invariant-loop-byte : goal.invariant-loop-byte
invariant-loop-byte l = l.out.items ++ quoted (drop l.byte-index l.text) ≡ l.fn.out.items ++ quoted l.text
