use Rattle.std.proofs.Common.{◌≡◌, ◌++◌, take}
use Rattle.cbor_values.proofs.strings.append_octets.Given as goal

abbrev pub invariant-loop-byte : goal.invariant-loop-byte
invariant-loop-byte l = l.octets ≡ l.initial.octets ++ take l.byte-index l.part
