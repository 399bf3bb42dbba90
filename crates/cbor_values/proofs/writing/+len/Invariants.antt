use Rattle.std.proofs.Common.{◌≡◌, ◌+◌, ◌≤◌, ◌^◌, min, drop}
use Rattle.cbor_values.specs.Written.{cbor_of}
use Rattle.cbor_values.specs.Lengths.{cbor_of_pair, lengths}
use Rattle.cbor_values.proofs.writing.+len.Given as goal

abbrev pub invariant-len_members-loop-member : goal.invariant-len_members-loop-member
invariant-len_members-loop-member l = record {
  capped : l.total ≤ 2 ^ 63;
  len : min (l.total + lengths cbor_of (drop l.member-index l.members)) (2 ^ 63) ≡ min (lengths cbor_of l.members) (2 ^ 63);
}

abbrev pub invariant-len_pairs-loop-pair : goal.invariant-len_pairs-loop-pair
invariant-len_pairs-loop-pair l = record {
  capped : l.total ≤ 2 ^ 63;
  len : min (l.total + lengths cbor_of_pair (drop l.pair-index l.pairs)) (2 ^ 63) ≡ min (lengths cbor_of_pair l.pairs) (2 ^ 63);
}
