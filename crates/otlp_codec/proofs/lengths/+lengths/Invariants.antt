use Rattle.std.proofs.Common.{◌≡◌, ◌≤◌, ◌+◌, ◌^◌, min, drop, length}
use Rattle.std.specs.Prelude.{map}
use Rattle.otlp_messages.specs.Canon.{canon_row, many_row}
use Rattle.otlp_codec.specs.Canonical.{canon_value, canon_pair}
use Rattle.otlp_codec.proofs.lengths.+lengths.Given as goal

abbrev pub invariant-len_members-loop-member : goal.invariant-len_members-loop-member
invariant-len_members-loop-member l = record {
  sum : min (l.total + length (canon_row 1 (many_row (map canon_value (drop l.member-index l.members))))) (2 ^ 63)
      ≡ min (length (canon_row 1 (many_row (map canon_value l.members)))) (2 ^ 63);
  capped : l.total ≤ 2 ^ 63;
}

abbrev pub invariant-len_pairs-loop-pair : goal.invariant-len_pairs-loop-pair
invariant-len_pairs-loop-pair l = record {
  sum : min (l.total + length (canon_row l.number (many_row (map canon_pair (drop l.pair-index l.pairs))))) (2 ^ 63)
      ≡ min (length (canon_row l.number (many_row (map canon_pair l.pairs)))) (2 ^ 63);
  capped : l.total ≤ 2 ^ 63;
}
