use Rattle.std.proofs.Common.{◌≡◌, ◌≤◌, ◌+◌, ◌^◌, min, drop, length}
use Rattle.std.specs.Prelude.{map}
use Rattle.otlp_messages.specs.Canon.{canon_row, many_row}
use Rattle.otlp_codec.proofs.lengths.len_more.Given as goal

abbrev pub invariant-loop-part : goal.invariant-loop-part
invariant-loop-part g l = record {
  sum : min (l.total + length (canon_row l.number (many_row (map g.P.Spelled.spelled (drop l.part-index l.parts))))) (2 ^ 63)
      ≡ min (length (canon_row l.number (many_row (map g.P.Spelled.spelled l.parts)))) (2 ^ 63);
  capped : l.total ≤ 2 ^ 63;
}
