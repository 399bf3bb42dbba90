use Rattle.std.proofs.Common.{◌≡◌, ◌*◌, ◌^◌, ◌<◌, ◌≤◌, take}
use Rattle.otlp_wire.specs.Varint.{sevens, IsFollowed}
use Rattle.otlp_wire.proofs.varint.take_long_varint.Given as goal

abbrev pub invariant-bytes : goal.invariant-bytes
invariant-bytes l = record {
  at_most_nine : l.i ≤ 9;
  goes_on : IsFollowed l.bytes l.i;
  value : l.value ≡ sevens (take l.i l.bytes);
  below : l.value < 2 ^ (7 * l.i);
}
