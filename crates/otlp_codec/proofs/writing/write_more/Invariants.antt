use Rattle.std.proofs.Common.{◌≡◌, ◌++◌, drop}
use Rattle.std.specs.List.{All}
use Rattle.std.specs.Prelude.{map}
use Rattle.otlp_messages.specs.Canon.{canon_row, many_row}
use Rattle.otlp_codec.proofs.writing.write_more.Given as goal

abbrev pub invariant-loop-place : goal.invariant-loop-place
invariant-loop-place g l = record {
  written : l.to ≡ canon_row l.number (many_row (map g.P.Spelled.spelled (drop l.place l.parts))) ++ l.initial.to;
  real : All g.P.Spelled.is_real (drop l.place l.parts);
}
