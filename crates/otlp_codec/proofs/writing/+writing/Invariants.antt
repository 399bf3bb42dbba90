use Rattle.std.proofs.Common.{◌≡◌, ◌++◌, drop, true}
use Rattle.std.specs.List.{list_all}
use Rattle.std.specs.Prelude.{map}
use Rattle.otlp_messages.specs.Canon.{canon_row, many_row}
use Rattle.otlp_model.specs.Real.{is_real_value, is_real_pair}
use Rattle.otlp_codec.specs.Canonical.{canon_value, canon_pair}
use Rattle.otlp_codec.proofs.writing.+writing.Given as goal

abbrev pub invariant-write_members-loop-place : goal.invariant-write_members-loop-place
invariant-write_members-loop-place l = record {
  written : l.to ≡ canon_row 1 (many_row (map canon_value (drop l.place l.members))) ++ l.initial.to;
  real : list_all is_real_value (drop l.place l.members) ≡ true;
}

abbrev pub invariant-write_pairs-loop-place : goal.invariant-write_pairs-loop-place
invariant-write_pairs-loop-place l = record {
  written : l.to ≡ canon_row l.number (many_row (map canon_pair (drop l.place l.pairs))) ++ l.initial.to;
  real : list_all is_real_pair (drop l.place l.pairs) ≡ true;
}
