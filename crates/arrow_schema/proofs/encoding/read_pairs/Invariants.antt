use Rattle.std.proofs.Common.{◌≡◌, ◌-◌}
use Rattle.arrow_schema.specs.declared.spec.Encoding.TheVariants as encoding
use Rattle.arrow_schema.specs.Reading.{encoding_from}
use Rattle.arrow_schema.proofs.encoding.read_pairs.Given as goal

-- the pairs that are left go on from what was found
abbrev pub invariant-loop-place : goal.invariant-loop-place
invariant-loop-place l = encoding_from l.pairs l.place (l.pairs.count - l.place) l.found ≡ encoding_from l.pairs 0 l.pairs.count encoding.None
