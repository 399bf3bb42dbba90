use Rattle.std.proofs.Common.{◌≡◌, w64, to_z, of_z}
use Rattle.std.proofs.Common.{drop, arith}
use Rattle.std.specs.Int.{cast_signed}
use Rattle.byteorder.specs.Endian.{little_number}
use Rattle.std.proofs.lemmas.Grind.{common_steps}
use Rattle.arrow_ipc.proofs.batch.pair_of.Goals as goal

-- src/batch.rt:64:1
pub returns : goal.returns
returns c =
    let h = c.read_i64.ensures in
    let first : to_z w64 (of_z w64 c.read_i64.result) ≡ cast_signed w64 (little_number 8 c.args.part.now) = grind (arith, common_steps) in
    let second : to_z w64 (of_z w64 c.read_i64-2.result) ≡ cast_signed w64 (little_number 8 (drop 8 c.args.part.now)) = grind (arith, common_steps) in
    λ i. (first i, second i)
