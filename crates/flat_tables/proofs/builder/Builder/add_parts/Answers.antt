use Rattle.std.proofs.Common.{◌/◌, length, arith}
use Rattle.std.proofs.Math.Nat.{div-le_self}
use Rattle.std.proofs.lemmas.Nat.{div-add-mod'}
use Rattle.flat_tables.proofs.Adding.{parts_stand}
use Rattle.flat_tables.proofs.builder.Builder.add_parts.Goals as goal

pub returns-clause-parts : goal.returns-clause-parts
returns-clause-parts c =
    let parts = c.args.parts.now in
    parts_stand c.args.width parts c.args.self.now c.put.new.self c.padding-pad.result c.in_ok-place.place (length parts / c.args.width)
    (omega (arith, div-add-mod' (length parts) c.args.width, c.requires.whole)) (omega (arith, div-le_self (length parts) c.args.width)) (omega arith)
    c.in_ok-place.ensures.ok c.in_ok-place.ensures.place
