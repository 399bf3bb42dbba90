use Rattle.std.proofs.Common.{refl}
use Rattle.otlp_wire.proofs.Shortest.{spells_none, spells_one, spells_last, here}
use Rattle.otlp_wire.proofs.varint.spell.Goals as goal

pub sevens-init : goal.sevens-init
sevens-init c = spells_none _ c.args.value refl c.ranges.value.fits

pub bounds-bytes-len : goal.bounds-bytes-len
bounds-bytes-len c = here _ _ _ _ c.sevens.invariant

pub sevens-preserved : goal.sevens-preserved
sevens-preserved c = spells_one _ _ _ _ c.sevens-test.true c.sevens.invariant

pub bounds-bytes-len-2 : goal.bounds-bytes-len-2
bounds-bytes-len-2 c = here _ _ _ _ c.sevens.invariant

pub returns-clause-spelling : goal.returns-clause-spelling
returns-clause-spelling c = (spells_last _ _ _ _ c.sevens-test.false c.sevens.invariant).spelling

pub returns-clause-len : goal.returns-clause-len
returns-clause-len c = (spells_last _ _ _ _ c.sevens-test.false c.sevens.invariant).size

pub returns-clause-room : goal.returns-clause-room
returns-clause-room c = (spells_last _ _ _ _ c.sevens-test.false c.sevens.invariant).room
