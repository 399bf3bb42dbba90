use Rattle.std.proofs.Common.{◌≡◌, ◌-◌, Bool, true, false, if◌then◌else◌, refl, arith}
use Rattle.std.proofs.lemmas.List.{get_or_read}
use mir.Val.{bool_byte}
use Rattle.arrow_buffers.proofs.BitPlaces.{pushes-byte, pushes-set}
use Rattle.arrow_buffers.proofs.packing.push_bit.Goals as goal

byte_is : (bit : Bool) → bool_byte bit ≡ (if bit then 1 else 0)
byte_is true = refl
byte_is false = refl

pub returns-then-place-eq0-clause-bits : goal.returns-then-place-eq0-clause-bits
returns-then-place-eq0-clause-bits c =
    rw (c.push_reserved.ensures.items, c.from.ensures, byte_is c.args.bit) (pushes-byte c.args.count c.args.bit c.args.bytes.now.items c.requires.packed c.if-place-eq0.true)

pub returns-then-bit-clause-bits : goal.returns-then-bit-clause-bits
returns-then-bit-clause-bits c =
    let packed = c.requires.packed.len in
    let set = pushes-set c.args.count c.args.bytes.now.items (c.len-last.result - 1) c.index_mut.result.now c.requires.packed (λ e. c.if-place-eq0.false e) (omega arith)
    (get_or_read c.args.bytes.now.items (c.len-last.result - 1) c.index_mut.result.now (omega arith) c.index_mut.ensures.value 0) in
    rw c.if-bit.true set
