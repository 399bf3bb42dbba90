use Rattle.std.proofs.Common.{ap, arith}
use Rattle.arrow_buffers.specs.Flags.{PushesNullFlags}
use Rattle.arrow_buffers.proofs.Growing.{nulls-le}
use Rattle.arrow_buffers.proofs.Nulling.{built-nulls, cells-nulls}
use Rattle.arrow_buffers.proofs.builder.ColumnBuilder.push_nulls.Goals as goal

pub overflow_add-self-2 : goal.overflow_add-self-2
overflow_add-self-2 c =
    let inside = c.self.inside in
    let le = nulls-le inside.width inside.rows inside.nulls inside.validity.items inside.offsets.items inside.values.items c.self.invariant in
    let few = c.self.invariant.few in
    omega arith

pub invariant_of-self-2 : goal.invariant_of-self-2
invariant_of-self-2 c =
    let inside = c.self.inside in
    let few = c.self.invariant.few in
    let flags : PushesNullFlags inside.nulls inside.rows c.args.count inside.validity.items c.push_null_flags.new.bitmap.items = rw
    c.reserve_bit.ensures.items at c.push_null_flags.ensures in
    built-nulls inside.width inside.rows inside.nulls c.args.count inside.validity.items inside.offsets.items inside.values.items
    c.push_null_flags.new.bitmap.items c.push_null_values.new.offsets.items c.push_null_values.new.values.items (omega arith) c.self.invariant flags c.in_ok-push_null_values.ensures.ok

pub returns-clause-ok : goal.returns-clause-ok
returns-clause-ok c =
    let inside = c.self.inside in
    let flags : PushesNullFlags inside.nulls inside.rows c.args.count inside.validity.items c.push_null_flags.new.bitmap.items = rw
    c.reserve_bit.ensures.items at c.push_null_flags.ensures in
    let next = cells-nulls inside.width inside.rows inside.nulls c.args.count inside.validity.items inside.offsets.items inside.values.items
    c.push_null_flags.new.bitmap.items c.push_null_values.new.offsets.items c.push_null_values.new.values.items flags c.in_ok-push_null_values.ensures.ok in
    rw (← c.self.view_is) (ap (λ cells. record { width = inside.width; cells = cells }) next)
