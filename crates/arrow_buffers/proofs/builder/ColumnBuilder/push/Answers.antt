use Rattle.std.proofs.Common.{◌≡◌, ◌≤◌, Bool, true, false, not, is_some, is_none, if◌then◌else◌, List, ℕ, Option, Some, None, Bor, refl, ap, arith}
use mir.Val.{bool_byte}
use Rattle.std.specs.Option.{option_copied}
use Rattle.arrow_buffers.specs.Flags.{PushesFlag}
use Rattle.arrow_buffers.proofs.Growing.{built-next, cells-next, nulls-le}
use Rattle.arrow_buffers.proofs.builder.ColumnBuilder.push.Goals as goal

bool_byte-le : (b : Bool) → bool_byte b ≤ 1
bool_byte-le true = omega arith
bool_byte-le false = omega arith

-- a cell is there where what it points to is
is_some-copied : (cell : Option (Bor (List ℕ))) → is_some cell ≡ is_some (option_copied cell)
is_some-copied None = refl
is_some-copied (Some x) = refl

null-byte : (cell : Option (Bor (List ℕ))) (none : Bool) → is_some cell ≡ not none → bool_byte none ≡ (if is_none (option_copied cell) then 1 else 0)
null-byte None true is = refl
null-byte None false is = cc
null-byte (Some x) true is = cc
null-byte (Some x) false is = refl

pub overflow_add-self-2 : goal.overflow_add-self-2
overflow_add-self-2 c =
    let inside = c.self.inside in
    let le = nulls-le inside.width inside.rows inside.nulls inside.validity.items inside.offsets.items inside.values.items c.self.invariant in
    let few = c.self.invariant.few in
    let byte = bool_byte-le c.is_none.result in
    omega arith

pub invariant_of-self-2 : goal.invariant_of-self-2
invariant_of-self-2 c =
    let inside = c.self.inside in
    let few = c.self.invariant.few in
    let flag : PushesFlag inside.nulls inside.rows (is_some (option_copied c.args.cell)) inside.validity.items c.push_flag.new.bitmap.items = rw
    (c.is_some-valid.ensures, is_some-copied c.args.cell, c.reserve_flag.ensures.items) at c.push_flag.ensures.flags in
    rw (c.from.ensures, null-byte c.args.cell c.is_none.result c.is_none.ensures) (built-next inside.width inside.rows inside.nulls
    (option_copied c.args.cell) inside.validity.items inside.offsets.items inside.values.items c.push_flag.new.bitmap.items c.push_value.new.offsets.items c.push_value.new.values.items
    (omega arith) c.self.invariant flag c.in_ok-push_value.ensures.ok)

pub returns-clause-ok : goal.returns-clause-ok
returns-clause-ok c =
    let inside = c.self.inside in
    let flag : PushesFlag inside.nulls inside.rows (is_some (option_copied c.args.cell)) inside.validity.items c.push_flag.new.bitmap.items = rw
    (c.is_some-valid.ensures, is_some-copied c.args.cell, c.reserve_flag.ensures.items) at c.push_flag.ensures.flags in
    let next = cells-next inside.width inside.rows inside.nulls (option_copied c.args.cell) inside.validity.items inside.offsets.items inside.values.items
    c.push_flag.new.bitmap.items c.push_value.new.offsets.items c.push_value.new.values.items flag c.in_ok-push_value.ensures.ok in
    rw (← c.self.view_is) (ap (λ cells. record { width = inside.width; cells = cells }) next)
