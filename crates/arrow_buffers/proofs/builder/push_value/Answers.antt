use Rattle.std.proofs.Common.{◌≡◌, [], ◌++◌, unwrap_or, replicate}
use Rattle.std.proofs.lemmas.Result.{on_ok_weaker}
use Rattle.std.specs.Option.{option_copied}
use Rattle.arrow_buffers.specs.Columns.{ended}
use Rattle.arrow_buffers.specs.Building.{is_one}
use Rattle.arrow_buffers.specs.Packed.{PushesBit}
use Rattle.arrow_buffers.proofs.Pushing.{pushes-bit, pushes-part, pushes-span, pushes-list}
use Rattle.arrow_buffers.proofs.builder.push_value.Goals as goal

pub returns-in_ok-reserve_bit-in-Bit-clause-ok : goal.returns-in_ok-reserve_bit-in-Bit-clause-ok
returns-in_ok-reserve_bit-in-Bit-clause-ok c =
    let pushed : PushesBit c.args.rows (is_one (option_copied c.args.cell)) c.args.values.now.items c.push_bit.new.bytes.items = rw (c.is_one.ensures, c.reserve_bit.ensures.items) at c.push_bit.ensures.bits in
    rw c.in-Bit.is (pushes-bit c.args.rows (option_copied c.args.cell) c.args.offsets.now.items c.args.values.now.items c.push_bit.new.bytes.items (rw c.in-Bit.is at c.requires.stored)
    (rw c.in-Bit.is at c.requires.width) pushed)

pub returns-in-Fixed-clause-ok : goal.returns-in-Fixed-clause-ok
returns-in-Fixed-clause-ok c =
    let cell = option_copied c.args.cell in
    let pushed = pushes-part c.in-Fixed.width c.args.rows cell c.args.offsets.now.items c.args.values.now.items (rw c.in-Fixed.is at c.requires.stored) (rw c.in-Fixed.is at c.requires.width) in
    let all = c.args.values.now.items ++ unwrap_or cell (replicate c.in-Fixed.width 0) in
    rw c.in-Fixed.is (on_ok_weaker c.push_part.result (λ (is : c.push_part.new.values.items ≡ all). rw is pushed) c.push_part.ensures.ok)

pub returns-in-List-clause-ok : goal.returns-in-List-clause-ok
returns-in-List-clause-ok c =
    let cell = option_copied c.args.cell in
    let old = c.args.values.now.items in
    let element = c.in-List.element in
    let room = rw c.in-List.is at c.requires.room in
    let pushed = pushes-list element c.args.rows cell c.args.offsets.now.items old (rw c.in-List.is at c.requires.stored) (rw c.in-List.is at c.requires.width) room.1 in
    rw c.in-List.is (on_ok_weaker c.push_span-in-List.result (λ (is : (c.push_span-in-List.new.offsets.items ≡ ended element c.args.offsets.now.items old)
    × (c.push_span-in-List.new.values.items ≡ old ++ unwrap_or cell [])). rw (is.0, is.1) pushed) c.push_span-in-List.ensures.ok)

pub returns-in-Var-clause-ok : goal.returns-in-Var-clause-ok
returns-in-Var-clause-ok c =
    let cell = option_copied c.args.cell in
    let old = c.args.values.now.items in
    let pushed = pushes-span c.args.rows cell c.args.offsets.now.items old (rw c.in-Var.is at c.requires.stored) (rw c.in-Var.is at c.requires.room) in
    rw c.in-Var.is (on_ok_weaker c.push_span.result (λ (is : (c.push_span.new.offsets.items ≡ ended 1 c.args.offsets.now.items old) × (c.push_span.new.values.items ≡ old ++ unwrap_or cell [])). rw
    (is.0, is.1) pushed) c.push_span.ensures.ok)
