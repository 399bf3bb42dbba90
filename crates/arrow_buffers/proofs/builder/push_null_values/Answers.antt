use Rattle.std.proofs.Common.{◌≡◌, ◌*◌, ◌++◌, replicate}
use Rattle.std.proofs.lemmas.Result.{on_ok_weaker}
use Rattle.arrow_buffers.specs.Building.{ended_times}
use Rattle.arrow_buffers.proofs.Nulling.{nulls-parts, nulls-var, nulls-list}
use Rattle.arrow_buffers.proofs.builder.push_null_values.Goals as goal

pub returns-in-Fixed-clause-ok : goal.returns-in-Fixed-clause-ok
returns-in-Fixed-clause-ok c =
    let old = c.args.values.now.items in
    let width = c.in-Fixed.width in
    let pushed = nulls-parts width c.args.rows c.args.count c.args.offsets.now.items old (rw c.in-Fixed.is at c.requires.stored) in
    rw c.in-Fixed.is (on_ok_weaker c.push_null_parts.result (λ (is : c.push_null_parts.new.values.items ≡ old ++ replicate (c.args.count * width) 0). rw is pushed) c.push_null_parts.ensures.ok)

pub returns-in-Var-clause-ok : goal.returns-in-Var-clause-ok
returns-in-Var-clause-ok c =
    let old = c.args.offsets.now.items in
    let values = c.args.values.now.items in
    let pushed = nulls-var c.args.rows c.args.count old values (rw c.in-Var.is at c.requires.stored) in
    rw c.in-Var.is (on_ok_weaker c.push_null_spans.result (λ (is : c.push_null_spans.new.offsets.items ≡ ended_times 1 c.args.count old values). rw is pushed)
    (rw c.as_slice.ensures.value at c.push_null_spans.ensures.ok))

pub returns-in-List-clause-ok : goal.returns-in-List-clause-ok
returns-in-List-clause-ok c =
    let old = c.args.offsets.now.items in
    let values = c.args.values.now.items in
    let element = c.in-List.element in
    let pushed = nulls-list element c.args.rows c.args.count old values (rw c.in-List.is at c.requires.stored) in
    rw c.in-List.is (on_ok_weaker c.push_null_spans-in-List.result (λ (is : c.push_null_spans-in-List.new.offsets.items ≡ ended_times element c.args.count old values). rw is pushed)
    (rw c.as_slice-in-List.ensures.value at c.push_null_spans-in-List.ensures.ok))
