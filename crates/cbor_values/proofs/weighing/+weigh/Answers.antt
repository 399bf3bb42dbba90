use Rattle.std.proofs.Common.{sym, ap, arith}
use Rattle.std.proofs.lemmas.Result.{err_from_is_err_and}
use Rattle.otlp_model.specs.Weight.{weight_of_value, weight_of_pair}
use Rattle.cbor_values.specs.declared.weighing.WeighedValue.{WeighedValue}
use Rattle.cbor_values.specs.Reading.{many_at, open_at, pair_at, item_at}
use Rattle.cbor_values.proofs.Again.{Shallow, ShallowPair, item_start, pair_start}
use Rattle.cbor_values.proofs.ItemTakes.{item_reader, pair_reader}
use Rattle.cbor_values.proofs.Loops.{shorter}
use Rattle.cbor_values.proofs.Telling.{many_done, many_fails, many_more, open_done, open_fails, open_more}
use Rattle.cbor_values.proofs.TellingValues.{item_fails_at, told_array, told_bits, told_bytes, told_flag, told_map, told_negative, told_null, told_open_array, told_open_map, told_pair, told_text, told_whole}
use Rattle.cbor_values.proofs.weighing.+weigh.Goals as goal

pub item-returns-in_err-head : goal.item-returns-in_err-head
item-returns-in_err-head t c =
    let p = err_from_is_err_and c.from_residual.result c.from_residual.ensures.1 in
    rw (p.1, p.2) (item_fails_at c.args.depth c.args.bytes.now c.in_err-head.field-0.0 c.in_err-head.ensures.exact)

pub body-returns-in-Null : goal.body-returns-in-Null
body-returns-in-Null t c = rw (c.told.ensures, c.in-Null.is) (told_null (item_at c.args.depth) c.args.bytes.now)

pub body-returns-in-Bool : goal.body-returns-in-Bool
body-returns-in-Bool t c = rw (c.told-in-Bool.ensures, c.in-Bool.is) (told_flag (item_at c.args.depth) c.in-Bool.field-0 c.args.bytes.now)

pub body-returns-in-Double : goal.body-returns-in-Double
body-returns-in-Double t c = rw (c.told-in-Double.ensures, c.in-Double.is) (told_bits (item_at c.args.depth) c.in-Double.field-0 c.args.bytes.now)

pub body-returns-in_ok-whole-in-Whole : goal.body-returns-in_ok-whole-in-Whole
body-returns-in_ok-whole-in-Whole t c =
    rw (c.told-in-Whole.ensures, c.in-Whole.is) (told_whole (item_at c.args.depth) c.in-Whole.n c.args.bytes.now c.in_ok-whole-in-Whole.ensures)

pub body-returns-in_ok-whole-in-Negative : goal.body-returns-in_ok-whole-in-Negative
body-returns-in_ok-whole-in-Negative t c =
    rw (c.told-in-Negative.ensures, c.in-Negative.is) (told_negative (item_at c.args.depth) c.in-Negative.n c.args.bytes.now c.in_ok-whole-in-Negative.ensures)

pub body-returns-in_ok-weight-in-Bytes : goal.body-returns-in_ok-weight-in-Bytes
body-returns-in_ok-weight-in-Bytes t c =
    let w = c.in_ok-weight-in-Bytes.ensures in
    rw (c.told-in-Bytes.ensures, c.in-Bytes.is) (told_bytes (item_at c.args.depth) c.in-Bytes.length c.args.bytes.now c.in_ok-weight-in-Bytes.weight c.in_ok-weight-in-Bytes.rest.now w)

pub body-returns-in_ok-weight-in-Text : goal.body-returns-in_ok-weight-in-Text
body-returns-in_ok-weight-in-Text t c =
    let w = c.in_ok-weight-in-Text.ensures in
    rw (c.told-in-Text.ensures, c.in-Text.is) (told_text (item_at c.args.depth) c.in-Text.length c.args.bytes.now c.in_ok-weight-in-Text.weight c.in_ok-weight-in-Text.rest.now w)

pub array-returns-in_ok-weight-in-Some : goal.array-returns-in_ok-weight-in-Some
array-returns-in_ok-weight-in-Some t c =
    rw (c.told.ensures, c.in-Some.is) (told_array (item_at c.args.depth) c.in-Some.count c.args.bytes.now c.in_ok-weight-in-Some.weight c.in_ok-weight-in-Some.rest.now
    c.in_ok-weight-in-Some.ensures)

pub array-returns-in_ok-weight-in-None : goal.array-returns-in_ok-weight-in-None
array-returns-in_ok-weight-in-None t c =
    rw (c.told-in-None.ensures, c.in-None.is) (told_open_array (item_at c.args.depth) c.args.bytes.now c.in_ok-weight-in-None.weight c.in_ok-weight-in-None.rest.now
    c.in_ok-weight-in-None.ensures)

pub map-returns-in_ok-weight-in-Some : goal.map-returns-in_ok-weight-in-Some
map-returns-in_ok-weight-in-Some t c =
    rw (c.told.ensures, c.in-Some.is) (told_map (item_at c.args.depth) c.in-Some.count c.args.bytes.now c.in_ok-weight-in-Some.weight c.in_ok-weight-in-Some.rest.now
    c.in_ok-weight-in-Some.ensures)

pub map-returns-in_ok-weight-in-None : goal.map-returns-in_ok-weight-in-None
map-returns-in_ok-weight-in-None t c =
    rw (c.told-in-None.ensures, c.in-None.is) (told_open_map (item_at c.args.depth) c.args.bytes.now c.in_ok-weight-in-None.weight c.in_ok-weight-in-None.rest.now
    c.in_ok-weight-in-None.ensures)

pub pair-returns : goal.pair-returns
pair-returns t c =
    told_pair (item_at c.args.depth) c.args.bytes.now c.in_ok-key.key c.in_ok-key.rest.now c.in_ok-value.value c.in_ok-value.rest.now _
    c.in_ok-key.ensures c.in_ok-value.ensures c.add_capped.ensures

pub members-returns-in_err-member : goal.members-returns-in_err-member
members-returns-in_err-member t c =
    let p = err_from_is_err_and c.from_residual.result c.from_residual.ensures.1 in
    rw (p.1, p.2) (many_fails weight_of_value (item_at c.args.depth) c.args.count c.loop.counter c.loop.weight c.loop.rest.now (many_at (item_at c.args.depth) c.args.count c.args.bytes.now) c.in_err-member.field-0.0
    c.loop-test.true c.loop.invariant c.in_err-member.ensures)

pub members-loop-preserved : goal.members-loop-preserved
members-loop-preserved t c =
    many_more weight_of_value (item_at c.args.depth) c.args.count c.loop.counter c.loop.weight _ c.loop.rest.now c.in_ok-member.ensures.value c.in_ok-member.after.now
    (many_at (item_at c.args.depth) c.args.count c.args.bytes.now)
    c.loop-test.true c.loop.invariant c.in_ok-member.ensures.is
    (let own = ap (λ (w : WeighedValue). w.weight) c.in_ok-member.ensures.of in omega arith)

pub members-returns : goal.members-returns
members-returns t c =
    many_done weight_of_value (item_at c.args.depth) c.args.count c.loop.counter c.loop.weight c.loop.rest.now (many_at (item_at c.args.depth) c.args.count c.args.bytes.now) c.loop-test.false c.loop.invariant

pub open_members-returns-in-Some : goal.open_members-returns-in-Some
open_members-returns-in-Some t c =
    open_done weight_of_value (item_at c.args.depth) c.members.weight c.members.rest.now c.in-Some.after.now (open_at (item_at c.args.depth) c.args.bytes.now) (sym c.in-Some.ensures) c.members.invariant

pub open_members-returns-in_err-member : goal.open_members-returns-in_err-member
open_members-returns-in_err-member t c =
    let p = err_from_is_err_and c.from_residual.result c.from_residual.ensures.1 in
    rw (p.1, p.2) (open_fails weight_of_value (item_at c.args.depth) (item_start c.args.depth) c.members.weight c.members.rest.now (open_at (item_at c.args.depth) c.args.bytes.now) c.in_err-member.field-0.0
    (sym c.in_default.ensures) c.members.invariant c.in_err-member.ensures)

pub open_members-members-smaller : goal.open_members-members-smaller
open_members-members-smaller t c =
    (shorter (Shallow c.args.depth) (item_at c.args.depth) (item_reader c.args.depth) c.members.rest.now c.in_ok-member.ensures.value c.in_ok-member.after.now c.members.invariant.fits c.in_ok-member.ensures.is).0

pub open_members-members-preserved : goal.open_members-members-preserved
open_members-members-preserved t c =
    open_more weight_of_value (Shallow c.args.depth) (item_at c.args.depth) (item_reader c.args.depth) c.members.weight _ c.members.rest.now c.in_ok-member.ensures.value c.in_ok-member.after.now
    (open_at (item_at c.args.depth) c.args.bytes.now)
    (sym c.in_default.ensures) c.members.invariant c.in_ok-member.ensures.is
    (let own = ap (λ (w : WeighedValue). w.weight) c.in_ok-member.ensures.of in omega arith)

pub pairs-returns-in_err-own : goal.pairs-returns-in_err-own
pairs-returns-in_err-own t c =
    let p = err_from_is_err_and c.from_residual.result c.from_residual.ensures.1 in
    rw (p.1, p.2) (many_fails weight_of_pair (pair_at (item_at c.args.depth)) c.args.count c.loop.counter c.loop.weight c.loop.rest.now
    (many_at (pair_at (item_at c.args.depth)) c.args.count c.args.bytes.now) c.in_err-own.field-0.0
    c.loop-test.true c.loop.invariant c.in_err-own.ensures)

pub pairs-loop-preserved : goal.pairs-loop-preserved
pairs-loop-preserved t c =
    many_more weight_of_pair (pair_at (item_at c.args.depth)) c.args.count c.loop.counter c.loop.weight _ c.loop.rest.now c.in_ok-own.ensures.value c.in_ok-own.after.now
    (many_at (pair_at (item_at c.args.depth)) c.args.count c.args.bytes.now)
    c.loop-test.true c.loop.invariant c.in_ok-own.ensures.is
    (let own = c.in_ok-own.ensures.of in omega arith)

pub pairs-returns : goal.pairs-returns
pairs-returns t c =
    many_done weight_of_pair (pair_at (item_at c.args.depth)) c.args.count c.loop.counter c.loop.weight c.loop.rest.now
    (many_at (pair_at (item_at c.args.depth)) c.args.count c.args.bytes.now) c.loop-test.false c.loop.invariant

pub open_pairs-returns-in-Some : goal.open_pairs-returns-in-Some
open_pairs-returns-in-Some t c =
    open_done weight_of_pair (pair_at (item_at c.args.depth)) c.pairs.weight c.pairs.rest.now c.in-Some.after.now (open_at (pair_at (item_at c.args.depth)) c.args.bytes.now) (sym c.in-Some.ensures) c.pairs.invariant

pub open_pairs-returns-in_err-own : goal.open_pairs-returns-in_err-own
open_pairs-returns-in_err-own t c =
    let p = err_from_is_err_and c.from_residual.result c.from_residual.ensures.1 in
    rw (p.1, p.2) (open_fails weight_of_pair (pair_at (item_at c.args.depth)) (pair_start (item_at c.args.depth)) c.pairs.weight c.pairs.rest.now
    (open_at (pair_at (item_at c.args.depth)) c.args.bytes.now) c.in_err-own.field-0.0
    (sym c.in_default.ensures) c.pairs.invariant c.in_err-own.ensures)

pub open_pairs-pairs-smaller : goal.open_pairs-pairs-smaller
open_pairs-pairs-smaller t c =
    (shorter (ShallowPair c.args.depth) (pair_at (item_at c.args.depth)) (pair_reader c.args.depth) c.pairs.rest.now c.in_ok-own.ensures.value c.in_ok-own.after.now c.pairs.invariant.fits c.in_ok-own.ensures.is).0

pub open_pairs-pairs-preserved : goal.open_pairs-pairs-preserved
open_pairs-pairs-preserved t c =
    open_more weight_of_pair (ShallowPair c.args.depth) (pair_at (item_at c.args.depth)) (pair_reader c.args.depth) c.pairs.weight _ c.pairs.rest.now c.in_ok-own.ensures.value c.in_ok-own.after.now
    (open_at (pair_at (item_at c.args.depth)) c.args.bytes.now)
    (sym c.in_default.ensures) c.pairs.invariant c.in_ok-own.ensures.is
    (let own = c.in_ok-own.ensures.of in omega arith)
