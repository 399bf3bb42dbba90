use Rattle.std.proofs.Common.{sym}
use Rattle.std.proofs.lemmas.Result.{err_from_is_err_and}
use Rattle.cbor_values.specs.Reading.{many_at, open_at, pair_at, item_at}
use Rattle.cbor_values.proofs.Again.{Shallow, ShallowPair, item_start, pair_start}
use Rattle.cbor_values.proofs.ItemTakes.{item_reader, pair_reader}
use Rattle.cbor_values.proofs.Loops.{shorter, item_fails, goes_on, ends, is_done, open_goes_on, open_ends, open_is_done}
use Rattle.cbor_values.proofs.reading.+read.Goals as goal

pub item-returns-in_err-head : goal.item-returns-in_err-head
item-returns-in_err-head t c =
    let p = err_from_is_err_and c.from_residual.result c.from_residual.ensures.1 in
    rw (p.1, p.2) (item_fails c.args.depth c.in_err-head.field-0.0 c.args.bytes.now c.in_err-head.ensures.reads)

pub members-returns-in_err-member : goal.members-returns-in_err-member
members-returns-in_err-member t c =
    let p = err_from_is_err_and c.from_residual-in_err-member.result c.from_residual-in_err-member.ensures.1 in
    rw (p.1, p.2) (ends (item_at c.args.depth) c.in_err-member.field-0.0 c.loop.members c.args.count c.loop.counter c.loop.rest.now
    (many_at (item_at c.args.depth) c.args.count c.args.bytes.now) c.loop-test.true c.in_err-member.ensures c.loop.invariant)

pub members-loop-preserved : goal.members-loop-preserved
members-loop-preserved t c =
    rw c.in_ok-push.ensures.ok (goes_on (item_at c.args.depth) c.loop.members c.args.count c.loop.counter c.loop.rest.now c.in_ok-member.member c.in_ok-member.after.now
    (many_at (item_at c.args.depth) c.args.count c.args.bytes.now) c.loop-test.true c.in_ok-member.ensures c.loop.invariant)

pub members-returns : goal.members-returns
members-returns t c =
    is_done (item_at c.args.depth) c.loop.members c.args.count c.loop.counter c.loop.rest.now (many_at (item_at c.args.depth) c.args.count c.args.bytes.now) c.loop-test.false c.loop.invariant

pub open_members-returns-in-Some : goal.open_members-returns-in-Some
open_members-returns-in-Some t c =
    open_is_done (item_at c.args.depth) c.members.members c.members.rest.now c.in-Some.after.now (open_at (item_at c.args.depth) c.args.bytes.now) (sym c.in-Some.ensures) c.members.invariant.told

pub open_members-returns-in_err-member : goal.open_members-returns-in_err-member
open_members-returns-in_err-member t c =
    let p = err_from_is_err_and c.from_residual.result c.from_residual.ensures.1 in
    rw (p.1, p.2) (open_ends (item_at c.args.depth) (item_start c.args.depth) c.in_err-member.field-0.0 c.members.members c.members.rest.now (open_at (item_at c.args.depth) c.args.bytes.now)
    (sym c.in_default.ensures) c.in_err-member.ensures c.members.invariant.told)

pub open_members-members-smaller : goal.open_members-members-smaller
open_members-members-smaller t c =
    (shorter (Shallow c.args.depth) (item_at c.args.depth) (item_reader c.args.depth) c.members.rest.now c.in_ok-member.member c.in_ok-member.after.now c.members.invariant.fits c.in_ok-member.ensures).0

pub open_members-members-preserved : goal.open_members-members-preserved
open_members-members-preserved t c = record {
  told = rw c.in_ok-push.ensures.ok (open_goes_on (Shallow c.args.depth) (item_at c.args.depth)
      (item_reader c.args.depth) c.members.members c.members.rest.now c.in_ok-member.member c.in_ok-member.after.now (open_at (item_at c.args.depth) c.args.bytes.now) c.members.invariant.fits
      (sym c.in_default.ensures) c.in_ok-member.ensures c.members.invariant.told);
  fits = (shorter (Shallow c.args.depth) (item_at c.args.depth) (item_reader c.args.depth) c.members.rest.now c.in_ok-member.member c.in_ok-member.after.now c.members.invariant.fits c.in_ok-member.ensures).1;
}

pub pairs-returns-in_err-pair : goal.pairs-returns-in_err-pair
pairs-returns-in_err-pair t c =
    let p = err_from_is_err_and c.from_residual-in_err-pair.result c.from_residual-in_err-pair.ensures.1 in
    rw (p.1, p.2) (ends (pair_at (item_at c.args.depth)) c.in_err-pair.field-0.0 c.loop.pairs c.args.count c.loop.counter c.loop.rest.now
    (many_at (pair_at (item_at c.args.depth)) c.args.count c.args.bytes.now) c.loop-test.true c.in_err-pair.ensures c.loop.invariant)

pub pairs-loop-preserved : goal.pairs-loop-preserved
pairs-loop-preserved t c =
    rw c.in_ok-push.ensures.ok (goes_on (pair_at (item_at c.args.depth)) c.loop.pairs c.args.count c.loop.counter c.loop.rest.now c.in_ok-pair.pair c.in_ok-pair.after.now
    (many_at (pair_at (item_at c.args.depth)) c.args.count c.args.bytes.now) c.loop-test.true c.in_ok-pair.ensures c.loop.invariant)

pub pairs-returns : goal.pairs-returns
pairs-returns t c =
    is_done (pair_at (item_at c.args.depth)) c.loop.pairs c.args.count c.loop.counter c.loop.rest.now (many_at (pair_at (item_at c.args.depth)) c.args.count c.args.bytes.now) c.loop-test.false c.loop.invariant

pub open_pairs-returns-in-Some : goal.open_pairs-returns-in-Some
open_pairs-returns-in-Some t c =
    open_is_done (pair_at (item_at c.args.depth)) c.pairs.pairs c.pairs.rest.now c.in-Some.after.now (open_at (pair_at (item_at c.args.depth)) c.args.bytes.now) (sym c.in-Some.ensures) c.pairs.invariant.told

pub open_pairs-returns-in_err-next : goal.open_pairs-returns-in_err-next
open_pairs-returns-in_err-next t c =
    let p = err_from_is_err_and c.from_residual.result c.from_residual.ensures.1 in
    rw (p.1, p.2) (open_ends (pair_at (item_at c.args.depth)) (pair_start (item_at c.args.depth)) c.in_err-next.field-0.0 c.pairs.pairs c.pairs.rest.now
    (open_at (pair_at (item_at c.args.depth)) c.args.bytes.now) (sym c.in_default.ensures) c.in_err-next.ensures c.pairs.invariant.told)

pub open_pairs-pairs-smaller : goal.open_pairs-pairs-smaller
open_pairs-pairs-smaller t c =
    (shorter (ShallowPair c.args.depth) (pair_at (item_at c.args.depth)) (pair_reader c.args.depth) c.pairs.rest.now c.in_ok-next.next c.in_ok-next.after.now c.pairs.invariant.fits c.in_ok-next.ensures).0

pub open_pairs-pairs-preserved : goal.open_pairs-pairs-preserved
open_pairs-pairs-preserved t c = record {
  told = rw c.in_ok-push.ensures.ok (open_goes_on (ShallowPair c.args.depth) (pair_at (item_at c.args.depth))
      (pair_reader c.args.depth) c.pairs.pairs c.pairs.rest.now c.in_ok-next.next c.in_ok-next.after.now (open_at (pair_at (item_at c.args.depth)) c.args.bytes.now) c.pairs.invariant.fits
      (sym c.in_default.ensures) c.in_ok-next.ensures c.pairs.invariant.told);
  fits = (shorter (ShallowPair c.args.depth) (pair_at (item_at c.args.depth)) (pair_reader c.args.depth) c.pairs.rest.now c.in_ok-next.next c.in_ok-next.after.now c.pairs.invariant.fits c.in_ok-next.ensures).1;
}
