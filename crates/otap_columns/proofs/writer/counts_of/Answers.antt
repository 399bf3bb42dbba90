use Rattle.std.proofs.Common.{◌≡◌, ℕ, List, length, sym, ap, ◌∙◌, subst, arith, ◌+◌}
use Rattle.otap_dicts.specs.Ladders.{LadderIn}
use Rattle.otap_columns.specs.BuiltRows.{columns_in}
use Rattle.otap_columns.proofs.StateMade.{Made, made_none, made_more}
use Rattle.otap_columns.proofs.writer.counts_of.Goals as goal

pub columns-init : goal.columns-init
columns-init c =
    subst (λ (xs : List ℕ). Made (λ column count. count ≡ length (columns_in c.args.seen.now column)) 0 0 xs) (sym c.in_ok-counts.ensures.items)
    (made_none (λ column count. count ≡ length (columns_in c.args.seen.now column)) 0)

pub columns-preserved : goal.columns-preserved
columns-preserved c =
    subst (λ (xs : List ℕ). Made (λ column count. count ≡ length (columns_in c.args.seen.now column)) 0 (c.columns.column + 1) xs) (sym c.in_ok-push.ensures.items)
    (made_more (λ column count. count ≡ length (columns_in c.args.seen.now column)) 0 c.columns.column c.columns.counts.items c.count.result c.columns.invariant
    (c.count.ensures ∙ ap (λ (l : LadderIn). length l.values) c.ladder_at-ladder.ensures))

pub returns : goal.returns
returns c = λ column low. c.columns.invariant.each column (omega (arith, low, c.columns-test.false, c.columns-2.ensures.width))
