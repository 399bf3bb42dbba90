use Rattle.std.proofs.Common.{◌≡◌, [], List, sym, ◌∙◌, subst, arith, ◌+◌}
use Rattle.otap_cells.specs.Columns.{width_of}
use Rattle.otap_columns.specs.Seen.{IsSeenAfter, SeenIn}
use Rattle.otap_columns.specs.WrittenRows.{unseen}
use Rattle.otap_columns.proofs.StateMade.{Made, made_none, made_more}
use Rattle.otap_columns.proofs.writer.unseen_columns.Goals as goal

pub columns-init : goal.columns-init
columns-init c =
    subst (λ (xs : List SeenIn). Made (λ column s. IsSeenAfter c.args.kind [] column s) unseen 0 xs) (sym c.in_ok-seen.ensures.items) (made_none (λ column s. IsSeenAfter c.args.kind [] column s) unseen)

pub columns-preserved : goal.columns-preserved
columns-preserved c =
    subst (λ (xs : List SeenIn). Made (λ column s. IsSeenAfter c.args.kind [] column s) unseen (c.columns.column + 1) xs) (sym c.in_ok-push.ensures.items)
    (made_more (λ column s. IsSeenAfter c.args.kind [] column s) unseen c.columns.column c.columns.seen.items c.new.result c.columns.invariant c.new.ensures)

pub returns : goal.returns
returns c =
    let all : c.columns.column ≡ width_of c.args.kind = omega (arith, c.columns-test.false, c.columns.auto.column-end, c.columns-2.ensures.width) in
    record { count = c.columns.invariant.count ∙ all; each = λ column low. c.columns.invariant.each column (omega (arith, low, all)) }
