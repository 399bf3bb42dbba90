use Rattle.std.proofs.Common.{IsOk, inl, inr, sym, subst}
use Rattle.arrow_arrays.specs.declared.place.ArrayPlace.{ArrayPlace}
use Rattle.arrow_arrays.specs.Arrays.{array_place}
use Rattle.arrow_arrays.specs.Cells.{array_in}
use Rattle.arrow_arrays.specs.Found.{Finds}
use Rattle.arrow_arrays.proofs.Checked.{check_at}
use Rattle.arrow_arrays.proofs.Fits.{check_reads}
use Rattle.arrow_arrays.proofs.Nested.{zero_within, missing_within, alone_within, below_within, at_top, in_list}
use Rattle.arrow_arrays.proofs.arrays.+view_within.Goals as goal

pub returns-then-depth-eq0 : goal.returns-then-depth-eq0
returns-then-depth-eq0 t c =
    zero_within c.args.arrays.now c.args.batch.now c.args.place c.args.depth c.empty.result c.if-depth-eq0.true c.empty.ensures.empty

pub returns-in_default : goal.returns-in_default
returns-in_default t c =
    missing_within c.args.arrays.now c.args.batch.now c.args.place c.args.depth c.empty-in_default.result c.in_default.ensures c.empty-in_default.ensures.empty

pub own_column-own-requires : goal.own_column-own-requires
own_column-own-requires t c =
    let batch = c.args.batch.now in
    let a = c.in-Some.array.now in
    let fine = check_reads batch (array_place a) (check_at batch c.args.arrays.now c.args.place a c.requires.fine (sym c.in-Some.ensures)) in
    subst (λ (p : ArrayPlace). IsOk (array_in batch p)) (sym c.place.ensures) fine

pub returns-in-Struct : goal.returns-in-Struct
returns-in-Struct t c =
    let batch = c.args.batch.now in
    let a = c.in-Some.array.now in
    let own = subst (λ (p : ArrayPlace). Finds batch p c.own_column-own.result) c.place.ensures c.own_column-own.ensures in
    below_within c.args.depth c.args.arrays.now batch c.args.place c.in-Struct.above a c.view_within.result c.own_column-own.result c.below.result
    c.if-depth-eq0.false c.requires.deep c.in-Some.ensures c.in-Struct.is own c.view_within.ensures c.below.ensures

pub returns-in-Top : goal.returns-in-Top
returns-in-Top t c =
    let batch = c.args.batch.now in
    let a = c.in-Some.array.now in
    let own = subst (λ (p : ArrayPlace). Finds batch p c.own_column-own.result) c.place.ensures c.own_column-own.ensures in
    alone_within c.args.depth c.args.arrays.now batch c.args.place a c.own_column-own.result c.if-depth-eq0.false c.in-Some.ensures
    (elim c.in-Top.is [ inl is ↦ at_top is | inr is ↦ in_list is ]) own
