use Rattle.std.proofs.Common.{◌≡◌, ◌-◌, false, true, length, Some, take, drop, sym, ap, ◌∙◌, arith}
use Rattle.std.specs.List.{slice_index_or}
use Rattle.std.proofs.lemmas.Bool.{not-true, not-false}
use Rattle.otap_columns.specs.declared.reader.ends.End.{End}
use Rattle.otap_columns.specs.Ends.{start_of}
use Rattle.otap_columns.proofs.Lying.{value_none, value_some, IsThere, value_there, none_there}
use Rattle.otap_columns.proofs.reader.ends.value_in.Goals as goal

abbrev gone : End
gone = record { from = 0; place = 0; there = false }

pub returns-then-place-ends : goal.returns-then-place-ends
returns-then-place-ends c = sym (none_there c.args.bytes.now 0 c.args.ends.now c.args.place (omega arith))

pub returns-then-not-end : goal.returns-then-not-end
returns-then-not-end c =
    let t : IsThere c.args.bytes.now 0 c.args.ends.now c.args.place (length c.args.bytes.now) (slice_index_or c.args.ends.now c.args.place gone) =
    value_there c.args.bytes.now 0 c.args.ends.now c.args.place (length c.args.bytes.now) gone c.requires (omega arith) in
    let none : (slice_index_or c.args.ends.now c.args.place gone).there ≡ false = not-true (slice_index_or c.args.ends.now c.args.place gone).there c.if-not-end.true in
    sym (t.is ∙ value_none c.args.bytes.now (start_of 0 c.args.ends.now c.args.place) (slice_index_or c.args.ends.now c.args.place gone) none)

pub part-requires-clause-order : goal.part-requires-clause-order
part-requires-clause-order c =
    let t : IsThere c.args.bytes.now 0 c.args.ends.now c.args.place (length c.args.bytes.now) (slice_index_or c.args.ends.now c.args.place gone) =
    value_there c.args.bytes.now 0 c.args.ends.now c.args.place (length c.args.bytes.now) gone c.requires (omega arith) in
    omega (arith, t.first, t.begins)

pub part-requires-clause-within : goal.part-requires-clause-within
part-requires-clause-within c =
    (value_there c.args.bytes.now 0 c.args.ends.now c.args.place (length c.args.bytes.now) gone c.requires (omega arith)).within

pub returns : goal.returns
returns c =
    let t : IsThere c.args.bytes.now 0 c.args.ends.now c.args.place (length c.args.bytes.now) (slice_index_or c.args.ends.now c.args.place gone) =
    value_there c.args.bytes.now 0 c.args.ends.now c.args.place (length c.args.bytes.now) gone c.requires (omega arith) in
    let there : (slice_index_or c.args.ends.now c.args.place gone).there ≡ true = not-false (slice_index_or c.args.ends.now c.args.place gone).there c.if-not-end.false in
    ap Some c.part.ensures
    ∙ (λ i. Some (take ((slice_index_or c.args.ends.now c.args.place gone).place - t.begins i) (drop (t.begins i) c.args.bytes.now)))
    ∙ sym (t.is ∙ value_some c.args.bytes.now (start_of 0 c.args.ends.now c.args.place) (slice_index_or c.args.ends.now c.args.place gone) there)
