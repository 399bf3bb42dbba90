use Rattle.std.proofs.Common.{◌≡◌, ◌-◌, ◌<◌, ℕ, [], ◌∷◌, length, refl, sym, ap, ◌∙◌, subst, arith}
use Rattle.otlp_messages.specs.Rows.{bytes_in}
use Rattle.otlp_model.specs.declared.value.Value.TheVariants as values
use Rattle.std.proofs.lemmas.Result.{err_from_is_err_and, on_ok_weaker, MatchResult-weaker}
use Rattle.std.specs.Prelude.{slice_index_or, true, false, IsUtf8}
use Rattle.lists.proofs.Parts.{same_all_over}
use Rattle.otlp_wire.specs.Wire.{entry, value_of}
use Rattle.otlp_wire.proofs.Readings.{part_len}
use Rattle.otlp_messages.specs.declared.messages.Row.{Row}
use Rattle.otlp_messages.specs.declared.messages.Message.TheVariants as messages
use Rattle.otlp_messages.specs.Table.{mark_of}
use Rattle.otlp_messages.specs.Defects.{Stands, wire_error}
use Rattle.otlp_messages.specs.Inside.{ValueStands}
use Rattle.otlp_messages.specs.declared.messages.FieldKind.TheVariants as kinds
use Rattle.otlp_wire.specs.Wire as wire
use Rattle.otlp_messages.specs.Limits.{mark_limit}
use Rattle.otlp_messages.proofs.Steps.{first_occurs, twice_stands, value_is_shorter, member_stands}
use Rattle.otlp_codec.proofs.Passing.{names_map, passes_none, passes_more, passes_all, refused_value}
use Rattle.otlp_codec.proofs.Folded.{value_is, array_is, map_is, pair_is}
use Rattle.otlp_codec.proofs.ShortFields.{none_left}
use Rattle.otlp_codec.proofs.ShortValues.{both, text_field, one_is_fine, one_says, one_refused, one_is_short, value_is_short, pair_is_fine, pair_says, key_refused, value_refused}
use Rattle.otlp_model.specs.declared.value.Pair.{Pair}
use Rattle.otlp_codec.specs.Values.{any_in}
use Rattle.otlp_codec.specs.Steps.{array_at, map_at}
use Rattle.otlp_codec.proofs.values.+value.Goals as goal

-- fill_value
pub fill_value-returns-in_err-text_of-in-Some-default-empty-clause-fault : goal.fill_value-returns-in_err-text_of-in-Some-default-empty-clause-fault
fill_value-returns-in_err-text_of-in-Some-default-empty-clause-fault t c =
    let left = none_left c.in-Some-default-empty.field-0-1.now c.in-Some-default-empty.len_below in
    let is = c.in-Some-default-empty.ensures.first ∙ ap (λ fs. text_field c.in-Some-default-empty.text.now ∷ fs) left.0 in
    let p = err_from_is_err_and c.from_residual.result c.from_residual.ensures.1 in
    rw (p.1, p.2) (one_refused c.args.levels c.args.bytes.now (text_field c.in-Some-default-empty.text.now) is _ c.in_err-text_of-in-Some-default-empty.ensures.fault)

pub fill_value-returns-in_ok-text_of-in-Some-default-empty-clause-value : goal.fill_value-returns-in_ok-text_of-in-Some-default-empty-clause-value
fill_value-returns-in_ok-text_of-in-Some-default-empty-clause-value t c =
    let left = none_left c.in-Some-default-empty.field-0-1.now c.in-Some-default-empty.len_below in
    let is = c.in-Some-default-empty.ensures.first ∙ ap (λ fs. text_field c.in-Some-default-empty.text.now ∷ fs) left.0 in
    let text = c.in_ok-text_of-in-Some-default-empty.ensures in
    let says = one_says c.args.levels c.args.bytes.now (text_field c.in-Some-default-empty.text.now) is in (
      one_is_fine c.args.levels c.args.bytes.now (text_field c.in-Some-default-empty.text.now) is (c.in-Some-default-empty.ensures.end ∙ left.1)
          (subst IsUtf8 (sym (ap (bytes_in []) text.ok)) text.fine),
      ap (λ value. values.Str (bytes_in [] value)) (sym text.ok) ∙ says,
    )

-- fill_value_by_field
pub fill_value_by_field-take_member-requires : goal.fill_value_by_field-take_member-requires
fill_value_by_field-take_member-requires t c =
    let short = one_is_short c.args.levels c.args.bytes.now (entry c.in-Some.field) c.in-Some.ensures.fields in
    (omega (arith, c.decreases, short), tt)

pub fill_value_by_field-returns-in-Some-clause-value : goal.fill_value_by_field-returns-in-Some-clause-value
fill_value_by_field-returns-in-Some-clause-value t c =
    let says = one_says c.args.levels c.args.bytes.now (entry c.in-Some.field) c.in-Some.ensures.fields in
    on_ok_weaker c.take_member.result
    (λ read. (
      one_is_fine c.args.levels c.args.bytes.now (entry c.in-Some.field) c.in-Some.ensures.fields c.in-Some.ensures.end read.1,
      read.0 ∙ ap (λ old. any_in (array_at c.args.levels) (map_at c.args.levels) old (entry c.in-Some.field)) c.requires ∙ says,
    ))
    (both c.take_member.result _ _ c.take_member.ensures.ok c.take_member.ensures.fine)

pub fill_value_by_field-returns-in-Some-clause-fault : goal.fill_value_by_field-returns-in-Some-clause-fault
fill_value_by_field-returns-in-Some-clause-fault t c =
    MatchResult-weaker c.take_member.result c.take_member.ensures.fault (λ u none. none)
    (one_refused c.args.levels c.args.bytes.now (entry c.in-Some.field) c.in-Some.ensures.fields)

pub fill_value_by_field-fields-init : goal.fill_value_by_field-fields-init
fill_value_by_field-fields-init t c = rw (c.into_iter-next-iterator.ensures.into_iter_gives, c.new-next-items.ensures, c.requires) (passes_none _ _ _ _ _ _ refl (same_all_over mark_limit false))

pub fill_value_by_field-returns-in_default-next-clause-fault : goal.fill_value_by_field-returns-in_default-next-clause-fault
fill_value_by_field-returns-in_default-next-clause-fault t c =
    let last = rw c.in_default-next.is at c.in-Some-next.ensures.steps in
    wire_error _ _ _ _ (c.fields.invariant.checked.end ∙ last.1)

pub fill_value_by_field-returns-then-seen-mark-clause-fault : goal.fill_value_by_field-returns-then-seen-mark-clause-fault
fill_value_by_field-returns-then-seen-mark-clause-fault t c =
    let first = rw c.in-Ok.is at c.in-Some-next.ensures.steps in
    let mark : c.row_of-mark.result.mark ≡ mark_of messages.AnyValue c.in-Ok.field.number = ap (λ (r : Row). r.mark) c.row_of-mark.ensures.row in
    twice_stands _ _ _ _ _ _ (entry c.in-Ok.field) c.fields.invariant.checked first.0
    (subst (λ (k : ℕ). slice_index_or c.fields.seen k false ≡ true) mark c.if-seen-mark.true)

pub fill_value_by_field-take_member-requires-in-fields : goal.fill_value_by_field-take_member-requires-in-fields
fill_value_by_field-take_member-requires-in-fields t c =
    let first = rw c.in-Ok.is at c.in-Some-next.ensures.steps in
    let occurs = first_occurs _ _ _ _ _ _ (entry c.in-Ok.field) c.fields.invariant.checked first.0 in
    let short : part_len (value_of c.in-Ok.field.value) < length c.args.bytes.now = value_is_shorter _ (entry c.in-Ok.field) occurs in
    (omega (arith, c.decreases), tt)

pub fill_value_by_field-fields-preserved : goal.fill_value_by_field-fields-preserved
fill_value_by_field-fields-preserved t c =
    let first = rw c.in-Ok.is at c.in-Some-next.ensures.steps in
    let mark : c.row_of-mark.result.mark ≡ mark_of messages.AnyValue c.in-Ok.field.number = ap (λ (r : Row). r.mark) c.row_of-mark.ensures.row in
    passes_more _ _ _ _ _ _ _ _ _ _ (entry c.in-Ok.field) c.row_of-mark.result.mark c.fields.invariant first mark
    c.row_of-mark.ensures.few c.if-seen-mark.false c.in_ok-take_member.ensures.ok c.in_ok-take_member.ensures.fine

pub fill_value_by_field-returns-in_err-take_member-clause-fault : goal.fill_value_by_field-returns-in_err-take_member-clause-fault
fill_value_by_field-returns-in_err-take_member-clause-fault t c =
    let first = rw c.in-Ok.is at c.in-Some-next.ensures.steps in
    let p = err_from_is_err_and c.from_residual.result c.from_residual.ensures.1 in
    rw (p.1, p.2) (refused_value _ _ _ _ _ _ _ _ _ (entry c.in-Ok.field) _ c.fields.invariant first c.in_err-take_member.ensures.fault)

pub fill_value_by_field-returns-clause-value : goal.fill_value_by_field-returns-clause-value
fill_value_by_field-returns-clause-value t c =
    let ends = c.in-None.ensures.steps in
    let all = passes_all _ _ _ _ _ _ _ _ c.fields.invariant (ends.0, ends.1) in
    (all.0, all.1 ∙ value_is c.args.levels c.args.bytes.now)

-- read_array
pub read_array-fields-init : goal.read_array-fields-init
read_array-fields-init t c = rw (c.into_iter-next-iterator.ensures.into_iter_gives, c.new-next-items.ensures, c.new-values.ensures) (passes_none _ _ _ _ _ _ refl (same_all_over mark_limit false))

pub read_array-returns-in_default-clause-fault : goal.read_array-returns-in_default-clause-fault
read_array-returns-in_default-clause-fault t c =
    let last = rw c.in_default.is at c.in-Some.ensures.steps in
    wire_error _ _ _ _ (c.fields.invariant.checked.end ∙ last.1)

pub read_array-returns-then-seen-mark-clause-fault : goal.read_array-returns-then-seen-mark-clause-fault
read_array-returns-then-seen-mark-clause-fault t c =
    let first = rw c.in-Ok.is at c.in-Some.ensures.steps in
    let mark : c.row_of-mark.result.mark ≡ mark_of messages.ArrayValue c.in-Ok.field.number = ap (λ (r : Row). r.mark) c.row_of-mark.ensures.row in
    twice_stands _ _ _ _ _ _ (entry c.in-Ok.field) c.fields.invariant.checked first.0
    (subst (λ (k : ℕ). slice_index_or c.fields.seen k false ≡ true) mark c.if-seen-mark.true)

pub read_array-take_array-requires : goal.read_array-take_array-requires
read_array-take_array-requires t c =
    let first = rw c.in-Ok.is at c.in-Some.ensures.steps in
    let occurs = first_occurs _ _ _ _ _ _ (entry c.in-Ok.field) c.fields.invariant.checked first.0 in
    let short : part_len (value_of c.in-Ok.field.value) < length c.args.bytes.now = value_is_shorter _ (entry c.in-Ok.field) occurs in
    (omega (arith, c.decreases), tt)

pub read_array-fields-preserved : goal.read_array-fields-preserved
read_array-fields-preserved t c =
    let first = rw c.in-Ok.is at c.in-Some.ensures.steps in
    let mark : c.row_of-mark.result.mark ≡ mark_of messages.ArrayValue c.in-Ok.field.number = ap (λ (r : Row). r.mark) c.row_of-mark.ensures.row in
    passes_more _ _ _ _ _ _ _ _ _ _ (entry c.in-Ok.field) c.row_of-mark.result.mark c.fields.invariant first mark
    c.row_of-mark.ensures.few c.if-seen-mark.false c.in_ok-take_array.ensures.ok c.in_ok-take_array.ensures.fine

pub read_array-returns-in_err-take_array-clause-fault : goal.read_array-returns-in_err-take_array-clause-fault
read_array-returns-in_err-take_array-clause-fault t c =
    let first = rw c.in-Ok.is at c.in-Some.ensures.steps in
    let p = err_from_is_err_and c.from_residual.result c.from_residual.ensures.1 in
    rw (p.1, p.2) (refused_value _ _ _ _ _ _ _ _ _ (entry c.in-Ok.field) _ c.fields.invariant first c.in_err-take_array.ensures.fault)

pub read_array-returns-clause-value : goal.read_array-returns-clause-value
read_array-returns-clause-value t c =
    let ends = c.in-None.ensures.steps in
    let all = passes_all _ _ _ _ _ _ _ _ c.fields.invariant (ends.0, ends.1) in
    (all.0, all.1 ∙ array_is c.args.levels c.args.bytes.now)

-- read_map
pub read_map-fields-init : goal.read_map-fields-init
read_map-fields-init t c = rw (c.into_iter-next-iterator.ensures.into_iter_gives, c.new-next-items.ensures, c.new-pairs.ensures) (passes_none _ _ _ _ _ _ refl (same_all_over mark_limit false))

pub read_map-returns-in_default-clause-fault : goal.read_map-returns-in_default-clause-fault
read_map-returns-in_default-clause-fault t c =
    let last = rw c.in_default.is at c.in-Some.ensures.steps in
    wire_error _ _ _ _ (c.fields.invariant.checked.end ∙ last.1)

pub read_map-returns-then-seen-mark-clause-fault : goal.read_map-returns-then-seen-mark-clause-fault
read_map-returns-then-seen-mark-clause-fault t c =
    let first = rw c.in-Ok.is at c.in-Some.ensures.steps in
    let mark : c.row_of-mark.result.mark ≡ mark_of messages.KeyValueList c.in-Ok.field.number = ap (λ (r : Row). r.mark) c.row_of-mark.ensures.row in
    twice_stands _ _ _ _ _ _ (entry c.in-Ok.field) c.fields.invariant.checked first.0
    (subst (λ (k : ℕ). slice_index_or c.fields.seen k false ≡ true) mark c.if-seen-mark.true)

pub read_map-take_map-requires : goal.read_map-take_map-requires
read_map-take_map-requires t c =
    let first = rw c.in-Ok.is at c.in-Some.ensures.steps in
    let occurs = first_occurs _ _ _ _ _ _ (entry c.in-Ok.field) c.fields.invariant.checked first.0 in
    let short : part_len (value_of c.in-Ok.field.value) < length c.args.bytes.now = value_is_shorter _ (entry c.in-Ok.field) occurs in
    (omega (arith, c.decreases), tt)

pub read_map-fields-preserved : goal.read_map-fields-preserved
read_map-fields-preserved t c =
    let first = rw c.in-Ok.is at c.in-Some.ensures.steps in
    let mark : c.row_of-mark.result.mark ≡ mark_of messages.KeyValueList c.in-Ok.field.number = ap (λ (r : Row). r.mark) c.row_of-mark.ensures.row in
    passes_more _ _ _ _ _ _ _ _ _ _ (entry c.in-Ok.field) c.row_of-mark.result.mark c.fields.invariant first mark
    c.row_of-mark.ensures.few c.if-seen-mark.false c.in_ok-take_map.ensures.ok c.in_ok-take_map.ensures.fine

pub read_map-returns-in_err-take_map-clause-fault : goal.read_map-returns-in_err-take_map-clause-fault
read_map-returns-in_err-take_map-clause-fault t c =
    let first = rw c.in-Ok.is at c.in-Some.ensures.steps in
    let p = err_from_is_err_and c.from_residual.result c.from_residual.ensures.1 in
    rw (p.1, p.2) (refused_value _ _ _ _ _ _ _ _ _ (entry c.in-Ok.field) _ c.fields.invariant first c.in_err-take_map.ensures.fault)

pub read_map-returns-clause-value : goal.read_map-returns-clause-value
read_map-returns-clause-value t c =
    let ends = c.in-None.ensures.steps in
    let all = passes_all _ _ _ _ _ _ _ _ c.fields.invariant (ends.0, ends.1) in
    (all.0, all.1 ∙ map_is c.args.levels c.args.bytes.now)

-- fill_pair
pub fill_pair-returns-in_err-set_text-clause-fault : goal.fill_pair-returns-in_err-set_text-clause-fault
fill_pair-returns-in_err-set_text-clause-fault t c =
    let p = err_from_is_err_and c.from_residual.result c.from_residual.ensures.1 in
    rw (p.1, p.2) (key_refused c.args.levels c.args.bytes.now c.in-Some.key.now c.in-Some.value.now c.in-Some.ensures.fields _ c.in_err-set_text.ensures.fault)

pub fill_pair-fill_value-requires : goal.fill_pair-fill_value-requires
fill_pair-fill_value-requires t c =
    let short = value_is_short c.args.levels c.args.bytes.now c.in-Some.key.now c.in-Some.value.now c.in-Some.ensures.fields in
    (omega (arith, c.decreases, short), ap (λ (p : Pair). p.value) c.requires)

pub fill_pair-returns-clause-value : goal.fill_pair-returns-clause-value
fill_pair-returns-clause-value t c =
    let text = c.in_ok-set_text.ensures in
    on_ok_weaker c.fill_value.result
    (λ said. (
      pair_is_fine c.args.levels c.args.bytes.now c.in-Some.key.now c.in-Some.value.now c.in-Some.ensures.fields c.in-Some.ensures.end (subst IsUtf8 (sym (ap (bytes_in []) text.ok)) text.fine) said.0,
      pair_says c.args.levels c.args.bytes.now c.in-Some.key.now c.in-Some.value.now c.in-Some.ensures.fields _ text.ok said.1,
    ))
    c.fill_value.ensures.value

pub fill_pair-returns-clause-fault : goal.fill_pair-returns-clause-fault
fill_pair-returns-clause-fault t c =
    MatchResult-weaker c.fill_value.result c.fill_value.ensures.fault (λ u none. none) (value_refused c.args.levels c.args.bytes.now c.in-Some.key.now c.in-Some.value.now c.in-Some.ensures.fields)

-- fill_pair_by_field
pub fill_pair_by_field-fields-init : goal.fill_pair_by_field-fields-init
fill_pair_by_field-fields-init t c = rw (c.into_iter-next-iterator.ensures.into_iter_gives, c.new-next-items.ensures, c.requires) (passes_none _ _ _ _ _ _ refl (same_all_over mark_limit false))

pub fill_pair_by_field-returns-in_default-clause-fault : goal.fill_pair_by_field-returns-in_default-clause-fault
fill_pair_by_field-returns-in_default-clause-fault t c =
    let last = rw c.in_default.is at c.in-Some.ensures.steps in
    wire_error _ _ _ _ (c.fields.invariant.checked.end ∙ last.1)

pub fill_pair_by_field-returns-then-seen-mark-clause-fault : goal.fill_pair_by_field-returns-then-seen-mark-clause-fault
fill_pair_by_field-returns-then-seen-mark-clause-fault t c =
    let first = rw c.in-Ok.is at c.in-Some.ensures.steps in
    let mark : c.row_of-mark.result.mark ≡ mark_of messages.KeyValue c.in-Ok.field.number = ap (λ (r : Row). r.mark) c.row_of-mark.ensures.row in
    twice_stands _ _ _ _ _ _ (entry c.in-Ok.field) c.fields.invariant.checked first.0
    (subst (λ (k : ℕ). slice_index_or c.fields.seen k false ≡ true) mark c.if-seen-mark.true)

pub fill_pair_by_field-take_pair-requires : goal.fill_pair_by_field-take_pair-requires
fill_pair_by_field-take_pair-requires t c =
    let first = rw c.in-Ok.is at c.in-Some.ensures.steps in
    let occurs = first_occurs _ _ _ _ _ _ (entry c.in-Ok.field) c.fields.invariant.checked first.0 in
    let short : part_len (value_of c.in-Ok.field.value) < length c.args.bytes.now = value_is_shorter _ (entry c.in-Ok.field) occurs in
    (omega (arith, c.decreases), tt)

pub fill_pair_by_field-fields-preserved : goal.fill_pair_by_field-fields-preserved
fill_pair_by_field-fields-preserved t c =
    let first = rw c.in-Ok.is at c.in-Some.ensures.steps in
    let mark : c.row_of-mark.result.mark ≡ mark_of messages.KeyValue c.in-Ok.field.number = ap (λ (r : Row). r.mark) c.row_of-mark.ensures.row in
    passes_more _ _ _ _ _ _ _ _ _ _ (entry c.in-Ok.field) c.row_of-mark.result.mark c.fields.invariant first mark
    c.row_of-mark.ensures.few c.if-seen-mark.false c.in_ok-take_pair.ensures.ok c.in_ok-take_pair.ensures.fine

pub fill_pair_by_field-returns-in_err-take_pair-clause-fault : goal.fill_pair_by_field-returns-in_err-take_pair-clause-fault
fill_pair_by_field-returns-in_err-take_pair-clause-fault t c =
    let first = rw c.in-Ok.is at c.in-Some.ensures.steps in
    let p = err_from_is_err_and c.from_residual.result c.from_residual.ensures.1 in
    rw (p.1, p.2) (refused_value _ _ _ _ _ _ _ _ _ (entry c.in-Ok.field) _ c.fields.invariant first c.in_err-take_pair.ensures.fault)

pub fill_pair_by_field-returns-clause-value : goal.fill_pair_by_field-returns-clause-value
fill_pair_by_field-returns-clause-value t c =
    let ends = c.in-None.ensures.steps in
    let all = passes_all _ _ _ _ _ _ _ _ c.fields.invariant (ends.0, ends.1) in
    (all.0, all.1 ∙ pair_is c.args.levels c.args.bytes.now)

pub take_array-returns-in_ok-value-in-1-Bytes-2-clause-fault : goal.take_array-returns-in_ok-value-in-1-Bytes-2-clause-fault
take_array-returns-in_ok-value-in-1-Bytes-2-clause-fault t c =
    rw (c.in-1-Bytes.is-0, c.in-1-Bytes-2.is-1)
    (MatchResult-weaker c.fill_value.result c.fill_value.ensures.fault (λ u none. none)
    (λ refusal. names_map refusal (Stands messages.AnyValue (c.args.levels - 1) c.in-1-Bytes-2.part.now) (ValueStands (kinds.Member messages.AnyValue) c.args.levels (wire.Bytes c.in-1-Bytes-2.part.now))
    (λ e h. member_stands messages.AnyValue c.args.levels c.in-1-Bytes-2.part.now e c.if-levels-eq0.false h)))

pub take_map-returns-in_ok-pair-in-1-Bytes-2-clause-fault : goal.take_map-returns-in_ok-pair-in-1-Bytes-2-clause-fault
take_map-returns-in_ok-pair-in-1-Bytes-2-clause-fault t c =
    rw (c.in-1-Bytes.is-0, c.in-1-Bytes-2.is-1)
    (MatchResult-weaker c.fill_pair.result c.fill_pair.ensures.fault (λ u none. none)
    (λ refusal. names_map refusal (Stands messages.KeyValue (c.args.levels - 1) c.in-1-Bytes-2.part.now) (ValueStands (kinds.Member messages.KeyValue) c.args.levels (wire.Bytes c.in-1-Bytes-2.part.now))
    (λ e h. member_stands messages.KeyValue c.args.levels c.in-1-Bytes-2.part.now e c.if-levels-eq0.false h)))
