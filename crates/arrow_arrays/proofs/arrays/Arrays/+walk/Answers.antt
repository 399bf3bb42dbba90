use Rattle.std.proofs.Common.{◌≡◌, ◌+◌, ◌∙◌, ℕ, List, length, OnOk, ap, subst, arith}
use Rattle.arrow_schema.specs.Trees.{field_count, count_of, name_in, kind_in, dict_in, encoding_in, children_in}
use Rattle.arrow_schema.proofs.Folds.{count_in_is}
use Rattle.arrow_schema.proofs.FieldTrees.{counts_in}
use Rattle.arrow_arrays.specs.declared.spec.ArraySpec.{ArraySpec}
use Rattle.arrow_arrays.specs.Arrays.{above_children, array_after}
use Rattle.arrow_arrays.proofs.Walking.{field_step, length_one_more, count_step}
use Rattle.arrow_arrays.proofs.arrays.Arrays.+walk.Goals as goal

pub add_field-add_fields-requires : goal.add_field-add_fields-requires
add_field-add_fields-requires t c =
    let f = c.args.field.now in
    let old = c.args.self.now in
    let count = count_in_is f in
    let below : count_of c.as_slice.result.now ≡ count_of (children_in f) = ap count_of c.as_slice.ensures in
    let len : length c.push.new.self ≡ length old + 1 = length_one_more old c.push.new.self (array_after old c.args.above (name_in f) (kind_in f) (dict_in f) (encoding_in f)) c.in_ok-push.ensures in
    (omega (arith, count, below), omega (arith, count, below, len, c.requires))

pub add_field-returns-clause-arrays : goal.add_field-returns-clause-arrays
add_field-returns-clause-arrays t c =
    let f = c.args.field.now in
    let old = c.args.self.now in
    let len : c.len.result ≡ length old = grind arith in
    let below : c.of_children-below.result ≡ above_children (kind_in f) (length old) = c.of_children-below.ensures ∙ ap (above_children (kind_in f)) len in
    subst (λ (all : List ArraySpec). OnOk c.add_fields.result (c.add_fields.new.self ≡ all))
    (field_step f c.args.above c.of_children-below.result old c.push.new.self c.as_slice.result.now c.as_slice.ensures below c.in_ok-push.ensures)
    c.add_fields.ensures.arrays

pub add_field-returns-clause-len : goal.add_field-returns-clause-len
add_field-returns-clause-len t c =
    let f = c.args.field.now in
    let old = c.args.self.now in
    let count = count_in_is f in
    let below : count_of c.as_slice.result.now ≡ count_of (children_in f) = ap count_of c.as_slice.ensures in
    let len : length c.push.new.self ≡ length old + 1 = length_one_more old c.push.new.self (array_after old c.args.above (name_in f) (kind_in f) (dict_in f) (encoding_in f)) c.in_ok-push.ensures in
    let all : length c.push.new.self + count_of c.as_slice.result.now ≡ length old + field_count f = omega (arith, count, below, len) in
    subst (λ (n : ℕ). OnOk c.add_fields.result (length c.add_fields.new.self ≡ n)) all c.add_fields.ensures.len

pub add_fields-add_field-requires : goal.add_fields-add_field-requires
add_fields-add_field-requires t c =
    let fields = c.args.fields.now in
    let i = c.loop-field.field-index in
    let f = c.field-item.result in
    let more = count_step fields i f (omega arith) c.field-item.is in
    let within = counts_in fields i f (omega arith) c.field-item.is in
    (omega (arith, within), omega (arith, c.loop-field.invariant.count, c.requires, more))
