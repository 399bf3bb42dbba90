use Rattle.std.proofs.Common.{Result, ◌-◌, List, Ok, sym, ap, ◌∙◌, arith}
use Rattle.std.proofs.lemmas.Result.{err_from_is_err_and}
use Rattle.arrow_schema.specs.declared.spec.FieldSpec.{FieldSpec}
use Rattle.lists.specs.Results.{◌>>=◌}
use Rattle.arrow_schema.specs.declared.refusal.SchemaRefusal.{SchemaRefusal}
use Rattle.arrow_schema.specs.Trees.{names_differ}
use Rattle.arrow_schema.specs.Reading.{FieldsRead, with_own_names, field_of, vector_of}
use Rattle.arrow_schema.proofs.Loop.{goes_on, fails_into, element_fails, field_fails, no_element, is_done, empty_vector, many_fields, deep_fields, inner_fields, own_names, shared_names}
use Rattle.arrow_schema.proofs.reading.+read.Goals as goal

pub read_elements-returns-in_err-table : goal.read_elements-returns-in_err-table
read_elements-returns-in_err-table t c =
    let p = err_from_is_err_and c.from_residual.result c.from_residual.ensures.1 in
    rw (p.1, p.2) (element_fails (field_of (vector_of c.args.depth)) c.args.vector.now c.loop-place.fields c.args.vector.now.count c.loop-place.place c.loop-place.left c.in_err-table.field-0.0 _
    (omega arith) (sym c.in_err-table.ensures) c.loop-place.invariant)

pub read_elements-returns-in-None : goal.read_elements-returns-in-None
read_elements-returns-in-None t c =
    no_element (field_of (vector_of c.args.depth)) c.args.vector.now c.loop-place.fields c.args.vector.now.count c.loop-place.place c.loop-place.left _
    (omega arith) (sym c.in_ok-table.ensures ∙ ap Ok c.in-None.is) c.loop-place.invariant

pub read_elements-returns-in_err-field : goal.read_elements-returns-in_err-field
read_elements-returns-in_err-field t c =
    let p = err_from_is_err_and c.from_residual-in_err-field.result c.from_residual-in_err-field.ensures.1 in
    rw (p.1, p.2) (fails_into c.in_err-field.field-0.0 _ _
    (field_fails (field_of (vector_of c.args.depth)) c.args.vector.now c.loop-place.fields c.args.vector.now.count c.loop-place.place c.loop-place.left c.in-Some.table c.in_err-field.field-0.0 _
    (omega arith) (sym c.in_ok-table.ensures ∙ ap Ok c.in-Some.is) c.loop-place.invariant)
    c.in_err-field.ensures)

pub read_elements-loop-place-preserved : goal.read_elements-loop-place-preserved
read_elements-loop-place-preserved t c =
    rw c.in_ok-push.ensures.ok (goes_on (field_of (vector_of c.args.depth)) c.args.vector.now c.loop-place.fields c.args.vector.now.count c.loop-place.place c.loop-place.left c.in_ok-field.rest
    c.in-Some.table c.in_ok-field.field _ (omega arith) (sym c.in_ok-table.ensures ∙ ap Ok c.in-Some.is) c.in_ok-field.ensures c.loop-place.invariant)

pub read_elements-returns : goal.read_elements-returns
read_elements-returns t c =
    is_done (field_of (vector_of c.args.depth)) c.args.vector.now c.loop-place.fields c.args.vector.now.count c.loop-place.place c.loop-place.left _ (omega arith) c.loop-place.invariant

pub read_vector-returns-then-len-eq0 : goal.read_vector-returns-then-len-eq0
read_vector-returns-then-len-eq0 t c =
    empty_vector c.args.depth c.args.left c.args.vector.now (omega arith) ∙ ap (λ (fields : List FieldSpec). Ok (fields, c.args.left)) (sym c.new.ensures)

pub read_vector-returns-then-len-left : goal.read_vector-returns-then-len-left
read_vector-returns-then-len-left t c = many_fields c.args.depth c.args.left c.args.vector.now (omega arith)

pub read_vector-returns-then-depth-eq0 : goal.read_vector-returns-then-depth-eq0
read_vector-returns-then-depth-eq0 t c = deep_fields c.args.depth c.args.left c.args.vector.now (omega arith) (omega arith) (omega arith)

pub read_vector-returns-in_err-fields : goal.read_vector-returns-in_err-fields
read_vector-returns-in_err-fields t c =
    let p = err_from_is_err_and c.from_residual.result c.from_residual.ensures.1 in
    let inner = inner_fields c.args.depth c.args.left (c.args.depth - 1) (c.args.left - c.len-3.result) c.args.vector.now (omega arith) (omega arith) (omega arith) in
    rw (p.1, p.2) (fails_into c.in_err-fields.field-0.0 _ (vector_of c.args.depth c.args.left c.args.vector.now)
    (λ e. inner ∙ ap (λ (fields : Result FieldsRead SchemaRefusal). fields >>= with_own_names) e) c.in_err-fields.ensures)

pub read_vector-returns-then-not-names_differ : goal.read_vector-returns-then-not-names_differ
read_vector-returns-then-not-names_differ t c =
    inner_fields c.args.depth c.args.left (c.args.depth - 1) (c.args.left - c.len-3.result) c.args.vector.now (omega arith) (omega arith) (omega arith)
    ∙ shared_names c.in_ok-fields.fields c.in_ok-fields.left _ c.in_ok-fields.ensures
    (ap names_differ (sym c.as_slice.ensures) ∙ sym c.if-not-names_differ.ensures)

pub read_vector-returns : goal.read_vector-returns
read_vector-returns t c =
    inner_fields c.args.depth c.args.left (c.args.depth - 1) (c.args.left - c.len-3.result) c.args.vector.now (omega arith) (omega arith) (omega arith)
    ∙ own_names c.in_ok-fields.fields c.in_ok-fields.left _ c.in_ok-fields.ensures
    (ap names_differ (sym c.as_slice.ensures) ∙ sym c.if-not-names_differ.ensures)
