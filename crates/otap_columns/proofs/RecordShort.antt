-- How long the record of a table is at most.
use Rattle.std.proofs.Common.{◌≡◌, ℕ, ◌+◌, ◌*◌, ◌≤◌, true, List, [], ◌++◌, length, map, refl, ap, arith, length-append}
use Rattle.std.specs.Prelude.{sum_by, Result, Ok, Err, OnOk}
use Rattle.std.specs.List.{range_with_len}
use Rattle.std.proofs.lemmas.Bool.{leb-true}
use Rattle.std.proofs.lemmas.List.Sums.{sum_by_push}
use Rattle.arrow_buffers.proofs.Joining.{range-more}
use Rattle.arrow_schema.specs.declared.spec.FieldSpec.{FieldSpec}
use Rattle.arrow_schema.specs.Trees.{sum_of}
use Rattle.arrow_ipc.specs.declared.messages.IpcMessage.{IpcMessage}
use Rattle.arrow_ipc.specs.Written.{Appends, AppendsSchema, most_of_schema}
use Rattle.otap_cells.specs.declared.payload.Kind.{Kind}
use Rattle.otap_cells.specs.Columns.{ColumnSpec, column_at, columns_of, width_of}
use Rattle.otap_cells.specs.Tables.{Table}
use Rattle.otap_columns.specs.declared.forms.ColumnForm.{ColumnForm}
use Rattle.otap_columns.specs.declared.forms.ColumnForm.TheVariants as form
use Rattle.otap_cells.specs.Groups.{grouped}
use Rattle.otap_columns.specs.Limits.{dictionary_columns, record_limit, head_limit, schema_most}
use Rattle.otap_columns.specs.Schemas.{Forms, FormsFit, fits_form, schema_for}
use Rattle.otap_columns.specs.BuiltCells.{rows_most}
use Rattle.otap_columns.specs.WrittenRecords.{AddsAtMost, head_most, heads_most}
use Rattle.otap_columns.proofs.Counting.{kinds_counted, mark}
use Rattle.otap_columns.proofs.Grouping.{group_size}
use Rattle.otap_columns.proofs.Keeping.{fields_few}
use Rattle.otap_columns.proofs.NamesShort.{names_short}
use Rattle.otap_columns.proofs.Summing.{sum_of-less, sum_of-times}

-- ---- one more message

appended : (written old new : List ℕ) (most : ℕ) → new ≡ old ++ written → length written ≤ most → AddsAtMost most old new
appended written old new most whole few = omega (arith, ap length whole, length-append old written, few)

pub message_ok : {E : Type 0} (m : IpcMessage) (limit most : ℕ) (old new : List ℕ) (r : Result (Unit {0}) E) → most ≤ limit → OnOk r (Appends m most old new) → OnOk r (AddsAtMost limit old new)
message_ok m limit most old new (Ok x) short appends = appended appends.written old new limit appends.whole (omega (arith, appends.few, short))
message_ok m limit most old new (Err e) short appends = tt

-- a schema
schema_short : (kind : Kind) (forms : Forms) → FormsFit kind forms → most_of_schema (schema_for kind forms) ≤ schema_most
schema_short kind forms fit =
    omega (arith, names_short kind forms, fields_few kind forms fit, leb-true (sum_of (map (group_size (columns_of kind)) (grouped (columns_of kind)))) 32 (kinds_counted kind).fields)

pub opening_ok : {E : Type 0} (kind : Kind) (forms : Forms) (schema : List FieldSpec) (old new : List ℕ) (r : Result (Unit {0}) E) → FormsFit kind forms → schema ≡ schema_for kind forms
    → OnOk r (AppendsSchema schema old new) → OnOk r (AddsAtMost schema_most old new)
opening_ok kind forms schema old new (Ok x) fit is appends =
    appended appends.written old new schema_most appends.whole (omega (arith, appends.few, ap most_of_schema is, schema_short kind forms fit))
opening_ok kind forms schema old new (Err e) fit is appends = tt

-- ---- dictionaries

pub heads_short : (forms : Forms) (n : ℕ) (a b c : List ℕ) → AddsAtMost (heads_most forms n) a b → AddsAtMost (head_most (forms n)) b c → AddsAtMost (heads_most forms (n + 1)) a c
heads_short forms n a b c before one =
    omega (arith, before, one, ap (sum_by (λ (column : ℕ). head_most (forms column))) (range-more n), sum_by_push (λ (column : ℕ). head_most (forms column)) (range_with_len 0 n) n)

-- a column in a dictionary's form may be one
head_marked : (c : ColumnSpec) (f : ColumnForm) → fits_form c f ≡ true → head_most f ≤ mark c * head_limit
head_marked c form.Dict8 fits = let marked : mark c ≡ 1 = rw fits refl in omega (arith, marked)
head_marked c form.Dict16 fits = let marked : mark c ≡ 1 = rw fits refl in omega (arith, marked)
head_marked c form.Absent fits = omega arith
head_marked c form.Plain fits = omega arith
head_marked c form.Wide fits = omega arith
head_marked c (form.Coded how) fits = omega arith

heads_marked : (kind : Kind) (forms : Forms) → FormsFit kind forms → heads_most forms (width_of kind) ≤ head_limit * dictionary_columns kind
heads_marked kind forms fit =
    omega (
      arith,
      sum_of-less (λ column. head_most (forms column)) (λ column. mark (column_at kind column) * head_limit) 0 (width_of kind)
          (λ column low. head_marked (column_at kind column) (forms column) (fit column (omega (arith, low)))),
      sum_of-times (λ (column : ℕ). mark (column_at kind column)) head_limit (range_with_len 0 (width_of kind)),
      (kinds_counted kind).marked,
    )

-- THE WHOLE RECORD
pub record_short : (t : Table) (forms : Forms) (a b : List ℕ) (rows : ℕ) (new : List ℕ) → FormsFit t.kind forms → AddsAtMost schema_most [] a → AddsAtMost (heads_most forms (width_of t.kind)) a b → rows ≤ rows_most t
    → AddsAtMost rows b new → length new ≤ record_limit t
record_short t forms a b rows new fit first heads few last = omega (arith, first, heads, few, last, heads_marked t.kind forms fit)

pub appended_rows : (m : IpcMessage) (most : ℕ) (old new : List ℕ) → Appends m most old new → AddsAtMost most old new
appended_rows m most old new appends = appended appends.written old new most appends.whole appends.few
