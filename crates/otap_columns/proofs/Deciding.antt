-- Each record is read, or has a defect.
use Rattle.std.proofs.Common.{◌≡◌, ℕ, suc, Bool, true, false, List, [], ◌∷◌, ◌++◌, Result, Ok, Err, refl, sym, ap, ◌∙◌, subst, arith, ◌⊎◌, inl, inr}
use Rattle.std.specs.Prelude.{ℤ, not, is_ok}
use Rattle.std.specs.List.{list_any, list_all}
use Rattle.std.proofs.lemmas.Bool.{cases_Bool, false≢true, or_parts, not-false}
use Rattle.lists.specs.EachAfter.{AllAfter}
use Rattle.arrow_schema.specs.declared.spec.FieldSpec.{FieldSpec}
use Rattle.arrow_buffers.specs.declared.fault.BufferFault.{BufferFault}
use Rattle.arrow_ipc.specs.declared.messages.IpcMessage.{IpcMessage}
use Rattle.arrow_ipc.specs.declared.messages.IpcMessage.TheVariants.{Schema, Dictionary, Rows}
use Rattle.arrow_ipc.specs.Batches.{BatchIn}
use Rattle.arrow_ipc.specs.Fronts.{front_of}
use Rattle.arrow_ipc.proofs.Fronting.{front_ends}
use Rattle.arrow_arrays.specs.Arrays.{arrays_of, arrays_check}
use Rattle.arrow_arrays.specs.Cells.{array_check, place_of_values}
use Rattle.arrow_arrays.specs.Faults.{IsArrayFault}
use Rattle.arrow_arrays.proofs.Checked.{first_fault}
use Rattle.arrow_arrays.proofs.FaultsNamed.{named}
use Rattle.otap_cells.specs.declared.payload.Kind.{Kind}
use Rattle.otap_columns.specs.declared.refusal.ColumnRefusal.TheVariants.{Order, Ipc, Column, Buffers, BadIndex, DictionarySize}
use Rattle.otap_columns.specs.Dictionaries.{DictionaryIn, has_id, all_grown, is_too_large}
use Rattle.otap_columns.specs.Known.{columns_fit}
use Rattle.otap_columns.specs.Reading.{opened, with_batch}
use Rattle.otap_columns.specs.Records.{is_rows, is_fine_for, HasValueFault, begins_otherwise, more_after_rows, no_rows, ends_badly, other_type, bad_buffers, IsRead, IsJudged, HasSchema, CanGoOn, IsFine}
use Rattle.otap_columns.specs.Substreams.{SubstreamIn, schema_in, substream_of, indexes_fit}
use Rattle.otap_columns.proofs.Excluding.{not_first}
use Rattle.otap_columns.proofs.Growing.{substream_from, schema_in-stays}
use Rattle.otap_columns.proofs.Judging.{Read, read_more, takes_batch, order_refused, batch_refused, rows_refused, read_is, read_on, read_schema}

-- ---- what isn't fine has a fault

failed : {A : Type 0} (r : Result A BufferFault) → is_ok r ≡ false → (fault : BufferFault) × (r ≡ Err fault)
failed (Ok x) h = absurd (false≢true (sym h))
failed (Err fault) h = (fault, refl)

pub record IsFaulty (id : ℤ) (batch : BatchIn) (d : DictionaryIn) : Type 0 where
  pub own : has_id id d ≡ true
  pub fault : BufferFault
  pub is : IsArrayFault batch (place_of_values d.kind) fault

not_fine : (id : ℤ) (batch : BatchIn) (d : DictionaryIn) → is_fine_for id batch d ≡ false → IsFaulty id batch d
not_fine id batch d h =
    let parts : (not (has_id id d) ≡ false) × (is_ok (array_check batch (place_of_values d.kind)) ≡ false) = or_parts (not (has_id id d)) (is_ok (array_check batch (place_of_values d.kind))) h in
    let f : (fault : BufferFault) × (array_check batch (place_of_values d.kind) ≡ Err fault) = failed (array_check batch (place_of_values d.kind)) parts.1 in
    record { own = not-false (has_id id d) parts.0; fault = f.0; is = named batch (place_of_values d.kind) f.0 f.1 }

values_fail : (id : ℤ) (batch : BatchIn) (ds : List DictionaryIn) → list_all (is_fine_for id batch) ds ≡ false → (fault : BufferFault) × HasValueFault ds id batch fault
values_fail id batch [] h = absurd (false≢true (sym h))
values_fail id batch (d ∷ ds) h = by_test (cases_Bool (is_fine_for id batch d)) (values_fail id batch ds)
  where
    by_test : (is_fine_for id batch d ≡ true) ⊎ (is_fine_for id batch d ≡ false) → (list_all (is_fine_for id batch) ds ≡ false → (fault : BufferFault) × HasValueFault ds id batch fault)
        → (fault : BufferFault) × HasValueFault (d ∷ ds) id batch fault
    by_test (inl fine) later =
        let rest : (fault : BufferFault) × HasValueFault ds id batch fault = later (rw fine at h) in
        (rest.0, further rest.0 rest.1)
      where
        further : (fault : BufferFault) → HasValueFault ds id batch fault → HasValueFault (d ∷ ds) id batch fault
        further fault (k, e, below, at, bad) = (suc k, e, omega (arith, below), at, bad)
    by_test (inr bad) later =
        let f : IsFaulty id batch d = not_fine id batch d bad in
        (f.fault, (0, d, omega arith, refl, (f.own, f.is)))

-- ---- message by message

module _ (kind : Kind) (past : List IpcMessage) (bytes : List ℕ) (read : List IpcMessage) (s : SubstreamIn) where
  at_end : Read kind past bytes read [] s → IsJudged kind past bytes
  at_end r =
      elim (front_ends bytes) [
        | inl end ↦ inr (Order, order_refused kind past bytes read [] s r Order (inl (refl, end)))
        | inr bad ↦ inr (Ipc bad.0, ends_badly bad.0 bad.1)
      ]

  at_schema : (fields : List FieldSpec) (after : List IpcMessage) → Read kind past bytes read (Schema fields ∷ after) s → IsJudged kind past bytes
  at_schema fields after r = inr (Order, order_refused kind past bytes read (Schema fields ∷ after) s r Order (inr (Schema fields, after, refl, refl)))

  at_batch : (id : ℤ) (delta : Bool) (batch : BatchIn) (after : List IpcMessage) → Read kind past bytes read (Dictionary id delta batch ∷ after) s
      → (Read kind past bytes (read ++ Dictionary id delta batch ∷ []) after (with_batch id delta batch s) → IsJudged kind past bytes) → IsJudged kind past bytes
  at_batch id delta batch after r next =
      elim (cases_Bool (list_any (has_id id) s.dictionaries)) [
        | inr unknown ↦ inr (
          Order,
          batch_refused kind past bytes read (Dictionary id delta batch ∷ after) s r Order
              (record { id = id; delta = delta; batch = batch; after = after; first = refl; refuses = unknown }),
        )
        | inl known ↦ elim (cases_Bool (list_all (is_fine_for id batch) s.dictionaries)) [
          | inr bad ↦ inr (
            Buffers (values_fail id batch s.dictionaries bad).0,
            batch_refused kind past bytes read (Dictionary id delta batch ∷ after) s r (Buffers (values_fail id batch s.dictionaries bad).0)
                (record { id = id; delta = delta; batch = batch; after = after; first = refl; refuses = (values_fail id batch s.dictionaries bad).1 }),
          )
          | inl fine ↦ elim (cases_Bool (list_any is_too_large (all_grown id delta batch s.dictionaries))) [
            | inl many ↦ inr (
              DictionarySize,
              batch_refused kind past bytes read (Dictionary id delta batch ∷ after) s r DictionarySize
                  (record { id = id; delta = delta; batch = batch; after = after; first = refl; refuses = many }),
            )
            | inr few ↦ next (read_more kind past bytes read (Dictionary id delta batch ∷ after) s (Dictionary id delta batch ∷ []) after (with_batch id delta batch s) r
                (takes_batch s id delta batch (record { known = known; fine = fine; few = few })) refl)
          ]
        ]
      ]

  at_rows : (batch : BatchIn) (after : List IpcMessage) → Read kind past bytes read (Rows batch ∷ after) s → IsJudged kind past bytes
  at_rows batch after r = by_check (arrays_check batch s.arrays) refl
    where
      last_one : Read kind past bytes read (Rows batch ∷ []) s → arrays_check batch s.arrays ≡ Ok tt → IsJudged kind past bytes
      last_one q fine =
          elim (front_ends bytes) [
            | inr bad ↦ inr (Ipc bad.0, ends_badly bad.0 bad.1)
            | inl end ↦ elim (cases_Bool (indexes_fit s batch)) [
              | inl indexes ↦ inl (read_is kind past bytes read batch s q end (record { fine = fine; indexes = indexes }))
              | inr wrong ↦ inr (BadIndex, rows_refused kind past bytes read (Rows batch ∷ []) s q BadIndex batch refl (fine, wrong))
            ]
          ]

      fine_rows : (after : List IpcMessage) → Read kind past bytes read (Rows batch ∷ after) s → arrays_check batch s.arrays ≡ Ok tt → IsJudged kind past bytes
      fine_rows [] q fine = last_one q fine
      fine_rows (m ∷ later) q fine = inr (Order, more_after_rows read later batch m q.front)

      by_check : (c : Result (Unit {0}) BufferFault) → arrays_check batch s.arrays ≡ c → IsJudged kind past bytes
      by_check (Err fault) bad = inr (Buffers fault, bad_buffers read after (Rows batch) fault s r.front r.stands (first_fault batch s.arrays fault bad))
      by_check (Ok u) fine = fine_rows after r fine

judged_from : (kind : Kind) (past : List IpcMessage) (bytes : List ℕ) (read rest : List IpcMessage) (s : SubstreamIn) → Read kind past bytes read rest s → IsJudged kind past bytes
judged_from kind past bytes read [] s r = at_end kind past bytes read s r
judged_from kind past bytes read (Schema fields ∷ after) s r = at_schema kind past bytes read s fields after r
judged_from kind past bytes read (Dictionary id delta batch ∷ after) s r =
    at_batch kind past bytes read s id delta batch after r (λ q. judged_from kind past bytes (read ++ Dictionary id delta batch ∷ []) after (with_batch id delta batch s) q)
judged_from kind past bytes read (Rows batch ∷ after) s r = at_rows kind past bytes read s batch after r

-- ---- where a record begins

judged_first : (kind : Kind) (bytes : List ℕ) (front : List IpcMessage) → front_of bytes ≡ front → IsJudged kind [] bytes
judged_first kind bytes [] is =
    elim (front_ends bytes) [
      | inl end ↦ inr (Order, no_rows end (ap (list_any is_rows) is))
      | inr bad ↦ inr (Ipc bad.0, ends_badly bad.0 bad.1)
    ]
judged_first kind bytes (Schema fields ∷ front) is =
    elim (cases_Bool (columns_fit kind (arrays_of fields))) [
      | inl types ↦ judged_from kind [] bytes (Schema fields ∷ []) front (opened fields) (read_schema kind bytes fields front is types)
      | inr wrong ↦ inr (Column, other_type [] front fields is wrong)
    ]
judged_first kind bytes (Dictionary id delta batch ∷ front) is = inr (Order, begins_otherwise (Dictionary id delta batch) front refl is refl)
judged_first kind bytes (Rows batch ∷ front) is = inr (Order, begins_otherwise (Rows batch) front refl is refl)

pub judged : (kind : Kind) (past : List IpcMessage) (bytes : List ℕ) → CanGoOn past → IsJudged kind past bytes
judged kind past bytes (inl none) = subst (λ (ms : List IpcMessage). IsJudged kind ms bytes) (sym none) (judged_first kind bytes (front_of bytes) refl)
judged kind past bytes (inr (fields, is)) =
    judged_from kind past bytes [] (front_of bytes) (substream_of past fields) (read_on kind past bytes (substream_of past fields) (substream_from past fields is))

-- ---- messages that have a schema

pub has_schema-stays : (ms ns : List IpcMessage) → HasSchema ms → HasSchema (ms ++ ns)
has_schema-stays ms ns (fields, is) = (fields, schema_in-stays ms ns fields is)

schema_first : (kind : Kind) (front : List IpcMessage) (m : IpcMessage) (rest : List IpcMessage) → front ≡ m ∷ rest → IsFine kind [] m → HasSchema front
schema_first kind front (Schema fields) rest is fine = (fields, ap schema_in is)
schema_first kind front (Dictionary id delta batch) rest is fine = absurd (false≢true (not_first kind (Dictionary id delta batch) fine))
schema_first kind front (Rows batch) rest is fine = absurd (false≢true (not_first kind (Rows batch) fine))

-- a record that opens a sub-stream begins with one
pub opens_with : (kind : Kind) (bytes : List ℕ) → IsRead kind [] bytes → HasSchema (front_of bytes)
opens_with kind bytes q = by_front (front_of bytes) refl
  where
    by_front : (front : List IpcMessage) → front_of bytes ≡ front → HasSchema (front_of bytes)
    by_front [] none = absurd (nothing q.before (sym none ∙ q.messages))
      where
        nothing : (before : List IpcMessage) → [] ≡ before ++ Rows q.batch ∷ [] → ⊥
        nothing [] h = cc
        nothing (m ∷ before) h = cc
    by_front (m ∷ rest) is = schema_first kind (front_of bytes) m rest is (subst (λ (ms : List IpcMessage). AllAfter (IsFine kind) [] ms) is q.each).0
