-- A record without a defect has none of the defects.
use Rattle.std.proofs.Common.{◌≡◌, ℕ, true, false, List, [], ◌∷◌, ◌++◌, length, Option, Some, None, refl, sym, ap, ◌∙◌, subst, arith, length-append}
use Rattle.std.specs.List.{list_any}
use Rattle.std.proofs.lemmas.Bool.{false≢true, or_parts}
use Rattle.lists.specs.EachAfter.{AllAfter}
use Rattle.lists.proofs.Growing.{all_after-at}
use Rattle.arrow_schema.specs.declared.spec.FieldSpec.{FieldSpec}
use Rattle.arrow_ipc.specs.declared.messages.IpcMessage.{IpcMessage}
use Rattle.arrow_ipc.specs.declared.messages.IpcMessage.TheVariants.{Schema, Dictionary, Rows}
use Rattle.arrow_ipc.specs.Batches.{BatchIn}
use Rattle.arrow_ipc.specs.Fronts.{front_of, left_of}
use Rattle.arrow_ipc.proofs.Unique.{stands_some}
use Rattle.arrow_arrays.specs.Arrays.{arrays_of}
use Rattle.otap_cells.specs.declared.payload.Kind.{Kind}
use Rattle.otap_columns.specs.declared.refusal.ColumnRefusal.{ColumnRefusal}
use Rattle.otap_columns.specs.Known.{columns_fit}
use Rattle.otap_columns.specs.Records.{is_schema, is_rows, Stands, begins_otherwise, schema_later, more_after_rows, no_rows, unknown_id, ends_badly, other_type, bad_buffers, bad_index, too_many_values}
use Rattle.otap_columns.specs.Records.{IsFineBatch, IsFineIn, IsFine, IsRead}
use Rattle.otap_columns.specs.Substreams.{SubstreamIn, substream_in, indexes_fit}
use Rattle.otap_columns.proofs.Giving.{any_here}
use Rattle.otap_columns.proofs.Growing.{substream-none}
use Rattle.otap_columns.proofs.Judging.{fine_as, fine_buffers}

-- no record batch comes before the last one
pub record IsLast (batch other : BatchIn) (after : List IpcMessage) : Type 0 where
  pub same : other ≡ batch
  pub none : after ≡ []

is_last : (a : List IpcMessage) (batch : BatchIn) (b : List IpcMessage) (other : BatchIn) (after : List IpcMessage) → list_any is_rows a ≡ false → a ++ Rows batch ∷ [] ≡ b ++ Rows other ∷ after → IsLast batch other after
is_last [] batch [] other after only same =
    let rows : Rows batch ≡ Rows other = cc in
    let rest : [] ≡ after = cc in
    record { same = cc; none = sym rest }
is_last [] batch (n ∷ b) other after only same =
    let rest : [] ≡ b ++ Rows other ∷ after = cc in
    absurd (omega (arith, ap length rest, length-append b (Rows other ∷ after)))
is_last (m ∷ a) batch [] other after only same =
    let first : m ≡ Rows other = cc in
    absurd (false≢true (sym (or_parts (is_rows m) (list_any is_rows a) only).0 ∙ ap is_rows first))
is_last (m ∷ a) batch (n ∷ b) other after only same =
    let rest : a ++ Rows batch ∷ [] ≡ b ++ Rows other ∷ after = cc in
    is_last a batch b other after (or_parts (is_rows m) (list_any is_rows a) only).1 rest

-- what a fine message isn't
pub not_first : (kind : Kind) (m : IpcMessage) → IsFine kind [] m → is_schema m ≡ true
not_first kind m fine = by_message m (subst (λ (o : Option SubstreamIn). IsFineIn kind [] o m) substream-none fine)
  where
    by_message : (m : IpcMessage) → IsFineIn kind [] None m → is_schema m ≡ true
    by_message (Schema fields) f = refl
    by_message (Dictionary id delta batch) f = absurd f
    by_message (Rows batch) f = absurd f

schema_fine : (kind : Kind) (before : List IpcMessage) (fields : List FieldSpec) → IsFine kind before (Schema fields) → (before ≡ []) × (columns_fit kind (arrays_of fields) ≡ true)
schema_fine kind before fields fine = by_substream (substream_in before) fine
  where
    by_substream : (o : Option SubstreamIn) → IsFineIn kind before o (Schema fields) → (before ≡ []) × (columns_fit kind (arrays_of fields) ≡ true)
    by_substream None f = f
    by_substream (Some s) f = absurd f

module _ (kind : Kind) (past : List IpcMessage) (bytes : List ℕ) (q : IsRead kind past bytes) where
  -- each message of the record is fine
  fine_at : (before after : List IpcMessage) (m : IpcMessage) → front_of bytes ≡ before ++ m ∷ after → IsFine kind (past ++ before) m
  fine_at before after m at =
      all_after-at (IsFine kind) past before after m (subst (λ (ms : List IpcMessage). AllAfter (IsFine kind) past ms) at q.each)

  pub never_both : (refusal : ColumnRefusal) → Stands kind past bytes refusal → ⊥
  never_both refusal (begins_otherwise m after none at other) =
      let fine : IsFine kind [] m = subst (λ (ms : List IpcMessage). IsFine kind ms m) none (fine_at_start m after at) in
      false≢true (sym other ∙ not_first kind m fine)
    where
      fine_at_start : (m : IpcMessage) (after : List IpcMessage) → front_of bytes ≡ m ∷ after → IsFine kind past m
      fine_at_start m after at = (subst (λ (ms : List IpcMessage). AllAfter (IsFine kind) past ms) at q.each).0
  never_both refusal (schema_later before after fields at some) = some (schema_fine kind (past ++ before) fields (fine_at before after (Schema fields) at)).0
  never_both refusal (more_after_rows before after batch m at) =
      let l : IsLast q.batch batch (m ∷ after) = is_last q.before q.batch before batch (m ∷ after) q.only (sym q.messages ∙ at) in
      nothing_after l.none
    where
      nothing_after : {n : IpcMessage} {ms : List IpcMessage} → n ∷ ms ≡ [] → ⊥
      nothing_after h = cc
  never_both refusal (no_rows ends none) =
      false≢true (sym none ∙ ap (list_any is_rows) q.messages ∙ any_here is_rows q.before (Rows q.batch) [] refl)
  never_both refusal (unknown_id before after id delta batch s at stands unknown) =
      let f : IsFineBatch id delta batch s.dictionaries = fine_as kind (past ++ before) (Dictionary id delta batch) s stands (fine_at before after (Dictionary id delta batch) at) in
      false≢true (sym unknown ∙ f.known)
  never_both refusal (ends_badly fault stands) = stands_some (left_of bytes) fault stands q.ends
  never_both refusal (other_type before after fields at other) =
      false≢true (sym other ∙ (schema_fine kind (past ++ before) fields (fine_at before after (Schema fields) at)).1)
  never_both refusal (bad_buffers before after m fault s at stands bad) = fine_buffers kind (past ++ before) m (fine_at before after m at) s fault stands bad
  never_both refusal (bad_index before after batch here s at there fine stands bad) =
      let l : IsLast q.batch batch after = is_last q.before q.batch before batch after q.only (sym q.messages ∙ at) in
      let same : Some s ≡ Some q.after = sym stands ∙ q.is_after in
      let is : s ≡ q.after = cc in
      false≢true (sym bad ∙ (λ i. indexes_fit (is i) (l.same i)) ∙ q.indexes)
  never_both refusal (too_many_values before after id delta batch s at stands many) =
      let f : IsFineBatch id delta batch s.dictionaries = fine_as kind (past ++ before) (Dictionary id delta batch) s stands (fine_at before after (Dictionary id delta batch) at) in
      false≢true (sym f.few ∙ many)
