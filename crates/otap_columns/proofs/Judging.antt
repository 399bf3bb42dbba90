-- A record that was read message by message, judged as a whole.
use Rattle.std.proofs.Common.{◌≡◌, ℕ, Bool, true, false, List, [], ◌∷◌, ◌++◌, drop, Option, Some, None, Result, Ok, Err, ◌||◌, refl, sym, ap, ◌∙◌, subst, append_assoc, append-nil, inl, inr}
use Rattle.std.specs.Prelude.{ℤ, is_ok, not}
use Rattle.std.specs.List.{list_any, list_all, flat_map}
use Rattle.std.proofs.lemmas.Bool.{false≢true, not-true}
use Rattle.std.proofs.lemmas.List.Folds.{list_any-append}
use Rattle.std.proofs.lemmas.Grind.{flat_map-append}
use Rattle.lists.specs.EachAfter.{AllAfter}
use Rattle.lists.specs.Since.{last_after}
use Rattle.lists.proofs.Growing.{all_after-append, all_after-weaker}
use Rattle.lists.proofs.Latest.{last_after-push}
use Rattle.lists.proofs.Every.{all_pass_at}
use Rattle.arrow_schema.specs.declared.spec.FieldSpec.{FieldSpec}
use Rattle.arrow_buffers.specs.declared.fault.BufferFault.{BufferFault}
use Rattle.arrow_ipc.specs.declared.messages.IpcMessage.{IpcMessage}
use Rattle.arrow_ipc.specs.declared.messages.IpcMessage.TheVariants.{Schema, Dictionary, Rows}
use Rattle.arrow_ipc.specs.Batches.{BatchIn}
use Rattle.arrow_ipc.specs.Fronts.{MessagesIn, front_of, left_of, rest_of, record_batch_in}
use Rattle.arrow_arrays.specs.Arrays.{arrays_of, arrays_check}
use Rattle.arrow_arrays.specs.Cells.{array_check, place_of_values}
use Rattle.arrow_arrays.proofs.Checked.{fault_fails}
use Rattle.arrow_arrays.proofs.FaultsNamed.{never_fault}
use Rattle.otap_cells.specs.declared.payload.Kind.{Kind}
use Rattle.otap_columns.specs.declared.refusal.ColumnRefusal.{ColumnRefusal}
use Rattle.otap_columns.specs.declared.refusal.ColumnRefusal.TheVariants.{Order, Ipc, Column, Buffers, BadIndex, DictionarySize, Memory}
use Rattle.otap_columns.specs.Dictionaries.{DictionaryIn, has_id}
use Rattle.otap_columns.specs.Known.{columns_fit}
use Rattle.otap_columns.specs.Records.{is_schema, is_rows, is_fine_for, HasValueFault, HasFineBuffers, begins_otherwise, schema_later, more_after_rows, no_rows, unknown_id, ends_badly, other_type}
use Rattle.otap_columns.specs.Records.{bad_buffers, bad_index, too_many_values, Refuses, IsFineBatch, IsFineIn, IsFine, IsRead}
use Rattle.otap_columns.specs.Reading.{TakesBatch, TakesRecord, RefusesFirst, RefusesOrder, RefusesEnd, opened, RefusesOpen, with_batch, RefusesFirstBatch, RefusesMessage, TakesAll}
use Rattle.otap_columns.specs.Reading.{FitsRows, RefusesRows, RefusesAtRows, RefusesRecord, KeepsReader}
use Rattle.otap_columns.specs.Substreams.{SubstreamIn, substream_in, record_batches, last_rows}
use Rattle.otap_columns.specs.Views.{ReaderIn, StandsForRecord}
use Rattle.otap_columns.proofs.Growing.{substream-batch, substream-rows, some_messages, substream-opened, substream-none}

-- so far dictionary batches alone were taken
pub record GoneSoFar (old : ReaderIn) (m : MessagesIn) (new : ReaderIn) (m' : MessagesIn) : Type 0 where
  pub messages : List IpcMessage
  pub takes : TakesAll old.substream messages new.substream
  pub front : front_of (rest_of m) ≡ messages ++ front_of (rest_of m')
  pub left : left_of (rest_of m) ≡ left_of (rest_of m')
  pub bytes : m'.bytes ≡ m.bytes
  pub keeps : KeepsReader old new

-- what is fine in a sub-stream that is this one
pub fine_in : (kind : Kind) (before : List IpcMessage) (m : IpcMessage) (s : SubstreamIn) → substream_in before ≡ Some s → IsFineIn kind before (Some s) m → IsFine kind before m
fine_in kind before m s h fine = subst (λ (o : Option SubstreamIn). IsFineIn kind before o m) (sym h) fine

pub fine_as : (kind : Kind) (before : List IpcMessage) (m : IpcMessage) (s : SubstreamIn) → substream_in before ≡ Some s → IsFine kind before m → IsFineIn kind before (Some s) m
fine_as kind before m s h fine = subst (λ (o : Option SubstreamIn). IsFineIn kind before o m) h fine

-- ---- messages that are taken

pub takes_batch : (s : SubstreamIn) (id : ℤ) (delta : Bool) (batch : BatchIn) → IsFineBatch id delta batch s.dictionaries → TakesAll s (Dictionary id delta batch ∷ []) (with_batch id delta batch s)
takes_batch s id delta batch fine = record {
  plain = refl;
  after = λ before h. substream-batch before s id delta batch h;
  each = λ kind before h. (fine_in kind before (Dictionary id delta batch) s h fine, tt);
}

pub takes_more : (s t u : SubstreamIn) (a b : List IpcMessage) → TakesAll s a t → TakesAll t b u → TakesAll s (a ++ b) u
takes_more s t u a b first then' = record {
  plain = list_any-append is_rows a b ∙ rw (first.plain, then'.plain) refl;
  after = λ before h. ap (λ ms. substream_in ms) (sym (append_assoc before a b)) ∙ then'.after (before ++ a) (first.after before h);
  each = λ kind before h. all_after-append (IsFine kind) before a b (first.each kind before h) (then'.each kind (before ++ a) (first.after before h));
}

-- ---- a fine message has no fault in its buffers

values_fine : (ds : List DictionaryIn) (id : ℤ) (batch : BatchIn) (fault : BufferFault) → list_all (is_fine_for id batch) ds ≡ true → HasValueFault ds id batch fault → ⊥
values_fine ds id batch fault fine (k, d, below, at, bad) =
    let here : is_fine_for id batch d ≡ true = ap (is_fine_for id batch) (sym at) ∙ all_pass_at (is_fine_for id batch) ds k d fine below in
    never_fault batch (place_of_values d.kind) fault (ok_when (not (has_id id d)) (array_check batch (place_of_values d.kind)) (ap not bad.0) here) bad.1
  where
    ok_when : (b : Bool) (r : Result (Unit {0}) BufferFault) → b ≡ false → (b || is_ok r) ≡ true → r ≡ Ok tt
    ok_when b (Ok x) none h = refl
    ok_when b (Err e) none h = absurd (false≢true (rw none at h))

pub fine_buffers : (kind : Kind) (before : List IpcMessage) (m : IpcMessage) → IsFine kind before m → HasFineBuffers before m
fine_buffers kind before (Schema fields) fine = λ s fault stands bad. bad
fine_buffers kind before (Dictionary id delta batch) fine =
    λ s fault stands bad.
    let f : IsFineBatch id delta batch s.dictionaries = fine_as kind before (Dictionary id delta batch) s stands fine in
    values_fine s.dictionaries id batch fault f.fine bad
fine_buffers kind before (Rows batch) fine =
    λ s fault stands bad.
    let f : arrays_check batch s.arrays ≡ Ok tt = fine_as kind before (Rows batch) s stands fine in
    fault_fails batch s.arrays fault bad (ap is_ok f)

-- ---- what is left after messages that were taken

is_a_schema : (m : IpcMessage) → is_schema m ≡ true → (fields : List FieldSpec) × (m ≡ Schema fields)
is_a_schema (Schema fields) h = (fields, refl)
is_a_schema (Dictionary id delta batch) h = absurd (false≢true h)
is_a_schema (Rows batch) h = absurd (false≢true h)

-- the front of a record: messages that were taken, and the rest
pub record Read (kind : Kind) (past : List IpcMessage) (bytes : List ℕ) (read rest : List IpcMessage) (s : SubstreamIn) : Type 0 where
  pub front : front_of bytes ≡ read ++ rest
  pub stands : substream_in (past ++ read) ≡ Some s
  pub each : AllAfter (IsFine kind) past read
  pub plain : list_any is_rows read ≡ false

-- some more were taken
pub read_more : (kind : Kind) (past : List IpcMessage) (bytes : List ℕ) (read front : List IpcMessage) (s : SubstreamIn) (messages rest : List IpcMessage) (t : SubstreamIn)
    → Read kind past bytes read front s → TakesAll s messages t → front ≡ messages ++ rest → Read kind past bytes (read ++ messages) rest t
read_more kind past bytes read front s messages rest t r takes is = record {
  front = r.front ∙ ap (λ ms. read ++ ms) is ∙ sym (append_assoc read messages rest);
  stands = ap (λ ms. substream_in ms) (sym (append_assoc past read messages)) ∙ takes.after (past ++ read) r.stands;
  each = all_after-append (IsFine kind) past read messages r.each (takes.each kind (past ++ read) r.stands);
  plain = list_any-append is_rows read messages ∙ rw (r.plain, takes.plain) refl;
}

module _ (kind : Kind) (past : List IpcMessage) (bytes : List ℕ) (read rest : List IpcMessage) (s : SubstreamIn) (r : Read kind past bytes read rest s) where
  -- why no message, or a schema, is a defect
  pub order_refused : (refusal : ColumnRefusal) → RefusesOrder rest (left_of bytes) refusal → Refuses kind past bytes refusal
  order_refused Order (inl end) =
      no_rows end.1 (ap (list_any is_rows) (r.front ∙ ap (λ ms. read ++ ms) end.0 ∙ append-nil read) ∙ r.plain)
  order_refused Order (inr (m, after, first, schema)) =
      let f : (fields : List FieldSpec) × (m ≡ Schema fields) = is_a_schema m schema in
      schema_later read after f.0 (r.front ∙ ap (λ ms. read ++ ms) (first ∙ ap (λ n. n ∷ after) f.1)) (some_messages (past ++ read) s r.stands)
  order_refused (Ipc fault) at = ends_badly fault at.1
  order_refused Column h = absurd h
  order_refused (Buffers fault) h = absurd h
  order_refused BadIndex h = absurd h
  order_refused DictionarySize h = absurd h
  order_refused (Memory e) h = tt

  -- why a dictionary batch is
  pub batch_refused : (refusal : ColumnRefusal) → RefusesFirstBatch s rest refusal → Refuses kind past bytes refusal
  batch_refused Order b = unknown_id read b.after b.id b.delta b.batch s (r.front ∙ ap (λ ms. read ++ ms) b.first) r.stands b.refuses
  batch_refused (Ipc fault) b = absurd b.refuses
  batch_refused Column b = absurd b.refuses
  batch_refused (Buffers fault) b = bad_buffers read b.after (Dictionary b.id b.delta b.batch) fault s (r.front ∙ ap (λ ms. read ++ ms) b.first) r.stands b.refuses
  batch_refused BadIndex b = absurd b.refuses
  batch_refused DictionarySize b = too_many_values read b.after b.id b.delta b.batch s (r.front ∙ ap (λ ms. read ++ ms) b.first) r.stands b.refuses
  batch_refused (Memory e) b = tt

  -- why what follows a record batch is
  end_refused : (refusal : ColumnRefusal) (batch : BatchIn) (after : List IpcMessage) → rest ≡ Rows batch ∷ after → RefusesEnd after (left_of bytes) refusal → Refuses kind past bytes refusal
  end_refused Order batch after first (m, later, next, any) =
      more_after_rows read later batch m (r.front ∙ ap (λ ms. read ++ ms) (first ∙ ap (λ ms. Rows batch ∷ ms) next))
  end_refused (Ipc fault) batch after first at = ends_badly fault at.1
  end_refused Column batch after first h = absurd h
  end_refused (Buffers fault) batch after first h = absurd h
  end_refused BadIndex batch after first h = absurd h
  end_refused DictionarySize batch after first h = absurd h
  end_refused (Memory e) batch after first h = tt

  -- why a record batch itself is
  pub rows_refused : (refusal : ColumnRefusal) (batch : BatchIn) → rest ≡ Rows batch ∷ [] → RefusesRows s batch refusal → Refuses kind past bytes refusal
  rows_refused Order batch first h = absurd h
  rows_refused (Ipc fault) batch first h = absurd h
  rows_refused Column batch first h = absurd h
  rows_refused (Buffers fault) batch first h = bad_buffers read [] (Rows batch) fault s (r.front ∙ ap (λ ms. read ++ ms) first) r.stands h
  rows_refused BadIndex batch first h =
      let front : front_of bytes ≡ read ++ Rows batch ∷ [] = r.front ∙ ap (λ ms. read ++ ms) first in
      let each : AllAfter (IsFine kind) past (read ++ Rows batch ∷ []) =
      all_after-append (IsFine kind) past read (Rows batch ∷ []) r.each (fine_in kind (past ++ read) (Rows batch) s r.stands h.0, tt) in
      let after : substream_in (past ++ front_of bytes) ≡ Some s =
      ap (λ ms. substream_in (past ++ ms)) front ∙ ap (λ ms. substream_in ms) (sym (append_assoc past read (Rows batch ∷ []))) ∙ substream-rows (past ++ read) s batch r.stands in
      bad_index read [] batch s s front r.stands
      (all_after-weaker (IsFine kind) HasFineBuffers (fine_buffers kind) past (front_of bytes) (subst (λ (ms : List IpcMessage). AllAfter (IsFine kind) past ms) (sym front) each))
      after h.1
  rows_refused DictionarySize batch first h = absurd h
  rows_refused (Memory e) batch first h = absurd h

  at_rows_refused : (refusal : ColumnRefusal) → RefusesAtRows s rest (left_of bytes) refusal → Refuses kind past bytes refusal
  at_rows_refused refusal b =
      elim b.refuses [
        | inl end ↦ end_refused refusal b.batch b.after b.first end
        | inr rows ↦ rows_refused refusal b.batch (b.first ∙ ap (λ ms. Rows b.batch ∷ ms) rows.0.0) rows.1
      ]

  message_refused : (refusal : ColumnRefusal) → RefusesMessage s rest (left_of bytes) refusal → Refuses kind past bytes refusal
  message_refused refusal b = elim b [ inl order ↦ order_refused refusal order | inr batch ↦ batch_refused refusal batch ]

-- a record that wasn't taken has the defect
pub record_refused : (kind : Kind) (past : List IpcMessage) (bytes : List ℕ) (read front : List IpcMessage) (s : SubstreamIn) (refusal : ColumnRefusal)
    → Read kind past bytes read front s → RefusesRecord s front (left_of bytes) refusal → Refuses kind past bytes refusal
record_refused kind past bytes read front s refusal r b =
    let more : Read kind past bytes (read ++ b.messages) b.rest b.s' = read_more kind past bytes read front s b.messages b.rest b.s' r b.takes b.front_is in
    elim b.refuses [
      | inl message ↦ message_refused kind past bytes (read ++ b.messages) b.rest b.s' more refusal message
      | inr rows ↦ at_rows_refused kind past bytes (read ++ b.messages) b.rest b.s' more refusal rows
    ]

-- ---- a record that was taken has none

last_rows-push : (ms : List IpcMessage) (batch : BatchIn) → last_rows (ms ++ Rows batch ∷ []) ≡ Some batch
unfolding last_rows
last_rows-push ms batch = ap (last_after None) (flat_map-append record_batches ms (Rows batch ∷ [])) ∙ last_after-push None (flat_map record_batches ms) batch

module _ (kind : Kind) (past : List IpcMessage) (bytes : List ℕ) (read : List IpcMessage) (batch : BatchIn) (s : SubstreamIn) (r : Read kind past bytes read (Rows batch ∷ []) s) where
  after_rows : substream_in (past ++ front_of bytes) ≡ Some s
  after_rows =
      ap (λ ms. substream_in (past ++ ms)) r.front ∙ ap (λ ms. substream_in ms) (sym (append_assoc past read (Rows batch ∷ []))) ∙ substream-rows (past ++ read) s batch r.stands

  pub read_is : left_of bytes ≡ [] → FitsRows s batch → IsRead kind past bytes
  read_is ends fits = record {
    ends = ends;
    before = read;
    batch = batch;
    messages = r.front;
    only = r.plain;
    each =
        subst (λ (ms : List IpcMessage). AllAfter (IsFine kind) past ms) (sym r.front)
        (all_after-append (IsFine kind) past read (Rows batch ∷ []) r.each (fine_in kind (past ++ read) (Rows batch) s r.stands fits.fine, tt));
    after = s;
    is_after = after_rows;
    indexes = fits.indexes;
  }

  pub stands_is : (new : ReaderIn) → new.substream ≡ s → record_batch_in (drop new.place bytes) ≡ Some batch → StandsForRecord (past ++ front_of bytes) bytes new
  stands_is new is finds = record {
    stands = after_rows ∙ ap Some (sym is);
    finds =
        ap (λ ms. last_rows (past ++ ms)) r.front ∙ ap (λ ms. last_rows ms) (sym (append_assoc past read (Rows batch ∷ []))) ∙ last_rows-push (past ++ read) batch ∙ sym finds;
  }

-- ---- where a record begins

-- after the messages before it
pub read_on : (kind : Kind) (past : List IpcMessage) (bytes : List ℕ) (s : SubstreamIn) → substream_in past ≡ Some s → Read kind past bytes [] (front_of bytes) s
read_on kind past bytes s h = record { front = refl; stands = ap (λ ms. substream_in ms) (append-nil past) ∙ h; each = tt; plain = refl }

-- or with a schema
pub read_schema : (kind : Kind) (bytes : List ℕ) (fields : List FieldSpec) (front : List IpcMessage) → front_of bytes ≡ Schema fields ∷ front → columns_fit kind (arrays_of fields) ≡ true
    → Read kind [] bytes (Schema fields ∷ []) front (opened fields)
read_schema kind bytes fields front is types = record {
  front = is;
  stands = substream-opened fields;
  each = (subst (λ (o : Option SubstreamIn). IsFineIn kind [] o (Schema fields)) (sym substream-none) (refl, types), tt);
  plain = refl;
}

-- why it doesn't
pub first_refused : (kind : Kind) (bytes : List ℕ) (refusal : ColumnRefusal) → RefusesFirst (front_of bytes) (left_of bytes) refusal → Refuses kind [] bytes refusal
first_refused kind bytes Order (inl end) = no_rows end.1 (ap (list_any is_rows) end.0)
first_refused kind bytes Order (inr (m, after, first, other)) = begins_otherwise m after refl first (not-true (is_schema m) other)
first_refused kind bytes (Ipc fault) at = ends_badly fault at.1
first_refused kind bytes Column h = absurd h
first_refused kind bytes (Buffers fault) h = absurd h
first_refused kind bytes BadIndex h = absurd h
first_refused kind bytes DictionarySize h = absurd h
first_refused kind bytes (Memory e) h = tt

pub open_refused : (kind : Kind) (bytes : List ℕ) (fields : List FieldSpec) (front : List IpcMessage) (refusal : ColumnRefusal) → front_of bytes ≡ Schema fields ∷ front → RefusesOpen kind fields refusal
    → Refuses kind [] bytes refusal
open_refused kind bytes fields front Order is h = absurd h
open_refused kind bytes fields front (Ipc fault) is h = absurd h
open_refused kind bytes fields front Column is h = other_type [] front fields is h
open_refused kind bytes fields front (Buffers fault) is h = absurd h
open_refused kind bytes fields front BadIndex is h = absurd h
open_refused kind bytes fields front DictionarySize is h = absurd h
open_refused kind bytes fields front (Memory e) is h = tt

-- ---- a reader that goes through a record

-- one more dictionary batch
pub gone_on : (old : ReaderIn) (m : MessagesIn) (so_far : ReaderIn) (m' : MessagesIn) (new : ReaderIn) (m'' : MessagesIn) → GoneSoFar old m so_far m'
    → TakesBatch so_far.substream m' m'' new.substream → new.kind ≡ so_far.kind → new.broken ≡ so_far.broken → GoneSoFar old m new m''
gone_on old m so_far m' new m'' g t kind broken = record {
  messages = g.messages ++ Dictionary t.id t.delta t.batch ∷ [];
  takes =
      subst (λ (s : SubstreamIn). TakesAll old.substream (g.messages ++ Dictionary t.id t.delta t.batch ∷ []) s) (sym t.after)
      (takes_more old.substream so_far.substream (with_batch t.id t.delta t.batch so_far.substream) g.messages (Dictionary t.id t.delta t.batch ∷ []) g.takes
      (takes_batch so_far.substream t.id t.delta t.batch t.fine));
  front = g.front ∙ ap (λ ms. g.messages ++ ms) t.passes.front ∙ sym (append_assoc g.messages (Dictionary t.id t.delta t.batch ∷ []) (front_of (rest_of m'')));
  left = g.left ∙ t.passes.left;
  bytes = t.passes.bytes ∙ g.bytes;
  keeps = record { kind = kind ∙ g.keeps.kind; broken = broken ∙ g.keeps.broken };
}

-- the whole record
pub record_read : (kind : Kind) (past : List IpcMessage) (bytes : List ℕ) (read front : List IpcMessage) (old : ReaderIn) (m : MessagesIn) (new final : ReaderIn)
    → Read kind past bytes read front old.substream → front_of (rest_of m) ≡ front → left_of (rest_of m) ≡ left_of bytes → m.bytes ≡ bytes → TakesRecord old m new
    → final.substream ≡ new.substream → final.place ≡ new.place → IsRead kind past bytes × StandsForRecord (past ++ front_of bytes) bytes final
record_read kind past bytes read front old m new final r front_is left_is bytes_is t same place =
    let more : Read kind past bytes (read ++ t.messages) (Rows t.batch ∷ []) new.substream =
    read_more kind past bytes read front old.substream t.messages (Rows t.batch ∷ []) new.substream r t.takes (sym front_is ∙ t.front) in (
      read_is kind past bytes (read ++ t.messages) t.batch new.substream more (sym left_is ∙ t.left) t.fits,
      stands_is kind past bytes (read ++ t.messages) t.batch new.substream more final same ((λ i. record_batch_in (drop (place i) (sym bytes_is i))) ∙ t.finds),
    )
