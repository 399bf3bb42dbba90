-- The file of a sub-stream, one frame more.
use Rattle.std.proofs.Common.{◌≡◌, ℕ, ◌+◌, ◌<◌, ◌≤◌, suc, Bool, true, false, List, [], ◌∷◌, ◌++◌, Option, Some, None, ℤ, refl, sym, ap, ◌∙◌, subst, append-nil, arith}
use Rattle.std.specs.Prelude.{find, MatchBool, if◌then◌else◌}
use Rattle.std.specs.List.{flat_map}
use Rattle.lists.proofs.Latest.{since-append}
use Rattle.std.proofs.lemmas.Grind.{flat_map-append}
use Rattle.lists.specs.Payloads.{PayloadIn}
use Rattle.otlp_model.specs.declared.request.Signal.{Signal}
use Rattle.otap_capture.specs.Batch.{BatchContent, ReadsBatch, batch_content}
use Rattle.otap_capture.specs.Capture.{Frame, Message}
use Rattle.otap_cells.specs.declared.payload.Kind.{Kind}
use Rattle.otap_cells.specs.Payload.{is_kind}
use Rattle.otap_cells.specs.Tables.{Table}
use Rattle.otap_cells.specs.Weights.{row_weight_limit, weight_of_table, weight_of_tables}
use Rattle.otap_cells.proofs.KindsApart.{same_kind}
use Rattle.otap_columns.specs.Streams.{is_of, open_id, opens}
use Rattle.otap_columns.specs.TableSets.{of_kind}
use Rattle.otap_consume.specs.declared.refusal.Refusal.{Refusal}
use Rattle.otap_consume.specs.declared.seen.Seen.TheVariants as seen
use Rattle.otap_consume.specs.Defects.{Accepts, tables_of}
use Rattle.otap_consume.specs.Outcomes.{Outcome, Accepted, Refused, Reset, GivesOutcome, StaysBroken, OutcomeAfter, is_broken, is_reset, payloads_after, payloads_if, segment}
use Rattle.otap_consume.specs.Payloads.{payload_type_of}
use Rattle.otap_consume.specs.Segments.{IsTaken, Next, ReportsOutcome, SegmentIn, StandsFor, TablesOf}
use Rattle.otap_consume.proofs.SegmentSteps.{payloads_accepted, payloads_reset}
use Rattle.otap_gateway.specs.declared.jobs.file.Position.{Position}
use Rattle.otap_gateway.specs.declared.jobs.file.Position.TheVariants.{Before, Within, After}
use Rattle.otap_gateway.specs.declared.jobs.file.Substream.{Substream}
use Rattle.otap_gateway.specs.Filing.{chosen, opened}
use Rattle.otap_gateway.specs.FilingSteps.{AddsRows, HasAccepted, HasFiled, HasSomeFile, HoldsTables, IsAcceptedBatch, IsPosition, Notes, Passes, TakesBatch, TakesFrame, is_within, open_in, opens_anew}
use Rattle.otap_gateway.specs.Lines.{printed, refuses}
use Rattle.otap_gateway.specs.Receptions.{refusal_line}
use Rattle.otap_gateway.specs.Reply.{ReplyText}
use Rattle.otap_gateway.proofs.ChosenTables.{HasOne, chosen_none, chosen_other, chosen_own, count_none, count_one, found_first, found_kind, found_light, has_one, none_open, open_none, open_one, opened_more, opens_one, table_none, table_one}

-- ---- positions

pub passes_last : Passes (Before 0) Within
passes_last = record { at = λ number count is. omega (arith, is) }

pub passes_one : (others : ℕ) → 0 < others → (left : ℕ) → left + 1 ≡ others → Passes (Before others) (Before left)
passes_one others some left less = record { at = λ number count is. omega (arith, is, less) }

pub passes_within : Passes Within After
passes_within = record { at = λ number count is. omega (arith, is) }

pub passes_after : Passes After After
passes_after = record { at = λ number count is. omega (arith, is) }

it_is : (number count : ℕ) (position : Position) → IsPosition number count position → is_within position ≡ true → count ≡ suc number
it_is number count (Before others) is within = absurd (cc within)
it_is number count Within is within = is
it_is number count After is within = absurd (cc within)

it_is_not : (number count : ℕ) (position : Position) → IsPosition number count position → is_within position ≡ false → count ≡ suc number → ⊥
it_is_not number count (Before others) is within same = omega (arith, is, same)
it_is_not number count Within is within same = absurd (cc within)
it_is_not number count After is within same = omega (arith, is, same)

-- a payload whose schema id is open is noted, and one that opens a sub-stream
pub notes_same : (id : List ℕ) (s : Substream) (current : List ℕ) → open_in s ≡ Some current → opens_anew (open_in s) id ≡ false → current ≡ id → Notes id s s
notes_same id s current is stays same = record {
  position = λ number count at. rw stays at;
  current = is ∙ ap (λ (l : List ℕ). Some l) same;
  file = refl;
}

pub notes_new : (id : List ℕ) (s s' : Substream) → opens_anew (open_in s) id ≡ true → Passes s.position s'.position → open_in s' ≡ Some id → s'.file ≡ s.file → Notes id s s'
notes_new id s s' opens passes is same = record {
  position = λ number count at. rw opens (passes.at number count at);
  current = is;
  file = same;
}

-- ---- one batch more

module _ (signal : Signal) (kind : Kind) (number : ℕ) (outcomes : List Outcome) (frame : Frame) (batch : BatchContent) (tables : List Table)
    (is : IsAcceptedBatch signal outcomes frame batch tables) where
  abbrev past : List PayloadIn
  past = payloads_after outcomes

  abbrev o : Outcome
  o = Accepted batch tables

  abbrev type : ℤ
  type = payload_type_of kind

  open_after : open_id type (payloads_after (outcomes ++ o ∷ [])) ≡ open_id type (past ++ batch.payloads)
  open_after = ap (open_id type) (payloads_accepted outcomes batch tables)

  -- it has no payload of the type
  pub filed_none : (s : Substream) → find (is_of type) batch.payloads ≡ None → HasFiled kind number outcomes s → HasFiled kind number (outcomes ++ o ∷ []) s
  filed_none s none h =
      let more = opened_more kind outcomes o in
      let count : opened kind (outcomes ++ o ∷ []) ≡ opened kind outcomes = omega (arith, more, count_none signal kind past batch.payloads none) in
      let empty : of_kind kind tables ≡ [] = ap (of_kind kind) is.same ∙ table_none signal kind past batch.payloads none in
      record {
        position = subst (λ (n : ℕ). IsPosition number n s.position) (sym count) h.position;
        current = h.current ∙ sym (open_after ∙ open_none signal kind past batch.payloads none);
        file = subst (λ (l : List Table). HoldsTables l s.file) (sym (chosen_none kind number outcomes o empty)) h.file;
      }

  module _ (p : PayloadIn) (found : find (is_of type) batch.payloads ≡ Some p) where
    one : HasOne signal kind past batch.payloads p
    one = has_one signal kind past batch.payloads is.accepts.list.types p found

    count_after : (s : Substream) → HasFiled kind number outcomes s
        → opened kind (outcomes ++ o ∷ []) ≡ (if opens_anew (open_in s) p.schema_id then suc (opened kind outcomes) else opened kind outcomes)
    count_after s h =
        opened_more kind outcomes o ∙ ap (λ n. opened kind outcomes + n) (count_one signal kind past batch.payloads p one)
        ∙ plus (opens past p) ∙ ap (λ b. if b then suc (opened kind outcomes) else opened kind outcomes) (opens_one signal kind past batch.payloads p one ∙ ap (λ i. opens_anew i p.schema_id) (sym h.current))
      where
        plus : (b : Bool) → opened kind outcomes + (if b then 1 else 0) ≡ (if b then suc (opened kind outcomes) else opened kind outcomes)
        plus true = omega arith
        plus false = omega arith

    position_after : (s s' : Substream) → HasFiled kind number outcomes s → Notes p.schema_id s s' → IsPosition number (opened kind (outcomes ++ o ∷ [])) s'.position
    position_after s s' h notes = subst (λ (n : ℕ). IsPosition number n s'.position) (sym (count_after s h)) (notes.position number (opened kind outcomes) h.position)

    current_after : (s s' : Substream) → Notes p.schema_id s s' → open_in s' ≡ open_id type (payloads_after (outcomes ++ o ∷ []))
    current_after s s' notes = notes.current ∙ sym (open_after ∙ open_one signal kind past batch.payloads p one)

    -- it has one, of another sub-stream
    pub filed_other : (s s' : Substream) → Notes p.schema_id s s' → is_within s'.position ≡ false → HasFiled kind number outcomes s → HasFiled kind number (outcomes ++ o ∷ []) s'
    filed_other s s' notes other h =
        let position = position_after s s' h notes in
        let same : chosen kind number (outcomes ++ o ∷ []) ≡ chosen kind number outcomes
        = chosen_other kind number outcomes o (it_is_not number (opened kind (outcomes ++ o ∷ [])) s'.position position other) in
        record {
          position = position;
          current = current_after s s' notes;
          file = rw (same, notes.file) h.file;
        }

    -- or of the one that is looked for
    pub filed_own : (s s' new : Substream) (t : Table) → Notes p.schema_id s s' → is_within s'.position ≡ true → of_kind kind tables ≡ t ∷ [] → AddsRows t s' new
        → HasFiled kind number outcomes s → HasFiled kind number (outcomes ++ o ∷ []) new
    filed_own s s' new t notes own table adds h =
        let position = position_after s s' h notes in
        let same : chosen kind number (outcomes ++ o ∷ []) ≡ chosen kind number outcomes ++ t ∷ []
        = chosen_own kind number outcomes o (it_is number (opened kind (outcomes ++ o ∷ [])) s'.position position own) ∙ ap (λ l. chosen kind number outcomes ++ l) table in
        record {
          position = rw adds.position position;
          current = rw adds.current (current_after s s' notes);
          file = rw same (adds.file.at (chosen kind number outcomes) (rw notes.file h.file));
        }

    -- the table of the payload
    pub table_there : (set : List Table) → set ≡ tables_of signal past batch.payloads → (t : Table) × (of_kind kind set ≡ t ∷ [])
    table_there set same =
        let there = table_one signal kind past batch.payloads p one is.accepts in
        (there.0, ap (of_kind kind) same ∙ there.2)

-- the payload of a type, by its number
pub found_for : (kind : Kind) (n : ℤ) (ps : List PayloadIn) (o : Option PayloadIn) → n ≡ payload_type_of kind → find (is_of n) ps ≡ o → find (is_of (payload_type_of kind)) ps ≡ o
found_for kind n ps o same found = ap (λ (t : ℤ). find (is_of t) ps) (sym same) ∙ found

-- ---- a batch that the segment took last

module _ (kind : Kind) (frame : Frame) (taken : SegmentIn) (bytes : List ℕ) (batch : BatchContent) (message : frame ≡ Message bytes) (reads : ReadsBatch bytes batch) where
  -- whatever it is called
  same_batch : (signal : Signal) (outcomes : List Outcome) (other : BatchContent) (tables : List Table) → IsAcceptedBatch signal outcomes frame other tables → other ≡ batch
  same_batch signal outcomes other tables is =
      let same : is.bytes ≡ bytes = cc (sym is.message ∙ message) in
      is.reads.1 ∙ ap (λ (l : List ℕ). batch_content l) same ∙ sym reads.1

  module _ (outcomes : List Outcome) (other : BatchContent) (tables : List Table) (is : IsAcceptedBatch taken.signal outcomes frame other tables) where
    found_as : (o : Option PayloadIn) → find (is_of (payload_type_of kind)) batch.payloads ≡ o → find (is_of (payload_type_of kind)) other.payloads ≡ o
    found_as o found = ap (λ (b : BatchContent). find (is_of (payload_type_of kind)) b.payloads) (same_batch taken.signal outcomes other tables is) ∙ found

    payloads_as : other.payloads ≡ batch.payloads
    payloads_as = ap (λ (b : BatchContent). b.payloads) (same_batch taken.signal outcomes other tables is)

    set_as : (set : List Table) → TablesOf taken batch.payloads set → StandsFor taken.signal (outcomes ++ Accepted other tables ∷ []) taken
        → set ≡ tables_of taken.signal (payloads_after outcomes) other.payloads
    set_as set tables_are stands =
        tables_are.are taken.signal outcomes other tables payloads_as stands ∙ ap (tables_of taken.signal (payloads_after outcomes)) (sym payloads_as)

  pub takes_none : (s : Substream) → find (is_of (payload_type_of kind)) batch.payloads ≡ None → TakesBatch kind frame taken s s
  takes_none s none = record {
    at = λ number outcomes other tables is stands h. filed_none taken.signal kind number outcomes frame other tables is s (found_as outcomes other tables is None none) h;
  }

  pub takes_other : (p : PayloadIn) (s s' : Substream) → find (is_of (payload_type_of kind)) batch.payloads ≡ Some p → Notes p.schema_id s s' → is_within s'.position ≡ false
      → TakesBatch kind frame taken s s'
  takes_other p s s' found notes within = record {
    at = λ number outcomes other tables is stands h.
        filed_other taken.signal kind number outcomes frame other tables is p (found_as outcomes other tables is (Some p) found) s s' notes within h;
  }

  pub takes_own : (p : PayloadIn) (s s' new : Substream) (set : List Table) (t : Table) → find (is_of (payload_type_of kind)) batch.payloads ≡ Some p → Notes p.schema_id s s'
      → is_within s'.position ≡ true → TablesOf taken batch.payloads set → find (λ u. is_kind u.kind kind) set ≡ Some t → AddsRows t s' new → TakesBatch kind frame taken s new
  takes_own p s s' new set t found notes within tables_are table adds = record {
    at = λ number outcomes other tables is stands h.
        let same = set_as outcomes other tables is set tables_are stands in
        let mine = found_as outcomes other tables is (Some p) found in
        let there = table_there taken.signal kind number outcomes frame other tables is p mine set same in
        let first : there.0 ≡ t = cc (sym (found_first kind set [] there.0 there.1) ∙ table) in
        let whole : of_kind kind tables ≡ t ∷ [] = ap (of_kind kind) (is.same ∙ sym same) ∙ there.1 ∙ ap (λ (u : Table). u ∷ []) first in
        filed_own taken.signal kind number outcomes frame other tables is p mine s s' new t notes within whole adds h;
  }

  -- what is known of the tables that are shown
  module _ (accepted : HasAccepted frame taken) (set : List Table) (tables_are : TablesOf taken batch.payloads set) where
    set_is : set ≡ tables_of taken.signal (payloads_after accepted.outcomes) accepted.batch.payloads
    set_is = set_as accepted.outcomes accepted.batch accepted.tables accepted.is set tables_are accepted.stands

    pub there_is : (p : PayloadIn) → find (is_of (payload_type_of kind)) batch.payloads ≡ Some p → find (λ u. is_kind u.kind kind) set ≡ None → ⊥
    there_is p found none =
        let is = accepted.is in
        let mine = found_as accepted.outcomes accepted.batch accepted.tables is (Some p) found in
        let there = table_there taken.signal kind 0 accepted.outcomes frame accepted.batch accepted.tables is p mine set set_is in
        cc (sym (found_first kind set [] there.0 there.1) ∙ none)

    pub is_light : (t : Table) → find (λ u. is_kind u.kind kind) set ≡ Some t → weight_of_table t ≤ row_weight_limit
    is_light t found =
        let all = accepted.is.accepts.size.rows in
        let mine = found_light kind set t found in
        let same = ap weight_of_tables set_is in
        omega (arith, all, mine, same)

  pub kind_is : (set : List Table) (t : Table) → find (λ u. is_kind u.kind kind) set ≡ Some t → t.kind ≡ kind
  kind_is set t found = same_kind t.kind kind (found_kind kind set t found)

-- ---- a frame

payloads_refused : (outcomes : List Outcome) (refusal : Refusal) → payloads_after (outcomes ++ Refused refusal ∷ []) ≡ payloads_after outcomes
unfolding payloads_after
payloads_refused outcomes refusal =
    ap (flat_map payloads_if) (since-append is_reset outcomes (Refused refusal ∷ [])) ∙ flat_map-append payloads_if (segment outcomes) (Refused refusal ∷ [])
    ∙ append-nil (flat_map payloads_if (segment outcomes))

filed_refused : (kind : Kind) (number : ℕ) (outcomes : List Outcome) (refusal : Refusal) (s : Substream) → HasFiled kind number outcomes s
    → HasFiled kind number (outcomes ++ Refused refusal ∷ []) s
filed_refused kind number outcomes refusal s h =
    let more = opened_more kind outcomes (Refused refusal) in
    let count : opened kind (outcomes ++ Refused refusal ∷ []) ≡ opened kind outcomes = omega (arith, more) in
    record {
      position = rw count h.position;
      current = h.current ∙ ap (open_id (payload_type_of kind)) (sym (payloads_refused outcomes refusal));
      file = rw (chosen_none kind number outcomes (Refused refusal) refl) h.file;
    }

filed_reset : (kind : Kind) (number : ℕ) (outcomes : List Outcome) (s s' : Substream) → s'.position ≡ s.position → open_in s' ≡ None → s'.file ≡ s.file → HasFiled kind number outcomes s
    → HasFiled kind number (outcomes ++ Reset ∷ []) s'
filed_reset kind number outcomes s s' position none file h =
    let more = opened_more kind outcomes Reset in
    let count : opened kind (outcomes ++ Reset ∷ []) ≡ opened kind outcomes = omega (arith, more) in
    record {
      position = rw (count, position) h.position;
      current = none ∙ sym (ap (open_id (payload_type_of kind)) (payloads_reset outcomes) ∙ none_open (payload_type_of kind));
      file = rw (chosen_none kind number outcomes Reset refl, file) h.file;
    }

accepted_from : (signal : Signal) (outcomes : List Outcome) (frame : Frame) (o : Outcome) (batch : BatchContent) (tables : List Table) → o ≡ Accepted batch tables
    → (b : Bool) → is_broken outcomes ≡ b → MatchBool b (StaysBroken frame o) (GivesOutcome signal (payloads_after outcomes) frame o) → IsAcceptedBatch signal outcomes frame batch tables
accepted_from signal outcomes frame o batch tables is true broken StaysBroken.compressed = absurd (cc is)
accepted_from signal outcomes frame o batch tables is true broken (StaysBroken.unreadable bytes refusal stands) = absurd (cc is)
accepted_from signal outcomes frame o batch tables is true broken (StaysBroken.readable bytes other reads) = absurd (cc is)
accepted_from signal outcomes frame o batch tables is true broken StaysBroken.resets = absurd (cc is)
accepted_from signal outcomes frame o batch tables is false whole GivesOutcome.compressed = absurd (cc is)
accepted_from signal outcomes frame o batch tables is false whole (GivesOutcome.unreadable bytes refusal stands) = absurd (cc is)
accepted_from signal outcomes frame o batch tables is false whole (GivesOutcome.refuses bytes other cause payload reads refuses) = absurd (cc is)
accepted_from signal outcomes frame o batch tables is false whole (GivesOutcome.accepts bytes other reads accepts) =
    let one : other ≡ batch = cc is in
    record {
      bytes = bytes;
      message = refl;
      reads = subst (ReadsBatch bytes) one reads;
      accepts = subst (λ (b : BatchContent). Accepts signal (payloads_after outcomes) b.payloads) one accepts;
      whole = whole;
      same = sym (cc is) ∙ ap (λ (b : BatchContent). tables_of signal (payloads_after outcomes) b.payloads) one;
    }
accepted_from signal outcomes frame o batch tables is false whole GivesOutcome.resets = absurd (cc is)

pub is_accepted : (signal : Signal) (outcomes : List Outcome) (frame : Frame) (batch : BatchContent) (tables : List Table) → OutcomeAfter signal outcomes frame (Accepted batch tables)
    → IsAcceptedBatch signal outcomes frame batch tables
is_accepted signal outcomes frame batch tables gives = accepted_from signal outcomes frame (Accepted batch tables) batch tables refl (is_broken outcomes) refl gives

-- an outcome that is reported as a batch is one that is accepted
record IsBatch (o : Outcome) : Type 0 where
  batch : BatchContent
  tables : List Table
  is : o ≡ Accepted batch tables

as_batch : (o : Outcome) (id : ℤ) (rows : ℕ) → ReportsOutcome o (seen.Batch id rows) → IsBatch o
as_batch (Accepted batch tables) id rows reports = record { batch = batch; tables = tables; is = refl }
as_batch (Refused refusal) id rows reports = absurd reports
as_batch Reset id rows reports = absurd reports

as_refusal : (o : Outcome) (refusal : Refusal) → ReportsOutcome o (seen.Refused refusal) → o ≡ Refused refusal
as_refusal (Accepted batch tables) refusal reports = absurd reports
as_refusal (Refused other) refusal reports = ap (λ r. Refused r) (sym reports)
as_refusal Reset refusal reports = absurd reports

as_reset : (o : Outcome) → ReportsOutcome o seen.Reset → o ≡ Reset
as_reset (Accepted batch tables) reports = absurd reports
as_reset (Refused refusal) reports = absurd reports
as_reset Reset reports = refl

module _ (kind : Kind) (frame : Frame) (old new : SegmentIn) (same : new.signal ≡ old.signal) where
  stands_as : (outcomes : List Outcome) → StandsFor old.signal outcomes new → StandsFor new.signal outcomes new
  stands_as outcomes stands = subst (λ (x : Signal). StandsFor x outcomes new) (sym same) stands

  -- the segment has accepted the frame
  pub has_accepted : (s : Substream) (id : ℤ) (rows : ℕ) → Next old frame new (seen.Batch id rows) → IsTaken frame new → HasSomeFile kind old s → HasAccepted frame new
  has_accepted s id rows next taken some =
      let n = next.at old.signal some.outcomes some.has.frames in
      let b = as_batch n.outcome id rows n.reports in
      record {
        taken = taken;
        outcomes = some.outcomes;
        batch = b.batch;
        tables = b.tables;
        is = subst (λ (x : Signal). IsAcceptedBatch x some.outcomes frame b.batch b.tables) (sym same)
            (is_accepted old.signal some.outcomes frame b.batch b.tables (subst (OutcomeAfter old.signal some.outcomes frame) b.is n.gives));
        stands = stands_as (some.outcomes ++ Accepted b.batch b.tables ∷ []) (subst (λ (o : Outcome). StandsFor old.signal (some.outcomes ++ o ∷ []) new) b.is n.stands);
      }

  pub frame_batch : (s s' : Substream) (id : ℤ) (rows : ℕ) (number : ℕ) (reply : ReplyText) → Next old frame new (seen.Batch id rows) → TakesBatch kind frame new s s' → reply ≡ printed []
      → TakesFrame kind frame old new s s' number reply
  frame_batch s s' id rows number reply next takes says = record {
    at = λ place outcomes has.
        let n = next.at old.signal outcomes has.frames in
        let b = as_batch n.outcome id rows n.reports in
        let o = Accepted b.batch b.tables in
        let gives = subst (OutcomeAfter old.signal outcomes frame) b.is n.gives in
        let stands = stands_as (outcomes ++ o ∷ []) (subst (λ (x : Outcome). StandsFor old.signal (outcomes ++ x ∷ []) new) b.is n.stands) in
        let is = subst (λ (x : Signal). IsAcceptedBatch x outcomes frame b.batch b.tables) (sym same) (is_accepted old.signal outcomes frame b.batch b.tables gives) in
        record {
          outcome = o;
          gives = gives;
          says = says;
          stands = record { frames = stands; tables = takes.at place outcomes b.batch b.tables is stands has.tables };
        };
  }

  pub frame_refused : (s : Substream) (refusal : Refusal) (number : ℕ) (reply : ReplyText) → Next old frame new (seen.Refused refusal) → reply ≡ refuses (refusal_line number refusal)
      → TakesFrame kind frame old new s s number reply
  frame_refused s refusal number reply next says = record {
    at = λ place outcomes has.
        let n = next.at old.signal outcomes has.frames in
        let is = as_refusal n.outcome refusal n.reports in
        record {
          outcome = Refused refusal;
          gives = subst (OutcomeAfter old.signal outcomes frame) is n.gives;
          says = says;
          stands = record {
            frames = stands_as (outcomes ++ Refused refusal ∷ []) (subst (λ (x : Outcome). StandsFor old.signal (outcomes ++ x ∷ []) new) is n.stands);
            tables = filed_refused kind place outcomes refusal s has.tables;
          };
        };
  }

  pub frame_reset : (s s' : Substream) (number : ℕ) (reply : ReplyText) → Next old frame new seen.Reset → s'.position ≡ s.position → open_in s' ≡ None → s'.file ≡ s.file → reply ≡ printed []
      → TakesFrame kind frame old new s s' number reply
  frame_reset s s' number reply next position none file says = record {
    at = λ place outcomes has.
        let n = next.at old.signal outcomes has.frames in
        let is = as_reset n.outcome n.reports in
        record {
          outcome = Reset;
          gives = subst (OutcomeAfter old.signal outcomes frame) is n.gives;
          says = says;
          stands = record {
            frames = stands_as (outcomes ++ Reset ∷ []) (subst (λ (x : Outcome). StandsFor old.signal (outcomes ++ x ∷ []) new) is n.stands);
            tables = filed_reset kind place outcomes s s' position none file has.tables;
          };
        };
  }
