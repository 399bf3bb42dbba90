-- The file of a sub-stream comes back.
use Rattle.std.proofs.Common.{◌≡◌, ◌⊎◌, inl, inr, ℕ, ◌+◌, ◌≤◌, suc, Bool, true, false, List, [], ◌∷◌, ◌++◌, length, map, Some, refl, sym, ap, ◌∙◌, subst}
use Rattle.std.specs.Prelude.{All, ◌==◌, if◌then◌else◌}
use Rattle.std.specs.List.{AllByRecursion, AllZip}
use Rattle.std.proofs.lemmas.Bool.{cases_Bool}
use Rattle.std.proofs.lemmas.List.Elements.{All-nil, All-cons, All-append, All-head, All-tail}
use Rattle.lists.specs.EachAfter.{AllAfter, EachAfter}
use Rattle.lists.specs.Payloads.{PayloadIn}
use Rattle.arrow_schema.specs.declared.spec.FieldSpec.{FieldSpec}
use Rattle.arrow_ipc.specs.declared.messages.IpcMessage.{IpcMessage}
use Rattle.arrow_ipc.specs.declared.messages.IpcMessage.TheVariants.{Schema, Rows}
use Rattle.arrow_ipc.specs.Fronts.{front_of, left_of}
use Rattle.arrow_ipc.specs.Messages.{IsMessage}
use Rattle.arrow_ipc.proofs.Appending.{front_extends}
use Rattle.arrow_ipc.proofs.Fronting.{front_of-only, no_message}
use Rattle.arrow_file.specs.declared.refusal.FileRefusal.{FileRefusal}
use Rattle.arrow_file.specs.Defects.{HasFileDefect}
use Rattle.arrow_file.specs.Files.{File}
use Rattle.arrow_file.specs.Limits.{max_file}
use Rattle.arrow_file.specs.Written.{IsWrittenAt, WrittenBatch, message_bytes, messages_of}
use Rattle.otap_cells.specs.declared.payload.Kind.{Kind}
use Rattle.otap_cells.specs.Payload.{is_kind}
use Rattle.otap_cells.specs.Tables.{Table, IsTable}
use Rattle.otap_cells.proofs.KindsApart.{same_kind}
use Rattle.otap_columns.specs.Plain.{HoldsPlain, plain_schema}
use Rattle.otap_columns.specs.PlainPayloads.{HoldsTable, IsReadAgain}
use Rattle.otap_columns.specs.Streams.{opens, opens_after, stream_of}
use Rattle.otap_columns.specs.Substreams.{schema_in}
use Rattle.otap_columns.specs.TableSets.{of_kind}
use Rattle.otap_columns.specs.WrittenPayloads.{schema_if}
use Rattle.otap_columns.proofs.Openings.{own_type}
use Rattle.otap_consume.proofs.Substreams.{last_of-own}
use Rattle.otap_consume.specs.Outcomes.{Outcome}
use Rattle.otap_consume.specs.Payloads.{payload_type_of}
use Rattle.otap_gateway.specs.FilesBack.{ComesBack, payload_of, payloads_of}
use Rattle.otap_gateway.specs.Filing.{IsFileOf, chosen, chosen_after, chosen_in, opened, tables_if}
use Rattle.otap_gateway.specs.Lines.{printed, refuses}
use Rattle.otap_gateway.specs.Reply.{ReplyText}
use Rattle.otap_gateway.specs.Unfiling.{Unfiles, frames_from, records_of, refused_file}

-- ---- all tables of the sub-stream are of the kind

of_kind_all : (kind : Kind) (ts : List Table) → All (λ u. u.kind ≡ kind) (of_kind kind ts)
of_kind_all kind [] = All-nil (λ u. u.kind ≡ kind)
of_kind_all kind (t ∷ ts) =
    elim (cases_Bool (is_kind t.kind kind)) [
      | inl own ↦ rw own (All-cons (λ u. u.kind ≡ kind) t (of_kind kind ts) (same_kind t.kind kind own) (of_kind_all kind ts))
      | inr other ↦ rw other (of_kind_all kind ts)
    ]

chosen_all : (kind : Kind) (n : ℕ) (past os : List Outcome) → All (λ u. u.kind ≡ kind) (chosen_after kind n past os)
chosen_all kind n past [] = All-nil (λ u. u.kind ≡ kind)
chosen_all kind n past (o ∷ os) =
    All-append (λ u. u.kind ≡ kind) (chosen_in kind n past o) (chosen_after kind n (past ++ o ∷ []) os) (by_test (opened kind (past ++ o ∷ []) == suc n)) (chosen_all kind n (past ++ o ∷ []) os)
  where
    by_test : (b : Bool) → All (λ u. u.kind ≡ kind) (if b then of_kind kind (tables_if o) else [])
    by_test true = of_kind_all kind (tables_if o)
    by_test false = All-nil (λ u. u.kind ≡ kind)

chosen_kinds : (kind : Kind) (n : ℕ) (os : List Outcome) → All (λ u. u.kind ≡ kind) (chosen kind n os)
unfolding chosen
chosen_kinds kind n os = chosen_all kind n [] os

-- ---- what records begin with

schema_front : (schema rows : List ℕ) (m n : IpcMessage) → IsMessage schema m (length schema) → IsMessage rows n (length rows)
    → (front_of (schema ++ rows) ≡ m ∷ n ∷ []) × (left_of (schema ++ rows) ≡ [])
schema_front schema rows m n first second =
    front_of-only (schema ++ rows) (m ∷ n ∷ []) [] (front_extends schema rows n second (m ∷ []) (front_extends [] schema m first [] (refl, no_message)))

rows_front : (rows : List ℕ) (n : IpcMessage) → IsMessage rows n (length rows) → (front_of rows ≡ n ∷ []) × (left_of rows ≡ [])
rows_front rows n second = front_of-only rows (n ∷ []) [] (front_extends [] rows n second [] (refl, no_message))

opens_first : (p : PayloadIn) → opens [] p ≡ true
unfolding opens
opens_first p = refl

-- after a payload of its type with its schema id it goes on
goes_on : (front : List PayloadIn) (kind : Kind) (bytes before : List ℕ) → opens (front ++ payload_of kind before ∷ []) (payload_of kind bytes) ≡ false
unfolding opens
goes_on front kind bytes before =
    ap (λ o. opens_after o (payload_of kind bytes)) (last_of-own (payload_type_of kind) front (payload_of kind before) (own_type (payload_of kind before)))

-- the messages of what is written
messages_are : (start : ℕ) (before ws : List WrittenBatch) → AllAfter (λ past b. IsWrittenAt (start + length (message_bytes past)) b) before ws
    → AllByRecursion (λ b. IsMessage b.message (Rows b.batch) (length b.message)) ws
messages_are start before [] each = tt
messages_are start before (w ∷ ws) each = (each.0.laid.is, messages_are start (before ++ w ∷ []) ws each.1)

module _ (again : (past : List PayloadIn) (t : Table) (p : PayloadIn) → HoldsTable past t p → IsReadAgain past t p) (kind : Kind) (fields : List FieldSpec) where
  abbrev Read : List Table → List PayloadIn → Table → PayloadIn → Type 0
  Read before past u p = IsReadAgain past u p

  -- the batches after the first
  later : (before : List Table) (front : List PayloadIn) (last : List ℕ) → schema_in (stream_of (payload_type_of kind) (front ++ payload_of kind last ∷ [])) ≡ Some fields
      → (us : List Table) (ws : List WrittenBatch) → All (λ u. u.kind ≡ kind) us → All (λ u. plain_schema u ≡ fields) us → All IsTable us → AllZip HoldsPlain us (map (λ b. b.batch) ws)
      → AllByRecursion (λ b. IsMessage b.message (Rows b.batch) (length b.message)) ws
      → EachAfter Read before (front ++ payload_of kind last ∷ []) us (payloads_of kind (messages_of ws))
  later before front last schema [] [] kinds alike sound rows are = tt
  later before front last schema [] (w ∷ ws) kinds alike sound rows are = absurd rows
  later before front last schema (u ∷ us) [] kinds alike sound rows are = absurd rows
  later before front last schema (u ∷ us) (w ∷ ws) kinds alike sound rows are =
      let past = front ++ payload_of kind last ∷ [] in
      let p = payload_of kind w.message in
      let own : u.kind ≡ kind = All-head (λ u. u.kind ≡ kind) u us kinds in
      let same : plain_schema u ≡ fields = All-head (λ u. plain_schema u ≡ fields) u us alike in
      let goes : opens past p ≡ false = goes_on front kind w.message last in
      let read = rows_front w.message (Rows w.batch) are.0 in
      let holds : HoldsTable past u p = record {
        type = ap payload_type_of (sym own);
        table = All-head IsTable u us sound;
        batch = w.batch;
        holds = rows.0;
        messages = read.0 ∙ ap (λ (b : Bool). schema_if b (plain_schema u) ++ Rows w.batch ∷ []) (sym goes);
        ends = read.1;
        goes_on = λ on. ap (λ (k : Kind). schema_in (stream_of (payload_type_of k) past)) own ∙ schema ∙ ap (λ (l : List FieldSpec). Some l) (sym same);
      } in
      let here : IsReadAgain past u p = again past u p holds in
      let next : schema_in (stream_of (payload_type_of kind) (past ++ p ∷ [])) ≡ Some fields
      = ap (λ (k : Kind). schema_in (stream_of (payload_type_of k) (past ++ p ∷ []))) (sym own) ∙ here.schema ∙ ap (λ (l : List FieldSpec). Some l) same in
      (here, later (before ++ u ∷ []) past w.message next us ws (All-tail (λ u. u.kind ≡ kind) u us kinds) (All-tail (λ u. plain_schema u ≡ fields) u us alike) (All-tail IsTable u us sound) rows.1 are.1)

  -- all of them
  all_read : (t : Table) (tables : List Table) (schema : List ℕ) (ws : List WrittenBatch) → t.kind ≡ kind → plain_schema t ≡ fields → All (λ u. u.kind ≡ kind) tables
      → All (λ u. plain_schema u ≡ fields) tables → All IsTable (t ∷ tables) → AllZip HoldsPlain (t ∷ tables) (map (λ b. b.batch) ws)
      → IsMessage schema (Schema fields) (length schema) → AllByRecursion (λ b. IsMessage b.message (Rows b.batch) (length b.message)) ws
      → EachAfter Read [] [] (t ∷ tables) (payloads_of kind (records_of schema [] (messages_of ws)))
  all_read t tables schema [] own same kinds alike sound rows says are = absurd rows
  all_read t tables schema (w ∷ ws) own same kinds alike sound rows says are =
      let bytes = schema ++ w.message in
      let p = payload_of kind bytes in
      let first : opens [] p ≡ true = opens_first p in
      let read = schema_front schema w.message (Schema fields) (Rows w.batch) says are.0 in
      let holds : HoldsTable [] t p = record {
        type = ap payload_type_of (sym own);
        table = All-head IsTable t tables sound;
        batch = w.batch;
        holds = rows.0;
        messages = read.0 ∙ ap (λ (l : List FieldSpec). Schema l ∷ Rows w.batch ∷ []) (sym same) ∙ ap (λ (b : Bool). schema_if b (plain_schema t) ++ Rows w.batch ∷ []) (sym first);
        ends = read.1;
        goes_on = λ on. absurd (cc (sym first ∙ on));
      } in
      let here : IsReadAgain [] t p = again [] t p holds in
      let next : schema_in (stream_of (payload_type_of kind) ([] ++ p ∷ [])) ≡ Some fields
      = ap (λ (k : Kind). schema_in (stream_of (payload_type_of k) ([] ++ p ∷ []))) (sym own) ∙ here.schema ∙ ap (λ (l : List FieldSpec). Some l) same in
      (here, later (t ∷ []) [] bytes next tables ws kinds alike (All-tail IsTable t tables sound) rows.1 are.1)

-- THE LAW
pub comes_back : ((past : List PayloadIn) (t : Table) (p : PayloadIn) → HoldsTable past t p → IsReadAgain past t p)
    → (kind : Kind) (number : ℕ) (outcomes : List Outcome) (t : Table) (tables : List Table) (bytes : List ℕ) → chosen kind number outcomes ≡ t ∷ tables → IsFileOf t tables bytes
    → ComesBack t tables bytes
comes_back again kind number outcomes t tables bytes is f =
    let w = f.file in
    let all : All (λ u. u.kind ≡ kind) (t ∷ tables) = subst (All (λ u. u.kind ≡ kind)) is (chosen_kinds kind number outcomes) in
    let own : t.kind ≡ kind = All-head (λ u. u.kind ≡ kind) t tables all in
    let kinds : All (λ u. u.kind ≡ t.kind) tables = subst (λ (k : Kind). All (λ u. u.kind ≡ k) tables) (sym own) (All-tail (λ u. u.kind ≡ kind) t tables all) in
    let file : File bytes w.schema.written [] (messages_of w.written) = w.file f.readable in
    record {
      schema = w.schema.written;
      batches = messages_of w.written;
      file = file;
      says = w.says f.readable;
      writes = λ short. Unfiles.opens w.schema.written [] (messages_of w.written) short file;
      read = all_read again t.kind (plain_schema t) t tables w.schema.written w.written refl refl kinds f.alike f.sound
          (subst (AllZip HoldsPlain (t ∷ tables)) (sym w.batches_are) f.rows) (w.says f.readable) (messages_are (length w.start) [] w.written w.each);
    }

-- ---- one reply

module _ (one : (bytes s t : List ℕ) (ds es bs cs : List (List ℕ)) → File bytes s ds bs → File bytes t es cs → (s ≡ t) × (ds ≡ es) × (bs ≡ cs))
    (never_both : (bytes s : List ℕ) (ds bs : List (List ℕ)) (refusal : FileRefusal) → length bytes ≤ max_file → File bytes s ds bs → HasFileDefect bytes refusal → ⊥)
    (one_defect : (bytes : List ℕ) (a b : FileRefusal) → HasFileDefect bytes a → HasFileDefect bytes b → a ≡ b) (kind : Kind) (bytes : List ℕ) where
  pub one_reply : (reply other : ReplyText) → Unfiles kind bytes reply → Unfiles kind bytes other → reply ≡ other
  one_reply _ _ (Unfiles.opens s ds bs short is) (Unfiles.opens t es cs short' is') =
      let same = one bytes s t ds es bs cs is is' in
      λ i. printed (frames_from kind 0 (records_of (same.0 i) (same.1 i) (same.2 i)))
  one_reply _ _ (Unfiles.opens s ds bs short is) (Unfiles.refused refusal defect) = absurd (never_both bytes s ds bs refusal short is defect)
  one_reply _ _ (Unfiles.refused refusal defect) (Unfiles.opens s ds bs short is) = absurd (never_both bytes s ds bs refusal short is defect)
  one_reply _ _ (Unfiles.refused a defect) (Unfiles.refused b defect') = ap (λ (r : FileRefusal). refuses (refused_file r)) (one_defect bytes a b defect defect')

pub some_reply : (kind : Kind) (bytes : List ℕ)
    → ((s : List ℕ) × (ds : List (List ℕ)) × (bs : List (List ℕ)) × (length bytes ≤ max_file) × File bytes s ds bs) ⊎ ((refusal : FileRefusal) × HasFileDefect bytes refusal)
    → (reply : ReplyText) × Unfiles kind bytes reply
some_reply kind bytes (inl (s, ds, bs, short, is)) = (printed (frames_from kind 0 (records_of s ds bs)), Unfiles.opens s ds bs short is)
some_reply kind bytes (inr (refusal, defect)) = (refuses (refused_file refusal), Unfiles.refused refusal defect)
