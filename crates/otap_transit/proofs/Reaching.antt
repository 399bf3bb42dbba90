-- The payloads of a segment by the policy, each after those before it: what the far end finds of it.
use Rattle.std.proofs.Common.{◌≡◌, ℕ, suc, ◌+◌, ◌^◌, ◌<◌, ◌≤◌, Bool, false, ◌&&◌, List, [], ◌∷◌, ◌++◌, length, Option, Some, None, ℤ, pos, inl, inr, if◌then◌else◌}
use Rattle.std.proofs.Common.{refl, sym, ap, ◌∙◌, subst, append-nil, append_assoc, length-append, arith}
use Rattle.std.specs.Prelude.{not, bytes_eq}
use Rattle.std.specs.List.{AllByRecursion, list_any}
use Rattle.std.specs.Ordering.{int_eq}
use Rattle.std.specs.Str.{IsUtf8}
use Rattle.std.proofs.lemmas.Bool.{cases_Bool}
use Rattle.std.proofs.lemmas.Bool.Decides.{Decides-int_eq}
use Rattle.std.proofs.lemmas.Slice.Eq.{bytes_eq-Decides}
use Rattle.lists.proofs.Truths.{and_false}
use Rattle.lists.specs.EachAfter.{EachAfter}
use Rattle.lists.proofs.Growing.{each_after-push}
use Rattle.lists.specs.Payloads.{PayloadIn}
use Rattle.arrow_ipc.specs.declared.messages.IpcMessage.{IpcMessage}
use Rattle.otlp_model.specs.declared.request.Signal.{Signal}
use Rattle.otap_cells.specs.declared.payload.Kind.{Kind}
use Rattle.otap_cells.specs.GivenIds.{ReadsAs}
use Rattle.otap_cells.specs.Payload.{kinds_of, kind_numbered, number_of}
use Rattle.otap_cells.specs.Tables.{Table}
use Rattle.otap_columns.specs.Limits.{held_of_kind}
use Rattle.otap_columns.specs.WrittenPayloads.{IsReadAs}
use Rattle.otap_columns.specs.Records.{IsRead}
use Rattle.otap_columns.specs.Streams.{opens, stream_of, open_id}
use Rattle.otap_columns.specs.Substreams.{held_in, logical, substream_in}
use Rattle.otap_columns.specs.TableSets.{IsPayloadOf, of_kind}
use Rattle.otap_consume.specs.Defects.{is_open_id, is_open_for, is_taken}
use Rattle.otap_consume.specs.Payloads.{payload_type_of, messages_before}
use Rattle.otap_columns.proofs.Openings.{numbered, stream_of-other}
use Rattle.otap_cells.proofs.KindsApart.{same_number}
use Rattle.otap_transit.proofs.Projected.{FarEndReads, read_as}
use Rattle.otap_transit.proofs.Reading.{reads_as}
use Rattle.otap_transit.proofs.SchemaIds.{AreApart, none_open, is_free, still_apart, id_is_text}

-- ---- what was written so far

-- all open sub-streams hold no more than their columns may
abbrev pub AreHeld : List PayloadIn → Type 0
AreHeld past = (kind : Kind) → held_in (stream_of (payload_type_of kind) past) ≤ held_of_kind kind

pub record AreSoFar (before : List Table) (past : List PayloadIn) : Type 0 where
  pub each : EachAfter IsPayloadOf [] [] before past
  pub apart : AreApart past
  pub held : AreHeld past

none_held : AreHeld []
unfolding stream_of held_in substream_in
none_held kind = omega arith

pub nothing_so_far : AreSoFar [] []
nothing_so_far = record { each = tt; apart = none_open; held = none_held }

-- ---- one payload

-- what the far end finds
pub record Reaches (signal : Signal) (before : List Table) (past : List PayloadIn) (t : Table) (p : PayloadIn) : Type 0 where
  pub type : p.kind ≡ payload_type_of t.kind
  pub known : kind_numbered signal p.kind ≡ Some t.kind
  pub text : IsUtf8 p.schema_id
  pub free : is_taken signal past p ≡ false
  pub read : IsRead t.kind (messages_before past p) p.bytes
  pub table : Table
  pub gives : logical t.kind (stream_of p.kind (past ++ p ∷ [])) ≡ Some table
  pub reads : ReadsAs table t

none_passes : {A : Type 0} (test : A → Bool) (xs : List A) → ((x : A) → test x ≡ false) → list_any test xs ≡ false
none_passes test [] none = refl
none_passes test (x ∷ xs) none = rw (none x) (none_passes test xs none)

module _ (far : FarEndReads) (before : List Table) (past : List PayloadIn) (t : Table) (p : PayloadIn)
    (so_far : AreSoFar before past) (follows : IsPayloadOf before past t p) (few : length past < 10 ^ 64) where
  r : IsReadAs t.kind (of_kind t.kind before) past t p
  r = read_as far before past t p so_far.each follows

  stream : stream_of (payload_type_of t.kind) (past ++ p ∷ []) ≡ stream_of p.kind (past ++ p ∷ [])
  stream = rw follows.written.type refl

  -- its id is open for no other type
  not_open : (kind : Kind) (id : Option (List ℕ)) → open_id (payload_type_of kind) past ≡ id → (not (int_eq p.kind (payload_type_of kind)) && is_open_id p.schema_id id) ≡ false
  not_open kind None is = and_false (not (int_eq p.kind (payload_type_of kind)))
  not_open kind (Some current) is =
      elim (cases_Bool (bytes_eq current p.schema_id)) [
        | inl equal ↦
            let same : current ≡ p.schema_id = (bytes_eq-Decides current p.schema_id).0 equal in
            let own : payload_type_of kind ≡ p.kind
            = is_free past p so_far.apart few (numbered before past t p follows) (payload_type_of kind) (is ∙ ap (λ (id : List ℕ). Some id) same) in
            rw (equal, (Decides-int_eq p.kind (payload_type_of kind)).1 (sym own)) refl
        | inr differs ↦ rw differs (and_false (not (int_eq p.kind (payload_type_of kind))))
      ]

  pub reaches : (signal : Signal) → kind_numbered signal (payload_type_of t.kind) ≡ Some t.kind → Reaches signal before past t p
  reaches signal known = record {
    type = follows.written.type;
    known = ap (kind_numbered signal) follows.written.type ∙ known;
    text = id_is_text past p so_far.apart few (numbered before past t p follows);
    free = none_passes (is_open_for past p) (kinds_of signal) (λ kind. not_open kind (open_id (payload_type_of kind) past) refl);
    read = subst (λ (type : ℤ). IsRead t.kind (if opens past p then [] else stream_of type past) p.bytes) (sym follows.written.type) r.read;
    table = r.table;
    gives = ap (logical t.kind) (sym stream) ∙ r.gives;
    reads = reads_as (of_kind t.kind before) past t p follows.written.writable r;
  }

  still_held : AreHeld (past ++ p ∷ [])
  still_held kind =
      elim (cases_Bool (int_eq p.kind (payload_type_of kind))) [
        | inl own ↦
            let numbers : pos (number_of t.kind) ≡ pos (number_of kind) = sym follows.written.type ∙ (Decides-int_eq p.kind (payload_type_of kind)).0 own in
            let same : t.kind ≡ kind = same_number t.kind kind (cc numbers) in
            let here : held_in (stream_of p.kind (past ++ p ∷ [])) ≤ held_of_kind t.kind
            = subst (λ (ms : List IpcMessage). held_in ms ≤ held_of_kind t.kind) stream r.held in
            subst (λ (k : Kind). held_in (stream_of (payload_type_of k) (past ++ p ∷ [])) ≤ held_of_kind k) same
            (subst (λ (type : ℤ). held_in (stream_of type (past ++ p ∷ [])) ≤ held_of_kind t.kind) follows.written.type here)
        | inr other ↦ rw (stream_of-other (payload_type_of kind) past p other) (so_far.held kind)
      ]

  pub one_more : AreSoFar (before ++ t ∷ []) (past ++ p ∷ [])
  one_more = record {
    each = each_after-push IsPayloadOf [] [] before past t p so_far.each follows;
    apart = still_apart past p so_far.apart few (numbered before past t p follows);
    held = still_held;
  }

-- ---- the payloads of a batch

abbrev pub IsOf : Signal → Table → Type 0
IsOf signal t = kind_numbered signal (payload_type_of t.kind) ≡ Some t.kind

module _ (far : FarEndReads) (signal : Signal) where
  pub all_reach : (before : List Table) (past : List PayloadIn) (ts : List Table) (ps : List PayloadIn) → AreSoFar before past → EachAfter IsPayloadOf before past ts ps
      → AllByRecursion (IsOf signal) ts → length (past ++ ps) < 10 ^ 64 → EachAfter (Reaches signal) before past ts ps × AreSoFar (before ++ ts) (past ++ ps)
  all_reach before past [] [] so_far each known few = (tt, rw (append-nil before, append-nil past) so_far)
  all_reach before past [] (p ∷ ps) so_far each known few = absurd each
  all_reach before past (t ∷ ts) [] so_far each known few = absurd each
  all_reach before past (t ∷ ts) (p ∷ ps) so_far each known few =
      let long : length (past ++ p ∷ ps) ≡ length past + suc (length ps) = length-append past (p ∷ ps) in
      let fits : length past < 10 ^ 64 = omega (arith, long, few) in
      let later : EachAfter (Reaches signal) (before ++ t ∷ []) (past ++ p ∷ []) ts ps × AreSoFar ((before ++ t ∷ []) ++ ts) ((past ++ p ∷ []) ++ ps)
      = all_reach (before ++ t ∷ []) (past ++ p ∷ []) ts ps (one_more far before past t p so_far each.0 fits) each.1 known.1 (rw (append_assoc past (p ∷ []) ps) few) in (
        (reaches far before past t p so_far each.0 fits signal known.0, later.0),
        rw (← append_assoc before (t ∷ []) ts, ← append_assoc past (p ∷ []) ps) later.1,
      )
