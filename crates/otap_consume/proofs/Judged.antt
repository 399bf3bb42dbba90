-- Payloads that come after payloads that were taken are accepted or refused.
use Rattle.std.proofs.Common.{◌≡◌, ℕ, Bool, true, false, List, [], ◌∷◌, ◌++◌, length, Option, Some, None, ℤ, if◌then◌else◌, refl, sym, ap, ◌∙◌, subst, append_assoc, append-nil, rules, ◌⊎◌, inl, inr}
use Rattle.std.specs.List.{AllByRecursion}
use Rattle.std.specs.Option.{IsSome}
use Rattle.std.specs.Ordering.{int_eq}
use Rattle.std.proofs.lemmas.Bool.{cases_Bool, cases_lt}
use Rattle.std.proofs.lemmas.Bool.Decides.{Decides-int_eq}
use Rattle.lists.specs.EachAfter.{AllAfter}
use Rattle.lists.proofs.Growing.{all_after-keeps, all_after-push}
use Rattle.lists.specs.Payloads.{PayloadIn}
use Rattle.otlp_model.specs.Limits.{item_limit}
use Rattle.otlp_model.specs.declared.request.Signal.{Signal}
use Rattle.arrow_ipc.specs.declared.messages.IpcMessage.{IpcMessage}
use Rattle.arrow_ipc.specs.Fronts.{front_of}
use Rattle.otap_cells.specs.declared.payload.Kind.{Kind}
use Rattle.otap_cells.specs.Payload.{kind_numbered, main_of}
use Rattle.otap_cells.specs.Sets.{rows_named}
use Rattle.otap_cells.specs.Tables.{Table}
use Rattle.otap_cells.specs.Weights.{row_weight_limit, weight_of_tables}
use Rattle.otap_columns.specs.declared.refusal.ColumnRefusal.{ColumnRefusal}
use Rattle.otap_columns.specs.Records.{IsRead, Stands, HasSchema, CanGoOn}
use Rattle.otap_columns.specs.Streams.{opens, opens_after, stream_of, last_of}
use Rattle.otap_columns.proofs.Deciding.{judged, opens_with, has_schema-stays}
use Rattle.otap_consume.specs.declared.payload_types.TypesRefusal.{TypesRefusal}
use Rattle.otap_consume.specs.declared.payload_types.TypesRefusal.TheVariants as types
use Rattle.otap_consume.specs.declared.refusal.Cause.{Cause}
use Rattle.otap_consume.specs.declared.refusal.Cause.TheVariants.{PayloadType, PayloadTwice, SchemaIdTaken, Column, TooManyItems, RowsTooHeavy, HeldTooMuch}
use Rattle.otap_consume.specs.Limits.{held_limit}
use Rattle.otap_consume.specs.Defects.{is_taken, HasTakenId, IsDefectOfList, HasFineList, IsDefectOfRecord, IsReadAfter, HasFineRecords, IsTakenAfter}
use Rattle.otap_consume.specs.Defects.{AreTaken, IsTooLarge, IsWithinLimits, tables_of, held_after, Refuses, AreJudged}
use Rattle.otap_consume.specs.Payloads.{messages_before}
use Rattle.otap_consume.specs.PayloadTypes.{IsFineType, HasFineTypes, IsDefectOfTypes, times}
use Rattle.otap_columns.proofs.Openings.{stream_of-other, stream_of-own}
use Rattle.otap_consume.proofs.ViewSteps.{fine_at}

-- ---- the sub-stream of a type that was taken has a schema, or no messages

-- one more payload
goes_on : (signal : Signal) (before : List PayloadIn) (p : PayloadIn) → CanGoOn (stream_of p.kind before) → IsTakenAfter signal before p → CanGoOn (stream_of p.kind (before ++ p ∷ []))
unfolding opens
goes_on signal before p can t = by_test (opens_after (last_of p.kind before) p) refl
  where
    own : int_eq p.kind p.kind ≡ true
    own = (Decides-int_eq p.kind p.kind).1 refl

    after : stream_of p.kind (before ++ p ∷ []) ≡ (if opens_after (last_of p.kind before) p then front_of p.bytes else stream_of p.kind before ++ front_of p.bytes)
    after = stream_of-own p.kind before p own

    begins : messages_before before p ≡ [] → HasSchema (front_of p.bytes)
    begins none = opens_with t.kind p.bytes (subst (λ (ms : List IpcMessage). IsRead t.kind ms p.bytes) none t.read)

    comes_after : messages_before before p ≡ stream_of p.kind before → CanGoOn (stream_of p.kind before) → CanGoOn (stream_of p.kind before ++ front_of p.bytes)
    comes_after same (inl none) =
        let first : HasSchema (front_of p.bytes) = begins (same ∙ none) in
        inr (subst (λ (ms : List IpcMessage). HasSchema (ms ++ front_of p.bytes)) (sym none) first)
    comes_after same (inr has) = inr (has_schema-stays (stream_of p.kind before) (front_of p.bytes) has)

    by_test : (b : Bool) → opens_after (last_of p.kind before) p ≡ b → CanGoOn (stream_of p.kind (before ++ p ∷ []))
    by_test true is =
        let none : messages_before before p ≡ [] = ap (λ (b : Bool). if b then [] else stream_of p.kind before) is in
        subst CanGoOn (sym (after ∙ ap (λ (b : Bool). if b then front_of p.bytes else stream_of p.kind before ++ front_of p.bytes) is)) (inr (begins none))
    by_test false is =
        let same : messages_before before p ≡ stream_of p.kind before = ap (λ (b : Bool). if b then [] else stream_of p.kind before) is in
        subst CanGoOn (sym (after ∙ ap (λ (b : Bool). if b then front_of p.bytes else stream_of p.kind before ++ front_of p.bytes) is)) (comes_after same can)

all_go_on : (signal : Signal) (before : List PayloadIn) (p : PayloadIn) → ((type : ℤ) → CanGoOn (stream_of type before)) → IsTakenAfter signal before p
    → (type : ℤ) → CanGoOn (stream_of type (before ++ p ∷ []))
all_go_on signal before p can t type =
    elim (cases_Bool (int_eq p.kind type)) [
      | inl own ↦ subst (λ (k : ℤ). CanGoOn (stream_of k (before ++ p ∷ []))) ((Decides-int_eq p.kind type).0 own) (goes_on signal before p (can p.kind) t)
      | inr other ↦ subst CanGoOn (sym (stream_of-other type before p other)) (can type)
    ]

none_yet : (type : ℤ) → CanGoOn (stream_of type [])
unfolding stream_of
none_yet type = inl refl

can_go_on : (signal : Signal) (past : List PayloadIn) → AreTaken signal past → (type : ℤ) → CanGoOn (stream_of type past)
can_go_on signal past taken =
    all_after-keeps (IsTakenAfter signal) (λ before. (type : ℤ) → CanGoOn (stream_of type before)) (λ before p can t. all_go_on signal before p can t) [] past none_yet taken

can_come : (before : List PayloadIn) (p : PayloadIn) → CanGoOn (stream_of p.kind before) → CanGoOn (messages_before before p)
can_come before p can = by_test (opens before p) refl
  where
    by_test : (b : Bool) → opens before p ≡ b → CanGoOn (messages_before before p)
    by_test true is = inl (ap (λ (b : Bool). if b then [] else stream_of p.kind before) is)
    by_test false is = subst CanGoOn (sym (ap (λ (b : Bool). if b then [] else stream_of p.kind before) is)) can

-- ---- stage by stage

module _ (signal : Signal) (past payloads : List PayloadIn) where
  types_from : (front xs : List PayloadIn) → payloads ≡ front ++ xs → AllByRecursion (IsFineType signal payloads) xs ⊎ ((r : TypesRefusal) × IsDefectOfTypes signal payloads r)
  types_from front [] is = inl tt
  types_from front (p ∷ xs) is = by_kind (kind_numbered signal p.kind) refl (types_from (front ++ p ∷ []) xs (is ∙ sym (append_assoc front (p ∷ []) xs)))
    where
      some : (kind : Kind) → kind_numbered signal p.kind ≡ Some kind → IsSome (kind_numbered signal p.kind)
      some kind at = subst (λ (o : Option Kind). IsSome o) (sym at) (search rules)

      by_kind : (o : Option Kind) → kind_numbered signal p.kind ≡ o → AllByRecursion (IsFineType signal payloads) xs ⊎ ((r : TypesRefusal) × IsDefectOfTypes signal payloads r)
          → AllByRecursion (IsFineType signal payloads) (p ∷ xs) ⊎ ((r : TypesRefusal) × IsDefectOfTypes signal payloads r)
      by_kind None at rest = inr (types.PayloadType p.kind, (p, record { before = front; after = xs; is = is }, refl, at))
      by_kind (Some kind) at rest =
          elim (cases_lt 1 (times p.kind payloads)) [
            | inl twice ↦ inr (types.PayloadTwice p.kind, twice)
            | inr once ↦ elim rest [ inl fine ↦ inl (record { known = some kind at; once = once }, fine) | inr bad ↦ inr bad ]
          ]

  in_list : (r : TypesRefusal) → IsDefectOfTypes signal payloads r → (cause : Cause) × (payload : Option ℤ) × IsDefectOfList signal past payloads cause payload
  in_list (types.PayloadType type) h = (PayloadType, Some type, h)
  in_list (types.PayloadTwice type) h = (PayloadTwice, Some type, h)

  ids_from : (front xs : List PayloadIn) → payloads ≡ front ++ xs
      → AllAfter (λ before p. is_taken signal before p ≡ false) (past ++ front) xs ⊎ ((type : ℤ) × HasTakenId signal past payloads type)
  ids_from front [] is = inl tt
  ids_from front (p ∷ xs) is = by_test (cases_Bool (is_taken signal (past ++ front) p)) (ids_from (front ++ p ∷ []) xs (is ∙ sym (append_assoc front (p ∷ []) xs)))
    where
      by_test : (is_taken signal (past ++ front) p ≡ true) ⊎ (is_taken signal (past ++ front) p ≡ false)
          → AllAfter (λ before p. is_taken signal before p ≡ false) (past ++ (front ++ p ∷ [])) xs ⊎ ((type : ℤ) × HasTakenId signal past payloads type)
          → AllAfter (λ before p. is_taken signal before p ≡ false) (past ++ front) (p ∷ xs) ⊎ ((type : ℤ) × HasTakenId signal past payloads type)
      by_test (inl taken) rest = inr (p.kind, record { p = p; has = record { before = front; after = xs; is = is }; taken = taken; of = refl })
      by_test (inr free) (inr bad) = inr bad
      by_test (inr free) (inl rest) =
          inl (free, subst (λ (before : List PayloadIn). AllAfter (λ before p. is_taken signal before p ≡ false) before xs) (sym (append_assoc past front (p ∷ []))) rest)

  judged_list : HasFineList signal past payloads ⊎ ((cause : Cause) × (payload : Option ℤ) × IsDefectOfList signal past payloads cause payload)
  judged_list =
      elim (types_from [] payloads refl) [
        | inr bad ↦ inr (in_list bad.0 bad.1)
        | inl fine ↦ elim (ids_from [] payloads refl) [
          | inr bad ↦ inr (SchemaIdTaken, Some bad.0, bad.1)
          | inl free ↦ inl (record { types = fine; ids = subst (λ (before : List PayloadIn). AllAfter (λ before p. is_taken signal before p ≡ false) before payloads) (append-nil past) free })
        ]
      ]

  abbrev Unread : Type 0
  Unread = (refusal : ColumnRefusal) × (payload : Option ℤ) × IsDefectOfRecord signal past payloads refusal payload

  records_from : HasFineTypes signal payloads → (front xs : List PayloadIn) → payloads ≡ front ++ xs → AreTaken signal (past ++ front) → AllAfter (IsReadAfter signal) (past ++ front) xs ⊎ Unread
  records_from fine front [] is taken = inl tt
  records_from fine front (p ∷ xs) is taken =
      by_kind (kind_numbered signal p.kind) refl (fine_at signal payloads front xs p fine is).known (λ more. records_from fine (front ++ p ∷ []) xs (is ∙ sym (append_assoc front (p ∷ []) xs)) more)
    where
      by_record : (kind : Kind) → kind_numbered signal p.kind ≡ Some kind → (AreTaken signal (past ++ (front ++ p ∷ [])) → AllAfter (IsReadAfter signal) (past ++ (front ++ p ∷ [])) xs ⊎ Unread)
          → IsRead kind (messages_before (past ++ front) p) p.bytes ⊎ ((refusal : ColumnRefusal) × Stands kind (messages_before (past ++ front) p) p.bytes refusal)
          → AllAfter (IsReadAfter signal) (past ++ front) (p ∷ xs) ⊎ Unread
      by_record kind at rest (inr bad) =
          inr (bad.0, Some p.kind, record { p = p; has = record { before = front; after = xs; is = is }; kind = kind; known = at; stands = bad.1; named = refl })
      by_record kind at rest (inl read) =
          let longer : past ++ (front ++ p ∷ []) ≡ (past ++ front) ++ p ∷ [] = sym (append_assoc past front (p ∷ [])) in
          let more : AreTaken signal (past ++ (front ++ p ∷ [])) =
          subst (AreTaken signal) (sym longer) (all_after-push (IsTakenAfter signal) [] (past ++ front) p taken (record { kind = kind; known = at; read = read })) in
          let here : IsReadAfter signal (past ++ front) p =
          λ other known. let same : kind ≡ other = cc (at, known) in subst (λ (k : Kind). IsRead k (messages_before (past ++ front) p) p.bytes) same read in
          elim (rest more) [
            | inl all ↦ inl (here, subst (λ (before : List PayloadIn). AllAfter (IsReadAfter signal) before xs) longer all)
            | inr bad ↦ inr bad
          ]

      by_kind : (o : Option Kind) → kind_numbered signal p.kind ≡ o → IsSome (kind_numbered signal p.kind)
          → (AreTaken signal (past ++ (front ++ p ∷ [])) → AllAfter (IsReadAfter signal) (past ++ (front ++ p ∷ [])) xs ⊎ Unread) → AllAfter (IsReadAfter signal) (past ++ front) (p ∷ xs) ⊎ Unread
      by_kind None at known rest = absurd (cc (subst (λ (o : Option Kind). IsSome o) at known))
      by_kind (Some kind) at known rest =
          by_record kind at rest (judged kind (messages_before (past ++ front) p) p.bytes (can_come (past ++ front) p (can_go_on signal (past ++ front) taken p.kind)))

  judged_records : HasFineTypes signal payloads → AreTaken signal past → HasFineRecords signal past payloads ⊎ Unread
  judged_records fine taken =
      elim (records_from fine [] payloads refl (subst (AreTaken signal) (sym (append-nil past)) taken)) [
        | inl all ↦ inl (subst (λ (before : List PayloadIn). AllAfter (IsReadAfter signal) before payloads) (append-nil past) all)
        | inr bad ↦ inr bad
      ]

  judged_size : (tables : List Table) (held : ℕ) → IsWithinLimits signal tables held ⊎ ((cause : Cause) × IsTooLarge signal tables held cause)
  judged_size tables held =
      elim (cases_lt item_limit (length (rows_named (main_of signal) tables))) [
        | inl many ↦ inr (TooManyItems, many)
        | inr few ↦ elim (cases_lt row_weight_limit (weight_of_tables tables)) [
          | inl heavy ↦ inr (RowsTooHeavy, heavy)
          | inr light ↦ elim (cases_lt held_limit held) [
            | inl large ↦ inr (HeldTooMuch, large)
            | inr small ↦ inl (record { items = few; rows = light; holds = small })
          ]
        ]
      ]

  pub are_judged : AreTaken signal past → AreJudged signal past payloads
  are_judged taken =
      elim judged_list [
        | inr bad ↦ inr (bad.0, bad.1, Refuses.by_list bad.0 bad.1 bad.2)
        | inl list ↦ elim (judged_records list.types taken) [
          | inr bad ↦ inr (Column bad.0, bad.1, Refuses.by_record bad.0 bad.1 list bad.2)
          | inl records ↦ elim (judged_size (tables_of signal past payloads) (held_after signal (past ++ payloads))) [
            | inr bad ↦ inr (bad.0, None, Refuses.by_size bad.0 list records bad.1)
            | inl size ↦ inl (record { list = list; records = records; size = size })
          ]
        ]
      ]
