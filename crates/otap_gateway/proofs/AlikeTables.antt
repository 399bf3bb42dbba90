-- The tables of a sub-stream have one schema.
use Rattle.std.proofs.Common.{◌≡◌, ℕ, ◌+◌, ◌≤◌, suc, inl, inr, true, false, List, [], ◌∷◌, ◌++◌, Option, Some, None, ℤ, refl, sym, ap, ◌∙◌, subst, arith}
use Rattle.std.specs.Prelude.{find, if◌then◌else◌, option_map, ⊤, ◌⊎◌}
use Rattle.std.proofs.lemmas.Bool.{both_ways, cases_Bool, cases_eq}
use Rattle.std.proofs.lemmas.List.Elements.{All-nil, All-push}
use Rattle.lists.specs.Payloads.{PayloadIn}
use Rattle.lists.proofs.Growing.{each_after-keeps}
use Rattle.otlp_model.specs.declared.request.Signal.{Signal}
use Rattle.arrow_schema.specs.declared.spec.FieldSpec.{FieldSpec}
use Rattle.arrow_ipc.specs.declared.messages.IpcMessage.{IpcMessage}
use Rattle.arrow_ipc.specs.declared.messages.IpcMessage.TheVariants.{Schema, Dictionary, Rows}
use Rattle.arrow_ipc.specs.Fronts.{front_of}
use Rattle.otap_capture.specs.Batch.{BatchContent}
use Rattle.otap_capture.specs.Capture.{Frame}
use Rattle.otap_cells.specs.declared.payload.Kind.{Kind}
use Rattle.otap_cells.specs.Tables.{Table}
use Rattle.otap_columns.specs.Plain.{plain_schema}
use Rattle.otap_columns.specs.Streams.{is_of, open_id, opens, stream_of}
use Rattle.otap_columns.specs.Substreams.{last_rows, logical, schema_in, substream_in, substream_of, table_if}
use Rattle.otap_columns.specs.TableSets.{of_kind}
use Rattle.otap_consume.specs.declared.refusal.Refusal.{Refusal}
use Rattle.otap_consume.specs.Defects.{tables_of, table_of}
use Rattle.otap_consume.specs.Outcomes.{Outcome, Accepted, Refused, Reset, OutcomeAfter, Outcomes, is_broken, payloads_after}
use Rattle.otap_consume.specs.Payloads.{payload_type_of}
use Rattle.otap_consume.proofs.SegmentSteps.{broken_accepted, broken_refused, payloads_accepted, payloads_reset}
use Rattle.otap_gateway.specs.Filing.{chosen, opened}
use Rattle.otap_gateway.specs.FilingSteps.{AreAlike, HaveOneSchema, IsAcceptedBatch}
use Rattle.otap_gateway.proofs.ChosenTables.{HasOne, chosen_none, chosen_other, chosen_own, count_none, count_one, has_one, logical_one, none_open, open_none, open_there, opened_more, stream_none, stream_one, table_none, table_one}
use Rattle.otap_gateway.proofs.FiledBatches.{is_accepted}

-- ---- the schema of a stream stays

has_schema : (kind : Kind) (messages : List IpcMessage) (t : Table) → logical kind messages ≡ Some t → (fields : List FieldSpec) × (schema_in messages ≡ Some fields)
unfolding logical substream_in
has_schema kind messages t is = by_schema (schema_in messages) refl is
  where
    by_schema : (o : Option (List FieldSpec)) → schema_in messages ≡ o → table_if kind (option_map (substream_of messages) o) (last_rows messages) ≡ Some t
        → (fields : List FieldSpec) × (schema_in messages ≡ Some fields)
    by_schema None none is = absurd (cc is)
    by_schema (Some fields) some is = (fields, some)

schema_more : (messages more : List IpcMessage) (fields : List FieldSpec) → schema_in messages ≡ Some fields → schema_in (messages ++ more) ≡ Some fields
schema_more [] more fields is = absurd (cc is)
schema_more (Schema other ∷ messages) more fields is = is
schema_more (Dictionary id delta batch ∷ messages) more fields is = absurd (cc is)
schema_more (Rows batch ∷ messages) more fields is = absurd (cc is)

module _ (signal : Signal) (kind : Kind) (number : ℕ) (one_schema : HaveOneSchema) where
  abbrev type : ℤ
  type = payload_type_of kind

  abbrev stream : List Outcome → List IpcMessage
  stream outcomes = stream_of type (payloads_after outcomes)

  -- the table that the stream ends with is like this one
  record EndsAlike (t : Table) (outcomes : List Outcome) : Type 0 where
    last : Table
    gives : logical kind (stream outcomes) ≡ Some last
    same : plain_schema last ≡ plain_schema t

  -- as long as the sub-stream of the tables goes on
  abbrev GoesOn : List Outcome → Type 0
  GoesOn outcomes = (is_broken outcomes ≡ false) × (opened kind outcomes ≡ suc number) × (open_id type (payloads_after outcomes) ≡ None → ⊥)

  abbrev AlikeAt : List Outcome → List Table → Type 0
  AlikeAt outcomes [] = ⊤
  AlikeAt outcomes (t ∷ tables) = AreAlike (t ∷ tables) × (GoesOn outcomes → EndsAlike t outcomes)

  record Alike (outcomes : List Outcome) : Type 0 where
    before : opened kind outcomes ≤ number → chosen kind number outcomes ≡ []
    tables : AlikeAt outcomes (chosen kind number outcomes)

  -- nothing more is chosen
  stays : (outcomes outcomes' : List Outcome) → chosen kind number outcomes' ≡ chosen kind number outcomes → opened kind outcomes ≤ opened kind outcomes'
      → ((t : Table) → GoesOn outcomes' → (GoesOn outcomes → EndsAlike t outcomes) → EndsAlike t outcomes') → Alike outcomes → Alike outcomes'
  stays outcomes outcomes' same more on a = record {
    before = λ few. same ∙ a.before (omega (arith, more, few));
    tables = subst (AlikeAt outcomes') (sym same) (by_tables (chosen kind number outcomes) a.tables);
  }
    where
      by_tables : (ts : List Table) → AlikeAt outcomes ts → AlikeAt outcomes' ts
      by_tables [] alike = tt
      by_tables (t ∷ ts) alike = (alike.0, λ goes. on t goes alike.1)

  refused : (outcomes : List Outcome) (refusal : Refusal) → Alike outcomes → Alike (outcomes ++ Refused refusal ∷ [])
  refused outcomes refusal a =
      let more = opened_more kind outcomes (Refused refusal) in
      stays outcomes (outcomes ++ Refused refusal ∷ []) (chosen_none kind number outcomes (Refused refusal) refl) (omega (arith, more))
      (λ t goes was. absurd (both_ways (is_broken (outcomes ++ Refused refusal ∷ [])) goes.0 (broken_refused outcomes refusal))) a

  reset : (outcomes : List Outcome) → Alike outcomes → Alike (outcomes ++ Reset ∷ [])
  reset outcomes a =
      let more = opened_more kind outcomes Reset in
      stays outcomes (outcomes ++ Reset ∷ []) (chosen_none kind number outcomes Reset refl) (omega (arith, more))
      (λ t goes was. absurd (goes.2 (ap (open_id type) (payloads_reset outcomes) ∙ none_open type))) a

  module _ (outcomes : List Outcome) (frame : Frame) (batch : BatchContent) (tables : List Table) (is : IsAcceptedBatch signal outcomes frame batch tables) where
    abbrev past : List PayloadIn
    past = payloads_after outcomes

    abbrev after : List Outcome
    after = outcomes ++ Accepted batch tables ∷ []

    others : find (is_of type) batch.payloads ≡ None → Alike outcomes → Alike after
    others none a =
        let more = opened_more kind outcomes (Accepted batch tables) in
        let count : opened kind after ≡ opened kind outcomes = omega (arith, more, count_none signal kind past batch.payloads none) in
        let empty : of_kind kind tables ≡ [] = ap (of_kind kind) is.same ∙ table_none signal kind past batch.payloads none in
        let opened_as = ap (open_id type) (payloads_accepted outcomes batch tables) ∙ open_none signal kind past batch.payloads none in
        let stream_as : stream after ≡ stream outcomes = ap (stream_of type) (payloads_accepted outcomes batch tables) ∙ stream_none signal kind past batch.payloads none in
        stays outcomes after (chosen_none kind number outcomes (Accepted batch tables) empty) (omega (arith, count))
        (λ t goes was. let e = was (sym (broken_accepted outcomes batch tables) ∙ goes.0, sym count ∙ goes.1, λ none'. goes.2 (opened_as ∙ none')) in
        record { last = e.last; gives = ap (logical kind) stream_as ∙ e.gives; same = e.same }) a

    module _ (p : PayloadIn) (found : find (is_of type) batch.payloads ≡ Some p) where
      one : HasOne signal kind past batch.payloads p
      one = has_one signal kind past batch.payloads is.accepts.list.types p found

      count_after : opened kind after ≡ opened kind outcomes + (if opens past p then 1 else 0)
      count_after = opened_more kind outcomes (Accepted batch tables) ∙ ap (λ n. opened kind outcomes + n) (count_one signal kind past batch.payloads p one)

      grows : opened kind outcomes ≤ opened kind after
      grows = let count = count_after in omega (arith, count)

      -- of another sub-stream
      other : (opened kind after ≡ suc number → ⊥) → Alike outcomes → Alike after
      other not a = stays outcomes after (chosen_other kind number outcomes (Accepted batch tables) not) grows (λ t goes was. absurd (not goes.1)) a

      stream_as : stream after ≡ stream_of type (past ++ batch.payloads)
      stream_as = ap (stream_of type) (payloads_accepted outcomes batch tables)

      -- of this one
      own : opened kind after ≡ suc number → Alike outcomes → Alike after
      own same a = record {
        before = λ few. absurd (omega (arith, same, few));
        tables = subst (AlikeAt after) (sym whole) (by_opening (cases_Bool (opens past p)));
      }
        where
          there : (t : Table) × (table_of signal (past ++ batch.payloads) p ≡ Some t) × (of_kind kind (tables_of signal past batch.payloads) ≡ t ∷ [])
          there = table_one signal kind past batch.payloads p one is.accepts

          t : Table
          t = there.0

          gives : logical kind (stream after) ≡ Some t
          gives = ap (logical kind) stream_as ∙ logical_one signal kind past batch.payloads p one t there.1

          whole : chosen kind number after ≡ chosen kind number outcomes ++ t ∷ []
          whole = chosen_own kind number outcomes (Accepted batch tables) same ∙ ap (λ l. chosen kind number outcomes ++ of_kind kind l) is.same ∙ ap (λ l. chosen kind number outcomes ++ l) there.2

          alone : AlikeAt after (t ∷ [])
          alone = (All-nil (λ u. plain_schema u ≡ plain_schema t), λ goes. record { last = t; gives = gives; same = refl })

          opens_first : opens past p ≡ true → AlikeAt after (chosen kind number outcomes ++ t ∷ [])
          opens_first opens_it =
              let count = count_after ∙ ap (λ b. opened kind outcomes + (if b then 1 else 0)) opens_it in
              let none : chosen kind number outcomes ≡ [] = a.before (omega (arith, count, same)) in
              subst (λ (l : List Table). AlikeAt after (l ++ t ∷ [])) (sym none) alone

          goes_on : opens past p ≡ false → GoesOn outcomes
          goes_on goes =
              let count = count_after ∙ ap (λ b. opened kind outcomes + (if b then 1 else 0)) goes in
              (is.whole, omega (arith, count, same), λ none. open_there signal kind past batch.payloads p one goes none)

          like : (first : Table) → opens past p ≡ false → EndsAlike first outcomes → plain_schema t ≡ plain_schema first
          like first goes ends =
              let schema = has_schema kind (stream outcomes) ends.last ends.gives in
              let later : stream after ≡ stream outcomes ++ front_of p.bytes
              = stream_as ∙ stream_one signal kind past batch.payloads p one ∙ rw goes (ap (λ (k : ℤ). stream_of k past ++ front_of p.bytes) one.kind_is) in
              let schema' = ap schema_in later ∙ schema_more (stream outcomes) (front_of p.bytes) schema.0 schema.1 in
              sym (one_schema kind schema.0 (stream outcomes) (stream after) ends.last t schema.1 schema' ends.gives gives) ∙ ends.same

          goes_further : opens past p ≡ false → (ts : List Table) → AlikeAt outcomes ts → AlikeAt after (ts ++ t ∷ [])
          goes_further goes [] alike = alone
          goes_further goes (first ∷ ts) alike =
              let alike_t = like first goes (alike.1 (goes_on goes)) in
              (All-push (λ u. plain_schema u ≡ plain_schema first) ts t alike.0 alike_t, λ on. record { last = t; gives = gives; same = alike_t })

          by_opening : (opens past p ≡ true) ⊎ (opens past p ≡ false) → AlikeAt after (chosen kind number outcomes ++ t ∷ [])
          by_opening (inl opens_it) = opens_first opens_it
          by_opening (inr goes) = goes_further goes (chosen kind number outcomes) a.tables

    accepted : Alike outcomes → Alike after
    accepted a = by_payload (find (is_of type) batch.payloads) refl
      where
        by_payload : (o : Option PayloadIn) → find (is_of type) batch.payloads ≡ o → Alike after
        by_payload None none = others none a
        by_payload (Some p) found =
            elim (cases_eq (opened kind after) (suc number)) [
              | inl same ↦ own p found same a
              | inr not ↦ other p found not a
            ]

  step : (frames : List Frame) (outcomes : List Outcome) (frame : Frame) (o : Outcome) → Alike outcomes → OutcomeAfter signal outcomes frame o → Alike (outcomes ++ o ∷ [])
  step frames outcomes frame (Accepted batch tables) a gives = accepted outcomes frame batch tables (is_accepted signal outcomes frame batch tables gives) a
  step frames outcomes frame (Refused refusal) a gives = refused outcomes refusal a
  step frames outcomes frame Reset a gives = reset outcomes a

  first : Alike []
  unfolding chosen
  first = record { before = λ few. refl; tables = tt }

  pub are_alike : (frames : List Frame) (outcomes : List Outcome) → Outcomes signal frames outcomes → AreAlike (chosen kind number outcomes)
  are_alike frames outcomes gave = by_tables (chosen kind number outcomes) (each_after-keeps (λ past before frame o. OutcomeAfter signal before frame o) (λ fs os. Alike os) step [] [] frames outcomes first gave).tables
    where
      by_tables : (ts : List Table) → AlikeAt outcomes ts → AreAlike ts
      by_tables [] alike = tt
      by_tables (t ∷ ts) alike = alike.0
