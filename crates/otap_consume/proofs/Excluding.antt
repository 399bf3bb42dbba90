-- The stages exclude one another, and what is accepted is refused in none.
use Rattle.std.proofs.Common.{◌≡◌, ℕ, ◌+◌, ◌<◌, ◌≤◌, inl, inr, false, List, [], ◌∷◌, ◌++◌, Option, Some, None, ℤ, if◌then◌else◌, refl, sym, ap, ◌∙◌, subst, arith}
use Rattle.std.specs.List.{AllByRecursion}
use Rattle.std.specs.Option.{IsSome}
use Rattle.std.specs.Ordering.{int_eq}
use Rattle.std.proofs.lemmas.Bool.{cases_Bool, both_ways}
use Rattle.std.proofs.lemmas.Bool.Decides.{Decides-int_eq}
use Rattle.std.proofs.lemmas.List.Sums.{sum_by-cons}
use Rattle.lists.specs.EachAfter.{AllAfter}
use Rattle.lists.proofs.Growing.{all_after-at}
use Rattle.lists.specs.Payloads.{PayloadIn}
use Rattle.otlp_model.specs.declared.request.Signal.{Signal}
use Rattle.otap_cells.specs.declared.payload.Kind.{Kind}
use Rattle.otap_cells.specs.Payload.{kind_numbered}
use Rattle.otap_cells.specs.Tables.{Table}
use Rattle.otap_columns.specs.declared.refusal.ColumnRefusal.{ColumnRefusal}
use Rattle.otap_columns.specs.Records.{IsRead}
use Rattle.otap_columns.proofs.Excluding.{never_both}
use Rattle.otap_consume.specs.declared.refusal.Cause.{Cause}
use Rattle.otap_consume.specs.declared.refusal.Cause.TheVariants.{Compressed, BadMessage, Repeated, BadUtf8, PayloadType, PayloadTwice, SchemaIdTaken}
use Rattle.otap_consume.specs.declared.refusal.Cause.TheVariants.{Column, TooManyItems, RowsTooHeavy, HeldTooMuch, Row, TreeTooHeavy, Broken}
use Rattle.otap_consume.specs.Defects.{Accepts, Refuses, IsDefectOfList, HasFineList, IsDefectOfRecord, HasFineRecords, IsReadAfter, IsTooLarge, IsWithinLimits, is_taken, tables_of, held_after}
use Rattle.otap_consume.specs.Outcomes.{stage_of}
use Rattle.otap_consume.specs.Payloads.{messages_before}
use Rattle.otap_consume.specs.PayloadTypes.{IsFineType, times}
use Rattle.otap_consume.proofs.ViewSteps.{fine_at}

-- a type that is there occurs once in a list of fine types
once_at : (signal : Signal) (all : List PayloadIn) (type : ℤ) (xs : List PayloadIn) → AllByRecursion (IsFineType signal all) xs → 0 < times type xs → times type all ≤ 1
once_at signal all type [] fine some = absurd (omega (arith, some))
once_at signal all type (p ∷ xs) fine some =
    let count : times type (p ∷ xs) ≡ (if int_eq p.kind type then 1 else 0) + times type xs = sum_by-cons (λ (q : PayloadIn). if int_eq q.kind type then 1 else 0) p xs in
    elim (cases_Bool (int_eq p.kind type)) [
      | inl own ↦ subst (λ (k : ℤ). times k all ≤ 1) ((Decides-int_eq p.kind type).0 own) fine.0.once
      | inr other ↦ once_at signal all type xs fine.1 (omega (arith, count ∙ ap (λ b. (if b then 1 else 0) + times type xs) other, some))
    ]

module _ (signal : Signal) (past payloads : List PayloadIn) where
  -- nothing is wrong with a list that is fine
  list_not : HasFineList signal past payloads → (cause : Cause) (payload : Option ℤ) → IsDefectOfList signal past payloads cause payload → ⊥
  list_not fine PayloadType (Some type) h =
      let known : IsSome (kind_numbered signal h.0.kind) = (fine_at signal payloads h.1.before h.1.after h.0 fine.types h.1.is).known in
      cc (subst (λ (o : Option Kind). IsSome o) (ap (kind_numbered signal) h.2 ∙ h.3) known)
  list_not fine PayloadTwice (Some type) h = absurd (omega (arith, once_at signal payloads type payloads fine.types (omega (arith, h)), h))
  list_not fine SchemaIdTaken (Some type) h =
      let each : AllAfter (λ before p. is_taken signal before p ≡ false) past (h.has.before ++ h.p ∷ h.has.after)
      = subst (λ (ps : List PayloadIn). AllAfter (λ before p. is_taken signal before p ≡ false) past ps) h.has.is fine.ids in
      both_ways (is_taken signal (past ++ h.has.before) h.p) (all_after-at (λ before p. is_taken signal before p ≡ false) past h.has.before h.has.after h.p each) h.taken
  list_not fine PayloadType None h = h
  list_not fine PayloadTwice None h = h
  list_not fine SchemaIdTaken None h = h
  list_not fine Compressed payload h = h
  list_not fine BadMessage payload h = h
  list_not fine Repeated payload h = h
  list_not fine BadUtf8 payload h = h
  list_not fine (Column refusal) payload h = h
  list_not fine TooManyItems payload h = h
  list_not fine RowsTooHeavy payload h = h
  list_not fine HeldTooMuch payload h = h
  list_not fine (Row why) payload h = h
  list_not fine TreeTooHeavy payload h = h
  list_not fine Broken payload h = h

  list_stage : (cause : Cause) (payload : Option ℤ) → IsDefectOfList signal past payloads cause payload → stage_of cause ≡ 2
  list_stage PayloadType payload h = refl
  list_stage PayloadTwice payload h = refl
  list_stage SchemaIdTaken payload h = refl
  list_stage Compressed payload h = absurd h
  list_stage BadMessage payload h = absurd h
  list_stage Repeated payload h = absurd h
  list_stage BadUtf8 payload h = absurd h
  list_stage (Column refusal) payload h = absurd h
  list_stage TooManyItems payload h = absurd h
  list_stage RowsTooHeavy payload h = absurd h
  list_stage HeldTooMuch payload h = absurd h
  list_stage (Row why) payload h = absurd h
  list_stage TreeTooHeavy payload h = absurd h
  list_stage Broken payload h = absurd h

  -- nor with records that are
  records_not : HasFineRecords signal past payloads → (refusal : ColumnRefusal) (payload : Option ℤ) → IsDefectOfRecord signal past payloads refusal payload → ⊥
  records_not fine refusal payload h =
      let each : AllAfter (IsReadAfter signal) past (h.has.before ++ h.p ∷ h.has.after) = subst (λ (ps : List PayloadIn). AllAfter (IsReadAfter signal) past ps) h.has.is fine in
      let read : IsRead h.kind (messages_before (past ++ h.has.before) h.p) h.p.bytes = all_after-at (IsReadAfter signal) past h.has.before h.has.after h.p each h.kind h.known in
      never_both h.kind (messages_before (past ++ h.has.before) h.p) h.p.bytes read refusal h.stands

  -- nor with a whole that is within the limits
  size_not : (tables : List Table) (held : ℕ) → IsWithinLimits signal tables held → (cause : Cause) → IsTooLarge signal tables held cause → ⊥
  size_not tables held within TooManyItems h = absurd (omega (arith, within.items, h))
  size_not tables held within RowsTooHeavy h = absurd (omega (arith, within.rows, h))
  size_not tables held within HeldTooMuch h = absurd (omega (arith, within.holds, h))
  size_not tables held within Compressed h = h
  size_not tables held within BadMessage h = h
  size_not tables held within Repeated h = h
  size_not tables held within BadUtf8 h = h
  size_not tables held within PayloadType h = h
  size_not tables held within PayloadTwice h = h
  size_not tables held within SchemaIdTaken h = h
  size_not tables held within (Column refusal) h = h
  size_not tables held within (Row why) h = h
  size_not tables held within TreeTooHeavy h = h
  size_not tables held within Broken h = h

  size_stage : (tables : List Table) (held : ℕ) (cause : Cause) → IsTooLarge signal tables held cause → stage_of cause ≡ 4
  size_stage tables held TooManyItems h = refl
  size_stage tables held RowsTooHeavy h = refl
  size_stage tables held HeldTooMuch h = refl
  size_stage tables held Compressed h = absurd h
  size_stage tables held BadMessage h = absurd h
  size_stage tables held Repeated h = absurd h
  size_stage tables held BadUtf8 h = absurd h
  size_stage tables held PayloadType h = absurd h
  size_stage tables held PayloadTwice h = absurd h
  size_stage tables held SchemaIdTaken h = absurd h
  size_stage tables held (Column refusal) h = absurd h
  size_stage tables held (Row why) h = absurd h
  size_stage tables held TreeTooHeavy h = absurd h
  size_stage tables held Broken h = absurd h

  pub not_both : (cause : Cause) (payload : Option ℤ) → Accepts signal past payloads → Refuses signal past payloads cause payload → ⊥
  not_both cause payload accepts (Refuses.by_list c p stands) = list_not accepts.list c p stands
  not_both cause payload accepts (Refuses.by_record refusal p list stands) = records_not accepts.records refusal p stands
  not_both cause payload accepts (Refuses.by_size c list records large) =
      size_not (tables_of signal past payloads) (held_after signal (past ++ payloads)) accepts.size c large

  pub one_stage : (a b : Cause) (p q : Option ℤ) → Refuses signal past payloads a p → Refuses signal past payloads b q → stage_of a ≡ stage_of b
  one_stage a b p q (Refuses.by_list c r stands) (Refuses.by_list d s stands') = list_stage c r stands ∙ sym (list_stage d s stands')
  one_stage a b p q (Refuses.by_list c r stands) (Refuses.by_record other s list stands') = absurd (list_not list c r stands)
  one_stage a b p q (Refuses.by_list c r stands) (Refuses.by_size d list records large) = absurd (list_not list c r stands)
  one_stage a b p q (Refuses.by_record refusal r list stands) (Refuses.by_list d s stands') = absurd (list_not list d s stands')
  one_stage a b p q (Refuses.by_record refusal r list stands) (Refuses.by_record other s list' stands') = refl
  one_stage a b p q (Refuses.by_record refusal r list stands) (Refuses.by_size d list' records large) = absurd (records_not records refusal r stands)
  one_stage a b p q (Refuses.by_size c list records large) (Refuses.by_list d s stands') = absurd (list_not list d s stands')
  one_stage a b p q (Refuses.by_size c list records large) (Refuses.by_record other s list' stands') = absurd (records_not records other s stands')
  one_stage a b p q (Refuses.by_size c list records large) (Refuses.by_size d list' records' large') =
      let tables : List Table = tables_of signal past payloads in
      let held : ℕ = held_after signal (past ++ payloads) in
      size_stage tables held c large ∙ sym (size_stage tables held d large')

  -- each stage is one after the first
  pub after_first : (cause : Cause) (payload : Option ℤ) → Refuses signal past payloads cause payload → 1 < stage_of cause
  after_first cause payload (Refuses.by_list c r stands) = let stage = list_stage c r stands in omega (arith, stage)
  after_first cause payload (Refuses.by_record refusal r list stands) = omega arith
  after_first cause payload (Refuses.by_size c list records large) = let stage = size_stage (tables_of signal past payloads) (held_after signal (past ++ payloads)) c large in omega (arith, stage)
