-- The stages of a batch, one after the other.
use Rattle.std.proofs.Common.{◌≡◌, false, List, Option, Some, ℤ, sym, subst}
use Rattle.otlp_model.specs.declared.request.Signal.{Signal}
use Rattle.otap_cells.specs.Payload.{kinds_of}
use Rattle.otap_consume.specs.declared.payload_types.TypesRefusal.{TypesRefusal}
use Rattle.otap_consume.specs.declared.payload_types.TypesRefusal.TheVariants as types
use Rattle.otap_consume.specs.declared.refusal.Cause.{Cause}
use Rattle.otap_consume.specs.declared.refusal.Cause.TheVariants.{PayloadType, PayloadTwice, Column}
use Rattle.otap_consume.specs.declared.not_taken.NotTaken.{NotTaken}
use Rattle.otap_consume.specs.declared.not_taken.NotTaken.TheVariants.{Defect, Memory}
use Rattle.otap_consume.specs.Defects.{HasFineList, HasFineRecords, IsDefectOfList, Refuses, is_taken}
use Rattle.otap_consume.specs.Ids.{ids_of, ids_after}
use Rattle.lists.specs.EachAfter.{AllAfter}
use Rattle.lists.specs.Payloads.{PayloadIn}
use Rattle.otap_consume.specs.PayloadTypes.{HasFineTypes, IsDefectOfTypes}
use Rattle.otap_consume.specs.Records.{TakesPayloads}
use Rattle.otap_consume.specs.Untaken.{SaysDefect, IsOfRecord, untaken_by_types}
use Rattle.otap_consume.specs.Streams.{StreamIn, AreAfter, kinds_in}
use Rattle.otap_consume.specs.Opening.{OpensAfter, StopsBySize}
use Rattle.otap_consume.proofs.IdSteps.{ids_are}

-- what `check_ids` says of ids that are free, and of one that is taken
abbrev pub FreeIds : List StreamIn → List PayloadIn → Type 0
FreeIds streams payloads = (signal : Signal) (past : List PayloadIn) → ids_of streams ≡ ids_after signal past → AllAfter (λ before p. is_taken signal before p ≡ false) past payloads

pub by_types : (signal : Signal) (past payloads : List PayloadIn) (why : TypesRefusal) → IsDefectOfTypes signal payloads why → SaysDefect (Refuses signal past payloads) (untaken_by_types why)
by_types signal past payloads (types.PayloadType kind) stands = Refuses.by_list PayloadType (Some kind) stands
by_types signal past payloads (types.PayloadTwice kind) stands = Refuses.by_list PayloadTwice (Some kind) stands

pub by_ids : (signal : Signal) (past payloads : List PayloadIn) (stop : NotTaken) → SaysDefect (IsDefectOfList signal past payloads) stop → SaysDefect (Refuses signal past payloads) stop
by_ids signal past payloads (Defect cause payload) stands = Refuses.by_list cause payload stands
by_ids signal past payloads (Memory e) stands = tt

of_record : (signal : Signal) (past payloads : List PayloadIn) (cause : Cause) (payload : Option ℤ) → HasFineList signal past payloads
    → IsOfRecord signal past payloads cause payload → Refuses signal past payloads cause payload
of_record signal past payloads (Column refusal) payload list stands = Refuses.by_record refusal payload list stands
of_record signal past payloads _ payload list stands = absurd stands

pub by_records : (signal : Signal) (past payloads : List PayloadIn) (stop : NotTaken) → HasFineList signal past payloads → SaysDefect (IsOfRecord signal past payloads) stop
    → SaysDefect (Refuses signal past payloads) stop
by_records signal past payloads (Defect cause payload) list stands = of_record signal past payloads cause payload list stands
by_records signal past payloads (Memory e) list stands = tt

pub by_size : (signal : Signal) (past payloads : List PayloadIn) (stop : NotTaken)
    → HasFineList signal past payloads → HasFineRecords signal past payloads → StopsBySize signal past payloads stop → SaysDefect (Refuses signal past payloads) stop
by_size signal past payloads (Defect cause payload) list records stands =
    subst (λ (named : Option ℤ). Refuses signal past payloads cause named) (sym stands.0) (Refuses.by_size cause list records stands.1)
by_size signal past payloads (Memory e) list records stands = tt

module _ (signal : Signal) (payloads : List PayloadIn) (old : List StreamIn) (kinds : kinds_in old ≡ kinds_of signal) (types : HasFineTypes signal payloads)
    (free : FreeIds old payloads) where
  -- the list of payloads is fine after those that the streams took
  pub fine_list : (past : List PayloadIn) → AreAfter past old → HasFineList signal past payloads
  fine_list past are = record { types = types; ids = free signal past (ids_are signal past old kinds are) }

  module _ (new : List StreamIn) (takes : TakesPayloads old payloads new) where
    -- so is it with their records, and the streams took them
    pub opens : (past : List PayloadIn) → AreAfter past old → OpensAfter signal past payloads new
    opens past are = record { list = fine_list past are; records = takes.reads signal past kinds are; after = takes.after past are }
