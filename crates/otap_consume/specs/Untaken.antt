-- Why a batch is not taken: the results of the stages that look at it.
use Rattle.std.specs.Prelude.{◌≡◌, ⊤, ℤ, List, None, Some, Option}
use Rattle.lists.specs.Payloads.{PayloadIn}
use Rattle.otlp_model.specs.declared.request.Signal.{Signal}
use Rattle.otap_attrs.specs.declared.refusal.CheckRefusal.{CheckRefusal}
use Rattle.otap_attrs.specs.declared.refusal.CheckRefusal.TheVariants as check
use Rattle.otap_checks.specs.declared.regrouping.RegroupRefusal.{RegroupRefusal}
use Rattle.otap_checks.specs.declared.regrouping.RegroupRefusal.TheVariants as regroup
use Rattle.otap_columns.specs.declared.refusal.ColumnRefusal.{ColumnRefusal}
use Rattle.otap_columns.specs.declared.refusal.ColumnRefusal.TheVariants as refusal
use Rattle.otap_consume.specs.declared.refusal.Cause.{Cause}
use Rattle.otap_consume.specs.declared.refusal.Cause.TheVariants.{Column}
use Rattle.otap_consume.specs.declared.refusal.Cause.TheVariants as cause
use Rattle.otap_consume.specs.declared.payload_types.TypesRefusal.{TypesRefusal}
use Rattle.otap_consume.specs.declared.payload_types.TypesRefusal.TheVariants.{PayloadType, PayloadTwice}
use Rattle.otap_consume.specs.declared.not_taken.NotTaken.{NotTaken}
use Rattle.otap_consume.specs.declared.not_taken.NotTaken.TheVariants.{Defect, Memory}
use Rattle.otap_consume.specs.Defects.{IsDefectOfRecord}
use Rattle.otap_consume.specs.Payloads.{payload_type_of}

-- memory may run out at any time; else there is a defect
abbrev pub SaysDefect : (Cause → Option ℤ → Type 0) → NotTaken → Type 0
SaysDefect D (Defect cause payload) = D cause payload
SaysDefect D (Memory e) = ⊤

-- a defect of a record is named by its column refusal
abbrev pub IsOfRecord : Signal → List PayloadIn → List PayloadIn → Cause → Option ℤ → Type 0
IsOfRecord signal past payloads (Column refusal) payload = IsDefectOfRecord signal past payloads refusal payload
IsOfRecord signal past payloads cause payload = ⊥

-- a limit that is exceeded names no payload
abbrev pub IsOfSize : (Cause → Type 0) → Cause → Option ℤ → Type 0
IsOfSize L cause payload = (payload ≡ None) × L cause

-- the result for the refusal of a record of this type
abbrev pub IsUntakenFor : ColumnRefusal → ℤ → NotTaken → Type 0
IsUntakenFor (refusal.Memory e) kind stop = stop ≡ Memory e
IsUntakenFor refusal kind stop = stop ≡ Defect (Column refusal) (Some kind)

abbrev pub untaken_by_types : TypesRefusal → NotTaken
untaken_by_types (PayloadType kind) = Defect cause.PayloadType (Some kind)
untaken_by_types (PayloadTwice kind) = Defect cause.PayloadTwice (Some kind)

abbrev pub untaken_by_rows : CheckRefusal → NotTaken
untaken_by_rows (check.Defect kind why) = Defect (cause.Row why) (Some (payload_type_of kind))
untaken_by_rows (check.Memory e) = Memory e

abbrev pub untaken_by_regrouping : RegroupRefusal → NotTaken
untaken_by_regrouping (regroup.Rows refusal) = untaken_by_rows refusal
untaken_by_regrouping regroup.TooHeavy = Defect cause.TreeTooHeavy None
