-- What may be wrong with a batch that no earlier stage refuses: stage 5 looks at its rows, stage 6 at what its request weighs.
use Rattle.std.specs.Prelude.{◌≡◌, ℤ, ◌<◌, ◌≤◌, List, Option, None, Some}
use Rattle.otlp_model.specs.Limits.{weight_limit}
use Rattle.otlp_model.specs.Weight.{weight_of}
use Rattle.otap_cells.specs.declared.payload.Kind.{Kind}
use Rattle.otap_cells.specs.Tables.{Table}
use Rattle.otap_signals.specs.Meanings.{Meaning, AreClean}
use Rattle.otap_consume.specs.declared.refusal.Cause.{Cause}
use Rattle.otap_consume.specs.declared.refusal.Cause.TheVariants.{Row, TreeTooHeavy}
use Rattle.otap_consume.specs.Payloads.{payload_type_of}

-- what is wrong
abbrev pub IsDefectOfRows : Meaning → List Table → Cause → Option ℤ → Type 0
IsDefectOfRows m tables (Row why) payload = (kind : Kind) × (payload ≡ Some (payload_type_of kind)) × m.Stands tables kind why
IsDefectOfRows m tables TreeTooHeavy payload = (payload ≡ None) × AreClean m tables × (weight_limit < weight_of (m.request tables))
IsDefectOfRows m tables cause payload = ⊥

-- nothing is
pub record HasFineRows (m : Meaning) (tables : List Table) : Type 0 where
  pub clean : AreClean m tables
  pub light : weight_of (m.request tables) ≤ weight_limit
