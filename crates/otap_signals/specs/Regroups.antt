-- The request that the tables of a batch make, and what it weighs.
use Rattle.std.specs.Prelude.{◌≡◌, ◌≤◌, List}
use Rattle.otlp_model.specs.Limits.{weight_limit}
use Rattle.otlp_model.specs.Weight.{weight_of}
use Rattle.otap_cells.specs.Tables.{Table}
use Rattle.otap_checks.specs.Regrouping.{RefusesRegroup}
use Rattle.otap_checks.specs.declared.regrouping.RegroupRefusal.{RegroupRefusal}
use Rattle.otap_signals.specs.declared.regrouped.Regrouped.{Regrouped}
use Rattle.otap_signals.specs.Meanings.{Meaning, AreClean}

-- THE REQUEST of tables with which nothing is wrong
pub record IsRegrouped (m : Meaning) (tables : List Table) (regrouped : Regrouped) : Type 0 where
  pub clean : AreClean m tables
  pub request : regrouped.request ≡ m.request tables
  pub tree : regrouped.tree ≡ weight_of regrouped.request

-- the request is within its limit
abbrev pub IsLight : Regrouped → Type 0
IsLight regrouped = weight_of regrouped.request ≤ weight_limit

-- WHY TABLES MAKE NO REQUEST
abbrev pub RefusesTables : Meaning → List Table → RegroupRefusal → Type 0
RefusesTables m tables refusal = RefusesRegroup (m.Stands tables) (weight_of (m.request tables)) refusal
