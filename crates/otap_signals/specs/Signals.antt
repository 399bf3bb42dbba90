-- What a signal is, and what it promises of the tables of its requests.
use Rattle.std.specs.Prelude.{◌≡◌, ◌≤◌, ◌||◌, List, All, length, map, filter, nat_lt}
use Rattle.otlp_model.specs.Limits.{weight_limit}
use Rattle.otlp_model.specs.Profile.{IsProfile}
use Rattle.otlp_model.specs.Real.{IsReal}
use Rattle.otlp_model.specs.Same.{Same}
use Rattle.otlp_model.specs.Telemetry.{telemetry}
use Rattle.otlp_model.specs.Weight.{weight_of}
use Rattle.otlp_model.specs.declared.groups.ResourceGroup.{ResourceGroup}
use Rattle.otlp_model.specs.declared.request.Request.{Request}
use Rattle.otlp_model.specs.declared.request.Signal.{Signal}
use Rattle.otap_attrs.specs.declared.refusal.RowRefusal.{RowRefusal}
use Rattle.otap_cells.specs.declared.payload.Kind.{Kind}
use Rattle.otap_cells.specs.Named.{table_named}
use Rattle.otap_cells.specs.Payload.{is_kind, kinds_of, main_of}
use Rattle.otap_cells.specs.Tables.{Table}
use Rattle.otap_checks.specs.RowDefects.{RowDefect}
use Rattle.otap_groups.specs.ProfileTables.{IsProfileTable}
use Rattle.otap_signals.specs.Meanings.{Meaning}

-- A SIGNAL whose items are I: the request of groups, the tables of groups, and the groups of tables
pub record SignalIn (I : Type 0) : Type 0 where
  pub signal : Signal
  pub request : List (ResourceGroup I) → Request
  pub tables : List (ResourceGroup I) → List Table
  pub regrouped : List Table → List (ResourceGroup I)

-- what its tables mean
abbrev pub meaning_of : {I : Type 0} → SignalIn I → Meaning
meaning_of s = record { signal = s.signal; Stands = RowDefect s.signal; request = λ tables. s.request (s.regrouped tables) }

-- a request that is written
pub record IsWritten (request : Request) : Type 0 where
  pub real : IsReal request
  pub profile : IsProfile request
  pub light : weight_of request ≤ weight_limit

-- WHAT IS WRITTEN COMES BACK: of a request, the tables that it is written as, and the request that they make
pub record ComesBack (of : Signal) (request : Request) (tables : List Table) (made : Request) : Type 0 where
  -- they tell the same
  pub same : Same request made
  pub light : weight_of made ≤ weight_of request
  -- nothing is wrong with the rows
  pub clean : (kind : Kind) (why : RowRefusal) → RowDefect of tables kind why → ⊥
  -- the tables are of the profile, the main one first, with a row for each item; of the others those that have rows
  pub profile : All IsProfileTable tables
  pub order : map (λ t. t.kind) tables ≡ filter (λ kind. is_kind kind (main_of of) || nat_lt 0 (length (table_named kind tables).rows)) (kinds_of of)
  pub items : length (table_named (main_of of) tables).rows ≡ length (telemetry request)
