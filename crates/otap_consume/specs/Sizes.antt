-- The limits of the tables of a batch, by themselves.
use Rattle.std.specs.Prelude.{◌≡◌, ℕ, ◌<◌, ◌≤◌, All, List, length, sum_by}
use Rattle.otlp_model.specs.Limits.{item_limit}
use Rattle.otlp_model.specs.declared.request.Signal.{Signal}
use Rattle.otap_cells.specs.Payload.{main_of}
use Rattle.otap_cells.specs.Sets.{rows_named}
use Rattle.otap_cells.specs.Tables.{IsTable, Table}
use Rattle.otap_cells.specs.Weights.{row_weight_limit, weight_of_tables}
use Rattle.otap_consume.specs.declared.refusal.Cause.{Cause}
use Rattle.otap_consume.specs.declared.refusal.Cause.TheVariants.{TooManyItems, RowsTooHeavy}

abbrev pub count_of_rows : List Table → ℕ
count_of_rows tables = sum_by (λ table. length table.rows) tables

-- THE TABLES ARE WITHIN THE LIMITS, and have this row weight
pub record WithinLimits (signal : Signal) (tables : List Table) (weight : ℕ) : Type 0 where
  pub are : All IsTable tables
  pub items : length (rows_named (main_of signal) tables) ≤ item_limit
  pub weighs : weight ≡ weight_of_tables tables
  pub light : weight_of_tables tables ≤ row_weight_limit

-- or they exceed one of them
abbrev pub PastLimit : Signal → List Table → Cause → Type 0
PastLimit signal tables TooManyItems = item_limit < length (rows_named (main_of signal) tables)
PastLimit signal tables RowsTooHeavy = row_weight_limit < weight_of_tables tables
PastLimit signal tables cause = ⊥
