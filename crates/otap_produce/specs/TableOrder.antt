-- Tables of a signal that can be written: their order, and each by itself.
use Rattle.std.specs.Prelude.{◌≡◌, Bool, List, All, filter, map}
use Rattle.otlp_model.specs.declared.request.Signal.{Signal}
use Rattle.otap_cells.specs.declared.payload.Kind.{Kind}
use Rattle.otap_cells.specs.Payload.{kinds_of}
use Rattle.otap_cells.specs.Tables.{Table}
use Rattle.otap_columns.specs.WrittenPayloads.{IsWritableTable}

-- tables are in the order of the signal's kinds, each kind at most once
pub record AreInOrder (signal : Signal) (tables : List Table) : Type 0 where
  pub has : Kind → Bool
  pub kinds : map (λ t. t.kind) tables ≡ filter has (kinds_of signal)

-- and each can be written
pub record HaveWritable (signal : Signal) (tables : List Table) : Type 0 where
  pub order : AreInOrder signal tables
  pub each : All (λ t. IsWritableTable t.kind t) tables
