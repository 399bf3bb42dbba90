-- How streams take the payloads of a batch: used in private contracts.
use Rattle.std.specs.Prelude.{◌≡◌, ℕ, ◌<◌, List, ◌++◌, length, All}
use Rattle.std.specs.List.{slice_index_or}
use Rattle.lists.specs.Payloads.{PayloadIn}
use Rattle.otlp_model.specs.declared.request.Signal.{Signal}
use Rattle.otap_cells.specs.Payload.{kinds_of}
use Rattle.otap_columns.specs.declared.refusal.ColumnRefusal.{ColumnRefusal}
use Rattle.otap_consume.specs.Defects.{HasFineRecords}
use Rattle.otap_consume.specs.Streams.{StreamIn, AreAfter, ShowsAfter, kinds_in}
use Rattle.otap_consume.specs.StreamSteps.{Takes, DoesNotTake}

-- each stream has taken the payload
pub record EachTakes (old : List StreamIn) (p : PayloadIn) (new : List StreamIn) : Type 0 where
  pub long : length new ≡ length old
  pub each : (i : ℕ) (d : StreamIn) → i < length old → Takes (slice_index_or old i d) p (slice_index_or new i d)

-- a stream has found a defect in the payload
pub record OneRefuses (old : List StreamIn) (p : PayloadIn) (refusal : ColumnRefusal) : Type 0 where
  pub i : ℕ
  pub inside : i < length old
  pub refuses : (d : StreamIn) → DoesNotTake (slice_index_or old i d) p refusal

-- the streams have taken payloads, one after the other
pub record TakesPayloads (old : List StreamIn) (payloads : List PayloadIn) (new : List StreamIn) : Type 0 where
  pub kinds : kinds_in new ≡ kinds_in old
  pub shows : All (ShowsAfter payloads) new
  pub reads : (signal : Signal) (past : List PayloadIn) → kinds_in old ≡ kinds_of signal → AreAfter past old → HasFineRecords signal past payloads
  pub after : (past : List PayloadIn) → AreAfter past old → AreAfter (past ++ payloads) new
