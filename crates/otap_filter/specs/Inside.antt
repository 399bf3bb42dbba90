-- What is true of the fields of a filter, and words of private contracts.
use Rattle.std.specs.Prelude.{◌≡◌, ◌≤◌, ◌*◌, ◌+◌, ℕ, ℤ, true, false, List, [], Option, IfNone, IfSome}
use Rattle.lists.specs.Payloads.{PayloadIn}
use Rattle.otlp_model.specs.declared.request.Signal.{Signal}
use Rattle.otap_capture.specs.Batch.{BatchContent}
use Rattle.otap_capture.specs.Capture.{Frame}
use Rattle.otap_cells.specs.Payload.{kinds_of}
use Rattle.otap_cells.specs.Tables.{Table}
use Rattle.otap_cells.specs.Weights.{row_weight_limit, weight_of_tables}
use Rattle.otap_columns.specs.Limits.{tables_limit}
use Rattle.otap_consume.specs.declared.opened.Checked.{Checked}
use Rattle.otap_consume.specs.Opening.{IsChecked, OpensFrame}
use Rattle.otap_consume.specs.Segments.{SegmentIn}
use Rattle.otap_kept.specs.Kept.{is_ordered, kept}
use Rattle.otap_produce.specs.Senders.{HaveHistory, HaveSent, SendersIn, SendsMessage, kinds_in}
use Rattle.otap_produce.specs.TableOrder.{HaveWritable}
use Rattle.otap_filter.specs.Filters.{FilterIn, Filters}
use Rattle.otap_filter.specs.Filtering.{Answer, Batch}

-- there is a sender for each kind of the signal; each batch since the latest reset had at most one payload of each kind
pub record IsFilter (signal : Signal) (senders : SendersIn) (batches : ℕ) : Type 0 where
  pub kinds : kinds_in senders.senders ≡ kinds_of signal
  pub history : HaveHistory senders
  pub few : senders.openings ≤ tables_limit * batches

-- what is kept of these tables, where it is ordered
pub record KeepsIf (f : FilterIn) (tables : List Table) (found : Option (List Table)) : Type 0 where
  pub ordered : IfSome found (λ set. is_ordered f.segment.signal f.whose f.pair tables ≡ true)
  pub is_kept : IfSome found (λ set. set ≡ kept f.segment.signal f.whose f.pair tables)
  pub unordered : IfNone found (is_ordered f.segment.signal f.whose f.pair tables ≡ false)

-- WHAT IS KEPT of the payloads that the segment opened last, which `found` is, where it is ordered. Nothing is wrong with their tables
pub record IsKeptOfOpened (f : FilterIn) (payloads : List PayloadIn) (found : Option (List Table)) : Type 0 where
  pub made : Checked
  pub checked : IsChecked f.segment.signal f.segment.streams payloads made
  pub keeps : KeepsIf f made.tables found

-- tables that the senders take: those of their signal, which can be written, within the limit on row weight
pub record CanBeSent (f : FilterIn) (tables : List Table) : Type 0 where
  pub writable : HaveWritable f.segment.signal tables
  pub light : weight_of_tables tables ≤ row_weight_limit

-- TABLES ARE SENT under an id, and counted; all else stays
pub record SendsSet (number : ℤ) (tables : List Table) (old new : FilterIn) (answer : Answer) : Type 0 where
  pub message : List ℕ
  pub answers : answer ≡ Batch number message
  pub sends : SendsMessage number tables old.sent new.sent message
  pub same : new ≡ record old { sent = new.sent; batches = old.batches + 1 }

-- nothing was sent; all else stays
pub record BeginsAnew (old new : FilterIn) : Type 0 where
  pub sent : HaveSent [] [] new.sent
  pub batches : new.batches ≡ 0
  pub same : new ≡ record old { sent = new.sent; batches = new.batches }

-- what the frame of a batch gives that the segment opened, after which the filter was this
abbrev pub FiltersOpened : BatchContent → FilterIn → FilterIn → Answer → Type 0
FiltersOpened batch mid new answer =
    (before : SegmentIn) (frame : Frame) → OpensFrame before frame batch mid.segment → Filters (record mid { segment = before }) frame new answer
