-- A filter that has sent nothing in its segment.
use Rattle.std.proofs.Common.{◌≡◌, ◌≤◌, ◌*◌, ℕ, [], arith}
use Rattle.otlp_model.specs.declared.request.Signal.{Signal}
use Rattle.otlp_model.specs.declared.value.Pair.{Pair}
use Rattle.otap_cells.specs.Payload.{kinds_of}
use Rattle.otap_columns.specs.Limits.{tables_limit}
use Rattle.otap_columns.specs.TableSets.{openings}
use Rattle.otap_kept.specs.declared.whose.Whose.{Whose}
use Rattle.otap_consume.specs.Segments.{IsNew}
use Rattle.otap_consume.proofs.SegmentSteps.{stands_first}
use Rattle.otap_produce.specs.Senders.{HaveSent, SendersIn, kinds_in}
use Rattle.otap_filter.specs.Filtering.{messages_sent, sets_sent}
use Rattle.otap_filter.specs.Filters.{FilterIn, StandsFor}
use Rattle.otap_filter.specs.Inside.{IsFilter}

few_new : (s : SendersIn) (batches : ℕ) → HaveSent [] [] s → s.openings ≤ tables_limit * batches
unfolding openings
few_new s batches sent = omega (arith, sent.openings)

-- senders that sent nothing, whatever is counted
pub fresh : (signal : Signal) (s : SendersIn) (batches : ℕ) → kinds_in s.senders ≡ kinds_of signal → HaveSent [] [] s → IsFilter signal s batches
fresh signal s batches kinds sent = record {
  kinds = kinds;
  history = record { tables = []; payloads = []; sent = sent };
  few = few_new s batches sent;
}

-- a filter that has taken no frame
pub stands_new : (of : Signal) (whose : Whose) (pair : Pair) (f : FilterIn) → f.whose ≡ whose → f.pair ≡ pair → IsNew of f.segment → f.batches ≡ 0 → HaveSent [] [] f.sent
    → StandsFor of whose pair [] f
unfolding messages_sent sets_sent
stands_new of whose pair f same_whose same_pair new none sent = record {
  whose = same_whose;
  pair = same_pair;
  segment = stands_first of f.segment new;
  batches = none;
  sent = λ whole. sent;
}
