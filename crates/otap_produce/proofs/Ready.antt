-- Tables for which senders are ready can be sent, each after the others; and so can those of a request that is exported.
use Rattle.std.proofs.Common.{◌≡◌, ℕ, ◌*◌, ◌<◌, ◌≤◌, List, length, get_or, sym, subst, arith}
use Rattle.std.specs.Prelude.{All, Contains, map}
use Rattle.std.proofs.lemmas.List.{get_or-map, length-map}
use Rattle.std.proofs.lemmas.List.Elements.{All-contains_itself, All-filter}
use Rattle.std.proofs.lemmas.List.Sums.{get_or-le-sum_by}
use Rattle.otlp_model.specs.declared.request.Request.{Request}
use Rattle.otlp_model.specs.declared.request.Signal.{Signal}
use Rattle.otap_cells.specs.declared.payload.Kind.{Kind}
use Rattle.otap_cells.specs.Payload.{kinds_of}
use Rattle.otap_cells.specs.Tables.{Table}
use Rattle.otap_cells.specs.Weights.{weight_of_table}
use Rattle.otap_columns.specs.Limits.{tables_limit}
use Rattle.otap_produce.specs.Senders.{AreReadyForAll, HaveHistory, SendersIn, kinds_in}
use Rattle.otap_produce.specs.SentMessages.{AreReadyForEach}
use Rattle.otap_produce.specs.Sizes.{payloads_most, size_limit}
use Rattle.otap_produce.specs.Limits.{batch_limit}
use Rattle.otap_signals.specs.Meanings.{SignalRows}
use Rattle.otap_produce.specs.Policy.{IsExported}
use Rattle.otap_produce.specs.TableOrder.{AreInOrder, HaveWritable}
use Rattle.otap_produce.proofs.Limited.{RecordsFit, tables_limited}

-- the kind of each table is one of the signal's
of_signal : (signal : Signal) (tables : List Table) → AreInOrder signal tables → (k : ℕ) (d : Table) → k < length tables → Contains (kinds_of signal) (get_or tables k d).kind
of_signal signal tables order k d low =
    let kind : Table → Kind = λ t. t.kind in
    let all : All (Contains (kinds_of signal)) (map kind tables) =
    subst (All (Contains (kinds_of signal))) (sym order.kinds) (All-filter order.has (Contains (kinds_of signal)) (kinds_of signal) (All-contains_itself (kinds_of signal))) in
    subst (Contains (kinds_of signal)) (get_or-map kind tables k d d.kind low) (all k d.kind (omega (arith, low, length-map tables kind)))

module _ (fit : RecordsFit) (tables : List Table) (s : SendersIn) (ready : AreReadyForAll tables s) where
  pub few_tables : length tables ≤ tables_limit
  few_tables = (tables_limited fit ready.signal tables ready.writable.order ready.light).0

  pub little : payloads_most tables ≤ size_limit
  little = (tables_limited fit ready.signal tables ready.writable.order ready.light).1

  -- what holds of all tables holds of each
  pub ready_for_each : AreReadyForEach tables s
  ready_for_each = record {
    signal = ready.signal;
    kinds = ready.kinds;
    history = ready.history;
    each = λ k d inside. record {
      there = subst (λ (ks : List Kind). Contains ks (get_or tables k d).kind) (sym ready.kinds) (of_signal ready.signal tables ready.writable.order k d inside);
      writable = ready.writable.each k d inside;
      light = omega (arith, get_or-le-sum_by weight_of_table tables k d inside, ready.light);
    };
    room = omega (arith, ready.room, few_tables);
  }

-- the tables of a request that is exported
pub ready_for_request : (rows : SignalRows) (q : Request) → IsExported rows q → HaveWritable rows.signal (rows.tables q) → (s : SendersIn) (batches : ℕ)
    → kinds_in s.senders ≡ kinds_of rows.signal → HaveHistory s → s.openings ≤ tables_limit * batches → batches < batch_limit → AreReadyForAll (rows.tables q) s
ready_for_request rows q exported have s batches kinds history few low = record {
  signal = rows.signal;
  kinds = kinds;
  history = history;
  writable = have;
  light = exported.row_weight;
  room = omega (arith, few, low);
}
