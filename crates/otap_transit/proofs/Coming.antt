-- A message by the policy, after the requests and the messages of its segment: what the far end makes of it.
use Rattle.std.proofs.Common.{◌≡◌, ℕ, ◌+◌, ◌*◌, ◌^◌, ◌<◌, ◌≤◌, List, [], ◌∷◌, ◌++◌, length, ℤ, pos, sym, ap, ◌∙◌, subst, append-nil, length-append, arith}
use Rattle.std.specs.Prelude.{FitsSigned}
use Rattle.std.specs.Int.{w64}
use Rattle.std.specs.List.{AllByRecursion, flat_map}
use Rattle.std.proofs.lemmas.Grind.{flat_map-append}
use Rattle.lists.specs.EachAfter.{EachAfter}
use Rattle.lists.specs.Payloads.{PayloadIn}
use Rattle.otlp_model.specs.Limits.{item_limit}
use Rattle.otlp_model.specs.Same.{Same}
use Rattle.otlp_model.specs.declared.request.Request.{Request}
use Rattle.otlp_model.specs.declared.request.Signal.{Signal}
use Rattle.otap_capture.specs.Batch.{ReadsBatch, batch_content, payloads_in}
use Rattle.otap_cells.specs.Payload.{main_of}
use Rattle.otap_cells.specs.Sets.{rows_named}
use Rattle.otap_cells.specs.Tables.{Table}
use Rattle.otap_columns.specs.Limits.{tables_limit}
use Rattle.otap_consume.specs.Defects.{Accepts, tables_of}
use Rattle.otap_signals.specs.Meanings.{Meaning, SignalRows}
use Rattle.otap_consume.specs.LateStages.{HasFineRows}
use Rattle.otap_produce.specs.Policy.{IsExported, IsMessageOf}
use Rattle.otap_produce.specs.TableOrder.{HaveWritable}
use Rattle.otap_transit.specs.Arrivals.{AreFit, Arrives}
use Rattle.otap_transit.specs.Faithful.{AreFaithful, MeanTheSame}
use Rattle.otap_transit.specs.Transits.{IsReceivedAs, payloads_in_all, tables_after}
use Rattle.otap_transit.proofs.InFormat.{in_format_by}
use Rattle.otap_transit.proofs.Projected.{FarEndReads}
use Rattle.otap_transit.proofs.Reaching.{AreSoFar}
use Rattle.otap_transit.proofs.RealBatches.{id_fits}
use Rattle.otap_transit.proofs.SetsArriving.{arrives, few_payloads, goes_on}

-- a message is accepted, its rows are fine, and they mean the request
pub record Comes (m : Meaning) (requests : List Request) (messages : List (List ℕ)) (request : Request) (message : List ℕ) : Type 0 where
  pub reads : ReadsBatch message (batch_content message)
  pub id : (batch_content message).id ≡ pos (length requests)
  pub accepts : Accepts m.signal (payloads_in_all messages) (payloads_in message)
  pub fine : HasFineRows m (tables_after m messages message)
  pub same : Same request (m.request (tables_after m messages message))

-- what was sent so far in a segment
pub record IsSegment (rows : SignalRows) (requests : List Request) (messages : List (List ℕ)) : Type 0 where
  pub so_far : AreSoFar (flat_map rows.tables requests) (payloads_in_all messages)
  pub few : length (payloads_in_all messages) ≤ tables_limit * length requests

pub received : (m : Meaning) (requests : List Request) (messages : List (List ℕ)) (request : Request) (message : List ℕ) → Comes m requests messages request message
    → IsReceivedAs m requests messages request message
received m requests messages request message comes = record {
  format = in_format_by m (payloads_in_all messages) message (batch_content message) comes.reads comes.accepts comes.fine;
  reads = comes.reads;
  id = comes.id;
  same = comes.same;
}

-- the tables of a request that is exported are fit
fit_tables : (m : Meaning) (rows : SignalRows) → AreFaithful m rows → (q : Request) → IsExported rows q → AreFit m (rows.tables q)
fit_tables m rows faithful q exported =
    let few : length (rows_named (main_of rows.signal) (rows.tables q)) ≤ item_limit = omega (arith, faithful.items q exported, exported.items) in
    record {
      writable = subst (λ (s : Signal). HaveWritable s (rows.tables q)) (sym faithful.signal) (faithful.writable q exported);
      items = subst (λ (s : Signal). length (rows_named (main_of s) (rows.tables q)) ≤ item_limit) (sym faithful.signal) few;
      rows = exported.row_weight;
      fine = λ read same. let mean : MeanTheSame m q read = faithful.means q read exported same in record { clean = mean.clean; light = mean.light };
    }

module _ (far : FarEndReads) (m : Meaning) (rows : SignalRows) (faithful : AreFaithful m rows) (requests : List Request) (messages : List (List ℕ)) (request : Request) (message : List ℕ)
    (segment : IsSegment rows requests messages) (exported : IsExported rows request) (is : IsMessageOf rows requests messages request message) where
  abbrev before : List Table
  before = flat_map rows.tables requests

  abbrev past : List PayloadIn
  past = payloads_in_all messages

  abbrev ts : List Table
  ts = rows.tables request

  abbrev ps : List PayloadIn
  ps = payloads_in message

  -- the id says that there were not too many
  few_requests : length requests < 2 ^ 63
  few_requests = let fits : FitsSigned w64 (pos (length requests)) = subst (λ (id : ℤ). FitsSigned w64 id) is.id (id_fits message) in omega (arith, fits.sfits)

  room : length past + tables_limit < 10 ^ 64
  room = omega (arith, segment.few, few_requests)

  fit : AreFit m ts
  fit = fit_tables m rows faithful request exported

  here : Arrives m past (pos (length requests)) ts message
  here = arrives far m before past (pos (length requests)) ts message segment.so_far room fit is

  pub comes : Comes m requests messages request message
  comes = record {
    reads = here.reads;
    id = is.id;
    accepts = here.accepts;
    fine = here.fine;
    same = (faithful.means request (tables_of m.signal past ps) exported here.are).same;
  }

  pub longer : IsSegment rows (requests ++ request ∷ []) (messages ++ message ∷ [])
  longer =
      let tables : flat_map rows.tables (requests ++ request ∷ []) ≡ before ++ ts
      = flat_map-append rows.tables requests (request ∷ []) ∙ ap (λ (now : List Table). before ++ now) (append-nil ts) in
      let payloads : payloads_in_all (messages ++ message ∷ []) ≡ past ++ ps
      = flat_map-append payloads_in messages (message ∷ []) ∙ ap (λ (now : List PayloadIn). past ++ now) (append-nil ps) in
      record {
        so_far = rw (tables, payloads) (goes_on far m before past (pos (length requests)) ts message segment.so_far room fit is);
        few = omega (
          arith,
          ap length payloads,
          length-append past ps,
          segment.few,
          few_payloads far m before past (pos (length requests)) ts message segment.so_far room fit is,
          length-append requests (request ∷ []),
        );
      }

-- ---- a whole segment

module _ (far : FarEndReads) (m : Meaning) (rows : SignalRows) (faithful : AreFaithful m rows) where
  pub all_received : (gone : List Request) (sent : List (List ℕ)) (requests : List Request) (messages : List (List ℕ)) → IsSegment rows gone sent
      → AllByRecursion (IsExported rows) requests → EachAfter (IsMessageOf rows) gone sent requests messages → EachAfter (IsReceivedAs m) gone sent requests messages
  all_received gone sent [] [] segment exported all = tt
  all_received gone sent [] (message ∷ messages) segment exported all = absurd all
  all_received gone sent (request ∷ requests) [] segment exported all = absurd all
  all_received gone sent (request ∷ requests) (message ∷ messages) segment exported all = (
    received m gone sent request message (comes far m rows faithful gone sent request message segment exported.0 all.0),
    all_received (gone ++ request ∷ []) (sent ++ message ∷ []) requests messages (longer far m rows faithful gone sent request message segment exported.0 all.0) exported.1 all.1,
  )
