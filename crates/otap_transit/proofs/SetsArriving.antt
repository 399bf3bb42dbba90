-- A message of tables, after the tables and the payloads of its segment: what the far end makes of it. And those of all sets of
-- tables of a segment.
use Rattle.std.proofs.Common.{◌≡◌, ℕ, ◌+◌, ◌*◌, ◌^◌, ◌<◌, ◌≤◌, List, [], ◌∷◌, ◌++◌, length, ℤ, sym, ap, ◌∙◌, subst, append-nil, length-append, arith}
use Rattle.std.specs.Prelude.{FitsSigned}
use Rattle.std.specs.Int.{w32}
use Rattle.std.specs.List.{AllByRecursion}
use Rattle.std.proofs.lemmas.Grind.{flat_map-append}
use Rattle.lists.specs.EachAfter.{EachAfter}
use Rattle.lists.proofs.Growing.{each_after-length}
use Rattle.lists.specs.Payloads.{PayloadIn}
use Rattle.otlp_model.specs.declared.request.Signal.{Signal}
use Rattle.otap_capture.specs.Batch.{IsRealBatch, IsRealPayload, ReadsBatch, batch_content, payloads_in}
use Rattle.otap_capture.proofs.WrittenBatch.{batch_back}
use Rattle.otap_cells.specs.GivenIds.{ReadAs}
use Rattle.otap_cells.specs.Tables.{Table}
use Rattle.otap_columns.specs.Limits.{tables_limit}
use Rattle.otap_columns.specs.TableSets.{IsPayloadOf}
use Rattle.otap_consume.specs.Defects.{Accepts, tables_of}
use Rattle.otap_consume.specs.LateStages.{HasFineRows}
use Rattle.otap_signals.specs.Meanings.{Meaning}
use Rattle.otap_produce.specs.Policy.{IsMessageFor}
use Rattle.otap_produce.specs.TableOrder.{AreInOrder}
use Rattle.otap_transit.specs.Arrivals.{AreFit, Arrives, IsFitSet, IsMessageOfSet, SetArrives, SetIn, tables_in_all}
use Rattle.otap_transit.specs.Transits.{payloads_in_all}
use Rattle.otap_transit.proofs.Accepting.{accepts, tables_read}
use Rattle.otap_transit.proofs.InFormat.{in_format_by}
use Rattle.otap_transit.proofs.Once.{kinds_once, few_tables, tables_known}
use Rattle.otap_transit.proofs.Projected.{FarEndReads}
use Rattle.otap_transit.proofs.Reaching.{AreSoFar, Reaches, all_reach}
use Rattle.otap_transit.proofs.RealBatches.{id_fits}
use Rattle.otap_cells.proofs.KindsApart.{number_fits}

-- payloads of which the far end finds all are real
real_payloads : (signal : Signal) (before : List Table) (past : List PayloadIn) (ts : List Table) (ps : List PayloadIn) → EachAfter (Reaches signal) before past ts ps
    → AllByRecursion IsRealPayload ps
real_payloads signal before past [] [] each = tt
real_payloads signal before past [] (p ∷ ps) each = absurd each
real_payloads signal before past (t ∷ ts) [] each = absurd each
real_payloads signal before past (t ∷ ts) (p ∷ ps) each = (
  record { schema_id = each.0.text; kind = subst (λ (type : ℤ). FitsSigned w32 type) (sym each.0.type) (number_fits t.kind) },
  real_payloads signal (before ++ t ∷ []) (past ++ p ∷ []) ts ps each.1,
)

module _ (far : FarEndReads) (m : Meaning) (before : List Table) (past : List PayloadIn) (number : ℤ) (ts : List Table) (message : List ℕ)
    (so_far : AreSoFar before past) (room : length past + tables_limit < 10 ^ 64) (fit : AreFit m ts) (is : IsMessageFor before past number ts message) where
  abbrev ps : List PayloadIn
  ps = payloads_in message

  order : AreInOrder m.signal ts
  order = fit.writable.order

  each : EachAfter IsPayloadOf before past ts ps
  each = is.payloads

  pub few_payloads : length ps ≤ tables_limit
  few_payloads = omega (arith, each_after-length IsPayloadOf before past ts ps each, few_tables m.signal ts order)

  few : length (past ++ ps) < 10 ^ 64
  few = omega (arith, length-append past ps, room, few_payloads)

  reached : EachAfter (Reaches m.signal) before past ts ps × AreSoFar (before ++ ts) (past ++ ps)
  reached = all_reach far m.signal before past ts ps so_far each (tables_known m.signal ts order) few

  reads : ReadsBatch message (batch_content message)
  reads =
      let real : IsRealBatch (batch_content message) = record { id = id_fits message; payloads = real_payloads m.signal before past ts ps reached.0 } in
      let short : length message < 2 ^ 64 = omega (arith, is.short) in
      subst (λ (bytes : List ℕ). ReadsBatch bytes (batch_content message)) (sym is.canonical) (batch_back (batch_content message) real (rw (← is.canonical) short))

  accepted : Accepts m.signal past ps
  accepted = accepts m.signal before past ts ps reached.0 (kinds_once m.signal ts order) reached.1.held fit.items fit.rows

  read : ReadAs (tables_of m.signal past ps) ts
  read = tables_read m.signal before past ts ps reached.0 (kinds_once m.signal ts order)

  fine : HasFineRows m (tables_of m.signal past ps)
  fine = fit.fine (tables_of m.signal past ps) read

  pub arrives : Arrives m past number ts message
  arrives = record {
    format = in_format_by m past message (batch_content message) reads accepted fine;
    reads = reads;
    id = is.id;
    accepts = accepted;
    are = read;
    fine = fine;
  }

  -- the next message comes after this one
  pub goes_on : AreSoFar (before ++ ts) (past ++ ps)
  goes_on = reached.1

-- ---- a whole segment

module _ (far : FarEndReads) (m : Meaning) where
  pub sets_arrive : (gone : List SetIn) (sent : List (List ℕ)) (sets : List SetIn) (messages : List (List ℕ)) → AreSoFar (tables_in_all gone) (payloads_in_all sent)
      → length (payloads_in_all sent) + tables_limit * length sets < 10 ^ 64 → AllByRecursion (IsFitSet m) sets
      → EachAfter IsMessageOfSet gone sent sets messages → EachAfter (SetArrives m) gone sent sets messages
  sets_arrive gone sent [] [] so_far few fit each = tt
  sets_arrive gone sent [] (message ∷ messages) so_far few fit each = absurd each
  sets_arrive gone sent (set ∷ sets) [] so_far few fit each = absurd each
  sets_arrive gone sent (set ∷ sets) (message ∷ messages) so_far few fit each =
      let before : List Table = tables_in_all gone in
      let past : List PayloadIn = payloads_in_all sent in
      let room : length past + tables_limit < 10 ^ 64 = omega (arith, few) in
      let tables : tables_in_all (gone ++ set ∷ []) ≡ before ++ set.tables
      = flat_map-append (λ (s : SetIn). s.tables) gone (set ∷ []) ∙ ap (λ (now : List Table). before ++ now) (append-nil set.tables) in
      let payloads : payloads_in_all (sent ++ message ∷ []) ≡ past ++ payloads_in message
      = flat_map-append payloads_in sent (message ∷ []) ∙ ap (λ (now : List PayloadIn). past ++ now) (append-nil (payloads_in message)) in
      let next : AreSoFar (tables_in_all (gone ++ set ∷ [])) (payloads_in_all (sent ++ message ∷ []))
      = rw (tables, payloads) (goes_on far m before past set.id set.tables message so_far room fit.0 each.0) in
      let little : length (payloads_in message) ≤ tables_limit = few_payloads far m before past set.id set.tables message so_far room fit.0 each.0 in
      let few_next : length (payloads_in_all (sent ++ message ∷ [])) + tables_limit * length sets < 10 ^ 64
      = omega (arith, ap length payloads, length-append past (payloads_in message), few, little) in (
        arrives far m before past set.id set.tables message so_far room fit.0 each.0,
        sets_arrive (gone ++ set ∷ []) (sent ++ message ∷ []) sets messages next few_next fit.1 each.1,
      )
