-- What is sent arrives, segment after segment.
use Rattle.std.proofs.Common.{◌≡◌, ℕ, false, List, [], ◌∷◌, ◌++◌, map, refl, sym, ap, ◌∙◌, subst, append-nil, arith}
use Rattle.std.proofs.lemmas.Grind.{flat_map-append}
use Rattle.lists.specs.EachAfter.{EachAfter, AllAfter}
use Rattle.lists.specs.Payloads.{PayloadIn}
use Rattle.otlp_model.specs.declared.request.Request.{Request}
use Rattle.otap_capture.specs.Batch.{batch_content, payloads_in}
use Rattle.otap_capture.specs.Capture.{Frame, Message}
use Rattle.otap_capture.specs.Capture as capture
use Rattle.otap_cells.specs.Tables.{Table}
use Rattle.otap_signals.specs.Meanings.{Meaning, SignalRows}
use Rattle.otap_consume.specs.Outcomes.{Outcome, Accepted, is_broken, payloads_after}
use Rattle.otap_consume.specs.Outcomes as outcomes
use Rattle.otap_consume.specs.Receiving.{ReceivedAfter, Received}
use Rattle.otap_consume.proofs.SegmentSteps.{payloads_accepted, broken_accepted, broken_reset, payloads_reset}
use Rattle.otap_transit.specs.Faithful.{AreFaithful}
use Rattle.otap_transit.specs.Sendings.{Sending, Sent, Reset, MaySend, IsAllowed, AreAllowed, IsAccepted, ArrivesAs, Arrive, frame_sent, requests_since, messages_since}
use Rattle.otap_transit.specs.Transits.{payloads_in_all, tables_after}
use Rattle.otap_transit.proofs.Coming.{Comes, IsSegment, comes, longer}
use Rattle.otap_transit.proofs.Projected.{FarEndReads}
use Rattle.otap_transit.proofs.Reaching.{nothing_so_far}
use Rattle.otap_transit.proofs.Settled.{gives_accepted, gives_reset, only_accepted, only_reset}
use Rattle.otap_transit.proofs.SendingsGrown.{requests_sent, messages_sent, requests_reset, messages_reset}

-- ---- outcomes of what was sent

-- no frame of the segment was refused, and its payloads are those that were sent
pub record AreReturned (rows : SignalRows) (before : List Sending) (returned : List Outcome) : Type 0 where
  pub whole : is_broken returned ≡ false
  pub payloads : payloads_after returned ≡ payloads_in_all (messages_since before)
  pub segment : IsSegment rows (requests_since before) (messages_since before)

pub new_segment : (rows : SignalRows) → IsSegment rows [] []
new_segment rows = record { so_far = nothing_so_far; few = omega arith }

none_returned : (rows : SignalRows) → AreReturned rows [] []
unfolding is_broken payloads_after requests_since messages_since
none_returned rows = record { whole = refl; payloads = refl; segment = new_segment rows }

after_reset : (rows : SignalRows) (before : List Sending) (returned : List Outcome) → AreReturned rows (before ++ Reset ∷ []) (returned ++ outcomes.Reset ∷ [])
after_reset rows before returned = record {
  whole = broken_reset returned;
  payloads = payloads_reset returned ∙ ap payloads_in_all (sym (messages_reset before));
  segment = rw (requests_reset before, messages_reset before) (new_segment rows);
}

module _ (far : FarEndReads) (m : Meaning) (rows : SignalRows) (faithful : AreFaithful m rows) where
  abbrev tables : List Sending → List ℕ → List Table
  tables before message = tables_after m (messages_since before) message

  it_comes : (before : List Sending) (returned : List Outcome) (request : Request) (message : List ℕ) → AreReturned rows before returned → MaySend rows before request message
      → Comes m (requests_since before) (messages_since before) request message
  it_comes before returned request message so_far may =
      comes far m rows faithful (requests_since before) (messages_since before) request message so_far.segment may.exported may.message_of

  after_sent : (before : List Sending) (returned : List Outcome) (request : Request) (message : List ℕ) → AreReturned rows before returned → MaySend rows before request message
      → AreReturned rows (before ++ Sent request message ∷ []) (returned ++ Accepted (batch_content message) (tables before message) ∷ [])
  after_sent before returned request message so_far may =
      let sent : payloads_in_all (messages_since (before ++ Sent request message ∷ [])) ≡ payloads_in_all (messages_since before) ++ payloads_in message
      = ap payloads_in_all (messages_sent before request message) ∙ flat_map-append payloads_in (messages_since before) (message ∷ [])
      ∙ ap (λ (ps : List PayloadIn). payloads_in_all (messages_since before) ++ ps) (append-nil (payloads_in message)) in
      record {
        whole = broken_accepted returned (batch_content message) (tables before message) ∙ so_far.whole;
        payloads =
            payloads_accepted returned (batch_content message) (tables before message) ∙ ap (λ (ps : List PayloadIn). ps ++ payloads_in message) so_far.payloads ∙ sym sent;
        segment = rw (requests_sent before request message, messages_sent before request message)
            (longer far m rows faithful (requests_since before) (messages_since before) request message so_far.segment may.exported may.message_of);
      }

  accepted_as : (before : List Sending) (returned : List Outcome) (request : Request) (message : List ℕ) (outcome : Outcome) → AreReturned rows before returned → MaySend rows before request message
      → outcome ≡ Accepted (batch_content message) (tables before message) → IsAccepted m before request message outcome
  accepted_as before returned request message outcome so_far may is =
      let c : Comes m (requests_since before) (messages_since before) request message = it_comes before returned request message so_far may in
      record { tables = tables before message; accepted = is; id = c.id; same = c.same }

  -- ---- all outcomes

  is_accepted : (before : List Sending) (returned : List Outcome) (request : Request) (message : List ℕ) (outcome : Outcome) → AreReturned rows before returned → MaySend rows before request message
      → ReceivedAfter m returned (Message message) outcome → outcome ≡ Accepted (batch_content message) (tables before message)
  is_accepted before returned request message outcome so_far may after =
      let c : Comes m (requests_since before) (messages_since before) request message = it_comes before returned request message so_far may in
      only_accepted m returned (payloads_in_all (messages_since before)) message outcome so_far.whole so_far.payloads c.reads c.accepts c.fine after

  pub all_arrive : (gone : List Frame) (before : List Sending) (returned : List Outcome) (sendings : List Sending) (next : List Outcome) → AreReturned rows before returned
      → AllAfter (IsAllowed rows) before sendings → EachAfter (λ past so_far frame outcome. ReceivedAfter m so_far frame outcome) gone returned (map frame_sent sendings) next
      → EachAfter (λ so_far past sending outcome. ArrivesAs m so_far sending outcome) before returned sendings next
  all_arrive gone before returned [] [] so_far allowed each = tt
  all_arrive gone before returned [] (outcome ∷ next) so_far allowed each = absurd each
  all_arrive gone before returned (sending ∷ sendings) [] so_far allowed each = absurd each
  all_arrive gone before returned (Sent request message ∷ sendings) (outcome ∷ next) so_far allowed each =
      let is : outcome ≡ Accepted (batch_content message) (tables before message) = is_accepted before returned request message outcome so_far allowed.0 each.0 in (
        accepted_as before returned request message outcome so_far allowed.0 is,
        all_arrive (gone ++ Message message ∷ []) (before ++ Sent request message ∷ []) (returned ++ outcome ∷ []) sendings next
            (subst (λ (o : Outcome). AreReturned rows (before ++ Sent request message ∷ []) (returned ++ o ∷ [])) (sym is) (after_sent before returned request message so_far allowed.0)) allowed.1 each.1,
      )
  all_arrive gone before returned (Reset ∷ sendings) (outcome ∷ next) so_far allowed each =
      let is : outcome ≡ outcomes.Reset = only_reset m returned outcome so_far.whole each.0 in (
        is,
        all_arrive (gone ++ capture.Reset ∷ []) (before ++ Reset ∷ []) (returned ++ outcome ∷ []) sendings next
            (subst (λ (o : Outcome). AreReturned rows (before ++ Reset ∷ []) (returned ++ o ∷ [])) (sym is) (after_reset rows before returned)) allowed.1 each.1,
      )

  pub arrive : (sendings : List Sending) (returned : List Outcome) → AreAllowed rows sendings → Received m (map frame_sent sendings) returned → Arrive m sendings returned
  arrive sendings returned allowed each = all_arrive [] [] [] sendings returned (none_returned rows) allowed each

  -- ---- there are some

  pub some_from : (gone : List Frame) (before : List Sending) (returned : List Outcome) (sendings : List Sending) → AreReturned rows before returned → AllAfter (IsAllowed rows) before sendings
      → (next : List Outcome) × EachAfter (λ past so_far frame outcome. ReceivedAfter m so_far frame outcome) gone returned (map frame_sent sendings) next
  some_from gone before returned [] so_far allowed = ([], tt)
  some_from gone before returned (Sent request message ∷ sendings) so_far allowed =
      let c : Comes m (requests_since before) (messages_since before) request message = it_comes before returned request message so_far allowed.0 in
      let here : ReceivedAfter m returned (Message message) (Accepted (batch_content message) (tables before message))
      = gives_accepted m returned (payloads_in_all (messages_since before)) message so_far.whole so_far.payloads c.reads c.accepts c.fine in
      let rest = some_from (gone ++ Message message ∷ []) (before ++ Sent request message ∷ []) (returned ++ Accepted (batch_content message) (tables before message) ∷ []) sendings
      (after_sent before returned request message so_far allowed.0) allowed.1 in
      (Accepted (batch_content message) (tables before message) ∷ rest.0, (here, rest.1))
  some_from gone before returned (Reset ∷ sendings) so_far allowed =
      let rest = some_from (gone ++ capture.Reset ∷ []) (before ++ Reset ∷ []) (returned ++ outcomes.Reset ∷ []) sendings (after_reset rows before returned) allowed.1 in
      (outcomes.Reset ∷ rest.0, (gives_reset m returned so_far.whole, rest.1))

  pub some : (sendings : List Sending) → AreAllowed rows sendings → (returned : List Outcome) × Received m (map frame_sent sendings) returned × Arrive m sendings returned
  some sendings allowed =
      let found : (returned : List Outcome) × Received m (map frame_sent sendings) returned = some_from [] [] [] sendings (none_returned rows) allowed in
      (found.0, found.1, arrive sendings found.0 allowed found.1)
