-- A request that is done was accepted by the far end.
use Rattle.std.proofs.Common.{◌≡◌, ◌⊎◌, inl, inr, ℕ, zero, suc, ◌+◌, ℤ, pos, Bool, true, false, List, [], ◌∷◌, ◌++◌, length, Option, Some, None, refl, sym, ap, ◌∙◌, subst, arith}
use Rattle.std.specs.Prelude.{find, map, slice_get, IfSome}
use Rattle.std.specs.List.{AllByRecursion}
use Rattle.std.proofs.lemmas.Bool.{cases_Bool, false≢true}
use Rattle.std.proofs.lemmas.Bool.Decides.{Decides-int_eq}
use Rattle.std.proofs.lemmas.List.{length-append}
use Rattle.lists.specs.EachAfter.{AllAfter, EachAfter}
use Rattle.lists.proofs.Growing.{all_after-keeps}
use Rattle.otlp_model.specs.Same.{Same}
use Rattle.otlp_model.specs.declared.request.Request.{Request}
use Rattle.otap_capture.specs.Batch.{batch_content}
use Rattle.otap_capture.specs.Capture.{Frame, Message}
use Rattle.otap_cells.specs.Tables.{Table}
use Rattle.otap_signals.specs.Meanings.{Meaning, SignalRows}
use Rattle.otap_consume.specs.Outcomes.{Outcome, Accepted}
use Rattle.otap_consume.specs.Receiving.{Received}
use Rattle.otap_produce.specs.Policy.{IsExported, IsMessageOf, Policy}
use Rattle.otap_resend.specs.declared.unanswered.Unanswered.{Unanswered}
use Rattle.otap_resend.specs.Runs.{Step, IsRun, IsSound, IsSentAs, messages_since, requests_sent as sent_in, state_after}
use Rattle.otap_resend.specs.States.{State, Call, Answer, Outcome as CallOutcome, Done, has_id, is_id, next}
use Rattle.otap_resend.specs.Turns.{MayGive}
use Rattle.otap_resend.specs.Turns as turns
use Rattle.otap_transit.specs.Sendings.{Sending, Sent, AreAllowed, Arrive, ArrivesAs, IsAllowed, frame_sent, messages_since as messages_sent_since, requests_since}
use Rattle.otap_transit.proofs.SendingsGrown.{messages_sent, requests_sent}
use Rattle.otap_gateway.specs.Accepted.{AcceptsAt, WasAccepted}
use Rattle.otap_gateway.specs.Encoding.{Arrives}
use Rattle.otap_gateway.proofs.RewrittenFrames.{after_more}

-- ---- what was written is exported

all_push : {A : Type 0} (P : A → Type 0) (xs : List A) (x : A) → AllByRecursion P xs → P x → AllByRecursion P (xs ++ x ∷ [])
all_push P [] x all is = (is, tt)
all_push P (y ∷ ys) x all is = (all.0, all_push P ys x all.1 is)

module _ (rows : SignalRows) (window : ℕ) where
  abbrev AreExported : State → Type 0
  AreExported s = AllByRecursion (IsExported rows) s.written

  exported_next : (s : State) (call : Call) (outcome : CallOutcome) → MayGive rows s call outcome → AreExported s → AreExported (next s call outcome)
  unfolding next
  exported_next s _ _ (turns.full q many) so = so
  exported_next s _ _ (turns.pending q w room found) so = so
  exported_next s _ _ (turns.broken q room broken) so = so
  exported_next s _ _ (turns.too_many_items q ready many) so = so
  exported_next s _ _ (turns.too_heavy q ready few heavy) so = so
  exported_next s _ _ (turns.out_of_memory q ready exported) so = so
  exported_next s _ _ (turns.sends q message ready is) so = all_push (IsExported rows) s.written q so is.exported
  exported_next s _ _ (turns.unknown id code none) so = so
  exported_next s _ _ (turns.done id code w found accepted) so = so
  exported_next s _ _ (turns.given_up id code w found refused) so = so
  exported_next s _ _ (turns.kept id code w found neither) so = so
  exported_next s _ _ turns.resets so = tt
  exported_next s _ _ (turns.resend_broken broken) so = so
  exported_next s _ _ (turns.all_written sound none) so = so
  exported_next s _ _ (turns.resend_out_of_memory w sound found) so = so
  exported_next s _ _ (turns.resends w message sound found is) so = rw found (all_push (IsExported rows) s.written w.request so is.exported)

  exported_after : (steps : List Step) → IsRun rows window steps → AreExported (state_after window steps)
  exported_after steps run =
      all_after-keeps (λ before step. MayGive rows (state_after window before) step.call step.outcome) (λ before. AreExported (state_after window before))
      (λ before step so may. subst AreExported (sym (after_more window before step)) (exported_next (state_after window before) step.call step.outcome may so)) [] steps tt run

-- ---- the request that is done

found_has : (test : Unanswered → Bool) (P : Unanswered → Type 0) (ws : List Unanswered) (w : Unanswered) → find test ws ≡ Some w → AllByRecursion P ws → (test w ≡ true) × P w
found_has test P [] w found all = let clash : None ≡ Some w = found in cc
found_has test P (x ∷ xs) w found all = by_test (cases_Bool (test x)) (λ rest. found_has test P xs w rest all.1)
  where
    by_test : (test x ≡ true) ⊎ (test x ≡ false) → (find test xs ≡ Some w → (test w ≡ true) × P w) → (test w ≡ true) × P w
    by_test (inl is) again =
        let first : Some x ≡ Some w = rw is at found in
        let same : x ≡ w = cc in
        subst (λ (y : Unanswered). (test y ≡ true) × P y) same (is, all.0)
    by_test (inr not) again = again (rw not at found)

index_of : (id : ℤ) (own : Option ℕ) → is_id id own ≡ true → (index : ℕ) × (own ≡ Some index) × (id ≡ pos index)
index_of id None is = absurd (false≢true is)
index_of id (Some index) is = (index, refl, sym ((Decides-int_eq (pos index) id).0 is))

-- ---- a segment as what is sent

abbrev sent_as : List Request → List (List ℕ) → List Sending
sent_as [] messages = []
sent_as (q ∷ qs) [] = []
sent_as (q ∷ qs) (message ∷ messages) = Sent q message ∷ sent_as qs messages

module _ (rows : SignalRows) where
  frames_as : (past : List Request) (past' : List (List ℕ)) (qs : List Request) (messages : List (List ℕ)) → EachAfter (IsMessageOf rows) past past' qs messages
      → map frame_sent (sent_as qs messages) ≡ map Message messages
  frames_as past past' [] [] each = refl
  frames_as past past' [] (message ∷ messages) each = absurd each
  frames_as past past' (q ∷ qs) [] each = absurd each
  frames_as past past' (q ∷ qs) (message ∷ messages) each = ap (λ l. Message message ∷ l) (frames_as (past ++ q ∷ []) (past' ++ message ∷ []) qs messages each.1)

  allowed_as : (before : List Sending) (past : List Request) (past' : List (List ℕ)) (qs : List Request) (messages : List (List ℕ)) → requests_since before ≡ past → messages_sent_since before ≡ past'
      → EachAfter (IsMessageOf rows) past past' qs messages → AllByRecursion (IsExported rows) qs → AllAfter (IsAllowed rows) before (sent_as qs messages)
  allowed_as before past past' [] messages requests written each exported = tt
  allowed_as before past past' (q ∷ qs) [] requests written each exported = tt
  allowed_as before past past' (q ∷ qs) (message ∷ messages) requests written each exported = (
    record { exported = exported.0; message_of = rw (requests, written) each.0 },
    allowed_as (before ++ Sent q message ∷ []) (past ++ q ∷ []) (past' ++ message ∷ []) qs messages (requests_sent before q message ∙ ap (λ l. l ++ q ∷ []) requests)
        (messages_sent before q message ∙ ap (λ l. l ++ message ∷ []) written) each.1 exported.1,
  )

-- ---- what arrives at an index

pub record ArrivedAt (m : Meaning) (start : ℕ) (messages : List (List ℕ)) (received : List Outcome) (index : ℕ) (request : Request) : Type 0 where
  pub message : List ℕ
  pub tables : List Table
  pub written : slice_get messages index ≡ Some message
  pub id : (batch_content message).id ≡ pos (start + index)
  pub accepted : slice_get received index ≡ Some (Accepted (batch_content message) tables)
  pub same : Same request (m.request tables)

module _ (rows : SignalRows) (m : Meaning) where
  arrived : (before : List Sending) (gone : List Outcome) (start : ℕ) (past : List Request) (past' : List (List ℕ)) (qs : List Request) (messages : List (List ℕ)) (received : List Outcome)
      (index : ℕ) (q : Request) → length (requests_since before) ≡ start → EachAfter (IsMessageOf rows) past past' qs messages
      → EachAfter (λ was past sending outcome. ArrivesAs m was sending outcome) before gone (sent_as qs messages) received → slice_get qs index ≡ Some q
      → ArrivedAt m start messages received index q
  arrived before gone start past past' [] messages received index q long each arrive at = let clash : None ≡ Some q = at in cc
  arrived before gone start past past' (x ∷ xs) [] received index q long each arrive at = absurd each
  arrived before gone start past past' (x ∷ xs) (message ∷ messages) [] index q long each arrive at = absurd arrive
  arrived before gone start past past' (x ∷ xs) (message ∷ messages) (o ∷ os) zero q long each arrive at =
      let some : Some x ≡ Some q = at in
      let same : x ≡ q = cc in
      record {
        message = message;
        tables = arrive.0.tables;
        written = refl;
        id = arrive.0.id ∙ ap pos (long ∙ omega arith);
        accepted = ap Some arrive.0.accepted;
        same = subst (λ (r : Request). Same r (m.request arrive.0.tables)) same arrive.0.same;
      }
  arrived before gone start past past' (x ∷ xs) (message ∷ messages) (o ∷ os) (suc index) q long each arrive at =
      let grown = ap length (requests_sent before x message) ∙ length-append (requests_since before) (x ∷ []) in
      let rest = arrived (before ++ Sent x message ∷ []) (gone ++ o ∷ []) (start + 1) (past ++ x ∷ []) (past' ++ message ∷ []) xs messages os index q
      (grown ∙ ap (λ n. n + 1) long) each.1 arrive.1 at in
      record {
        message = rest.message;
        tables = rest.tables;
        written = rest.written;
        id = rest.id ∙ ap pos (omega arith);
        accepted = rest.accepted;
        same = rest.same;
      }

  none_sent : length (requests_since []) ≡ 0
  unfolding requests_since
  none_sent = refl

  no_requests : requests_since [] ≡ []
  unfolding requests_since
  no_requests = refl

  no_messages : messages_sent_since [] ≡ []
  unfolding messages_sent_since
  no_messages = refl

  accepts_at : (qs : List Request) (messages : List (List ℕ)) (index : ℕ) (q : Request) → ((ss : List Sending) → AreAllowed rows ss → Arrives m ss) → Policy rows qs messages
      → AllByRecursion (IsExported rows) qs → slice_get qs index ≡ Some q → AcceptsAt m messages index q
  accepts_at qs messages index q arrives policy exported at =
      let here : Arrives m (sent_as qs messages) = arrives (sent_as qs messages) (allowed_as rows [] [] [] qs messages no_requests no_messages policy exported) in
      let frames : map frame_sent (sent_as qs messages) ≡ map Message messages = frames_as rows [] [] qs messages policy in
      record {
        received = here.received;
        some = subst (λ (fs : List Frame). Received m fs here.received) frames here.some;
        all = λ outcomes received.
            let arrive : Arrive m (sent_as qs messages) outcomes = here.all outcomes (subst (λ (fs : List Frame). Received m fs outcomes) (sym frames) received) in
            let a = arrived [] [] 0 [] [] qs messages outcomes index q none_sent policy arrive at in
            record { message = a.message; tables = a.tables; written = a.written; id = a.id ∙ ap pos (omega arith); accepted = a.accepted; same = a.same };
      }

  pub accepted_by : (window : ℕ) (before : List Step) (id code : ℤ) (number : ℕ) → ((ss : List Sending) → AreAllowed rows ss → Arrives m ss) → IsSound rows window before → IsRun rows window before
      → MayGive rows (state_after window before) (Answer id code) (Done number) → WasAccepted m (state_after window before) (sent_in before) (messages_since before) id number
  accepted_by window before id code _ arrives sound run (turns.done _ _ w found accepted) =
      let s = state_after window before in
      let has = found_has (has_id id) (λ (u : Unanswered). IfSome u.id (λ own. slice_get s.written own ≡ Some u.request)) s.unanswered w found sound.placed in
      let index = index_of id w.id has.0 in
      let at : slice_get s.written index.0 ≡ Some w.request = rw index.1 at has.1 in
      record {
        done = w;
        found = found;
        numbered = refl;
        was_sent = (found_has (has_id id) (λ (u : Unanswered). IsSentAs (sent_in before) u.number u.request) s.unanswered w found sound.unanswered).1;
        index = index.0;
        is_id = index.2;
        accepts = accepts_at s.written (messages_since before) index.0 w.request arrives sound.policy (exported_after rows window before run) at;
      }
