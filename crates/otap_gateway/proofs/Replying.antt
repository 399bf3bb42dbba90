-- What a job replies, from what its state gives of a frame.
use Rattle.std.proofs.Common.{◌≡◌, ℕ, suc, ◌+◌, List, [], ◌∷◌, ◌++◌, length, refl, sym, ap, ◌∙◌, subst, zero-add, arith}
use Rattle.lists.proofs.Growing.{each_after-push, each_after-length}
use Rattle.otlp_model.specs.declared.request.Signal.{Signal}
use Rattle.otap_capture.specs.Capture.{Frame}
use Rattle.otap_consume.specs.declared.taken.Taken.{Taken}
use Rattle.otap_signals.specs.BySignal.{meaning_by}
use Rattle.otap_signals.specs.Meanings.{Meaning}
use Rattle.otap_consume.specs.Outcomes.{Outcome}
use Rattle.otap_consume.specs.Receivers.{HasReceived, Receives}
use Rattle.otap_consume.specs.Receiving.{ReceivedAfter}
use Rattle.otap_consume.specs.Segments.{SegmentIn, StandsFor, IsNew}
use Rattle.otap_consume.proofs.SegmentSteps.{stands_first}
use Rattle.otap_gateway.specs.Receptions.{as_taken}
use Rattle.otap_gateway.specs.JobStates.{HasReplied, HasRepliedBy}
use Rattle.otap_gateway.specs.Reply.{ReplyText}
use Rattle.otap_gateway.specs.EncodingSteps.{HasMore}
use Rattle.otap_gateway.specs.Replies.{Giving, Gave, replies_from, IsReplyAfter}

pub replies_from_more : {O : Type 0} (text : ℕ → O → ReplyText) (number : ℕ) (os : List O) (o : O) → replies_from text number (os ++ o ∷ []) ≡ replies_from text number os ++ text (number + length os) o ∷ []
replies_from_more text number [] o = let same : number ≡ number + 0 = omega arith in ap (λ k. text k o ∷ []) same
replies_from_more text number (p ∷ os) o =
    let same : suc number + length os ≡ number + suc (length os) = omega arith in
    ap (λ rs. text number p ∷ rs) (replies_from_more text (suc number) os o ∙ ap (λ k. replies_from text (suc number) os ++ text k o ∷ []) same)

pub is_reply_more : {O : Type 0} (Gives : Giving O) (text : ℕ → O → ReplyText) (old new : List O → Type 0) (frame : Frame) (number : ℕ) (reply : ReplyText)
    → ((past : List Frame) (outcomes : List O) → Gave Gives past outcomes → old outcomes → HasMore Gives text new outcomes frame number reply)
    → (frames : List Frame) (replies : List ReplyText) → length frames ≡ number → HasRepliedBy Gives text old frames replies
    → IsReplyAfter Gives text frames replies frame reply × HasRepliedBy Gives text new (frames ++ frame ∷ []) (replies ++ reply ∷ [])
is_reply_more {O} Gives text old new frame number reply step frames replies count history =
    let outcomes : List O = history.outcomes in
    let n : HasMore Gives text new outcomes frame number reply = step frames outcomes history.before history.stood in
    let here : reply ≡ text (length frames) n.outcome = n.says ∙ ap (λ k. text k n.outcome) (sym count) in
    let long : length frames ≡ length outcomes = each_after-length (λ past before f o. Gives before f o) [] [] frames outcomes history.before in
    let last : reply ≡ text (0 + length outcomes) n.outcome = here ∙ ap (λ k. text k n.outcome) (long ∙ sym (zero-add (length outcomes))) in (
      record {
        outcomes = outcomes;
        before = history.before;
        so_far = history.so_far;
        outcome = n.outcome;
        gives = n.gives;
        says = here;
      },
      record {
        outcomes = outcomes ++ n.outcome ∷ [];
        before = each_after-push (λ past before f o. Gives before f o) [] [] frames outcomes frame n.outcome history.before n.gives;
        so_far = (λ i. history.so_far i ++ last i ∷ []) ∙ sym (replies_from_more text 0 outcomes n.outcome);
        stood = n.stands;
      },
    )

-- ---- a receiver

module _ (m : Meaning) (text : ℕ → Taken → ReplyText) where
  takes : (old new : SegmentIn) (frame : Frame) (taken : Taken) (number : ℕ) (reply : ReplyText) → Receives m old frame new taken → reply ≡ text number taken
      → (past : List Frame) (outcomes : List Outcome) → Gave (ReceivedAfter m) past outcomes → StandsFor m.signal outcomes old
      → HasMore (ReceivedAfter m) (as_taken m text) (λ os. StandsFor m.signal os new) outcomes frame number reply
  takes old new frame taken number reply receives says past outcomes before stands =
      let n : HasReceived m outcomes frame new taken = receives.at outcomes stands in
      record { outcome = n.outcome; gives = n.gives; says = says ∙ ap (text number) n.reports; stands = n.stands }

  pub receiver_replies : (old new : SegmentIn) (frame : Frame) (taken : Taken) (number : ℕ) → Receives m old frame new taken → (reply : ReplyText) → reply ≡ text number taken
      → (frames : List Frame) (replies : List ReplyText) → length frames ≡ number → HasReplied m text old frames replies
      → IsReplyAfter (ReceivedAfter m) (as_taken m text) frames replies frame reply × HasReplied m text new (frames ++ frame ∷ []) (replies ++ reply ∷ [])
  receiver_replies old new frame taken number receives reply says =
      is_reply_more (ReceivedAfter m) (as_taken m text) (λ os. StandsFor m.signal os old) (λ os. StandsFor m.signal os new) frame number reply
      (takes old new frame taken number reply receives says)

-- a receiver of a signal that has taken no frame
pub replied_none : (text : ℕ → Taken → ReplyText) (signal : Signal) (s : SegmentIn) → IsNew signal s → HasReplied (meaning_by s.signal) text s [] []
replied_none text signal s new =
    record { outcomes = []; before = tt; so_far = refl; stood = stands_first s.signal s (subst (λ (x : Signal). IsNew x s) (sym new.same) new) }

-- a line of four parts
pub line_made : (a b c d e head words items weights : List ℕ) → a ≡ [] → b ≡ a ++ head → c ≡ b ++ words → d ≡ c ++ items → e ≡ d ++ weights → e ≡ head ++ words ++ items ++ weights
line_made a b c d e head words items weights none first second third last = rw (last, third, second, first, none) refl
