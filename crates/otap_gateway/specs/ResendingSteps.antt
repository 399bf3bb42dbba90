-- What one frame makes of a resending exporter: used in the private contracts of `resend`.
use Rattle.std.specs.Prelude.{◌≡◌, ◌⊎◌, ◌≤◌, ◌<◌, ◌+◌, ℕ, false, None, List, [], ◌∷◌, ◌++◌, length, map, find}
use Rattle.std.specs.List.{flat_map}
use Rattle.std.specs.declared.option.Option.{Option}
use Rattle.std.specs.declared.result.Result.{Result}
use Rattle.std.specs.declared.result.Result.TheVariants.{Ok, Err}
use Rattle.std.specs.Io.KnownBytes.{Appends}
use Rattle.lists.specs.EachAfter.{AllAfter}
use Rattle.otap_capture.specs.Capture.{message_frame, reset_frame}
use Rattle.otap_capture.specs.Outside.{AppendsFront, Rose}
use Rattle.otap_capture.specs.Statuses.{StatusContent}
use Rattle.otap_produce.specs.Limits.{batch_limit}
use Rattle.otap_signals.specs.BySignal.{rows_by}
use Rattle.otap_signals.specs.Meanings.{SignalRows}
use Rattle.otap_resend.specs.declared.refusal.SendRefusal.{SendRefusal}
use Rattle.otap_resend.specs.declared.refusal.SendRefusal.TheVariants as why
use Rattle.otap_resend.specs.Resenders.{ResenderIn, HasState, TakesTurnOf, not_sent}
use Rattle.otap_resend.specs.Runs.{Step, state_after}
use Rattle.otap_resend.specs.States.{State, Send, Outcome, Wrote, Done, GivenUp, Full, Pending, Broken, TooManyItems, TooHeavy, is_unwritten}
use Rattle.otlp_model.specs.declared.request.Request.{Request}
use Rattle.otap_gateway.specs.declared.jobs.resend.Counts.{Counts}
use Rattle.otap_gateway.specs.declared.runs.stop.Stop.{Stop}
use Rattle.otap_gateway.specs.declared.runs.stop.Stop.TheVariants as stop
use Rattle.otap_gateway.specs.Lines.{printed}
use Rattle.otap_gateway.specs.RefusedRequests.{refused_request}
use Rattle.otap_gateway.specs.Reply.{ReplyText}
use Rattle.otap_gateway.specs.Resends.{Resent, Begins, EventGives, MayStep, RequestGives, ResetGives, StatusGives, resend_step, resent_text, state_by, why_text}

-- the tables of the requests of a resender
abbrev pub rows_in : ResenderIn → SignalRows
rows_in r = rows_by r.exporter.signal

-- each unanswered request is written, and memory didn't run out
pub record IsCalm (s : State) : Type 0 where
  pub written : find is_unwritten s.unanswered ≡ None
  pub sound : s.broken ≡ false

-- the counts are those of the state, and no more than the frames
pub record HasCounts (s : State) (frames : ℕ) (counts : Counts) : Type 0 where
  pub done : counts.done ≡ length s.done
  pub given_up : counts.given_up ≡ length s.given_up
  pub few_sent : s.sent ≤ frames
  pub few_done : length s.done ≤ frames
  pub few_given_up : length s.given_up ≤ frames

-- a resender and counts after frames that gave these
pub record HasResent (rows : SignalRows) (window : ℕ) (r : ResenderIn) (counts : Counts) (given : List Resent) : Type 0 where
  pub state : HasState rows (state_by window given) r
  pub calm : IsCalm (state_by window given)
  pub numbers : HasCounts (state_by window given) (length given) counts

-- numbers that can still grow
pub record AreFew (r : ResenderIn) (counts : Counts) : Type 0 where
  pub sent : r.sent < batch_limit
  pub done : counts.done < batch_limit
  pub given_up : counts.given_up < batch_limit

-- one frame more: what it gives, whose text is the reply; the new state is the one after that too
pub record GivesMore (Gives : Resent → Type 0) (new : List Resent → Type 0) (given : List Resent)
    (number : ℕ) (reply : ReplyText) : Type 0 where
  pub gives : Resent
  pub is : Gives gives
  pub says : reply ≡ resent_text number gives
  pub stands : new (given ++ gives ∷ [])

-- the bytes of a request, a status, or the bytes of an event, whatever the resender took before
pub record TakesRequest (rows : SignalRows) (old new : ResenderIn)
    (number : ℕ) (part : List ℕ) (reply : ReplyText) : Type 0 where
  pub at : (window : ℕ) (given : List Resent) (counts : Counts) → HasResent rows window old counts given
      → GivesMore (RequestGives rows window given part) (HasResent rows window new counts) given number reply

pub record TakesStatus (rows : SignalRows) (old new : ResenderIn) (counts counts' : Counts)
    (number : ℕ) (status : StatusContent) (reply : ReplyText) : Type 0 where
  pub at : (window : ℕ) (given : List Resent) → HasResent rows window old counts given
      → GivesMore (StatusGives rows window given status) (HasResent rows window new counts') given number reply

pub record TakesEvent (rows : SignalRows) (old new : ResenderIn) (counts counts' : Counts)
    (number : ℕ) (bytes : List ℕ) (reply : ReplyText) : Type 0 where
  pub at : (window : ℕ) (given : List Resent) → HasResent rows window old counts given
      → GivesMore (EventGives rows window given bytes) (HasResent rows window new counts') given number reply

-- a request that was read: its message is written
pub record SendsMessage (rows : SignalRows) (old new : ResenderIn) (request : Request) (reply : ReplyText) : Type 0 where
  pub message : List ℕ
  pub turn : TakesTurnOf rows (Send request) (Wrote message) old new
  pub says : reply ≡ printed (message_frame message)

-- it isn't sent, which has a name
abbrev pub NamesWhy : SendRefusal → List ℕ → Type 0
NamesWhy why.Full name = name ≡ why_text Full
NamesWhy why.Pending name = name ≡ why_text Pending
NamesWhy why.Broken name = name ≡ why_text Broken
NamesWhy why.TooManyItems name = name ≡ why_text TooManyItems
NamesWhy why.TooHeavy name = name ≡ why_text TooHeavy
NamesWhy (why.Memory e) name = ⊥

pub record RefusesToSend (rows : SignalRows) (old new : ResenderIn)
    (number : ℕ) (request : Request) (reply : ReplyText) : Type 0 where
  pub why : SendRefusal
  pub turn : TakesTurnOf rows (Send request) (not_sent why) old new
  pub name : List ℕ
  pub names : NamesWhy why name
  pub says : reply ≡ refused_request number name

abbrev pub SendsOne : SignalRows → ResenderIn → ResenderIn → ℕ → Request → ReplyText → Type 0
SendsOne rows old new number request reply =
    SendsMessage rows old new request reply ⊎ RefusesToSend rows old new number request reply

-- ---- a status

-- the counts go on by what became of a request
abbrev pub AddsAnswer : Outcome → Counts → Counts → Type 0
AddsAnswer (Done number) old new = new ≡ record old { done = old.done + 1 }
AddsAnswer (GivenUp number q) old new = new ≡ record old { given_up = old.given_up + 1 }
AddsAnswer other old new = new ≡ old

-- ---- a reset

-- it has some state
pub record HasSomeState (rows : SignalRows) (r : ResenderIn) : Type 0 where
  pub state : State
  pub has : HasState rows state r

abbrev pub frames_of : List (List ℕ) → List ℕ
frames_of messages = flat_map message_frame messages

-- these messages are written after the resender's steps so far, whatever these are
pub record Rewrites (rows : SignalRows) (old new : ResenderIn) (messages : List (List ℕ)) : Type 0 where
  pub at : (window : ℕ) (steps : List Step) → HasState rows (state_after window steps) old
      → AllAfter (MayStep rows window) steps (map resend_step messages)
      × HasState rows (state_after window (steps ++ map resend_step messages)) new

-- all requests that weren't written are written
pub record ResendsWhole (rows : SignalRows) (old new : ResenderIn) (written written' : Option (List ℕ)) : Type 0 where
  pub messages : List (List ℕ)
  pub rewrites : Rewrites rows old new messages
  pub calm : (s : State) → HasState rows s new → IsCalm s
  pub out : Appends written written' (frames_of messages)

-- or something stopped it: the messages of some are, or a front of their frames
pub record ResendsPart (rows : SignalRows) (old : ResenderIn) (written written' : Option (List ℕ)) : Type 0 where
  pub messages : List (List ℕ)
  pub may : (window : ℕ) (steps : List Step) → HasState rows (state_after window steps) old
      → AllAfter (MayStep rows window) steps (map resend_step messages)
  pub out : AppendsFront written written' (frames_of messages)

abbrev pub ResendsAll : SignalRows → ResenderIn → ResenderIn → Option (List ℕ) → Option (List ℕ)
    → Result (Unit {0}) Stop → Type 0
ResendsAll rows old new written written' (Ok x) = ResendsWhole rows old new written written'
ResendsAll rows old new written written' (Err stop) = ResendsPart rows old written written'

-- a segment begins, and all open requests are written in it
pub record RestartsWhole (rows : SignalRows) (old new : ResenderIn) (written written' : Option (List ℕ)) : Type 0 where
  pub messages : List (List ℕ)
  pub at : (window : ℕ) (given : List Resent) (counts : Counts) → HasResent rows window old counts given
      → ResetGives rows window given messages × HasResent rows window new counts (given ++ Begins messages ∷ [])
  pub out : Appends written written' (reset_frame ++ frames_of messages)

pub record RestartsPart (rows : SignalRows) (old : ResenderIn) (written written' : Option (List ℕ)) : Type 0 where
  pub messages : List (List ℕ)
  pub at : (window : ℕ) (given : List Resent) (counts : Counts) → HasResent rows window old counts given
      → ResetGives rows window given messages
  pub out : AppendsFront written written' (reset_frame ++ frames_of messages)

abbrev pub Restarts : SignalRows → ResenderIn → ResenderIn → Option (List ℕ) → Option (List ℕ)
    → Result (Unit {0}) Stop → Type 0
Restarts rows old new written written' (Ok x) = RestartsWhole rows old new written written'
Restarts rows old new written written' (Err stop) = RestartsPart rows old written written'

-- the count of faults of out, where nothing else is called
abbrev pub CountsOut : {T : Type 0} → ℕ → ℕ → Result T Stop → Type 0
CountsOut old new (Ok x) = new ≡ old
CountsOut old new (Err stop.Source) = ⊥
CountsOut old new (Err stop.Sink) = Rose old new
CountsOut old new (Err stop.Memory) = new ≡ old
