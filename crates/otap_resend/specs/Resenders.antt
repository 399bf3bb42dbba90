-- What a resending exporter keeps, and which state that is.
use Rattle.std.specs.Prelude.{◌≡◌, ⊤, ℕ, true, false, List}
use Rattle.otap_signals.specs.BySignal.{rows_by}
use Rattle.otap_signals.specs.Meanings.{SignalRows}
use Rattle.otap_produce.specs.Exporters.{ExporterIn, StandsFor}
use Rattle.otap_resend.specs.declared.refusal.Answered.{Answered}
use Rattle.otap_resend.specs.declared.refusal.Answered.TheVariants as answered
use Rattle.otap_resend.specs.declared.refusal.ResendRefusal.{ResendRefusal}
use Rattle.otap_resend.specs.declared.refusal.ResendRefusal.TheVariants as unwritten
use Rattle.otap_resend.specs.declared.refusal.SendRefusal.{SendRefusal}
use Rattle.otap_resend.specs.declared.refusal.SendRefusal.TheVariants as unsent
use Rattle.otap_resend.specs.declared.unanswered.Unanswered.{Unanswered}
use Rattle.otap_resend.specs.States.{State, Call, Resend, Outcome, Wrote, Refused, OutOfMemory, Done, GivenUp, Kept, Unknown, Full, Pending, Broken, TooManyItems, TooHeavy}
use Rattle.otap_resend.specs.Turns.{Turn}

-- a resender: its window, the unanswered requests, how many were sent, and the exporter of the segment
pub record ResenderIn : Type 0 where
  pub window : ℕ
  pub unanswered : List Unanswered
  pub sent : ℕ
  pub exporter : ExporterIn

-- A RESENDER OF A SIGNAL HAS A STATE: it keeps what is in it, and until memory runs out its exporter is one after the requests that
-- were written since the last reset
pub record HasState (rows : SignalRows) (s : State) (r : ResenderIn) : Type 0 where
  pub signal : r.exporter.signal ≡ rows.signal
  pub window : r.window ≡ s.window
  pub unanswered : r.unanswered ≡ s.unanswered
  pub sent : r.sent ≡ s.sent
  pub broken : r.exporter.broken ≡ s.broken
  pub exporter : s.broken ≡ false → (messages : List (List ℕ)) × StandsFor rows s.written messages r.exporter

-- A CALL TAKES A TURN of a signal: whatever state the resender had, this is an outcome that the call may have in it, and now the
-- resender has the state after that
abbrev pub TakesTurnOf : SignalRows → Call → Outcome → ResenderIn → ResenderIn → Type 0
TakesTurnOf rows call outcome old new = (s : State) → HasState rows s old → (after : State) × Turn rows s call outcome after × HasState rows after new

-- and the signal is that of its requests
abbrev pub TakesTurn : Call → Outcome → ResenderIn → ResenderIn → Type 0
TakesTurn call outcome old new = TakesTurnOf (rows_by old.exporter.signal) call outcome old new

-- an unanswered request is written again
abbrev pub Resends : List ℕ → ResenderIn → ResenderIn → Type 0
Resends message old new = TakesTurn Resend (Wrote message) old new

-- ---- the answers of the calls

abbrev pub not_sent : SendRefusal → Outcome
not_sent unsent.Full = Refused Full
not_sent unsent.Pending = Refused Pending
not_sent unsent.Broken = Refused Broken
not_sent unsent.TooManyItems = Refused TooManyItems
not_sent unsent.TooHeavy = Refused TooHeavy
not_sent (unsent.Memory e) = OutOfMemory

abbrev pub not_resent : ResendRefusal → Outcome
not_resent unwritten.Broken = Refused Broken
not_resent (unwritten.Memory e) = OutOfMemory

abbrev pub outcome_of : Answered → Outcome
outcome_of (answered.Done number) = Done number
outcome_of (answered.GivenUp number request) = GivenUp number request
outcome_of (answered.Kept number) = Kept number
outcome_of answered.Unknown = Unknown

-- after a refusal all is as before; where memory ran out the resender is broken, and only its exporter may have changed, of the
-- same signal
pub record IsBroken (old new : ResenderIn) : Type 0 where
  pub broken : new.exporter.broken ≡ true
  pub signal : new.exporter.signal ≡ old.exporter.signal
  pub same : new ≡ record old { exporter = new.exporter }

abbrev pub AfterRefusal : Outcome → ResenderIn → ResenderIn → Type 0
AfterRefusal OutOfMemory old new = IsBroken old new
AfterRefusal outcome old new = new ≡ old

-- an answer that leaves its request as it is, or finds none
abbrev pub LeavesAlone : Outcome → ResenderIn → ResenderIn → Type 0
LeavesAlone (Kept number) old new = new ≡ old
LeavesAlone Unknown old new = new ≡ old
LeavesAlone outcome old new = ⊤
