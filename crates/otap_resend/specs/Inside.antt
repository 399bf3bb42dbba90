-- What is true of the fields of a resending exporter, and definitions of private contracts.
use Rattle.std.specs.Prelude.{◌≡◌, ◌≤◌, ◌<◌, ◌+◌, ◌^◌, ℕ, true, false, List, length, count_by, find, Some}
use Rattle.std.specs.List.{AllByRecursion}
use Rattle.otap_signals.specs.Meanings.{SignalRows}
use Rattle.otap_produce.specs.declared.refusal.ProduceRefusal.{ProduceRefusal}
use Rattle.otap_produce.specs.declared.refusal.ProduceRefusal.TheVariants as produce
use Rattle.otap_produce.specs.Limits.{batch_limit}
use Rattle.otap_produce.specs.Policy.{IsExported}
use Rattle.otap_resend.specs.declared.refusal.SendRefusal.{SendRefusal}
use Rattle.otap_resend.specs.declared.refusal.SendRefusal.TheVariants as unsent
use Rattle.otap_resend.specs.declared.unanswered.Unanswered.{Unanswered}
use Rattle.otap_resend.specs.States.{is_unwritten}
use Rattle.otap_resend.specs.Turns.{HasRoom}
use Rattle.otap_resend.specs.Resenders.{ResenderIn}

-- Each request is exported, so it can be written again. A request is written at most once in a segment, so there are at most as many
-- batches as requests that were sent. There is room for as many requests as the window, which is a number of 32 bits.
pub record IsResender (rows : SignalRows) (window sent batches capacity : ℕ) (unanswered : List Unanswered) : Type 0 where
  pub exported : AllByRecursion (λ w. IsExported rows w.request) unanswered
  pub once : batches + count_by is_unwritten unanswered ≤ sent
  pub all_sent : length unanswered ≤ sent
  pub few : sent ≤ batch_limit
  pub fits : length unanswered ≤ window
  pub room : window ≤ capacity
  pub narrow : window < 2 ^ 32

-- it takes one more request, or it doesn't, whatever the request
pub record TakesMore (r : ResenderIn) : Type 0 where
  pub room : HasRoom r.window r.unanswered
  pub sound : r.exporter.broken ≡ false

abbrev pub TakesNone : ResenderIn → SendRefusal → Type 0
TakesNone r unsent.Full = r.window ≤ length r.unanswered
TakesNone r unsent.Pending = (length r.unanswered < r.window) × ((w : Unanswered) × (find is_unwritten r.unanswered ≡ Some w))
TakesNone r unsent.Broken = HasRoom r.window r.unanswered × (r.exporter.broken ≡ true)
TakesNone r refusal = ⊥

-- the exporter's refusal, as one of the resending exporter's
abbrev pub refusal_of : ProduceRefusal → SendRefusal
refusal_of produce.Broken = unsent.Broken
refusal_of produce.TooManyItems = unsent.TooManyItems
refusal_of produce.TooHeavy = unsent.TooHeavy
refusal_of (produce.Memory e) = unsent.Memory e
