-- Each call takes a turn, in plain variables: from what it did to what the resender keeps.
use Rattle.std.proofs.Common.{◌≡◌, ℕ, ℤ, pos, ◌+◌, Bool, true, false, List, [], ◌∷◌, ◌++◌, length, map, Some, None, refl, sym, ap, ◌∙◌, subst}
use Rattle.std.specs.Prelude.{find, ◌||◌}
use Rattle.std.specs.List.{flat_map}
use Rattle.std.proofs.lemmas.Bool.{false≢true}
use Rattle.lists.specs.Payloads.{PayloadIn}
use Rattle.otlp_model.specs.declared.request.Request.{Request}
use Rattle.otap_capture.specs.Batch.{payloads_in}
use Rattle.otap_cells.specs.Tables.{Table}
use Rattle.otap_columns.specs.TableSets.{AreLaidAfter}
use Rattle.otap_signals.specs.Meanings.{SignalRows}
use Rattle.otap_produce.specs.declared.refusal.ProduceRefusal.{ProduceRefusal}
use Rattle.otap_produce.specs.declared.refusal.ProduceRefusal.TheVariants as produce
use Rattle.otap_produce.specs.Exporters.{ExporterIn, Exports, StandsFor, Refuses}
use Rattle.otap_produce.specs.Exporters as exporters
use Rattle.otap_resend.specs.declared.refusal.SendRefusal.{SendRefusal}
use Rattle.otap_resend.specs.declared.refusal.SendRefusal.TheVariants as unsent
use Rattle.otap_resend.specs.declared.unanswered.Unanswered.{Unanswered}
use Rattle.otap_resend.specs.Inside.{TakesMore, TakesNone, refusal_of}
use Rattle.otap_resend.specs.Resenders.{ResenderIn, HasState, TakesTurnOf, AfterRefusal, IsBroken, not_sent}
use Rattle.otap_resend.specs.States.{State, Call, Send, Answer, Reset, Resend, Outcome, Wrote, Refused, OutOfMemory, Done, GivenUp, Kept, Unknown, Nothing, Full, Pending, Broken, TooManyItems, TooHeavy, next, has_id, is_unwritten, without_first, with_first_written, without_id}
use Rattle.otap_resend.specs.Turns.{MayGive, Turn, HasRoom, IsReady, IsNextMessage, is_accepted, is_refused}
use Rattle.otap_resend.specs.Turns as turns

-- the layout of a message doesn't look at the payloads before it
laid_after_any : (before : List Table) (past others : List PayloadIn) (tables : List Table) (payloads : List PayloadIn)
    → AreLaidAfter before past tables payloads → AreLaidAfter before others tables payloads
laid_after_any before past others [] [] laid = tt
laid_after_any before past others [] (p ∷ ps) laid = absurd laid
laid_after_any before past others (t ∷ ts) [] laid = absurd laid
laid_after_any before past others (t ∷ ts) (p ∷ ps) laid =
    (laid.0, laid_after_any (before ++ t ∷ []) (past ++ p ∷ []) (others ++ p ∷ []) ts ps laid.1)

-- a refusal of the exporter changes at most the exporter
pub after_encode : (old : ResenderIn) (e : ExporterIn) (refusal : ProduceRefusal) → exporters.AfterRefusal refusal old.exporter e → e.signal ≡ old.exporter.signal
    → AfterRefusal (not_sent (refusal_of refusal)) old (record old { exporter = e })
after_encode old e produce.Broken is signal = ap (λ (x : ExporterIn). record old { exporter = x }) is
after_encode old e produce.TooManyItems is signal = ap (λ (x : ExporterIn). record old { exporter = x }) is
after_encode old e produce.TooHeavy is signal = ap (λ (x : ExporterIn). record old { exporter = x }) is
after_encode old e (produce.Memory error) is signal = record { broken = is.0; signal = signal; same = refl }

pub neither : (a b : Bool) → a ≡ false → b ≡ false → (a || b) ≡ false
neither false false left right = refl
neither false true left right = absurd (false≢true (sym right))
neither true b left right = absurd (false≢true (sym left))

module _ (rows : SignalRows) (old new : ResenderIn) where
  -- nothing changes
  stays : (call : Call) (outcome : Outcome) (s : State) → MayGive rows s call outcome → next s call outcome ≡ s → HasState rows s old → new ≡ old
      → (after : State) × Turn rows s call outcome after × HasState rows after new
  stays call outcome s may same has is = (s, record { may = may; follows = sym same }, subst (HasState rows s) (sym is) has)

  -- memory runs out
  breaks : (call : Call) (s : State) → MayGive rows s call OutOfMemory → next s call OutOfMemory ≡ record s { broken = true } → HasState rows s old → IsBroken old new
      → (after : State) × Turn rows s call OutOfMemory after × HasState rows after new
  breaks call s may same has is = (
    record s { broken = true },
    record { may = may; follows = sym same },
    record {
      signal = is.signal ∙ has.signal;
      window = ap (λ (r : ResenderIn). r.window) is.same ∙ has.window;
      unanswered = ap (λ (r : ResenderIn). r.unanswered) is.same ∙ has.unanswered;
      sent = ap (λ (r : ResenderIn). r.sent) is.same ∙ has.sent;
      broken = is.broken;
      exporter = λ sound. absurd (false≢true (sym sound));
    },
  )

  -- ---- sending

  room_in : (s : State) → HasState rows s old → HasRoom old.window old.unanswered → HasRoom s.window s.unanswered
  room_in s has room = rw (has.window, has.unanswered) at room

  ready_in : (s : State) → HasState rows s old → TakesMore old → IsReady s
  ready_in s has more = record { room = room_in s has more.room; sound = sym has.broken ∙ more.sound }

  pub takes_none : (q : Request) (why : SendRefusal) → TakesNone old why → new ≡ old → TakesTurnOf rows (Send q) (not_sent why) old new
  unfolding next
  takes_none q unsent.Full full is s has = stays (Send q) (Refused Full) s (turns.full q (rw (has.window, has.unanswered) at full)) refl has is
  takes_none q unsent.Pending pending is s has =
      stays (Send q) (Refused Pending) s (turns.pending q pending.1.0 (rw (has.window, has.unanswered) at pending.0) (rw has.unanswered at pending.1.1)) refl has is
  takes_none q unsent.Broken broken is s has = stays (Send q) (Refused Broken) s (turns.broken q (room_in s has broken.0) (sym has.broken ∙ broken.1)) refl has is
  takes_none q unsent.TooManyItems none is s has = absurd none
  takes_none q unsent.TooHeavy none is s has = absurd none
  takes_none q (unsent.Memory e) none is s has = absurd none

  pub not_exported : (q : Request) (refusal : ProduceRefusal) → TakesMore old → Refuses rows q old.exporter.broken refusal
      → AfterRefusal (not_sent (refusal_of refusal)) old new → TakesTurnOf rows (Send q) (not_sent (refusal_of refusal)) old new
  unfolding next
  not_exported q produce.Broken more refuses is s has = absurd (false≢true (sym more.sound ∙ refuses))
  not_exported q produce.TooManyItems more refuses is s has = stays (Send q) (Refused TooManyItems) s (turns.too_many_items q (ready_in s has more) refuses.1) refl has is
  not_exported q produce.TooHeavy more refuses is s has = stays (Send q) (Refused TooHeavy) s (turns.too_heavy q (ready_in s has more) refuses.1 refuses.2) refl has is
  not_exported q (produce.Memory e) more refuses is s has = breaks (Send q) s (turns.out_of_memory q (ready_in s has more) refuses.1) refl has is

  -- the exporter's message is the next one of the segment
  next_in : (s : State) (q : Request) (message : List ℕ) → HasState rows s old → Exports rows q old.exporter new.exporter message → IsNextMessage rows s.written q message
  next_in s q message has exports =
      let stood = has.exporter (sym has.broken ∙ exports.was_sound) in
      record {
        exported = exports.exported;
        id = exports.id ∙ ap pos stood.1.batches;
        short = exports.short;
        policy = λ messages allowed. exports.policy s.written stood.0 messages stood.1 allowed;
        laid = λ messages allowed.
            laid_after_any (flat_map rows.tables s.written) (flat_map payloads_in stood.0) (flat_map payloads_in messages)
            (rows.tables q) (payloads_in message) (exports.laid s.written stood.0 stood.1);
      }

  batches_in : (s : State) (q : Request) (message : List ℕ) → HasState rows s old → Exports rows q old.exporter new.exporter message → old.exporter.batches ≡ length s.written
  batches_in s q message has exports = let stood = has.exporter (sym has.broken ∙ exports.was_sound) in stood.1.batches

  pub sends : (q : Request) (message : List ℕ) → TakesMore old → Exports rows q old.exporter new.exporter message → new.window ≡ old.window → new.sent ≡ old.sent + 1
      → new.unanswered ≡ old.unanswered ++ record { number = old.sent; request = q; id = Some old.exporter.batches } ∷ [] → TakesTurnOf rows (Send q) (Wrote message) old new
  unfolding next
  sends q message more exports window sent unanswered s has =
      let stood = has.exporter (sym has.broken ∙ exports.was_sound) in (
        next s (Send q) (Wrote message),
        record { may = turns.sends q message (ready_in s has more) (next_in s q message has exports); follows = refl },
        record {
          signal = (exports.stands s.written stood.0 stood.1).same;
          window = window ∙ has.window;
          unanswered = rw (sym has.unanswered, sym has.sent, sym (batches_in s q message has exports)) unanswered;
          sent = sent ∙ ap (λ n. n + 1) has.sent;
          broken = exports.sound ∙ sym (sym has.broken ∙ exports.was_sound);
          exporter = λ sound. (stood.0 ++ message ∷ [], exports.stands s.written stood.0 stood.1);
        },
      )

  -- ---- answers

  pub unknown : (id code : ℤ) → find (has_id id) old.unanswered ≡ None → new ≡ old → TakesTurnOf rows (Answer id code) Unknown old new
  unfolding next
  unknown id code none is s has = stays (Answer id code) Unknown s (turns.unknown id code (rw has.unanswered at none)) refl has is

  pub kept : (id code : ℤ) (w : Unanswered) → find (has_id id) old.unanswered ≡ Some w → (is_accepted code || is_refused code) ≡ false → new ≡ old
      → TakesTurnOf rows (Answer id code) (Kept w.number) old new
  unfolding next
  kept id code w found other is s has = stays (Answer id code) (Kept w.number) s (turns.kept id code w (rw has.unanswered at found) other) refl has is

  -- a request leaves, and all else stays
  pub record Leaves (id : ℤ) : Type 0 where
    pub window : new.window ≡ old.window
    pub unanswered : new.unanswered ≡ without_first (has_id id) old.unanswered
    pub sent : new.sent ≡ old.sent
    pub exporter : new.exporter ≡ old.exporter

  leaves : (id : ℤ) (s after : State) → HasState rows s old → Leaves id → after.window ≡ s.window → after.unanswered ≡ without_first (has_id id) s.unanswered → after.sent ≡ s.sent
      → after.broken ≡ s.broken → after.written ≡ s.written → HasState rows after new
  leaves id s after has left window unanswered sent broken written = record {
    signal = ap (λ (e : ExporterIn). e.signal) left.exporter ∙ has.signal;
    window = left.window ∙ has.window ∙ sym window;
    unanswered = left.unanswered ∙ ap (without_first (has_id id)) has.unanswered ∙ sym unanswered;
    sent = left.sent ∙ has.sent ∙ sym sent;
    broken = ap (λ (e : ExporterIn). e.broken) left.exporter ∙ has.broken ∙ sym broken;
    exporter = λ sound. rw (left.exporter, written) (has.exporter (sym broken ∙ sound));
  }

  pub done : (id code : ℤ) (w : Unanswered) → find (has_id id) old.unanswered ≡ Some w → is_accepted code ≡ true → Leaves id → TakesTurnOf rows (Answer id code) (Done w.number) old new
  unfolding next
  done id code w found accepted left s has = (
    next s (Answer id code) (Done w.number),
    record { may = turns.done id code w (rw has.unanswered at found) accepted; follows = refl },
    leaves id s (next s (Answer id code) (Done w.number)) has left refl refl refl refl refl,
  )

  pub given_up : (id code : ℤ) (w : Unanswered) → find (has_id id) old.unanswered ≡ Some w → is_refused code ≡ true → Leaves id
      → TakesTurnOf rows (Answer id code) (GivenUp w.number w.request) old new
  unfolding next
  given_up id code w found refused left s has = (
    next s (Answer id code) (GivenUp w.number w.request),
    record { may = turns.given_up id code w (rw has.unanswered at found) refused; follows = refl },
    leaves id s (next s (Answer id code) (GivenUp w.number w.request)) has left refl refl refl refl refl,
  )

  -- ---- segments

  pub resets : new.window ≡ old.window → new.unanswered ≡ map without_id old.unanswered → new.sent ≡ old.sent → StandsFor rows [] [] new.exporter → TakesTurnOf rows Reset Nothing old new
  unfolding next
  resets window unanswered sent stands s has = (
    next s Reset Nothing,
    record { may = turns.resets; follows = refl },
    record {
      signal = stands.same;
      window = window ∙ has.window;
      unanswered = unanswered ∙ ap (map without_id) has.unanswered;
      sent = sent ∙ has.sent;
      broken = stands.sound;
      exporter = λ sound. ([], stands);
    },
  )

  pub resend_broken : old.exporter.broken ≡ true → new ≡ old → TakesTurnOf rows Resend (Refused Broken) old new
  unfolding next
  resend_broken broken is s has = stays Resend (Refused Broken) s (turns.resend_broken (sym has.broken ∙ broken)) refl has is

  pub all_written : old.exporter.broken ≡ false → find is_unwritten old.unanswered ≡ None → new ≡ old → TakesTurnOf rows Resend Nothing old new
  unfolding next
  all_written sound none is s has = stays Resend Nothing s (turns.all_written (sym has.broken ∙ sound) (rw has.unanswered at none)) refl has is

  pub resend_breaks : (w : Unanswered) → old.exporter.broken ≡ false → find is_unwritten old.unanswered ≡ Some w → IsBroken old new → TakesTurnOf rows Resend OutOfMemory old new
  unfolding next
  resend_breaks w sound found is s has = breaks Resend s (turns.resend_out_of_memory w (sym has.broken ∙ sound) (rw has.unanswered at found)) refl has is

  pub resends : (w : Unanswered) (message : List ℕ) → find is_unwritten old.unanswered ≡ Some w → Exports rows w.request old.exporter new.exporter message → new.window ≡ old.window
      → new.sent ≡ old.sent → new.unanswered ≡ with_first_written old.exporter.batches old.unanswered → TakesTurnOf rows Resend (Wrote message) old new
  unfolding next
  resends w message found exports window sent unanswered s has =
      let stood = has.exporter (sym has.broken ∙ exports.was_sound) in
      let here : find is_unwritten s.unanswered ≡ Some w = rw has.unanswered at found in (
        next s Resend (Wrote message),
        record {
          may = turns.resends w message (sym has.broken ∙ exports.was_sound) here (next_in s w.request message has exports);
          follows = refl;
        },
        record {
          signal = (exports.stands s.written stood.0 stood.1).same;
          window = window ∙ has.window;
          unanswered = rw (sym has.unanswered, sym (batches_in s w.request message has exports)) unanswered;
          sent = sent ∙ has.sent;
          broken = exports.sound ∙ sym (sym has.broken ∙ exports.was_sound);
          exporter = λ sound. (stood.0 ++ message ∷ [], rw here (exports.stands s.written stood.0 stood.1));
        },
      )
