-- One list of outcomes gives the replies of a job, and each list of replies is given by one.
use Rattle.std.proofs.Common.{◌≡◌, ℕ, suc, ◌+◌, List, [], ◌∷◌, ◌++◌, length, refl, sym, ap, ◌∙◌, subst, zero-add, arith}
use Rattle.std.specs.Prelude.{codes, ◌≤◌, ℤ, Option, All}
use Rattle.std.specs.List.{AllByRecursion}
use Rattle.std.proofs.lemmas.List.Elements.{recursion_from_All}
use Rattle.std.proofs.lemmas.List.{length-append}
use Rattle.lists.specs.EachAfter.{EachAfter}
use Rattle.lists.proofs.Growing.{each_after-push, each_after-keeps, each_after-length}
use Rattle.otap_capture.specs.Capture.{Frame}
use Rattle.otap_consume.specs.declared.refusal.Refusal.{Refusal}
use Rattle.otap_cells.specs.Tables.{Table}
use Rattle.otap_consume.specs.declared.refusal.Cause.{Cause}
use Rattle.otap_consume.specs.declared.refusal.Cause.TheVariants.{Compressed, BadMessage, Repeated, BadUtf8, PayloadType, PayloadTwice, SchemaIdTaken}
use Rattle.otap_consume.specs.declared.refusal.Cause.TheVariants.{Column, TooManyItems, RowsTooHeavy, HeldTooMuch, Row, TreeTooHeavy, Broken}
use Rattle.otap_signals.specs.Meanings.{Meaning}
use Rattle.otap_consume.specs.LateStages.{IsDefectOfRows}
use Rattle.otap_consume.specs.Outcomes.{Outcome, Outcomes, OutcomeAfter, stage_of}
use Rattle.otap_consume.specs.Receiving.{ReceivedAfter, Received, Settles}
use Rattle.otlp_model.specs.declared.request.Signal.{Signal}
use Rattle.otap_kept.specs.Texts.{text_under}
use Rattle.otap_filter.specs.Filtering.{AreFiltered, FiltersAfter, FrameResult}
use Rattle.otap_gateway.specs.declared.jobs.command.Command.TheVariants as command
use Rattle.otap_gateway.specs.declared.jobs.owner.Owner.{Owner}
use Rattle.otap_gateway.specs.Filtering.{filtered_text}
use Rattle.otap_gateway.specs.Owners.{signal_of, whose_of}
use Rattle.otap_gateway.specs.declared.jobs.command.ReceiverText.{ReceiverText}
use Rattle.otap_gateway.specs.Commands.{ReplyOf}
use Rattle.otap_signals.specs.BySignal.{rows_by, meaning_by}
use Rattle.otap_gateway.specs.Encoding.{Encoded, Encodes, encoded}
use Rattle.otap_gateway.specs.Lines.{batch_head, or_dash, line_feed}
use Rattle.otap_gateway.specs.Receptions.{as_taken, refusal_line, refusal_status, text_of}
use Rattle.otap_gateway.specs.Reply.{ReplyText}
use Rattle.otap_gateway.specs.Showing.{shown}
use Rattle.otap_gateway.specs.Texts.{HaveTexts, IsEarly}
use Rattle.otap_gateway.specs.Replies.{Giving, Gave, replies_from, IsReplyAfter}
use Rattle.otap_gateway.proofs.Replying.{replies_from_more}

module _ {O : Type 0} (Gives : Giving O) (text : ℕ → O → ReplyText) where
  -- the replies that outcomes give, after frames that gave others
  from : (ps : List Frame) (qs : List O) (xs : List Frame) (ys : List O) → Gave Gives ps qs → EachAfter (λ past before frame outcome. Gives before frame outcome) ps qs xs ys
      → EachAfter (IsReplyAfter Gives text) ps (replies_from text 0 qs) xs (replies_from text (length qs) ys)
  from ps qs [] [] before each = tt
  from ps qs [] (y ∷ ys) before each = absurd each
  from ps qs (x ∷ xs) [] before each = absurd each
  from ps qs (x ∷ xs) (y ∷ ys) before each =
      let long : length qs ≡ length ps = sym (each_after-length (λ past before frame outcome. Gives before frame outcome) [] [] ps qs before) in
      let more : replies_from text 0 (qs ++ y ∷ []) ≡ replies_from text 0 qs ++ text (length qs) y ∷ []
      = replies_from_more text 0 qs y ∙ ap (λ k. replies_from text 0 qs ++ text k y ∷ []) (zero-add (length qs)) in
      let size : length (qs ++ y ∷ []) ≡ suc (length qs) = let n = length-append qs (y ∷ []) in omega (arith, n) in
      let rest : EachAfter (IsReplyAfter Gives text) (ps ++ x ∷ []) (replies_from text 0 (qs ++ y ∷ [])) xs (replies_from text (length (qs ++ y ∷ [])) ys)
      = from (ps ++ x ∷ []) (qs ++ y ∷ []) xs ys
      (each_after-push (λ past before frame outcome. Gives before frame outcome) [] [] ps qs x y before each.0) each.1 in (
        record { outcomes = qs; before = before; so_far = refl; outcome = y; gives = each.0; says = ap (λ k. text k y) long },
        subst (λ (k : ℕ). EachAfter (IsReplyAfter Gives text) (ps ++ x ∷ []) (replies_from text 0 qs ++ text (length qs) y ∷ []) xs (replies_from text k ys)) size
            (subst (λ (rs : List ReplyText). EachAfter (IsReplyAfter Gives text) (ps ++ x ∷ []) rs xs (replies_from text (length (qs ++ y ∷ [])) ys)) more rest),
      )

  pub given : (frames : List Frame) (outcomes : List O) → Gave Gives frames outcomes → EachAfter (IsReplyAfter Gives text) [] [] frames (replies_from text 0 outcomes)
  given frames outcomes each = from [] [] frames outcomes tt each

  abbrev pub GivenBy : List Frame → List ReplyText → Type 0
  GivenBy frames replies = (outcomes : List O) × Gave Gives frames outcomes × (replies ≡ replies_from text 0 outcomes)

  one_more : (frames : List Frame) (replies : List ReplyText) (frame : Frame) (reply : ReplyText) → IsReplyAfter Gives text frames replies frame reply → GivenBy (frames ++ frame ∷ []) (replies ++ reply ∷ [])
  one_more frames replies frame reply t =
      let long : length frames ≡ 0 + length t.outcomes
      = each_after-length (λ past before f o. Gives before f o) [] [] frames t.outcomes t.before ∙ sym (zero-add (length t.outcomes)) in
      let last : reply ≡ text (0 + length t.outcomes) t.outcome = t.says ∙ ap (λ k. text k t.outcome) long in (
        t.outcomes ++ t.outcome ∷ [],
        each_after-push (λ past before f o. Gives before f o) [] [] frames t.outcomes frame t.outcome t.before t.gives,
        (λ i. t.so_far i ++ last i ∷ []) ∙ sym (replies_from_more text 0 t.outcomes t.outcome),
      )

  pub gives_back : (frames : List Frame) (replies : List ReplyText) → EachAfter (IsReplyAfter Gives text) [] [] frames replies → GivenBy frames replies
  gives_back frames replies each =
      each_after-keeps (IsReplyAfter Gives text) GivenBy (λ xs ys x y before t. one_more xs ys x y t) [] [] frames replies ([], tt, refl) each

-- ---- the jobs

pub receive_given : (text : ReceiverText) (signal : Signal) (frames : List Frame) (outcomes : List Outcome) → Received (meaning_by signal) frames outcomes
    → EachAfter (ReplyOf (command.Receive text signal)) [] [] frames (replies_from (as_taken (meaning_by signal) (text_of text)) 0 outcomes)
unfolding ReplyOf
receive_given text signal = given (ReceivedAfter (meaning_by signal)) (as_taken (meaning_by signal) (text_of text))

-- ---- show

pub show_given : (signal : Signal) (frames : List Frame) (outcomes : List Outcome) → Outcomes signal frames outcomes
    → EachAfter (ReplyOf (command.Show signal)) [] [] frames (replies_from shown 0 outcomes)
unfolding ReplyOf
show_given signal = given (OutcomeAfter signal) shown

-- what is wrong with rows isn't in an early stage
not_early : (m : Meaning) (tables : List Table) (cause : Cause) (payload : Option ℤ) → IsDefectOfRows m tables cause payload → stage_of cause ≤ 4 → ⊥
not_early m tables Compressed payload stands early = stands
not_early m tables BadMessage payload stands early = stands
not_early m tables Repeated payload stands early = stands
not_early m tables BadUtf8 payload stands early = stands
not_early m tables PayloadType payload stands early = stands
not_early m tables PayloadTwice payload stands early = stands
not_early m tables SchemaIdTaken payload stands early = stands
not_early m tables (Column refusal) payload stands early = stands
not_early m tables TooManyItems payload stands early = stands
not_early m tables RowsTooHeavy payload stands early = stands
not_early m tables HeldTooMuch payload stands early = stands
not_early m tables (Row why) payload stands early = let late : 5 ≤ 4 = early in omega arith
not_early m tables TreeTooHeavy payload stands early = let late : 6 ≤ 4 = early in omega arith
not_early m tables Broken payload stands early = stands

-- where no later stage refuses a frame, it gives a segment what it gives a receiver
seen_alike : (m : Meaning) (outcomes : List Outcome) (frame : Frame) (seen outcome : Outcome) → OutcomeAfter m.signal outcomes frame seen → Settles m seen outcome → IsEarly outcome
    → OutcomeAfter m.signal outcomes frame outcome
seen_alike m outcomes frame seen outcome gives (Settles.accepted batch tables fine) early = gives
seen_alike m outcomes frame seen outcome gives (Settles.refuses batch tables cause payload stands) early = absurd (not_early m tables cause payload stands early)
seen_alike m outcomes frame seen outcome gives (Settles.stays_refused refusal) early = gives
seen_alike m outcomes frame seen outcome gives Settles.resets early = gives

all_alike : (m : Meaning) (past : List Frame) (before : List Outcome) (frames : List Frame) (outcomes : List Outcome) → AllByRecursion IsEarly outcomes
    → EachAfter (λ past before frame outcome. ReceivedAfter m before frame outcome) past before frames outcomes
    → EachAfter (λ past before frame outcome. OutcomeAfter m.signal before frame outcome) past before frames outcomes
all_alike m past before [] [] early each = tt
all_alike m past before [] (o ∷ outcomes) early each = absurd each
all_alike m past before (f ∷ frames) [] early each = absurd each
all_alike m past before (f ∷ frames) (o ∷ outcomes) early each = (
  seen_alike m before f each.0.seen o each.0.gives each.0.settles early.0,
  all_alike m (past ++ f ∷ []) (before ++ o ∷ []) frames outcomes early.1 each.1,
)

pub show_alike : (signal : Signal) (frames : List Frame) (outcomes : List Outcome) → Received (meaning_by signal) frames outcomes → All IsEarly outcomes
    → EachAfter (ReplyOf (command.Show signal)) [] [] frames (replies_from shown 0 outcomes)
show_alike signal frames outcomes received early =
    show_given signal frames outcomes (all_alike (meaning_by signal) [] [] frames outcomes (recursion_from_All IsEarly outcomes early) received)

-- each frame gives a segment something, and so do all
abbrev pub SomeOutcome : Type 0
SomeOutcome = (signal : Signal) (frames : List Frame) (outcomes : List Outcome) (frame : Frame) → Outcomes signal frames outcomes → (outcome : Outcome) × OutcomeAfter signal outcomes frame outcome

seen_from : SomeOutcome → (signal : Signal) (past : List Frame) (before : List Outcome) → Outcomes signal past before → (frames : List Frame)
    → (outcomes : List Outcome) × EachAfter (λ past before frame outcome. OutcomeAfter signal before frame outcome) past before frames outcomes
seen_from some signal past before gave [] = ([], tt)
seen_from some signal past before gave (f ∷ frames) =
    let o : (outcome : Outcome) × OutcomeAfter signal before f outcome = some signal past before f gave in
    let rest =
    seen_from some signal (past ++ f ∷ []) (before ++ o.0 ∷ [])
    (each_after-push (λ past before frame outcome. OutcomeAfter signal before frame outcome) [] [] past before f o.0 gave o.1) frames in
    (o.0 ∷ rest.0, (o.1, rest.1))

-- ---- a capture

pub all_given : SomeOutcome → (signal : Signal) (frames : List Frame) → (outcomes : List Outcome) × Received (meaning_by signal) frames outcomes → HaveTexts signal frames
all_given each signal frames some =
    let seen = seen_from each signal [] [] tt frames in
    record {
      outcomes = some.0;
      received = some.1;
      receive = λ text. receive_given text signal frames some.0 some.1;
      show_alike = show_alike signal frames some.0 some.1;
      seen = seen.0;
      given = seen.1;
      show = show_given signal frames seen.0 seen.1;
    }

-- ---- and back

pub show_back : (signal : Signal) (frames : List Frame) (replies : List ReplyText) → EachAfter (ReplyOf (command.Show signal)) [] [] frames replies
    → (outcomes : List Outcome) × Outcomes signal frames outcomes × (replies ≡ replies_from shown 0 outcomes)
unfolding ReplyOf
show_back signal = gives_back (OutcomeAfter signal) shown

pub receive_back : (text : ReceiverText) (signal : Signal) (frames : List Frame) (replies : List ReplyText) → EachAfter (ReplyOf (command.Receive text signal)) [] [] frames replies
    → (outcomes : List Outcome) × Received (meaning_by signal) frames outcomes × (replies ≡ replies_from (as_taken (meaning_by signal) (text_of text)) 0 outcomes)
unfolding ReplyOf
receive_back text signal = gives_back (ReceivedAfter (meaning_by signal)) (as_taken (meaning_by signal) (text_of text))

pub encode_back : (signal : Signal) (frames : List Frame) (replies : List ReplyText) → EachAfter (ReplyOf (command.Encode signal)) [] [] frames replies
    → (outcomes : List Encoded) × Gave (Encodes (rows_by signal) (meaning_by signal)) frames outcomes × (replies ≡ replies_from encoded 0 outcomes)
unfolding ReplyOf
encode_back signal = gives_back (Encodes (rows_by signal) (meaning_by signal)) encoded

pub filter_back : (owner : Owner) (key text : List ℕ) (frames : List Frame) (replies : List ReplyText) → EachAfter (ReplyOf (command.Filter owner key text)) [] [] frames replies
    → (given : List FrameResult) × AreFiltered (signal_of owner) (whose_of owner) (text_under key text) frames given × (replies ≡ replies_from filtered_text 0 given)
unfolding ReplyOf
filter_back owner key text = gives_back (FiltersAfter (signal_of owner) (whose_of owner) (text_under key text)) filtered_text

-- the message of a status is what the line says from its stage on
pub from_the_stage_on : (number : ℕ) (refusal : Refusal) → refusal_line number refusal ≡ batch_head number (or_dash refusal.id) ++ (codes " refused: " ++ ((refusal_status refusal).message ++ line_feed))
from_the_stage_on number refusal = refl
