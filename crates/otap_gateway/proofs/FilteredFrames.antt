-- What one frame makes of a filter, and what is replied to it.
use Rattle.std.proofs.Common.{◌≡◌, ℕ, ◌<◌, ◌≤◌, List, [], ◌∷◌, ◌++◌, length, length-append, refl, sym, ap, ◌∙◌, subst, arith}
use Rattle.std.specs.List.{flat_map}
use Rattle.lists.specs.Since.{since}
use Rattle.lists.proofs.Growing.{each_after-length}
use Rattle.otlp_model.specs.declared.value.Pair.{Pair}
use Rattle.otap_capture.specs.Capture.{Frame, capture_limit}
use Rattle.otap_consume.specs.Outcomes.{Outcome}
use Rattle.otap_consume.specs.Outcomes as outcomes
use Rattle.otap_kept.specs.declared.whose.Whose.{Whose}
use Rattle.otap_kept.specs.Texts.{text_under}
use Rattle.otap_produce.specs.Limits.{batch_limit}
use Rattle.otap_filter.specs.Filtering.{Answer, Answers, Batch, FiltersAfter, FrameResult, Refused, Reset, Unordered, is_reset, message_if, messages_sent}
use Rattle.otap_filter.specs.Filters.{FilterIn, Filters, HasFiltered, HasPairs, StandsFor}
use Rattle.otlp_model.specs.declared.request.Signal.{Signal}
use Rattle.otap_gateway.specs.declared.jobs.owner.Owner.{Owner}
use Rattle.otap_gateway.specs.declared.jobs.owner.Owner.TheVariants as owners
use Rattle.otap_gateway.specs.EncodingSteps.{HasMore}
use Rattle.otap_gateway.specs.Filtering.{answer_text, filtered_text}
use Rattle.otap_gateway.specs.FilteringSteps.{HasFilteredSo, HasShortMessage, pair_sought, text_in}
use Rattle.otap_gateway.specs.Jobs.{HasHistory}
use Rattle.otap_gateway.specs.JobStates.{HasRepliedBy}
use Rattle.otap_gateway.specs.Owners.{signal_of, whose_of}
use Rattle.otap_gateway.specs.Replies.{Gave, IsReplyAfter}
use Rattle.otap_gateway.specs.Reply.{ReplyText}
use Rattle.otap_gateway.proofs.Replying.{is_reply_more}
use Rattle.otap_gateway.proofs.SentSoFar.{since_short}

-- what an owner names has pairs
pub has_pairs : (owner : Owner) → HasPairs (signal_of owner) (whose_of owner)
has_pairs owners.Span = tt
has_pairs owners.SpanResource = tt
has_pairs owners.LogRecord = tt
has_pairs owners.LogResource = tt
has_pairs owners.MetricResource = tt

-- ---- no more messages than frames

one_message : (a : Answer) → length (message_if a) ≤ 1
one_message (Batch id message) = omega arith
one_message (Unordered id) = omega arith
one_message (Refused refusal) = omega arith
one_message Reset = omega arith

messages_short : (given : List FrameResult) → length (flat_map (λ g. message_if g.answer) given) ≤ length given
messages_short [] = omega arith
messages_short (g ∷ given) =
    omega (arith, one_message g.answer, messages_short given, length-append (message_if g.answer) (flat_map (λ g. message_if g.answer) given))

few_messages : (given : List FrameResult) → length (messages_sent given) ≤ length given
unfolding messages_sent
few_messages given = omega (arith, messages_short (since is_reset given), since_short is_reset given)

module _ (owner : Owner) where
  abbrev of : Signal
  of = signal_of owner

  abbrev whose : Whose
  whose = whose_of owner

  pub few_batches : (f : FilterIn) (number : ℕ) → HasHistory (HasFilteredSo owner f) number → number < capture_limit → f.batches < batch_limit
  few_batches f number h few =
      let given : List FrameResult = h.stood.outcomes in
      let long : length h.frames ≡ length given = each_after-length (λ past before frame g. FiltersAfter of whose (pair_sought f) before frame g) [] [] h.frames given h.stood.before in
      omega (arith, long, few_messages given, h.stood.stood.batches, h.count, few)

  -- ---- a message that is answered fits into a frame

  short_answer : (pair : Pair) (given : List FrameResult) (outcome : Outcome) (answer : Answer) → Answers of whose pair given outcome answer
      → HasShortMessage answer
  short_answer pair given (outcomes.Accepted batch tables) (Batch id message) answers = answers.1.message_of.short
  short_answer pair given (outcomes.Refused refusal) (Batch id message) answers = absurd answers
  short_answer pair given outcomes.Reset (Batch id message) answers = absurd answers
  short_answer pair given outcome (Unordered id) answers = tt
  short_answer pair given outcome (Refused refusal) answers = tt
  short_answer pair given outcome Reset answers = tt

  pub short_message : (old new : FilterIn) (frame : Frame) (answer : Answer) (number : ℕ) → HasHistory (HasFilteredSo owner old) number → Filters old frame new answer → HasShortMessage answer
  short_message old new frame answer number h filters =
      let f : HasFiltered of whose (pair_sought old) h.stood.outcomes frame new answer = filters.at of whose (pair_sought old) h.stood.outcomes h.stood.stood in
      subst HasShortMessage f.answers (short_answer (pair_sought old) h.stood.outcomes f.gives.outcome f.gives.answer f.leads.gives.answers)

  -- ---- what is replied

  pub filter_replies : (old new : FilterIn) (frame : Frame) (answer : Answer) (number : ℕ) → Filters old frame new answer → new.pair ≡ old.pair
      → (reply : ReplyText) → reply ≡ answer_text number answer → (frames : List Frame) (replies : List ReplyText) → length frames ≡ number → HasFilteredSo owner old frames replies
      → IsReplyAfter (FiltersAfter of whose (pair_sought old)) filtered_text frames replies frame reply × HasFilteredSo owner new (frames ++ frame ∷ []) (replies ++ reply ∷ [])
  filter_replies old new frame answer number filters same reply says frames replies count history = (both.0, later)
    where
      pair : Pair
      pair = pair_sought old

      step : (past : List Frame) (given : List FrameResult) → Gave (FiltersAfter of whose pair) past given → StandsFor of whose pair given old
          → HasMore (FiltersAfter of whose pair) filtered_text (λ given. StandsFor of whose pair given new) given frame number reply
      step past given before stands =
          let f : HasFiltered of whose pair given frame new answer = filters.at of whose pair given stands in
          record { outcome = f.gives; gives = f.leads.gives; says = says ∙ ap (answer_text number) (sym f.answers); stands = f.leads.stands }

      both : IsReplyAfter (FiltersAfter of whose pair) filtered_text frames replies frame reply
          × HasRepliedBy (FiltersAfter of whose pair) filtered_text (λ given. StandsFor of whose pair given new) (frames ++ frame ∷ []) (replies ++ reply ∷ [])
      both =
          is_reply_more (FiltersAfter of whose pair) filtered_text (λ given. StandsFor of whose pair given old) (λ given. StandsFor of whose pair given new) frame number reply step
          frames replies count history

      later : HasFilteredSo owner new (frames ++ frame ∷ []) (replies ++ reply ∷ [])
      later =
          subst (λ (p : Pair). HasRepliedBy (FiltersAfter of whose p) filtered_text (λ given. StandsFor of whose p given new) (frames ++ frame ∷ []) (replies ++ reply ∷ []))
          (ap (λ (p : Pair). text_under p.key (text_in p.value)) (sym same)) both.1

  -- a filter that has taken no frame
  pub filtered_none : (key text : List ℕ) (f : FilterIn) → StandsFor of whose (text_under key text) [] f → HasFilteredSo owner f [] []
  filtered_none key text f new =
      let same : text_under key text ≡ pair_sought f = ap (λ (p : Pair). text_under p.key (text_in p.value)) (sym new.pair) in
      record { outcomes = []; before = tt; so_far = refl; stood = subst (λ (p : Pair). StandsFor of whose p [] f) same new }
