-- Each list of words is that of a job, or of none.
use Rattle.std.proofs.Common.{◌≡◌, ◌⊎◌, inl, inr, ℕ, ◌<◌, ◌≤◌, true, false, List, [], ◌∷◌, length, get_or, map, refl, sym, ap, ◌∙◌, arith}
use Rattle.std.proofs.lemmas.Bool.{cases_Bool, false≢true}
use Rattle.std.proofs.lemmas.Slice.Eq.{bytes_eq-Decides, slice_eq-Decides}
use Rattle.std.specs.Bool.{Decides}
use Rattle.std.specs.Str.{bytes_eq}
use lib.Pointwise.{pointwise}
use Rattle.otlp_model.specs.declared.request.Signal.{Signal}
use Rattle.otlp_model.specs.declared.request.Signal.TheVariants.{Traces, Logs, Metrics}
use Rattle.otap_gateway.specs.declared.jobs.command.Command.{Command}
use Rattle.otap_gateway.specs.declared.jobs.command.Command.TheVariants as command
use Rattle.otap_gateway.specs.declared.jobs.command.ReceiverText.TheVariants as texts
use Rattle.otap_gateway.specs.declared.jobs.owner.Owner.{Owner}
use Rattle.otap_gateway.specs.declared.jobs.owner.Owner.TheVariants as owners
use Rattle.otap_gateway.specs.Commands.{IsNoCommand, words_of}

-- the words are those of this job
abbrev Names : List (List ℕ) → Command → Type 0
Names words job = words ≡ words_of job

abbrev NamesNot : List (List ℕ) → Command → Type 0
NamesNot words job = words ≡ words_of job → ⊥

pub same_words : (words others : List (List ℕ)) → (words ≡ others) ⊎ (words ≡ others → ⊥)
same_words words others = by_test (cases_Bool (pointwise bytes_eq words others))
  where
    decides : Decides (pointwise bytes_eq words others) (words ≡ others)
    decides = slice_eq-Decides bytes_eq-Decides words others (pointwise bytes_eq words others) refl

    by_test : (pointwise bytes_eq words others ≡ true) ⊎ (pointwise bytes_eq words others ≡ false) → (words ≡ others) ⊎ (words ≡ others → ⊥)
    by_test (inl same) = inl (decides.0 same)
    by_test (inr other) = inr (λ same. false≢true (sym other ∙ decides.1 same))

names : (words : List (List ℕ)) (job : Command) → Names words job ⊎ NamesNot words job
names words job = same_words words (words_of job)

-- the words are those of none of the jobs of a word and a signal
abbrev NoneOf : List (List ℕ) → (Signal → Command) → Type 0
NoneOf words job = (signal : Signal) → NamesNot words (job signal)

-- one of the jobs of a word and a signal, or none of them
abbrev OneOf : List (List ℕ) → (Signal → Command) → Type 0
OneOf words job = ((signal : Signal) × Names words (job signal)) ⊎ NoneOf words job

of_signal : (words : List (List ℕ)) (job : Signal → Command) → OneOf words job
of_signal words job = by_signal (names words (job Traces)) (names words (job Logs)) (names words (job Metrics))
  where
    none : NamesNot words (job Traces) → NamesNot words (job Logs) → NamesNot words (job Metrics) → NoneOf words job
    none traces logs metrics Traces = traces
    none traces logs metrics Logs = logs
    none traces logs metrics Metrics = metrics

    by_signal : Names words (job Traces) ⊎ NamesNot words (job Traces) → Names words (job Logs) ⊎ NamesNot words (job Logs) → Names words (job Metrics) ⊎ NamesNot words (job Metrics)
        → OneOf words job
    by_signal (inl traces) logs metrics = inl (Traces, traces)
    by_signal (inr no_traces) (inl logs) metrics = inl (Logs, logs)
    by_signal (inr no_traces) (inr no_logs) (inl metrics) = inl (Metrics, metrics)
    by_signal (inr no_traces) (inr no_logs) (inr no_metrics) = inr (none no_traces no_logs no_metrics)

-- ---- the words of `filter`

-- five words, by their indexes
pub five_words : {X : Type 0} (f : X → List ℕ) (ws : List X) (a b c d e : X) → 5 ≤ length ws → length ws < 6 → a ≡ get_or ws 0 a → b ≡ get_or ws 1 b → c ≡ get_or ws 2 c → d ≡ get_or ws 3 d
    → e ≡ get_or ws 4 e → map f ws ≡ f a ∷ f b ∷ f c ∷ f d ∷ f e ∷ []
five_words f [] a b c d e many few first second third fourth fifth = absurd (omega (arith, many))
five_words f (v ∷ []) a b c d e many few first second third fourth fifth = absurd (omega (arith, many))
five_words f (v ∷ w ∷ []) a b c d e many few first second third fourth fifth = absurd (omega (arith, many))
five_words f (v ∷ w ∷ x ∷ []) a b c d e many few first second third fourth fifth = absurd (omega (arith, many))
five_words f (v ∷ w ∷ x ∷ y ∷ []) a b c d e many few first second third fourth fifth = absurd (omega (arith, many))
five_words f (v ∷ w ∷ x ∷ y ∷ z ∷ []) a b c d e many few first second third fourth fifth =
    λ i. f (sym first i) ∷ f (sym second i) ∷ f (sym third i) ∷ f (sym fourth i) ∷ f (sym fifth i) ∷ []
five_words f (v ∷ w ∷ x ∷ y ∷ z ∷ u ∷ ws) a b c d e many few first second third fourth fifth = absurd (omega (arith, few))

-- its last two words, whatever the words are
abbrev key_in : List (List ℕ) → List ℕ
key_in (job ∷ signal ∷ whose ∷ key ∷ rest) = key
key_in words = []

abbrev last_in : List (List ℕ) → List ℕ
last_in (job ∷ signal ∷ whose ∷ key ∷ text ∷ rest) = text
last_in words = []

-- the words are those of a filter, or of none
abbrev OfFilter : List (List ℕ) → Type 0
OfFilter words = (owner : Owner) × (key : List ℕ) × (text : List ℕ) × Names words (command.Filter owner key text)

abbrev NoFilter : List (List ℕ) → Type 0
NoFilter words = (owner : Owner) (key text : List ℕ) → NamesNot words (command.Filter owner key text)

module _ (words : List (List ℕ)) where
  abbrev filter_by : Owner → Command
  filter_by owner = command.Filter owner (key_in words) (last_in words)

  found : (owner : Owner) → Names words (filter_by owner) → OfFilter words
  found owner names = (owner, key_in words, last_in words, names)

  -- the last two words of a filter are those that are there
  none_at : (owner : Owner) → NamesNot words (filter_by owner) → (key text : List ℕ) → NamesNot words (command.Filter owner key text)
  none_at owner none key text names = none (names ∙ (λ i. words_of (command.Filter owner (ap key_in (sym names) i) (ap last_in (sym names) i))))

  no_filter : NamesNot words (filter_by owners.Span) → NamesNot words (filter_by owners.SpanResource) → NamesNot words (filter_by owners.LogRecord)
      → NamesNot words (filter_by owners.LogResource) → NamesNot words (filter_by owners.MetricResource) → NoFilter words
  no_filter span span_resource log_record log_resource metric_resource owners.Span = none_at owners.Span span
  no_filter span span_resource log_record log_resource metric_resource owners.SpanResource = none_at owners.SpanResource span_resource
  no_filter span span_resource log_record log_resource metric_resource owners.LogRecord = none_at owners.LogRecord log_record
  no_filter span span_resource log_record log_resource metric_resource owners.LogResource = none_at owners.LogResource log_resource
  no_filter span span_resource log_record log_resource metric_resource owners.MetricResource = none_at owners.MetricResource metric_resource

  of_filter : OfFilter words ⊎ NoFilter words
  of_filter = by (here owners.Span) (here owners.SpanResource) (here owners.LogRecord) (here owners.LogResource) (here owners.MetricResource)
    where
      here : (owner : Owner) → Names words (filter_by owner) ⊎ NamesNot words (filter_by owner)
      here owner = names words (filter_by owner)

      by : Names words (filter_by owners.Span) ⊎ NamesNot words (filter_by owners.Span)
          → Names words (filter_by owners.SpanResource) ⊎ NamesNot words (filter_by owners.SpanResource)
          → Names words (filter_by owners.LogRecord) ⊎ NamesNot words (filter_by owners.LogRecord)
          → Names words (filter_by owners.LogResource) ⊎ NamesNot words (filter_by owners.LogResource)
          → Names words (filter_by owners.MetricResource) ⊎ NamesNot words (filter_by owners.MetricResource) → OfFilter words ⊎ NoFilter words
      by (inl span) span_resource log_record log_resource metric_resource = inl (found owners.Span span)
      by (inr no_span) (inl span_resource) log_record log_resource metric_resource = inl (found owners.SpanResource span_resource)
      by (inr no_span) (inr no_span_resource) (inl log_record) log_resource metric_resource = inl (found owners.LogRecord log_record)
      by (inr no_span) (inr no_span_resource) (inr no_record) (inl log_resource) metric_resource = inl (found owners.LogResource log_resource)
      by (inr no_span) (inr no_span_resource) (inr no_record) (inr no_log_resource) (inl metric_resource) = inl (found owners.MetricResource metric_resource)
      by (inr no_span) (inr no_span_resource) (inr no_record) (inr no_log_resource) (inr no_metric_resource)
          = inr (no_filter no_span no_span_resource no_record no_log_resource no_metric_resource)

-- ---- all jobs

pub each_words : (words : List (List ℕ)) → ((job : Command) × (words ≡ words_of job)) ⊎ IsNoCommand words
each_words words = by_job (names words command.List) (of_signal words command.Tidy) (of_signal words command.Encode) (of_signal words command.Schema) (of_signal words command.Show)
    (of_signal words (command.Receive texts.Decode)) (of_signal words (command.Receive texts.Status)) (of_signal words (command.Receive texts.Replay)) (of_filter words)
  where
    none : NamesNot words command.List → NoneOf words command.Tidy → NoneOf words command.Encode → NoneOf words command.Schema → NoneOf words command.Show
        → NoneOf words (command.Receive texts.Decode) → NoneOf words (command.Receive texts.Status) → NoneOf words (command.Receive texts.Replay) → NoFilter words → IsNoCommand words
    none list tidy encode schema show decode status replay filter command.List = list
    none list tidy encode schema show decode status replay filter (command.Tidy signal) = tidy signal
    none list tidy encode schema show decode status replay filter (command.Encode signal) = encode signal
    none list tidy encode schema show decode status replay filter (command.Schema signal) = schema signal
    none list tidy encode schema show decode status replay filter (command.Show signal) = show signal
    none list tidy encode schema show decode status replay filter (command.Receive texts.Decode signal) = decode signal
    none list tidy encode schema show decode status replay filter (command.Receive texts.Status signal) = status signal
    none list tidy encode schema show decode status replay filter (command.Receive texts.Replay signal) = replay signal
    none list tidy encode schema show decode status replay filter (command.Filter owner key text) = filter owner key text

    by_job : Names words command.List ⊎ NamesNot words command.List → OneOf words command.Tidy → OneOf words command.Encode → OneOf words command.Schema → OneOf words command.Show
        → OneOf words (command.Receive texts.Decode) → OneOf words (command.Receive texts.Status) → OneOf words (command.Receive texts.Replay) → OfFilter words ⊎ NoFilter words
        → ((job : Command) × (words ≡ words_of job)) ⊎ IsNoCommand words
    by_job (inl list) tidy encode schema show decode status replay filter = inl (command.List, list)
    by_job (inr no_list) (inl tidy) encode schema show decode status replay filter = inl (command.Tidy tidy.0, tidy.1)
    by_job (inr no_list) (inr no_tidy) (inl encode) schema show decode status replay filter = inl (command.Encode encode.0, encode.1)
    by_job (inr no_list) (inr no_tidy) (inr no_encode) (inl schema) show decode status replay filter = inl (command.Schema schema.0, schema.1)
    by_job (inr no_list) (inr no_tidy) (inr no_encode) (inr no_schema) (inl show) decode status replay filter = inl (command.Show show.0, show.1)
    by_job (inr no_list) (inr no_tidy) (inr no_encode) (inr no_schema) (inr no_show) (inl decode) status replay filter = inl (command.Receive texts.Decode decode.0, decode.1)
    by_job (inr no_list) (inr no_tidy) (inr no_encode) (inr no_schema) (inr no_show) (inr no_decode) (inl status) replay filter = inl (command.Receive texts.Status status.0, status.1)
    by_job (inr no_list) (inr no_tidy) (inr no_encode) (inr no_schema) (inr no_show) (inr no_decode) (inr no_status) (inl replay) filter
        = inl (command.Receive texts.Replay replay.0, replay.1)
    by_job (inr no_list) (inr no_tidy) (inr no_encode) (inr no_schema) (inr no_show) (inr no_decode) (inr no_status) (inr no_replay) (inl filter)
        = inl (command.Filter filter.0 filter.1 filter.2, filter.3)
    by_job (inr no_list) (inr no_tidy) (inr no_encode) (inr no_schema) (inr no_show) (inr no_decode) (inr no_status) (inr no_replay) (inr no_filter)
        = inr (none no_list no_tidy no_encode no_schema no_show no_decode no_status no_replay no_filter)
