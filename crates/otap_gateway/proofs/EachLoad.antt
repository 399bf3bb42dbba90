-- Each list of words is that of a job over a capture, which may add something at the end, that of a load, or not understood.
use Rattle.std.proofs.Common.{◌≡◌, ◌⊎◌, inl, inr, ℕ, List}
use Rattle.otlp_load.specs.Load.{requests_at_most}
use Rattle.otap_gateway.specs.declared.jobs.command.Command.{Command}
use Rattle.otlp_model.specs.declared.request.Signal.{Signal}
use Rattle.otlp_model.specs.declared.request.Signal.TheVariants as signals
use Rattle.otap_gateway.specs.declared.jobs.ending.Ending.{Ending}
use Rattle.otap_gateway.specs.declared.jobs.ending.Ending.TheVariants as ending
use Rattle.otap_gateway.specs.declared.runs.load.Load.{Load}
use Rattle.otap_gateway.specs.Commands.{IsNoCommand, words_of}
use Rattle.otap_gateway.specs.Endings.{IsEnding, IsNoEnding, IsWindow, ending_words, window_limit}
use Rattle.otap_gateway.specs.Loads.{IsLoad, IsNoLoad, IsNotUnderstood, load_words}
use Rattle.otap_gateway.specs.Unfiling.{IsNoUnfile}
use Rattle.otap_gateway.proofs.EachFile.{IsNoFile, IsOfFile, IsOfUnfile, each_file, each_unfile}
use Rattle.otap_gateway.proofs.EachNumber.{NamesOne, NamesNone, one_of}
use Rattle.otap_gateway.proofs.EachWords.{each_words}

abbrev load_of : Signal → ℕ → Load
load_of signal requests = record { signal = signal; requests = requests }

-- the words of a load of a signal, by its number of requests
abbrev load_named : Signal → ℕ → List (List ℕ)
load_named signal requests = load_words (load_of signal requests)

-- they are those of a load of the signal, or of none
abbrev IsOneOf : List (List ℕ) → Signal → Type 0
IsOneOf words signal = NamesOne words (load_named signal) requests_at_most

abbrev IsNoneOf : List (List ℕ) → Signal → Type 0
IsNoneOf words signal = NamesNone words (load_named signal) requests_at_most

abbrev IsOfLoad : List (List ℕ) → Type 0
IsOfLoad words = (load : Load) × IsLoad load × (words ≡ load_words load)

each_load : (words : List (List ℕ)) → IsOfLoad words ⊎ IsNoLoad words
each_load words =
    by (one_of words (load_named signals.Traces) requests_at_most) (one_of words (load_named signals.Logs) requests_at_most) (one_of words (load_named signals.Metrics) requests_at_most)
  where
    found : (signal : Signal) → IsOneOf words signal → IsOfLoad words
    found signal one = (load_of signal one.number, record { some = one.some; few = one.few }, one.names)

    none : IsNoneOf words signals.Traces → IsNoneOf words signals.Logs → IsNoneOf words signals.Metrics → (signal : Signal) → IsNoneOf words signal
    none traces logs metrics signals.Traces = traces
    none traces logs metrics signals.Logs = logs
    none traces logs metrics signals.Metrics = metrics

    by : IsOneOf words signals.Traces ⊎ IsNoneOf words signals.Traces → IsOneOf words signals.Logs ⊎ IsNoneOf words signals.Logs
        → IsOneOf words signals.Metrics ⊎ IsNoneOf words signals.Metrics → IsOfLoad words ⊎ IsNoLoad words
    by (inl traces) logs metrics = inl (found signals.Traces traces)
    by (inr no_traces) (inl logs) metrics = inl (found signals.Logs logs)
    by (inr no_traces) (inr no_logs) (inl metrics) = inl (found signals.Metrics metrics)
    by (inr no_traces) (inr no_logs) (inr no_metrics) = inr (λ load is named. none no_traces no_logs no_metrics load.signal load.requests is.some is.few named)

-- ---- a job that adds something at the end

abbrev IsOfEnding : List (List ℕ) → Type 0
IsOfEnding words = (job : Ending) × IsEnding job × (words ≡ ending_words job)

abbrev OfWindow : List (List ℕ) → Signal → Type 0
OfWindow words signal = NamesOne words (λ window. ending_words (ending.Resend signal window)) window_limit

abbrev OfNoWindow : List (List ℕ) → Signal → Type 0
OfNoWindow words signal = NamesNone words (λ window. ending_words (ending.Resend signal window)) window_limit

each_window : (words : List (List ℕ)) → IsOfEnding words ⊎ ((signal : Signal) (window : ℕ) → IsWindow window → words ≡ ending_words (ending.Resend signal window) → ⊥)
each_window words = by (window_of signals.Traces) (window_of signals.Logs) (window_of signals.Metrics)
  where
    window_of : (signal : Signal) → OfWindow words signal ⊎ OfNoWindow words signal
    window_of signal = one_of words (λ window. ending_words (ending.Resend signal window)) window_limit

    found : (signal : Signal) → OfWindow words signal → IsOfEnding words
    found signal one = (ending.Resend signal one.number, record { some = one.some; few = one.few }, one.names)

    none : OfNoWindow words signals.Traces → OfNoWindow words signals.Logs → OfNoWindow words signals.Metrics
        → (signal : Signal) (window : ℕ) → IsWindow window → words ≡ ending_words (ending.Resend signal window) → ⊥
    none traces logs metrics signals.Traces window is named = traces window is.some is.few named
    none traces logs metrics signals.Logs window is named = logs window is.some is.few named
    none traces logs metrics signals.Metrics window is named = metrics window is.some is.few named

    by : OfWindow words signals.Traces ⊎ OfNoWindow words signals.Traces → OfWindow words signals.Logs ⊎ OfNoWindow words signals.Logs
        → OfWindow words signals.Metrics ⊎ OfNoWindow words signals.Metrics
        → IsOfEnding words ⊎ ((signal : Signal) (window : ℕ) → IsWindow window → words ≡ ending_words (ending.Resend signal window) → ⊥)
    by (inl traces) logs metrics = inl (found signals.Traces traces)
    by (inr no_traces) (inl logs) metrics = inl (found signals.Logs logs)
    by (inr no_traces) (inr no_logs) (inl metrics) = inl (found signals.Metrics metrics)
    by (inr no_traces) (inr no_logs) (inr no_metrics) = inr (none no_traces no_logs no_metrics)

each_ending : (words : List (List ℕ)) → IsOfEnding words ⊎ IsNoEnding words
each_ending words = by (each_file words) (each_window words)
  where
    none : IsNoFile words → ((signal : Signal) (window : ℕ) → IsWindow window → words ≡ ending_words (ending.Resend signal window) → ⊥) → IsNoEnding words
    none no_file no_window (ending.File signal kind number) is named = no_file signal kind number is named
    none no_file no_window (ending.Resend signal window) is named = no_window signal window is named

    by : IsOfFile words ⊎ IsNoFile words → IsOfEnding words ⊎ ((signal : Signal) (window : ℕ) → IsWindow window → words ≡ ending_words (ending.Resend signal window) → ⊥)
        → IsOfEnding words ⊎ IsNoEnding words
    by (inl file) window = inl (ending.File file.signal file.kind file.number, file.is, file.names)
    by (inr no_file) (inl window) = inl window
    by (inr no_file) (inr no_window) = inr (none no_file no_window)

-- ---- all words

abbrev IsOfJob : List (List ℕ) → Type 0
IsOfJob words = (job : Command) × (words ≡ words_of job)

pub all_words : (words : List (List ℕ)) → IsOfJob words ⊎ (IsOfEnding words ⊎ (IsOfUnfile words ⊎ (IsOfLoad words ⊎ IsNotUnderstood words)))
all_words words = by (each_words words) (each_ending words) (each_unfile words) (each_load words)
  where
    by : IsOfJob words ⊎ IsNoCommand words → IsOfEnding words ⊎ IsNoEnding words → IsOfUnfile words ⊎ IsNoUnfile words → IsOfLoad words ⊎ IsNoLoad words
        → IsOfJob words ⊎ (IsOfEnding words ⊎ (IsOfUnfile words ⊎ (IsOfLoad words ⊎ IsNotUnderstood words)))
    by (inl job) ends unfile load = inl job
    by (inr no_job) (inl ends) unfile load = inr (inl ends)
    by (inr no_job) (inr no_end) (inl unfile) load = inr (inr (inl unfile))
    by (inr no_job) (inr no_end) (inr no_unfile) (inl load) = inr (inr (inr (inl load)))
    by (inr no_job) (inr no_end) (inr no_unfile) (inr no_load) = inr (inr (inr (inr (record { job = no_job; ending = no_end; unfile = no_unfile; load = no_load }))))
