-- Each list of words is that of `file` or not, and that of `unfile` or not.
use Rattle.std.proofs.Common.{◌≡◌, ◌⊎◌, inl, inr, ℕ, zero, suc, ◌≤◌, List, arith}
use Rattle.std.specs.Prelude.{Contains}
use Rattle.lists.proofs.Every.{some_or_none}
use Rattle.otlp_model.specs.declared.request.Signal.{Signal}
use Rattle.otlp_model.specs.declared.request.Signal.TheVariants as signals
use Rattle.otap_cells.specs.declared.payload.Kind.{Kind}
use Rattle.otap_cells.specs.Payload.{kinds_of}
use Rattle.otap_gateway.specs.declared.jobs.ending.Ending.TheVariants as ending
use Rattle.otap_gateway.specs.declared.jobs.unfile.Unfile.{Unfile}
use Rattle.otap_gateway.specs.Endings.{IsSubstream, ending_words, number_limit}
use Rattle.otap_gateway.specs.Unfiling.{IsNoUnfile, IsUnfile, unfile_words}
use Rattle.otap_gateway.proofs.EachNumber.{NamesNone, NamesOne, one_of}
use Rattle.otap_gateway.proofs.EachWords.{same_words}

-- of a signal, or of none
each_signal : (P : Signal → Type 0) → ((signal : Signal) → P signal ⊎ (P signal → ⊥)) → ((signal : Signal) × P signal) ⊎ ((signal : Signal) → P signal → ⊥)
each_signal P decide = by (decide signals.Traces) (decide signals.Logs) (decide signals.Metrics)
  where
    none : (P signals.Traces → ⊥) → (P signals.Logs → ⊥) → (P signals.Metrics → ⊥) → (signal : Signal) → P signal → ⊥
    none traces logs metrics signals.Traces = traces
    none traces logs metrics signals.Logs = logs
    none traces logs metrics signals.Metrics = metrics

    by : P signals.Traces ⊎ (P signals.Traces → ⊥) → P signals.Logs ⊎ (P signals.Logs → ⊥) → P signals.Metrics ⊎ (P signals.Metrics → ⊥)
        → ((signal : Signal) × P signal) ⊎ ((signal : Signal) → P signal → ⊥)
    by (inl traces) logs metrics = inl (signals.Traces, traces)
    by (inr no_traces) (inl logs) metrics = inl (signals.Logs, logs)
    by (inr no_traces) (inr no_logs) (inl metrics) = inl (signals.Metrics, metrics)
    by (inr no_traces) (inr no_logs) (inr no_metrics) = inr (none no_traces no_logs no_metrics)

module _ (words : List (List ℕ)) where
  -- the words of `file` for a payload type
  abbrev OfNumber : Signal → Kind → Type 0
  OfNumber signal kind = (number : ℕ) × (number ≤ number_limit) × (words ≡ ending_words (ending.File signal kind number))

  abbrev FileOf : Signal → Kind → ℕ → List (List ℕ)
  FileOf signal kind number = ending_words (ending.File signal kind number)

  of_number : (signal : Signal) (kind : Kind) → OfNumber signal kind ⊎ (OfNumber signal kind → ⊥)
  of_number signal kind = by (same_words words (FileOf signal kind 0)) (one_of words (FileOf signal kind) number_limit)
    where
      none : (words ≡ FileOf signal kind 0 → ⊥) → NamesNone words (FileOf signal kind) number_limit → (number : ℕ) → number ≤ number_limit → words ≡ FileOf signal kind number → ⊥
      none no_first no_other zero few names = no_first names
      none no_first no_other (suc n) few names = no_other (suc n) (omega arith) few names

      by : (words ≡ FileOf signal kind 0) ⊎ (words ≡ FileOf signal kind 0 → ⊥) → NamesOne words (FileOf signal kind) number_limit ⊎ NamesNone words (FileOf signal kind) number_limit
          → OfNumber signal kind ⊎ (OfNumber signal kind → ⊥)
      by (inl first) other = inl (0, omega arith, first)
      by (inr no_first) (inl one) = inl (one.number, one.few, one.names)
      by (inr no_first) (inr no_other) = inr (λ one. none no_first no_other one.0 one.1 one.2)

  pub record IsOfFile : Type 0 where
    pub signal : Signal
    pub kind : Kind
    pub number : ℕ
    pub is : IsSubstream signal kind number
    pub names : words ≡ ending_words (ending.File signal kind number)

  abbrev pub IsNoFile : Type 0
  IsNoFile = (signal : Signal) (kind : Kind) (number : ℕ) → IsSubstream signal kind number → words ≡ ending_words (ending.File signal kind number) → ⊥

  abbrev OfKind : Signal → Type 0
  OfKind signal = (kind : Kind) × Contains (kinds_of signal) kind × OfNumber signal kind

  of_kind : (signal : Signal) → OfKind signal ⊎ (OfKind signal → ⊥)
  of_kind signal = by (some_or_none (OfNumber signal) (of_number signal) (kinds_of signal))
    where
      by : OfKind signal ⊎ ((kind : Kind) → Contains (kinds_of signal) kind → OfNumber signal kind → ⊥) → OfKind signal ⊎ (OfKind signal → ⊥)
      by (inl one) = inl one
      by (inr none) = inr no
        where
          no : OfKind signal → ⊥
          no (kind, there, of_it) = none kind there of_it

  as_file : (signal : Signal) → OfKind signal → IsOfFile
  as_file signal (kind, there, of_it) = record { signal = signal; kind = kind; number = of_it.0; is = record { kind_is = there; few = of_it.1 }; names = of_it.2 }

  pub each_file : IsOfFile ⊎ IsNoFile
  each_file = by (each_signal OfKind of_kind)
    where
      by : ((signal : Signal) × OfKind signal) ⊎ ((signal : Signal) → OfKind signal → ⊥) → IsOfFile ⊎ IsNoFile
      by (inl (signal, one)) = inl (as_file signal one)
      by (inr none) = inr (λ signal kind number is names. none signal (kind, is.kind_is, (number, is.few, names)))

  -- ---- unfile

  abbrev unfile_for : Signal → Kind → Unfile
  unfile_for signal kind = record { signal = signal; kind = kind }

  abbrev pub IsOfUnfile : Type 0
  IsOfUnfile = (job : Unfile) × IsUnfile job × (words ≡ unfile_words job)

  abbrev OfType : Signal → Type 0
  OfType signal = (kind : Kind) × Contains (kinds_of signal) kind × (words ≡ unfile_words (unfile_for signal kind))

  of_type : (signal : Signal) → OfType signal ⊎ (OfType signal → ⊥)
  of_type signal = by (some_or_none (λ kind. words ≡ unfile_words (unfile_for signal kind)) (λ kind. same_words words (unfile_words (unfile_for signal kind))) (kinds_of signal))
    where
      by : OfType signal ⊎ ((kind : Kind) → Contains (kinds_of signal) kind → words ≡ unfile_words (unfile_for signal kind) → ⊥) → OfType signal ⊎ (OfType signal → ⊥)
      by (inl one) = inl one
      by (inr none) = inr (λ one. none one.0 one.1 one.2)

  as_unfile : (signal : Signal) → OfType signal → IsOfUnfile
  as_unfile signal (kind, there, names) = (unfile_for signal kind, there, names)

  pub each_unfile : IsOfUnfile ⊎ IsNoUnfile words
  each_unfile = by (each_signal OfType of_type)
    where
      by : ((signal : Signal) × OfType signal) ⊎ ((signal : Signal) → OfType signal → ⊥) → IsOfUnfile ⊎ IsNoUnfile words
      by (inl (signal, one)) = inl (as_unfile signal one)
      by (inr none) = inr (λ job is names. none job.signal (job.kind, is, names))
