-- The words of loads are those of one load at most; and what a load's run leaves where nothing failed.
use Rattle.std.proofs.Common.{◌≡◌, ◌⊎◌, inl, inr, ℕ, List, [], ◌∷◌, Result, Ok, Err, refl, sym, ap, ◌∙◌, subst, arith}
use Rattle.std.specs.Prelude.{codes}
use Rattle.std.specs.Fmt.{decimal}
use Rattle.std.proofs.lemmas.Fmt.{decimal_injective}
use Rattle.otap_capture.specs.Outside.{Rose}
use Rattle.otap_gateway.specs.declared.jobs.command.Command.TheVariants as command
use Rattle.otlp_model.specs.declared.request.Signal.{Signal}
use Rattle.otap_gateway.specs.declared.runs.load.Load.{Load}
use Rattle.otap_gateway.specs.declared.runs.stop.Stop.{Stop}
use Rattle.otap_gateway.specs.declared.runs.stop.Stop.TheVariants as stop
use Rattle.otap_gateway.specs.Commands.{signal_word}
use Rattle.otap_gateway.specs.Loads.{IsLoad, LeavesLoad, RunsLoad, WritesLoad, load_status, load_words}
use Rattle.otap_gateway.specs.Runs.{Sinks, SinkFaults}
use Rattle.otap_gateway.proofs.OneJob.{one_job}

-- ---- one load

pub same_signal : (a b : Signal) → signal_word a ≡ signal_word b → a ≡ b
same_signal a b same =
    let job : command.Encode a ≡ command.Encode b = one_job (command.Encode a) (command.Encode b) (ap (λ (word : List ℕ). codes "encode" ∷ word ∷ []) same) in
    cc job

same_load : (a b : Load) → a.signal ≡ b.signal → a.requests ≡ b.requests → a ≡ b
same_load a b signal requests = λ i. record { signal = signal i; requests = requests i }

one_load : (a b : Load) → IsLoad a → IsLoad b → load_words a ≡ load_words b → a ≡ b
one_load a b is is' same =
    let signal : signal_word a.signal ≡ signal_word b.signal = cc same in
    let requests : decimal a.requests ≡ decimal b.requests = cc same in
    let few = is.few in
    let few' = is'.few in
    same_load a b (same_signal a.signal b.signal signal) (decimal_injective a.requests b.requests (omega arith) (omega arith) requests)

-- a run for a load is one for its words
pub load_named : {S : Type 0} (words : List (List ℕ)) (a : Load) (source : S) (old new : Sinks) (status : ℕ) (returned : Result (Unit {0}) Stop) → IsLoad a → words ≡ load_words a
    → status ≡ load_status returned → LeavesLoad a old new returned → SinkFaults old new returned → (b : Load) → IsLoad b → words ≡ load_words b → RunsLoad b source source old new status
load_named words a source old new status returned is named same leaves faults b is' named' =
    subst (λ (load : Load). RunsLoad load source source old new status) (one_load a b is is' (sym named ∙ named'))
    (record { returned = returned; same = same; unread = refl; leaves = leaves; faults = faults })

-- ---- where nothing failed

complete : (load : Load) (old new : Sinks) (status : ℕ) (returned : Result (Unit {0}) Stop) → status ≡ load_status returned → LeavesLoad load old new returned → SinkFaults old new returned
    → (Rose old.out.faults new.out.faults → ⊥) → (Rose old.err.faults new.err.faults → ⊥) → (status ≡ 6) ⊎ ((status ≡ 0) × WritesLoad load old new)
complete load old new status (Ok x) same leaves faults out err = inr (same, leaves)
complete load old new status (Err stop.Source) same leaves faults out err = absurd faults
complete load old new status (Err stop.Sink) same leaves (inl failed) out err = absurd (out failed.out)
complete load old new status (Err stop.Sink) same leaves (inr failed) out err = absurd (err failed.err)
complete load old new status (Err stop.Memory) same leaves faults out err = inl same

pub complete_loads : {S : Type 0} (load : Load) (source source' : S) (old new : Sinks) (status : ℕ) → RunsLoad load source source' old new status
    → (Rose old.out.faults new.out.faults → ⊥) → (Rose old.err.faults new.err.faults → ⊥) → (status ≡ 6) ⊎ ((status ≡ 0) × WritesLoad load old new)
complete_loads load source source' old new status runs out err = complete load old new status runs.returned runs.same runs.leaves runs.faults out err
