-- The words of a job that adds something at the end are those of one such job at most.
use Rattle.std.proofs.Common.{◌≡◌, ℕ, List, Result, sym, ◌∙◌, subst, arith}
use Rattle.std.specs.Fmt.{decimal}
use Rattle.std.proofs.lemmas.Fmt.{decimal_injective}
use Rattle.otlp_model.specs.declared.request.Signal.{Signal}
use Rattle.std.proofs.lemmas.Bool.{eq-eqb}
use Rattle.otap_cells.specs.declared.payload.Kind.{Kind}
use Rattle.otap_cells.specs.Payload.{number_of}
use Rattle.otap_cells.proofs.KindsApart.{number_small, same_kind}
use Rattle.otap_gateway.specs.declared.jobs.ending.Ending.{Ending}
use Rattle.otap_gateway.specs.declared.jobs.ending.Ending.TheVariants as ending
use Rattle.otap_gateway.specs.declared.runs.stop.Stop.{Stop}
use Rattle.otap_gateway.specs.declared.runs.stop.Tally.{Tally}
use Rattle.otap_gateway.specs.Commands.{signal_word}
use Rattle.otap_gateway.specs.EndingRuns.{LeavesEnding, RunsEnding}
use Rattle.otap_gateway.specs.Endings.{AnswerOf, IsEnding, ending_words}
use Rattle.otap_gateway.specs.declared.jobs.unfile.Unfile.{Unfile}
use Rattle.otap_gateway.specs.Unfiling.{IsUnfile, LeavesUnfile, RunsUnfile, unfile_words}
use Rattle.otap_gateway.specs.Runs.{CountsFaults, StopsBy, World, exit_status}
use Rattle.otap_gateway.proofs.LoadWords.{same_signal}

same_resend : (a b : Signal) (v w : ℕ) → a ≡ b → v ≡ w → ending.Resend a v ≡ ending.Resend b w
same_resend a b v w signal window = λ i. ending.Resend (signal i) (window i)

same_file : (a b : Signal) (k l : Kind) (n m : ℕ) → a ≡ b → k ≡ l → n ≡ m → ending.File a k n ≡ ending.File b l m
same_file a b k l n m signal kind number = λ i. ending.File (signal i) (kind i) (number i)

-- a payload type is known by its number in decimal
pub kind_told : (k l : Kind) → decimal (number_of k) ≡ decimal (number_of l) → k ≡ l
kind_told k l same =
    let small = number_small k in
    let small' = number_small l in
    same_kind k l (eq-eqb (number_of k) (number_of l) (decimal_injective (number_of k) (number_of l) (omega (arith, small)) (omega (arith, small')) same))

one_ending : (a b : Ending) → IsEnding a → IsEnding b → ending_words a ≡ ending_words b → a ≡ b
one_ending (ending.File a k n) (ending.File b l m) is is' same =
    let signal : signal_word a ≡ signal_word b = cc same in
    let kind : decimal (number_of k) ≡ decimal (number_of l) = cc same in
    let number : decimal n ≡ decimal m = cc same in
    let few = is.few in
    let few' = is'.few in
    same_file a b k l n m (same_signal a b signal) (kind_told k l kind) (decimal_injective n m (omega (arith, few)) (omega (arith, few')) number)
one_ending (ending.File a k n) (ending.Resend b w) is is' same = absurd (cc same)
one_ending (ending.Resend a v) (ending.File b l m) is is' same = absurd (cc same)
one_ending (ending.Resend a v) (ending.Resend b w) is is' same =
    let signal : signal_word a ≡ signal_word b = cc same in
    let window : decimal v ≡ decimal w = cc same in
    let few = is.few in
    let few' = is'.few in
    same_resend a b v w (same_signal a b signal) (decimal_injective v w (omega arith) (omega arith) window)

-- a run for a job is one for its words
pub ending_named : (words : List (List ℕ)) (a : Ending) (old new : World) (status : ℕ) (returned : Result Tally Stop) → IsEnding a → words ≡ ending_words a → status ≡ exit_status returned
    → LeavesEnding a old.left old.sinks new.sinks returned → StopsBy (AnswerOf a) old new returned → CountsFaults old new returned → (b : Ending) → IsEnding b → words ≡ ending_words b
    → RunsEnding b old new status
ending_named words a old new status returned is named same leaves stops faults b is' named' =
    subst (λ (job : Ending). RunsEnding job old new status) (one_ending a b is is' (sym named ∙ named'))
    (record { returned = returned; same = same; leaves = leaves; stops = stops; faults = faults })

one_unfile : (a b : Unfile) → unfile_words a ≡ unfile_words b → a ≡ b
one_unfile a b same =
    let signal : signal_word a.signal ≡ signal_word b.signal = cc same in
    let kind : decimal (number_of a.kind) ≡ decimal (number_of b.kind) = cc same in
    λ i. record { signal = same_signal a.signal b.signal signal i; kind = kind_told a.kind b.kind kind i }

pub unfile_named : (words : List (List ℕ)) (a : Unfile) (old new : World) (status : ℕ) (returned : Result Tally Stop) → words ≡ unfile_words a → status ≡ exit_status returned
    → LeavesUnfile a.kind old new returned → CountsFaults old new returned → (b : Unfile) → IsUnfile b → words ≡ unfile_words b → RunsUnfile b old new status
unfile_named words a old new status returned named same leaves faults b is named' =
    subst (λ (job : Unfile). RunsUnfile job old new status) (one_unfile a b (sym named ∙ named')) (record { returned = returned; same = same; leaves = leaves; faults = faults })
