-- Words are those of one job at most.
use Rattle.std.proofs.Common.{◌≡◌, ℕ, List, [], ◌∷◌, Option, Some, Result, refl, sym, ap, ◌∙◌, subst}
use Rattle.std.specs.Prelude.{find, option_map}
use Rattle.std.specs.Str.{bytes_eq}
use lib.Pointwise.{pointwise}
use Rattle.otlp_model.specs.declared.request.Signal.TheVariants.{Traces, Logs, Metrics}
use Rattle.otap_gateway.specs.declared.jobs.command.Command.{Command}
use Rattle.otap_gateway.specs.declared.jobs.command.Command.TheVariants.{List as Listing, Tidy, Encode, Schema, Show, Receive, Filter}
use Rattle.otap_gateway.specs.declared.jobs.command.ReceiverText.TheVariants.{Decode, Status, Replay}
use Rattle.otap_gateway.specs.declared.jobs.owner.Owner.{Owner}
use Rattle.otap_gateway.specs.declared.jobs.owner.Owner.TheVariants.{Span, SpanResource, LogRecord, LogResource, MetricResource}
use Rattle.otap_gateway.specs.declared.runs.stop.Stop.{Stop}
use Rattle.otap_gateway.specs.declared.runs.stop.Tally.{Tally}
use Rattle.otap_gateway.specs.Commands.{signal_word, words_of}
use Rattle.otap_gateway.specs.Owners.{signal_of, whose_of, whose_word}
use Rattle.otap_gateway.specs.Runs.{World, Leaves, Stops, CountsFaults, Runs, exit_status}

jobs : List Command
jobs = Listing ∷ Tidy Traces ∷ Tidy Logs ∷ Tidy Metrics ∷ Schema Traces ∷ Schema Logs ∷ Schema Metrics ∷ Show Traces ∷ Show Logs ∷ Show Metrics
    ∷ Encode Traces ∷ Encode Logs ∷ Encode Metrics ∷ Receive Decode Traces ∷ Receive Decode Logs ∷ Receive Decode Metrics
    ∷ Receive Status Traces ∷ Receive Status Logs ∷ Receive Status Metrics ∷ Receive Replay Traces ∷ Receive Replay Logs ∷ Receive Replay Metrics ∷ []

owners : List Owner
owners = Span ∷ SpanResource ∷ LogRecord ∷ LogResource ∷ MetricResource ∷ []

-- the first job that has the words; where there are five of them, the last two are the key and the text of a filter
named : List (List ℕ) → Option Command
named (job ∷ signal ∷ whose ∷ key ∷ text ∷ []) =
    option_map (λ owner. Filter owner key text) (find (λ owner. pointwise bytes_eq (signal ∷ whose ∷ []) (signal_word (signal_of owner) ∷ whose_word (whose_of owner) ∷ [])) owners)
named words = find (λ job. pointwise bytes_eq words (words_of job)) jobs

is_named : (job : Command) → named (words_of job) ≡ Some job
unfolding jobs owners named
is_named Listing = refl
is_named (Tidy Traces) = refl
is_named (Tidy Logs) = refl
is_named (Tidy Metrics) = refl
is_named (Schema Traces) = refl
is_named (Schema Logs) = refl
is_named (Schema Metrics) = refl
is_named (Show Traces) = refl
is_named (Show Logs) = refl
is_named (Show Metrics) = refl
is_named (Encode Traces) = refl
is_named (Encode Logs) = refl
is_named (Encode Metrics) = refl
is_named (Receive Decode Traces) = refl
is_named (Receive Decode Logs) = refl
is_named (Receive Decode Metrics) = refl
is_named (Receive Status Traces) = refl
is_named (Receive Status Logs) = refl
is_named (Receive Status Metrics) = refl
is_named (Receive Replay Traces) = refl
is_named (Receive Replay Logs) = refl
is_named (Receive Replay Metrics) = refl
is_named (Filter Span key text) = refl
is_named (Filter SpanResource key text) = refl
is_named (Filter LogRecord key text) = refl
is_named (Filter LogResource key text) = refl
is_named (Filter MetricResource key text) = refl

pub one_job : (a b : Command) → words_of a ≡ words_of b → a ≡ b
one_job a b is = let same : Some a ≡ Some b = sym (is_named a) ∙ ap named is ∙ is_named b in cc

-- a run for a job is one for its words
pub runs_named : (words : List (List ℕ)) (a : Command) (old new : World) (status : ℕ) (returned : Result Tally Stop) → words ≡ words_of a → status ≡ exit_status returned
    → Leaves a old.left old.sinks new.sinks returned → Stops a old new returned → CountsFaults old new returned → (b : Command) → words ≡ words_of b → Runs b old new status
runs_named words a old new status returned named same leaves stops faults b named' =
    subst (λ (job : Command). Runs job old new status) (one_job a b (sym named ∙ named'))
    (record { returned = returned; same = same; leaves = leaves; stops = stops; faults = faults })
