-- The states of `filter`: used in private contracts.
use Rattle.std.specs.Prelude.{⊤, ◌≤◌, ℕ, List, [], length}
use Rattle.otlp_model.specs.declared.value.Pair.{Pair}
use Rattle.otlp_model.specs.declared.value.Value.{Value}
use Rattle.otlp_model.specs.declared.value.Value as values
use Rattle.otap_capture.specs.Capture.{longest_frame}
use Rattle.otap_kept.specs.Texts.{text_under}
use Rattle.otap_filter.specs.Filtering.{Answer, Batch, FiltersAfter, Refused, Reset, Unordered}
use Rattle.otap_filter.specs.Filters.{FilterIn, StandsFor}
use Rattle.otap_gateway.specs.declared.jobs.owner.Owner.{Owner}
use Rattle.otap_gateway.specs.Filtering.{filtered_text}
use Rattle.otap_gateway.specs.Jobs.{History}
use Rattle.otap_gateway.specs.JobStates.{HasRepliedBy}
use Rattle.otap_gateway.specs.Owners.{signal_of, whose_of}

-- the text of a value that is one
abbrev pub text_in : Value → List ℕ
text_in (values.Str text) = text
text_in other = []

-- the pair that a filter looks for
abbrev pub pair_sought : FilterIn → Pair
pair_sought f = text_under f.pair.key (text_in f.pair.value)

-- a history of frames and replies after which a filter has its state
abbrev pub HasFilteredSo : Owner → FilterIn → History
HasFilteredSo owner f frames replies =
    HasRepliedBy (FiltersAfter (signal_of owner) (whose_of owner) (pair_sought f)) filtered_text
    (λ given. StandsFor (signal_of owner) (whose_of owner) (pair_sought f) given f) frames replies

-- a message that fits into a frame
abbrev pub HasShortMessage : Answer → Type 0
HasShortMessage (Batch id message) = length message ≤ longest_frame
HasShortMessage (Unordered id) = ⊤
HasShortMessage (Refused refusal) = ⊤
HasShortMessage Reset = ⊤
