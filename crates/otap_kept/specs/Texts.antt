-- Pairs whose value is a text.
use Rattle.std.specs.Prelude.{ℕ, List}
use Rattle.otlp_model.specs.declared.value.Pair.{Pair}
use Rattle.otlp_model.specs.declared.value.Value as values
use Rattle.otap_kept.specs.declared.text_pair.TextPair.{TextPair}

-- THE PAIR of a key and a text
abbrev pub text_under : List ℕ → List ℕ → Pair
text_under key text = record { key = key; value = values.Str text }

abbrev pub text_pair : TextPair → Pair
text_pair pair = text_under pair.key.now pair.text.now
