-- What a dictionary keeps: used in private contracts.
use Rattle.std.specs.Prelude.{◌+◌, ◌≤◌, All, length}
use Rattle.otap_columns.specs.Limits.{dictionary_limit}
use Rattle.otap_columns.specs.declared.reader.dictionary.Dictionary.TheInside as dictionary
use Rattle.otap_columns.specs.Dictionaries.{DictionaryIn}
use Rattle.otap_columns.specs.Limits.{kept_limit}
use Rattle.otap_columns.specs.Ends.{values_by_ends, AreEnds}

abbrev pub dictionary_in : dictionary.Inside → DictionaryIn
dictionary_in d = record { id = d.id; kind = d.kind; values = values_by_ends d.bytes.items 0 d.ends.items }

pub record IsDictionaryInside (d : dictionary.Inside) : Type 0 where
  pub few : length d.ends.items ≤ dictionary_limit
  pub small : length d.bytes.items ≤ kept_limit
  pub ends : AreEnds 0 d.ends.items (length d.bytes.items)
  pub longest : All (λ e. e.place ≤ e.from + d.longest) d.ends.items
