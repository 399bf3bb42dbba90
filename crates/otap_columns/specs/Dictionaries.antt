-- Dictionaries (Arrow columnar format, "Dictionary Messages": a dictionary batch replaces the values of its id, or, as a
-- delta, is appended to them).
use Rattle.std.specs.Prelude.{ℕ, ◌+◌, Bool, not, ◌&&◌, nat_lt, List, [], ◌∷◌, ◌++◌, length, map, sum_by, Option, Some, None, ℤ, if◌then◌else◌, find}
use Rattle.std.specs.List.{flat_map, list_any, range_with_len}
use Rattle.std.specs.Ordering.{int_eq}
use Rattle.lists.specs.Since.{since}
use Rattle.arrow_buffers.specs.Columns.{cell_len}
use Rattle.arrow_schema.specs.declared.spec.ArrowType.{ArrowType}
use Rattle.arrow_schema.specs.declared.spec.DictSpec.{DictSpec}
use Rattle.arrow_schema.specs.Types.{same_type}
use Rattle.arrow_ipc.specs.declared.messages.IpcMessage.{IpcMessage}
use Rattle.arrow_ipc.specs.declared.messages.IpcMessage.TheVariants.{Schema, Dictionary, Rows}
use Rattle.arrow_ipc.specs.Batches.{BatchIn}
use Rattle.arrow_arrays.specs.declared.spec.ArraySpec.{ArraySpec}
use Rattle.arrow_arrays.specs.Cells.{own_cell, place_of_values}
use Rattle.otap_columns.specs.Limits.{dictionary_limit, held_unit}

-- the values of a dictionary batch: the cells of its one array, each null or its bytes
unfoldable pub values_of : ArrowType → BatchIn → List (Option (List ℕ))
values_of kind batch = map (own_cell batch (place_of_values kind)) (range_with_len 0 batch.rows)

-- the dictionary batches of an id, each beside whether it is a delta
abbrev pub dictionary_batches : ℤ → IpcMessage → List (Bool × BatchIn)
dictionary_batches id (Schema fields) = []
dictionary_batches id (Dictionary of delta batch) = if int_eq id of then (delta, batch) ∷ [] else []
dictionary_batches id (Rows batch) = []

abbrev pub batches_of : ℤ → List IpcMessage → List (Bool × BatchIn)
batches_of id messages = flat_map (dictionary_batches id) messages

-- THE DICTIONARY OF AN ID after messages: the values of its batches, joined, from the latest that is no delta on; of all of
-- them where none is such
unfoldable pub dictionary_over : ArrowType → ℤ → List IpcMessage → List (Option (List ℕ))
dictionary_over kind id messages = flat_map (λ b. values_of kind b.1) (since (λ b. not b.0) (batches_of id messages))

-- a dictionary: its id, the type of its values, and these
pub record DictionaryIn : Type 0 where
  pub id : ℤ
  pub kind : ArrowType
  pub values : List (Option (List ℕ))

abbrev pub has_id : ℤ → DictionaryIn → Bool
has_id id d = int_eq d.id id

abbrev pub is_for : ArrowType → ℤ → DictionaryIn → Bool
is_for kind id d = int_eq d.id id && same_type d.kind kind

-- the dictionary that a field has, after those so far: it is there once, however many fields have it
abbrev pub with_dictionary : List DictionaryIn → ArrowType → Option DictSpec → List DictionaryIn
with_dictionary dictionaries kind None = dictionaries
with_dictionary dictionaries kind (Some dict) =
    if list_any (is_for kind dict.id) dictionaries then dictionaries
    else dictionaries ++ record { id = dict.id; kind = kind; values = [] } ∷ []

abbrev pub with_dictionaries : List DictionaryIn → List ArraySpec → List DictionaryIn
with_dictionaries dictionaries [] = dictionaries
with_dictionaries dictionaries (a ∷ arrays) = with_dictionaries (with_dictionary dictionaries a.kind a.dict) arrays

-- the dictionaries of the fields of a schema, without values
unfoldable pub empty_dictionaries : List ArraySpec → List DictionaryIn
empty_dictionaries arrays = with_dictionaries [] arrays

-- THE DICTIONARIES of the fields of a schema after messages
abbrev pub filled : List IpcMessage → DictionaryIn → DictionaryIn
filled messages d = record { id = d.id; kind = d.kind; values = dictionary_over d.kind d.id messages }

unfoldable pub dictionaries_in : List ArraySpec → List IpcMessage → List DictionaryIn
dictionaries_in arrays messages = map (filled messages) (empty_dictionaries arrays)

-- ---- one more dictionary batch

-- what stays of the values
abbrev pub kept : Bool → List (Option (List ℕ)) → List (Option (List ℕ))
kept delta values = if delta then values else []

-- a dictionary after a batch of its own
abbrev pub grown : Bool → BatchIn → DictionaryIn → DictionaryIn
grown delta batch d = record { id = d.id; kind = d.kind; values = kept delta d.values ++ values_of d.kind batch }

-- a dictionary after a batch of some id
abbrev pub grown_if : ℤ → Bool → BatchIn → DictionaryIn → DictionaryIn
grown_if id delta batch d = if has_id id d then grown delta batch d else d

unfoldable pub all_grown : ℤ → Bool → BatchIn → List DictionaryIn → List DictionaryIn
all_grown id delta batch dictionaries = map (grown_if id delta batch) dictionaries

-- more values than a dictionary may have
abbrev pub is_too_large : DictionaryIn → Bool
is_too_large d = nat_lt dictionary_limit (length d.values)

-- ---- what is held

-- the bytes of a value, and a unit; null has no bytes
abbrev pub value_weight : Option (List ℕ) → ℕ
value_weight value = cell_len value + held_unit

abbrev pub dictionary_weight : DictionaryIn → ℕ
dictionary_weight d = sum_by value_weight d.values

-- THE HELD WEIGHT of dictionaries
abbrev pub held_weight : List DictionaryIn → ℕ
held_weight dictionaries = sum_by dictionary_weight dictionaries

-- ---- looking a value up

abbrev pub values_if : Option DictionaryIn → List (Option (List ℕ))
values_if None = []
values_if (Some d) = d.values

-- the values of the dictionary of a field
abbrev pub values_for : ArrowType → ℤ → List DictionaryIn → List (Option (List ℕ))
values_for kind id dictionaries = values_if (find (is_for kind id) dictionaries)
