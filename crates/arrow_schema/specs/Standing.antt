-- Slots whose parts are in a builder: used in private contracts.
use Rattle.std.specs.Prelude.{◌≡◌, ℕ, List, Option, None, Some}
use Rattle.flat_tables.specs.declared.place.Slot.{Slot}
use Rattle.flat_tables.specs.declared.place.Slot.TheVariants.{Absent, At}
use Rattle.flat_tables.specs.Building.{StaysAt}
use Rattle.arrow_schema.specs.declared.spec.DictSpec.{DictSpec}
use Rattle.arrow_schema.specs.declared.spec.Encoding.{Encoding}
use Rattle.arrow_schema.specs.declared.spec.Encoding.TheVariants as encoding
use Rattle.arrow_schema.specs.Writing.{WritesDict, WritesPair, encoding_word}

abbrev pub DictionaryStands : Option DictSpec → List ℕ → Slot → Type 0
DictionaryStands None bytes slot = slot ≡ Absent
DictionaryStands (Some dict) bytes slot = (place : ℕ) × (slot ≡ At place) × StaysAt (WritesDict dict) bytes place

abbrev pub MetadataStands : Encoding → List ℕ → Slot → Type 0
MetadataStands encoding.None bytes slot = slot ≡ Absent
MetadataStands named bytes slot = (place : ℕ) × (slot ≡ At place) × StaysAt (WritesPair (encoding_word named)) bytes place
