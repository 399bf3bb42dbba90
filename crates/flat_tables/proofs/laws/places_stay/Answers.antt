use Rattle.flat_tables.specs.Building.{IsText, IsParts, IsPlaces, HasSlots}
use Rattle.flat_tables.proofs.Standing.{stands_on}
use Rattle.flat_tables.proofs.laws.places_stay.Goals as goal

pub returns : goal.returns
returns c = record {
  texts = λ text. stands_on (IsText text);
  parts = λ width parts. stands_on (IsParts width parts);
  places = λ places. stands_on (IsPlaces places);
  tables = λ slots. stands_on (HasSlots slots);
}
