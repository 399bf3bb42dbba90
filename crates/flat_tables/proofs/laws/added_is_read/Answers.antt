use Rattle.flat_tables.specs.Building.{IsText, IsParts, IsPlaces, HasSlots}
use Rattle.flat_tables.proofs.Standing.{stands_later}
use Rattle.flat_tables.proofs.laws.added_is_read.Goals as goal

pub returns : goal.returns
returns c = record {
  texts = λ text. stands_later (IsText text);
  parts = λ width parts. stands_later (IsParts width parts);
  places = λ places. stands_later (IsPlaces places);
  tables = λ slots. stands_later (HasSlots slots);
}
