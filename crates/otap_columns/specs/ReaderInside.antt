-- What a reader keeps.
use Rattle.std.specs.Prelude.{◌≡◌, ◌≤◌, true, length, map, All}
use Rattle.std.specs.List.{range_with_len}
use Rattle.arrow_schema.specs.Limits.{max_fields}
use Rattle.otap_cells.specs.Columns.{width_of}
use Rattle.otap_columns.specs.declared.reader.Reader.TheInside as reader
use Rattle.otap_columns.specs.Known.{columns_fit, place_at}
use Rattle.otap_columns.specs.Steps.{FitsIn}
use Rattle.otap_columns.specs.Views.{ReaderIn}

abbrev pub reader_in : reader.Inside → ReaderIn
reader_in r = record {
  kind = r.kind;
  substream = record { arrays = r.arrays; dictionaries = r.dictionaries.items };
  place = r.place;
  broken = r.broken;
}

-- each column is found at its index and has its type; the values of each dictionary are of its type
pub record IsReaderInside (r : reader.Inside) : Type 0 where
  pub places : r.places.items ≡ map (place_at r.kind r.arrays) (range_with_len 0 (width_of r.kind))
  pub types : columns_fit r.kind r.arrays ≡ true
  pub values : All FitsIn r.dictionaries.items
  pub few : length r.dictionaries.items ≤ max_fields
