-- What a view of a file and a writer keep.
use Rattle.std.specs.Prelude.{◌≤◌, ◌<◌, ◌^◌, length, map}
use Rattle.arrow_file.specs.declared.view.FileView.TheInside as view
use Rattle.arrow_file.specs.declared.writer.FileWriter.TheInside as writer
use Rattle.arrow_file.specs.Views.{FileIn}
use Rattle.arrow_file.specs.Writers.{WriterIn}

abbrev pub file_in : view.Inside → FileIn
file_in f = record {
  schema = f.schema.now;
  dictionaries = map (λ m. m.now) f.dictionaries.items;
  batches = map (λ m. m.now) f.batches.items;
}

-- its messages are counted by numbers of 32 bits
pub record IsFileInside (f : view.Inside) : Type 0 where
  pub few_dictionaries : length f.dictionaries.items < 2 ^ 32
  pub few_batches : length f.batches.items < 2 ^ 32

abbrev pub writer_in : writer.Inside → WriterIn
writer_in w = record { bytes = w.bytes.items; blocks = w.blocks.items; footer = w.footer; schema = w.schema }

-- there are few blocks, and the footer has room for them
pub record IsWriterInside (w : writer.Inside) : Type 0 where
  pub few : length w.blocks.items ≤ 65536
  pub place : w.schema ≤ length w.footer
  pub small : length w.footer < 4194304
