use Rattle.flat_tables.proofs.InWords.{table_is, bad_vtable, neither_is}
use Rattle.flat_tables.proofs.laws.tables_in_words.Goals as goal

pub returns : goal.returns
returns c = record { table = table_is; bad = bad_vtable; neither = neither_is }
