-- The limits of the dictionaries that are read, and of the records that are written.
use Rattle.std.specs.Prelude.{ℕ, ◌+◌, ◌*◌, ◌^◌, length, count_by}
use Rattle.otap_cells.specs.declared.payload.Kind.{Kind}
use Rattle.otap_cells.specs.Columns.{columns_of}
use Rattle.otap_cells.specs.Tables.{Table}
use Rattle.otap_cells.specs.Weights.{weight_of_table}
use Rattle.otap_dicts.specs.Limits.{value_limit, byte_limit}

-- the most values of a dictionary that is read
abbrev pub dictionary_limit : ℕ
dictionary_limit = 65536

-- the most bytes that the values of a dictionary have together; no memory is as large
abbrev pub kept_limit : ℕ
kept_limit = 2 ^ 48

-- what is held of a value beside its bytes
abbrev pub held_unit : ℕ
held_unit = 8

-- what a reader holds for all dictionaries is below this, whatever it has read
abbrev pub reader_held_limit : ℕ
reader_held_limit = 2 ^ 58

-- how much the far end holds at most for a dictionary that is written: the bytes of its values, and a unit for each
abbrev pub held_most : ℕ
held_most = byte_limit + held_unit * value_limit

-- how many columns of a kind may be dictionaries
abbrev pub dictionary_columns : Kind → ℕ
dictionary_columns kind = count_by (λ c. c.dictionary) (columns_of kind)

-- HOW MUCH THE FAR END HOLDS at most of what is written for the tables of a kind
abbrev pub held_of_kind : Kind → ℕ
held_of_kind kind = held_most * dictionary_columns kind

-- how many bytes a row takes at most, the weight of its cells aside, and the dictionary batch of a column
abbrev pub row_limit : ℕ
row_limit = 136

abbrev pub head_limit : ℕ
head_limit = 1500000

-- how many bytes a record has at most beside these
abbrev pub rest_limit : ℕ
rest_limit = 131072

-- of these, the message of its schema
abbrev pub schema_most : ℕ
schema_most = 81920

-- and the message of its rows, beside its rows and their weight
abbrev pub rows_rest : ℕ
rows_rest = 8192

-- THE MOST BYTES OF A RECORD of a table: those of each row, the table's row weight, those of a dictionary batch for each column
-- that may be a dictionary, and those beside these
abbrev pub record_limit : Table → ℕ
record_limit t = row_limit * length t.rows + weight_of_table t + head_limit * dictionary_columns t.kind + rest_limit

-- how many tables a signal has at most, how many of their columns may be dictionaries, and how many bytes their records take
-- together, where they are within the row weight
abbrev pub tables_limit : ℕ
tables_limit = 13

abbrev pub columns_limit : ℕ
columns_limit = 43

abbrev pub records_limit : ℕ
records_limit = 418525472
