-- The limits of tables.
use Rattle.std.specs.Prelude.{ℕ, ◌^◌}

-- how many columns a table has at most
abbrev pub column_limit : ℕ
column_limit = 25

-- what a row weighs beside its cells
abbrev pub row_unit : ℕ
row_unit = 32

-- the greatest number of 32 bits, and of 16
abbrev pub greatest_wide : ℕ
greatest_wide = 4294967295

abbrev pub greatest_narrow : ℕ
greatest_narrow = 65535

-- how many ids of 32 bits there are
abbrev pub wide_ids : ℕ
wide_ids = 2 ^ 32

-- how much the tables of a batch may weigh
abbrev pub row_weight_limit : ℕ
row_weight_limit = 2 ^ 26
