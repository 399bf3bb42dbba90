-- The limits of views and builders.
use Rattle.std.specs.Prelude.{ℕ}

-- how many bytes an element of a vector takes at most
abbrev pub max_width : ℕ
max_width = 24

-- how many slots a new table has at most
abbrev pub max_slots : ℕ
max_slots = 16

-- what a builder holds together with the part to be added stays below this number of bytes
abbrev pub max_size : ℕ
max_size = 16777216

-- and what it holds after a part was added, with what pads the part, is below this number
abbrev pub max_held : ℕ
max_held = 33554432
