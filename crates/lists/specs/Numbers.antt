-- Numbers in bytes.
use Rattle.std.specs.Prelude.{ℕ, zero, suc, List, [], ◌∷◌, drop}
use Rattle.byteorder.specs.Endian.{little_number}

-- the first numbers of 64 bits in the bytes, each little-endian
abbrev pub little_numbers : ℕ → List ℕ → List ℕ
little_numbers zero bytes = []
little_numbers (suc count) bytes = little_number 8 bytes ∷ little_numbers count (drop 8 bytes)
