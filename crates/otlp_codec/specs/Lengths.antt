-- How long fields are: words of private contracts.
use Rattle.std.specs.Prelude.{ℕ, ◌+◌, ◌*◌, length}
use Rattle.otlp_wire.specs.Varint.{varint}

-- a field of wire type 2 whose part has this number of bytes
abbrev pub part_len : ℕ → ℕ → ℕ
part_len number size = length (varint (8 * number + 2)) + length (varint size) + size
