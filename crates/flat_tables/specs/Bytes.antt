-- Parts of bytes, and the numbers in them.
use Rattle.std.specs.Prelude.{ℕ, ◌+◌, List, length, take, drop, nat_lt, if◌then◌else◌, Result, Ok, Err}
use Rattle.std.specs.Prelude.{ℤ}
use Rattle.std.specs.Int.{Width, cast_signed}
use Rattle.lists.specs.Results.{◌>>=◌}
use Rattle.byteorder.specs.Endian.{little_number}
use Rattle.flat_tables.specs.declared.fault.FlatFault.{FlatFault}
use Rattle.flat_tables.specs.declared.fault.FlatFault.TheVariants.{OutOfRange}

-- the n bytes at an offset, which must all lie in the bytes; offsets are added as whole numbers, and never wrap
unfoldable pub part_at : List ℕ → ℕ → ℕ → Result (List ℕ) FlatFault
part_at bytes place n = if nat_lt (length bytes) (place + n) then Err OutOfRange else Ok (take n (drop place bytes))

-- the little-endian number in the n bytes at an offset
abbrev pub number_in : ℕ → List ℕ → ℕ → ℕ
number_in n bytes place = little_number n (drop place bytes)

-- the same, where the n bytes all lie in the bytes
unfoldable pub number_at : ℕ → List ℕ → ℕ → Result ℕ FlatFault
number_at n bytes place = part_at bytes place n >>= λ part. Ok (little_number n part)

-- the same as a signed number in two's complement
unfoldable pub signed_at : Width → ℕ → List ℕ → ℕ → Result ℤ FlatFault
signed_at w n bytes place = number_at n bytes place >>= λ number. Ok (cast_signed w number)
