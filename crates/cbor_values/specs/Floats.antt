-- Narrow floats as doubles, by their bits (IEEE 754-2019, section 3.4).
use Rattle.std.specs.Prelude.{ℕ, zero, suc, ◌+◌, ◌-◌, ◌*◌, ◌/◌, ◌%◌, ◌^◌, ◌==◌, nat_lt, nat_le, if◌then◌else◌}

-- the position of the highest set bit of a number below 2 ^ width, counted from 0
unfoldable pub highest_bit : ℕ → ℕ → ℕ
highest_bit zero n = 0
highest_bit (suc width) n = if nat_le (2 ^ width) n then width else highest_bit width n

-- the bits of a double: its sign, its exponent field, its fraction
abbrev pub double : ℕ → ℕ → ℕ → ℕ
double sign exponent fraction = sign * 2 ^ 63 + exponent * 2 ^ 52 + fraction

-- The double of a float with w bits of fraction and the bias b, whose exponent field is at most greatest.
-- Infinities and NaNs have the greatest exponent, zeros and subnormal numbers the exponent 0. A subnormal number becomes
-- normal: its highest bit is no longer written, and the exponent says where it was.
unfoldable pub widened : ℕ → ℕ → ℕ → ℕ → ℕ → ℕ → ℕ
widened greatest w b sign exponent fraction =
    if exponent == greatest then double sign 2047 (fraction * 2 ^ (52 - w))
    else if nat_lt 0 exponent then double sign (exponent + 1023 - b) (fraction * 2 ^ (52 - w))
    else if nat_lt 0 fraction then
    double sign (highest_bit w fraction + 1024 - b - w)
    ((fraction - 2 ^ highest_bit w fraction) * 2 ^ (52 - highest_bit w fraction))
    else double sign 0 0

-- the double of a binary16: a sign, 5 bits of exponent, 10 of fraction, the bias 15
abbrev pub of_half : ℕ → ℕ
of_half bits = widened 31 10 15 (bits / 2 ^ 15) (bits / 2 ^ 10 % 2 ^ 5) (bits % 2 ^ 10)

-- the double of a binary32: a sign, 8 bits of exponent, 23 of fraction, the bias 127
abbrev pub of_single : ℕ → ℕ
of_single bits = widened 255 23 127 (bits / 2 ^ 31) (bits / 2 ^ 23 % 2 ^ 8) (bits % 2 ^ 23)

-- The number of a float without its sign, counted in the least number above 0 of its format. It has w bits of fraction,
-- and its exponent field isn't the greatest one.
abbrev pub magnitude : ℕ → ℕ → ℕ → ℕ
magnitude w exponent fraction = if exponent == 0 then fraction else (2 ^ w + fraction) * 2 ^ (exponent - 1)

abbrev pub number_of_half : ℕ → ℕ
number_of_half bits = magnitude 10 (bits / 2 ^ 10 % 2 ^ 5) (bits % 2 ^ 10)

abbrev pub number_of_single : ℕ → ℕ
number_of_single bits = magnitude 23 (bits / 2 ^ 23 % 2 ^ 8) (bits % 2 ^ 23)

abbrev pub number_of_double : ℕ → ℕ
number_of_double bits = magnitude 52 (bits / 2 ^ 52 % 2 ^ 11) (bits % 2 ^ 52)
