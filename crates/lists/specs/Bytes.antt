-- The texts and the byte strings that a program can hold.
use Rattle.std.specs.Prelude.{ℕ, ◌^◌, ◌&&◌, Bool, length, List, nat_lt}
use Rattle.std.specs.List.{list_all}
use Rattle.std.specs.Str.{is_utf8}

-- UTF-8 (RFC 3629) of fewer than 2^64 bytes
unfoldable pub is_real_text : List ℕ → Bool
is_real_text text = is_utf8 text && nat_lt (length text) (2 ^ 64)

-- fewer than 2^64 numbers, each below 256
unfoldable pub is_real_octets : List ℕ → Bool
is_real_octets octets = list_all (λ byte. nat_lt byte 256) octets && nat_lt (length octets) (2 ^ 64)
