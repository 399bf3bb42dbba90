-- How long what is written may be.
use Rattle.std.specs.Prelude.{ℕ}

-- the most bytes of a head (RFC 8949, section 3): one that says its kind, and an argument of 64 bits
abbrev pub longest_head : ℕ
longest_head = 9
