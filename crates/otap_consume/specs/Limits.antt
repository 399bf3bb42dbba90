-- The limit on what is held.
use Rattle.std.specs.Prelude.{ℕ, ◌^◌}

-- how much the dictionaries of all sub-streams that are open hold at most: the bytes of each value, and 8 for each
abbrev pub held_limit : ℕ
held_limit = 2 ^ 28
