-- A test of each number below one.
use Rattle.std.specs.Prelude.{ℕ, zero, suc, Bool, true, ◌&&◌}

-- whether a test holds for each number below n
abbrev pub all_below : (ℕ → Bool) → ℕ → Bool
all_below test zero = true
all_below test (suc n) = all_below test n && test n
