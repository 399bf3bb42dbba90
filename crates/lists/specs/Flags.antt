-- Truth values.
use Rattle.std.specs.Prelude.{Bool, true, false, not}

-- whether both are the same
abbrev pub same_flag : Bool → Bool → Bool
same_flag true b = b
same_flag false b = not b
