-- The limit of the marks.
use Rattle.std.specs.Prelude.{ℕ}

-- the marks of fields are below this number
abbrev pub mark_limit : ℕ
mark_limit = 32
