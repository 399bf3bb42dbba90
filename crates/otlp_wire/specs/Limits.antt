-- Which numbers fields may have (protobuf language specification, "Assigning Field Numbers").
use Rattle.std.specs.Prelude.{ℕ, ◌^◌}

-- each field number is below this one
abbrev pub number_limit : ℕ
number_limit = 2 ^ 29
