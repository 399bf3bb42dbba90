-- The messages of a file, as a view hands them out.
use Rattle.std.specs.Prelude.{ℕ, List}

pub record FileIn : Type 0 where
  pub schema : List ℕ
  pub dictionaries : List (List ℕ)
  pub batches : List (List ℕ)
