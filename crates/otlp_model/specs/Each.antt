-- What holds of each part of a list, as one fact.
use Rattle.std.specs.Prelude.{List, All}

pub record Each {A : Type 0} (P : A → Type 0) (parts : List A) : Type 0 where
  pub at : All P parts
