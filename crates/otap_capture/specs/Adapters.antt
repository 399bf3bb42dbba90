-- A reader or a writer of std, and how often it failed.
use Rattle.std.specs.Prelude.{ℕ}

pub record Adapter (X : Type 0) : Type 0 where
  pub inner : X
  pub faults : ℕ
