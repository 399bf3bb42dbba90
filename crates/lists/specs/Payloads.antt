-- Payloads of batches, without where their bytes lie in memory.
use Rattle.std.specs.Prelude.{ℕ, ℤ, List}

-- a payload: the id of its schema, the number of its type, and the bytes of its record
pub record PayloadIn : Type 0 where
  pub schema_id : List ℕ
  pub kind : ℤ
  pub bytes : List ℕ
