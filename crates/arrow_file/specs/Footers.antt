-- How a footer is built: used in private contracts.
use Rattle.std.specs.Prelude.{◌≡◌, ℕ, ◌-◌, ◌<◌, ◌^◌, List, [], ◌∷◌, length, Ok, Some, pos}
use Rattle.std.specs.Int.{w16}
use Rattle.lists.specs.Results.{◌>>=◌}
use Rattle.flat_tables.specs.Tables.{TableIn, root_at, table_at, or_default, signed_slot, table_slot}
use Rattle.flat_tables.specs.Building.{Grows, IsPadded}
use Rattle.arrow_ipc.specs.Written.{version_5, IsTableOf, RootAfterZeros}
use Rattle.arrow_file.specs.declared.block.Block.{Block}
use Rattle.arrow_file.specs.Written.{HoldsBlocks}

-- the footer whose schema was built at an offset, counted from the end, and which has these blocks
pub record IsFooter (built : List ℕ) (schema : ℕ) (blocks : List Block) (footer : List ℕ) : Type 0 where
  pub grows : Grows built footer
  pub table : TableIn
  pub root : root_at footer ≡ Ok table
  pub version : or_default (pos 0) (signed_slot w16 2 table 0) ≡ Ok version_5
  pub has_schema : table_slot table 1 ≡ (table_at footer (length footer - schema) >>= λ inner. Ok (Some inner))
  pub dictionaries : HoldsBlocks table 2 []
  pub batches : HoldsBlocks table 3 blocks
  pub padded : IsPadded footer
  pub zeros : RootAfterZeros footer table
  pub aligned : IsTableOf (2 ∷ 4 ∷ 4 ∷ 4 ∷ []) table
  pub small : length footer < 2 ^ 31
