-- Words of an invariant and of private contracts: rows by the parents that they name, and parents among numbers.
use Rattle.std.specs.Prelude.{ℕ, ◌<◌, All, List, Option, Some, Contains}
use Rattle.std.specs.List.Sorted.{IsNonDecreasingBy}
use Rattle.otap_groups.specs.declared.entry.ChildEntry.{ChildEntry}

-- entries are in the order of their parents, and name rows of a table that has this number of them
pub record IsByParent (entries : List ChildEntry) (count : ℕ) : Type 0 where
  pub rising : IsNonDecreasingBy (λ (e : ChildEntry). e.parent) entries
  pub below : All (λ (e : ChildEntry). e.place < count) entries

-- a parent isn't among numbers
pub record Lacks (parents : List (Option ℕ)) (numbers : List ℕ) : Type 0 where
  pub parent : ℕ
  pub named : Contains parents (Some parent)
  pub missing : Contains numbers parent → ⊥
