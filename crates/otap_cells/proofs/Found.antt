-- The table of a kind, in a set of pairs of a kind and its table.
use Rattle.std.proofs.Common.{◌≡◌, suc, true, false, if◌then◌else◌, Some, List, [], ◌∷◌, refl, arith}
use Rattle.std.specs.Prelude.{All}
use Rattle.otap_cells.specs.declared.payload.Kind.{Kind}
use Rattle.otap_cells.specs.Payload.{is_kind}
use Rattle.otap_cells.specs.Tables.{Table}
use Rattle.otap_cells.specs.Sets.{named, rows_of, rows_named, tables_in}

pub rows_of-named : {R : Type 0} (table : R → Table) (kind : Kind) (pairs : List (Kind × R)) → All (λ pair. (table pair.1).kind ≡ pair.0) pairs
    → rows_of table (named kind pairs) ≡ rows_named kind (tables_in table pairs)
rows_of-named table kind [] beside = refl
rows_of-named table kind (pair ∷ pairs) beside =
    rw (beside 0 pair (omega arith))
    (elim (is_kind pair.0 kind) as (λ found. rows_of table (if found then Some pair.1 else named kind pairs) ≡ (if found then (table pair.1).rows else rows_named kind (tables_in table pairs))) [
      | true ↦ refl
      | false ↦ rows_of-named table kind pairs (λ k d within. beside (suc k) d (omega arith))
    ])
