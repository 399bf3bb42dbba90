-- Columns whose cells are null.
use Rattle.std.proofs.Common.{◌≡◌, ℕ, zero, suc, List, [], ◌∷◌, refl, ap, arith}
use Rattle.std.specs.Prelude.{sum_by}
use Rattle.std.specs.List.{slice_index_or}
use Rattle.std.proofs.lemmas.List.Sums.{sum_by-cons}
use Rattle.otap_cells.specs.Cells.{Cell, null}
use Rattle.otap_cells.specs.Tables.{IsNullColumn, column_in}
use Rattle.otap_cells.specs.Weights.{cell_weight}

-- they weigh nothing
pub no_weight : (rows : List (List Cell)) (column : ℕ) → IsNullColumn rows column → sum_by cell_weight (column_in rows column) ≡ 0
no_weight [] column nulls = refl
no_weight (row ∷ rows) column nulls =
    let here : cell_weight (slice_index_or row column null) ≡ 0 = ap cell_weight (nulls 0 (omega arith)) in
    let rest = no_weight rows column (λ k below. nulls (suc k) (omega (arith, below))) in
    let both = sum_by-cons cell_weight (slice_index_or row column null) (column_in rows column) in
    omega (arith, here, rest, both)
