-- The rows of pairs by their places.
use Rattle.std.proofs.Common.{◌≡◌, List, [], ◌∷◌, map, refl, ap}
use Rattle.otap_cells.specs.Cells.{Cell}
use Rattle.otap_attrs.specs.declared.pairs.PlacedPair.{PlacedPair}
use Rattle.otap_attrs.specs.Inside.{placed_row, seen_placed}
use Rattle.otap_attrs.specs.Tables.{row_of_pair}

pub rows_of_placed : (ps : List PlacedPair) → map placed_row ps ≡ map row_of_pair (map seen_placed ps)
rows_of_placed [] = refl
rows_of_placed (p ∷ ps) = ap (λ (rows : List (List Cell)). placed_row p ∷ rows) (rows_of_placed ps)
