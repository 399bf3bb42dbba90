-- Pairs, one after the other, and what each of them weighs.
use Rattle.std.proofs.Common.{◌≡◌, ℕ, zero, suc, ◌<◌, ◌≤◌, List, [], ◌∷◌, length, refl, ap, ◌∙◌, arith}
use Rattle.std.proofs.Common.{map, drop}
use Rattle.std.specs.List.{slice_index_or}
use Rattle.otlp_model.specs.declared.value.Pair.{Pair}
use Rattle.otlp_model.specs.Weight.{total, weight_of_pair, weight_of_value}
use Rattle.std.proofs.Math.ListN.{get_or-map}
use Rattle.otap_cells.specs.Cells.{Cell, null, bytes_in, cell_at}
use Rattle.otap_cells.specs.Tables.{cell_in}
use Rattle.otap_attrs.specs.Values.{pair_in, value_in}

-- none weighs more than all
pub value_weight : (pairs : List Pair) (k n : ℕ) (d : Pair) → total 32 weight_of_pair pairs ≤ n → k < length pairs → weight_of_value (slice_index_or pairs k d).value ≤ n
value_weight [] k n d all within = absurd (omega arith)
value_weight (pair ∷ pairs) zero n d all within = omega arith
value_weight (pair ∷ pairs) (suc k) n d all within = value_weight pairs k n d (omega arith) (omega arith)

-- ---- reading

-- cells after two, and after one and one more
pub after_both : (row : List Cell) → drop 1 (drop 1 row) ≡ drop 2 row
after_both [] = refl
after_both (a ∷ []) = refl
after_both (a ∷ b ∷ row) = refl

key_after : (row : List Cell) → cell_at (drop 1 row) 0 ≡ slice_index_or row 1 null
key_after [] = refl
key_after (a ∷ row) = refl

pub pair_at : (rows : List (List Cell)) (k : ℕ)
    → pair_in (slice_index_or (map (drop 1) rows) k []) ≡ record { key = bytes_in (cell_in rows 1 k); value = value_in (drop 2 (slice_index_or rows k [])) }
unfolding pair_in
pair_at rows k =
    let row : List Cell = slice_index_or rows k [] in
    ap pair_in (get_or-map (drop 1) rows k [])
    ∙ (λ i. record { key = ap bytes_in (key_after row) i; value = ap value_in (after_both row) i })
