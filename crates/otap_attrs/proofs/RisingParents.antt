-- The parents of pairs that come parent by parent rise.
use Rattle.std.proofs.Common.{ℕ, suc, ◌≤◌, List, [], ◌∷◌, ◌++◌, map, sym, subst, arith}
use Rattle.std.specs.List.{AllByRecursion}
use Rattle.std.proofs.lemmas.List.{map-append}
use Rattle.otlp_model.specs.declared.value.Pair.{Pair}
use Rattle.lists.proofs.Every.{every_append}
use Rattle.otap_cells.specs.Cells.{Cell}
use Rattle.otap_groups.specs.Flat.{placed, placed_at, placed_from}
use Rattle.otap_attrs.specs.Inside.{ParentsRise}
use Rattle.otap_attrs.specs.Sorting.{parent_in}
use Rattle.otap_attrs.specs.Tables.{row_of_pair}

abbrev From : ℕ → List Cell → Type 0
From k row = k ≤ parent_in row

one_from : (k n : ℕ) (pairs : List Pair) → k ≤ n → AllByRecursion (From k) (map row_of_pair (map (placed_at n) pairs))
one_from k n [] few = tt
one_from k n (pair ∷ pairs) few = (few, one_from k n pairs few)

all_from : (k n : ℕ) (lists : List (List Pair)) → k ≤ n → AllByRecursion (From k) (map row_of_pair (placed_from n lists))
all_from k n [] few = tt
all_from k n (pairs ∷ lists) few =
    subst (AllByRecursion (From k)) (sym (map-append row_of_pair (map (placed_at n) pairs) (placed_from (suc n) lists)))
    (every_append (From k) (map row_of_pair (map (placed_at n) pairs)) (map row_of_pair (placed_from (suc n) lists)) (one_from k n pairs few) (all_from k (suc n) lists (omega (arith, few))))

one_rises : (k : ℕ) (pairs : List Pair) (rest : List (List Cell)) → AllByRecursion (From k) rest → ParentsRise rest → ParentsRise (map row_of_pair (map (placed_at k) pairs) ++ rest)
one_rises k [] rest later rise = rise
one_rises k (pair ∷ pairs) rest later rise =
    (every_append (From k) (map row_of_pair (map (placed_at k) pairs)) rest (one_from k k pairs (omega arith)) later, one_rises k pairs rest later rise)

all_rise : (k : ℕ) (lists : List (List Pair)) → ParentsRise (map row_of_pair (placed_from k lists))
all_rise k [] = tt
all_rise k (pairs ∷ lists) =
    subst ParentsRise (sym (map-append row_of_pair (map (placed_at k) pairs) (placed_from (suc k) lists)))
    (one_rises k pairs (map row_of_pair (placed_from (suc k) lists)) (all_from k (suc k) lists (omega arith)) (all_rise (suc k) lists))

pub parents_rise : (lists : List (List Pair)) → ParentsRise (map row_of_pair (placed lists))
unfolding placed
parents_rise lists = all_rise 0 lists
