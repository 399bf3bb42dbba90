-- What an index of a table of attributes finds.
use Rattle.std.proofs.Common.{◌≡◌, ◌∙◌, ℕ, ◌+◌, ◌<◌, ◌≤◌, ◌^◌, List, [], ◌∷◌, ◌++◌, map, drop, take, min, length, get_or, Some, refl, sym, ap, subst, arith}
use Rattle.std.specs.Prelude.{All}
use Rattle.std.proofs.lemmas.List.{append-nil, drop_all, drop_more, get_or-map, length-map, map_more}
use Rattle.std.proofs.lemmas.List.Elements.{All-get_or, All-head, All-tail}
use Rattle.otlp_model.specs.declared.value.Pair.{Pair}
use Rattle.otlp_model.specs.Weight.{total, weight_of_pair}
use Rattle.otap_cells.specs.Cells.{Cell}
use Rattle.otap_cells.specs.Tables.{Table}
use Rattle.otap_groups.specs.declared.entry.ChildEntry.{ChildEntry}
use Rattle.otap_groups.specs.Found.{child_at, of_parent}
use Rattle.otap_groups.proofs.IndexLaws.{found_below}
use Rattle.otap_attrs.specs.Index.{IndexIn, IsIndexOf, pairs_in, pair_weight_in}
use Rattle.otap_attrs.specs.Values.{pair_in}

-- the pair of a row
abbrev pub pair_of : List (List Cell) → ChildEntry → Pair
pair_of rows entry = child_at (λ id cells. pair_in cells) [] (map (drop 1) rows) entry.place

-- what the pair of a row weighs
weight_at : (rows : List (List Cell)) (row : ℕ) → row < length rows
    → min (weight_of_pair (pair_in (get_or (map (drop 1) rows) row []))) (2 ^ 63) ≡ pair_weight_in (get_or rows row [])
weight_at rows row within = ap (λ (cells : List Cell). min (weight_of_pair (pair_in cells)) (2 ^ 63)) (get_or-map (drop 1) rows row [] [] within)

-- the weight of a row's pair among those that are known
pub weight_known : (rows : List (List Cell)) (weights : List ℕ) (row : ℕ) → weights ≡ map pair_weight_in rows → row < length (map (drop 1) rows)
    → get_or weights row 0 ≡ min (weight_of_pair (pair_in (get_or (map (drop 1) rows) row []))) (2 ^ 63)
weight_known rows weights row are inside =
    let within : row < length rows = omega (arith, inside, length-map rows (drop 1)) in
    ap (λ ws. get_or ws row 0) are ∙ get_or-map pair_weight_in rows row [] 0 within ∙ sym (weight_at rows row within)

pub weights_more : (rows : List (List Cell)) (row weight : ℕ) (old new : List ℕ) → row < length rows
    → weight ≡ min (weight_of_pair (pair_in (get_or (map (drop 1) rows) row []))) (2 ^ 63) → new ≡ old ++ weight ∷ []
    → old ≡ map pair_weight_in (take row rows) → new ≡ map pair_weight_in (take (row + 1) rows)
weights_more rows row weight old new within is pushed so_far =
    pushed ∙ (λ i. so_far i ++ (is ∙ weight_at rows row within) i ∷ []) ∙ sym (map_more pair_weight_in rows row [] within)

-- weights up to a number, summed up to it
pub weigh_all : (rows : List (List Cell)) (entries : List ChildEntry) → All (λ (e : ChildEntry). e.place < length rows) entries
    → min (total 32 (λ (e : ChildEntry). get_or (map pair_weight_in rows) e.place 0) entries) (2 ^ 63) ≡ min (total 32 weight_of_pair (map (pair_of rows) entries)) (2 ^ 63)
weigh_all rows [] below = refl
weigh_all rows (entry ∷ entries) below =
    let within : entry.place < length rows = All-head (λ (e : ChildEntry). e.place < length rows) entry entries below in
    let here : get_or (map pair_weight_in rows) entry.place 0 ≡ min (weight_of_pair (pair_of rows entry)) (2 ^ 63) =
    get_or-map pair_weight_in rows entry.place [] 0 within ∙ sym (weight_at rows entry.place within) in
    let more = weigh_all rows entries (All-tail (λ (e : ChildEntry). e.place < length rows) entry entries below) in
    omega (arith, here, more)

-- one more weight, and all of them
module _ (weigh : ChildEntry → ℕ) (entries : List ChildEntry) where
  pub weigh_more : (k : ℕ) (d : ChildEntry) (so_far one sum : ℕ) → k < length entries → one ≡ min (32 + weigh (get_or entries k d)) (2 ^ 63)
      → sum ≡ min (so_far + one) (2 ^ 63) → min (so_far + total 32 weigh (drop k entries)) (2 ^ 63) ≡ min (total 32 weigh entries) (2 ^ 63)
      → min (sum + total 32 weigh (drop (k + 1) entries)) (2 ^ 63) ≡ min (total 32 weigh entries) (2 ^ 63)
  weigh_more k d so_far one sum within is added before =
      let next : total 32 weigh (drop k entries) ≡ 32 + weigh (get_or entries k d) + total 32 weigh (drop (k + 1) entries) =
      ap (total 32 weigh) (drop_more entries k d within) in
      omega (arith, is, added, before, next)

  pub weigh_done : (k sum : ℕ) → length entries ≤ k → sum ≤ 2 ^ 63
      → min (sum + total 32 weigh (drop k entries)) (2 ^ 63) ≡ min (total 32 weigh entries) (2 ^ 63) → sum ≡ min (total 32 weigh entries) (2 ^ 63)
  weigh_done k sum past capped so_far =
      let none : total 32 weigh (drop k entries) ≡ 0 = ap (total 32 weigh) (drop_all k entries past) in
      omega (arith, none, so_far, capped)

-- all pairs
pub pairs_done : (rows : List (List Cell)) (entries : List ChildEntry) (pairs : List Pair) (k : ℕ) → length entries ≤ k
    → pairs ++ map (pair_of rows) (drop k entries) ≡ map (pair_of rows) entries → pairs ≡ map (pair_of rows) entries
pairs_done rows entries pairs k past so_far =
    sym (append-nil pairs) ∙ sym (ap (λ (es : List ChildEntry). pairs ++ map (pair_of rows) es) (drop_all k entries past)) ∙ so_far

-- the rows of a parent are below what all rows are below
pub place_below : (n parent : ℕ) (all entries : List ChildEntry) (k : ℕ) (d : ChildEntry) → entries ≡ of_parent parent all → All (λ (e : ChildEntry). e.place < n) all
    → k < length entries → (get_or entries k d).place < n
place_below n parent all entries k d are below within =
    All-get_or (λ (e : ChildEntry). e.place < n) entries k d within
    (subst (λ (es : List ChildEntry). All (λ (e : ChildEntry). e.place < n) es) (sym are) (found_below n all (Some parent) below))

module _ (t : Table) (index : IndexIn) (parent : ℕ) (is : IsIndexOf t index) where
  pub below_rows : (entries : List ChildEntry) → entries ≡ of_parent parent index.entries → All (λ (e : ChildEntry). e.place < length index.weights) index.entries
      → All (λ (e : ChildEntry). e.place < length t.rows) entries
  below_rows entries are below =
      let long : length index.weights ≡ length t.rows = ap length is.weights ∙ length-map t.rows pair_weight_in in
      subst (λ (es : List ChildEntry). All (λ (e : ChildEntry). e.place < length t.rows) es) (sym are)
      (found_below (length t.rows) index.entries (Some parent) (subst (λ n. All (λ (e : ChildEntry). e.place < n) index.entries) long below))

  -- the weights of a parent's rows are those of its pairs
  pub weighs_pairs : (entries : List ChildEntry) → entries ≡ of_parent parent index.entries → All (λ (e : ChildEntry). e.place < length index.weights) index.entries
      → min (total 32 (λ (e : ChildEntry). get_or index.weights e.place 0) entries) (2 ^ 63) ≡ min (total 32 weight_of_pair (pairs_in t (Some parent))) (2 ^ 63)
  weighs_pairs entries are below =
      ap (λ (weights : List ℕ). min (total 32 (λ (e : ChildEntry). get_or weights e.place 0) entries) (2 ^ 63)) is.weights
      ∙ weigh_all t.rows entries (below_rows entries are below)
      ∙ ap (λ (es : List ChildEntry). min (total 32 weight_of_pair (map (pair_of t.rows) es)) (2 ^ 63)) are
      ∙ ap (λ (pairs : List Pair). min (total 32 weight_of_pair pairs) (2 ^ 63)) (is.finds (Some parent))

  -- the pairs of a parent's rows
  pub are_pairs : (entries : List ChildEntry) → entries ≡ of_parent parent index.entries → map (pair_of t.rows) entries ≡ pairs_in t (Some parent)
  are_pairs entries are = ap (map (pair_of t.rows)) are ∙ is.finds (Some parent)
