-- The own cells of points stand in their rows after those of the front.
use Rattle.std.proofs.Common.{◌≡◌, ℕ, ◌+◌, ◌*◌, ◌/◌, ◌^◌, ◌<◌, List, [], ◌∷◌, map, drop, length, ◌∙◌, sym, ap, arith}
use Rattle.std.specs.Prelude.{min, sum}
use Rattle.std.proofs.lemmas.List.{length-map}
use Rattle.lists.proofs.Numbers.{capped_both}
use Rattle.otlp_model.specs.Weight.{total, weight_of_exemplar, weight_of_hist_point, weight_of_pair, weight_of_point, weight_of_quantile, weight_of_sum_point}
use Rattle.otlp_model.specs.declared.histograms.HistPoint.{HistPoint}
use Rattle.otlp_model.specs.declared.histograms.SumPoint.{SumPoint}
use Rattle.otlp_model.specs.declared.metrics.Exemplar.{Exemplar}
use Rattle.otlp_model.specs.declared.metrics.Point.{Point}
use Rattle.otlp_model.specs.declared.value.Pair.{Pair}
use Rattle.otap_cells.specs.Cells.{Cell, bytes_in, nat_in, cell_at}
use Rattle.otap_cells.specs.Scalars.{bits_in}
use Rattle.otap_cells.specs.Tables.{cell_in}
use Rattle.otlp_model.proofs.Totals.{below_weighs}
use Rattle.lists.specs.Numbers.{little_numbers}
use Rattle.otap_checks.specs.Measured.{element_count}
use Rattle.otap_points.specs.Lists.{list_in}
use Rattle.otap_points.specs.Numbers.{measured_in}
use Rattle.otap_points.specs.Points.{exemplar_of, hist_point_of, optional_in, point_of, quantiles_of, sum_point_of}
use Rattle.lists.proofs.Numbers.{length-little_numbers}
use Rattle.otap_cells.proofs.OwnCells.{length_own, own_cell, own_cells}

-- ---- reading

pub exemplar_read : (exemplar : Exemplar) (rows : List (List Cell)) (row : ℕ) (pairs : List Pair) → row < length (map (drop 2) rows)
    → exemplar.time ≡ bits_in (cell_in rows 2 row) → exemplar.value ≡ measured_in (cell_in rows 3 row) (cell_in rows 4 row)
    → exemplar.span_id ≡ bytes_in (cell_in rows 5 row) → exemplar.trace_id ≡ bytes_in (cell_in rows 6 row) → exemplar.pairs ≡ pairs
    → exemplar ≡ exemplar_of (own_cells 2 rows row) pairs
unfolding exemplar_of
exemplar_read exemplar rows row pairs inside is_time is_value is_span is_trace are_pairs =
    let within : row < length rows = simp length-map at inside in λ i. record {
      time = (is_time ∙ ap bits_in (sym (own_cell 2 rows row 0 within))) i;
      value = (is_value ∙ (λ j. measured_in (sym (own_cell 2 rows row 1 within) j) (sym (own_cell 2 rows row 2 within) j))) i;
      span_id = (is_span ∙ ap bytes_in (sym (own_cell 2 rows row 3 within))) i;
      trace_id = (is_trace ∙ ap bytes_in (sym (own_cell 2 rows row 4 within))) i;
      pairs = are_pairs i;
    }

pub point_read : (point : Point) (rows : List (List Cell)) (row : ℕ) (pairs : List Pair) (exemplars : List Exemplar) → row < length (map (drop 2) rows)
    → point.start ≡ bits_in (cell_in rows 2 row) → point.time ≡ bits_in (cell_in rows 3 row) → point.value ≡ measured_in (cell_in rows 4 row) (cell_in rows 5 row)
    → point.flags ≡ nat_in (cell_in rows 6 row) → point.pairs ≡ pairs → point.exemplars ≡ exemplars → point ≡ point_of (own_cells 2 rows row) pairs exemplars
unfolding point_of
point_read point rows row pairs exemplars inside is_start is_time is_value is_flags are_pairs are_exemplars =
    let within : row < length rows = simp length-map at inside in λ i. record {
      start = (is_start ∙ ap bits_in (sym (own_cell 2 rows row 0 within))) i;
      time = (is_time ∙ ap bits_in (sym (own_cell 2 rows row 1 within))) i;
      value = (is_value ∙ (λ j. measured_in (sym (own_cell 2 rows row 2 within) j) (sym (own_cell 2 rows row 3 within) j))) i;
      flags = (is_flags ∙ ap nat_in (sym (own_cell 2 rows row 4 within))) i;
      pairs = are_pairs i;
      exemplars = are_exemplars i;
    }

pub hist_read : (point : HistPoint) (rows : List (List Cell)) (row : ℕ) (pairs : List Pair) (exemplars : List Exemplar) → row < length (map (drop 2) rows)
    → point.start ≡ bits_in (cell_in rows 2 row) → point.time ≡ bits_in (cell_in rows 3 row) → point.count ≡ bits_in (cell_in rows 4 row)
    → point.sum ≡ optional_in (cell_in rows 7 row) → point.buckets ≡ list_in (cell_in rows 5 row) → point.bounds ≡ list_in (cell_in rows 6 row)
    → point.min ≡ optional_in (cell_in rows 9 row) → point.max ≡ optional_in (cell_in rows 10 row) → point.flags ≡ nat_in (cell_in rows 8 row)
    → point.pairs ≡ pairs → point.exemplars ≡ exemplars → point ≡ hist_point_of (own_cells 2 rows row) pairs exemplars
unfolding hist_point_of
hist_read point rows row pairs exemplars inside is_start is_time is_count is_sum is_buckets is_bounds is_min is_max is_flags are_pairs are_exemplars =
    let within : row < length rows = simp length-map at inside in λ i. record {
      start = (is_start ∙ ap bits_in (sym (own_cell 2 rows row 0 within))) i;
      time = (is_time ∙ ap bits_in (sym (own_cell 2 rows row 1 within))) i;
      count = (is_count ∙ ap bits_in (sym (own_cell 2 rows row 2 within))) i;
      buckets = (is_buckets ∙ ap list_in (sym (own_cell 2 rows row 3 within))) i;
      bounds = (is_bounds ∙ ap list_in (sym (own_cell 2 rows row 4 within))) i;
      sum = (is_sum ∙ ap optional_in (sym (own_cell 2 rows row 5 within))) i;
      flags = (is_flags ∙ ap nat_in (sym (own_cell 2 rows row 6 within))) i;
      min = (is_min ∙ ap optional_in (sym (own_cell 2 rows row 7 within))) i;
      max = (is_max ∙ ap optional_in (sym (own_cell 2 rows row 8 within))) i;
      pairs = are_pairs i;
      exemplars = are_exemplars i;
    }

pub summary_read : (point : SumPoint) (rows : List (List Cell)) (row : ℕ) (pairs : List Pair) (asked values : List ℕ) → row < length (map (drop 2) rows)
    → asked ≡ bytes_in (cell_in rows 6 row) → values ≡ bytes_in (cell_in rows 7 row)
    → point.start ≡ bits_in (cell_in rows 2 row) → point.time ≡ bits_in (cell_in rows 3 row) → point.count ≡ bits_in (cell_in rows 4 row)
    → point.sum ≡ bits_in (cell_in rows 5 row) → point.quantiles ≡ quantiles_of (little_numbers (length asked / 8) asked) (little_numbers (length values / 8) values)
    → point.flags ≡ nat_in (cell_in rows 8 row) → point.pairs ≡ pairs → point ≡ sum_point_of (own_cells 2 rows row) pairs
unfolding sum_point_of
summary_read point rows row pairs asked values inside is_asked are_values is_start is_time is_count is_sum are_quantiles is_flags are_pairs =
    let within : row < length rows = simp length-map at inside in λ i. record {
      start = (is_start ∙ ap bits_in (sym (own_cell 2 rows row 0 within))) i;
      time = (is_time ∙ ap bits_in (sym (own_cell 2 rows row 1 within))) i;
      count = (is_count ∙ ap bits_in (sym (own_cell 2 rows row 2 within))) i;
      sum = (is_sum ∙ ap bits_in (sym (own_cell 2 rows row 3 within))) i;
      quantiles = (are_quantiles
          ∙ (λ j. quantiles_of (little_numbers (length (is_asked j) / 8) (is_asked j)) (little_numbers (length (are_values j) / 8) (are_values j)))
          ∙ (λ j. quantiles_of (list_in (sym (own_cell 2 rows row 4 within) j)) (list_in (sym (own_cell 2 rows row 5 within) j)))) i;
      flags = (is_flags ∙ ap nat_in (sym (own_cell 2 rows row 6 within))) i;
      pairs = are_pairs i;
    }

-- ---- weights, told from the bytes of cells and from what is below

exemplar_sum : (a b p n x : ℕ) → p ≡ min x (2 ^ 63) → n ≡ min (sum (a ∷ b ∷ p ∷ [])) (2 ^ 63) → n ≡ min (a + b + x) (2 ^ 63)
exemplar_sum a b p n x of_p of_n = omega arith

pub exemplar_weighs : (rows : List (List Cell)) (row : ℕ) (pairs : List Pair) (span trace : List ℕ) (of_pairs total_weight : ℕ) (weigh : Pair → ℕ) → row < length (map (drop 2) rows)
    → span ≡ bytes_in (cell_in rows 5 row) → trace ≡ bytes_in (cell_in rows 6 row) → ((pair : Pair) → weigh pair ≡ weight_of_pair pair) → of_pairs ≡ min (total 32 weigh pairs) (2 ^ 63)
    → total_weight ≡ min (sum (length span ∷ length trace ∷ of_pairs ∷ [])) (2 ^ 63)
    → total_weight ≡ min (weight_of_exemplar (exemplar_of (own_cells 2 rows row) pairs)) (2 ^ 63)
unfolding exemplar_of
exemplar_weighs rows row pairs span trace of_pairs total_weight weigh inside is_span is_trace same is_pairs is_total =
    let within : row < length rows = simp length-map at inside in
    exemplar_sum (length span) (length trace) of_pairs total_weight (total 32 weight_of_pair pairs) (below_weighs of_pairs weigh weight_of_pair pairs same is_pairs) is_total
    ∙ (λ i. min (length_own 2 rows row 3 span within is_span i + length_own 2 rows row 4 trace within is_trace i + total 32 weight_of_pair pairs) (2 ^ 63))

pub point_weighs : (cells : List Cell) (pairs : List Pair) (exemplars : List Exemplar) (of_pairs of_exemplars total_weight : ℕ) (weigh_pair : Pair → ℕ) (weigh_exemplar : Exemplar → ℕ)
    → ((pair : Pair) → weigh_pair pair ≡ weight_of_pair pair) → of_pairs ≡ min (total 32 weigh_pair pairs) (2 ^ 63)
    → ((exemplar : Exemplar) → weigh_exemplar exemplar ≡ weight_of_exemplar exemplar) → of_exemplars ≡ min (total 32 weigh_exemplar exemplars) (2 ^ 63)
    → total_weight ≡ min (sum (of_pairs ∷ of_exemplars ∷ [])) (2 ^ 63) → total_weight ≡ min (weight_of_point (point_of cells pairs exemplars)) (2 ^ 63)
unfolding point_of
point_weighs cells pairs exemplars of_pairs of_exemplars total_weight weigh_pair weigh_exemplar same_pairs is_pairs same_exemplars is_exemplars is_total =
    capped_both of_pairs of_exemplars total_weight (total 32 weight_of_pair pairs) (total 32 weight_of_exemplar exemplars)
    (below_weighs of_pairs weigh_pair weight_of_pair pairs same_pairs is_pairs) (below_weighs of_exemplars weigh_exemplar weight_of_exemplar exemplars same_exemplars is_exemplars) is_total

-- how many elements a cell has, by its place among the own ones
count_own : (rows : List (List Cell)) (row k : ℕ) (part : List ℕ) → row < length rows → part ≡ bytes_in (cell_in rows (2 + k) row)
    → length part / 8 ≡ length (list_in (cell_at (own_cells 2 rows row) k))
count_own rows row k part within is =
    ap (λ (part : List ℕ). length part / 8) (is ∙ ap bytes_in (sym (own_cell 2 rows row k within)))
    ∙ sym (length-little_numbers (element_count (cell_at (own_cells 2 rows row) k)) (bytes_in (cell_at (own_cells 2 rows row) k)))

hist_sum : (a b wa wb p e n x y : ℕ) → wa ≡ min (8 * a) (2 ^ 63) → wb ≡ min (8 * b) (2 ^ 63) → p ≡ min x (2 ^ 63) → e ≡ min y (2 ^ 63)
    → n ≡ min (sum (wa ∷ wb ∷ p ∷ e ∷ [])) (2 ^ 63) → n ≡ min (8 * a + 8 * b + x + y) (2 ^ 63)
hist_sum a b wa wb p e n x y of_a of_b of_p of_e of_n = omega arith

pub hist_weighs : (rows : List (List Cell)) (row : ℕ) (pairs : List Pair) (exemplars : List Exemplar) (buckets bounds : List ℕ) (a b wa wb of_pairs of_exemplars total_weight : ℕ)
    (weigh_pair : Pair → ℕ) (weigh_exemplar : Exemplar → ℕ) → row < length (map (drop 2) rows)
    → buckets ≡ bytes_in (cell_in rows 5 row) → a ≡ length buckets → wa ≡ min (8 * (a / 8)) (2 ^ 63)
    → bounds ≡ bytes_in (cell_in rows 6 row) → b ≡ length bounds → wb ≡ min (8 * (b / 8)) (2 ^ 63)
    → ((pair : Pair) → weigh_pair pair ≡ weight_of_pair pair) → of_pairs ≡ min (total 32 weigh_pair pairs) (2 ^ 63)
    → ((exemplar : Exemplar) → weigh_exemplar exemplar ≡ weight_of_exemplar exemplar) → of_exemplars ≡ min (total 32 weigh_exemplar exemplars) (2 ^ 63)
    → total_weight ≡ min (sum (wa ∷ wb ∷ of_pairs ∷ of_exemplars ∷ [])) (2 ^ 63)
    → total_weight ≡ min (weight_of_hist_point (hist_point_of (own_cells 2 rows row) pairs exemplars)) (2 ^ 63)
unfolding hist_point_of
hist_weighs rows row pairs exemplars buckets bounds a b wa wb of_pairs of_exemplars total_weight weigh_pair weigh_exemplar inside is_buckets is_a is_wa is_bounds is_b is_wb same_pairs is_pairs
    same_exemplars is_exemplars is_total =
    let within : row < length rows = simp length-map at inside in
    hist_sum (a / 8) (b / 8) wa wb of_pairs of_exemplars total_weight (total 32 weight_of_pair pairs) (total 32 weight_of_exemplar exemplars) is_wa is_wb
    (below_weighs of_pairs weigh_pair weight_of_pair pairs same_pairs is_pairs) (below_weighs of_exemplars weigh_exemplar weight_of_exemplar exemplars same_exemplars is_exemplars) is_total
    ∙ (λ i. min (8 * (ap (λ n. n / 8) is_a ∙ count_own rows row 3 buckets within is_buckets) i + 8 * (ap (λ n. n / 8) is_b ∙ count_own rows row 4 bounds within is_bounds) i
    + total 32 weight_of_pair pairs + total 32 weight_of_exemplar exemplars) (2 ^ 63))

quantiles_long : (xs ys : List ℕ) → total 16 weight_of_quantile (quantiles_of xs ys) ≡ 16 * min (length xs) (length ys)
quantiles_long [] ys = omega arith
quantiles_long (x ∷ xs) [] = omega arith
quantiles_long (x ∷ xs) (y ∷ ys) = let more = quantiles_long xs ys in omega (arith, more)

pub summary_weighs : (rows : List (List Cell)) (row : ℕ) (pairs : List Pair) (asked values : List ℕ) (a b of_quantiles of_pairs total_weight : ℕ) (weigh : Pair → ℕ)
    → row < length (map (drop 2) rows)
    → asked ≡ bytes_in (cell_in rows 6 row) → a ≡ length asked → values ≡ bytes_in (cell_in rows 7 row) → b ≡ length values
    → of_quantiles ≡ min (16 * min (a / 8) (b / 8)) (2 ^ 63)
    → ((pair : Pair) → weigh pair ≡ weight_of_pair pair) → of_pairs ≡ min (total 32 weigh pairs) (2 ^ 63)
    → total_weight ≡ min (sum (of_quantiles ∷ of_pairs ∷ [])) (2 ^ 63)
    → total_weight ≡ min (weight_of_sum_point (sum_point_of (own_cells 2 rows row) pairs)) (2 ^ 63)
unfolding sum_point_of
summary_weighs rows row pairs asked values a b of_quantiles of_pairs total_weight weigh inside is_asked is_a are_values is_b is_quantiles same is_pairs is_total =
    let within : row < length rows = simp length-map at inside in
    capped_both of_quantiles of_pairs total_weight (16 * min (a / 8) (b / 8)) (total 32 weight_of_pair pairs) is_quantiles (below_weighs of_pairs weigh weight_of_pair pairs same is_pairs) is_total
    ∙ (λ i. min ((ap (λ n. 16 * n) (λ j. min ((ap (λ n. n / 8) is_a ∙ count_own rows row 4 asked within is_asked) j) ((ap (λ n. n / 8) is_b ∙ count_own rows row 5 values within are_values) j))
    ∙ sym (quantiles_long (list_in (cell_at (own_cells 2 rows row) 4)) (list_in (cell_at (own_cells 2 rows row) 5)))) i + total 32 weight_of_pair pairs) (2 ^ 63))
