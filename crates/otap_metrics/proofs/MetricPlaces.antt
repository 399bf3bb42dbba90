-- The own cells of metrics, points and exemplars stand in their rows after those of the front.
use Rattle.std.proofs.Common.{◌≡◌, ℕ, ◌+◌, ◌^◌, ◌<◌, List, [], ◌∷◌, map, drop, length, ◌∙◌, sym, ap}
use Rattle.std.specs.Prelude.{min, sum}
use Rattle.std.proofs.lemmas.List.{length-map}
use Rattle.lists.proofs.Numbers.{capped_fourth}
use Rattle.otlp_model.specs.Weight.{weight_of_metric, weight_of_shape}
use Rattle.otlp_model.specs.declared.metrics.Metric.{Metric}
use Rattle.otlp_model.specs.declared.metrics.Shape.{Shape}
use Rattle.otap_cells.specs.Cells.{Cell, bytes_in, nat_in, cell_at}
use Rattle.otap_cells.specs.Scalars.{flag_in, int_in}
use Rattle.otap_cells.specs.Tables.{cell_in}
use Rattle.otap_metrics.specs.Metrics.{Below, metric_of, shape_of}
use Rattle.otap_cells.proofs.OwnCells.{length_own, own_cell, own_cells}

-- ---- reading

-- the shape that a row's cells make
abbrev pub shape_at : List (List Cell) → ℕ → Below → Shape
shape_at rows row below = shape_of (nat_in (cell_in rows 9 row)) (int_in (cell_in rows 13 row)) (flag_in (cell_in rows 14 row)) below

shape_own : (rows : List (List Cell)) (row : ℕ) (below : Below) → row < length rows
    → shape_at rows row below ≡ shape_of (nat_in (cell_at (own_cells 9 rows row) 0)) (int_in (cell_at (own_cells 9 rows row) 4)) (flag_in (cell_at (own_cells 9 rows row) 5)) below
shape_own rows row below within = λ i. shape_of (nat_in (sym (own_cell 9 rows row 0 within) i)) (int_in (sym (own_cell 9 rows row 4 within) i)) (flag_in (sym (own_cell 9 rows row 5 within) i)) below

pub metric_read : (metric : Metric) (rows : List (List Cell)) (row : ℕ) (below : Below) → row < length (map (drop 9) rows)
    → metric.name ≡ bytes_in (cell_in rows 10 row) → metric.description ≡ bytes_in (cell_in rows 11 row) → metric.unit ≡ bytes_in (cell_in rows 12 row)
    → metric.shape ≡ shape_at rows row below → metric ≡ metric_of (own_cells 9 rows row) below
unfolding metric_of
metric_read metric rows row below inside is_name is_description is_unit is_shape =
    let within : row < length rows = simp length-map at inside in λ i. record {
      name = (is_name ∙ ap bytes_in (sym (own_cell 9 rows row 1 within))) i;
      description = (is_description ∙ ap bytes_in (sym (own_cell 9 rows row 2 within))) i;
      unit = (is_unit ∙ ap bytes_in (sym (own_cell 9 rows row 3 within))) i;
      shape = (is_shape ∙ shape_own rows row below within) i;
    }

-- ---- weights, told from the bytes of cells and from what is below

pub metric_weighs : (rows : List (List Cell)) (row : ℕ) (below : Below) (name description unit : List ℕ) (of_shape total_weight : ℕ) → row < length (map (drop 9) rows)
    → name ≡ bytes_in (cell_in rows 10 row) → description ≡ bytes_in (cell_in rows 11 row) → unit ≡ bytes_in (cell_in rows 12 row)
    → of_shape ≡ min (weight_of_shape (shape_at rows row below)) (2 ^ 63)
    → total_weight ≡ min (sum (length name ∷ length description ∷ length unit ∷ of_shape ∷ [])) (2 ^ 63)
    → total_weight ≡ min (weight_of_metric (metric_of (own_cells 9 rows row) below)) (2 ^ 63)
unfolding metric_of
metric_weighs rows row below name description unit of_shape total_weight inside is_name is_description is_unit is_shape is_total =
    let within : row < length rows = simp length-map at inside in
    capped_fourth (length name) (length description) (length unit) of_shape total_weight (weight_of_shape (shape_at rows row below)) is_shape is_total
    ∙ (λ i. min (length_own 9 rows row 1 name within is_name i + length_own 9 rows row 2 description within is_description i
    + length_own 9 rows row 3 unit within is_unit i + weight_of_shape (shape_own rows row below within i)) (2 ^ 63))
