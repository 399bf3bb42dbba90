-- Metrics, points and exemplars are alike, and weigh the same, where what is below them does.
use Rattle.std.proofs.Common.{◌≡◌, ℕ, Bool, List, refl, arith, inl, inr}
use Rattle.std.specs.Prelude.{ℤ, ◌==◌}
use Rattle.std.specs.List.{AllZip}
use Rattle.std.proofs.lemmas.Bool.{cases_Bool}
use Rattle.otlp_model.specs.Same.{SameExemplar, SameHistPoint, SameMetric, SameOften, SamePoint, SameShape, SameSumPoint}
use Rattle.otlp_model.specs.Weight.{total, weight_of_exemplar, weight_of_hist_point, weight_of_metric, weight_of_pair, weight_of_point, weight_of_shape, weight_of_sum_point}
use Rattle.otlp_model.specs.declared.metrics.Exemplar.{Exemplar}
use Rattle.otlp_model.specs.declared.value.Pair.{Pair}
use Rattle.otap_cells.specs.Cells.{Cell, nat_in, cell_at}
use Rattle.otap_cells.specs.Scalars.{flag_in, int_in}
use Rattle.otap_points.specs.Points.{hist_point_of, point_of, sum_point_of}
use Rattle.otap_metrics.specs.Metrics.{Below, metric_of, shape_of}

pub same_point : (cells : List Cell) (xs ys : List Pair) (es fs : List Exemplar) → SameOften xs ys → AllZip SameExemplar es fs → SamePoint (point_of cells xs es) (point_of cells ys fs)
unfolding point_of
same_point cells xs ys es fs same alike = record { scalars = refl; pairs = same; exemplars = alike }

pub same_hist_point : (cells : List Cell) (xs ys : List Pair) (es fs : List Exemplar) → SameOften xs ys → AllZip SameExemplar es fs
    → SameHistPoint (hist_point_of cells xs es) (hist_point_of cells ys fs)
unfolding hist_point_of
same_hist_point cells xs ys es fs same alike = record { scalars = refl; pairs = same; exemplars = alike }

pub same_sum_point : (cells : List Cell) (xs ys : List Pair) → SameOften xs ys → SameSumPoint (sum_point_of cells xs) (sum_point_of cells ys)
unfolding sum_point_of
same_sum_point cells xs ys same = record { scalars = refl; pairs = same }

pub record SameBelow (x y : Below) : Type 0 where
  pub points : AllZip SamePoint x.points y.points
  pub hist_points : AllZip SameHistPoint x.hist_points y.hist_points
  pub summary_points : AllZip SameSumPoint x.summary_points y.summary_points

same_shape : (kind : ℕ) (t : ℤ) (b : Bool) (x y : Below) → SameBelow x y → SameShape (shape_of kind t b x) (shape_of kind t b y)
same_shape kind t b x y same = elim (cases_Bool (kind == 1)) [
  | inl gauge ↦ rw gauge same.points
  | inr e1 ↦ rw e1 (elim (cases_Bool (kind == 2)) [
    | inl sum ↦ rw sum (same.points, refl, refl)
    | inr e2 ↦ rw e2 (elim (cases_Bool (kind == 3)) [
      | inl hist ↦ rw hist (same.hist_points, refl)
      | inr e3 ↦ rw e3 (elim (cases_Bool (kind == 5)) [
        | inl summary ↦ rw summary same.summary_points
        | inr e5 ↦ rw e5 tt
      ])
    ])
  ])
]

pub same_metric : (cells : List Cell) (x y : Below) → SameBelow x y → SameMetric (metric_of cells x) (metric_of cells y)
unfolding metric_of
same_metric cells x y same = record { scalars = refl; shape = same_shape (nat_in (cell_at cells 0)) (int_in (cell_at cells 4)) (flag_in (cell_at cells 5)) x y same }

-- ---- weights

pub point_weighs : (cells : List Cell) (xs ys : List Pair) (es fs : List Exemplar) → total 32 weight_of_pair xs ≡ total 32 weight_of_pair ys
    → total 32 weight_of_exemplar es ≡ total 32 weight_of_exemplar fs → weight_of_point (point_of cells xs es) ≡ weight_of_point (point_of cells ys fs)
unfolding point_of
point_weighs cells xs ys es fs same alike = omega (arith, same, alike)

pub hist_point_weighs : (cells : List Cell) (xs ys : List Pair) (es fs : List Exemplar) → total 32 weight_of_pair xs ≡ total 32 weight_of_pair ys
    → total 32 weight_of_exemplar es ≡ total 32 weight_of_exemplar fs → weight_of_hist_point (hist_point_of cells xs es) ≡ weight_of_hist_point (hist_point_of cells ys fs)
unfolding hist_point_of
hist_point_weighs cells xs ys es fs same alike = omega (arith, same, alike)

pub sum_point_weighs : (cells : List Cell) (xs ys : List Pair) → total 32 weight_of_pair xs ≡ total 32 weight_of_pair ys
    → weight_of_sum_point (sum_point_of cells xs) ≡ weight_of_sum_point (sum_point_of cells ys)
unfolding sum_point_of
sum_point_weighs cells xs ys same = omega (arith, same)

pub record WeighSame (x y : Below) : Type 0 where
  pub points : total 32 weight_of_point x.points ≡ total 32 weight_of_point y.points
  pub hist_points : total 32 weight_of_hist_point x.hist_points ≡ total 32 weight_of_hist_point y.hist_points
  pub summary_points : total 32 weight_of_sum_point x.summary_points ≡ total 32 weight_of_sum_point y.summary_points

shape_weighs : (kind : ℕ) (t : ℤ) (b : Bool) (x y : Below) → WeighSame x y → weight_of_shape (shape_of kind t b x) ≡ weight_of_shape (shape_of kind t b y)
shape_weighs kind t b x y same = elim (cases_Bool (kind == 1)) [
  | inl gauge ↦ rw gauge same.points
  | inr e1 ↦ rw e1 (elim (cases_Bool (kind == 2)) [
    | inl sum ↦ rw sum same.points
    | inr e2 ↦ rw e2 (elim (cases_Bool (kind == 3)) [
      | inl hist ↦ rw hist same.hist_points
      | inr e3 ↦ rw e3 (elim (cases_Bool (kind == 5)) [
        | inl summary ↦ rw summary same.summary_points
        | inr e5 ↦ rw e5 refl
      ])
    ])
  ])
]

pub metric_weighs : (cells : List Cell) (x y : Below) → WeighSame x y → weight_of_metric (metric_of cells x) ≡ weight_of_metric (metric_of cells y)
unfolding metric_of
metric_weighs cells x y same = let a = shape_weighs (nat_in (cell_at cells 0)) (int_in (cell_at cells 4)) (flag_in (cell_at cells 5)) x y same in omega (arith, a)
