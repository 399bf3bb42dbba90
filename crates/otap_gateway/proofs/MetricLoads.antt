-- The tables of a load of metrics aren't too heavy.
use Rattle.std.proofs.Common.{◌≡◌, ℕ, ◌%◌, ◌<◌, ◌≤◌, Bool, true, false, [], ◌∷◌, length, refl, arith}
use Rattle.std.specs.Prelude.{◌==◌, codes, pos, sum_by}
use Rattle.std.proofs.Math.Nat.{mod-lt}
use Rattle.std.proofs.lemmas.List.Sums.{sum_by-cons}
use Rattle.otlp_model.specs.declared.metrics.Number.{Number}
use Rattle.otlp_model.specs.declared.metrics.Number.TheVariants as numbers
use Rattle.otlp_load.specs.Pairs.{double_bits, numbered_text}
use Rattle.otlp_load.specs.Items.{load_metric, load_point, load_shape}
use Rattle.otlp_load.specs.Load.{groups_of, requests_at_most}
use Rattle.otlp_load.proofs.ItemsLight.{numbered_at_most}
use Rattle.otap_cells.specs.Weights.{row_weight_limit, weight_of_tables}
use Rattle.otap_metrics.specs.Weighing.{metric_weight, points_weight}
use Rattle.otap_points.specs.Weighing.{point_weight}
use Rattle.otap_points.proofs.PointRows.{point_weighs}
use Rattle.otap_metrics.specs.Tables.{tables_of_metrics}
use Rattle.otap_metrics.proofs.MetricRows.{metric_weighs}
use Rattle.otap_metrics.proofs.WrittenWeight.{tables_weigh}
use Rattle.otap_gateway.proofs.LoadRows.{pairs_rows, load_rows}

-- ---- metrics and their points

point_rows : (r n : ℕ) (value : Number) → r < requests_at_most → sum_by point_weight (load_point r n value ∷ []) ≤ 560
point_rows r n value request =
    let pairs = pairs_rows r n request in
    let own = point_weighs (load_point r n value) in
    let split = sum_by-cons point_weight (load_point r n value) [] in
    omega (arith, pairs, own, split)

shape_rows : (r n : ℕ) → r < requests_at_most → (b : Bool) → n % 2 == 1 ≡ b → points_weight (load_shape r n) ≤ 560
shape_rows r n request true odd = rw odd (let own = point_rows r n (numbers.Int (pos n)) request in omega (arith, own))
shape_rows r n request false even = rw even (let own = point_rows r n (numbers.Double (double_bits n)) request in omega (arith, own))

metric_rows : (r n : ℕ) → r < requests_at_most → metric_weight (load_metric r n) ≤ 800
metric_rows r n request =
    let few : n % 300 < 300 = mod-lt n (omega arith) in
    let short : length (numbered_text (codes "m-") (n % 300)) ≤ 5 = numbered_at_most 3 (n % 300) (codes "m-") (omega arith) (omega arith) (omega arith) in
    let own = metric_weighs (load_metric r n) in
    let points = shape_rows r n request (n % 2 == 1) refl in
    omega (arith, short, own, points)

-- ---- all tables

pub metric_tables_rows : (r : ℕ) → r < requests_at_most → weight_of_tables (tables_of_metrics (groups_of load_metric r)) ≤ row_weight_limit
metric_tables_rows r request =
    let metrics = load_rows metric_weight load_metric r (λ n. metric_rows r n request) in
    let same = tables_weigh (groups_of load_metric r) in
    omega (arith, metrics, same)
