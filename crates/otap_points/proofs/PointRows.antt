-- The rows of points and exemplars: their cells fit their columns, and what they weigh.
use Rattle.std.proofs.Common.{◌≡◌, ℕ, ◌+◌, ◌*◌, ◌^◌, min, true, false, List, [], ◌∷◌, ◌++◌, Option, None, Some, length, map, ◌∙◌, refl, sym, arith}
use Rattle.std.proofs.lemmas.List.{length-map}
use Rattle.otlp_model.specs.declared.histograms.HistPoint.{HistPoint}
use Rattle.otlp_model.specs.declared.histograms.Quantile.{Quantile}
use Rattle.otlp_model.specs.declared.histograms.SumPoint.{SumPoint}
use Rattle.otlp_model.specs.declared.metrics.Number.{Number}
use Rattle.otlp_model.specs.declared.metrics.Number.TheVariants as numbers
use Rattle.otlp_model.specs.declared.metrics.Point.{Point}
use Rattle.otap_cells.specs.declared.payload.Kind.{Kind}
use Rattle.otap_cells.specs.declared.payload.Kind.TheVariants as table
use Rattle.otap_cells.specs.declared.profile.Base.TheVariants as base
use Rattle.otap_cells.specs.Cells.{Cell, IsCellOf}
use Rattle.otap_cells.specs.Columns.{columns_of, exemplars, hist_points, number_points, summary_points}
use Rattle.otap_cells.specs.Tables.{IsRow, Table}
use Rattle.otap_cells.specs.Weights.{cell_weight}
use Rattle.otap_cells.specs.Scalars.{bits_cell, number_cell}
use Rattle.otap_groups.specs.Stored.{id_cell}
use Rattle.otap_groups.specs.Weighing.{cells_weight}
use Rattle.otap_points.specs.Lists.{bytes_of, list_cell}
use Rattle.otap_points.specs.Numbers.{double_value, int_value}
use Rattle.otap_points.specs.Points.{hist_point_cells, optional_cell, point_cells, quantile_cell, sum_point_cells, value_cell}
use Rattle.otap_points.proofs.ListBytes.{length_bytes}
use Rattle.otap_cells.proofs.ScalarLaws.{text_weighs, number_weighs, bits_weigh}

-- ---- what fits

pub exemplar_fits : (kind : Kind) (id parent time int double span trace : Cell) → columns_of kind ≡ exemplars
    → IsCellOf (base.Id true) id → IsCellOf (base.Id true) parent → IsCellOf base.Timestamp time
    → IsCellOf base.I64 int → IsCellOf base.Double double → IsCellOf base.Fixed8 span → IsCellOf base.Fixed16 trace
    → IsRow (columns_of kind) (id ∷ parent ∷ time ∷ int ∷ double ∷ span ∷ trace ∷ [])
unfolding exemplars
exemplar_fits kind id parent time int double span trace is f0 f1 f2 f3 f4 f5 f6 = rw is (f0, (f1, (f2, (f3, (f4, (f5, (f6, tt)))))))

pub point_fits : (kind : Kind) (id parent start time int double flags : Cell) → kind ≡ table.NumberPoints
    → IsCellOf (base.Id true) id → IsCellOf (base.Id false) parent → IsCellOf base.Timestamp start → IsCellOf base.Timestamp time
    → IsCellOf base.I64 int → IsCellOf base.Double double → IsCellOf base.U32 flags
    → IsRow (columns_of kind) (id ∷ parent ∷ start ∷ time ∷ int ∷ double ∷ flags ∷ [])
unfolding number_points
point_fits kind id parent start time int double flags is f0 f1 f2 f3 f4 f5 f6 = rw is (f0, (f1, (f2, (f3, (f4, (f5, (f6, tt)))))))

pub hist_fits : (kind : Kind) (id parent start time count buckets bounds total flags least most : Cell) → kind ≡ table.HistPoints
    → IsCellOf (base.Id true) id → IsCellOf (base.Id false) parent → IsCellOf base.Timestamp start → IsCellOf base.Timestamp time → IsCellOf base.U64 count
    → IsCellOf base.ListU64 buckets → IsCellOf base.ListF64 bounds → IsCellOf base.Double total → IsCellOf base.U32 flags → IsCellOf base.Double least → IsCellOf base.Double most
    → IsRow (columns_of kind) (id ∷ parent ∷ start ∷ time ∷ count ∷ buckets ∷ bounds ∷ total ∷ flags ∷ least ∷ most ∷ [])
unfolding hist_points
hist_fits kind id parent start time count buckets bounds total flags least most is f0 f1 f2 f3 f4 f5 f6 f7 f8 f9 f10 =
    rw is (f0, (f1, (f2, (f3, (f4, (f5, (f6, (f7, (f8, (f9, (f10, tt)))))))))))

pub summary_fits : (kind : Kind) (id parent start time count total quantiles values flags : Cell) → kind ≡ table.SummaryPoints
    → IsCellOf (base.Id true) id → IsCellOf (base.Id false) parent → IsCellOf base.Timestamp start → IsCellOf base.Timestamp time → IsCellOf base.U64 count
    → IsCellOf base.Double total → IsCellOf base.ListF64 quantiles → IsCellOf base.ListF64 values → IsCellOf base.U32 flags
    → IsRow (columns_of kind) (id ∷ parent ∷ start ∷ time ∷ count ∷ total ∷ quantiles ∷ values ∷ flags ∷ [])
unfolding summary_points
summary_fits kind id parent start time count total quantiles values flags is f0 f1 f2 f3 f4 f5 f6 f7 f8 =
    rw is (f0, (f1, (f2, (f3, (f4, (f5, (f6, (f7, (f8, tt)))))))))

-- the row of a summary's point, told cell by cell
pub summary_row : (old new : Table) (id parent : ℕ) (point : SumPoint) (c0 c1 c2 c3 c4 c5 c6 c7 c8 : Cell)
    → new ≡ record old { rows = old.rows ++ (c0 ∷ c1 ∷ c2 ∷ c3 ∷ c4 ∷ c5 ∷ c6 ∷ c7 ∷ c8 ∷ []) ∷ [] } → c0 ≡ id_cell id → c1 ≡ id_cell parent
    → c2 ≡ bits_cell point.start → c3 ≡ bits_cell point.time → c4 ≡ bits_cell point.count → c5 ≡ bits_cell point.sum
    → c6 ≡ quantile_cell point.quantiles → c7 ≡ value_cell point.quantiles → c8 ≡ number_cell point.flags
    → new ≡ record old { rows = old.rows ++ (id_cell id ∷ id_cell parent ∷ sum_point_cells point) ∷ [] }
summary_row old new id parent point c0 c1 c2 c3 c4 c5 c6 c7 c8 made e0 e1 e2 e3 e4 e5 e6 e7 e8 =
    made ∙ (λ i. record old { rows = old.rows ++ (e0 i ∷ e1 i ∷ e2 i ∷ e3 i ∷ e4 i ∷ e5 i ∷ e6 i ∷ e7 i ∷ e8 i ∷ []) ∷ [] })

-- ---- what they weigh

number_is_light : (n : Number) → cell_weight (int_value n) + cell_weight (double_value n) ≡ 0
number_is_light numbers.Missing = refl
number_is_light (numbers.Int n) = refl
number_is_light (numbers.Double n) = refl

pub point_weighs : (point : Point) → cells_weight (point_cells point) ≡ 0
point_weighs point =
    let a = bits_weigh point.start in
    let b = bits_weigh point.time in
    let c = number_is_light point.value in
    let d = number_weighs point.flags in
    omega (arith, a, b, c, d)

list_weighs : (ns : List ℕ) → cell_weight (list_cell ns) ≡ 8 * length ns
list_weighs ns = text_weighs (bytes_of ns) ∙ length_bytes ns

optional_weighs : (n : Option ℕ) → cell_weight (optional_cell n) ≡ 0
optional_weighs None = refl
optional_weighs (Some n) = refl

hist_point_weighs : (point : HistPoint) → cells_weight (hist_point_cells point) ≡ 8 * length point.buckets + 8 * length point.bounds
hist_point_weighs point =
    let a = bits_weigh point.start in
    let b = bits_weigh point.time in
    let c = bits_weigh point.count in
    let d = list_weighs point.buckets in
    let e = list_weighs point.bounds in
    let f = optional_weighs point.sum in
    let g = number_weighs point.flags in
    let h = optional_weighs point.min in
    let i = optional_weighs point.max in
    omega (arith, a, b, c, d, e, f, g, h, i)

summary_point_weighs : (point : SumPoint) → cells_weight (sum_point_cells point) ≡ 8 * length point.quantiles + 8 * length point.quantiles
summary_point_weighs point =
    let a = bits_weigh point.start in
    let b = bits_weigh point.time in
    let c = bits_weigh point.count in
    let d = bits_weigh point.sum in
    let e = list_weighs (map (λ (q : Quantile). q.quantile) point.quantiles) in
    let f = list_weighs (map (λ (q : Quantile). q.value) point.quantiles) in
    let g = number_weighs point.flags in
    let h = length-map point.quantiles (λ (q : Quantile). q.quantile) in
    let i = length-map point.quantiles (λ (q : Quantile). q.value) in
    omega (arith, a, b, c, d, e, f, g, h, i)

sum_is : (w a b x y n : ℕ) → w ≡ 8 * a + 8 * b → x ≡ min (8 * a) (2 ^ 63) → y ≡ min (8 * b) (2 ^ 63) → n ≡ min (x + y) (2 ^ 63) → n ≡ min w (2 ^ 63)
sum_is w a b x y n is is_x is_y is_n = omega arith

pub hist_sum : (point : HistPoint) (a b x y n : ℕ) → a ≡ length point.buckets → b ≡ length point.bounds → x ≡ min (8 * a) (2 ^ 63) → y ≡ min (8 * b) (2 ^ 63)
    → n ≡ min (x + y) (2 ^ 63) → n ≡ min (cells_weight (hist_point_cells point)) (2 ^ 63)
hist_sum point a b x y n is_a is_b is_x is_y is_n =
    sum_is (cells_weight (hist_point_cells point)) a b x y n (hist_point_weighs point ∙ (λ i. 8 * sym is_a i + 8 * sym is_b i)) is_x is_y is_n

pub summary_sum : (point : SumPoint) (a x n : ℕ) → a ≡ length point.quantiles → x ≡ min (8 * a) (2 ^ 63) → n ≡ min (x + x) (2 ^ 63)
    → n ≡ min (cells_weight (sum_point_cells point)) (2 ^ 63)
summary_sum point a x n is_a is_x is_n =
    sum_is (cells_weight (sum_point_cells point)) a a x x n (summary_point_weighs point ∙ (λ i. 8 * sym is_a i + 8 * sym is_a i)) is_x is_x is_n
