-- The cells of real points and exemplars of the profile fit their columns.
use Rattle.std.proofs.Common.{◌≡◌, ℕ, ◌^◌, ◌<◌, true, false, List, [], ◌∷◌, Option, None, Some, inl, inr, drop, refl}
use Rattle.std.specs.Prelude.{◌==◌, IsTrue}
use Rattle.std.proofs.lemmas.Bool.{cases_Bool, ltb-true}
use Rattle.otlp_model.specs.Profile.{IsProfileExemplar}
use Rattle.otlp_model.specs.Real.{IsRealExemplar, IsRealHistPoint, IsRealPoint, IsRealSumPoint, is_real_number, is_real_optional}
use Rattle.otlp_model.specs.declared.histograms.HistPoint.{HistPoint}
use Rattle.otlp_model.specs.declared.histograms.SumPoint.{SumPoint}
use Rattle.otlp_model.specs.declared.metrics.Exemplar.{Exemplar}
use Rattle.otlp_model.specs.declared.metrics.Number.{Number}
use Rattle.otlp_model.specs.declared.metrics.Number.TheVariants as numbers
use Rattle.otlp_model.specs.declared.metrics.Point.{Point}
use Rattle.otlp_model.proofs.RealParts.{signed_of_real}
use Rattle.otap_cells.specs.declared.payload.Kind.TheVariants as table
use Rattle.otap_cells.specs.declared.profile.Base.TheVariants as base
use Rattle.otap_cells.specs.Cells.{Cell, IsCellOf}
use Rattle.otap_cells.specs.Columns.{columns_of, exemplars, hist_points, number_points, summary_points}
use Rattle.otap_cells.specs.Scalars.{bits_cell, text_cell}
use Rattle.otap_cells.specs.Tables.{IsRow}
use Rattle.otap_groups.proofs.ProfileRows.{number_fits}
use Rattle.otap_attrs.proofs.AttributeRows.{either_width}
use Rattle.otap_attrs.proofs.CellFits.{bits_fit, span_fits, trace_fits}
use Rattle.otap_points.specs.Lists.{bytes_of, list_cell}
use Rattle.otap_points.specs.Numbers.{double_value, int_value}
use Rattle.otap_points.specs.Points.{exemplar_cells, hist_point_cells, optional_cell, point_cells, sum_point_cells}
use Rattle.otap_points.proofs.ListBytes.{whole_bytes}

-- ---- single cells

int_fits : (n : Number) → IsTrue (is_real_number n) → IsCellOf base.I64 (int_value n)
int_fits numbers.Missing real = tt
int_fits (numbers.Int z) real = signed_of_real z real
int_fits (numbers.Double n) real = tt

double_fits : (n : Number) → IsTrue (is_real_number n) → IsCellOf base.Double (double_value n)
double_fits numbers.Missing real = tt
double_fits (numbers.Int z) real = tt
double_fits (numbers.Double n) real = ltb-true n (2 ^ 64) real

count_fits : (n : ℕ) → n < 2 ^ 64 → IsCellOf base.U64 (bits_cell n)
count_fits n low = elim (cases_Bool (n == 0)) [
  | inl none ↦ rw none tt
  | inr some ↦ rw some low
]

optional_fits : (n : Option ℕ) → IsTrue (is_real_optional n) → IsCellOf base.Double (optional_cell n)
optional_fits None real = tt
optional_fits (Some n) real = ltb-true n (2 ^ 64) real

bytes_fit : (ns bytes : List ℕ) → bytes ≡ bytes_of ns → IsCellOf base.ListU64 (text_cell bytes) × IsCellOf base.ListF64 (text_cell bytes)
bytes_fit ns [] same = (tt, tt)
bytes_fit ns (byte ∷ bytes) same = (whole_bytes (byte ∷ bytes) ns same, whole_bytes (byte ∷ bytes) ns same)

counts_fit : (ns : List ℕ) → IsCellOf base.ListU64 (list_cell ns)
counts_fit ns = (bytes_fit ns (bytes_of ns) refl).0

doubles_fit : (ns : List ℕ) → IsCellOf base.ListF64 (list_cell ns)
doubles_fit ns = (bytes_fit ns (bytes_of ns) refl).1

-- ---- rows

pub exemplar_own : (exemplar : Exemplar) → IsRealExemplar exemplar → IsProfileExemplar exemplar → IsRow (drop 2 exemplars) (exemplar_cells exemplar)
unfolding exemplars
exemplar_own exemplar real is = (
  (bits_fit exemplar.time real.time).0,
  (
    int_fits exemplar.value real.value,
    (double_fits exemplar.value real.value, (span_fits exemplar.span_id is.span_id, (trace_fits exemplar.trace_id is.trace_id, tt))),
  ),
)

pub point_own : (point : Point) → IsRealPoint point → IsRow (drop 2 number_points) (point_cells point)
unfolding number_points
point_own point real = (
  (bits_fit point.start real.start).0,
  ((bits_fit point.time real.time).0, (int_fits point.value real.value, (double_fits point.value real.value, (number_fits point.flags real.flags, tt)))),
)

pub hist_own : (point : HistPoint) → IsRealHistPoint point → IsRow (drop 2 hist_points) (hist_point_cells point)
unfolding hist_points
hist_own point real = (
  (bits_fit point.start real.start).0,
  (
    (bits_fit point.time real.time).0,
    (
      count_fits point.count real.count,
      (
        counts_fit point.buckets,
        (
          doubles_fit point.bounds,
          (
            optional_fits point.sum real.sum,
            (number_fits point.flags real.flags, (optional_fits point.min real.min, (optional_fits point.max real.max, tt))),
          ),
        ),
      ),
    ),
  ),
)

pub summary_own : (point : SumPoint) → IsRealSumPoint point → IsRow (drop 2 summary_points) (sum_point_cells point)
unfolding summary_points
summary_own point real = (
  (bits_fit point.start real.start).0,
  (
    (bits_fit point.time real.time).0,
    (count_fits point.count real.count, ((bits_fit point.sum real.sum).1, (doubles_fit _, (doubles_fit _, (number_fits point.flags real.flags, tt))))),
  ),
)

-- ---- the ids in front

pub exemplar_row : (id parent : Cell) (cells : List Cell) → IsCellOf (base.Id true) id → IsCellOf (base.Id true) parent → IsRow (drop 2 exemplars) cells
    → IsRow (columns_of table.NumberExemplars) (id ∷ parent ∷ cells)
unfolding exemplars
exemplar_row id parent cells a b own = (a, (b, own))

pub point_row : (id parent : Cell) (cells : List Cell) → IsCellOf (base.Id true) id → IsCellOf (base.Id true) parent → IsRow (drop 2 number_points) cells
    → IsRow (columns_of table.NumberPoints) (id ∷ parent ∷ cells)
unfolding number_points
point_row id parent cells a b own = (a, (either_width true false parent b, own))

pub hist_row : (id parent : Cell) (cells : List Cell) → IsCellOf (base.Id true) id → IsCellOf (base.Id true) parent → IsRow (drop 2 hist_points) cells
    → IsRow (columns_of table.HistPoints) (id ∷ parent ∷ cells)
unfolding hist_points
hist_row id parent cells a b own = (a, (either_width true false parent b, own))

pub summary_row : (id parent : Cell) (cells : List Cell) → IsCellOf (base.Id true) id → IsCellOf (base.Id true) parent → IsRow (drop 2 summary_points) cells
    → IsRow (columns_of table.SummaryPoints) (id ∷ parent ∷ cells)
unfolding summary_points
summary_row id parent cells a b own = (a, (either_width true false parent b, own))
