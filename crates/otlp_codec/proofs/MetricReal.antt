-- What is read of metrics is real: numbers fit their types.
use Rattle.std.proofs.Common.{◌≡◌, ℕ, zero, suc, ◌/◌, ◌^◌, ◌<◌, List, [], ◌∷◌, length, drop, true, false, refl, subst, arith}
use Rattle.std.specs.Prelude.{◌==◌, if◌then◌else◌, Bool, IsTrue, FitsSigned, None}
use Rattle.std.specs.Int.{w32, w64, cast_signed}
use Rattle.std.specs.List.{AllByRecursion}
use Rattle.std.proofs.Math.Facts.{sfits_to_z}
use Rattle.std.proofs.lemmas.Bool.{eqb-true, lt-ltb}
use Rattle.std.proofs.lemmas.List.Elements.{All-from_recursion}
use Rattle.lists.proofs.Every.{every_append, every_drop}
use Rattle.byteorder.specs.Numbers.{little_from-lt}
use Rattle.lists.proofs.Folds.{fold_keeps_where}
use Rattle.otlp_wire.specs.Wire as wire
use Rattle.otlp_wire.specs.Wire.{FieldValue, Entry}
use Rattle.otlp_wire.specs.Fields.{fields_of}
use Rattle.otlp_messages.specs.declared.messages.Message.{Message}
use Rattle.otlp_messages.specs.declared.messages.Message.TheVariants as messages
use Rattle.otlp_messages.specs.declared.messages.FieldKind.{FieldKind}
use Rattle.otlp_messages.specs.Table.{kind_of}
use Rattle.otlp_messages.specs.Fine.{FineValue}
use Rattle.lists.specs.Numbers.{little_numbers}
use Rattle.otlp_messages.specs.Rows.{said, at, optional_in, packed_in}
use Rattle.otlp_messages.proofs.EachFine.{fine_fields}
use Rattle.otlp_model.specs.declared.metrics.Number.{Number}
use Rattle.otlp_model.specs.declared.metrics.Number.TheVariants.{Missing}
use Rattle.otlp_model.specs.declared.metrics.Shape.{Shape}
use Rattle.otlp_model.specs.declared.metrics.Shape.TheVariants as shapes
use Rattle.otlp_model.specs.Each.{Each}
use Rattle.otlp_model.specs.Real.{is_real_number, is_real_optional, IsRealExemplar, IsRealPoint, IsRealHistPoint, IsRealQuantile, IsRealSumPoint, IsRealShape, IsRealMetric}
use Rattle.otlp_codec.specs.Limits.{level_limit}
use Rattle.otlp_codec.specs.Numbers.{double_in, int_in, number_step, number_said}
use Rattle.otlp_codec.specs.Points.{exemplar_in, point_in, hist_point_in, quantile_in, sum_point_in}
use Rattle.otlp_codec.specs.Metrics.{gauge_in, sum_in, histogram_in, summary_in, gauge_shape_in, sum_shape_in, histogram_shape_in, summary_shape_in, shape_step, metric_in}
use Rattle.otlp_codec.proofs.Lists.{all_both}
use Rattle.otlp_codec.proofs.RealFields.{Octets, RealField, real_fields, byte_at}
use Rattle.otlp_codec.proofs.RealLaw.{Sound, Keeps, holds, fits_real, fixed64_real, uint32_real, int32_real, text_real, octets_real, each_real, pairs_real}

-- the number of a point
RealNumber : Number → Type 0
RealNumber number = IsTrue (is_real_number number)

double_kept : (old : Number) (v : FieldValue) → RealNumber old → RealField v → RealNumber (double_in old v)
unfolding RealNumber
double_kept old (wire.Fixed64 n) p h = lt-ltb n (2 ^ 64) h
double_kept old (wire.Varint n) p h = p
double_kept old (wire.Fixed32 n) p h = p
double_kept old (wire.Bytes part) p h = p

int_kept : (old : Number) (v : FieldValue) → RealNumber old → RealField v → RealNumber (int_in old v)
unfolding RealNumber
int_kept old (wire.Fixed64 n) p h = fits_real (cast_signed w64 n) (sfits_to_z {w = w64} (record { fits = h }))
int_kept old (wire.Varint n) p h = p
int_kept old (wire.Fixed32 n) p h = p
int_kept old (wire.Bytes part) p h = p

at_real : (n : ℕ) (read : Number → FieldValue → Number) → ((old : Number) (v : FieldValue) → RealNumber old → RealField v → RealNumber (read old v))
    → (old : Number) (f : Entry) → RealNumber old → RealField f.value → RealNumber (at n read old f)
at_real n read each old f p h = elim (f.number == n) as (λ b. RealNumber (if b then read old f.value else old)) [ true ↦ each old f.value p h | false ↦ p ]

number_real : (double int : ℕ) (bytes : List ℕ) → Octets bytes → IsTrue (is_real_number (number_said double int bytes))
unfolding RealNumber
number_real double int bytes octets =
    fold_keeps_where RealNumber (λ f. RealField f.value) (number_step double int)
    (λ old f p h. at_real int int_in int_kept (at double double_in old f) f (at_real double double_in double_kept old f p h) h) Missing (fields_of bytes) refl (real_fields bytes octets).each

-- a double that may be missing
keeps_optional : (k : FieldKind) (l : ℕ) → Keeps (λ x. IsTrue (is_real_optional x)) k l optional_in
keeps_optional k l old (wire.Fixed64 n) p h = lt-ltb n (2 ^ 64) h.1
keeps_optional k l old (wire.Varint n) p h = p
keeps_optional k l old (wire.Fixed32 n) p h = p
keeps_optional k l old (wire.Bytes part) p h = p

optional_real : (m : Message) (n : ℕ) (bytes : List ℕ) → Sound m level_limit bytes → IsTrue (is_real_optional (said n optional_in None bytes))
optional_real m n bytes h = holds (λ x. IsTrue (is_real_optional x)) m level_limit n (kind_of m n) optional_in None refl refl (keeps_optional (kind_of m n) level_limit) bytes h

-- packed numbers
numbers_small : (count : ℕ) (bytes : List ℕ) → AllByRecursion (λ byte. byte < 256) bytes → AllByRecursion (λ n. n < 2 ^ 64) (little_numbers count bytes)
numbers_small zero bytes h = tt
numbers_small (suc count) bytes h =
    let small = little_from-lt 0 8 bytes (byte_at bytes h) in
    (omega (arith, small), numbers_small count (drop 8 bytes) (every_drop (λ byte. byte < 256) 8 bytes h))

keeps_packed : (k : FieldKind) (l : ℕ) → Keeps (AllByRecursion (λ n. n < 2 ^ 64)) k l packed_in
keeps_packed k l old (wire.Fixed64 n) p h = every_append (λ n. n < 2 ^ 64) old (n ∷ []) p (h.1, tt)
keeps_packed k l old (wire.Varint n) p h = p
keeps_packed k l old (wire.Fixed32 n) p h = p
keeps_packed k l old (wire.Bytes part) p h =
    every_append (λ n. n < 2 ^ 64) old (little_numbers (length part / 8) part) p (numbers_small (length part / 8) part h.1.each)

packed_real : (m : Message) (n : ℕ) (bytes : List ℕ) → Sound m level_limit bytes → Each (λ n. n < 2 ^ 64) (said n packed_in [] bytes)
packed_real m n bytes h = record {
  at = All-from_recursion (λ n. n < 2 ^ 64) (said n packed_in [] bytes)
      (holds (AllByRecursion (λ n. n < 2 ^ 64)) m level_limit n (kind_of m n) packed_in [] refl tt (keeps_packed (kind_of m n) level_limit) bytes h);
}

-- points
exemplar_real : (bytes : List ℕ) → Sound messages.Exemplar level_limit bytes → IsRealExemplar (exemplar_in bytes)
unfolding exemplar_in
exemplar_real bytes h = record {
  time = fixed64_real messages.Exemplar level_limit 2 bytes h;
  value = number_real 3 6 bytes h.real;
  span_id = octets_real messages.Exemplar level_limit 4 bytes h;
  trace_id = octets_real messages.Exemplar level_limit 5 bytes h;
  pairs = pairs_real messages.Exemplar 7 bytes refl h;
}

point_real : (bytes : List ℕ) → Sound messages.NumberDataPoint level_limit bytes → IsRealPoint (point_in bytes)
unfolding point_in
point_real bytes h = record {
  start = fixed64_real messages.NumberDataPoint level_limit 2 bytes h;
  time = fixed64_real messages.NumberDataPoint level_limit 3 bytes h;
  value = number_real 4 6 bytes h.real;
  flags = uint32_real messages.NumberDataPoint level_limit 8 bytes h;
  pairs = pairs_real messages.NumberDataPoint 7 bytes refl h;
  exemplars = each_real IsRealExemplar messages.NumberDataPoint 5 messages.Exemplar exemplar_in refl exemplar_real bytes h;
}

hist_point_real : (bytes : List ℕ) → Sound messages.HistogramDataPoint level_limit bytes → IsRealHistPoint (hist_point_in bytes)
unfolding hist_point_in
hist_point_real bytes h = record {
  start = fixed64_real messages.HistogramDataPoint level_limit 2 bytes h;
  time = fixed64_real messages.HistogramDataPoint level_limit 3 bytes h;
  count = fixed64_real messages.HistogramDataPoint level_limit 4 bytes h;
  sum = optional_real messages.HistogramDataPoint 5 bytes h;
  buckets = packed_real messages.HistogramDataPoint 6 bytes h;
  bounds = packed_real messages.HistogramDataPoint 7 bytes h;
  min = optional_real messages.HistogramDataPoint 11 bytes h;
  max = optional_real messages.HistogramDataPoint 12 bytes h;
  flags = uint32_real messages.HistogramDataPoint level_limit 10 bytes h;
  pairs = pairs_real messages.HistogramDataPoint 9 bytes refl h;
  exemplars = each_real IsRealExemplar messages.HistogramDataPoint 8 messages.Exemplar exemplar_in refl exemplar_real bytes h;
}

quantile_real : (bytes : List ℕ) → Sound messages.ValueAtQuantile level_limit bytes → IsRealQuantile (quantile_in bytes)
unfolding quantile_in
quantile_real bytes h = record {
  quantile = fixed64_real messages.ValueAtQuantile level_limit 1 bytes h;
  value = fixed64_real messages.ValueAtQuantile level_limit 2 bytes h;
}

sum_point_real : (bytes : List ℕ) → Sound messages.SummaryDataPoint level_limit bytes → IsRealSumPoint (sum_point_in bytes)
unfolding sum_point_in
sum_point_real bytes h = record {
  start = fixed64_real messages.SummaryDataPoint level_limit 2 bytes h;
  time = fixed64_real messages.SummaryDataPoint level_limit 3 bytes h;
  count = fixed64_real messages.SummaryDataPoint level_limit 4 bytes h;
  sum = fixed64_real messages.SummaryDataPoint level_limit 5 bytes h;
  quantiles = each_real IsRealQuantile messages.SummaryDataPoint 6 messages.ValueAtQuantile quantile_in refl quantile_real bytes h;
  flags = uint32_real messages.SummaryDataPoint level_limit 8 bytes h;
  pairs = pairs_real messages.SummaryDataPoint 7 bytes refl h;
}

-- the four shapes
gauge_real : (bytes : List ℕ) → Sound messages.Gauge level_limit bytes → Each IsRealPoint (gauge_in bytes)
unfolding gauge_in
gauge_real bytes h = each_real IsRealPoint messages.Gauge 1 messages.NumberDataPoint point_in refl point_real bytes h

sum_real : (bytes : List ℕ) → Sound messages.Sum level_limit bytes → Each IsRealPoint (sum_in bytes).points × FitsSigned w32 (sum_in bytes).temporality
unfolding sum_in
sum_real bytes h = (each_real IsRealPoint messages.Sum 1 messages.NumberDataPoint point_in refl point_real bytes h, int32_real messages.Sum level_limit 2 bytes h)

histogram_real : (bytes : List ℕ) → Sound messages.Histogram level_limit bytes → Each IsRealHistPoint (histogram_in bytes).points × FitsSigned w32 (histogram_in bytes).temporality
unfolding histogram_in
histogram_real bytes h = (
  each_real IsRealHistPoint messages.Histogram 1 messages.HistogramDataPoint hist_point_in refl hist_point_real bytes h,
  int32_real messages.Histogram level_limit 2 bytes h,
)

summary_real : (bytes : List ℕ) → Sound messages.Summary level_limit bytes → Each IsRealSumPoint (summary_in bytes)
unfolding summary_in
summary_real bytes h = each_real IsRealSumPoint messages.Summary 1 messages.SummaryDataPoint sum_point_in refl sum_point_real bytes h

-- the members of the oneof
keeps_gauge : Keeps IsRealShape (kind_of messages.Metric 5) level_limit gauge_shape_in
keeps_gauge old (wire.Bytes part) p h = gauge_real part (record { fine = h.0; real = h.1 })
keeps_gauge old (wire.Varint n) p h = p
keeps_gauge old (wire.Fixed64 n) p h = p
keeps_gauge old (wire.Fixed32 n) p h = p

keeps_sum : Keeps IsRealShape (kind_of messages.Metric 7) level_limit sum_shape_in
keeps_sum old (wire.Bytes part) p h = sum_real part (record { fine = h.0; real = h.1 })
keeps_sum old (wire.Varint n) p h = p
keeps_sum old (wire.Fixed64 n) p h = p
keeps_sum old (wire.Fixed32 n) p h = p

keeps_histogram : Keeps IsRealShape (kind_of messages.Metric 9) level_limit histogram_shape_in
keeps_histogram old (wire.Bytes part) p h = histogram_real part (record { fine = h.0; real = h.1 })
keeps_histogram old (wire.Varint n) p h = p
keeps_histogram old (wire.Fixed64 n) p h = p
keeps_histogram old (wire.Fixed32 n) p h = p

keeps_summary : Keeps IsRealShape (kind_of messages.Metric 11) level_limit summary_shape_in
keeps_summary old (wire.Bytes part) p h = summary_real part (record { fine = h.0; real = h.1 })
keeps_summary old (wire.Varint n) p h = p
keeps_summary old (wire.Fixed64 n) p h = p
keeps_summary old (wire.Fixed32 n) p h = p

SoundField : Entry → Type 0
SoundField f = FineValue (kind_of messages.Metric f.number) level_limit f.value × RealField f.value

member_kept : (n : ℕ) (read : Shape → FieldValue → Shape) → Keeps IsRealShape (kind_of messages.Metric n) level_limit read
    → (old : Shape) (f : Entry) → IsRealShape old → SoundField f → IsRealShape (at n read old f)
unfolding SoundField
member_kept n read each old f p h = go (f.number == n) refl
  where
    go : (b : Bool) → (f.number == n) ≡ b → IsRealShape (if b then read old f.value else old)
    go true hit = each old f.value p (subst (λ (k : ℕ). FineValue (kind_of messages.Metric k) level_limit f.value) (eqb-true f.number n hit) h.0, h.1)
    go false miss = p

shape_kept : (old : Shape) (f : Entry) → IsRealShape old → SoundField f → IsRealShape (shape_step old f)
shape_kept old f p h =
    member_kept 5 gauge_shape_in keeps_gauge _ f
    (member_kept 7 sum_shape_in keeps_sum _ f
    (member_kept 9 histogram_shape_in keeps_histogram _ f (member_kept 11 summary_shape_in keeps_summary old f p h) h) h) h

pub metric_real : (bytes : List ℕ) → Sound messages.Metric level_limit bytes → IsRealMetric (metric_in bytes)
unfolding metric_in SoundField
metric_real bytes h = record {
  name = text_real messages.Metric level_limit 1 bytes refl h;
  description = text_real messages.Metric level_limit 2 bytes refl h;
  unit = text_real messages.Metric level_limit 3 bytes refl h;
  shape = fold_keeps_where IsRealShape SoundField shape_step shape_kept shapes.Empty (fields_of bytes) tt
      (all_both (λ f. FineValue (kind_of messages.Metric f.number) level_limit f.value) (λ f. RealField f.value) (fields_of bytes)
      (fine_fields messages.Metric level_limit bytes h.fine) (real_fields bytes h.real).each);
}
