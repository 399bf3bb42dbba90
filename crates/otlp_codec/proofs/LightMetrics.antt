-- What is read weighs at most sixteen for each byte: metrics, and requests.
use Rattle.std.proofs.Common.{ℕ, ◌+◌, ◌*◌, ◌/◌, ◌≤◌, List, [], ◌∷◌, length, refl, ap, arith, length-append, inl, inr}
use Rattle.std.specs.Prelude.{fold, nat_lt, if◌then◌else◌}
use Rattle.std.proofs.lemmas.Bool.{cases_lt, ne_eqb, le-ltb}
use Rattle.lists.specs.Numbers.{little_numbers}
use Rattle.lists.proofs.Numbers.{length-little_numbers}
use Rattle.otlp_wire.specs.Wire as wire
use Rattle.otlp_wire.specs.Wire.{Entry}
use Rattle.otlp_wire.specs.Fields.{fields_of}
use Rattle.otlp_messages.specs.Rows.{said, many_in, packed_in}
use Rattle.otlp_model.specs.declared.request.Signal.{Signal}
use Rattle.otlp_model.specs.declared.request.Signal.TheVariants as signals
use Rattle.otlp_model.specs.declared.metrics.Shape.{Shape}
use Rattle.otlp_model.specs.declared.metrics.Shape.TheVariants as shapes
use Rattle.otlp_model.specs.Weight.{total, weight_of_exemplar, weight_of_point, weight_of_hist_point, weight_of_quantile, weight_of_sum_point, weight_of_shape, weight_of_metric, weight_of_log_record, weight_of_span, weight_of}
use Rattle.otlp_codec.specs.Logs.{log_record_in}
use Rattle.otlp_codec.specs.Spans.{span_in}
use Rattle.otlp_codec.specs.Points.{exemplar_in, point_in, hist_point_in, quantile_in, sum_point_in}
use Rattle.otlp_codec.specs.Metrics.{gauge_in, sum_in, histogram_in, summary_in, gauge_shape_in, sum_shape_in, histogram_shape_in, summary_shape_in, shape_step, shape_said, metric_in}
use Rattle.otlp_codec.specs.Requests.{request_in}
use Rattle.otlp_codec.proofs.LightFields.{room, above, taken, left, all_within, Light, said_light, bytes_light, LightPart, many_light}
use Rattle.otlp_codec.proofs.LightLaw.{LightMember, at_light, pairs_light, log_record_light, span_light, groups_light}

-- ---- packed numbers, each of which weighs eight

weight_of_numbers : List ℕ → ℕ
weight_of_numbers ns = 8 * length ns

light_packed : Light weight_of_numbers packed_in
unfolding weight_of_numbers
light_packed old (wire.Fixed64 n) = omega (arith, length-append old (n ∷ []))
light_packed old (wire.Bytes part) = omega (arith, length-append old (little_numbers (length part / 8) part), length-little_numbers (length part / 8) part)
light_packed old (wire.Varint n) = omega arith
light_packed old (wire.Fixed32 n) = omega arith

packed_light : (n : ℕ) (bytes : List ℕ) → 8 * length (said n packed_in [] bytes) ≤ 16 * taken n bytes
unfolding weight_of_numbers
packed_light n bytes = said_light weight_of_numbers packed_in [] light_packed refl n bytes

-- ---- points

exemplar_light : LightPart weight_of_exemplar exemplar_in
unfolding exemplar_in
exemplar_light bytes = omega (arith, bytes_light 4 bytes, bytes_light 5 bytes, pairs_light 7 bytes, all_within (4 ∷ 5 ∷ 7 ∷ []) bytes refl)

exemplars_light : (n : ℕ) (bytes : List ℕ) → total 32 weight_of_exemplar (said n (many_in exemplar_in) [] bytes) ≤ 16 * taken n bytes
exemplars_light n bytes = many_light 32 weight_of_exemplar exemplar_in (omega arith) exemplar_light n bytes

point_light : LightPart weight_of_point point_in
unfolding point_in
point_light bytes = omega (arith, exemplars_light 5 bytes, pairs_light 7 bytes, all_within (5 ∷ 7 ∷ []) bytes refl)

hist_point_light : LightPart weight_of_hist_point hist_point_in
unfolding hist_point_in
hist_point_light bytes =
    omega (arith, packed_light 6 bytes, packed_light 7 bytes, exemplars_light 8 bytes, pairs_light 9 bytes, all_within (6 ∷ 7 ∷ 8 ∷ 9 ∷ []) bytes refl)

quantile_light : LightPart weight_of_quantile quantile_in
quantile_light bytes = omega arith

sum_point_light : LightPart weight_of_sum_point sum_point_in
unfolding sum_point_in
sum_point_light bytes =
    omega (arith, many_light 16 weight_of_quantile quantile_in (omega arith) quantile_light 6 bytes, pairs_light 7 bytes, all_within (6 ∷ 7 ∷ []) bytes refl)

-- ---- shapes

points_light : (bytes : List ℕ) → total 32 weight_of_point (said 1 (many_in point_in) [] bytes) ≤ 16 * length bytes
points_light bytes = omega (arith, many_light 32 weight_of_point point_in (omega arith) point_light 1 bytes, all_within (1 ∷ []) bytes refl)

gauge_light : LightMember weight_of_shape gauge_shape_in
unfolding gauge_in
gauge_light old (wire.Bytes part) most few small = omega (arith, small, points_light part)
gauge_light old (wire.Varint n) most few small = few
gauge_light old (wire.Fixed64 n) most few small = few
gauge_light old (wire.Fixed32 n) most few small = few

sum_light : LightMember weight_of_shape sum_shape_in
unfolding sum_in
sum_light old (wire.Bytes part) most few small = omega (arith, small, points_light part)
sum_light old (wire.Varint n) most few small = few
sum_light old (wire.Fixed64 n) most few small = few
sum_light old (wire.Fixed32 n) most few small = few

histogram_light : LightMember weight_of_shape histogram_shape_in
unfolding histogram_in
histogram_light old (wire.Bytes part) most few small =
    omega (arith, small, many_light 32 weight_of_hist_point hist_point_in (omega arith) hist_point_light 1 part, all_within (1 ∷ []) part refl)
histogram_light old (wire.Varint n) most few small = few
histogram_light old (wire.Fixed64 n) most few small = few
histogram_light old (wire.Fixed32 n) most few small = few

summary_light : LightMember weight_of_shape summary_shape_in
unfolding summary_in
summary_light old (wire.Bytes part) most few small =
    omega (arith, small, many_light 32 weight_of_sum_point sum_point_in (omega arith) sum_point_light 1 part, all_within (1 ∷ []) part refl)
summary_light old (wire.Varint n) most few small = few
summary_light old (wire.Fixed64 n) most few small = few
summary_light old (wire.Fixed32 n) most few small = few

shape_light : (old : Shape) (f : Entry) → weight_of_shape (shape_step old f) ≤ weight_of_shape old + 16 * room f.value
shape_light old f =
    let most = weight_of_shape old + 16 * room f.value in
    let small : 16 * room f.value ≤ most = omega arith in
    at_light weight_of_shape gauge_shape_in gauge_light 5 _ f most
    (at_light weight_of_shape sum_shape_in sum_light 7 _ f most
    (at_light weight_of_shape histogram_shape_in histogram_light 9 _ f most
    (at_light weight_of_shape summary_shape_in summary_light 11 old f most (omega arith) small) small) small) small

-- a field that is no member changes nothing
shape_kept : (old : Shape) (f : Entry) → weight_of_shape (shape_step old f) ≤ weight_of_shape old + 16 * (if nat_lt f.number 4 then 0 else room f.value)
shape_kept old f =
    elim (cases_lt f.number 4) [
      | inl small ↦ rw (ne_eqb f.number 5 (λ e. omega (arith, e, small))) (rw (ne_eqb f.number 7 (λ e. omega (arith, e, small)))
          (rw (ne_eqb f.number 9 (λ e. omega (arith, e, small))) (rw (ne_eqb f.number 11 (λ e. omega (arith, e, small))) (omega arith))))
      | inr large ↦ rw (le-ltb f.number 4 large) (shape_light old f)
    ]

shapes_light : (old : Shape) (fs : List Entry) → weight_of_shape (fold shape_step old fs) ≤ weight_of_shape old + 16 * above 4 fs
shapes_light old [] = omega arith
shapes_light old (f ∷ fs) = omega (arith, shapes_light (shape_step old f) fs, shape_kept old f)

shape_said_light : (bytes : List ℕ) → weight_of_shape (shape_said bytes) ≤ 16 * left 4 bytes
unfolding left
shape_said_light bytes = omega (arith, shapes_light shapes.Empty (fields_of bytes))

metric_light : LightPart weight_of_metric metric_in
unfolding metric_in
metric_light bytes = omega (arith, bytes_light 1 bytes, bytes_light 2 bytes, bytes_light 3 bytes, shape_said_light bytes, all_within (1 ∷ 2 ∷ 3 ∷ []) bytes refl)

-- ---- requests

pub request_light : (signal : Signal) (bytes : List ℕ) → weight_of (request_in signal bytes) ≤ 16 * length bytes
request_light signals.Traces bytes = groups_light weight_of_span span_in span_light bytes
request_light signals.Logs bytes = groups_light weight_of_log_record log_record_in log_record_light bytes
request_light signals.Metrics bytes = groups_light weight_of_metric metric_in metric_light bytes
