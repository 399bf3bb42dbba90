-- What is read of metrics is within the profile.
use Rattle.std.proofs.Common.{◌≡◌, ℕ, List, true, false, refl, subst}
use Rattle.std.specs.Prelude.{◌==◌, if◌then◌else◌, Bool}
use Rattle.std.proofs.lemmas.Bool.{eqb-true}
use Rattle.lists.proofs.Folds.{fold_keeps_where}
use Rattle.otlp_wire.specs.Wire as wire
use Rattle.otlp_wire.specs.Wire.{FieldValue, Entry}
use Rattle.otlp_wire.specs.Fields.{fields_of}
use Rattle.otlp_messages.specs.declared.messages.Message.TheVariants as messages
use Rattle.otlp_messages.specs.Table.{kind_of}
use Rattle.otlp_messages.specs.Defects.{IsFine}
use Rattle.otlp_messages.specs.Fine.{FineValue}
use Rattle.otlp_messages.specs.Rows.{at}
use Rattle.otlp_messages.proofs.EachFine.{fine_fields}
use Rattle.otlp_model.specs.declared.metrics.Shape.{Shape}
use Rattle.otlp_model.specs.declared.metrics.Shape.TheVariants as shapes
use Rattle.otlp_model.specs.Each.{Each}
use Rattle.otlp_model.specs.Profile.{IsProfileExemplar, IsProfilePoint, IsProfileHistPoint, IsProfileSumPoint, IsProfileShape, IsProfileMetric}
use Rattle.otlp_codec.specs.Limits.{level_limit}
use Rattle.otlp_codec.specs.Points.{exemplar_in, point_in, hist_point_in, sum_point_in}
use Rattle.otlp_codec.specs.Metrics.{gauge_in, sum_in, histogram_in, summary_in, gauge_shape_in, sum_shape_in, histogram_shape_in, summary_shape_in, shape_step, metric_in}
use Rattle.otlp_codec.proofs.ProfileLaw.{each_said, id_said, pairs_profile}

exemplar_profile : (bytes : List ℕ) → IsFine messages.Exemplar level_limit bytes → IsProfileExemplar (exemplar_in bytes)
unfolding exemplar_in
exemplar_profile bytes fine = record {
  trace_id = id_said messages.Exemplar 5 16 bytes refl fine;
  span_id = id_said messages.Exemplar 4 8 bytes refl fine;
  pairs = pairs_profile 7 bytes;
}

point_profile : (bytes : List ℕ) → IsFine messages.NumberDataPoint level_limit bytes → IsProfilePoint (point_in bytes)
unfolding point_in
point_profile bytes fine = record { pairs = pairs_profile 7 bytes; exemplars = each_said IsProfileExemplar messages.NumberDataPoint 5 exemplar_in exemplar_profile bytes fine }

hist_point_profile : (bytes : List ℕ) → IsFine messages.HistogramDataPoint level_limit bytes → IsProfileHistPoint (hist_point_in bytes)
unfolding hist_point_in
hist_point_profile bytes fine = record { pairs = pairs_profile 9 bytes; exemplars = each_said IsProfileExemplar messages.HistogramDataPoint 8 exemplar_in exemplar_profile bytes fine }

sum_point_profile : (bytes : List ℕ) → IsFine messages.SummaryDataPoint level_limit bytes → IsProfileSumPoint (sum_point_in bytes)
unfolding sum_point_in
sum_point_profile bytes fine = record { pairs = pairs_profile 7 bytes }

-- the four shapes
gauge_profile : (bytes : List ℕ) → IsFine messages.Gauge level_limit bytes → Each IsProfilePoint (gauge_in bytes)
unfolding gauge_in
gauge_profile bytes fine = each_said IsProfilePoint messages.Gauge 1 point_in point_profile bytes fine

sum_profile : (bytes : List ℕ) → IsFine messages.Sum level_limit bytes → Each IsProfilePoint (sum_in bytes).points
unfolding sum_in
sum_profile bytes fine = each_said IsProfilePoint messages.Sum 1 point_in point_profile bytes fine

histogram_profile : (bytes : List ℕ) → IsFine messages.Histogram level_limit bytes → Each IsProfileHistPoint (histogram_in bytes).points
unfolding histogram_in
histogram_profile bytes fine = each_said IsProfileHistPoint messages.Histogram 1 hist_point_in hist_point_profile bytes fine

summary_profile : (bytes : List ℕ) → IsFine messages.Summary level_limit bytes → Each IsProfileSumPoint (summary_in bytes)
unfolding summary_in
summary_profile bytes fine = each_said IsProfileSumPoint messages.Summary 1 sum_point_in sum_point_profile bytes fine

-- a member of the oneof, where its field is fine
Member : (Shape → FieldValue → Shape) → ℕ → Type 0
Member read n = (old : Shape) (v : FieldValue) → IsProfileShape old → FineValue (kind_of messages.Metric n) level_limit v → IsProfileShape (read old v)

member_gauge : Member gauge_shape_in 5
unfolding Member
member_gauge old (wire.Bytes part) p fine = gauge_profile part fine
member_gauge old (wire.Varint n) p fine = p
member_gauge old (wire.Fixed64 n) p fine = p
member_gauge old (wire.Fixed32 n) p fine = p

member_sum : Member sum_shape_in 7
unfolding Member
member_sum old (wire.Bytes part) p fine = sum_profile part fine
member_sum old (wire.Varint n) p fine = p
member_sum old (wire.Fixed64 n) p fine = p
member_sum old (wire.Fixed32 n) p fine = p

member_histogram : Member histogram_shape_in 9
unfolding Member
member_histogram old (wire.Bytes part) p fine = histogram_profile part fine
member_histogram old (wire.Varint n) p fine = p
member_histogram old (wire.Fixed64 n) p fine = p
member_histogram old (wire.Fixed32 n) p fine = p

member_summary : Member summary_shape_in 11
unfolding Member
member_summary old (wire.Bytes part) p fine = summary_profile part fine
member_summary old (wire.Varint n) p fine = p
member_summary old (wire.Fixed64 n) p fine = p
member_summary old (wire.Fixed32 n) p fine = p

member_kept : (read : Shape → FieldValue → Shape) (n : ℕ) → Member read n → (old : Shape) (f : Entry) → IsProfileShape old
    → FineValue (kind_of messages.Metric f.number) level_limit f.value → IsProfileShape (at n read old f)
unfolding Member
member_kept read n each old f p fine = go (f.number == n) refl
  where
    go : (b : Bool) → (f.number == n) ≡ b → IsProfileShape (if b then read old f.value else old)
    go true hit = each old f.value p (subst (λ (k : ℕ). FineValue (kind_of messages.Metric k) level_limit f.value) (eqb-true f.number n hit) fine)
    go false miss = p

-- one more field
shape_kept : (old : Shape) (f : Entry) → IsProfileShape old → FineValue (kind_of messages.Metric f.number) level_limit f.value → IsProfileShape (shape_step old f)
shape_kept old f p fine =
    member_kept gauge_shape_in 5 member_gauge _ f
    (member_kept sum_shape_in 7 member_sum _ f
    (member_kept histogram_shape_in 9 member_histogram _ f (member_kept summary_shape_in 11 member_summary old f p fine) fine) fine) fine

pub metric_profile : (bytes : List ℕ) → IsFine messages.Metric level_limit bytes → IsProfileMetric (metric_in bytes)
unfolding metric_in
metric_profile bytes fine = record {
  shape = fold_keeps_where IsProfileShape (λ f. FineValue (kind_of messages.Metric f.number) level_limit f.value) shape_step shape_kept shapes.Empty (fields_of bytes) tt
      (fine_fields messages.Metric level_limit bytes fine);
}
