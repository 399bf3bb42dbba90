-- Exemplars and the points of gauges and sums: what is written reads back, and is short.
use Rattle.std.proofs.Common.{◌≡◌, true, refl, arith}
use Rattle.std.proofs.lemmas.List.Elements.{recursion_from_All}
use Rattle.lists.proofs.Every.{every_weaker}
use Rattle.otlp_messages.specs.declared.messages.Message.TheVariants as messages
use Rattle.otlp_codec.specs.Limits.{level_limit}
use Rattle.otlp_messages.specs.Canon.{is_laid_out}
use Rattle.otlp_model.specs.declared.metrics.Number.TheVariants.{Missing, Int, Double}
use Rattle.otlp_model.specs.declared.metrics.Exemplar.{Exemplar}
use Rattle.otlp_model.specs.declared.metrics.Point.{Point}
use Rattle.otlp_model.specs.Weight.{weight_of_exemplar, weight_of_point}
use Rattle.otlp_model.specs.Real.{IsRealExemplar, IsRealPoint}
use Rattle.otlp_model.specs.Profile.{IsProfileExemplar, IsProfilePoint}
use Rattle.otlp_codec.specs.Points.{exemplar_in, point_in}
use Rattle.otlp_codec.specs.MetricSpelling.{exemplar_rows, canon_exemplar, point_rows, canon_point}
use Rattle.otlp_codec.specs.lemmas.MetricsPassed.{exemplar_passes, point_passes}
use Rattle.otlp_codec.proofs.Chain.{Law, also, last, law_of}
use Rattle.otlp_codec.proofs.FieldLaw.{uint32_held, fixed64_held, id_held, many_held}
use Rattle.otlp_codec.proofs.Attributes.{pairs_held}
use Rattle.otlp_codec.proofs.NumberHeld.{double_held, int_held}

exemplar_laid : (x : Exemplar) → is_laid_out messages.Exemplar (exemplar_rows x) ≡ true
exemplar_laid x = elim x.value as (λ v. is_laid_out messages.Exemplar (exemplar_rows (record x { value = v })) ≡ true) [ Missing ↦ refl | Int z ↦ refl | Double bits ↦ refl ]

pub exemplar_law : (x : Exemplar) → IsRealExemplar x → Law (IsProfileExemplar x) messages.Exemplar level_limit exemplar_in canon_exemplar x (weight_of_exemplar x) 236
unfolding canon_exemplar
exemplar_law x real =
    let m = messages.Exemplar in
    law_of exemplar_in canon_exemplar
    (also (λ a r. record r { time = a }) (fixed64_held m 2 x.time refl refl real.time) refl (λ a v. refl)
    (also (λ a r. record r { value = a }) (double_held m 3 x.value refl refl real.value) refl (λ a v. refl)
    (also (λ a r. record r { span_id = a }) (id_held m 4 8 x.span_id refl refl (λ p. p.span_id)) refl (λ a v. refl)
    (also (λ a r. record r { trace_id = a }) (id_held m 5 16 x.trace_id refl refl (λ p. p.trace_id)) refl (λ a v. refl)
    (also (λ a r. record r { value = a }) (int_held m 6 x.value refl refl real.value) refl (λ a v. refl)
    (also (λ a r. record r { pairs = a }) (pairs_held m 7 x.pairs refl refl refl real.pairs (λ p. p.pairs.at)) refl (λ a v. refl) last))))))
    exemplar_passes refl (exemplar_laid x) (omega arith) (omega arith)

point_laid : (x : Point) → is_laid_out messages.NumberDataPoint (point_rows x) ≡ true
point_laid x = elim x.value as (λ v. is_laid_out messages.NumberDataPoint (point_rows (record x { value = v })) ≡ true) [ Missing ↦ refl | Int z ↦ refl | Double bits ↦ refl ]

pub point_law : (x : Point) → IsRealPoint x → Law (IsProfilePoint x) messages.NumberDataPoint level_limit point_in canon_point x (weight_of_point x) 236
unfolding canon_point
point_law x real =
    let m = messages.NumberDataPoint in
    law_of point_in canon_point
    (also (λ a r. record r { start = a }) (fixed64_held m 2 x.start refl refl real.start) refl (λ a v. refl)
    (also (λ a r. record r { time = a }) (fixed64_held m 3 x.time refl refl real.time) refl (λ a v. refl)
    (also (λ a r. record r { value = a }) (double_held m 4 x.value refl refl real.value) refl (λ a v. refl)
    (also (λ a r. record r { exemplars = a }) (many_held IsProfileExemplar m 5 messages.Exemplar exemplar_in canon_exemplar 32 weight_of_exemplar 236 x.exemplars refl refl refl refl refl
    (every_weaker _ _ exemplar_law x.exemplars (recursion_from_All IsRealExemplar x.exemplars real.exemplars.at)) (λ p. recursion_from_All _ x.exemplars p.exemplars.at)) refl (λ a v. refl)
    (also (λ a r. record r { value = a }) (int_held m 6 x.value refl refl real.value) refl (λ a v. refl)
    (also (λ a r. record r { pairs = a }) (pairs_held m 7 x.pairs refl refl refl real.pairs (λ p. p.pairs.at)) refl (λ a v. refl)
    (also (λ a r. record r { flags = a }) (uint32_held m 8 x.flags refl refl real.flags) refl (λ a v. refl) last)))))))
    point_passes refl (point_laid x) (omega arith) (omega arith)
