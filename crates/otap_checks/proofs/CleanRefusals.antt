-- What is refused where nothing is wrong with the rows: only out of memory, or the weight of the request.
use Rattle.std.proofs.Common.{◌≡◌, ◌<◌, ℕ, subst}
use Rattle.otlp_model.specs.Limits.{weight_limit}
use Rattle.otap_attrs.specs.declared.refusal.CheckRefusal.TheVariants as check
use Rattle.otap_attrs.specs.declared.refusal.RowRefusal.{RowRefusal}
use Rattle.otap_cells.specs.declared.payload.Kind.{Kind}
use Rattle.otap_checks.specs.declared.regrouping.RegroupRefusal.{RegroupRefusal}
use Rattle.otap_checks.specs.declared.regrouping.RegroupRefusal.TheVariants as regroup
use Rattle.otap_checks.specs.Refusing.{Nothing}
use Rattle.otap_checks.specs.Regrouping.{RefusesRegroup}

pub refused_so : (Wrong : Kind → RowRefusal → Type 0) (weight other : ℕ) (why : RegroupRefusal) → weight ≡ other → ((kind : Kind) (wrong : RowRefusal) → Wrong kind wrong → ⊥)
    → RefusesRegroup Nothing weight why → RefusesRegroup Wrong other why
refused_so Wrong weight other (regroup.Rows (check.Memory error)) same clean refused = refused
refused_so Wrong weight other (regroup.Rows (check.Defect kind wrong)) same clean refused = absurd refused
refused_so Wrong weight other regroup.TooHeavy same clean refused = record { clean = clean; heavy = subst (λ (now : ℕ). weight_limit < now) same refused.heavy }
