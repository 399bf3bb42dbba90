-- The main tables of the signals.
use Rattle.std.proofs.Common.{◌≡◌, ◌∙◌, ℕ, List, false, codes, refl, sym, ap, arith, inl, inr}
use Rattle.std.specs.Prelude.{◌⊎◌}
use Rattle.std.specs.Str.{bytes_eq}
use Rattle.std.proofs.lemmas.Bool.{false≢true}
use Rattle.otap_cells.specs.declared.payload.Kind.TheVariants as table
use Rattle.otap_cells.specs.Columns.{logs, metrics, spans}
use Rattle.otap_groups.specs.Kinds.{IsMain}
use Rattle.otap_groups.proofs.IdColumns.{each_id}
use Rattle.otap_checks.specs.Written.{IsMainKind}

pub logs_are_main : IsMain table.Logs
unfolding logs
logs_are_main = record {
  wide = omega arith;
  id = refl;
  resource_id = refl;
  resource_url = refl;
  resource_dropped = refl;
  scope_id = refl;
  scope_name = refl;
  scope_version = refl;
  scope_dropped = refl;
  schema_url = refl;
  ids_rise = refl;
  resource_ids_rise = refl;
  scope_ids_rise = refl;
}

pub spans_are_main : IsMain table.Spans
unfolding spans
spans_are_main = record {
  wide = omega arith;
  id = refl;
  resource_id = refl;
  resource_url = refl;
  resource_dropped = refl;
  scope_id = refl;
  scope_name = refl;
  scope_version = refl;
  scope_dropped = refl;
  schema_url = refl;
  ids_rise = refl;
  resource_ids_rise = refl;
  scope_ids_rise = refl;
}

pub metrics_are_main : IsMain table.Metrics
unfolding metrics
metrics_are_main = record {
  wide = omega arith;
  id = refl;
  resource_id = refl;
  resource_url = refl;
  resource_dropped = refl;
  scope_id = refl;
  scope_name = refl;
  scope_version = refl;
  scope_dropped = refl;
  schema_url = refl;
  ids_rise = refl;
  resource_ids_rise = refl;
  scope_ids_rise = refl;
}

-- a name that isn't that of parents
pub other_name : (name : List ℕ) → bytes_eq name (codes "parent_id") ≡ false → name ≡ codes "parent_id" → ⊥
other_name name miss is = false≢true (sym miss ∙ ap (λ n. bytes_eq n (codes "parent_id")) is)

abbrev IsFront : ℕ → Type 0
IsFront column = (column ≡ 0) ⊎ ((column ≡ 1) ⊎ (column ≡ 4))

pub logs_kind : IsMainKind table.Logs
unfolding logs
logs_kind = record {
  front = logs_are_main;
  ids = λ column is. each_id IsFront table.Logs (inl refl, (inr (inl refl), (inr (inr refl), tt))) column is;
  own = other_name _ refl;
  resource = other_name _ refl;
  scope = other_name _ refl;
}

pub spans_kind : IsMainKind table.Spans
unfolding spans
spans_kind = record {
  front = spans_are_main;
  ids = λ column is. each_id IsFront table.Spans (inl refl, (inr (inl refl), (inr (inr refl), tt))) column is;
  own = other_name _ refl;
  resource = other_name _ refl;
  scope = other_name _ refl;
}

pub metrics_kind : IsMainKind table.Metrics
unfolding metrics
metrics_kind = record {
  front = metrics_are_main;
  ids = λ column is. each_id IsFront table.Metrics (inl refl, (inr (inl refl), (inr (inr refl), tt))) column is;
  own = other_name _ refl;
  resource = other_name _ refl;
  scope = other_name _ refl;
}
