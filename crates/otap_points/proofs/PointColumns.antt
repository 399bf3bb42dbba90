-- The columns of the tables of points, of exemplars and of their attributes.
use Rattle.std.proofs.Common.{◌≡◌, ℕ, ◌<◌, true, List, length, refl, ap, arith}
use Rattle.otap_cells.specs.declared.payload.Kind.TheVariants as table
use Rattle.otap_cells.specs.declared.payload.Kind.{Kind}
use Rattle.otap_cells.specs.Columns.{ColumnSpec, columns_of, deep_attrs, exemplars, hist_points, is_id_at, number_points, summary_points, width_of}
use Rattle.otap_groups.specs.Kinds.{IsPart}
use Rattle.otap_groups.proofs.IdColumns.{each_id}
use Rattle.otap_attrs.specs.Values.{HasValueAt}

pub points_are_parts : IsPart table.NumberPoints
unfolding number_points
points_are_parts = record { wide = omega arith; other = refl; id = refl; parent = refl; ids_rise = refl }

pub exemplars_are_parts : IsPart table.NumberExemplars
unfolding exemplars
exemplars_are_parts = record { wide = omega arith; other = refl; id = refl; parent = refl; ids_rise = refl }

pub hists_are_parts : IsPart table.HistPoints
unfolding hist_points
hists_are_parts = record { wide = omega arith; other = refl; id = refl; parent = refl; ids_rise = refl }

pub summaries_are_parts : IsPart table.SummaryPoints
unfolding summary_points
summaries_are_parts = record { wide = omega arith; other = refl; id = refl; parent = refl; ids_rise = refl }

pub hist_exemplars_are_parts : IsPart table.HistExemplars
unfolding exemplars
hist_exemplars_are_parts = record { wide = omega arith; other = refl; id = refl; parent = refl; ids_rise = refl }

pub has_point_value : HasValueAt table.NumberPointAttrs 2
unfolding deep_attrs
has_point_value = record { names = refl; bases = refl }

pub has_exemplar_value : HasValueAt table.NumberExemplarAttrs 2
unfolding deep_attrs
has_exemplar_value = record { names = refl; bases = refl }

pub has_summary_value : HasValueAt table.SummaryPointAttrs 2
unfolding deep_attrs
has_summary_value = record { names = refl; bases = refl }

pub has_hist_value : HasValueAt table.HistPointAttrs 2
unfolding deep_attrs
has_hist_value = record { names = refl; bases = refl }

pub has_hist_exemplar_value : HasValueAt table.HistExemplarAttrs 2
unfolding deep_attrs
has_hist_exemplar_value = record { names = refl; bases = refl }

pub point_width : 5 < width_of table.NumberPoints
unfolding number_points
point_width = omega arith

pub exemplar_wide : 4 < width_of table.NumberExemplars
unfolding exemplars
exemplar_wide = omega arith

pub exemplar_width : (kind : Kind) → columns_of kind ≡ exemplars → width_of kind ≡ 7
unfolding exemplars
exemplar_width kind is = ap (λ (columns : List ColumnSpec). length columns) is

pub hist_exemplar_wide : 4 < width_of table.HistExemplars
unfolding exemplars
hist_exemplar_wide = omega arith

-- the id columns of points and of exemplars
pub point_ids : (P : ℕ → Type 0) → P 0 → P 1 → (column : ℕ) → is_id_at table.NumberPoints column ≡ true → P column
unfolding number_points
point_ids P own parent column is = each_id P table.NumberPoints (own, (parent, tt)) column is

pub exemplar_ids : (P : ℕ → Type 0) → P 0 → P 1 → (column : ℕ) → is_id_at table.NumberExemplars column ≡ true → P column
unfolding exemplars
exemplar_ids P own parent column is = each_id P table.NumberExemplars (own, (parent, tt)) column is

pub hist_ids : (P : ℕ → Type 0) → P 0 → P 1 → (column : ℕ) → is_id_at table.HistPoints column ≡ true → P column
unfolding hist_points
hist_ids P own parent column is = each_id P table.HistPoints (own, (parent, tt)) column is

pub summary_ids : (P : ℕ → Type 0) → P 0 → P 1 → (column : ℕ) → is_id_at table.SummaryPoints column ≡ true → P column
unfolding summary_points
summary_ids P own parent column is = each_id P table.SummaryPoints (own, (parent, tt)) column is

pub hist_exemplar_ids : (P : ℕ → Type 0) → P 0 → P 1 → (column : ℕ) → is_id_at table.HistExemplars column ≡ true → P column
unfolding exemplars
hist_exemplar_ids P own parent column is = each_id P table.HistExemplars (own, (parent, tt)) column is
