-- Kinds of tables by the columns at their front.
use Rattle.std.specs.Prelude.{◌≡◌, ◌≤◌, true, false}
use Rattle.otap_cells.specs.declared.payload.Kind.{Kind}
use Rattle.otap_cells.specs.declared.profile.Coding.TheVariants as coding
use Rattle.otap_cells.specs.declared.profile.Base.TheVariants as base
use Rattle.otap_cells.specs.Continuing.{has_attributes}
use Rattle.otap_cells.specs.Columns.{base_at, coding_at, is_id_at, width_of}

-- tables of items: in front are their ids, and the cells of resource and scope
pub record IsMain (kind : Kind) : Type 0 where
  pub wide : 9 ≤ width_of kind
  pub id : is_id_at kind 0 ≡ true
  pub resource_id : is_id_at kind 1 ≡ true
  pub resource_url : base_at kind 2 ≡ base.Utf8
  pub resource_dropped : base_at kind 3 ≡ base.U32
  pub scope_id : is_id_at kind 4 ≡ true
  pub scope_name : base_at kind 5 ≡ base.Utf8
  pub scope_version : base_at kind 6 ≡ base.Utf8
  pub scope_dropped : base_at kind 7 ≡ base.U32
  pub schema_url : base_at kind 8 ≡ base.Utf8
  pub ids_rise : coding_at kind 0 ≡ coding.Delta
  pub resource_ids_rise : coding_at kind 1 ≡ coding.Delta
  pub scope_ids_rise : coding_at kind 4 ≡ coding.Delta

-- tables of parts: in front are their ids and those of their parents
pub record IsPart (kind : Kind) : Type 0 where
  pub wide : 2 ≤ width_of kind
  pub other : has_attributes kind ≡ false
  pub id : is_id_at kind 0 ≡ true
  pub parent : is_id_at kind 1 ≡ true
  pub ids_rise : coding_at kind 0 ≡ coding.Delta
