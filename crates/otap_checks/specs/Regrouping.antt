-- The request that tables make. What a refusal to regroup them says: something that is wrong with their rows, or that nothing is
-- and their request is too heavy.
use Rattle.std.specs.Prelude.{ℕ, ◌<◌, List, Option}
use Rattle.otlp_model.specs.declared.groups.ResourceGroup.{ResourceGroup}
use Rattle.otlp_model.specs.Limits.{weight_limit}
use Rattle.otap_attrs.specs.declared.refusal.RowRefusal.{RowRefusal}
use Rattle.otap_cells.specs.declared.payload.Kind.{Kind}
use Rattle.otap_cells.specs.declared.payload.Kind.TheVariants as table
use Rattle.otap_cells.specs.Cells.{Cell}
use Rattle.otap_cells.specs.Named.{table_named}
use Rattle.otap_cells.specs.Tables.{Table}
use Rattle.otap_groups.specs.Groups.{regrouped}
use Rattle.otap_attrs.specs.Index.{pairs_in}
use Rattle.otap_checks.specs.declared.regrouping.RegroupRefusal.{RegroupRefusal}
use Rattle.otap_checks.specs.declared.regrouping.RegroupRefusal.TheVariants as regroup
use Rattle.otap_checks.specs.Reading.{main_rows_in}
use Rattle.otap_checks.specs.Refusing.{IsClean, RefusesCheck}

-- THE REQUEST that the tables of a signal make: the rows of the main one, each with its own cells and what the tables below have for its id
abbrev pub regrouped_in : {I : Type 0} → Kind → (List Table → Option ℕ → List Cell → I) → List Table → List (ResourceGroup I)
regrouped_in main item tables = regrouped
    (pairs_in (table_named table.ResourceAttrs tables))
    (pairs_in (table_named table.ScopeAttrs tables))
    (item tables)
    (main_rows_in (table_named main tables))

-- nothing is wrong with the rows, and the request weighs more than the limit
pub record IsTooHeavy (Wrong : Kind → RowRefusal → Type 0) (weight : ℕ) : Type 0 where
  pub clean : IsClean Wrong
  pub heavy : weight_limit < weight

-- WHY TABLES MAKE NO REQUEST, where `Wrong` says what is wrong with their rows, and their request has this weight
abbrev pub RefusesRegroup : (Kind → RowRefusal → Type 0) → ℕ → RegroupRefusal → Type 0
RefusesRegroup Wrong weight (regroup.Rows refusal) = RefusesCheck Wrong refusal
RefusesRegroup Wrong weight regroup.TooHeavy = IsTooHeavy Wrong weight
