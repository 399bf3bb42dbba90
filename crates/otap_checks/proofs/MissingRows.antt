-- A table that isn't there has no parts, and no rows of it differ; of one that is there, the parts are those of its rows.
use Rattle.std.proofs.Common.{◌≡◌, ℕ, List, [], Option, None, Some, length, map, drop, refl, inl, inr, arith}
use Rattle.otap_cells.specs.declared.payload.Kind.{Kind}
use Rattle.otap_cells.specs.Cells.{Cell}
use Rattle.otap_cells.specs.GivenIds.{HasIds}
use Rattle.otap_cells.specs.Tables.{Table, profile_table}
use Rattle.otap_groups.specs.Children.{children}
use Rattle.otap_groups.specs.Rows.{child_rows, main_rows}
use Rattle.otap_attrs.specs.Index.{pairs_in}
use Rattle.otap_checks.specs.Reading.{Disagrees, part_rows_in}
use Rattle.otap_attrs.proofs.TablePairs.{ids_are}

pub parts_are : {C : Type 0} (item : Option ℕ → List Cell → C) (t : Table) (ids parents : List (Option ℕ)) → HasIds t 0 ids → HasIds t 1 parents → (parent : Option ℕ)
    → children item (child_rows ids parents (map (drop 2) t.rows)) parent ≡ children item (part_rows_in t) parent
parts_are item t ids parents own above parent = λ i. children item (child_rows (ids_are t 0 ids own i) (ids_are t 1 parents above i) (map (drop 2) t.rows)) parent

pub no_parts : {C : Type 0} (item : Option ℕ → List Cell → C) (kind : Kind) (parent : Option ℕ) → [] ≡ children item (part_rows_in (profile_table kind [])) parent
unfolding child_rows
no_parts item kind None = refl
no_parts item kind (Some parent) = refl

pub no_pairs : (kind : Kind) (parent : Option ℕ) → [] ≡ pairs_in (profile_table kind []) parent
unfolding child_rows
no_pairs kind None = refl
no_pairs kind (Some parent) = refl

no_rows : (ids resource_ids scope_ids : List (Option ℕ)) → length (main_rows ids resource_ids scope_ids []) ≡ 0
unfolding main_rows
no_rows ids resource_ids scope_ids = refl

pub none_differ : (kind : Kind) → Disagrees (profile_table kind []) → ⊥
none_differ kind (inl d) = absurd (omega (arith, d.differ.first.1, no_rows [] d.ids []))
none_differ kind (inr d) = absurd (omega (arith, d.differ.first.1, no_rows [] [] d.ids))
