-- The request that the tables of a signal make: what is found makes it, tables that read as others make theirs, and none without rows.
use Rattle.std.proofs.Common.{◌≡◌, ℕ, List, [], Option, refl}
use Rattle.std.specs.Prelude.{All}
use Rattle.otlp_model.specs.declared.value.Pair.{Pair}
use Rattle.otap_cells.specs.declared.payload.Kind.{Kind}
use Rattle.otap_cells.specs.declared.payload.Kind.TheVariants as table
use Rattle.otap_cells.specs.Cells.{Cell}
use Rattle.otap_cells.specs.GivenIds.{ReadAs}
use Rattle.otap_cells.specs.Named.{table_named}
use Rattle.otap_cells.specs.Tables.{Table, profile_table}
use Rattle.otap_groups.specs.Groups.{regrouped}
use Rattle.otap_groups.specs.Kinds.{IsMain}
use Rattle.otap_groups.specs.Rows.{MainRow, main_rows}
use Rattle.otap_groups.specs.Runs.{runs}
use Rattle.otap_attrs.specs.Index.{pairs_in}
use Rattle.otap_checks.specs.Reading.{HasAllIds, main_rows_in}
use Rattle.otap_checks.specs.Regrouping.{regrouped_in}
use Rattle.otap_checks.proofs.NamedAlike.{main_alike, pairs_alike}

module _ {I : Type 0} (main : Kind) (item : List Table → Option ℕ → List Cell → I) where
  -- what is found by indexes is what the tables have
  pub request_is : (tables : List Table) (resources scopes : Option ℕ → List Pair) (found : Option ℕ → List Cell → I) (rows : List MainRow)
      → rows ≡ main_rows_in (table_named main tables)
      → ((parent : Option ℕ) → resources parent ≡ pairs_in (table_named table.ResourceAttrs tables) parent)
      → ((parent : Option ℕ) → scopes parent ≡ pairs_in (table_named table.ScopeAttrs tables) parent)
      → ((id : Option ℕ) (cells : List Cell) → found id cells ≡ item tables id cells)
      → regrouped resources scopes found rows ≡ regrouped_in main item tables
  request_is tables resources scopes found rows are of_resources of_scopes of_items =
      λ i. regrouped (λ parent. of_resources parent i) (λ parent. of_scopes parent i) (λ id cells. of_items id cells i) (are i)

  -- no rows make no groups
  pub no_groups : (tables : List Table) → table_named main tables ≡ profile_table main [] → regrouped_in main item tables ≡ []
  unfolding regrouped runs main_rows
  no_groups tables none = rw none refl

  pub request_alike : (tables others : List Table) → ReadAs tables others → All HasAllIds others → IsMain main
      → ((id : Option ℕ) (cells : List Cell) → item tables id cells ≡ item others id cells) → regrouped_in main item tables ≡ regrouped_in main item others
  request_alike tables others reads given is same = λ i. regrouped
      (λ parent. pairs_alike tables others reads given table.ResourceAttrs refl parent i)
      (λ parent. pairs_alike tables others reads given table.ScopeAttrs refl parent i)
      (λ id cells. same id cells i) (main_alike tables others reads given main is i)
