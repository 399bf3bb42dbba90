-- What holds of all written tables: their kinds, their weight, and that they are the profile's.
use Rattle.std.proofs.Common.{◌≡◌, ◌∙◌, ℕ, suc, ◌+◌, ◌≤◌, ◌^◌, Bool, List, [], ◌∷◌, length, map, filter, Option, refl, sym, ap, subst, arith, inl, inr}
use Rattle.std.specs.Prelude.{All, Contains, nat_lt, sum_by}
use Rattle.std.proofs.lemmas.List.Sums.{sum_by-cons}
use Rattle.std.proofs.lemmas.List.Elements.{All-cons}
use Rattle.otlp_model.specs.declared.groups.ResourceGroup.{ResourceGroup}
use Rattle.otlp_model.specs.declared.request.Signal.{Signal}
use Rattle.otlp_model.specs.declared.request.Signal.TheVariants as signal
use Rattle.otap_cells.specs.declared.payload.Kind.{Kind}
use Rattle.otap_cells.specs.Cells.{Cell}
use Rattle.otap_cells.specs.Named.{table_named}
use Rattle.otap_cells.specs.Payload.{kinds_of}
use Rattle.otap_cells.specs.Tables.{IsRow, Table}
use Rattle.otap_cells.specs.Weights.{weight_of_table, weight_of_tables}
use Rattle.otap_cells.specs.Columns.{columns_of}
use Rattle.otap_cells.specs.GivenIds.{HasIds}
use Rattle.otap_groups.specs.Flat.{flat_items, items_of, numbered_rows}
use Rattle.otap_groups.specs.ProfileTables.{IsProfileTable}
use Rattle.otap_groups.specs.Rows.{MainRow}
use Rattle.otap_groups.specs.Stored.{main_table, stored_rows}
use Rattle.otap_groups.proofs.ProfileRows.{is_profile_table}
use Rattle.otap_groups.proofs.StoredRows.{own_ids_of, resource_ids_of, scope_ids_of}
use Rattle.otap_attrs.proofs.FilledTables.{Tells, filled, filled_all, filled_weigh, kinds_filled}
use Rattle.otap_checks.specs.declared.signals.TableLink.{TableLink}
use Rattle.otap_checks.specs.Links.{links_of}
use Rattle.otap_checks.specs.Written.{AreApart, IsMainKind, Written, table_of, tables_written}
use Rattle.otap_checks.proofs.NamedWritten.{kind_of, written_named}

-- the kinds of a signal are those of its table
pub kinds_listed : (of : Signal) → kinds_of of ≡ map (λ (link : TableLink). link.kind) (links_of of)
unfolding links_of
kinds_listed signal.Logs = refl
kinds_listed signal.Traces = refl
kinds_listed signal.Metrics = refl

module _ {I : Type 0} (main : Kind) (cells_of : I → List Cell) (ws : List Written) (groups : List (ResourceGroup I)) (far : AreApart main ws) where
  abbrev tables : List Table
  tables = tables_written main cells_of ws groups

  abbrev has : Kind → Bool
  has kind = nat_lt 0 (length (table_named kind tables).rows)

  tells : (all : List Written) → ((w : Written) → Contains all w → Contains ws w) → Tells has (map table_of all)
  tells [] are = tt
  tells (w ∷ all) are = (
    ap (λ (kind : Kind). has kind) (kind_of w) ∙ ap (λ (t : Table). nat_lt 0 (length t.rows)) (written_named main cells_of ws groups far w (are w (0, omega arith, refl))),
    tells all (λ v at. are v (suc at.0, omega (arith, at.1), at.2)),
  )

  kinds_map : (all : List Written) → map (λ (t : Table). t.kind) (map table_of all) ≡ map (λ (w : Written). w.kind) all
  kinds_map [] = refl
  kinds_map (w ∷ all) = λ i. kind_of w i ∷ kinds_map all i

  pub kinds_written : map (λ (t : Table). t.kind) tables ≡ main ∷ filter has (map (λ (w : Written). w.kind) ws)
  unfolding tables_written main_table
  kinds_written = ap (λ (kinds : List Kind). main ∷ kinds) (kinds_filled has (map table_of ws) (tells ws (λ w at. at)) ∙ ap (filter has) (kinds_map ws))

weights_map : (ws : List Written) → weight_of_tables (map table_of ws) ≡ sum_by (λ w. weight_of_table (table_of w)) ws
weights_map [] = refl
weights_map (w ∷ ws) =
    let more = weights_map ws in let a = sum_by-cons weight_of_table (table_of w) (map table_of ws) in
    let b = sum_by-cons (λ (w : Written). weight_of_table (table_of w)) w ws in omega (arith, more, a, b)

pub weighs : {I : Type 0} (main : Kind) (cells_of : I → List Cell) (ws : List Written) (groups : List (ResourceGroup I))
    → weight_of_tables (tables_written main cells_of ws groups) ≡ weight_of_table (main_table main cells_of groups) + sum_by (λ w. weight_of_table (table_of w)) ws
unfolding tables_written
weighs main cells_of ws groups =
    let a = sum_by-cons weight_of_table (main_table main cells_of groups) (filled (map table_of ws)) in
    let b = filled_weigh (map table_of ws) in let c = weights_map ws in omega (arith, a, b, c)

all_map : (ws : List Written) → All (λ w. IsProfileTable (table_of w)) ws → All IsProfileTable (map table_of ws)
all_map [] all = λ k d within. absurd (omega (arith, within))
all_map (w ∷ ws) all = All-cons IsProfileTable (table_of w) (map table_of ws) (all 0 w (omega arith)) (all_map ws (λ k d within. all (suc k) d (omega (arith, within))))

-- the main table, whose cells fit its columns
pub main_profile : {I : Type 0} (main : Kind) (cells_of : I → List Cell) (groups : List (ResourceGroup I)) → IsMainKind main → length (items_of groups) ≤ 2 ^ 32
    → All (IsRow (columns_of main)) (stored_rows cells_of 0 0 0 (flat_items groups)) → IsProfileTable (main_table main cells_of groups)
unfolding main_table
main_profile main cells_of groups is few fit =
    let rows : List MainRow = numbered_rows cells_of 0 (flat_items groups) in
    let P : ℕ → Type 0 = λ column. (ids : List (Option ℕ)) × HasIds (main_table main cells_of groups) column ids in
    is_profile_table main (stored_rows cells_of 0 0 0 (flat_items groups)) fit (λ column id. elim (is.ids column id) [
      | inl own ↦ subst P (sym own) (map (λ (row : MainRow). row.id) rows, own_ids_of cells_of main groups is.front few)
      | inr (inl resource) ↦ subst P (sym resource) (map (λ (row : MainRow). row.resource_id) rows, resource_ids_of cells_of main groups is.front few)
      | inr (inr scope) ↦ subst P (sym scope) (map (λ (row : MainRow). row.scope_id) rows, scope_ids_of cells_of main groups is.front few)
    ])

pub profile : {I : Type 0} (main : Kind) (cells_of : I → List Cell) (ws : List Written) (groups : List (ResourceGroup I))
    → IsProfileTable (main_table main cells_of groups) → All (λ w. IsProfileTable (table_of w)) ws → All IsProfileTable (tables_written main cells_of ws groups)
unfolding tables_written
profile main cells_of ws groups first all =
    All-cons IsProfileTable (main_table main cells_of groups) (filled (map table_of ws)) first (filled_all IsProfileTable (map table_of ws) (all_map ws all))
