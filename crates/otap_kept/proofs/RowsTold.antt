-- The telemetry of groups of rows is that of the rows, one by one: groups are only a way to write it.
use Rattle.std.proofs.Common.{◌≡◌, ℕ, Bool, true, ◌&&◌, List, [], ◌∷◌, ◌++◌, Option, None, Some, map, refl, sym, ◌∙◌, ap, inl, inr}
use Rattle.std.specs.List.{flat_map}
use Rattle.std.proofs.lemmas.Bool.{cases_Bool, and_from, and_parts, eqb-true, false≢true}
use Rattle.otlp_model.specs.Telemetry.{ItemEntry, item_entries, entries_of_group, entries_of_scope_group, item_entry}
use Rattle.otlp_model.specs.declared.groups.Resource.{Resource}
use Rattle.otlp_model.specs.declared.groups.Scope.{Scope}
use Rattle.otlp_model.specs.declared.value.Pair.{Pair}
use Rattle.otap_cells.specs.Cells.{Cell, cell_at}
use Rattle.otap_groups.specs.Rows.{MainRow, cells_are, cell_is, id_is, same_resource, same_scope}
use Rattle.otap_groups.specs.Runs.{before_runs, runs}
use Rattle.otap_groups.specs.Groups.{item_of_row, regrouped, resource_at, resource_group, resource_of, resource_of_run, scope_at, scope_group, scope_of}
use Rattle.otap_groups.proofs.CellTests.{cells_told}

-- the entry of a row, where pairs of resources and of scopes and the items are found in these ways
abbrev pub entry_of_row : {I : Type 0} → (Option ℕ → List Pair) → (Option ℕ → List Pair) → (Option ℕ → List Cell → I) → MainRow → ItemEntry I
entry_of_row d e item row = item_entry (resource_at d row) (scope_at e row) (item_of_row item row)

-- what holds of a run's first row, and of a run with one row more, holds of all runs
module _ {A E : Type 0} (same : A → A → Bool) (one : A → E) (of_run : List A → List E) (none : of_run [] ≡ []) (single : (x : A) → of_run (x ∷ []) ≡ one x ∷ [])
    (joined : (x y : A) (ys : List A) → same x y ≡ true → of_run (x ∷ y ∷ ys) ≡ one x ∷ of_run (y ∷ ys)) where
  before : (x : A) (rs : List (List A)) → flat_map of_run (before_runs same x rs) ≡ one x ∷ flat_map of_run rs
  before x [] = ap (λ es. es ++ []) (single x)
  before x ([] ∷ rs) = (λ i. single x i ++ flat_map of_run rs) ∙ (λ i. one x ∷ (sym none i ++ flat_map of_run rs))
  before x ((y ∷ ys) ∷ rs) = elim (cases_Bool (same x y)) [
    | inl t ↦ rw t (ap (λ es. es ++ flat_map of_run rs) (joined x y ys t))
    | inr f ↦ rw f (ap (λ es. es ++ flat_map of_run ((y ∷ ys) ∷ rs)) (single x))
  ]

  pub by_runs : (xs : List A) → flat_map of_run (runs same xs) ≡ map one xs
  unfolding runs
  by_runs [] = refl
  by_runs (x ∷ xs) = before x (runs same xs) ∙ ap (λ es. one x ∷ es) (by_runs xs)

-- equal ids are equal
pub id_told : (a b : Option ℕ) → id_is a b ≡ true → a ≡ b
id_told None None t = refl
id_told None (Some n) t = absurd (false≢true t)
id_told (Some m) None t = absurd (false≢true t)
id_told (Some m) (Some n) t = ap Some (eqb-true m n t)

pub cell_told : (a b : Cell) → cell_is a b ≡ true → a ≡ b
cell_told a b t = ap (λ cells. cell_at cells 0) (cells_told (a ∷ []) (b ∷ []) (and_from (cell_is a b) true t refl))

module _ {I : Type 0} (d e : Option ℕ → List Pair) (item : Option ℕ → List Cell → I) where
  pub one_resource : (x y : MainRow) → same_resource x y ≡ true → resource_at d x ≡ resource_at d y
  one_resource x y t =
      let parts = and_parts (id_is x.resource_id y.resource_id) (cells_are x.resource y.resource) t in
      λ i. resource_of (cells_told x.resource y.resource parts.1 i) (d (id_told x.resource_id y.resource_id parts.0 i))

  pub one_scope : (x y : MainRow) → same_scope x y ≡ true → scope_at e x ≡ scope_at e y
  one_scope x y t =
      let parts = and_parts (id_is x.scope_id y.scope_id) (cells_are x.scope y.scope && cell_is x.schema_url y.schema_url) t in
      let cells = and_parts (cells_are x.scope y.scope) (cell_is x.schema_url y.schema_url) parts.1 in
      λ i. scope_of (cells_told x.scope y.scope cells.0 i) (cell_told x.schema_url y.schema_url cells.1 i) (e (id_told x.scope_id y.scope_id parts.0 i))

  abbrev in_resource : Resource → MainRow → ItemEntry I
  in_resource resource row = item_entry resource (scope_at e row) (item_of_row item row)

  scopes_cut : (resource : Resource) (cuts : List (List MainRow))
      → flat_map (entries_of_scope_group resource) (map (scope_group e item) cuts) ≡ flat_map (λ rows. entries_of_scope_group resource (scope_group e item rows)) cuts
  scopes_cut resource [] = refl
  scopes_cut resource (rows ∷ cuts) = ap (λ es. entries_of_scope_group resource (scope_group e item rows) ++ es) (scopes_cut resource cuts)

  items_moved : (resource : Resource) (a b : Scope) (rows : List MainRow) → a ≡ b → map (item_entry resource a) (map (item_of_row item) rows) ≡ map (item_entry resource b) (map (item_of_row item) rows)
  items_moved resource a b rows same = ap (λ scope. map (item_entry resource scope) (map (item_of_row item) rows)) same

  in_scopes : (resource : Resource) (rows : List MainRow)
      → flat_map (entries_of_scope_group resource) (map (scope_group e item) (runs same_scope rows)) ≡ map (in_resource resource) rows
  in_scopes resource rows =
      scopes_cut resource (runs same_scope rows)
      ∙ by_runs same_scope (in_resource resource) (λ rows. entries_of_scope_group resource (scope_group e item rows)) refl (λ x. refl)
      (λ x y ys t. ap (λ es. in_resource resource x ∷ es) (items_moved resource (scope_at e x) (scope_at e y) (y ∷ ys) (one_scope x y t))) rows

  of_resource : List MainRow → List (ItemEntry I)
  of_resource rows = entries_of_group (resource_group d e item rows)

  resource_told : (rows : List MainRow) → of_resource rows ≡ map (in_resource (resource_of_run d rows)) rows
  unfolding of_resource resource_group
  resource_told rows = in_scopes (resource_of_run d rows) rows

  resource_joined : (x y : MainRow) (ys : List MainRow) → same_resource x y ≡ true → of_resource (x ∷ y ∷ ys) ≡ entry_of_row d e item x ∷ of_resource (y ∷ ys)
  resource_joined x y ys t =
      resource_told (x ∷ y ∷ ys)
      ∙ ap (λ (resource : Resource). entry_of_row d e item x ∷ map (in_resource resource) (y ∷ ys)) (one_resource x y t)
      ∙ ap (λ es. entry_of_row d e item x ∷ es) (sym (resource_told (y ∷ ys)))

  resources_cut : (cuts : List (List MainRow)) → item_entries (map (resource_group d e item) cuts) ≡ flat_map of_resource cuts
  unfolding of_resource
  resources_cut [] = refl
  resources_cut (rows ∷ cuts) = ap (λ es. entries_of_group (resource_group d e item rows) ++ es) (resources_cut cuts)

  -- THE ENTRIES of grouped rows are those of the rows, one for each
  pub told_by_rows : (rows : List MainRow) → item_entries (regrouped d e item rows) ≡ map (entry_of_row d e item) rows
  unfolding regrouped
  told_by_rows rows =
      resources_cut (runs same_resource rows) ∙ by_runs same_resource (entry_of_row d e item) of_resource (resource_told []) (λ x. resource_told (x ∷ [])) resource_joined rows
