-- What the groups of rows weigh, row by row; the groups of fewer rows, and of renewed rows, weigh no more.
use Rattle.std.proofs.Common.{◌≡◌, ℕ, ◌+◌, ◌≤◌, Bool, true, ◌&&◌, List, [], ◌∷◌, Option, map, refl, ◌∙◌, ap, inl, inr, arith}
use Rattle.std.specs.Prelude.{filter, if◌then◌else◌}
use Rattle.std.proofs.lemmas.Bool.{cases_Bool, and_parts}
use Rattle.otlp_model.specs.Weight.{total, weight_of_resource, weight_of_resource_group, weight_of_scope, weight_of_scope_group}
use Rattle.otlp_model.specs.declared.value.Pair.{Pair}
use Rattle.otap_cells.specs.Cells.{Cell}
use Rattle.otap_groups.specs.Rows.{MainRow, cell_is, cells_are, id_is, same_resource, same_scope}
use Rattle.otap_groups.specs.Runs.{runs}
use Rattle.otap_groups.specs.Groups.{item_of_row, regrouped, resource_at, resource_group, resource_of_run, scope_at, scope_group}
use Rattle.otap_groups.proofs.CellTests.{cells_told}
use Rattle.otap_kept.proofs.Costs.{Alike, adds, charge, cost, fewer_cost, summed, weighed}
use Rattle.otap_kept.proofs.RowsTold.{cell_told, id_told, one_resource, one_scope}

abbrev pub same_both : MainRow → MainRow → Bool
same_both x y = same_resource x y && same_scope x y

like_resource : (x y : MainRow) → same_resource x y ≡ true → (z : MainRow) → same_resource x z ≡ same_resource y z
like_resource x y t z =
    let parts = and_parts (id_is x.resource_id y.resource_id) (cells_are x.resource y.resource) t in
    λ i. id_is (id_told x.resource_id y.resource_id parts.0 i) z.resource_id && cells_are (cells_told x.resource y.resource parts.1 i) z.resource

like_scope : (x y : MainRow) → same_scope x y ≡ true → (z : MainRow) → same_scope x z ≡ same_scope y z
like_scope x y t z =
    let parts = and_parts (id_is x.scope_id y.scope_id) (cells_are x.scope y.scope && cell_is x.schema_url y.schema_url) t in
    let cells = and_parts (cells_are x.scope y.scope) (cell_is x.schema_url y.schema_url) parts.1 in
    λ i. id_is (id_told x.scope_id y.scope_id parts.0 i) z.scope_id && (cells_are (cells_told x.scope y.scope cells.0 i) z.scope && cell_is (cell_told x.schema_url y.schema_url cells.1 i) z.schema_url)

module _ {I : Type 0} (weigh : I → ℕ) (d e : Option ℕ → List Pair) (item : Option ℕ → List Cell → I) where
  abbrev pub of_resource : MainRow → ℕ
  of_resource row = 32 + weight_of_resource (resource_at d row)

  abbrev pub of_scope : MainRow → ℕ
  of_scope row = 32 + weight_of_scope (scope_at e row)

  abbrev pub of_item : MainRow → ℕ
  of_item row = 32 + weigh (item_of_row item row)

  resources_alike : Alike same_resource of_resource
  resources_alike x y t = (ap (λ resource. 32 + weight_of_resource resource) (one_resource d e item x y t), like_resource x y t)

  scopes_alike : Alike same_both of_scope
  scopes_alike x y t =
      let parts = and_parts (same_resource x y) (same_scope x y) t in
      (ap (λ scope. 32 + weight_of_scope scope) (one_scope d e item x y parts.1), λ z i. like_resource x y parts.0 z i && like_scope x y parts.1 z i)

  -- ---- the scopes of one resource

  scope_run : List MainRow → ℕ
  scope_run rows = 32 + weight_of_scope_group weigh (scope_group e item rows)

  scope_joined : (x y : MainRow) (ys : List MainRow) → same_scope x y ≡ true → scope_run (x ∷ y ∷ ys) ≡ of_item x + scope_run (y ∷ ys)
  unfolding scope_run
  scope_joined x y ys t =
      let same : weight_of_scope (scope_at e x) ≡ weight_of_scope (scope_at e y) = ap weight_of_scope (one_scope d e item x y t) in
      omega (arith, same)

  abbrev inside : List MainRow → ℕ
  inside rows = summed same_scope scope_run (runs same_scope rows)

  inside_more : (x : MainRow) (xs : List MainRow) → inside (x ∷ xs) ≡ adds same_scope scope_run (λ x y. of_item x) x xs + inside xs
  inside_more x xs = weighed same_scope scope_run (λ x y. of_item x) scope_joined x xs

  inside_is : (cuts : List (List MainRow)) → total 32 (weight_of_scope_group weigh) (map (scope_group e item) cuts) ≡ summed same_scope scope_run cuts
  unfolding scope_run
  inside_is [] = refl
  inside_is (rows ∷ cuts) = let ih = inside_is cuts in omega (arith, ih)

  alone : (x : MainRow) → scope_run (x ∷ []) ≡ of_scope x + of_item x
  unfolding scope_run
  alone x = omega arith

  nothing : inside [] ≡ 0
  unfolding runs
  nothing = refl

  -- ---- resources

  resource_run : List MainRow → ℕ
  resource_run rows = 32 + weight_of_resource (resource_of_run d rows) + inside rows

  abbrev next : MainRow → MainRow → ℕ
  next x y = if same_scope x y then of_item x else scope_run (x ∷ [])

  resource_joined : (x y : MainRow) (ys : List MainRow) → same_resource x y ≡ true → resource_run (x ∷ y ∷ ys) ≡ next x y + resource_run (y ∷ ys)
  unfolding resource_run
  resource_joined x y ys t =
      let same : weight_of_resource (resource_at d x) ≡ weight_of_resource (resource_at d y) = ap weight_of_resource (one_resource d e item x y t) in
      omega (arith, same, inside_more x (y ∷ ys))

  resource_alone : (x : MainRow) → resource_run (x ∷ []) ≡ of_resource x + (of_scope x + of_item x)
  unfolding resource_run
  resource_alone x = omega (arith, inside_more x [], nothing, alone x)

  groups_are : (cuts : List (List MainRow)) → total 32 (weight_of_resource_group weigh) (map (resource_group d e item) cuts) ≡ summed same_resource resource_run cuts
  unfolding resource_group resource_run
  groups_are [] = refl
  groups_are (rows ∷ cuts) = let ih = groups_are cuts in let here = inside_is (runs same_scope rows) in omega (arith, ih, here)

  no_runs : summed same_resource resource_run (runs same_resource []) ≡ 0
  unfolding runs
  no_runs = refl

  unfoldable pub items_weigh : List MainRow → ℕ
  items_weigh [] = 0
  items_weigh (row ∷ rows) = of_item row + items_weigh rows

  unfoldable pub whole : List MainRow → ℕ
  whole rows = cost same_resource of_resource rows + cost same_both of_scope rows + items_weigh rows

  one_more : (x : MainRow) (xs : List MainRow)
      → adds same_resource resource_run next x xs ≡ charge same_resource of_resource x xs + charge same_both of_scope x xs + of_item x
  one_more x [] = omega (arith, resource_alone x)
  one_more x (y ∷ ys) = elim (cases_Bool (same_resource x y)) [
    | inl t ↦ elim (cases_Bool (same_scope x y)) [
      | inl u ↦ rw (t, u) (omega arith)
      | inr f ↦ rw (t, f) (omega (arith, alone x))
    ]
    | inr f ↦ rw f (omega (arith, resource_alone x))
  ]

  runs_weigh : (rows : List MainRow) → summed same_resource resource_run (runs same_resource rows) ≡ whole rows
  unfolding whole items_weigh
  runs_weigh [] = no_runs
  runs_weigh (x ∷ xs) =
      let step = weighed same_resource resource_run next resource_joined x xs in
      let ih = runs_weigh xs in
      omega (arith, step, ih, one_more x xs)

  -- THE WEIGHT of the groups of rows
  pub groups_weigh : (rows : List MainRow) → total 32 (weight_of_resource_group weigh) (regrouped d e item rows) ≡ whole rows
  unfolding regrouped
  groups_weigh rows = groups_are (runs same_resource rows) ∙ runs_weigh rows

  fewer_items : (test : MainRow → Bool) (rows : List MainRow) → items_weigh (filter test rows) ≤ items_weigh rows
  unfolding items_weigh
  fewer_items test [] = omega arith
  fewer_items test (row ∷ rows) =
      let ih = fewer_items test rows in elim (cases_Bool (test row)) [
        | inl t ↦ rw t (omega (arith, ih))
        | inr f ↦ rw f (omega (arith, ih))
      ]

  -- FEWER ROWS weigh no more, also where groups come together
  pub fewer_weigh : (test : MainRow → Bool) (rows : List MainRow)
      → total 32 (weight_of_resource_group weigh) (regrouped d e item (filter test rows)) ≤ total 32 (weight_of_resource_group weigh) (regrouped d e item rows)
  unfolding whole
  fewer_weigh test rows =
      omega (
        arith,
        groups_weigh (filter test rows),
        groups_weigh rows,
        fewer_cost same_resource of_resource resources_alike test rows,
        fewer_cost same_both of_scope scopes_alike test rows,
        fewer_items test rows,
      )
