-- The tables that are kept weigh no more, as rows, than those of the batch.
use Rattle.std.proofs.Common.{◌≡◌, ℕ, zero, suc, ◌+◌, ◌≤◌, Bool, true, false, List, [], ◌∷◌, ◌++◌, Option, None, Some, length, get_or, map, drop, refl, sym, ap, subst, inl, inr, arith}
use Rattle.std.specs.Prelude.{◌==◌, filter, not, sum_by}
use Rattle.std.specs.List.{range_with_len}
use Rattle.std.proofs.lemmas.Bool.{and_parts, cases_Bool, eqb-true, not-true}
use Rattle.std.proofs.lemmas.List.FromFn.{fill_by_all}
use Rattle.std.proofs.lemmas.List.Sums.{sum_by-append, sum_by-cons}
use Rattle.otlp_model.specs.declared.request.Signal.{Signal}
use Rattle.otlp_model.specs.declared.request.Signal.TheVariants as signal
use Rattle.otlp_model.specs.declared.value.Pair.{Pair}
use Rattle.otap_cells.specs.declared.payload.Kind.{Kind}
use Rattle.otap_cells.specs.Cells.{Cell, cell_at}
use Rattle.otap_cells.specs.Continuing.{has_attributes}
use Rattle.otap_cells.specs.GivenIds.{ids_in}
use Rattle.otap_cells.specs.Named.{table_named}
use Rattle.otap_cells.specs.Payload.{is_kind, main_of, number_of}
use Rattle.otap_cells.specs.Tables.{Table}
use Rattle.otap_cells.specs.Weights.{cell_weight, weight_of_row, weight_of_table, weight_of_tables}
use Rattle.otap_groups.specs.Rows.{MainRow, main_row, main_row_at, main_rows}
use Rattle.otap_groups.specs.Weighing.{cells_weight}
use Rattle.otap_attrs.specs.Tables.{apart, missing}
use Rattle.otap_attrs.proofs.FilledTables.{filled, filled_weigh}
use Rattle.otap_checks.specs.declared.signals.TableLink.{TableLink}
use Rattle.otap_checks.specs.Links.{links_of}
use Rattle.otap_checks.specs.Reading.{main_rows_in}
use Rattle.otap_kept.specs.declared.whose.Whose.{Whose}
use Rattle.otap_kept.specs.Kept.{KeptIds, is_kept, kept, kept_below, kept_rows, known_after, links_below, main_ids, parent_ids, table_below, tables_below}
use Rattle.otap_kept.specs.Numbers.{first_ids}
use Rattle.otap_kept.specs.Rows.{renew, renewed, renewed_from, resource_ids, scope_ids}
use Rattle.otap_kept.specs.Tables.{distance, kept_main, past_id, stored_main, stored_row}
use Rattle.otap_kept.proofs.RowWeights.{attributes_lighter, parts_lighter}

-- ---- main rows

of_main : MainRow → ℕ
of_main row = 32 + cells_weight row.resource + cells_weight row.scope + cell_weight row.schema_url + cells_weight row.own

distance_weighs : (before : ℕ) (id : Option ℕ) → cell_weight (distance before id) ≡ 0
distance_weighs before None = refl
distance_weighs before (Some id) = refl

stored_weighs : (own resource scope : ℕ) (row : MainRow) → weight_of_row (stored_row own resource scope row) ≡ of_main row
unfolding of_main
stored_weighs own resource scope row =
    let last : List Cell = row.schema_url ∷ row.own in
    let more : List Cell = distance scope row.scope_id ∷ (row.scope ++ last) in
    let a = sum_by-cons cell_weight (distance own row.id) (distance resource row.resource_id ∷ (row.resource ++ more)) in
    let b = sum_by-cons cell_weight (distance resource row.resource_id) (row.resource ++ more) in
    let c = sum_by-append cell_weight row.resource more in
    let d = sum_by-cons cell_weight (distance scope row.scope_id) (row.scope ++ last) in
    let e = sum_by-append cell_weight row.scope last in
    let f = sum_by-cons cell_weight row.schema_url row.own in
    omega (arith, a, b, c, d, e, f, distance_weighs own row.id, distance_weighs resource row.resource_id, distance_weighs scope row.scope_id)

main_weighs : (own resource scope : ℕ) (rows : List MainRow) → sum_by weight_of_row (stored_main own resource scope rows) ≡ sum_by of_main rows
main_weighs own resource scope [] = refl
main_weighs own resource scope (row ∷ rows) =
    let rest : List (List Cell) = stored_main (past_id own row.id) (past_id resource row.resource_id) (past_id scope row.scope_id) rows in
    let a = sum_by-cons weight_of_row (stored_row own resource scope row) rest in
    let b = sum_by-cons of_main row rows in
    let more = main_weighs (past_id own row.id) (past_id resource row.resource_id) (past_id scope row.scope_id) rows in
    omega (arith, a, b, more, stored_weighs own resource scope row)

renew_weighs : (resources scopes : List (Option ℕ)) (n : ℕ) (row : MainRow) → of_main (renew resources scopes n row) ≡ of_main row
unfolding of_main
renew_weighs resources scopes n row = refl

renewed_sum : (resources scopes : List (Option ℕ)) (n : ℕ) (rows : List MainRow) → sum_by of_main (renewed_from resources scopes n rows) ≡ sum_by of_main rows
renewed_sum resources scopes n [] = refl
renewed_sum resources scopes n (row ∷ rows) =
    let a = sum_by-cons of_main (renew resources scopes n row) (renewed_from resources scopes (suc n) rows) in
    let b = sum_by-cons of_main row rows in
    let more = renewed_sum resources scopes (suc n) rows in
    omega (arith, a, b, more, renew_weighs resources scopes n row)

fewer_sum : (test : MainRow → Bool) (rows : List MainRow) → sum_by of_main (filter test rows) ≤ sum_by of_main rows
fewer_sum test [] = omega arith
fewer_sum test (row ∷ rows) =
    let b = sum_by-cons of_main row rows in
    let more = fewer_sum test rows in elim (cases_Bool (test row)) [
      | inl t ↦ rw t (let a = sum_by-cons of_main row (filter test rows) in omega (arith, a, b, more))
      | inr f ↦ rw f (omega (arith, b, more))
    ]

-- ---- which are rows of a table

front : (k : ℕ) (cells : List Cell) → sum_by cell_weight (drop k cells) ≡ cell_weight (cell_at cells k) + sum_by cell_weight (drop (suc k) cells)
front zero [] = refl
front zero (cell ∷ cells) = sum_by-cons cell_weight cell cells
front (suc k) [] = refl
front (suc k) (cell ∷ cells) = front k cells

row_lighter : (id resource_id scope_id : Option ℕ) (cells : List Cell) → of_main (main_row id resource_id scope_id cells) ≤ weight_of_row cells
unfolding of_main
row_lighter id resource_id scope_id cells =
    let a = sum_by-cons cell_weight (cell_at cells 2) (cell_at cells 3 ∷ []) in
    let b = sum_by-cons cell_weight (cell_at cells 3) [] in
    let c = sum_by-cons cell_weight (cell_at cells 5) (cell_at cells 6 ∷ cell_at cells 7 ∷ []) in
    let d = sum_by-cons cell_weight (cell_at cells 6) (cell_at cells 7 ∷ []) in
    let e = sum_by-cons cell_weight (cell_at cells 7) [] in
    omega (
      arith,
      a,
      b,
      c,
      d,
      e,
      front 0 cells,
      front 1 cells,
      front 2 cells,
      front 3 cells,
      front 4 cells,
      front 5 cells,
      front 6 cells,
      front 7 cells,
      front 8 cells,
    )

places_lighter : (ids resources scopes : List (Option ℕ)) (rows : List (List Cell)) (places : List ℕ)
    → sum_by of_main (map (main_row_at ids resources scopes rows) places) ≤ sum_by weight_of_row (map (λ k. get_or rows k []) places)
places_lighter ids resources scopes rows [] = omega arith
places_lighter ids resources scopes rows (k ∷ places) =
    let a = sum_by-cons of_main (main_row_at ids resources scopes rows k) (map (main_row_at ids resources scopes rows) places) in
    let b = sum_by-cons weight_of_row (get_or rows k []) (map (λ k. get_or rows k []) places) in
    let here = row_lighter (get_or ids k None) (get_or resources k None) (get_or scopes k None) (get_or rows k []) in
    let more = places_lighter ids resources scopes rows places in
    omega (arith, a, b, here, more)

main_sum : (t : Table) → sum_by of_main (main_rows_in t) ≤ sum_by weight_of_row t.rows
unfolding main_rows
main_sum t =
    let all : t.rows ≡ map (λ k. get_or t.rows k []) (range_with_len 0 (length t.rows)) = fill_by_all (λ k. get_or t.rows k []) t.rows (length t.rows) [] refl (λ k within. refl) in
    let less = places_lighter (ids_in t 0) (ids_in t 1) (ids_in t 4) t.rows (range_with_len 0 (length t.rows)) in
    omega (arith, less, ap (sum_by weight_of_row) all)

main_lighter : (kind : Kind) (test : MainRow → Bool) (t : Table) → weight_of_table (kept_main kind (renewed (filter test (main_rows_in t)))) ≤ weight_of_table t
unfolding kept_main renewed
main_lighter kind test t =
    let rows : List MainRow = filter test (main_rows_in t) in
    let resources : List (Option ℕ) = first_ids (resource_ids rows) in
    let scopes : List (Option ℕ) = first_ids (scope_ids rows) in
    omega (arith, main_weighs 0 0 0 (renewed_from resources scopes 0 rows), renewed_sum resources scopes 0 rows, fewer_sum test (main_rows_in t), main_sum t)

-- ---- tables below

below_lighter : (tables : List Table) (ids : List (Option ℕ)) (kind : Kind) → weight_of_table (table_below tables ids kind) ≤ weight_of_table (table_named kind tables)
below_lighter tables ids kind =
    let t : Table = table_named kind tables in elim (cases_Bool (has_attributes kind)) [
      | inl is ↦ rw is (attributes_lighter kind ids (ids_in t 0) t)
      | inr other ↦ rw other (parts_lighter kind ids (ids_in t 0) (ids_in t 1) t)
    ]

-- what the tables of some kinds weigh
abbrev of_kinds : List Table → List Kind → ℕ
of_kinds tables kinds = sum_by (λ kind. weight_of_table (table_named kind tables)) kinds

abbrev kinds_in : List TableLink → List Kind
kinds_in links = map (λ (link : TableLink). link.kind) links

all_lighter : (tables : List Table) (known : List KeptIds) (links : List TableLink) → weight_of_tables (kept_below tables known links) ≤ of_kinds tables (kinds_in links)
all_lighter tables known [] = omega arith
all_lighter tables known (link ∷ links) =
    let ids : List (Option ℕ) = parent_ids link.parents known in
    let rest : List KeptIds = known_after tables ids link.kind known in
    let a = sum_by-cons weight_of_table (table_below tables ids link.kind) (kept_below tables rest links) in
    let b = sum_by-cons (λ (kind : Kind). weight_of_table (table_named kind tables)) link.kind (kinds_in links) in
    let more = all_lighter tables rest links in
    omega (arith, a, b, more, below_lighter tables ids link.kind)

-- ---- kinds that differ name different tables

none_there : (kinds : List Kind) → of_kinds [] kinds ≡ 0
none_there [] = refl
none_there (kind ∷ kinds) =
    let a = sum_by-cons (λ (kind : Kind). weight_of_table (table_named kind [])) kind kinds in
    let more = none_there kinds in
    omega (arith, a, more)

module _ (t : Table) (ts : List Table) where
  others_there : (kinds : List Kind) → missing (number_of t.kind) (map number_of kinds) ≡ true → of_kinds (t ∷ ts) kinds ≡ of_kinds ts kinds
  others_there [] far = refl
  others_there (kind ∷ kinds) far =
      let both = and_parts (not (number_of t.kind == number_of kind)) (missing (number_of t.kind) (map number_of kinds)) far in
      let other : is_kind t.kind kind ≡ false = not-true _ both.0 in
      let a = sum_by-cons (λ (kind : Kind). weight_of_table (table_named kind (t ∷ ts))) kind kinds in
      let b = sum_by-cons (λ (kind : Kind). weight_of_table (table_named kind ts)) kind kinds in
      let here : weight_of_table (table_named kind (t ∷ ts)) ≡ weight_of_table (table_named kind ts) = rw other refl in
      omega (arith, a, b, here, others_there kinds both.1)

  one_more : (kinds : List Kind) → apart (map number_of kinds) ≡ true → of_kinds (t ∷ ts) kinds ≤ weight_of_table t + of_kinds ts kinds
  one_more [] far = omega arith
  one_more (kind ∷ kinds) far =
      let both = and_parts (missing (number_of kind) (map number_of kinds)) (apart (map number_of kinds)) far in
      let a = sum_by-cons (λ (kind : Kind). weight_of_table (table_named kind (t ∷ ts))) kind kinds in
      let b = sum_by-cons (λ (kind : Kind). weight_of_table (table_named kind ts)) kind kinds in elim (cases_Bool (is_kind t.kind kind)) [
        | inl hit ↦
            let same : number_of kind ≡ number_of t.kind = sym (eqb-true (number_of t.kind) (number_of kind) hit) in
            let rest = others_there kinds (subst (λ (n : ℕ). missing n (map number_of kinds) ≡ true) same both.0) in
            let here : weight_of_table (table_named kind (t ∷ ts)) ≡ weight_of_table t = rw hit refl in
            omega (arith, a, b, here, rest)
        | inr miss ↦
            let here : weight_of_table (table_named kind (t ∷ ts)) ≡ weight_of_table (table_named kind ts) = rw miss refl in
            let more = one_more kinds both.1 in
            omega (arith, a, b, here, more)
      ]

kinds_weigh : (tables : List Table) (kinds : List Kind) → apart (map number_of kinds) ≡ true → of_kinds tables kinds ≤ weight_of_tables tables
kinds_weigh [] kinds far = omega (arith, none_there kinds)
kinds_weigh (t ∷ ts) kinds far =
    let a = sum_by-cons weight_of_table t ts in
    omega (arith, a, one_more t ts kinds far, kinds_weigh ts kinds far)

kinds_apart : (of : Signal) → apart (map number_of (main_of of ∷ kinds_in (links_below (links_of of)))) ≡ true
unfolding links_of
kinds_apart signal.Logs = refl
kinds_apart signal.Traces = refl
kinds_apart signal.Metrics = refl

-- ---- all tables

pub kept_lighter : (of : Signal) (by : Whose) (pair : Pair) (tables : List Table) → weight_of_tables (kept of by pair tables) ≤ weight_of_tables tables
unfolding kept kept_rows
kept_lighter of by pair tables =
    let rows : List MainRow = filter (is_kept of by pair tables) (main_rows_in (table_named (main_of of) tables)) in
    let below : List Table = tables_below of rows tables in
    let kinds : List Kind = kinds_in (links_below (links_of of)) in
    let b = sum_by-cons (λ (kind : Kind). weight_of_table (table_named kind tables)) (main_of of) kinds in
    omega (
      arith,
      sum_by-cons weight_of_table (kept_main (main_of of) (renewed rows)) (filled below),
      b,
      filled_weigh below,
      main_lighter (main_of of) (is_kept of by pair tables) (table_named (main_of of) tables),
      all_lighter tables (main_ids (main_of of) rows) (links_below (links_of of)),
      kinds_weigh tables (main_of of ∷ kinds) (kinds_apart of),
    )
