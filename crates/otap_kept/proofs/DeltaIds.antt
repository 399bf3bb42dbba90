-- Ids that are stored as distances don't fall. So none of them comes back, and what is kept is ordered.
use Rattle.std.proofs.Common.{◌≡◌, ℕ, ◌≤◌, Bool, true, List, [], ◌∷◌, drop, get_or, length, Option, None, Some, map, refl, sym, ◌∙◌, ap, subst, inl, inr, arith}
use Rattle.std.specs.Prelude.{All, filter, nat_le}
use Rattle.std.specs.List.{range_with_len}
use Rattle.std.proofs.lemmas.Bool.{and_from, and_parts, cases_Bool, false≢true}
use Rattle.std.proofs.lemmas.Bool.Decides.{nat_tests}
use Rattle.std.proofs.lemmas.List.FromFn.{fill_by_all}
use Rattle.otlp_model.specs.declared.request.Signal.{Signal}
use Rattle.otlp_model.specs.declared.value.Pair.{Pair}
use Rattle.otap_cells.specs.declared.payload.Kind.{Kind}
use Rattle.otap_cells.specs.declared.profile.Coding.{Coding}
use Rattle.otap_cells.specs.declared.profile.Coding.TheVariants as coding
use Rattle.otap_cells.specs.ColumnIds.{stored_in}
use Rattle.otap_cells.specs.Columns.{ColumnSpec, allows, coding_at, column_at, is_id_at, is_run}
use Rattle.otap_cells.specs.Continuing.{continues_in}
use Rattle.otap_cells.specs.GivenIds.{HasIds, ids_in}
use Rattle.otap_cells.specs.Ids.{IdsAfter}
use Rattle.otap_cells.specs.Named.{table_named}
use Rattle.otap_cells.specs.Payload.{main_of}
use Rattle.otap_cells.specs.Tables.{IsTable, Table, coding_in, greatest_in}
use Rattle.otap_cells.proofs.KindNamed.{kind_named}
use Rattle.otap_groups.specs.Rows.{MainRow, main_row_at, main_rows}
use Rattle.otap_attrs.proofs.TablePairs.{ids_long}
use Rattle.otap_checks.specs.Links.{items}
use Rattle.otap_checks.specs.Reading.{main_rows_in}
use Rattle.otap_kept.specs.declared.whose.Whose.{Whose}
use Rattle.otap_kept.specs.Clean.{AreCleanAndLight}
use Rattle.otap_kept.specs.Falling.{HasPlainIds}
use Rattle.otap_kept.specs.Kept.{is_kept, is_ordered, kept_rows}
use Rattle.otap_kept.specs.Numbering.{numbers_rise}
use Rattle.otap_kept.specs.Numbers.{rise_after}
use Rattle.otap_kept.specs.Rows.{resource_ids, scope_ids}
use Rattle.otap_kept.proofs.AcceptedTables.{given_ids}
use Rattle.otap_kept.proofs.ComingBack.{falls_back, none_back}
use Rattle.otap_kept.proofs.FineRules.{items_listed}
use Rattle.otap_kept.proofs.KeptRows.{is_main}
use Rattle.otap_kept.proofs.MainAgain.{rise_is}
use Rattle.otap_kept.proofs.ProfileTables.{named_table}

-- ---- ids of distances

ids_rise : (last before : ℕ) (rows : List Bool) (ns ids : List (Option ℕ)) → IdsAfter coding.Delta last before rows ns ids → rise_after before ids ≡ true
ids_rise last before rows [] [] is = refl
ids_rise last before rows [] (id ∷ ids) is = absurd is
ids_rise last before rows (None ∷ ns) (None ∷ ids) is = ids_rise last before (drop 1 rows) ns ids is.1
ids_rise last before rows (None ∷ ns) (Some id ∷ ids) is = absurd is
ids_rise last before rows (None ∷ ns) [] is = absurd is
ids_rise last before rows (Some n ∷ ns) (None ∷ ids) is = absurd is
ids_rise last before rows (Some n ∷ ns) [] is = absurd is
ids_rise last before rows (Some n ∷ ns) (Some id ∷ ids) is =
    let sum = is.0 in
    let up : before ≤ id = omega (arith, sum) in
    and_from (nat_le before id) (rise_after id ids) (grind (arith, nat_tests, up)) (ids_rise last id (drop 1 rows) ns ids is.2)

-- the column is stored so, where it isn't stored plainly
is_delta : (c : ColumnSpec) (how : Coding) → c.coding ≡ coding.Delta → allows c how ≡ true → (how ≡ coding.Plain → ⊥) → how ≡ coding.Delta
is_delta c coding.Plain is allowed other = absurd (other refl)
is_delta c coding.Delta is allowed other = refl
is_delta c coding.Run is allowed other = absurd (false≢true (sym (ap is_run is) ∙ allowed))

-- ---- rows that are kept

starts_lower : (a b : ℕ) (ids : List (Option ℕ)) → a ≤ b → rise_after b ids ≡ true → rise_after a ids ≡ true
starts_lower a b [] less rises = refl
starts_lower a b (None ∷ ids) less rises = starts_lower a b ids less rises
starts_lower a b (Some id ∷ ids) less rises =
    let both = and_parts (nat_le b id) (rise_after id ids) rises in
    let up : b ≤ id = grind (arith, nat_tests, both.0) in
    let low : a ≤ id = omega (arith, less, up) in
    and_from (nat_le a id) (rise_after id ids) (grind (arith, nat_tests, low)) both.1

without_first : (before : ℕ) (id : Option ℕ) (ids : List (Option ℕ)) → rise_after before (id ∷ ids) ≡ true → rise_after before ids ≡ true
without_first before None ids rises = rises
without_first before (Some id) ids rises =
    let both = and_parts (nat_le before id) (rise_after id ids) rises in
    let up : before ≤ id = grind (arith, nat_tests, both.0) in
    starts_lower before id ids up both.1

with_first : (before : ℕ) (id : Option ℕ) (ids others : List (Option ℕ)) → ((from : ℕ) → rise_after from ids ≡ true → rise_after from others ≡ true)
    → rise_after before (id ∷ ids) ≡ true → rise_after before (id ∷ others) ≡ true
with_first before None ids others rest rises = rest before rises
with_first before (Some id) ids others rest rises =
    let both = and_parts (nat_le before id) (rise_after id ids) rises in
    and_from (nat_le before id) (rise_after id others) both.0 (rest id both.1)

module _ (id_of : MainRow → Option ℕ) where
  filtered_rise : (test : MainRow → Bool) (before : ℕ) (rows : List MainRow) → rise_after before (map id_of rows) ≡ true → rise_after before (map id_of (filter test rows)) ≡ true
  filtered_rise test before [] rises = refl
  filtered_rise test before (row ∷ rows) rises = elim (cases_Bool (test row)) [
    | inl t ↦ rw t (with_first before (id_of row) (map id_of rows) (map id_of (filter test rows)) (λ from rise. filtered_rise test from rows rise) rises)
    | inr f ↦ rw f (filtered_rise test before rows (without_first before (id_of row) (map id_of rows) rises))
  ]

  ids_by_place : (row_at : ℕ → MainRow) (ids : List (Option ℕ)) → ((k : ℕ) → id_of (row_at k) ≡ get_or ids k None) → (places : List ℕ)
      → map id_of (map row_at places) ≡ map (λ k. get_or ids k None) places
  ids_by_place row_at ids same [] = refl
  ids_by_place row_at ids same (k ∷ places) = λ i. same k i ∷ ids_by_place row_at ids same places i

  ids_of_rows : (row_at : ℕ → MainRow) (ids : List (Option ℕ)) (count : ℕ) → ((k : ℕ) → id_of (row_at k) ≡ get_or ids k None) → length ids ≡ count
      → map id_of (map row_at (range_with_len 0 count)) ≡ ids
  ids_of_rows row_at ids count same long =
      ids_by_place row_at ids same (range_with_len 0 count) ∙ sym (fill_by_all (λ k. get_or ids k None) ids count None long (λ k within. refl))

never_fall : (ids : List (Option ℕ)) → rise_after 0 ids ≡ true → numbers_rise ids ≡ true
never_fall ids rises = elim (cases_Bool (numbers_rise ids)) [
  | inl rise ↦ rise
  | inr falls ↦ absurd (none_back 0 ids rises (falls_back ids falls))
]

-- ---- the tables of a batch

module _ (of : Signal) (by : Whose) (pair : Pair) (tables : List Table) (accepted : AreCleanAndLight of tables) (are : All IsTable tables) where
  abbrev main : Kind
  main = main_of of

  abbrev t : Table
  t = table_named main tables

  given : (column : ℕ) → is_id_at main column ≡ true → HasIds t column (ids_in t column)
  given column id = given_ids of tables accepted (items main) (items_listed of) column id

  column_rises : (column : ℕ) → is_id_at main column ≡ true → coding_at main column ≡ coding.Delta → (coding_in t column ≡ coding.Plain → ⊥) → rise_after 0 (ids_in t column) ≡ true
  column_rises column id usual other =
      let named : t.kind ≡ main = kind_named tables main in
      let allowed : allows (column_at t.kind column) (coding_in t column) ≡ true =
      (named_table main tables are).coded column (subst (λ kind. is_id_at kind column ≡ true) (sym named) id) in
      let how : coding_in t column ≡ coding.Delta = is_delta (column_at t.kind column) (coding_in t column) (ap (λ kind. coding_at kind column) named ∙ usual) allowed other in
      ids_rise (greatest_in t column) 0 (continues_in t) (stored_in t column) (ids_in t column)
      (subst (λ how. IdsAfter how (greatest_in t column) 0 (continues_in t) (stored_in t column) (ids_in t column)) how (given column id))

  kept_resources : (coding_in t 1 ≡ coding.Plain → ⊥) → numbers_rise (resource_ids (kept_rows of by pair tables)) ≡ true
  unfolding kept_rows main_rows
  kept_resources other =
      let ids : List (Option ℕ) = ids_in t 1 in
      let all : resource_ids (main_rows_in t) ≡ ids =
      ids_of_rows (λ row. row.resource_id) (main_row_at (ids_in t 0) ids (ids_in t 4) t.rows) ids (length t.rows) (λ k. refl) (ids_long t 1 ids (given 1 (is_main of).resource_id)) in
      never_fall (resource_ids (filter (is_kept of by pair tables) (main_rows_in t)))
      (filtered_rise (λ row. row.resource_id) (is_kept of by pair tables) 0 (main_rows_in t)
      (ap (rise_after 0) all ∙ column_rises 1 (is_main of).resource_id (is_main of).resource_ids_rise other))

  kept_scopes : (coding_in t 4 ≡ coding.Plain → ⊥) → numbers_rise (scope_ids (kept_rows of by pair tables)) ≡ true
  unfolding kept_rows main_rows
  kept_scopes other =
      let ids : List (Option ℕ) = ids_in t 4 in
      let all : scope_ids (main_rows_in t) ≡ ids =
      ids_of_rows (λ row. row.scope_id) (main_row_at (ids_in t 0) (ids_in t 1) ids t.rows) ids (length t.rows) (λ k. refl) (ids_long t 4 ids (given 4 (is_main of).scope_id)) in
      never_fall (scope_ids (filter (is_kept of by pair tables) (main_rows_in t)))
      (filtered_rise (λ row. row.scope_id) (is_kept of by pair tables) 0 (main_rows_in t)
      (ap (rise_after 0) all ∙ column_rises 4 (is_main of).scope_id (is_main of).scope_ids_rise other))

  -- WHAT IS KEPT IS ORDERED where neither column is stored plainly
  pub delta_ordered : (HasPlainIds t → ⊥) → is_ordered of by pair tables ≡ true
  unfolding is_ordered
  delta_ordered other =
      let rows : List MainRow = kept_rows of by pair tables in
      rise_is rows
      ∙ and_from (numbers_rise (resource_ids rows)) (numbers_rise (scope_ids rows)) (kept_resources (λ plain. other (inl plain))) (kept_scopes (λ plain. other (inr plain)))
