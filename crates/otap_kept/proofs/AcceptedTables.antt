-- The tables of a batch that is accepted: their rows are few, their ids are given, and no id occurs twice.
use Rattle.std.proofs.Common.{◌≡◌, ℕ, ◌*◌, ◌≤◌, ◌^◌, true, Bool, List, [], ◌∷◌, get_or, Option, None, Some, length, map, drop, refl, sym, ◌∙◌, ap, subst, inl, inr, arith}
use Rattle.std.specs.Prelude.{Contains, filter, sum_by}
use Rattle.std.specs.List.{range_with_len}
use Rattle.std.proofs.lemmas.Bool.{cases_Bool}
use Rattle.std.proofs.lemmas.List.{length-map}
use Rattle.std.proofs.lemmas.List.FromFn.{fill_by_all}
use Rattle.std.proofs.lemmas.List.Sums.{sum_by-cons}
use Rattle.otlp_model.specs.declared.request.Signal.{Signal}
use Rattle.otap_cells.specs.declared.ids.IdFault.TheVariants as fault
use Rattle.otap_cells.specs.declared.payload.Kind.{Kind}
use Rattle.otap_cells.specs.Cells.{Cell}
use Rattle.otap_cells.specs.Columns.{is_id_at}
use Rattle.otap_cells.specs.GivenIds.{HasIds, ids_in}
use Rattle.otap_cells.specs.Ids.{Twice, times}
use Rattle.otap_cells.specs.Named.{table_named}
use Rattle.otap_cells.specs.Payload.{is_kind}
use Rattle.otap_cells.specs.Tables.{Table}
use Rattle.otap_cells.specs.Weights.{weight_of_row, weight_of_table, weight_of_tables}
use Rattle.otap_cells.proofs.KindNamed.{kind_named}
use Rattle.otap_groups.specs.Rows.{MainRow, child_row_at, child_rows, main_row_at, main_rows}
use Rattle.otap_attrs.specs.declared.refusal.RowRefusal.TheVariants as why
use Rattle.otap_attrs.proofs.TablePairs.{ids_long}
use Rattle.otap_checks.specs.declared.signals.TableLink.{TableLink}
use Rattle.otap_checks.specs.IdDefects.{Duplicate, DuplicateOf}
use Rattle.otap_checks.specs.Links.{links_of}
use Rattle.otap_checks.specs.Reading.{main_rows_in, part_rows_in}
use Rattle.otap_checks.proofs.TableIds.{clean_given, has_them}
use Rattle.otap_kept.specs.Clean.{AreCleanAndLight}
use Rattle.otap_kept.specs.Rows.{former_ids, own_ids, parts_under}
use Rattle.otap_kept.proofs.NewNumbers.{AreApart}
use Rattle.otap_kept.proofs.Once.{apart_once, child_id, once_from, parts_apart, times_filter}

-- ---- rows are few

rows_weigh : (rows : List (List Cell)) → 32 * length rows ≤ sum_by weight_of_row rows
rows_weigh [] = omega arith
rows_weigh (row ∷ rows) =
    let more = rows_weigh rows in
    let all = sum_by-cons weight_of_row row rows in
    omega (arith, more, all)

pub table_lighter : (kind : Kind) (tables : List Table) → weight_of_table (table_named kind tables) ≤ weight_of_tables tables
table_lighter kind [] = omega arith
table_lighter kind (t ∷ ts) =
    let all = sum_by-cons weight_of_table t ts in
    let more = table_lighter kind ts in elim (cases_Bool (is_kind t.kind kind)) [
      | inl same ↦ rw same (omega (arith, all))
      | inr other ↦ rw other (omega (arith, all, more))
    ]

-- ---- ids, row by row

own_at : (ids resource_ids scope_ids : List (Option ℕ)) (rows : List (List Cell)) (places : List ℕ)
    → own_ids (map (main_row_at ids resource_ids scope_ids rows) places) ≡ map (λ k. get_or ids k None) places
own_at ids resource_ids scope_ids rows [] = refl
own_at ids resource_ids scope_ids rows (k ∷ places) = ap (λ more. get_or ids k None ∷ more) (own_at ids resource_ids scope_ids rows places)

own_again : (ids resource_ids scope_ids : List (Option ℕ)) (rows : List (List Cell)) → length ids ≡ length rows → own_ids (main_rows ids resource_ids scope_ids rows) ≡ ids
unfolding main_rows
own_again ids resource_ids scope_ids rows long =
    own_at ids resource_ids scope_ids rows (range_with_len 0 (length rows))
    ∙ sym (fill_by_all (λ k. get_or ids k None) ids (length rows) None long (λ k within. refl))

child_at : (ids parents : List (Option ℕ)) (rows : List (List Cell)) (places : List ℕ)
    → map child_id (map (child_row_at ids parents rows) places) ≡ map (λ k. get_or ids k None) places
child_at ids parents rows [] = refl
child_at ids parents rows (k ∷ places) = ap (λ more. get_or ids k None ∷ more) (child_at ids parents rows places)

child_again : (ids parents : List (Option ℕ)) (rows : List (List Cell)) → length ids ≡ length rows → map child_id (child_rows ids parents rows) ≡ ids
unfolding child_rows
child_again ids parents rows long =
    child_at ids parents rows (range_with_len 0 (length rows))
    ∙ sym (fill_by_all (λ k. get_or ids k None) ids (length rows) None long (λ k within. refl))

module _ (of : Signal) (tables : List Table) (accepted : AreCleanAndLight of tables) where
  pub few_rows : (kind : Kind) → length (table_named kind tables).rows ≤ 2 ^ 21
  few_rows kind = omega (arith, rows_weigh (table_named kind tables).rows, table_lighter kind tables, accepted.light)

  module _ (link : TableLink) (listed : Contains (links_of of) link) where
    -- the ids of a column are given
    pub given_ids : (column : ℕ) → is_id_at link.kind column ≡ true → HasIds (table_named link.kind tables) column (ids_in (table_named link.kind tables) column)
    given_ids column id =
        let t : Table = table_named link.kind tables in
        let here = clean_given of tables link.kind link listed refl (λ wrong defect. accepted.clean link.kind wrong (inl defect)) column
        (subst (λ kind. is_id_at kind column ≡ true) (sym (kind_named tables link.kind)) id) in
        has_them t column here.ids here.are

    -- own ids are there once
    own_once : link.own ≡ Some 0 → is_id_at link.kind 0 ≡ true → (n : ℕ) → times n (ids_in (table_named link.kind tables) 0) ≤ 1
    own_once own id =
        let t : Table = table_named link.kind tables in
        let are : HasIds t 0 (ids_in t 0) = given_ids 0 id in
        let twice : Twice (ids_in t 0) → DuplicateOf t link.own = λ there.
        let dup : Duplicate t 0 = record { ids = ids_in t 0; are = are; twice = there } in
        subst (DuplicateOf t) (sym own) dup in
        once_from (ids_in t 0) (λ there. accepted.clean link.kind (why.Ids fault.Duplicate) (inl (record { link = link; listed = listed; names = refl; is = twice there })))

    -- THE IDS OF MAIN ROWS that are kept are apart
    pub rows_apart : link.own ≡ Some 0 → is_id_at link.kind 0 ≡ true → (test : MainRow → Bool) → AreApart (own_ids (filter test (main_rows_in (table_named link.kind tables))))
    rows_apart own id test =
        let t : Table = table_named link.kind tables in
        let all : own_ids (main_rows_in t) ≡ ids_in t 0 = own_again (ids_in t 0) (ids_in t 1) (ids_in t 4) t.rows (ids_long t 0 (ids_in t 0) (given_ids 0 id)) in
        apart_once (own_ids (filter test (main_rows_in t)))
        (λ n. omega (arith, times_filter n test (main_rows_in t), ap (times n) all, own_once own id n))

    -- THE IDS OF PARTS that are kept are apart
    pub kept_parts_apart : link.own ≡ Some 0 → is_id_at link.kind 0 ≡ true → (ids : List (Option ℕ)) → AreApart (former_ids (parts_under ids (part_rows_in (table_named link.kind tables))))
    kept_parts_apart own id ids =
        let t : Table = table_named link.kind tables in
        let long : length (ids_in t 0) ≡ length (map (drop 2) t.rows) = ids_long t 0 (ids_in t 0) (given_ids 0 id) ∙ sym (length-map t.rows (drop 2)) in
        let all : map child_id (part_rows_in t) ≡ ids_in t 0 = child_again (ids_in t 0) (ids_in t 1) (map (drop 2) t.rows) long in
        parts_apart ids (part_rows_in t) (λ n. omega (arith, ap (times n) all, own_once own id n))
