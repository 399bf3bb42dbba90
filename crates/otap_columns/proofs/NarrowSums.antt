-- Sums of the numbers that a column of ids stores, as bounds of its ids.
use Rattle.std.proofs.Common.{◌≡◌, ℕ, suc, ◌+◌, ◌≤◌, ◌<◌, nat_le, nat_lt, Bool, true, false, List, [], ◌∷◌, length, drop, get_or, Option, Some, None, refl, sym, ap, subst, ◌∙◌, arith, le-leb}
use Rattle.std.specs.Prelude.{IfSome}
use Rattle.std.specs.List.{list_any}
use Rattle.std.proofs.lemmas.Bool.{le-ltb}
use Rattle.std.proofs.lemmas.List.{length-map, drop_more, get_or-drop, drop-drop}
use Rattle.otap_cells.specs.declared.profile.Coding.{Coding}
use Rattle.otap_cells.specs.Cells.{null}
use Rattle.otap_cells.specs.Columns.{coding_at}
use Rattle.otap_cells.specs.ColumnIds.{id_in, stored_in}
use Rattle.otap_cells.specs.Continuing.{continues_in}
use Rattle.otap_cells.specs.Ids.{base_of, goes_on, takes_null}
use Rattle.otap_cells.specs.Tables.{Table, cell_in, column_in, greatest_wide, greatest_narrow}
use Rattle.otap_columns.specs.NarrowIds.{is_wide_after, is_wide_from, StaysNarrow}
use Rattle.otap_columns.specs.Observed.{has_wide_id, is_above}
use Rattle.otap_columns.proofs.ValuesSeen.{stored-cell}

-- ---- one row

passes_null : (how : Coding) (before : ℕ) (rows : List Bool) (ns : List (Option ℕ)) → takes_null how ≡ true
    → is_wide_after how before rows (None ∷ ns) ≡ is_wide_after how before (drop 1 rows) ns
passes_null how before rows ns takes = rw takes refl

passes_id : (how : Coding) (before : ℕ) (rows : List Bool) (ns : List (Option ℕ)) (n id : ℕ) → base_of how (goes_on rows) before + n ≡ id → id ≤ greatest_narrow
    → is_wide_after how before rows (Some n ∷ ns) ≡ is_wide_after how id (drop 1 rows) ns
passes_id how before rows ns n id is low =
    let fits : nat_le id greatest_wide ≡ true = le-leb id greatest_wide (omega (arith, low)) in
    let narrow : nat_lt greatest_narrow id ≡ false = le-ltb greatest_narrow id low in
    rw (is, fits, narrow) refl

module _ (t : Table) (column row : ℕ) (within : row < length t.rows) where
  rest : (x : Option ℕ) → id_in (cell_in t.rows column row) ≡ x → drop row (stored_in t column) ≡ x ∷ drop (row + 1) (stored_in t column)
  rest x is =
      let long : length (stored_in t column) ≡ length t.rows = length-map (column_in t.rows column) id_in ∙ length-map t.rows (λ cells. get_or cells column null) in
      drop_more (stored_in t column) row None (omega (arith, long, within))
      ∙ ap (λ y. y ∷ drop (row + 1) (stored_in t column)) (stored-cell t.rows column row ∙ is)

  -- a row without an id
  pub stays_null : (most : ℕ) → id_in (cell_in t.rows column row) ≡ None → takes_null (coding_at t.kind column) ≡ true → StaysNarrow t column row most most
  stays_null most none takes = record {
    at = λ before low. (
      before,
      low,
      ap (is_wide_after (coding_at t.kind column) before (drop row (continues_in t))) (rest None none)
          ∙ passes_null (coding_at t.kind column) before (drop row (continues_in t)) (drop (row + 1) (stored_in t column)) takes
          ∙ ap (λ (rows : List Bool). is_wide_after (coding_at t.kind column) before rows (drop (row + 1) (stored_in t column))) (drop-drop 1 row (continues_in t)),
    );
  }

  -- a row with one
  pub stays_id : (most next n : ℕ) → id_in (cell_in t.rows column row) ≡ Some n
      → ((before : ℕ) → before ≤ most → base_of (coding_at t.kind column) (goes_on (drop row (continues_in t))) before + n ≤ next) → next ≤ greatest_narrow → StaysNarrow t column row most next
  stays_id most next n some bound small = record {
    at = λ before low.
        let how = coding_at t.kind column in
        let id : ℕ = base_of how (goes_on (drop row (continues_in t))) before + n in
        let under : id ≤ next = bound before low in (
          id,
          under,
          ap (is_wide_after how before (drop row (continues_in t))) (rest (Some n) some)
              ∙ passes_id how before (drop row (continues_in t)) (drop (row + 1) (stored_in t column)) n id refl (omega (arith, under, small))
              ∙ ap (λ (rows : List Bool). is_wide_after how id rows (drop (row + 1) (stored_in t column))) (drop-drop 1 row (continues_in t)),
        );
  }

  pub stays_without : (how : Coding) (most : ℕ) (found next : Option ℕ) → how ≡ coding_at t.kind column → found ≡ id_in (cell_in t.rows column row) → ((n : ℕ) → found ≡ Some n → ⊥)
      → IfSome next (λ after. (after ≡ most) × (takes_null how ≡ true)) → IfSome next (StaysNarrow t column row most)
  stays_without how most found None coded is none told = tt
  stays_without how most (Some n) (Some after) coded is none told = absurd (none n refl)
  stays_without how most None (Some after) coded is none told =
      subst (StaysNarrow t column row most) (sym told.0) (stays_null most (sym is) (ap takes_null (sym coded) ∙ told.1))

  pub stays_with : (how : Coding) (most next n : ℕ) → how ≡ coding_at t.kind column → Some n ≡ id_in (cell_in t.rows column row)
      → ((before : ℕ) → before ≤ most → base_of how (goes_on (drop row (continues_in t))) before + n ≤ next) → next ≤ greatest_narrow → StaysNarrow t column row most next
  stays_with how most next n coded is bound small =
      stays_id most next n (sym is) (subst (λ (h : Coding). (before : ℕ) → before ≤ most → base_of h (goes_on (drop row (continues_in t))) before + n ≤ next) coded bound) small

-- ---- all rows

-- whether a wide id follows from a row on is known by some id up to `most`
pub record IsNarrowSoFar (t : Table) (column row most : ℕ) : Type 0 where
  pub low : most ≤ greatest_narrow
  pub before : ℕ
  pub under : before ≤ most
  pub is : has_wide_id t.kind column t ≡ is_wide_from t column row before

pub narrow_on : (t : Table) (column row most next : ℕ) → IsNarrowSoFar t column row most → StaysNarrow t column row most next → next ≤ greatest_narrow → IsNarrowSoFar t column (row + 1) next
narrow_on t column row most next so_far stays small =
    let on = stays.at so_far.before so_far.under in
    record { low = small; before = on.0; under = on.1; is = so_far.is ∙ on.2 }

-- rows without an id have none that is wide, whether ids are still undone or not
none_above : (ns : List (Option ℕ)) → ((k : ℕ) → get_or ns k None ≡ None) → list_any is_above ns ≡ false
none_above [] none = refl
none_above (None ∷ ns) none = none_above ns (λ k. none (suc k))
none_above (Some n ∷ ns) none = absurd (let wrong : Some n ≡ None = none 0 in cc)

none_wide : (how : Coding) (before : ℕ) (rows : List Bool) (ns : List (Option ℕ)) → ((k : ℕ) → get_or ns k None ≡ None) → is_wide_after how before rows ns ≡ false
none_wide how before rows [] none = refl
none_wide how before rows (None ∷ ns) none = by (takes_null how) refl (none_wide how before (drop 1 rows) ns (λ k. none (suc k)))
  where
    by : (takes : Bool) → takes_null how ≡ takes → is_wide_after how before (drop 1 rows) ns ≡ false → is_wide_after how before rows (None ∷ ns) ≡ false
    by true is later = rw is later
    by false is later = rw is (none_above ns (λ k. none (suc k)))
none_wide how before rows (Some n ∷ ns) none = absurd (let wrong : Some n ≡ None = none 0 in cc)

pub narrow_at_last : (t : Table) (column row most : ℕ) → IsNarrowSoFar t column row most → ((k : ℕ) → row ≤ k → cell_in t.rows column k ≡ null) → has_wide_id t.kind column t ≡ false
narrow_at_last t column row most so_far none =
    so_far.is
    ∙ none_wide (coding_at t.kind column) so_far.before (drop row (continues_in t)) (drop row (stored_in t column))
    (λ k. get_or-drop row (stored_in t column) k None ∙ stored-cell t.rows column (row + k) ∙ ap id_in (none (row + k) (omega arith)))
