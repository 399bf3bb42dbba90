-- The parents of the rows that say a pair are those that have it.
use Rattle.std.proofs.Common.{◌≡◌, ℕ, zero, suc, ◌<◌, List, [], ◌∷◌, length, get_or, map, drop, Option, Some, None, refl, sym, ap, subst, ◌∙◌, inl, inr, arith}
use Rattle.std.specs.Prelude.{◌==◌}
use Rattle.std.specs.List.{AllByRecursion, list_any, slice_index_or}
use Rattle.std.specs.List.Sorted.{IsPermutation}
use Rattle.std.proofs.lemmas.Bool.{cases_Bool}
use Rattle.std.proofs.lemmas.List.{length-map}
use Rattle.std.proofs.lemmas.List.FromFn.{fill_by_all}
use Rattle.std.proofs.lemmas.List.Sorted.{list_any-IsPermutation}
use Rattle.otlp_model.specs.declared.value.Pair.{Pair}
use Rattle.otlp_model.specs.Equal.{pair_is}
use Rattle.otap_cells.specs.declared.payload.Kind.{Kind}
use Rattle.otap_cells.specs.Cells.{Cell}
use Rattle.otap_cells.specs.GivenIds.{HasIds}
use Rattle.otap_cells.specs.Named.{table_named}
use Rattle.otap_cells.specs.Tables.{Table, profile_table}
use Rattle.otap_groups.specs.Children.{children}
use Rattle.otap_groups.specs.Rows.{ChildRow, child_row, child_row_at, child_rows}
use Rattle.otap_attrs.specs.declared.refusal.RowRefusal.TheVariants as why
use Rattle.otap_attrs.specs.Index.{attribute_rows_in, pairs_in}
use Rattle.otap_attrs.specs.Values.{BadValue, pair_in}
use Rattle.otap_attrs.proofs.TablePairs.{ids_are, ids_long}
use Rattle.otap_checks.specs.ValueDefects.{HasFineValues}
use Rattle.otap_kept.specs.declared.text_pair.TextPair.{TextPair}
use Rattle.otap_kept.specs.Holding.{is_among, parents_saying, says}
use Rattle.otap_kept.specs.Kept.{has}
use Rattle.otap_kept.specs.Texts.{text_pair}
use Rattle.otap_kept.proofs.TextPairs.{said_is}

-- ---- attributes row by row

abbrev pub paired : List (Option ℕ) → List (List Cell) → List ChildRow
paired [] cells = []
paired (p ∷ ps) [] = []
paired (p ∷ ps) (c ∷ cs) = child_row None p c ∷ paired ps cs

paired_at : (ps : List (Option ℕ)) (cs : List (List Cell)) → length ps ≡ length cs → (k : ℕ) (d : ChildRow) → k < length cs
    → get_or (paired ps cs) k d ≡ child_row_at [] ps cs k
paired_at [] [] long k d within = absurd (omega arith)
paired_at [] (c ∷ cs) long k d within = absurd (omega (arith, long))
paired_at (p ∷ ps) [] long k d within = absurd (omega (arith, long))
paired_at (p ∷ ps) (c ∷ cs) long zero d within = refl
paired_at (p ∷ ps) (c ∷ cs) long (suc k) d within = paired_at ps cs (omega (arith, long)) k d (omega (arith, within))

paired_long : (ps : List (Option ℕ)) (cs : List (List Cell)) → length ps ≡ length cs → length (paired ps cs) ≡ length cs
paired_long [] [] long = refl
paired_long [] (c ∷ cs) long = long
paired_long (p ∷ ps) [] long = refl
paired_long (p ∷ ps) (c ∷ cs) long = ap suc (paired_long ps cs (omega (arith, long)))

pub paired_are : (ps : List (Option ℕ)) (cs : List (List Cell)) → length ps ≡ length cs → paired ps cs ≡ child_rows [] ps cs
unfolding child_rows
paired_are ps cs long =
    fill_by_all (child_row_at [] ps cs) (paired ps cs) (length cs) (child_row None None []) (paired_long ps cs long)
    (λ k within. paired_at ps cs long k (child_row None None []) within)

-- ---- those that say a pair

abbrev pub IsFineRow : List Cell → Type 0
IsFineRow row = BadValue (drop 2 row) why.BadValueType → ⊥

after_both : (row : List Cell) → drop 1 (drop 1 row) ≡ drop 2 row
after_both [] = refl
after_both (c ∷ cs) = refl

module _ (pair : TextPair) where
  says_is : (row : List Cell) → IsFineRow row → says pair (drop 1 row) ≡ pair_is (text_pair pair) (pair_in (drop 1 row))
  says_is row fine = said_is pair.key.now pair.text.now (drop 1 row) (λ bad. fine (subst (λ cells. BadValue cells why.BadValueType) (after_both row) bad))

  saying_are : (ps : List (Option ℕ)) (rows : List (List Cell)) → AllByRecursion IsFineRow rows → (id : ℕ)
      → list_any (λ n. n == id) (parents_saying pair ps rows) ≡ has (text_pair pair) (children (λ id cells. pair_in cells) (paired ps (map (drop 1) rows)) (Some id))
  saying_are [] rows fine id = refl
  saying_are (p ∷ ps) [] fine id = refl
  saying_are (None ∷ ps) (row ∷ rows) fine id =
      let more = saying_are ps rows fine.1 id in
      elim (cases_Bool (says pair (drop 1 row))) [
        | inl t ↦ rw t more
        | inr f ↦ rw f more
      ]
  saying_are (Some p ∷ ps) (row ∷ rows) fine id =
      let more = saying_are ps rows fine.1 id in
      let here = says_is row fine.0 in
      elim (cases_Bool (p == id)) [
        | inl same ↦ elim (cases_Bool (says pair (drop 1 row))) [
          | inl t ↦ rw (t, same, sym here ∙ t) refl
          | inr f ↦ rw (f, same, sym here ∙ f) more
        ]
        | inr other ↦ elim (cases_Bool (says pair (drop 1 row))) [
          | inl t ↦ rw (t, other) more
          | inr f ↦ rw (f, other) more
        ]
      ]

  -- which ids they are, of a table whose values are fine
  module _ (t : Table) (parents : List (Option ℕ)) (are : HasIds t 0 parents) (fine : AllByRecursion IsFineRow t.rows) where
    pub saying_hold : (sorted : List ℕ) → IsPermutation (parents_saying pair parents t.rows) sorted → (id : Option ℕ)
        → is_among sorted id ≡ has (text_pair pair) (pairs_in t id)
    saying_hold sorted moved None = refl
    saying_hold sorted moved (Some id) =
        let long : length parents ≡ length (map (drop 1) t.rows) = ids_long t 0 parents are ∙ sym (length-map t.rows (drop 1)) in
        let rows : paired parents (map (drop 1) t.rows) ≡ attribute_rows_in t =
        paired_are parents (map (drop 1) t.rows) long ∙ ap (λ ids. child_rows [] ids (map (drop 1) t.rows)) (ids_are t 0 parents are) in
        sym (list_any-IsPermutation (λ n. n == id) (parents_saying pair parents t.rows) sorted moved)
        ∙ saying_are parents t.rows fine id
        ∙ ap (λ (rows : List ChildRow). has (text_pair pair) (children (λ id cells. pair_in cells) rows (Some id))) rows

-- a table without rows has none
pub none_hold : (pair : Pair) (kind : Kind) (id : Option ℕ) → is_among [] id ≡ has pair (pairs_in (profile_table kind []) id)
unfolding child_rows
none_hold pair kind None = refl
none_hold pair kind (Some id) = refl

-- the values of a table are fine, row by row
fine_from : (rows : List (List Cell)) → ((k : ℕ) → k < length rows → IsFineRow (slice_index_or rows k [])) → AllByRecursion IsFineRow rows
fine_from [] each = tt
fine_from (row ∷ rows) each = (each 0 (omega arith), fine_from rows (λ k within. each (suc k) (omega (arith, within))))

pub fine_rows : (kind : Kind) (tables : List Table) → HasFineValues tables kind → AllByRecursion IsFineRow (table_named kind tables).rows
fine_rows kind tables fine =
    fine_from (table_named kind tables).rows (λ k within bad. fine why.BadValueType (record { row = k; there = within; is = bad }))
