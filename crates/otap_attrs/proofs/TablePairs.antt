-- The pairs of a table of attributes: their parents as a list, and what nothing is wrong with.
use Rattle.std.proofs.Common.{◌≡◌, ◌∙◌, ℕ, suc, ◌+◌, ◌<◌, Bool, true, List, [], ◌∷◌, map, drop, length, get_or, Option, None, Some, inl, inr, refl, sym, ap, subst, arith}
use Rattle.std.proofs.lemmas.List.{length-map}
use Rattle.std.proofs.lemmas.Bool.{false≢true, cases_eq}
use Rattle.otap_cells.specs.Cells.{Cell, null}
use Rattle.otap_cells.specs.declared.column_ids.IdsRefusal.TheVariants as ids
use Rattle.otap_cells.specs.declared.ids.IdFault.{IdFault}
use Rattle.otap_cells.specs.declared.ids.IdFault.TheVariants.{PastType, Duplicate, NullParent}
use Rattle.otap_cells.specs.declared.payload.Kind.{Kind}
use Rattle.otap_cells.specs.declared.payload.Kind.TheVariants as table
use Rattle.otap_cells.specs.declared.profile.Coding.{Coding}
use Rattle.otap_cells.specs.Columns.{is_id_at, attrs, deep_attrs}
use Rattle.otap_cells.specs.ColumnIds.{HasNullParent, id_in, stored_in}
use Rattle.otap_cells.specs.Continuing.{continues_in, has_attributes}
use Rattle.otap_cells.specs.GivenIds.{ColumnDefect, HasIds, ids_in}
use Rattle.otap_cells.specs.Ids.{IdsAfter}
use Rattle.otap_cells.specs.Tables.{Table, coding_in, column_in, greatest_in}
use Rattle.otap_cells.proofs.IdLaws.{one_list, stands_fits, undone_stands}
use Rattle.otap_groups.specs.Children.{children}
use Rattle.otap_groups.specs.Rows.{child_rows}
use Rattle.otap_attrs.specs.declared.refusal.RowRefusal.{RowRefusal}
use Rattle.otap_attrs.specs.declared.refusal.RowRefusal.TheVariants as why
use Rattle.otap_attrs.specs.Defects.{HasOrphan, OrphanIn, PairDefect, WrongValue}
use Rattle.otap_attrs.specs.Index.{pairs_in}
use Rattle.otap_attrs.specs.Values.{BadValue, pair_in}

-- the ids that a column has are its ids as a list
pub ids_are : (t : Table) (column : ℕ) (ids : List (Option ℕ)) → HasIds t column ids → ids ≡ ids_in t column
unfolding ids_in
ids_are t column ids are =
    one_list (coding_in t column) (greatest_in t column) 0 (continues_in t) (stored_in t column) ids _ are
    (undone_stands (coding_in t column) (greatest_in t column) 0 (continues_in t) (stored_in t column)
    (stands_fits (coding_in t column) (greatest_in t column) 0 (continues_in t) (stored_in t column) ids are))

pub pairs_are : (t : Table) (parents : List (Option ℕ)) (parent : Option ℕ) → HasIds t 0 parents
    → children (λ id cells. pair_in cells) (child_rows [] parents (map (drop 1) t.rows)) parent ≡ pairs_in t parent
pairs_are t parents parent are = ap (λ ids. children (λ id cells. pair_in cells) (child_rows [] ids (map (drop 1) t.rows)) parent) (ids_are t 0 parents are)

-- there is an id for each row
after_long : (how : Coding) (last before : ℕ) (rows : List Bool) (ns ids : List (Option ℕ)) → IdsAfter how last before rows ns ids → length ids ≡ length ns
after_long how last before rows [] [] is = refl
after_long how last before rows (None ∷ ns) (None ∷ ids) is = ap suc (after_long how last before (drop 1 rows) ns ids is.1)
after_long how last before rows (Some n ∷ ns) (Some id ∷ ids) is = ap suc (after_long how last id (drop 1 rows) ns ids is.2)
after_long how last before rows [] (id ∷ ids) is = absurd is
after_long how last before rows (n ∷ ns) [] is = absurd is
after_long how last before rows (None ∷ ns) (Some id ∷ ids) is = absurd is
after_long how last before rows (Some n ∷ ns) (None ∷ ids) is = absurd is

pub ids_long : (t : Table) (column : ℕ) (ids : List (Option ℕ)) → HasIds t column ids → length ids ≡ length t.rows
ids_long t column ids are =
    after_long (coding_in t column) (greatest_in t column) 0 (continues_in t) (stored_in t column) ids are
    ∙ length-map (column_in t.rows column) id_in ∙ length-map t.rows (λ row. get_or row column null)

-- the first column of attributes has ids
pub attribute_id : (kind : Kind) → has_attributes kind ≡ true → is_id_at kind 0 ≡ true
unfolding attrs deep_attrs
attribute_id table.ResourceAttrs is = refl
attribute_id table.ScopeAttrs is = refl
attribute_id table.LogAttrs is = refl
attribute_id table.SpanAttrs is = refl
attribute_id table.EventAttrs is = refl
attribute_id table.LinkAttrs is = refl
attribute_id table.NumberPointAttrs is = refl
attribute_id table.SummaryPointAttrs is = refl
attribute_id table.HistPointAttrs is = refl
attribute_id table.NumberExemplarAttrs is = refl
attribute_id table.HistExemplarAttrs is = refl
attribute_id _ is = absurd (false≢true is)

-- values that were looked at
pub values_more : (rows : List (List Cell)) (column row : ℕ) → ((k : ℕ) → k < row → (why : RowRefusal) → BadValue (drop column (get_or rows k [])) why → ⊥)
    → ((why : RowRefusal) → BadValue (drop column (get_or rows row [])) why → ⊥)
    → (k : ℕ) → k < row + 1 → (why : RowRefusal) → BadValue (drop column (get_or rows k [])) why → ⊥
values_more rows column row below here k less why bad =
    elim (cases_eq k row) [
      | inl equal ↦ here why (subst (λ (n : ℕ). BadValue (drop column (get_or rows n [])) why) equal bad)
      | inr differ ↦ below k (omega (arith, differ)) why bad
    ]

-- ---- what is wrong, and what isn't

module _ (t : Table) (known parents : List (Option ℕ)) (are : HasIds t 0 parents) where
  no_fault : (HasNullParent t 0 → ⊥) → (fault : IdFault) → ColumnDefect fault t 0 → ⊥
  no_fault there NullParent lacking = there lacking
  no_fault there PastType past = past.1 parents are
  no_fault there Duplicate never = never

  no_orphan : (OrphanIn parents known → ⊥) → HasOrphan t 0 known → ⊥
  no_orphan none found =
      none (subst (λ (ids : List (Option ℕ)). OrphanIn ids known) (ids_are t 0 found.parents found.are ∙ sym (ids_are t 0 parents are)) found.orphan)

  -- nothing is wrong where nothing was found
  pub nothing_wrong : (HasNullParent t 0 → ⊥) → (OrphanIn parents known → ⊥) → ((wrong : RowRefusal) → WrongValue t 2 wrong → ⊥)
      → (wrong : RowRefusal) → PairDefect t known wrong → ⊥
  nothing_wrong there none fine (why.Ids fault) defect = no_fault there fault defect
  nothing_wrong there none fine why.Orphan defect = no_orphan none defect
  nothing_wrong there none fine why.BadValueType defect = fine why.BadValueType defect
  nothing_wrong there none fine (why.BadCbor refusal) defect = fine (why.BadCbor refusal) defect
  nothing_wrong there none fine (why.Memory error) defect = defect
  nothing_wrong there none fine why.Disagree defect = defect
  nothing_wrong there none fine why.TwoValues defect = defect
  nothing_wrong there none fine why.BadKind defect = defect
