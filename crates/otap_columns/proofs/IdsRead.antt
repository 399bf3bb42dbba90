-- The ids of a table that is read are those of the table that was written.
use Rattle.std.proofs.Common.{◌≡◌, ℕ, ◌+◌, ◌≤◌, nat_lt, nat_le, Bool, true, false, ◌||◌, List, [], ◌∷◌, ◌++◌, map, drop, Option, Some, None, refl, sym, ap, ◌∙◌, subst, ◌⊎◌, inl, inr}
use Rattle.std.specs.List.{list_any}
use Rattle.std.proofs.lemmas.Bool.{cases_Bool, false≢true, ltb-false, le-leb, or_parts}
use Rattle.std.proofs.lemmas.List.Folds.{list_any-append}
use Rattle.arrow_ipc.specs.Batches.{BatchIn}
use Rattle.arrow_arrays.specs.declared.spec.ArraySpec.{ArraySpec}
use Rattle.arrow_arrays.specs.Arrays.{arrays_of}
use Rattle.otap_cells.specs.declared.payload.Kind.{Kind}
use Rattle.otap_cells.specs.declared.profile.Base.{Base}
use Rattle.otap_cells.specs.declared.profile.Base.TheVariants as base
use Rattle.otap_cells.specs.declared.profile.Coding.{Coding}
use Rattle.otap_cells.specs.Bases.{is_id}
use Rattle.otap_cells.specs.Cells.{Cell}
use Rattle.otap_cells.specs.Columns.{base_at, coding_at, is_id_at}
use Rattle.otap_cells.specs.ColumnIds.{id_in, stored_in}
use Rattle.otap_cells.specs.Continuing.{continues_in}
use Rattle.otap_cells.specs.GivenIds.{HasIds}
use Rattle.otap_cells.specs.Ids.{Ids, IdsAfter, undone_after, base_of, goes_on}
use Rattle.otap_cells.specs.Tables.{Table, SameTable, column_in, coding_in, greatest_in, greatest_wide, greatest_narrow}
use Rattle.otap_cells.proofs.ByPlace.{id_within}
use Rattle.otap_cells.proofs.Flags.{continues_alike}
use Rattle.otap_columns.specs.declared.forms.ColumnForm.{ColumnForm}
use Rattle.otap_columns.specs.declared.forms.ColumnForm.TheVariants as form
use Rattle.otap_columns.specs.Known.{greatest_of, greatest_if, column_greatest, array_of_column, array_of}
use Rattle.otap_columns.specs.Substreams.{SubstreamIn, table_of_batch}
use Rattle.otap_columns.specs.Schemas.{IsFound, is_present, id_type, arrow_type_in, schema_for}
use Rattle.otap_columns.specs.Observed.{has_wide_id, is_above, form_at}
use Rattle.otap_columns.proofs.Located.{column_found, column_absent}
use Rattle.otap_columns.proofs.Tabled.{table_kind, table_greatest}
use Rattle.otap_columns.proofs.ValuesSeen.{forms_fit, ids_by_width}

-- ids of which none needs more than 16 bits
narrowed : (how : Coding) (last before : ℕ) (rows : List Bool) (ns ids : List (Option ℕ)) → IdsAfter how last before rows ns ids → list_any is_above (undone_after how last before rows ns) ≡ false
    → IdsAfter how greatest_narrow before rows ns ids
narrowed how last before rows [] [] are none = tt
narrowed how last before rows (None ∷ ns) (None ∷ ids) are none = (are.0, narrowed how last before (drop 1 rows) ns ids are.1 (rw are.0 at none))
narrowed how last before rows (Some m ∷ ns) (Some id ∷ ids) are none =
    let sum : ℕ = base_of how (goes_on rows) before + m in
    let is : id ≡ sum = are.0 in
    let low : nat_le sum last ≡ true = le-leb sum last (subst (λ (x : ℕ). x ≤ last) is are.1) in
    let both : (nat_lt greatest_narrow sum || list_any is_above (undone_after how last sum (drop 1 rows) ns)) ≡ false = rw low at none in
    let parts : (nat_lt greatest_narrow sum ≡ false) × (list_any is_above (undone_after how last sum (drop 1 rows) ns) ≡ false) = or_parts (nat_lt greatest_narrow sum) _ both in
    let small : sum ≤ greatest_narrow = ltb-false greatest_narrow sum parts.0 in
    let rest : list_any is_above (undone_after how last id (drop 1 rows) ns) ≡ false = subst (λ (x : ℕ). list_any is_above (undone_after how last x (drop 1 rows) ns) ≡ false) (sym is) parts.1 in
    (is, subst (λ (x : ℕ). x ≤ greatest_narrow) (sym is) small, narrowed how last id (drop 1 rows) ns ids are.2 rest)
narrowed how last before rows [] (id ∷ ids) are none = absurd are
narrowed how last before rows (n ∷ ns) [] are none = absurd are
narrowed how last before rows (None ∷ ns) (Some id ∷ ids) are none = absurd are
narrowed how last before rows (Some n ∷ ns) (None ∷ ids) are none = absurd are

-- the type of ids says how great they may be
id_greatest : (holds : Base) (f : ColumnForm) → is_id holds ≡ true → greatest_of (arrow_type_in holds f) ≡ greatest_of (id_type f)
id_greatest (base.Id wide) f id = refl
id_greatest base.U8 f id = absurd (false≢true id)
id_greatest base.U16 f id = absurd (false≢true id)
id_greatest base.U32 f id = absurd (false≢true id)
id_greatest base.U64 f id = absurd (false≢true id)
id_greatest base.I32 f id = absurd (false≢true id)
id_greatest base.I64 f id = absurd (false≢true id)
id_greatest base.Double f id = absurd (false≢true id)
id_greatest base.Bool f id = absurd (false≢true id)
id_greatest base.Utf8 f id = absurd (false≢true id)
id_greatest base.Binary f id = absurd (false≢true id)
id_greatest base.Fixed16 f id = absurd (false≢true id)
id_greatest base.Fixed8 f id = absurd (false≢true id)
id_greatest base.Timestamp f id = absurd (false≢true id)
id_greatest base.Duration f id = absurd (false≢true id)
id_greatest base.ListU64 f id = absurd (false≢true id)
id_greatest base.ListF64 f id = absurd (false≢true id)

module _ (kind : Kind) (before : List Table) (t : Table) (column : ℕ) (id : is_id_at kind column ≡ true) where
  -- no id needs more than 16 bits, so none of this table does
  none_above : list_any (has_wide_id kind column) (before ++ t ∷ []) ≡ false → has_wide_id kind column t ≡ false
  none_above none =
      let any : (list_any (has_wide_id kind column) before || (has_wide_id kind column t || false)) ≡ false = sym (list_any-append (has_wide_id kind column) before (t ∷ [])) ∙ none in
      (or_parts (has_wide_id kind column t) false (or_parts (list_any (has_wide_id kind column) before) _ any).1).0

  -- none of them is above this number
  abbrev AreUpTo : List (Option ℕ) → ℕ → Type 0
  AreUpTo ids last = Ids (coding_at kind column) last (continues_in t) (stored_in t column) ids

  -- the ids are within what the schema lets them be
  bounded : (ids : List (Option ℕ)) → Ids (coding_at kind column) greatest_wide (continues_in t) (stored_in t column) ids
      → Ids (coding_at kind column) (column_greatest kind (arrays_of (schema_for kind (form_at kind (before ++ t ∷ [])))) column) (continues_in t) (stored_in t column) ids
  unfolding array_of
  bounded ids are = by (cases_Bool (is_present (form_at kind (before ++ t ∷ []) column)))
    where
      by_form : (form_at kind (before ++ t ∷ []) column ≡ form.Wide) ⊎ ((form_at kind (before ++ t ∷ []) column ≡ form.Plain) × (list_any (has_wide_id kind column) (before ++ t ∷ []) ≡ false))
          → AreUpTo ids (greatest_of (id_type (form_at kind (before ++ t ∷ []) column)))
      by_form (inl wide) = subst (λ (f : ColumnForm). AreUpTo ids (greatest_of (id_type f))) (sym wide) are
      by_form (inr (plain, none)) =
          subst (λ (f : ColumnForm). AreUpTo ids (greatest_of (id_type f))) (sym plain) (narrowed (coding_at kind column) greatest_wide 0 (continues_in t) (stored_in t column) ids are (none_above none))

      by : (is_present (form_at kind (before ++ t ∷ []) column) ≡ true) ⊎ (is_present (form_at kind (before ++ t ∷ []) column) ≡ false)
          → AreUpTo ids (column_greatest kind (arrays_of (schema_for kind (form_at kind (before ++ t ∷ [])))) column)
      by (inl here) =
          let f : IsFound kind (form_at kind (before ++ t ∷ [])) column = column_found kind (form_at kind (before ++ t ∷ [])) (forms_fit kind (before ++ t ∷ [])) column (id_within kind column id) here in
          let greatest : column_greatest kind (arrays_of (schema_for kind (form_at kind (before ++ t ∷ [])))) column ≡ greatest_of (id_type (form_at kind (before ++ t ∷ []) column)) =
          (λ i. greatest_if (array_of_column (arrays_of (schema_for kind (form_at kind (before ++ t ∷ [])))) (f.found i))) ∙ (λ i. greatest_if (f.at i)) ∙ ap greatest_of f.type
          ∙ id_greatest (base_at kind column) (form_at kind (before ++ t ∷ []) column) id in
          subst (AreUpTo ids) (sym greatest) (by_form (ids_by_width kind (before ++ t ∷ []) column id here))
      by (inr not) =
          let greatest : column_greatest kind (arrays_of (schema_for kind (form_at kind (before ++ t ∷ [])))) column ≡ greatest_wide =
          λ i. greatest_if (array_of_column (arrays_of (schema_for kind (form_at kind (before ++ t ∷ [])))) (column_absent kind (form_at kind (before ++ t ∷ [])) (forms_fit kind (before ++ t ∷ [])) column not i)) in
          subst (AreUpTo ids) (sym greatest) are

stored_alike : (u t : Table) (column : ℕ) → SameTable u t → stored_in t column ≡ stored_in u column
stored_alike u t column same = ap (λ (cells : List (List Cell)). map id_in (column_in cells column)) (sym same.rows)

has_them : (u t : Table) (column : ℕ) (how : Coding) (last : ℕ) (ids : List (Option ℕ)) → SameTable u t → how ≡ coding_in u column → last ≡ greatest_in u column
    → Ids how last (continues_in t) (stored_in t column) ids → HasIds u column ids
has_them u t column how last ids same coded greatest are =
    subst (λ (x : Type 0). x) (λ i. Ids (coded i) (greatest i) (continues_alike u t same i) (stored_alike u t column same i) ids) are

-- THE IDS of the table that is read
pub ids_read : (kind : Kind) (before : List Table) (t : Table) (s : SubstreamIn) (batch : BatchIn) → s.arrays ≡ arrays_of (schema_for kind (form_at kind (before ++ t ∷ [])))
    → SameTable (table_of_batch kind s batch) t → ((column : ℕ) → is_id_at kind column ≡ true → coding_in t column ≡ coding_at kind column) → (column : ℕ) (ids : List (Option ℕ)) → is_id_at kind column ≡ true
    → Ids (coding_at kind column) greatest_wide (continues_in t) (stored_in t column) ids → HasIds (table_of_batch kind s batch) column ids
ids_read kind before t s batch arrays same coded column ids id are =
    let own : is_id_at (table_of_batch kind s batch).kind column ≡ true = subst (λ (k : Kind). is_id_at k column ≡ true) (sym (table_kind kind s batch)) id in
    has_them (table_of_batch kind s batch) t column (coding_at kind column) (column_greatest kind (arrays_of (schema_for kind (form_at kind (before ++ t ∷ [])))) column) ids same
    (sym (same.coding column own ∙ coded column id))
    (ap (λ (arrays_in : List ArraySpec). column_greatest kind arrays_in column) (sym arrays) ∙ sym (table_greatest kind s batch column id))
    (bounded kind before t column id ids are)
