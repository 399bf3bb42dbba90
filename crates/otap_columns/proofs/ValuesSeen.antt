-- The values that a column had, and what its form says of them.
use Rattle.std.proofs.Common.{◌≡◌, ℕ, suc, zero, ◌+◌, ◌<◌, ◌≤◌, ◌^◌, nat_lt, nat_le, Bool, true, false, true≢false, if◌then◌else◌, List, [], ◌∷◌, ◌++◌, length, map, drop, get_or}
use Rattle.std.proofs.Common.{Option, Some, None, refl, sym, ap, ◌∙◌, subst, arith, append-nil, ◌⊎◌, inl, inr}
use Rattle.std.specs.Prelude.{ℤ, pos, negsuc, ◌||◌}
use Rattle.std.specs.List.{flat_map, list_any}
use Rattle.std.proofs.lemmas.Bool.{false≢true, ltb-false, le-leb, or_parts}
use Rattle.std.proofs.lemmas.Grind.{flat_map-append}
use Rattle.std.proofs.lemmas.List.Folds.{list_any-append}
use Rattle.otap_cells.specs.declared.payload.Kind.{Kind}
use Rattle.otap_cells.specs.declared.profile.Base.{Base}
use Rattle.otap_cells.specs.declared.profile.Base.TheVariants as base
use Rattle.otap_cells.specs.declared.profile.Coding.{Coding}
use Rattle.otap_cells.specs.Bases.{is_id}
use Rattle.otap_cells.specs.Cells.{Cell, null, number, bits, flag, bytes, IsCellOf}
use Rattle.otap_cells.specs.Columns.{column_at, base_at, coding_at, is_id_at}
use Rattle.otap_cells.specs.ColumnIds.{id_in, stored_in}
use Rattle.otap_cells.specs.Continuing.{continues_in}
use Rattle.otap_cells.specs.Ids.{Ids, IdsAfter, undone_after, base_of, goes_on}
use Rattle.otap_cells.specs.Tables.{Table, cell_in, column_in, greatest_wide, greatest_narrow}
use Rattle.otap_dicts.specs.declared.form.Form.{Form}
use Rattle.otap_dicts.specs.declared.form.Form.TheVariants as ladder
use Rattle.otap_dicts.specs.Forms.{distinct, byte_count, is_too_large, form_of}
use Rattle.otap_dicts.proofs.Once.{grows-law}
use Rattle.otap_dicts.specs.Limits.{narrow_limit, value_limit, byte_limit}
use Rattle.otap_columns.specs.declared.forms.ColumnForm.{ColumnForm}
use Rattle.otap_columns.specs.declared.forms.ColumnForm.TheVariants as form
use Rattle.otap_columns.specs.Schemas.{is_present, is_dictionary, coding_for, fits_form, FormsFit}
use Rattle.otap_columns.specs.Observed.{bytes_for, given, bytes_of_values, values_in_tables, is_own_id, is_above, is_wide, has_wide_id, if_seen, id_form, id_form_if, of_ladder, form_at, dictionary_values, new_at}
use Rattle.otap_columns.specs.BuiltCells.{id_bits, FitsForm}
use Rattle.otap_columns.proofs.CellsBack.{null_bytes}

-- ---- one more table

pub seen-push : (kind : Kind) (tables : List Table) (t : Table) (column : ℕ) → values_in_tables kind (tables ++ t ∷ []) column ≡ values_in_tables kind tables column ++ bytes_of_values kind column t
unfolding values_in_tables
seen-push kind tables t column = flat_map-append (bytes_of_values kind column) tables (t ∷ []) ∙ ap (λ vs. flat_map (bytes_of_values kind column) tables ++ vs) (append-nil (bytes_of_values kind column t))

-- new values are added at the end
pub values_grow : (kind : Kind) (before : List Table) (t : Table) (column : ℕ)
    → dictionary_values kind before column ++ new_at kind before (before ++ t ∷ []) column ≡ dictionary_values kind (before ++ t ∷ []) column
unfolding dictionary_values new_at
values_grow kind before t column =
    let e = seen-push kind before t column in
    rw e (sym (grows-law (values_in_tables kind before column) (bytes_of_values kind column t)))

-- ---- forms

-- a column that isn't one of ids has the form of a ladder
abbrev by_test : Bool → Kind → List Table → ℕ → ColumnForm
by_test id kind tables column =
    if id then id_form_if (is_own_id kind column) kind tables column else of_ladder (form_of (column_at kind column).dictionary (values_in_tables kind tables column))

id_form_is : (kind : Kind) (tables : List Table) (column : ℕ) → (id_form kind tables column ≡ form.Wide) ⊎ (id_form kind tables column ≡ form.Plain)
id_form_is kind tables column = by (is_wide (base_at kind column) || list_any (has_wide_id kind column) tables) refl
  where
    by : (b : Bool) → (is_wide (base_at kind column) || list_any (has_wide_id kind column) tables) ≡ b → (id_form kind tables column ≡ form.Wide) ⊎ (id_form kind tables column ≡ form.Plain)
    by true is = inl (rw is refl)
    by false is = inr (rw is refl)

-- what is true of absent, of plain and of wide columns is true of a column of ids
pub ids_have : (P : ColumnForm → Type 0) (own : Bool) (kind : Kind) (tables : List Table) (column : ℕ) → P form.Absent → P form.Plain → P form.Wide → P (id_form_if own kind tables column)
ids_have P own kind tables column absent plain wide = by_own own (by_form (id_form_is kind tables column))
  where
    by_form : (id_form kind tables column ≡ form.Wide) ⊎ (id_form kind tables column ≡ form.Plain) → P (id_form kind tables column)
    by_form (inl is) = subst P (sym is) wide
    by_form (inr is) = subst P (sym is) plain

    by_seen : (values : List (List ℕ)) → P (id_form kind tables column) → P (if_seen values (id_form kind tables column))
    by_seen [] here = absent
    by_seen (value ∷ values) here = here

    by_own : (own : Bool) → P (id_form kind tables column) → P (id_form_if own kind tables column)
    by_own true here = here
    by_own false here = by_seen (values_in_tables kind tables column) here

-- each form fits its column
dictionary_fits : (kind : Kind) (column : ℕ) (large wide : Bool) → (column_at kind column).dictionary ≡ true
    → fits_form (column_at kind column) (of_ladder (if large then ladder.Plain else (if wide then ladder.Dict16 else ladder.Dict8))) ≡ true
dictionary_fits kind column true wide is = refl
dictionary_fits kind column false true is = is
dictionary_fits kind column false false is = is

form_of_fits : (kind : Kind) (column : ℕ) (marked : Bool) (values : List (List ℕ)) → (column_at kind column).dictionary ≡ marked → fits_form (column_at kind column) (of_ladder (form_of marked values)) ≡ true
form_of_fits kind column marked [] is = refl
form_of_fits kind column false (v ∷ vs) is = refl
form_of_fits kind column true (v ∷ vs) is =
    dictionary_fits kind column (is_too_large (length (distinct (v ∷ vs))) (byte_count (distinct (v ∷ vs)))) (nat_lt narrow_limit (length (distinct (v ∷ vs)))) is

pub forms_fit : (kind : Kind) (tables : List Table) → FormsFit kind (form_at kind tables)
unfolding form_at
forms_fit kind tables column below = by (is_id_at kind column) refl
  where
    by : (id : Bool) → is_id_at kind column ≡ id → fits_form (column_at kind column) (by_test id kind tables column) ≡ true
    by true is = ids_have (λ f. fits_form (column_at kind column) f ≡ true) (is_own_id kind column) kind tables column refl refl is
    by false is = form_of_fits kind column (column_at kind column).dictionary (values_in_tables kind tables column) refl

-- no form names how ids are stored, so these are stored in their column's own way
ladder_own : (own : Coding) (told : Form) → coding_for own (of_ladder told) ≡ own
ladder_own own ladder.Absent = refl
ladder_own own ladder.Dict8 = refl
ladder_own own ladder.Dict16 = refl
ladder_own own ladder.Plain = refl

pub forms_own : (own : Coding) (kind : Kind) (tables : List Table) (column : ℕ) → coding_for own (form_at kind tables column) ≡ own
unfolding form_at
forms_own own kind tables column = by (is_id_at kind column)
  where
    by : (id : Bool) → coding_for own (by_test id kind tables column) ≡ own
    by true = ids_have (λ f. coding_for own f ≡ own) (is_own_id kind column) kind tables column refl refl refl
    by false = ladder_own own (form_of (column_at kind column).dictionary (values_in_tables kind tables column))

-- a dictionary has at most 65,536 values
few_ladder : (large wide : Bool) → is_dictionary (of_ladder (if large then ladder.Plain else (if wide then ladder.Dict16 else ladder.Dict8))) ≡ true → large ≡ false
few_ladder true wide is = absurd (false≢true is)
few_ladder false wide is = refl

few_form : (marked : Bool) (values : List (List ℕ)) → is_dictionary (of_ladder (form_of marked values)) ≡ true → length (distinct values) ≤ value_limit
few_form marked [] is = absurd (false≢true is)
few_form false (v ∷ vs) is = absurd (false≢true is)
few_form true (v ∷ vs) is =
    let n = length (distinct (v ∷ vs)) in
    let small : is_too_large n (byte_count (distinct (v ∷ vs))) ≡ false = few_ladder (is_too_large n (byte_count (distinct (v ∷ vs)))) (nat_lt narrow_limit n) is in
    count n (nat_lt byte_limit (byte_count (distinct (v ∷ vs)))) small
  where
    count : (n : ℕ) (long : Bool) → (nat_lt value_limit n || long) ≡ false → n ≤ value_limit
    count n long is = let low = ltb-false value_limit n (or_parts (nat_lt value_limit n) long is).0 in omega arith

-- and at most 1,048,576 bytes
small_form : (marked : Bool) (values : List (List ℕ)) → is_dictionary (of_ladder (form_of marked values)) ≡ true → byte_count (distinct values) ≤ byte_limit
small_form marked [] is = absurd (false≢true is)
small_form false (v ∷ vs) is = absurd (false≢true is)
small_form true (v ∷ vs) is =
    let n = length (distinct (v ∷ vs)) in
    let small : is_too_large n (byte_count (distinct (v ∷ vs))) ≡ false = few_ladder (is_too_large n (byte_count (distinct (v ∷ vs)))) (nat_lt narrow_limit n) is in
    bytes (nat_lt value_limit n) (byte_count (distinct (v ∷ vs))) small
  where
    bytes : (many : Bool) (b : ℕ) → (many || nat_lt byte_limit b) ≡ false → b ≤ byte_limit
    bytes true b is = absurd (true≢false is)
    bytes false b is = let low = ltb-false byte_limit b is in omega arith

pub small_values : (kind : Kind) (tables : List Table) (column : ℕ) → is_dictionary (form_at kind tables column) ≡ true → byte_count (dictionary_values kind tables column) ≤ byte_limit
unfolding form_at dictionary_values
small_values kind tables column is = by (is_id_at kind column) refl
  where
    by : (id : Bool) → is_id_at kind column ≡ id → byte_count (distinct (values_in_tables kind tables column)) ≤ byte_limit
    by true here =
        let none : is_dictionary (id_form_if (is_own_id kind column) kind tables column) ≡ false = ids_have (λ f. is_dictionary f ≡ false) (is_own_id kind column) kind tables column refl refl refl in
        absurd (false≢true (sym none ∙ rw here at is))
    by false here = small_form (column_at kind column).dictionary (values_in_tables kind tables column) (rw here at is)

pub few_values : (kind : Kind) (tables : List Table) (column : ℕ) → is_dictionary (form_at kind tables column) ≡ true → length (dictionary_values kind tables column) ≤ value_limit
unfolding form_at dictionary_values
few_values kind tables column is = by (is_id_at kind column) refl
  where
    by : (id : Bool) → is_id_at kind column ≡ id → length (distinct (values_in_tables kind tables column)) ≤ value_limit
    by true here =
        let none : is_dictionary (id_form_if (is_own_id kind column) kind tables column) ≡ false = ids_have (λ f. is_dictionary f ≡ false) (is_own_id kind column) kind tables column refl refl refl in
        absurd (false≢true (sym none ∙ rw here at is))
    by false here = few_form (column_at kind column).dictionary (values_in_tables kind tables column) (rw here at is)

-- ---- absent columns

given-cell : (holds : Base) (column : ℕ) (rows : List (List Cell)) (row : ℕ) → row < length rows → given (map (bytes_for holds form.Wide) (column_in rows column)) ≡ [] → cell_in rows column row ≡ null
given-cell holds column [] row low none = absurd (omega arith)
given-cell holds column (r ∷ rows) zero low none = by (bytes_for holds form.Wide (get_or r column null)) refl
  where
    by : (o : Option (List ℕ)) → bytes_for holds form.Wide (get_or r column null) ≡ o → get_or r column null ≡ null
    by None is = null_bytes holds form.Wide (get_or r column null) is
    by (Some value) is =
        let some : value ∷ given (map (bytes_for holds form.Wide) (column_in rows column)) ≡ [] = rw is at none in
        absurd (cc)
given-cell holds column (r ∷ rows) (suc row) low none = by (bytes_for holds form.Wide (get_or r column null)) refl (given-cell holds column rows row (omega arith))
  where
    by : (o : Option (List ℕ)) → bytes_for holds form.Wide (get_or r column null) ≡ o → (given (map (bytes_for holds form.Wide) (column_in rows column)) ≡ [] → cell_in rows column row ≡ null)
        → cell_in rows column row ≡ null
    by None is rest = rest (rw is at none)
    by (Some value) is rest =
        let some : value ∷ given (map (bytes_for holds form.Wide) (column_in rows column)) ≡ [] = rw is at none in
        absurd (cc)

-- a column that isn't written had no values
unseen_ladder : (large wide : Bool) → is_present (of_ladder (if large then ladder.Plain else (if wide then ladder.Dict16 else ladder.Dict8))) ≡ true
unseen_ladder true wide = refl
unseen_ladder false true = refl
unseen_ladder false false = refl

unseen_form : (marked : Bool) (values : List (List ℕ)) → is_present (of_ladder (form_of marked values)) ≡ false → values ≡ []
unseen_form marked [] is = refl
unseen_form false (v ∷ vs) is = absurd (true≢false is)
unseen_form true (v ∷ vs) is =
    absurd (true≢false (sym (unseen_ladder (is_too_large (length (distinct (v ∷ vs))) (byte_count (distinct (v ∷ vs)))) (nat_lt narrow_limit (length (distinct (v ∷ vs))))) ∙ is))

id_there : (kind : Kind) (tables : List Table) (column : ℕ) → is_present (id_form kind tables column) ≡ true
id_there kind tables column = by (id_form_is kind tables column)
  where
    by : (id_form kind tables column ≡ form.Wide) ⊎ (id_form kind tables column ≡ form.Plain) → is_present (id_form kind tables column) ≡ true
    by (inl is) = rw is refl
    by (inr is) = rw is refl

unseen_id : (own : Bool) (kind : Kind) (tables : List Table) (column : ℕ) → is_present (id_form_if own kind tables column) ≡ false → values_in_tables kind tables column ≡ []
unseen_id true kind tables column is = absurd (true≢false (sym (id_there kind tables column) ∙ is))
unseen_id false kind tables column is = by (values_in_tables kind tables column) is
  where
    by : (values : List (List ℕ)) → is_present (if_seen values (id_form kind tables column)) ≡ false → values ≡ []
    by [] h = refl
    by (v ∷ vs) h = absurd (true≢false (sym (id_there kind tables column) ∙ h))

pub unseen : (kind : Kind) (tables : List Table) (column : ℕ) → is_present (form_at kind tables column) ≡ false → values_in_tables kind tables column ≡ []
unfolding form_at
unseen kind tables column is = by (is_id_at kind column) refl
  where
    by : (id : Bool) → is_id_at kind column ≡ id → values_in_tables kind tables column ≡ []
    by true here = unseen_id (is_own_id kind column) kind tables column (rw here at is)
    by false here = unseen_form (column_at kind column).dictionary (values_in_tables kind tables column) (rw here at is)

append_none : {A : Type 0} (xs ys : List A) → xs ++ ys ≡ [] → ys ≡ []
append_none [] ys is = is
append_none (x ∷ xs) ys is = absurd (cc)

-- so its cells are null
pub absent_null : (kind : Kind) (before : List Table) (t : Table) (column row : ℕ) → is_present (form_at kind (before ++ t ∷ []) column) ≡ false → row < length t.rows → cell_in t.rows column row ≡ null
absent_null kind before t column row is low =
    let none : values_in_tables kind before column ++ bytes_of_values kind column t ≡ [] = sym (seen-push kind before t column) ∙ unseen kind (before ++ t ∷ []) column is in
    given-cell (base_at kind column) column t.rows row low (append_none (values_in_tables kind before column) (bytes_of_values kind column t) none)

-- ---- ids

-- where no id needs more than 16 bits, no stored number does
narrow : (how : Coding) (last before : ℕ) (rows : List Bool) (ns ids : List (Option ℕ)) → IdsAfter how last before rows ns ids → list_any is_above (undone_after how last before rows ns) ≡ false
    → (k n : ℕ) → get_or ns k None ≡ Some n → n ≤ greatest_narrow
narrow how last before rows [] [] stand none k n at = absurd (cc)
narrow how last before rows (None ∷ ns) (None ∷ ids) stand none zero n at = absurd (cc)
narrow how last before rows (None ∷ ns) (None ∷ ids) stand none (suc k) n at =
    narrow how last before (drop 1 rows) ns ids stand.1 (rw stand.0 at none) k n at
narrow how last before rows (Some m ∷ ns) (Some id ∷ ids) stand none k n at =
    let sum : ℕ = base_of how (goes_on rows) before + m in
    let is : id ≡ sum = stand.0 in
    let low : nat_le sum last ≡ true = le_true sum last (subst (λ (x : ℕ). x ≤ last) is stand.1) in
    let both : (nat_lt greatest_narrow sum || list_any is_above (undone_after how last sum (drop 1 rows) ns)) ≡ false = rw low at none in
    let parts : (nat_lt greatest_narrow sum ≡ false) × (list_any is_above (undone_after how last sum (drop 1 rows) ns) ≡ false) = or_parts (nat_lt greatest_narrow sum) _ both in
    by k at (ltb-false greatest_narrow sum parts.0) (λ k at. narrow how last sum (drop 1 rows) ns ids (subst (λ (x : ℕ). IdsAfter how last x (drop 1 rows) ns ids) is stand.2) parts.1 k n at)
  where
    le_true : (a b : ℕ) → a ≤ b → nat_le a b ≡ true
    le_true a b h = le-leb a b h

    by : (k : ℕ) → get_or (Some m ∷ ns) k None ≡ Some n → base_of how (goes_on rows) before + m ≤ greatest_narrow → ((k : ℕ) → get_or ns k None ≡ Some n → n ≤ greatest_narrow) → n ≤ greatest_narrow
    by zero at low rest = let same : m ≡ n = cc in omega arith
    by (suc k) at low rest = rest k at
narrow how last before rows [] (id ∷ ids) stand none k n at = absurd stand
narrow how last before rows (m ∷ ns) [] stand none k n at = absurd stand
narrow how last before rows (None ∷ ns) (Some id ∷ ids) stand none k n at = absurd stand
narrow how last before rows (Some m ∷ ns) (None ∷ ids) stand none k n at = absurd stand

-- a stored number is that of the cell
pub stored-cell : (rows : List (List Cell)) (column row : ℕ) → get_or (map id_in (column_in rows column)) row None ≡ id_in (cell_in rows column row)
stored-cell [] column row = refl
stored-cell (r ∷ rows) column zero = refl
stored-cell (r ∷ rows) column (suc row) = stored-cell rows column row

-- a column of ids that is written is wide, or no id needs more than 16 bits
by_width : (own : Bool) (kind : Kind) (tables : List Table) (column : ℕ) → is_present (id_form_if own kind tables column) ≡ true
    → (id_form_if own kind tables column ≡ form.Wide) ⊎ ((id_form_if own kind tables column ≡ form.Plain) × (list_any (has_wide_id kind column) tables ≡ false))
by_width own kind tables column there = by (is_wide (base_at kind column) || list_any (has_wide_id kind column) tables) refl
  where
    same_own : (own : Bool) (values : List (List ℕ)) (f : ColumnForm) → is_present (if own then f else if_seen values f) ≡ true → (if own then f else if_seen values f) ≡ f
    same_own true values f is = refl
    same_own false [] f is = absurd (false≢true is)
    same_own false (v ∷ vs) f is = refl

    same : id_form_if own kind tables column ≡ id_form kind tables column
    same = same_own own (values_in_tables kind tables column) (id_form kind tables column) there

    by : (b : Bool) → (is_wide (base_at kind column) || list_any (has_wide_id kind column) tables) ≡ b
        → (id_form_if own kind tables column ≡ form.Wide) ⊎ ((id_form_if own kind tables column ≡ form.Plain) × (list_any (has_wide_id kind column) tables ≡ false))
    by true is = inl (same ∙ rw is refl)
    by false is = inr (same ∙ rw is refl, (or_parts (is_wide (base_at kind column)) (list_any (has_wide_id kind column) tables) is).1)

pub ids_by_width : (kind : Kind) (tables : List Table) (column : ℕ) → is_id_at kind column ≡ true → is_present (form_at kind tables column) ≡ true
    → (form_at kind tables column ≡ form.Wide) ⊎ ((form_at kind tables column ≡ form.Plain) × (list_any (has_wide_id kind column) tables ≡ false))
unfolding form_at
ids_by_width kind tables column id there = rw id (by_width (is_own_id kind column) kind tables column (rw id at there))

pub wide_low : (holds : Base) (n : ℕ) → is_id holds ≡ true → IsCellOf holds (number (pos n)) → n < 2 ^ 32
wide_low (base.Id wide) n id is = is
wide_low base.U8 n id is = absurd (false≢true id)
wide_low base.U16 n id is = absurd (false≢true id)
wide_low base.U32 n id is = absurd (false≢true id)
wide_low base.U64 n id is = absurd (false≢true id)
wide_low base.I32 n id is = absurd (false≢true id)
wide_low base.I64 n id is = absurd (false≢true id)
wide_low base.Double n id is = absurd (false≢true id)
wide_low base.Bool n id is = absurd (false≢true id)
wide_low base.Utf8 n id is = absurd (false≢true id)
wide_low base.Binary n id is = absurd (false≢true id)
wide_low base.Fixed16 n id is = absurd (false≢true id)
wide_low base.Fixed8 n id is = absurd (false≢true id)
wide_low base.Timestamp n id is = absurd (false≢true id)
wide_low base.Duration n id is = absurd (false≢true id)
wide_low base.ListU64 n id is = absurd (false≢true id)
wide_low base.ListF64 n id is = absurd (false≢true id)

fits_number : (holds : Base) (f : ColumnForm) (z : ℤ) → IsCellOf holds (number z) → ((n : ℕ) → is_id holds ≡ true → number z ≡ number (pos n) → n < 2 ^ id_bits f) → FitsForm holds f (number z)
fits_number (base.Id wide) f (pos n) is low = low n refl refl
fits_number (base.Id wide) f (negsuc n) is low = absurd is
fits_number base.U8 f z is low = tt
fits_number base.U16 f z is low = tt
fits_number base.U32 f z is low = tt
fits_number base.U64 f z is low = tt
fits_number base.I32 f z is low = tt
fits_number base.I64 f z is low = tt
fits_number base.Double f z is low = tt
fits_number base.Bool f z is low = tt
fits_number base.Utf8 f z is low = tt
fits_number base.Binary f z is low = tt
fits_number base.Fixed16 f z is low = tt
fits_number base.Fixed8 f z is low = tt
fits_number base.Timestamp f z is low = tt
fits_number base.Duration f z is low = tt
fits_number base.ListU64 f z is low = tt
fits_number base.ListF64 f z is low = tt

fits_other : (holds : Base) (f : ColumnForm) (cell : Cell) → ((z : ℤ) → cell ≡ number z → ⊥) → FitsForm holds f cell
fits_other (base.Id wide) f null none = tt
fits_other (base.Id wide) f (number z) none = absurd (none z refl)
fits_other (base.Id wide) f (bits n) none = tt
fits_other (base.Id wide) f (flag b) none = tt
fits_other (base.Id wide) f (bytes part) none = tt
fits_other base.U8 f cell none = tt
fits_other base.U16 f cell none = tt
fits_other base.U32 f cell none = tt
fits_other base.U64 f cell none = tt
fits_other base.I32 f cell none = tt
fits_other base.I64 f cell none = tt
fits_other base.Double f cell none = tt
fits_other base.Bool f cell none = tt
fits_other base.Utf8 f cell none = tt
fits_other base.Binary f cell none = tt
fits_other base.Fixed16 f cell none = tt
fits_other base.Fixed8 f cell none = tt
fits_other base.Timestamp f cell none = tt
fits_other base.Duration f cell none = tt
fits_other base.ListU64 f cell none = tt
fits_other base.ListF64 f cell none = tt

pub fits_by : (holds : Base) (f : ColumnForm) (cell : Cell) → IsCellOf holds cell → ((n : ℕ) → is_id holds ≡ true → cell ≡ number (pos n) → n < 2 ^ id_bits f) → FitsForm holds f cell
fits_by holds f (number z) is low = fits_number holds f z is low
fits_by holds f null is low = fits_other holds f null (λ z e. cc)
fits_by holds f (bits n) is low = fits_other holds f (bits n) (λ z e. cc)
fits_by holds f (flag b) is low = fits_other holds f (flag b) (λ z e. cc)
fits_by holds f (bytes part) is low = fits_other holds f (bytes part) (λ z e. cc)

-- each id fits its form
pub ids_fit : (kind : Kind) (before : List Table) (t : Table) (column row : ℕ) → is_present (form_at kind (before ++ t ∷ []) column) ≡ true
    → ((is_id_at kind column ≡ true) → (ids : List (Option ℕ)) × Ids (coding_at kind column) greatest_wide (continues_in t) (stored_in t column) ids)
    → IsCellOf (base_at kind column) (cell_in t.rows column row) → FitsForm (base_at kind column) (form_at kind (before ++ t ∷ []) column) (cell_in t.rows column row)
ids_fit kind before t column row there stand is =
    fits_by (base_at kind column) (form_at kind (before ++ t ∷ []) column) (cell_in t.rows column row) is
    (λ n id at. by n id at (ids_by_width kind (before ++ t ∷ []) column id there))
  where
    by : (n : ℕ) → is_id_at kind column ≡ true → cell_in t.rows column row ≡ number (pos n)
        → (form_at kind (before ++ t ∷ []) column ≡ form.Wide) ⊎ ((form_at kind (before ++ t ∷ []) column ≡ form.Plain) × (list_any (has_wide_id kind column) (before ++ t ∷ []) ≡ false))
        → n < 2 ^ id_bits (form_at kind (before ++ t ∷ []) column)
    by n id at (inl wide) =
        let low : n < 2 ^ 32 = wide_low (base_at kind column) n id (subst (IsCellOf (base_at kind column)) at is) in
        subst (λ (f : ColumnForm). n < 2 ^ id_bits f) (sym wide) low
    by n id at (inr (plain, none)) =
        let s = stand id in
        let any : (list_any (has_wide_id kind column) before || (has_wide_id kind column t || false)) ≡ false = sym (list_any-append (has_wide_id kind column) before (t ∷ [])) ∙ none in
        let mine : has_wide_id kind column t ≡ false = (or_parts (has_wide_id kind column t) false (or_parts (list_any (has_wide_id kind column) before) _ any).1).0 in
        let low : n ≤ greatest_narrow = narrow (coding_at kind column) greatest_wide 0 (continues_in t) (stored_in t column) s.0 s.1 mine row n (stored-cell t.rows column row ∙ ap id_in at) in
        let lower : n < 2 ^ 16 = omega arith in
        subst (λ (f : ColumnForm). n < 2 ^ id_bits f) (sym plain) lower
