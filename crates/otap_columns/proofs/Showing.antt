-- The cells of a record batch in a sub-stream are of their columns' bases.
use Rattle.std.proofs.Common.{◌≡◌, ℕ, ◌<◌, ◌≤◌, true, false, List, [], ◌∷◌, length, get_or, Option, Some, None, IsOk, refl, sym, ap, ◌∙◌, subst, arith, ◌⊎◌, inl, inr}
use Rattle.std.specs.Prelude.{ℤ, All, slice_get}
use Rattle.std.specs.Option.{ForSome}
use Rattle.std.specs.Ordering.{int_eq}
use Rattle.std.proofs.lemmas.Bool.{cases_Bool, cases_lt, and_parts}
use Rattle.std.proofs.lemmas.List.{get_or_past}
use Rattle.std.proofs.lemmas.List.FromFn.{length-map-range_with_len, get_or-map-range_with_len}
use Rattle.std.proofs.lemmas.List.Elements.{All-head, All-tail}
use Rattle.std.proofs.lemmas.Iterator.Adapters.{position_from-zero}
use Rattle.byteorder.specs.Endian.{little_number}
use Rattle.arrow_schema.specs.Limits.{max_depth}
use Rattle.arrow_schema.specs.declared.spec.ArrowType.{ArrowType}
use Rattle.arrow_schema.specs.declared.spec.DictSpec.{DictSpec}
use Rattle.arrow_schema.specs.Types.{same_type}
use Rattle.arrow_schema.proofs.Lists.{same_type_is}
use Rattle.arrow_buffers.proofs.EachBelow.{all_below-at}
use Rattle.arrow_ipc.specs.Batches.{BatchIn}
use Rattle.arrow_arrays.specs.declared.spec.ArraySpec.{ArraySpec}
use Rattle.arrow_arrays.specs.Arrays.{arrays_check, cell_of, fits_if}
use Rattle.arrow_arrays.proofs.Fits.{cell_fits}
use Rattle.arrow_arrays.specs.Layouts.{layout_of, layout_of_values, FitsLayout}
use Rattle.otap_cells.specs.declared.payload.Kind.{Kind}
use Rattle.otap_cells.specs.declared.profile.Base.{Base}
use Rattle.otap_cells.specs.Cells.{IsCellOf, null, nat_in}
use Rattle.otap_cells.specs.Columns.{column_at, base_at, coding_at, is_id_at, allows}
use Rattle.otap_cells.specs.Tables.{IsTable}
use Rattle.otap_cells.proofs.ByPlace.{IsTable-table_by}
use Rattle.otap_cells.proofs.Columnwise.{allows_own}
use Rattle.otap_columns.specs.Dictionaries.{DictionaryIn, is_for, values_for}
use Rattle.otap_columns.specs.Known.{known_column, known_columns, is_column, place_in, place_at, array_of_column, array_of, elements_at, stores, fits_encoding, fits_as, fits_column, fits_at, columns_fit}
use Rattle.otap_columns.specs.Known.{coding_if, column_coding, greatest_if, column_greatest, stored_cell}
use Rattle.otap_columns.specs.Resolved.{FitsBase}
use Rattle.otap_columns.specs.Steps.{FitsIn, FitsValue}
use Rattle.otap_columns.specs.Substreams.{SubstreamIn, replaced, field_value, value_if, column_value, column_cell, table_of_batch}
use Rattle.otap_columns.proofs.Coding.{named_allowed, fits_allowed}
use Rattle.otap_columns.proofs.Finding.{PassesAt, passes_at}
use Rattle.otap_columns.proofs.Storing.{cell_is, stores_fits, id_bounded}
use Rattle.otap_columns.proofs.Keeping.{member_place}

-- the values of a field's dictionary are of its type
values_fit : (kind : ArrowType) (id : ℤ) (dictionaries : List DictionaryIn) → All FitsIn dictionaries → All (FitsValue kind) (values_for kind id dictionaries)
values_fit kind id [] all = λ k d below. absurd (omega (arith, below))
values_fit kind id (d ∷ ds) all = by_test (cases_Bool (is_for kind id d)) (values_fit kind id ds (All-tail FitsIn d ds all))
  where
    by_test : (is_for kind id d ≡ true) ⊎ (is_for kind id d ≡ false) → All (FitsValue kind) (values_for kind id ds) → All (FitsValue kind) (values_for kind id (d ∷ ds))
    by_test (inl good) rest =
        let parts : (int_eq d.id id ≡ true) × (same_type d.kind kind ≡ true) = and_parts (int_eq d.id id) (same_type d.kind kind) good in
        let here : d.values ≡ values_for kind id (d ∷ ds) = rw good refl in
        subst (λ (vs : List (Option (List ℕ))). All (FitsValue kind) vs) here
        (subst (λ (k : ArrowType). All (FitsValue k) d.values) (same_type_is d.kind kind parts.1) (All-head FitsIn d ds all))
    by_test (inr bad) rest =
        let here : values_for kind id ds ≡ values_for kind id (d ∷ ds) = rw bad refl in
        subst (λ (vs : List (Option (List ℕ))). All (FitsValue kind) vs) here rest

-- the value at an index fits, or there is none
value_there : (kind : ArrowType) (values : List (Option (List ℕ))) (place : ℕ) → All (FitsValue kind) values → FitsValue kind (get_or values place None)
value_there kind values place all =
    elim (cases_lt place (length values)) [
      | inl below ↦ all place None below
      | inr past ↦ λ x is. absurd (cc (get_or_past values place None past, is))
    ]

-- so is what is in the field
replaced_fits : (dictionaries : List DictionaryIn) (kind : ArrowType) (dict : Option DictSpec) (cell : Option (List ℕ)) → All FitsIn dictionaries
    → ForSome cell (FitsLayout (layout_of kind dict)) → ForSome (replaced dictionaries kind dict cell) (FitsLayout (layout_of_values kind))
replaced_fits dictionaries kind None cell all fits = fits
replaced_fits dictionaries kind (Some dict) None all fits = λ x is. absurd (cc)
replaced_fits dictionaries kind (Some dict) (Some index) all fits =
    value_there kind (values_for kind dict.id dictionaries) (little_number (length index) index) (values_fit kind dict.id dictionaries all)

pub value_fits : (s : SubstreamIn) (batch : BatchIn) (row place : ℕ) (a : ArraySpec) → All FitsIn s.dictionaries → IsOk (arrays_check batch s.arrays) → slice_get s.arrays place ≡ Some a
    → ForSome (field_value s batch row place (Some a)) (FitsLayout (layout_of_values a.kind))
value_fits s batch row place a all fine at =
    replaced_fits s.dictionaries a.kind a.dict (cell_of s.arrays batch place row) all
    (λ x is. subst (λ (o : Option ArraySpec). fits_if o x) at (cell_fits max_depth s.arrays batch place row x fine is))

null_cell : (holds : Base) → stored_cell holds None ≡ null
unfolding stored_cell
null_cell holds = refl

-- it has a type that stores the column's base, and an encoding that the column allows
pub record IsTyped (kind : Kind) (arrays : List ArraySpec) (column place : ℕ) : Type 0 where
  pub below : place < length arrays
  pub is : known_column kind arrays place ≡ Some column
  pub stored : (a : ArraySpec) → slice_get arrays place ≡ Some a → stores (base_at kind column) a.kind (elements_at arrays place) ≡ true
  pub encoded : (a : ArraySpec) → slice_get arrays place ≡ Some a → fits_encoding (column_at kind column) a.encoding ≡ true

pub typed_at : (kind : Kind) (arrays : List ArraySpec) (column place : ℕ) → columns_fit kind arrays ≡ true → place_at kind arrays column ≡ Some place → IsTyped kind arrays column place
unfolding columns_fit place_in known_columns
typed_at kind arrays column place types at =
    let f : PassesAt (is_column column) 0 (known_columns kind arrays) place =
    passes_at (is_column column) 0 (known_columns kind arrays) place (sym (position_from-zero (is_column column) (known_columns kind arrays)) ∙ at) in
    let below : place < length arrays = omega (arith, f.below, length-map-range_with_len (known_column kind arrays) 0 (length arrays)) in
    let here : get_or (known_columns kind arrays) place None ≡ known_column kind arrays place =
    get_or-map-range_with_len (known_column kind arrays) 0 (length arrays) place place None below (omega arith) in
    let is : known_column kind arrays place ≡ Some column =
    member_place column (known_column kind arrays place) (ap (is_column column) (sym here) ∙ f.passes place None (omega arith)) in
    let typed : fits_at kind arrays place ≡ true = all_below-at (fits_at kind arrays) (length arrays) place types below in
    let same : (a : ArraySpec) → slice_get arrays place ≡ Some a → fits_as kind a.kind a.encoding (elements_at arrays place) (Some column) ≡ true =
    λ a there. sym (λ i. fits_column kind (there i) (elements_at arrays place) (is i)) ∙ typed in
    record {
      below = below;
      is = is;
      stored = λ a there. (and_parts (stores (base_at kind column) a.kind (elements_at arrays place)) (fits_encoding (column_at kind column) a.encoding) (same a there)).0;
      encoded = λ a there. (and_parts (stores (base_at kind column) a.kind (elements_at arrays place)) (fits_encoding (column_at kind column) a.encoding) (same a there)).1;
    }

module _ (kind : Kind) (s : SubstreamIn) (batch : BatchIn) (types : columns_fit kind s.arrays ≡ true) (all : All FitsIn s.dictionaries) (fine : IsOk (arrays_check batch s.arrays)) where
  -- what is in a column fits its base
  pub column_value_fits : (column row : ℕ) → ForSome (column_value kind s batch column row) (FitsBase (base_at kind column))
  unfolding column_value
  column_value_fits column row = by_place (place_at kind s.arrays column) refl
    where
      by_array : (place : ℕ) → IsTyped kind s.arrays column place → (o : Option ArraySpec) → slice_get s.arrays place ≡ o
          → ForSome (field_value s batch row place o) (FitsBase (base_at kind column))
      by_array place t None there = λ x h. absurd (cc)
      by_array place t (Some a) there =
          λ x h. stores_fits (base_at kind column) a.kind (elements_at s.arrays place) x (t.stored a there) (value_fits s batch row place a all fine there x h)

      by_place : (o : Option ℕ) → place_at kind s.arrays column ≡ o → ForSome (value_if s batch row o) (FitsBase (base_at kind column))
      by_place None at = λ x h. absurd (cc)
      by_place (Some place) at = by_array place (typed_at kind s.arrays column place types at) (slice_get s.arrays place) refl

  -- and each cell is of its column's base
  pub column_cell_is : (column row : ℕ) → IsCellOf (base_at kind column) (column_cell kind s batch column row)
  unfolding column_cell
  column_cell_is column row = cell_is (base_at kind column) (column_value kind s batch column row) (column_value_fits column row)

  -- ids are stored in a way that their column allows
  pub column_coded : (column : ℕ) → is_id_at kind column ≡ true → allows (column_at kind column) (column_coding kind s.arrays column) ≡ true
  unfolding array_of
  column_coded column id = by_place (place_at kind s.arrays column) refl
    where
      by_array : (place : ℕ) → IsTyped kind s.arrays column place → (o : Option ArraySpec) → slice_get s.arrays place ≡ o
          → allows (column_at kind column) (coding_if (coding_at kind column) o) ≡ true
      by_array place t None there = allows_own (column_at kind column) id
      by_array place t (Some a) there = named_allowed (column_at kind column) a.encoding id (fits_allowed (column_at kind column) a.encoding id (t.encoded a there))

      by_place : (o : Option ℕ) → place_at kind s.arrays column ≡ o → allows (column_at kind column) (coding_if (coding_at kind column) (array_of_column s.arrays o)) ≡ true
      by_place None at = allows_own (column_at kind column) id
      by_place (Some place) at = by_array place (typed_at kind s.arrays column place types at) (slice_get s.arrays place) refl

  -- and none of their numbers is above the greatest
  pub column_bounded : (column row : ℕ) → is_id_at kind column ≡ true → nat_in (column_cell kind s batch column row) ≤ column_greatest kind s.arrays column
  unfolding column_cell column_value array_of
  column_bounded column row id = by_place (place_at kind s.arrays column) refl
    where
      by_array : (place : ℕ) → IsTyped kind s.arrays column place → (o : Option ArraySpec) → slice_get s.arrays place ≡ o
          → nat_in (stored_cell (base_at kind column) (field_value s batch row place o)) ≤ greatest_if o
      by_array place t None there = rw (null_cell (base_at kind column)) (omega arith)
      by_array place t (Some a) there =
          id_bounded (base_at kind column) a.kind (elements_at s.arrays place) (field_value s batch row place (Some a)) id (t.stored a there) (value_fits s batch row place a all fine there)

      by_place : (o : Option ℕ) → place_at kind s.arrays column ≡ o → nat_in (stored_cell (base_at kind column) (value_if s batch row o)) ≤ greatest_if (array_of_column s.arrays o)
      by_place None at = rw (null_cell (base_at kind column)) (omega arith)
      by_place (Some place) at = by_array place (typed_at kind s.arrays column place types at) (slice_get s.arrays place) refl

  -- a record batch is read as a table
  pub table_is : IsTable (table_of_batch kind s batch)
  unfolding table_of_batch
  table_is =
      IsTable-table_by kind (column_coding kind s.arrays) (column_greatest kind s.arrays) batch.rows (column_cell kind s batch) column_cell_is column_coded column_bounded
