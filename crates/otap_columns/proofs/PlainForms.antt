-- All columns of a table in the forms of a file: these fit, and the table can be written in them.
use Rattle.std.proofs.Common.{◌≡◌, ℕ, ◌<◌, ◌≤◌, Bool, true, false, if◌then◌else◌, List, [], ◌∷◌, ◌++◌, ◌+◌, length, get_or, take, Ok, Err, refl, sym, ap, ◌∙◌, subst, arith, inl, inr}
use Rattle.std.specs.Prelude.{IfOk, Result}
use Rattle.std.proofs.lemmas.Bool.{and_from, cases_lt, true≢false}
use Rattle.std.proofs.lemmas.List.{get_or_past, take_all, take_more}
use Rattle.std.proofs.lemmas.List.Elements.{All-get_or}
use Rattle.arrow_schema.specs.declared.spec.FieldSpec.{FieldSpec}
use Rattle.arrow_ipc.specs.Batches.{BatchIn}
use Rattle.arrow_arrays.specs.Arrays.{arrays_of}
use Rattle.arrow_arrays.specs.Nodes.{HasNodesOf}
use Rattle.otap_cells.specs.declared.payload.Kind.{Kind}
use Rattle.otap_cells.specs.declared.profile.Base.{Base}
use Rattle.otap_cells.specs.declared.profile.Coding.{Coding}
use Rattle.otap_cells.specs.Bases.{is_id}
use Rattle.otap_cells.specs.Cells.{Cell, null, nat_in, IsCellOf}
use Rattle.otap_cells.specs.Columns.{allows, base_at, coding_at, column_at, is_id_at, width_of}
use Rattle.otap_cells.specs.Tables.{Table, IsTable, cell_in, coding_in, greatest_wide, profile_table, table_by}
use Rattle.otap_cells.specs.Weights.{row_weight_limit, weight_of_table}
use Rattle.otap_cells.proofs.ByPlace.{coding-table_by, greatest-table_by}
use Rattle.otap_cells.proofs.Columnwise.{allows_own, id_at_most}
use Rattle.otap_columns.specs.declared.forms.ColumnForm.{ColumnForm}
use Rattle.otap_columns.specs.declared.forms.ColumnForm.TheVariants as form
use Rattle.otap_columns.specs.Schemas.{FormsFit, fits_form, is_dictionary, schema_for}
use Rattle.otap_columns.specs.Seen.{SeenIn}
use Rattle.otap_columns.specs.BuiltCells.{FitsForm}
use Rattle.otap_columns.specs.BuiltRows.{CanWrite, columns_in}
use Rattle.otap_columns.specs.Plain.{HoldsPlain, plain_forms, plain_schema}
use Rattle.otap_columns.specs.PlainInside.{ArePlain}
use Rattle.otap_columns.specs.WrittenBatches.{WritesRows}
use Rattle.otap_columns.specs.WrittenCells.{FitsIndexes}
use Rattle.otap_columns.specs.FormsIn.{forms_in}
use Rattle.otap_columns.specs.WrittenPayloads.{HoldsRows}
use Rattle.otap_columns.specs.WrittenRows.{HasValues}
use Rattle.otap_columns.specs.Writers.{AreSeen}
use Rattle.otap_columns.proofs.SchemaForms.{same_schema}
use Rattle.otap_columns.proofs.StepWritten.{rows_by}
use Rattle.otap_columns.proofs.ValuesSeen.{fits_by, wide_low}

-- the rows of a table are a table too where ids are stored as the profile says
pub profile_sound : (t : Table) → IsTable t → IsTable (profile_table t.kind t.rows)
unfolding table_by
profile_sound t sound = record {
  wide = sound.wide;
  fits = sound.fits;
  coded = λ column is.
      ap (allows (column_at t.kind column)) (coding-table_by t.kind (coding_at t.kind) (λ column. greatest_wide) 0 (λ column row. null) column is) ∙ allows_own (column_at t.kind column) is;
  bounded = λ column row is.
      subst (λ (n : ℕ). nat_in (cell_in t.rows column row) ≤ n) (sym (greatest-table_by t.kind (coding_at t.kind) (λ column. greatest_wide) 0 (λ column row. null) column is))
      (id_at_most (base_at t.kind column) (cell_in t.rows column row) is (sound.fits column row));
}

-- ---- the forms

abbrev pub plain_if : Table → ℕ → Bool → ColumnForm
plain_if t column id = if id then form.Coded (coding_in t column) else form.Plain

fits_if : (t : Table) (column : ℕ) (id : Bool) → IsTable t → is_id_at t.kind column ≡ id → fits_form (column_at t.kind column) (plain_if t column id) ≡ true
fits_if t column true sound is = and_from (is_id_at t.kind column) (allows (column_at t.kind column) (coding_in t column)) is (sound.coded column is)
fits_if t column false sound is = refl

pub plain_fit : (t : Table) → IsTable t → FormsFit t.kind (plain_forms t)
plain_fit t sound column below = fits_if t column (is_id_at t.kind column) sound refl

quiet_if : (t : Table) (column : ℕ) (id : Bool) → is_dictionary (plain_if t column id) ≡ false
quiet_if t column true = refl
quiet_if t column false = refl

pub plain_quiet : (t : Table) (column : ℕ) → is_dictionary (plain_forms t column) ≡ false
plain_quiet t column = quiet_if t column (is_id_at t.kind column)

cell_if : (holds : Base) (how : Coding) (cell : Cell) (id : Bool) → is_id holds ≡ id → IsCellOf holds cell → FitsForm holds (if id then form.Coded how else form.Plain) cell
cell_if holds how cell true id is = fits_by holds (form.Coded how) cell is (λ n own same. wide_low holds n own (subst (IsCellOf holds) same is))
cell_if holds how cell false id is = fits_by holds form.Plain cell is (λ n own same. absurd (true≢false (sym own ∙ id)))

pub plain_cells : (t : Table) (column row : ℕ) → IsTable t → FitsForm (base_at t.kind column) (plain_forms t column) (cell_in t.rows column row)
plain_cells t column row sound = cell_if (base_at t.kind column) (coding_in t column) (cell_in t.rows column row) (is_id_at t.kind column) refl (sound.fits column row)

-- ---- as they are listed

no_index : (f : ColumnForm) (count : ℕ) → is_dictionary f ≡ false → FitsIndexes f count
no_index form.Absent count not = tt
no_index form.Plain count not = tt
no_index form.Wide count not = tt
no_index (form.Coded how) count not = tt
no_index form.Dict8 count not = absurd (true≢false not)
no_index form.Dict16 count not = absurd (true≢false not)

module _ (t : Table) (forms : List ColumnForm) (sound : IsTable t) (are : ArePlain t forms) where
  listed_quiet : (column : ℕ) → is_dictionary (forms_in forms column) ≡ false
  listed_quiet column = elim (cases_lt column (width_of t.kind)) [
    | inl low ↦ ap is_dictionary (are.each column low) ∙ plain_quiet t column
    | inr past ↦ ap is_dictionary (get_or_past forms column form.Absent (omega (arith, are.count, past)))
  ]

  pub listed_fit : FormsFit t.kind (forms_in forms)
  listed_fit column low = ap (fits_form (column_at t.kind column)) (are.each column low) ∙ plain_fit t sound column low

  pub listed_can : (columns : List SeenIn) → AreSeen t.kind [] columns → weight_of_table t ≤ row_weight_limit → CanWrite (forms_in forms) columns (profile_table t.kind t.rows)
  listed_can columns seen light = record {
    table = profile_sound t sound;
    count = seen.count;
    fits = λ column low here row within. subst (λ (f : ColumnForm). FitsForm (base_at t.kind column) f (cell_in t.rows column row)) (sym (are.each column low)) (plain_cells t column row sound);
    few = λ column. no_index (forms_in forms column) (length (columns_in columns column)) (listed_quiet column);
    single = λ column is. absurd (true≢false (sym is ∙ listed_quiet column));
    placed = λ column low is. absurd (true≢false (sym is ∙ listed_quiet column));
    light = light;
  }

  pub listed_values : (columns : List SeenIn) → HasValues t.kind (forms_in forms) (columns_in columns) (profile_table t.kind t.rows)
  listed_values columns = record {
    known = λ column row is low. absurd (true≢false (sym is ∙ listed_quiet column));
    few = λ column. no_index (forms_in forms column) (length (columns_in columns column)) (listed_quiet column);
  }

  -- ---- what they make

  pub listed_schema : schema_for t.kind (forms_in forms) ≡ plain_schema t
  listed_schema = same_schema t.kind (forms_in forms) (plain_forms t) listed_fit are.each

  -- a record batch of the rows holds those of the table
  of_rows : (batch : BatchIn) → HoldsRows t.kind (plain_forms t) (λ column. []) (profile_table t.kind t.rows) batch → HoldsPlain t batch
  of_rows batch h = record { count = h.count; fine = h.fine; whole = h.whole; bitmaps = h.bitmaps; cells = h.cells }

  pub listed_holds : (columns : List SeenIn) (batch : BatchIn) → WritesRows t.kind (forms_in forms) (columns_in columns) (profile_table t.kind t.rows) batch → HoldsPlain t batch
  listed_holds columns batch writes =
      of_rows batch
      (rows_by t.kind (forms_in forms) (plain_forms t) (columns_in columns) (λ column. []) (profile_table t.kind t.rows) batch listed_schema are.each
      (λ column low is. absurd (true≢false (sym is ∙ plain_quiet t column))) writes.holds)

  pub listed_nodes : (columns : List SeenIn) (batch : BatchIn) → WritesRows t.kind (forms_in forms) (columns_in columns) (profile_table t.kind t.rows) batch → HasNodesOf (arrays_of (plain_schema t)) batch
  listed_nodes columns batch writes = subst (λ (fields : List FieldSpec). HasNodesOf (arrays_of fields) batch) listed_schema writes.parts

-- ---- what the calls give

pub if_ok : {A : Type 0} {E : Type 0} (P Q : A → Type 0) (r : Result A E) → ((x : A) → P x → Q x) → IfOk r P → IfOk r Q
if_ok P Q (Ok x) more is = more x is
if_ok P Q (Err e) more is = tt

module _ (t : Table) (kind : Kind) (forms fs : List ColumnForm) (sound : IsTable t) (same : t.kind ≡ kind) (are : ArePlain t forms) (listed : fs ≡ forms) where
  schema_is : schema_for kind (forms_in fs) ≡ plain_schema t
  schema_is = (λ i. schema_for (sym same i) (forms_in (listed i))) ∙ listed_schema t forms sound are

  pub spec_has : {E : Type 0} (P : List FieldSpec → Type 0) (r : Result (List FieldSpec) E) → P (plain_schema t) → IfOk r (λ schema. schema ≡ schema_for kind (forms_in fs)) → IfOk r P
  spec_has P r has is = if_ok (λ schema. schema ≡ schema_for kind (forms_in fs)) P r (λ schema here. subst P (sym (here ∙ schema_is)) has) is

  module _ (copy : Table) (columns cs : List SeenIn) (copied : copy ≡ profile_table t.kind t.rows) (seen : AreSeen kind [] columns) (kept : cs ≡ columns) where
    are_listed : ArePlain t fs
    are_listed = subst (ArePlain t) (sym listed) are

    pub batch_can : weight_of_table t ≤ row_weight_limit → CanWrite (forms_in fs) cs copy
    batch_can light =
        subst (λ (u : Table). CanWrite (forms_in fs) cs u) (sym copied)
        (subst (λ (own : List SeenIn). CanWrite (forms_in fs) own (profile_table t.kind t.rows)) (sym kept)
        (listed_can t fs sound are_listed columns (subst (λ (k : Kind). AreSeen k [] columns) (sym same) seen) light))

    pub batch_fit : FormsFit copy.kind (forms_in fs)
    batch_fit = subst (λ (u : Table). FormsFit u.kind (forms_in fs)) (sym copied) (listed_fit t fs sound are_listed)

    pub batch_values : HasValues copy.kind (forms_in fs) (columns_in cs) copy
    batch_values = subst (λ (u : Table). HasValues u.kind (forms_in fs) (columns_in cs) u) (sym copied) (listed_values t fs sound are_listed cs)

    by_rows : (batch : BatchIn) → WritesRows copy.kind (forms_in fs) (columns_in cs) copy batch → WritesRows t.kind (forms_in fs) (columns_in cs) (profile_table t.kind t.rows) batch
    by_rows batch writes = subst (λ (u : Table). WritesRows u.kind (forms_in fs) (columns_in cs) u batch) copied writes

    pub batch_holds : {E : Type 0} (r : Result BatchIn E) → IfOk r (WritesRows copy.kind (forms_in fs) (columns_in cs) copy) → IfOk r (HoldsPlain t)
    batch_holds r is = if_ok (WritesRows copy.kind (forms_in fs) (columns_in cs) copy) (HoldsPlain t) r (λ batch writes. listed_holds t fs sound are_listed cs batch (by_rows batch writes)) is

    pub batch_nodes : {E : Type 0} (r : Result BatchIn E) → IfOk r (WritesRows copy.kind (forms_in fs) (columns_in cs) copy) → IfOk r (HasNodesOf (arrays_of (plain_schema t)))
    batch_nodes r is =
        if_ok (WritesRows copy.kind (forms_in fs) (columns_in cs) copy) (HasNodesOf (arrays_of (plain_schema t))) r
        (λ batch writes. listed_nodes t fs sound are_listed cs batch (by_rows batch writes)) is

-- ---- rows that are copied

pub copied_more : (t old new : Table) (row : ℕ) → row < length t.rows → old ≡ profile_table t.kind (take row t.rows) → new ≡ record old { rows = old.rows ++ get_or t.rows row [] ∷ [] }
    → new ≡ profile_table t.kind (take (row + 1) t.rows)
copied_more t old new row low so_far is =
    is ∙ ap {B = Table} (λ u. record u { rows = u.rows ++ get_or t.rows row [] ∷ [] }) so_far ∙ ap (profile_table t.kind) (sym (take_more t.rows row [] low))

pub copied_all : (t u : Table) (row : ℕ) → length t.rows ≤ row → u ≡ profile_table t.kind (take row t.rows) → u ≡ profile_table t.kind t.rows
copied_all t u row all so_far = so_far ∙ ap (profile_table t.kind) (take_all row t.rows all)

pub row_width : (t : Table) (row : ℕ) → IsTable t → row < length t.rows → length (get_or t.rows row []) ≡ width_of t.kind
row_width t row sound low = All-get_or (λ cells. length cells ≡ width_of t.kind) t.rows row [] low sound.wide
