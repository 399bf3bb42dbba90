-- Rows that fit the columns of a kind make a table of the profile; and the rows of a request's items fit.
use Rattle.std.proofs.Common.{◌≡◌, ℕ, ◌^◌, ◌≤◌, ◌<◌, true, List, [], ◌∷◌, ◌++◌, get_or, Option, length, map, ◌∙◌, ap, arith, inl, inr}
use Rattle.std.specs.Prelude.{All, IsTrue, ◌==◌}
use Rattle.std.specs.List.{AllByRecursion}
use Rattle.std.proofs.lemmas.Bool.{cases_Bool, cases_lt, and_parts}
use Rattle.std.proofs.lemmas.List.{get_or_past}
use Rattle.std.proofs.lemmas.List.Elements.{All-nil, All-cons, All-head, All-tail, All-get_or, All-weaker}
use Rattle.std.proofs.lemmas.Str.{IsUtf8-from_is_utf8}
use Rattle.lists.proofs.Every.{every_append}
use Rattle.lists.specs.Bytes.{is_real_text}
use Rattle.otlp_model.specs.Real.{IsRealResource, IsRealScope}
use Rattle.otlp_model.specs.declared.groups.Resource.{Resource}
use Rattle.otlp_model.specs.declared.groups.Scope.{Scope}
use Rattle.otlp_model.specs.declared.groups.ScopeGroup.{ScopeGroup}
use Rattle.otlp_model.specs.declared.groups.ResourceGroup.{ResourceGroup}
use Rattle.otap_cells.specs.declared.payload.Kind.{Kind}
use Rattle.otap_cells.specs.declared.profile.Base.TheVariants as base
use Rattle.otap_cells.specs.Cells.{Cell, IsCellOf}
use Rattle.otap_cells.specs.Columns.{ColumnSpec, allows, base_at, column_at, columns_of, common, is_id_at, plain, width_of}
use Rattle.otap_cells.specs.GivenIds.{HasIds}
use Rattle.otap_cells.specs.Scalars.{number_cell, text_cell}
use Rattle.otap_cells.specs.Tables.{IsRow, IsTable, cell_in, profile_table}
use Rattle.otap_cells.proofs.ByPlace.{id_within}
use Rattle.otap_cells.proofs.Rowwise.{IsRow-at, length-IsRow}
use Rattle.otap_cells.proofs.Columnwise.{allows_own, id_at_most}
use Rattle.otap_groups.specs.Flat.{FlatIn, flat_items, flat_at, flat_groups, flat_scopes, past, scopes_past}
use Rattle.otap_groups.specs.ProfileTables.{IsProfileTable}
use Rattle.otap_groups.specs.Stored.{stored_row, stored_rows}
use Rattle.otap_groups.specs.Weighing.{CanWriteGroup, CanWriteScope}
use Rattle.otap_groups.proofs.Bounds.{Bounded}
use Rattle.otap_groups.proofs.StoredRows.{coding_is, greatest_is}

-- ---- tables

module _ (kind : Kind) (rows : List (List Cell)) (fit : All (IsRow (columns_of kind)) rows) where
  cell_fits : (column row : ℕ) → IsCellOf (base_at kind column) (cell_in rows column row)
  cell_fits column row = elim (cases_lt row (length rows)) [
    | inl within ↦ IsRow-at (columns_of kind) (get_or rows row []) column (plain [] base.Binary) (All-get_or (IsRow (columns_of kind)) rows row [] within fit)
    | inr beyond ↦ rw (get_or_past rows row [] beyond) tt
  ]

  is_table : IsTable (profile_table kind rows)
  is_table = record {
    wide = All-weaker (IsRow (columns_of kind)) (λ row. length row ≡ width_of kind) (λ row fits. length-IsRow (columns_of kind) row fits) rows fit;
    fits = cell_fits;
    coded = λ column is. ap (allows (column_at kind column)) (coding_is kind rows column (id_within kind column is)) ∙ allows_own (column_at kind column) is;
    bounded = λ column row is. rw (greatest_is kind rows column (id_within kind column is)) (id_at_most (base_at kind column) (cell_in rows column row) is (cell_fits column row));
  }

  -- a table of the profile, where each id column has ids
  pub is_profile_table : ((column : ℕ) → is_id_at kind column ≡ true → (ids : List (Option ℕ)) × HasIds (profile_table kind rows) column ids) → IsProfileTable (profile_table kind rows)
  is_profile_table given = record {
    table = is_table;
    columns = λ column is. record {
      ids = (given column is).0;
      are = (given column is).1;
      coded = coding_is kind rows column (id_within kind column is);
      wide = greatest_is kind rows column (id_within kind column is);
    };
  }

-- ---- cells

pub text_fits : (text : List ℕ) → IsTrue (is_real_text text) → IsCellOf base.Utf8 (text_cell text)
unfolding is_real_text
text_fits [] real = tt
text_fits (byte ∷ more) real = IsUtf8-from_is_utf8 (byte ∷ more) (and_parts _ _ real).0

pub number_fits : (n : ℕ) → n < 2 ^ 32 → IsCellOf base.U32 (number_cell n)
number_fits n low = elim (cases_Bool (n == 0)) [
  | inl none ↦ rw none tt
  | inr some ↦ rw some low
]

-- ---- the rows of items

-- what holds of each resource, each scope and each item holds of the flat list
module _ {I : Type 0} (OfResource : Resource → Type 0) (OfScope : Scope → Type 0) (OfItem : I → Type 0) where
  abbrev pub OfFlat : FlatIn I → Type 0
  OfFlat f = OfResource f.resource × OfScope f.scope × OfItem f.item

  of_items : (r s : ℕ) (resource : Resource) (scope : Scope) (items : List I) → OfResource resource → OfScope scope → All OfItem items
      → AllByRecursion OfFlat (map (flat_at r s resource scope) items)
  of_items r s resource scope [] a b all = tt
  of_items r s resource scope (item ∷ items) a b all = ((a, b, All-head OfItem item items all), of_items r s resource scope items a b (All-tail OfItem item items all))

  of_scopes : (r s : ℕ) (resource : Resource) (groups : List (ScopeGroup I)) → OfResource resource → All (CanWriteScope OfScope OfItem) groups
      → AllByRecursion OfFlat (flat_scopes r s resource groups)
  of_scopes r s resource [] a all = tt
  of_scopes r s resource (group ∷ groups) a all =
      let head : CanWriteScope OfScope OfItem group = All-head (CanWriteScope OfScope OfItem) group groups all in
      every_append OfFlat (map (flat_at r s resource group.scope) group.items) (flat_scopes r (past s group.items) resource groups)
      (of_items r s resource group.scope group.items a head.0 head.1)
      (of_scopes r (past s group.items) resource groups a (All-tail (CanWriteScope OfScope OfItem) group groups all))

  of_groups : (r s : ℕ) (groups : List (ResourceGroup I)) → All (CanWriteGroup OfResource OfScope OfItem) groups → AllByRecursion OfFlat (flat_groups r s groups)
  of_groups r s [] all = tt
  of_groups r s (group ∷ groups) all =
      let head : CanWriteGroup OfResource OfScope OfItem group = All-head (CanWriteGroup OfResource OfScope OfItem) group groups all in
      every_append OfFlat (flat_scopes r s group.resource group.scopes) (flat_groups (past r (flat_scopes r s group.resource group.scopes)) (scopes_past s group.scopes) groups)
      (of_scopes r s group.resource group.scopes head.0 head.1)
      (of_groups (past r (flat_scopes r s group.resource group.scopes)) (scopes_past s group.scopes) groups
      (All-tail (CanWriteGroup OfResource OfScope OfItem) group groups all))

  pub of_flat : (groups : List (ResourceGroup I)) → All (CanWriteGroup OfResource OfScope OfItem) groups → AllByRecursion OfFlat (flat_items groups)
  unfolding flat_items
  of_flat groups all = of_groups 0 0 groups all

pub rows_join : (first second : List ColumnSpec) (xs ys : List Cell) → IsRow first xs → IsRow second ys → IsRow (first ++ second) (xs ++ ys)
rows_join [] second [] ys a b = b
rows_join [] second (x ∷ xs) ys a b = absurd a
rows_join (c ∷ first) second [] ys a b = absurd a
rows_join (c ∷ first) second (x ∷ xs) ys a b = (a.0, rows_join first second xs ys a.1 b)

-- the rows of items whose own cells fit the columns after the front
module _ {I : Type 0} (cells_of : I → List Cell) (own : List ColumnSpec) where
  abbrev pub OwnFit : I → Type 0
  OwnFit item = IsRow own (cells_of item)

  row_fits : (step r s : ℕ) (f : FlatIn I) → step < 2 ^ 32 → f.resource_id ≤ 4294967295 → f.scope_id ≤ 4294967295 → IsRealResource f.resource → IsRealScope f.scope → OwnFit f.item
      → IsRow (common ++ own) (stored_row cells_of step r s f)
  row_fits step r s f low a b resource scope item = (
    low,
    (
      omega arith,
      (
        text_fits f.resource.schema_url resource.schema_url,
        (
          number_fits f.resource.dropped resource.dropped,
          (
            omega arith,
            (
              text_fits f.scope.name scope.name,
              (text_fits f.scope.version scope.version, (number_fits f.scope.dropped scope.dropped, (text_fits f.scope.schema_url scope.schema_url, item))),
            ),
          ),
        ),
      ),
    ),
  )

  pub rows_fit : (step r s : ℕ) (fs : List (FlatIn I)) → step < 2 ^ 32 → Bounded 4294967295 fs → AllByRecursion (OfFlat IsRealResource IsRealScope OwnFit) fs
      → All (IsRow (common ++ own)) (stored_rows cells_of step r s fs)
  rows_fit step r s [] low few all = All-nil (IsRow (common ++ own))
  rows_fit step r s (f ∷ fs) low few all =
      All-cons (IsRow (common ++ own)) (stored_row cells_of step r s f) (stored_rows cells_of 1 f.resource_id f.scope_id fs)
      (row_fits step r s f low few.0 few.1 all.0.0 all.0.1 all.0.2) (rows_fit 1 f.resource_id f.scope_id fs (omega arith) few.2 all.1)
