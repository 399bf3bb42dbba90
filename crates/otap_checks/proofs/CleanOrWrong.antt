-- Nothing is wrong with the ids and values of tables, or something is.
use Rattle.std.proofs.Common.{◌≡◌, ◌∙◌, ℕ, zero, suc, ◌+◌, ◌<◌, ◌≤◌, true, false, codes, List, [], drop, get_or, length, Option, Some, None, All, refl, sym, subst, arith, inl, inr}
use Rattle.std.specs.Prelude.{Contains, ◌⊎◌}
use Rattle.std.specs.Str.{bytes_eq}
use Rattle.std.proofs.lemmas.Bool.{cases_Bool, cases_eq, cases_lt, false≢true}
use Rattle.std.proofs.lemmas.List.{get_or-drop}
use Rattle.std.proofs.lemmas.Slice.Eq.{bytes_eq-Decides}
use Rattle.lists.proofs.Every.{some_or_none}
use Rattle.lists.proofs.Contained.{null_or_not}
use Rattle.otlp_model.specs.declared.request.Signal.{Signal}
use Rattle.otlp_model.specs.declared.value.Value.{Value}
use Rattle.cbor_values.specs.declared.weighing.Nesting.{Nesting}
use Rattle.cbor_values.specs.declared.weighing.Nesting.TheVariants as nesting
use Rattle.cbor_values.specs.Values.{value_of}
use Rattle.cbor_values.specs.Weighing.{nesting_of, weighed}
use Rattle.cbor_values.proofs.Told.{refusal_told}
use Rattle.otap_cells.specs.declared.ids.IdFault.TheVariants as fault
use Rattle.otap_cells.specs.Cells.{Cell, bytes_in}
use Rattle.otap_cells.specs.Cells as cell
use Rattle.otap_cells.specs.Columns.{is_id_at, name_at, width_of}
use Rattle.otap_cells.specs.ColumnIds.{HasNullParent, stored_in}
use Rattle.otap_cells.specs.Continuing.{continues_in}
use Rattle.otap_cells.specs.GivenIds.{ColumnDefect, HasIds}
use Rattle.otap_cells.specs.Ids.{Twice, fits_after, undone_after}
use Rattle.otap_cells.specs.Named.{table_named}
use Rattle.otap_cells.specs.Tables.{Table, coding_in, greatest_in}
use Rattle.otap_cells.proofs.ByPlace.{id_within}
use Rattle.otap_cells.proofs.IdLaws.{stands_fits, undone_stands}
use Rattle.otap_groups.specs.Rows.{MainRow, main_rows}
use Rattle.otap_groups.specs.Disagree.{DifferBy}
use Rattle.otap_attrs.specs.declared.refusal.RowRefusal.{RowRefusal}
use Rattle.otap_attrs.specs.declared.refusal.RowRefusal.TheVariants as why
use Rattle.otap_attrs.specs.Values.{BadValue, value_type_in, nested_in}
use Rattle.otap_attrs.specs.Inside.{BadNested}
use Rattle.otap_attrs.proofs.ValueFaults.{nested_is_fine, map_is_fine, array_is_fine}
use Rattle.otap_attrs.proofs.ValueLaws.{flat_is_fine}
use Rattle.otap_checks.specs.declared.signals.TableLink.{TableLink}
use Rattle.otap_checks.specs.declared.signals.Parents.{Parents}
use Rattle.otap_checks.specs.Deciding.{CleanOrWrong, HasByteCells}
use Rattle.otap_attrs.specs.Defects.{OrphanIn, WrongValue}
use Rattle.otap_checks.specs.IdDefects.{Duplicate, Orphan, Some_column, DuplicateOf, OrphanOf, WrongIn, IdDefect}
use Rattle.otap_checks.specs.Given.{AreGiven, IsGiven}
use Rattle.otap_checks.specs.Links.{links_of}
use Rattle.otap_checks.specs.Reading.{ResourcesDiffer, ScopesDiffer, Disagrees}
use Rattle.otap_checks.proofs.Decided.{twice_or_not, orphan_or_not, differ_or_not}
use Rattle.otap_checks.proofs.GivenColumns.{nothing_wrong, one_given}

-- ---- the ids of columns

-- the numbers of a column give no ids
abbrev pub IsUnknown : Table → ℕ → Type 0
IsUnknown t column = (ids : List (Option ℕ)) → HasIds t column ids → ⊥

-- a column has ids, or none
pub ids_or_none : (t : Table) (column : ℕ) → ((ids : List (Option ℕ)) × HasIds t column ids) ⊎ IsUnknown t column
ids_or_none t column = elim (cases_Bool (fits_after (coding_in t column) (greatest_in t column) 0 (continues_in t) (stored_in t column))) [
  | inl fits ↦ inl (
    undone_after (coding_in t column) (greatest_in t column) 0 (continues_in t) (stored_in t column),
    undone_stands (coding_in t column) (greatest_in t column) 0 (continues_in t) (stored_in t column) fits,
  )
  | inr miss ↦ inr (λ ids are. false≢true (sym miss ∙ stands_fits (coding_in t column) (greatest_in t column) 0 (continues_in t) (stored_in t column) ids are))
]

null_parent_or_not : (t : Table) (column : ℕ) → HasNullParent t column ⊎ (HasNullParent t column → ⊥)
null_parent_or_not t column = by_name (cases_Bool (bytes_eq (name_at t.kind column) (codes "parent_id"))) (null_or_not (stored_in t column))
  where
    by_name : (bytes_eq (name_at t.kind column) (codes "parent_id") ≡ true) ⊎ (bytes_eq (name_at t.kind column) (codes "parent_id") ≡ false)
        → Contains (stored_in t column) None ⊎ (Contains (stored_in t column) None → ⊥) → HasNullParent t column ⊎ (HasNullParent t column → ⊥)
    by_name (inr other) nulls = inr (λ null. false≢true (sym other ∙ ((bytes_eq-Decides (name_at t.kind column) (codes "parent_id")).1 null.named)))
    by_name (inl same) (inl null) = inl (record { named = (bytes_eq-Decides (name_at t.kind column) (codes "parent_id")).0 same; null = null })
    by_name (inl same) (inr none) = inr (λ null. none null.null)

-- what is wrong with a column of a table
abbrev Faulty : Table → Type 0
Faulty t = Some_column (ColumnDefect fault.PastType) t ⊎ Some_column (ColumnDefect fault.NullParent) t

column_given : (t : Table) (column : ℕ) → is_id_at t.kind column ≡ true → IsGiven t column ⊎ Faulty t
column_given t column id = elim (null_parent_or_not t column) [
  | inl null ↦ inr (inr (column, id, null))
  | inr none ↦ elim (ids_or_none t column) [
    | inl given ↦ inl (record { ids = given.0; are = given.1; parents = none })
    | inr unknown ↦ inr (inl (column, id, (none, unknown)))
  ]
]

columns_given : (t : Table) (n : ℕ) → ((k : ℕ) → k < n → is_id_at t.kind k ≡ true → IsGiven t k) ⊎ Faulty t
columns_given t zero = inl (λ k less id. absurd (omega arith))
columns_given t (suc n) = by_rest (columns_given t n) (cases_Bool (is_id_at t.kind n))
  where
    more : ((k : ℕ) → k < n → is_id_at t.kind k ≡ true → IsGiven t k) → (is_id_at t.kind n ≡ true → IsGiven t n) → (k : ℕ) → k < suc n → is_id_at t.kind k ≡ true → IsGiven t k
    more below here k less id = elim (cases_eq n k) [
      | inl equal ↦ subst (λ m. is_id_at t.kind m ≡ true → IsGiven t m) equal here id
      | inr differ ↦ below k (omega (arith, less, differ)) id
    ]

    by_rest : ((k : ℕ) → k < n → is_id_at t.kind k ≡ true → IsGiven t k) ⊎ Faulty t → (is_id_at t.kind n ≡ true) ⊎ (is_id_at t.kind n ≡ false)
        → ((k : ℕ) → k < suc n → is_id_at t.kind k ≡ true → IsGiven t k) ⊎ Faulty t
    by_rest (inr bad) test = inr bad
    by_rest (inl below) (inr other) = inl (more below (λ id. absurd (false≢true (sym other ∙ id))))
    by_rest (inl below) (inl id) = elim (column_given t n id) [
      | inl given ↦ inl (more below (λ again. given))
      | inr bad ↦ inr bad
    ]

all_given : (t : Table) → AreGiven t ⊎ Faulty t
all_given t = elim (columns_given t (width_of t.kind)) [
  | inl given ↦ inl (λ column id. given column (id_within t.kind column id) id)
  | inr bad ↦ inr bad
]

own_or_not : (t : Table) (own : Option ℕ) → DuplicateOf t own ⊎ (DuplicateOf t own → ⊥)
own_or_not t None = inr (λ none. none)
own_or_not t (Some column) = elim (ids_or_none t column) [
  | inr unknown ↦ inr (λ (d : Duplicate t column). unknown d.ids d.are)
  | inl given ↦ elim (twice_or_not given.0) [
    | inl twice ↦ inl (record { ids = given.0; are = given.1; twice = twice })
    | inr once ↦ inr (λ (d : Duplicate t column). once (subst Twice (one_given t column d.ids given.0 d.are given.1) d.twice))
  ]
]

abbrev Lost : List Table → Table → Parents → Type 0
Lost tables t p = Orphan t p.column (table_named p.of tables) p.at

parents_or_not : (tables : List Table) (t : Table) (parents : Option Parents) → OrphanOf tables t parents ⊎ (OrphanOf tables t parents → ⊥)
parents_or_not tables t None = inr (λ none. none)
parents_or_not tables t (Some p) = by_ids (ids_or_none t p.column) (ids_or_none (table_named p.of tables) p.at)
  where
    by_ids : ((ids : List (Option ℕ)) × HasIds t p.column ids) ⊎ IsUnknown t p.column
        → ((ids : List (Option ℕ)) × HasIds (table_named p.of tables) p.at ids) ⊎ IsUnknown (table_named p.of tables) p.at → Lost tables t p ⊎ (Lost tables t p → ⊥)
    by_ids (inr unknown) known = inr (λ (o : Lost tables t p). unknown o.lost.parents o.lost.are)
    by_ids (inl named) (inr unknown) = inr (λ (o : Lost tables t p). unknown o.ids o.known)
    by_ids (inl named) (inl known) = elim (orphan_or_not named.0 known.0) [
      | inl orphan ↦ inl (record { ids = known.0; known = known.1; lost = record { parents = named.0; are = named.1; orphan = orphan } })
      | inr none ↦ inr (λ (o : Lost tables t p). none (subst (λ ids. OrphanIn ids known.0) (one_given t p.column o.lost.parents named.0 o.lost.are named.1)
          (subst (OrphanIn o.lost.parents) (one_given (table_named p.of tables) p.at o.ids known.0 o.known known.1) o.lost.orphan)))
    ]

-- ---- tables

abbrev pub SomeWrong : List Table → Table → TableLink → Type 0
SomeWrong tables t link = (wrong : RowRefusal) × WrongIn tables t link wrong

pub table_or_wrong : (tables : List Table) (t : Table) (link : TableLink) → SomeWrong tables t link ⊎ (SomeWrong tables t link → ⊥)
table_or_wrong tables t link = by_parts (all_given t) (own_or_not t link.own) (parents_or_not tables t link.parents)
  where
    by_parts : AreGiven t ⊎ Faulty t → DuplicateOf t link.own ⊎ (DuplicateOf t link.own → ⊥) → OrphanOf tables t link.parents ⊎ (OrphanOf tables t link.parents → ⊥)
        → SomeWrong tables t link ⊎ (SomeWrong tables t link → ⊥)
    by_parts (inr (inl past)) own parents = inl (why.Ids fault.PastType, past)
    by_parts (inr (inr null)) own parents = inl (why.Ids fault.NullParent, null)
    by_parts (inl given) (inl twice) parents = inl (why.Ids fault.Duplicate, twice)
    by_parts (inl given) (inr once) (inl orphan) = inl (why.Orphan, orphan)
    by_parts (inl given) (inr once) (inr none) = inr (λ some. nothing_wrong tables t link given once none some.0 some.1)

-- nothing is wrong with the ids of the tables of a signal, or something is
pub ids_clean_or_wrong : (of : Signal) (tables : List Table) → CleanOrWrong (IdDefect of tables)
ids_clean_or_wrong of tables =
    elim (some_or_none (λ link. SomeWrong tables (table_named link.kind tables) link) (λ link. table_or_wrong tables (table_named link.kind tables) link) (links_of of)) [
      | inl (link, listed, (wrong, is)) ↦ inr (link.kind, wrong, record { link = link; listed = listed; names = refl; is = is })
      | inr none ↦ inl (λ kind wrong (d : IdDefect of tables kind wrong). none d.link d.listed (
        wrong,
        subst (λ kind. WrongIn tables (table_named kind tables) d.link wrong) (sym d.names) d.is,
      ))
    ]

-- ---- values

same_nesting : (a b : Nesting) → (a ≡ b) ⊎ (a ≡ b → ⊥)
same_nesting nesting.Plain nesting.Plain = inl refl
same_nesting nesting.Plain nesting.Map = inr (λ e. cc)
same_nesting nesting.Plain nesting.Array = inr (λ e. cc)
same_nesting nesting.Map nesting.Plain = inr (λ e. cc)
same_nesting nesting.Map nesting.Map = inl refl
same_nesting nesting.Map nesting.Array = inr (λ e. cc)
same_nesting nesting.Array nesting.Plain = inr (λ e. cc)
same_nesting nesting.Array nesting.Map = inr (λ e. cc)
same_nesting nesting.Array nesting.Array = inl refl

abbrev NestedDecided : Nesting → List ℕ → Type 0
NestedDecided wanted part = ((wrong : RowRefusal) → BadNested wanted part wrong → ⊥) ⊎ ((wrong : RowRefusal) × BadNested wanted part wrong)

nested_or_wrong : (wanted : Nesting) (part : List ℕ) → All (λ byte. byte < 256) part → NestedDecided wanted part
nested_or_wrong wanted part bytes = by_value (value_of part) refl
  where
    by_value : (found : Option Value) → value_of part ≡ found → NestedDecided wanted part
    by_value None is = let refused = (refusal_told part bytes).0 is in inr (why.BadCbor refused.0, refused.1)
    by_value (Some value) is = elim (same_nesting (nesting_of value) wanted) [
      | inl same ↦ inl (nested_is_fine wanted part (weighed value) (record { value = value; is = is; of = refl })
          (λ refusal stands. let clash = sym is ∙ (refusal_told part bytes).1 (refusal, stands) in absurd cc) same)
      | inr other ↦ inr (why.BadValueType, record { value = value; is = is; other = other })
    ]

map_is_bad : (cells : List Cell) → value_type_in cells ≡ 5 → (wrong : RowRefusal) → BadNested nesting.Map (nested_in cells) wrong → BadValue cells wrong
map_is_bad cells is why.BadValueType bad = inr (inl (is, bad))
map_is_bad cells is (why.BadCbor refusal) bad = (inl is, bad)
map_is_bad cells is (why.Ids fault) bad = absurd bad
map_is_bad cells is why.Orphan bad = absurd bad
map_is_bad cells is why.Disagree bad = absurd bad
map_is_bad cells is why.TwoValues bad = absurd bad
map_is_bad cells is why.BadKind bad = absurd bad
map_is_bad cells is (why.Memory error) bad = absurd bad

array_is_bad : (cells : List Cell) → value_type_in cells ≡ 6 → (wrong : RowRefusal) → BadNested nesting.Array (nested_in cells) wrong → BadValue cells wrong
array_is_bad cells is why.BadValueType bad = inr (inr (is, bad))
array_is_bad cells is (why.BadCbor refusal) bad = (inr is, bad)
array_is_bad cells is (why.Ids fault) bad = absurd bad
array_is_bad cells is why.Orphan bad = absurd bad
array_is_bad cells is why.Disagree bad = absurd bad
array_is_bad cells is why.TwoValues bad = absurd bad
array_is_bad cells is why.BadKind bad = absurd bad
array_is_bad cells is (why.Memory error) bad = absurd bad

abbrev ValueDecided : List Cell → Type 0
ValueDecided cells = ((wrong : RowRefusal) → BadValue cells wrong → ⊥) ⊎ ((wrong : RowRefusal) × BadValue cells wrong)

value_or_wrong : (cells : List Cell) → All (λ byte. byte < 256) (nested_in cells) → ValueDecided cells
value_or_wrong cells bytes = by_type (cases_lt 7 (value_type_in cells)) (cases_eq (value_type_in cells) 5) (cases_eq (value_type_in cells) 6)
  where
    by_type : (7 < value_type_in cells) ⊎ (value_type_in cells ≤ 7) → (value_type_in cells ≡ 5) ⊎ (value_type_in cells ≡ 5 → ⊥) → (value_type_in cells ≡ 6) ⊎ (value_type_in cells ≡ 6 → ⊥) → ValueDecided cells
    by_type (inl high) map array = inr (why.BadValueType, inl high)
    by_type (inr low) (inl map) array = elim (nested_or_wrong nesting.Map (nested_in cells) bytes) [
      | inl fine ↦ inl (map_is_fine cells map fine)
      | inr bad ↦ inr (bad.0, map_is_bad cells map bad.0 bad.1)
    ]
    by_type (inr low) (inr no_map) (inl array) = elim (nested_or_wrong nesting.Array (nested_in cells) bytes) [
      | inl fine ↦ inl (array_is_fine cells array fine)
      | inr bad ↦ inr (bad.0, array_is_bad cells array bad.0 bad.1)
    ]
    by_type (inr low) (inr no_map) (inr no_array) = inl (flat_is_fine cells low no_map no_array)

-- the values of a table's rows, up to a row
module _ (t : Table) (column : ℕ) (cells : HasByteCells t) where
  abbrev own_cells : ℕ → List Cell
  own_cells row = drop column (get_or t.rows row [])

  row_bytes : (row : ℕ) → All (λ byte. byte < 256) (nested_in (own_cells row))
  row_bytes row = subst (λ (c : Cell). All (λ byte. byte < 256) (bytes_in c)) (sym (get_or-drop column (get_or t.rows row []) 6 cell.null)) (cells (column + 6) row)

  abbrev Some_bad : ℕ → Type 0
  Some_bad n = (row : ℕ) × (row < n) × (wrong : RowRefusal) × BadValue (own_cells row) wrong

  rows_or_wrong : (n : ℕ) → ((k : ℕ) → k < n → (wrong : RowRefusal) → BadValue (own_cells k) wrong → ⊥) ⊎ Some_bad n
  rows_or_wrong zero = inl (λ k less wrong bad. absurd (omega arith))
  rows_or_wrong (suc n) = by_rest (rows_or_wrong n) (value_or_wrong (own_cells n) (row_bytes n))
    where
      more : ((k : ℕ) → k < n → (wrong : RowRefusal) → BadValue (own_cells k) wrong → ⊥) → ((wrong : RowRefusal) → BadValue (own_cells n) wrong → ⊥)
          → (k : ℕ) → k < suc n → (wrong : RowRefusal) → BadValue (own_cells k) wrong → ⊥
      more below here k less wrong bad = elim (cases_eq k n) [
        | inl equal ↦ here wrong (subst (λ m. BadValue (own_cells m) wrong) equal bad)
        | inr differ ↦ below k (omega (arith, less, differ)) wrong bad
      ]

      by_rest : ((k : ℕ) → k < n → (wrong : RowRefusal) → BadValue (own_cells k) wrong → ⊥) ⊎ Some_bad n → ValueDecided (own_cells n)
          → ((k : ℕ) → k < suc n → (wrong : RowRefusal) → BadValue (own_cells k) wrong → ⊥) ⊎ Some_bad (suc n)
      by_rest (inr (row, less, wrong, bad)) here = inr (row, omega arith, wrong, bad)
      by_rest (inl below) (inr (wrong, bad)) = inr (n, omega arith, wrong, bad)
      by_rest (inl below) (inl fine) = inl (more below fine)

  pub values_clean_or_wrong : ((wrong : RowRefusal) → WrongValue t column wrong → ⊥) ⊎ ((wrong : RowRefusal) × WrongValue t column wrong)
  values_clean_or_wrong = elim (rows_or_wrong (length t.rows)) [
    | inl fine ↦ inl (λ wrong (bad : WrongValue t column wrong). fine bad.row bad.there wrong bad.is)
    | inr (row, there, wrong, is) ↦ inr (wrong, record { row = row; there = there; is = is })
  ]

-- ---- rows of one id

resources_or_not : (t : Table) → ResourcesDiffer t ⊎ (ResourcesDiffer t → ⊥)
resources_or_not t = elim (ids_or_none t 1) [
  | inr unknown ↦ inr (λ (d : ResourcesDiffer t). unknown d.ids d.are)
  | inl given ↦ elim (differ_or_not (λ row. row.resource_id) (λ row. row.resource) (main_rows [] given.0 [] t.rows)) [
    | inl differ ↦ inl (record { ids = given.0; are = given.1; differ = differ })
    | inr none ↦ inr (λ (d : ResourcesDiffer t). none (subst (λ ids. DifferBy (λ (row : MainRow). row.resource_id) (λ row. row.resource) (main_rows [] ids [] t.rows))
        (one_given t 1 d.ids given.0 d.are given.1) d.differ))
  ]
]

scopes_or_not : (t : Table) → ScopesDiffer t ⊎ (ScopesDiffer t → ⊥)
scopes_or_not t = elim (ids_or_none t 4) [
  | inr unknown ↦ inr (λ (d : ScopesDiffer t). unknown d.ids d.are)
  | inl given ↦ elim (differ_or_not (λ row. row.scope_id) (λ row. row.scope) (main_rows [] [] given.0 t.rows)) [
    | inl differ ↦ inl (record { ids = given.0; are = given.1; differ = differ })
    | inr none ↦ inr (λ (d : ScopesDiffer t). none (subst (λ ids. DifferBy (λ (row : MainRow). row.scope_id) (λ row. row.scope) (main_rows [] [] ids t.rows))
        (one_given t 4 d.ids given.0 d.are given.1) d.differ))
  ]
]

pub disagrees_or_not : (t : Table) → Disagrees t ⊎ (Disagrees t → ⊥)
disagrees_or_not t = elim (resources_or_not t) [
  | inl resources ↦ inl (inl resources)
  | inr no_resources ↦ elim (scopes_or_not t) [
    | inl scopes ↦ inl (inr scopes)
    | inr no_scopes ↦ inr (λ d. elim d [ inl resources ↦ no_resources resources | inr scopes ↦ no_scopes scopes ])
  ]
]
