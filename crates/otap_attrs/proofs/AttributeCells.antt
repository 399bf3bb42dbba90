-- The cells that are written for what an attribute says.
use Rattle.std.proofs.Common.{◌≡◌, ℕ, zero, suc, ◌+◌, ◌<◌, pos, Bool, true, false, ◌==◌, ◌||◌, List, [], ◌∷◌, ◌++◌, get_or, set, take, length, replicate, refl, sym, ap, subst, ◌∙◌, arith, inl, inr}
use Rattle.std.specs.Str.{IsUtf8}
use Rattle.std.proofs.Math.Seq.{take-append_seam}
use Rattle.std.proofs.lemmas.Bool.{cases_Bool, cases_eq, ne_eqb}
use Rattle.otlp_model.specs.declared.value.Value.{Value}
use Rattle.otlp_model.specs.declared.value.Value as values
use Rattle.otlp_model.specs.declared.value.Pair.{Pair}
use Rattle.otlp_model.proofs.Induction.{holds}
use Rattle.otap_cells.specs.declared.payload.Kind.{Kind}
use Rattle.otap_cells.specs.declared.profile.Base.{Base}
use Rattle.otap_cells.specs.declared.profile.Base.TheVariants as base
use Rattle.otap_cells.specs.Cells.{Cell, null, number, bits, flag, bytes, IsCellOf}
use Rattle.otap_cells.specs.Columns.{base_at}
use Rattle.otap_cells.specs.Continuing.{AttributeIn, attribute_in, has_attributes}
use Rattle.otap_cells.specs.Scalars.{text_cell, number_cell, int_cell, bits_cell, flag_cell}
use Rattle.otap_cells.specs.Tables.{Table, null_row, with_cell}
use Rattle.otap_cells.proofs.Rowwise.{with_cell-push}
use Rattle.otap_cells.proofs.AttributeColumns.{attribute_width}
use Rattle.otap_attrs.specs.Values.{pair_cells, pair_row, value_bases}
use Rattle.otap_attrs.specs.Inside.{IsWritableAttribute, attribute_cells, attribute_row, said_cell, value_place, with_some}
use Rattle.otap_attrs.proofs.AttributeRows.{has_value, id_fits, key_base}
use Rattle.otap_attrs.proofs.CellFits.{bits_fit, flag_fits, int_fits, octets_fit}
use Rattle.otap_attrs.proofs.PairsSaid.{says_array, says_bool, says_bytes, says_double, says_empty, says_int, says_map, says_str}
use Rattle.otap_attrs.proofs.ValueCells.{cells_of_array, cells_of_bool, cells_of_bytes, cells_of_double, cells_of_empty, cells_of_int, cells_of_map, cells_of_str}
use Rattle.otap_attrs.proofs.ValueColumns.{value_base}

-- ---- what is said of a pair has the pair's cells

-- cells after that of the key
abbrev after : List ℕ → List Cell → List Cell
after key cells = text_cell key ∷ cells

abbrev IsSaid : List ℕ → Value → Type 0
IsSaid key value = attribute_cells (attribute_in (pair_cells (record { key = key; value = value }))) ≡ pair_cells (record { key = key; value = value })

said_flag : (key : List ℕ) (b : Bool) → IsSaid key (values.Bool b)
said_flag key true = ap attribute_cells (says_bool key true) ∙ sym (ap (after key) (cells_of_bool true))
said_flag key false = ap attribute_cells (says_bool key false) ∙ sym (ap (after key) (cells_of_bool false))

said_value : (key : List ℕ) (value : Value) → IsSaid key value
said_value key = holds (IsSaid key) (record {
  empty = ap attribute_cells (says_empty key) ∙ sym (ap (after key) cells_of_empty);
  str = λ text. ap attribute_cells (says_str key text) ∙ sym (ap (after key) (cells_of_str text));
  flag = said_flag key;
  int = λ z. ap attribute_cells (says_int key z) ∙ sym (ap (after key) (cells_of_int z));
  double = λ n. ap attribute_cells (says_double key n) ∙ sym (ap (after key) (cells_of_double n));
  array = λ members each. ap attribute_cells (says_array key members) ∙ sym (ap (after key) (cells_of_array members));
  pairs = λ pairs each. ap attribute_cells (says_map key pairs) ∙ sym (ap (after key) (cells_of_map pairs));
  bytes = λ octets. ap attribute_cells (says_bytes key octets) ∙ sym (ap (after key) (cells_of_bytes octets));
})

pub row_said : (parent : ℕ) (pair : Pair) (a : AttributeIn) → a ≡ attribute_in (pair_cells pair) → attribute_row parent a ≡ pair_row parent pair
row_said parent pair a is = ap (attribute_row parent) is ∙ ap (λ (cells : List Cell). number (pos parent) ∷ cells) (said_value pair.key pair.value)

-- ---- cells that are written one after the other

set_null : (row : List Cell) (column : ℕ) → get_or row column null ≡ null → set row column null ≡ row
set_null [] column none = refl
set_null (x ∷ row) zero none = ap (λ (y : Cell). y ∷ row) (sym none)
set_null (x ∷ row) (suc column) none = ap (λ (more : List Cell). x ∷ more) (set_null row column none)

pub some_last : (rows : List (List Cell)) (row : List Cell) (column : ℕ) (x : Cell) → get_or row column null ≡ null
    → with_some column x (rows ++ row ∷ []) ≡ rows ++ set row column x ∷ []
some_last rows row column null none = ap (λ (r : List Cell). rows ++ r ∷ []) (sym (set_null row column none))
some_last rows row column (number n) none = with_cell-push column (number n) rows row
some_last rows row column (bits n) none = with_cell-push column (bits n) rows row
some_last rows row column (flag b) none = with_cell-push column (flag b) rows row
some_last rows row column (bytes part) none = with_cell-push column (bytes part) rows row

-- a value has one of six places
abbrev pub OnePlace : (ℕ → Type 0) → ℕ → Type 0
OnePlace P place = P 2 → P 3 → P 4 → P 5 → P 6 → P 7 → P place

pub one_place : (P : ℕ → Type 0) (kind : ℕ) → OnePlace P (value_place kind)
one_place P kind two three four five six seven = elim (cases_Bool (kind == 1)) [
  | inl a ↦ rw a two
  | inr no_a ↦ rw no_a (elim (cases_Bool (kind == 2)) [
    | inl b ↦ rw b three
    | inr no_b ↦ rw no_b (elim (cases_Bool (kind == 3)) [
      | inl c ↦ rw c four
      | inr no_c ↦ rw no_c (elim (cases_Bool (kind == 4)) [
        | inl d ↦ rw d five
        | inr no_d ↦ rw no_d (elim (cases_Bool (kind == 7)) [
          | inl e ↦ rw e six
          | inr no_e ↦ rw no_e seven
        ])
      ])
    ])
  ])
]

pub no_value : (key type : Cell) (kind : ℕ) → get_or (key ∷ type ∷ replicate 6 null) (value_place kind) null ≡ null
no_value key type kind = one_place (λ place. get_or (key ∷ type ∷ replicate 6 null) place null ≡ null) kind refl refl refl refl refl refl

pub row_written : (kind : Kind) (rows : List (List Cell)) (parent : ℕ) (a : AttributeIn) → has_attributes kind ≡ true
    → with_some (suc (value_place a.kind)) (said_cell a) (with_some 2 (number_cell a.kind) (with_some 1 (text_cell a.key) (with_cell 0 (number (pos parent)) (rows ++ null_row kind ∷ []))))
    ≡ rows ++ attribute_row parent a ∷ []
row_written kind rows parent a is =
    ap (λ (n : ℕ). with_some (suc (value_place a.kind)) (said_cell a) (with_some 2 (number_cell a.kind) (with_some 1 (text_cell a.key) (with_cell 0 (number (pos parent)) (rows ++ replicate n null ∷ [])))))
    (attribute_width kind is)
    ∙ ap (λ (all : List (List Cell)). with_some (suc (value_place a.kind)) (said_cell a) (with_some 2 (number_cell a.kind) (with_some 1 (text_cell a.key) all)))
    (with_cell-push 0 (number (pos parent)) rows (replicate 9 null))
    ∙ ap (λ (all : List (List Cell)). with_some (suc (value_place a.kind)) (said_cell a) (with_some 2 (number_cell a.kind) all))
    (some_last rows (number (pos parent) ∷ replicate 8 null) 1 (text_cell a.key) refl)
    ∙ ap (with_some (suc (value_place a.kind)) (said_cell a)) (some_last rows (number (pos parent) ∷ text_cell a.key ∷ replicate 7 null) 2 (number_cell a.kind) refl)
    ∙ some_last rows (number (pos parent) ∷ text_cell a.key ∷ number_cell a.kind ∷ replicate 6 null) (suc (value_place a.kind)) (said_cell a)
    (no_value (text_cell a.key) (number_cell a.kind) a.kind)

-- the tables, from the one that has no such row yet to the one that has all of it
pub table_written : (before pushed first second third whole : Table) (parent : ℕ) (a : AttributeIn) (column : ℕ) (own key type value : Cell) → has_attributes before.kind ≡ true
    → pushed ≡ record before { rows = before.rows ++ null_row before.kind ∷ [] }
    → first ≡ record pushed { rows = with_cell 0 own pushed.rows } → own ≡ number (pos parent)
    → second ≡ record first { rows = with_some 1 key first.rows } → key ≡ text_cell a.key
    → third ≡ record second { rows = with_some 2 type second.rows } → type ≡ number_cell a.kind
    → whole ≡ record third { rows = with_some column value third.rows } → column ≡ suc (value_place a.kind) → value ≡ said_cell a
    → whole ≡ record before { rows = before.rows ++ attribute_row parent a ∷ [] }
table_written before pushed first second third whole parent a column own key type value is one two is_own three is_key four is_type five at is_value =
    five
    ∙ (λ i. record third { rows = with_some (at i) (is_value i) third.rows })
    ∙ ap {B = Table} (λ t. record t { rows = with_some (suc (value_place a.kind)) (said_cell a) t.rows }) (
    four
    ∙ (λ i. record second { rows = with_some 2 (is_type i) second.rows })
    ∙ ap {B = Table} (λ t. record t { rows = with_some 2 (number_cell a.kind) t.rows }) (
    three
    ∙ (λ i. record first { rows = with_some 1 (is_key i) first.rows })
    ∙ ap {B = Table} (λ t. record t { rows = with_some 1 (text_cell a.key) t.rows }) (
    two
    ∙ (λ i. record pushed { rows = with_cell 0 (is_own i) pushed.rows })
    ∙ ap {B = Table} (λ t. record t { rows = with_cell 0 (number (pos parent)) t.rows }) one
    )
    )
    )
    ∙ ap {B = Table} (λ rows. record before { rows = rows }) (row_written before.kind before.rows parent a is)

-- ---- the former rows, whichever of these was the last

-- rows, and one more
abbrev pub IsLonger : List (List Cell) → List (List Cell) → Type 0
IsLonger rows now = (row : List Cell) × (now ≡ rows ++ row ∷ [])

pub longer_pushed : (before pushed : Table) → pushed ≡ record before { rows = before.rows ++ null_row before.kind ∷ [] } → IsLonger before.rows pushed.rows
longer_pushed before pushed is = (null_row before.kind, ap (λ (t : Table). t.rows) is)

pub longer_cell : (rows : List (List Cell)) (old new : Table) (column : ℕ) (x : Cell) → new ≡ record old { rows = with_cell column x old.rows } → IsLonger rows old.rows → IsLonger rows new.rows
longer_cell rows old new column x is longer = (
  set longer.0 column x,
  ap (λ (t : Table). t.rows) is ∙ ap (with_cell column x) longer.1 ∙ with_cell-push column x rows longer.0,
)

some_longer : (rows : List (List Cell)) (row : List Cell) (column : ℕ) (x : Cell) → IsLonger rows (with_some column x (rows ++ row ∷ []))
some_longer rows row column null = (row, refl)
some_longer rows row column (number n) = (set row column (number n), with_cell-push column (number n) rows row)
some_longer rows row column (bits n) = (set row column (bits n), with_cell-push column (bits n) rows row)
some_longer rows row column (flag b) = (set row column (flag b), with_cell-push column (flag b) rows row)
some_longer rows row column (bytes part) = (set row column (bytes part), with_cell-push column (bytes part) rows row)

pub longer_some : (rows : List (List Cell)) (old new : Table) (column : ℕ) (x : Cell) → new ≡ record old { rows = with_some column x old.rows } → IsLonger rows old.rows → IsLonger rows new.rows
longer_some rows old new column x is longer =
    let more = some_longer rows longer.0 column x in
    (more.0, ap (λ (t : Table). t.rows) is ∙ ap (with_some column x) longer.1 ∙ more.1)

-- a table that is unchanged since
pub former_stay : (rows : List (List Cell)) (old now : Table) → now ≡ old → IsLonger rows old.rows → take (length rows) now.rows ≡ rows
former_stay rows old now same longer =
    ap (λ (t : Table). take (length rows) t.rows) same ∙ ap (take (length rows)) longer.1 ∙ take-append_seam rows (longer.0 ∷ [])

-- ---- they fit their columns

pub value_within : (kind : ℕ) → suc (value_place kind) < 9
value_within kind = one_place (λ place. suc place < 9) kind (omega arith) (omega arith) (omega arith) (omega arith) (omega arith) (omega arith)

text_fit : (text : List ℕ) → IsUtf8 text → IsCellOf base.Utf8 (text_cell text)
text_fit [] utf8 = tt
text_fit (byte ∷ more) utf8 = utf8

module _ (kind : Kind) (is : has_attributes kind ≡ true) where
  pub parent_fits : (cell : Cell) → IsCellOf (base.Id true) cell → IsCellOf (base_at kind 0) cell
  parent_fits cell fits = id_fits kind is cell fits

  pub key_fits : (key : List ℕ) → IsUtf8 key → IsCellOf (base_at kind 1) (text_cell key)
  key_fits key utf8 = subst (λ (b : Base). IsCellOf b (text_cell key)) (sym (key_base kind is)) (text_fit key utf8)

  pub type_fits : (cell : Cell) → IsCellOf base.U8 cell → IsCellOf (base_at kind 2) cell
  type_fits cell fits = subst (λ (b : Base). IsCellOf b cell) (sym (value_base kind 2 0 (has_value kind is) (omega arith))) fits

  -- the value's place after that of the type
  at_place : (place k : ℕ) (cell : Cell) → place ≡ suc k → k < 7 → IsCellOf (get_or value_bases k base.Binary) cell → IsCellOf (base_at kind (suc place)) cell
  at_place place k cell same low fits =
      let here : 2 + k ≡ suc place = omega arith in
      subst (λ (column : ℕ). IsCellOf (base_at kind column) cell) here (subst (λ (b : Base). IsCellOf b cell) (sym (value_base kind 2 k (has_value kind is) low)) fits)

  pub value_fits : (a : AttributeIn) → IsWritableAttribute a → IsCellOf (base_at kind (suc (value_place a.kind))) (said_cell a)
  value_fits a fine = elim (cases_eq a.kind 1) [
    | inl one ↦ rw one (at_place 2 1 (text_cell a.bytes) refl (omega arith) (text_fit a.bytes (fine.text one)))
    | inr no_one ↦ elim (cases_eq a.kind 2) [
      | inl two ↦ rw two (at_place 3 2 (int_cell a.int) refl (omega arith) (int_fits a.int fine.int))
      | inr no_two ↦ elim (cases_eq a.kind 3) [
        | inl three ↦ rw three (at_place 4 3 (bits_cell a.bits) refl (omega arith) ((bits_fit a.bits fine.bits).1))
        | inr no_three ↦ elim (cases_eq a.kind 4) [
          | inl four ↦ rw four (at_place 5 4 (flag_cell (a.bits == 1)) refl (omega arith) (flag_fits (a.bits == 1)))
          | inr no_four ↦ elim (cases_eq a.kind 7) [
            | inl seven ↦ rw seven (at_place 6 5 (text_cell a.bytes) refl (omega arith) (octets_fit a.bytes))
            | inr no_seven ↦
                rw (ne_eqb a.kind 1 no_one, ne_eqb a.kind 2 no_two, ne_eqb a.kind 3 no_three, ne_eqb a.kind 4 no_four, ne_eqb a.kind 7 no_seven)
                (elim (cases_Bool ((a.kind == 5) || (a.kind == 6))) [
                  | inl nested ↦ rw nested (at_place 7 6 (bytes a.bytes) refl (omega arith) tt)
                  | inr other ↦ rw other (at_place 7 6 (text_cell a.bytes) refl (omega arith) (octets_fit a.bytes))
                ])
          ]
        ]
      ]
    ]
  ]
