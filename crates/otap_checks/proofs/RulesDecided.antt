-- Nothing is wrong with the rows of a signal's tables, or something is.
use Rattle.std.proofs.Common.{◌≡◌, ℕ, zero, suc, ◌+◌, ◌<◌, ◌==◌, Bool, true, false, List, length, Option, Some, None, refl, sym, subst, arith, inl, inr}
use Rattle.std.specs.Prelude.{Contains, ◌⊎◌}
use Rattle.std.proofs.lemmas.Bool.{cases_eq, false≢true}
use Rattle.lists.proofs.Every.{some_or_none}
use Rattle.lists.proofs.Contained.{number_or_not}
use Rattle.otlp_model.specs.declared.request.Signal.{Signal}
use Rattle.otap_cells.specs.declared.payload.Kind.TheVariants as table
use Rattle.otap_cells.specs.Cells.{Cell, null, number, bits, flag, bytes}
use Rattle.otap_cells.specs.GivenIds.{HasIds}
use Rattle.otap_cells.specs.Named.{table_named}
use Rattle.otap_cells.specs.Tables.{Table, cell_in}
use Rattle.otap_groups.specs.Rows.{id_at}
use Rattle.otap_attrs.specs.declared.refusal.RowRefusal.{RowRefusal}
use Rattle.otap_attrs.specs.declared.refusal.RowRefusal.TheVariants as why
use Rattle.otap_checks.specs.Deciding.{CleanOrWrong, HasByteCells, HaveByteCells}
use Rattle.otap_checks.specs.IdDefects.{IdDefect}
use Rattle.otap_checks.specs.Reading.{Disagrees}
use Rattle.otap_checks.specs.Measured.{HasTwoValues, HasUnevenLists, IsThere, element_count}
use Rattle.otap_checks.specs.RowDefects.{Breaks, RowDefect}
use Rattle.otap_checks.specs.Rules.{rules_of}
use Rattle.otap_checks.specs.Shapes.{NamesOther, WrongParent, WrongType, fits_of, is_type, type_at}
use Rattle.otap_checks.specs.declared.shapes.PointSort.{PointSort}
use Rattle.otap_checks.specs.declared.signals.Asks.{Asks}
use Rattle.otap_checks.specs.declared.signals.Asks.TheVariants as asks
use Rattle.otap_checks.specs.declared.signals.CellRule.{CellRule}
use Rattle.otap_checks.proofs.CleanOrWrong.{IsUnknown, disagrees_or_not, ids_clean_or_wrong, ids_or_none, values_clean_or_wrong}
use Rattle.otap_checks.proofs.GivenColumns.{one_given}

-- ---- what is decided row by row

abbrev pub Decided : Type 0 → Type 0
Decided P = P ⊎ (P → ⊥)

-- some number below n has it, or none
pub some_below : (P : ℕ → Type 0) → ((k : ℕ) → Decided (P k)) → (n : ℕ) → ((k : ℕ) × (k < n) × P k) ⊎ ((k : ℕ) → k < n → P k → ⊥)
some_below P each zero = inr (λ k less is. absurd (omega arith))
some_below P each (suc n) = by_rest (some_below P each n) (each n)
  where
    more : ((k : ℕ) → k < n → P k → ⊥) → (P n → ⊥) → (k : ℕ) → k < suc n → P k → ⊥
    more below here k less is = elim (cases_eq k n) [
      | inl equal ↦ here (subst P equal is)
      | inr differ ↦ below k (omega (arith, less, differ)) is
    ]

    by_rest : ((k : ℕ) × (k < n) × P k) ⊎ ((k : ℕ) → k < n → P k → ⊥) → Decided (P n) → ((k : ℕ) × (k < suc n) × P k) ⊎ ((k : ℕ) → k < suc n → P k → ⊥)
    by_rest (inl (k, less, is)) here = inl (k, omega arith, is)
    by_rest (inr none) (inl is) = inl (n, omega arith, is)
    by_rest (inr none) (inr is_not) = inr (more none is_not)

pub is_false : (b : Bool) → Decided (b ≡ false)
is_false true = inr (λ e. false≢true (sym e))
is_false false = inl refl

there_or_not : (cell : Cell) → Decided (IsThere cell)
there_or_not null = inr (λ is. is)
there_or_not (number n) = inl tt
there_or_not (bits n) = inl tt
there_or_not (flag b) = inl tt
there_or_not (bytes part) = inl tt

pub both_or_not : (P Q : Type 0) → Decided P → Decided Q → Decided (P × Q)
both_or_not P Q (inr none) q = inr (λ both. none both.0)
both_or_not P Q (inl p) (inr none) = inr (λ both. none both.1)
both_or_not P Q (inl p) (inl q) = inl (p, q)

pub type_or_not : (t : Table) → Decided (WrongType t)
type_or_not t = elim (some_below (λ row. is_type (type_at t row) ≡ false) (λ row. is_false (is_type (type_at t row))) (length t.rows)) [
  | inl some ↦ inl (record { row = some.0; there = some.1; is = some.2 })
  | inr none ↦ inr (λ (w : WrongType t). none w.row w.there w.is)
]

pub two_or_not : (t : Table) (column : ℕ) → Decided (HasTwoValues t column)
two_or_not t column =
    let P : ℕ → Type 0 = λ row. IsThere (cell_in t.rows column row) × IsThere (cell_in t.rows (column + 1) row) in
    elim (some_below P (λ row. both_or_not (IsThere (cell_in t.rows column row)) (IsThere (cell_in t.rows (column + 1) row)) (there_or_not (cell_in t.rows column row))
    (there_or_not (cell_in t.rows (column + 1) row))) (length t.rows)) [
      | inl some ↦ inl (record { row = some.0; there = some.1; int = some.2.0; double = some.2.1 })
      | inr none ↦ inr (λ (w : HasTwoValues t column). none w.row w.there (w.int, w.double))
    ]

pub uneven_or_not : (t : Table) (first second : ℕ) → Decided (HasUnevenLists t first second)
uneven_or_not t first second =
    elim (some_below (λ row. (element_count (cell_in t.rows first row) == element_count (cell_in t.rows second row)) ≡ false)
    (λ row. is_false (element_count (cell_in t.rows first row) == element_count (cell_in t.rows second row))) (length t.rows)) [
      | inl some ↦ inl (record { row = some.0; there = some.1; other = some.2 })
      | inr none ↦ inr (λ (w : HasUnevenLists t first second). none w.row w.there w.other)
    ]

-- ---- points of metrics of other types

-- the parents name this id
abbrev pub Names : List (Option ℕ) → Option ℕ → Type 0
Names parents None = ⊥
Names parents (Some id) = Contains parents (Some id)

names_or_not : (parents : List (Option ℕ)) (id : Option ℕ) → Decided (Names parents id)
names_or_not parents None = inr (λ is. is)
names_or_not parents (Some id) = number_or_not parents id

has_id : (parents : List (Option ℕ)) (id : Option ℕ) → Names parents id → (n : ℕ) × (id ≡ Some n) × Contains parents (Some n)
has_id parents None is = absurd is
has_id parents (Some n) is = (n, refl, is)

module _ (fits : ℕ → Bool) (main : Table) (parents ids : List (Option ℕ)) where
  abbrev pub IsBad : ℕ → Type 0
  IsBad row = (fits (type_at main row) ≡ false) × Names parents (id_at ids row)

  bad_or_not : (row : ℕ) → Decided (IsBad row)
  bad_or_not row = both_or_not (fits (type_at main row) ≡ false) (Names parents (id_at ids row)) (is_false (fits (type_at main row))) (names_or_not parents (id_at ids row))

  pub bad_names : (row : ℕ) → row < length main.rows → IsBad row → NamesOther fits main parents ids
  bad_names row there bad =
      let found = has_id parents (id_at ids row) bad.1 in
      record { row = row; there = there; other = bad.0; id = found.0; own = found.1; named = found.2 }

  pub is_bad : (w : NamesOther fits main parents ids) → IsBad w.row
  is_bad w = (w.other, subst (Names parents) (sym w.own) w.named)

  names_other_or_not : Decided (NamesOther fits main parents ids)
  names_other_or_not = elim (some_below IsBad bad_or_not (length main.rows)) [
    | inl some ↦ inl (bad_names some.0 some.1 some.2)
    | inr none ↦ inr (λ (w : NamesOther fits main parents ids). none w.row w.there (is_bad w))
  ]

module _ (fits : ℕ → Bool) (t main : Table) (parents ids : List (Option ℕ)) (are : HasIds t 1 parents) (known : HasIds main 0 ids) where
  -- which ids there are doesn't depend on how they are read
  pub same_ids : WrongParent fits t main → NamesOther fits main parents ids
  same_ids w =
      subst (NamesOther fits main parents) (one_given main 0 w.ids ids w.known known)
      (subst (λ (parents : List (Option ℕ)). NamesOther fits main parents w.ids) (one_given t 1 w.parents parents w.are are) w.is)

  pub parent_or_not : Decided (WrongParent fits t main)
  parent_or_not = elim (names_other_or_not fits main parents ids) [
    | inl some ↦ inl (record { parents = parents; ids = ids; are = are; known = known; is = some })
    | inr none ↦ inr (λ w. none (same_ids w))
  ]

-- where ids aren't given, no point is wrong
pub belongs_or_not : (fits : ℕ → Bool) (t main : Table) → Decided (WrongParent fits t main)
belongs_or_not fits t main = by_ids (ids_or_none t 1) (ids_or_none main 0)
  where
    by_ids : ((ids : List (Option ℕ)) × HasIds t 1 ids) ⊎ IsUnknown t 1 → ((ids : List (Option ℕ)) × HasIds main 0 ids) ⊎ IsUnknown main 0 → Decided (WrongParent fits t main)
    by_ids (inr unknown) known = inr (λ (w : WrongParent fits t main). unknown w.parents w.are)
    by_ids (inl named) (inr unknown) = inr (λ (w : WrongParent fits t main). unknown w.ids w.known)
    by_ids (inl named) (inl known) = parent_or_not fits t main named.0 known.0 named.1 known.1

-- ---- one rule

abbrev pub IsBroken : List Table → CellRule → Type 0
IsBroken tables rule = (wrong : RowRefusal) × Breaks tables rule.asks (table_named rule.kind tables) wrong

pub agree_alone : (tables : List Table) (t : Table) → (Disagrees t → ⊥) → (wrong : RowRefusal) → Breaks tables asks.Agree t wrong → ⊥
agree_alone tables t none why.Disagree is = none is
agree_alone tables t none (why.Ids fault) is = is
agree_alone tables t none why.Orphan is = is
agree_alone tables t none why.BadValueType is = is
agree_alone tables t none (why.BadCbor refusal) is = is
agree_alone tables t none why.TwoValues is = is
agree_alone tables t none why.BadKind is = is
agree_alone tables t none (why.Memory error) is = is

pub one_alone : (tables : List Table) (t : Table) (column : ℕ) → (HasTwoValues t column → ⊥) → (wrong : RowRefusal) → Breaks tables (asks.OneNumber column) t wrong → ⊥
one_alone tables t column none why.TwoValues is = none is
one_alone tables t column none why.Disagree is = is
one_alone tables t column none (why.Ids fault) is = is
one_alone tables t column none why.Orphan is = is
one_alone tables t column none why.BadValueType is = is
one_alone tables t column none (why.BadCbor refusal) is = is
one_alone tables t column none why.BadKind is = is
one_alone tables t column none (why.Memory error) is = is

pub even_alone : (tables : List Table) (t : Table) (first second : ℕ) → (HasUnevenLists t first second → ⊥) → (wrong : RowRefusal) → Breaks tables (asks.EvenLists first second) t wrong → ⊥
even_alone tables t first second none why.BadKind is = none is
even_alone tables t first second none why.Disagree is = is
even_alone tables t first second none (why.Ids fault) is = is
even_alone tables t first second none why.Orphan is = is
even_alone tables t first second none why.BadValueType is = is
even_alone tables t first second none (why.BadCbor refusal) is = is
even_alone tables t first second none why.TwoValues is = is
even_alone tables t first second none (why.Memory error) is = is

pub known_alone : (tables : List Table) (t : Table) → (WrongType t → ⊥) → (wrong : RowRefusal) → Breaks tables asks.KnownShape t wrong → ⊥
known_alone tables t none why.BadKind is = none is
known_alone tables t none why.Disagree is = is
known_alone tables t none (why.Ids fault) is = is
known_alone tables t none why.Orphan is = is
known_alone tables t none why.BadValueType is = is
known_alone tables t none (why.BadCbor refusal) is = is
known_alone tables t none why.TwoValues is = is
known_alone tables t none (why.Memory error) is = is

pub shape_alone : (tables : List Table) (t : Table) (sort : PointSort) → (WrongParent (fits_of sort) t (table_named table.Metrics tables) → ⊥) → (wrong : RowRefusal) → Breaks tables (asks.OfShape sort) t wrong → ⊥
shape_alone tables t sort none why.BadKind is = none is
shape_alone tables t sort none why.Disagree is = is
shape_alone tables t sort none (why.Ids fault) is = is
shape_alone tables t sort none why.Orphan is = is
shape_alone tables t sort none why.BadValueType is = is
shape_alone tables t sort none (why.BadCbor refusal) is = is
shape_alone tables t sort none why.TwoValues is = is
shape_alone tables t sort none (why.Memory error) is = is

abbrev SomeBroken : List Table → Table → Asks → Type 0
SomeBroken tables t asked = (wrong : RowRefusal) × Breaks tables asked t wrong

broken_or_not : (tables : List Table) (t : Table) (asked : Asks) → HasByteCells t → Decided (SomeBroken tables t asked)
broken_or_not tables t (asks.Values column) octets = elim (values_clean_or_wrong t column octets) [
  | inl fine ↦ inr (λ broken. fine broken.0 broken.1)
  | inr wrong ↦ inl wrong
]
broken_or_not tables t asks.Agree octets = elim (disagrees_or_not t) [
  | inl is ↦ inl (why.Disagree, is)
  | inr none ↦ inr (λ broken. agree_alone tables t none broken.0 broken.1)
]
broken_or_not tables t (asks.OneNumber column) octets = elim (two_or_not t column) [
  | inl is ↦ inl (why.TwoValues, is)
  | inr none ↦ inr (λ broken. one_alone tables t column none broken.0 broken.1)
]
broken_or_not tables t (asks.EvenLists first second) octets = elim (uneven_or_not t first second) [
  | inl is ↦ inl (why.BadKind, is)
  | inr none ↦ inr (λ broken. even_alone tables t first second none broken.0 broken.1)
]
broken_or_not tables t asks.KnownShape octets = elim (type_or_not t) [
  | inl is ↦ inl (why.BadKind, is)
  | inr none ↦ inr (λ broken. known_alone tables t none broken.0 broken.1)
]
broken_or_not tables t (asks.OfShape sort) octets = elim (belongs_or_not (fits_of sort) t (table_named table.Metrics tables)) [
  | inl is ↦ inl (why.BadKind, is)
  | inr none ↦ inr (λ broken. shape_alone tables t sort none broken.0 broken.1)
]

-- ---- all rules: NOTHING IS WRONG, OR SOMETHING IS

pub rows_clean_or_wrong : (of : Signal) (tables : List Table) → HaveByteCells tables → CleanOrWrong (RowDefect of tables)
rows_clean_or_wrong of tables octets = by_parts (ids_clean_or_wrong of tables)
    (some_or_none (IsBroken tables) (λ rule. broken_or_not tables (table_named rule.kind tables) rule.asks (octets rule.kind)) (rules_of of))
  where
    by_parts : CleanOrWrong (IdDefect of tables) → ((rule : CellRule) × Contains (rules_of of) rule × IsBroken tables rule) ⊎ ((rule : CellRule) → Contains (rules_of of) rule → IsBroken tables rule → ⊥)
        → CleanOrWrong (RowDefect of tables)
    by_parts (inr (kind, wrong, is)) cells = inr (kind, wrong, inl is)
    by_parts (inl ids) (inl (rule, listed, broken)) = inr (rule.kind, broken.0, inr (record { rule = rule; listed = listed; names = refl; is = broken.1 }))
    by_parts (inl ids) (inr none) = inl (λ kind wrong is. elim is [
      | inl id ↦ ids kind wrong id
      | inr d ↦ none d.rule d.listed (wrong, subst (λ kind. Breaks tables d.rule.asks (table_named kind tables) wrong) (sym d.names) d.is)
    ])
