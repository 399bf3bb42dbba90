-- Steps of reading the ids of tables: one more column, and one more table.
use Rattle.std.proofs.Common.{◌≡◌, ℕ, ◌<◌, ◌+◌, true, false, List, [], ◌∷◌, ◌++◌, get_or, length, inl, inr, refl, sym, ◌∙◌, ap, subst, arith, Result, Ok, Err}
use Rattle.std.specs.Prelude.{All, Contains, OnOk}
use Rattle.std.proofs.lemmas.Bool.{cases_eq, eq-eqb, false≢true}
use Rattle.std.proofs.lemmas.List.{get_or_default}
use Rattle.std.proofs.lemmas.List.Elements.{All-push, Contains-append_left, Contains-append_right}
use Rattle.otap_cells.specs.declared.payload.Kind.{Kind}
use Rattle.otap_cells.specs.Columns.{is_id_at}
use Rattle.otap_cells.specs.Named.{table_named}
use Rattle.otap_cells.specs.Payload.{number_of}
use Rattle.otap_cells.specs.Tables.{Table}
use Rattle.otap_attrs.specs.declared.refusal.RowRefusal.{RowRefusal}
use Rattle.otap_attrs.specs.declared.refusal.RowRefusal.TheVariants as why
use Rattle.otap_attrs.specs.declared.refusal.CheckRefusal.{CheckRefusal}
use Rattle.otap_attrs.specs.declared.refusal.CheckRefusal.TheVariants as check
use Rattle.otap_attrs.specs.Facts.{HasWeights}
use Rattle.otap_checks.specs.declared.known.ColumnIds.{ColumnIds}
use Rattle.otap_checks.specs.declared.known.PairWeights.{PairWeights}
use Rattle.otap_checks.specs.declared.signals.TableLink.{TableLink}
use Rattle.otap_checks.specs.Inside.{ColumnFault, ColumnWrong, ColumnsWrong, HasColumns, KeepsIds, KnownFault}
use Rattle.otap_checks.specs.Refusing.{refused_as, RefusesCheck}
use Rattle.otap_checks.specs.Known.{IsWeighed, is_of_column}
use Rattle.otap_attrs.specs.Defects.{RefusesRow}

-- the columns of ids below a place are there
abbrev pub HasBelow : Kind → ℕ → List ColumnIds → Type 0
HasBelow kind place known = (k : ℕ) → k < place → is_id_at kind k ≡ true → (ids : ColumnIds) × Contains known ids × (is_of_column kind k ids ≡ true)

pub passed_over : (kind : Kind) (place : ℕ) (known : List ColumnIds) → is_id_at kind place ≡ false → HasBelow kind place known → HasBelow kind (place + 1) known
passed_over kind place known other below k less id =
    elim (cases_eq k place) [
      | inl equal ↦ absurd (false≢true (sym other ∙ ap (is_id_at kind) (sym equal) ∙ id))
      | inr differ ↦ below k (omega (arith, differ)) id
    ]

its_column : (kind : Kind) (place : ℕ) (ids : ColumnIds) → ids.kind ≡ kind → ids.column ≡ place → is_of_column kind place ids ≡ true
its_column kind place ids of at = rw (of, at, eq-eqb (number_of kind) (number_of kind) refl, eq-eqb place place refl) refl

pub keeps_more : (old known new : List ColumnIds) (ids : ColumnIds) → new ≡ known ++ ids ∷ [] → KeepsIds old known → KeepsIds old new
keeps_more old known new ids is keeps one there = subst (λ xs. Contains xs one) (sym is) (Contains-append_left known (ids ∷ []) one (keeps one there))

pub one_column_more : (kind : Kind) (place : ℕ) (known new : List ColumnIds) (ids : ColumnIds) → new ≡ known ++ ids ∷ [] → ids.kind ≡ kind → ids.column ≡ place
    → HasBelow kind place known → HasBelow kind (place + 1) new
one_column_more kind place known new ids is of at below k less id =
    elim (cases_eq k place) [
      | inl equal ↦ (
        ids,
        subst (λ xs. Contains xs ids) (sym is) (Contains-append_right known (ids ∷ []) ids (0, omega arith, refl)),
        its_column kind k ids of (at ∙ sym equal),
      )
      | inr differ ↦ let there = below k (omega (arith, differ)) id in
          (there.0, subst (λ xs. Contains xs there.0) (sym is) (Contains-append_left known (ids ∷ []) there.0 there.1), there.2)
    ]

pub one_table_more : (links : List TableLink) (place : ℕ) (e : TableLink) (known new : List ColumnIds) → place < length links → KeepsIds known new
    → ((k : ℕ) (d : TableLink) → k < place → HasColumns (get_or links k d).kind known) → HasColumns (get_or links place e).kind new
    → (k : ℕ) (d : TableLink) → k < place + 1 → HasColumns (get_or links k d).kind new
one_table_more links place e known new within keeps below here k d less =
    elim (cases_eq k place) [
      | inl equal ↦ subst (λ (link : TableLink). HasColumns link.kind new) (sym (ap (λ n. get_or links n d) equal ∙ get_or_default links place d e within)) here
      | inr differ ↦ λ column id. let there = below k d (omega (arith, differ)) column id in (there.0, keeps there.0 there.1, there.2)
    ]

-- one more link has nothing wrong
pub one_link_more : (known : List ColumnIds) (links : List TableLink) (place : ℕ) (e : TableLink) → place < length links
    → ((k : ℕ) (d : TableLink) → k < place → (wrong : RowRefusal) → KnownFault known (get_or links k d) wrong → ⊥) → ((wrong : RowRefusal) → KnownFault known (get_or links place e) wrong → ⊥)
    → (k : ℕ) (d : TableLink) → k < place + 1 → (wrong : RowRefusal) → KnownFault known (get_or links k d) wrong → ⊥
one_link_more known links place e within below here k d less =
    elim (cases_eq k place) [
      | inl equal ↦
          subst (λ (link : TableLink). (wrong : RowRefusal) → KnownFault known link wrong → ⊥) (sym (ap (λ n. get_or links n d) equal ∙ get_or_default links place d e within)) here
      | inr differ ↦ below k d (omega (arith, differ))
    ]

-- ---- refusals

pub row_refused : (tables : List Table) (kind : Kind) (wrong : RowRefusal) → RefusesRow (ColumnFault (table_named kind tables)) wrong
    → RefusesCheck (ColumnWrong tables kind) (refused_as kind wrong)
row_refused tables kind (why.Memory error) refuses = tt
row_refused tables kind (why.Ids fault) refuses = (refl, refuses)
row_refused tables kind why.Orphan refuses = (refl, refuses)
row_refused tables kind why.Disagree refuses = (refl, refuses)
row_refused tables kind why.BadValueType refuses = (refl, refuses)
row_refused tables kind (why.BadCbor refusal) refuses = (refl, refuses)
row_refused tables kind why.TwoValues refuses = (refl, refuses)
row_refused tables kind why.BadKind refuses = (refl, refuses)

pub column_refusal : (tables : List Table) (links : List TableLink) (place : ℕ) (d : TableLink) (refusal : CheckRefusal) → place < length links
    → RefusesCheck (ColumnWrong tables (get_or links place d).kind) refusal → RefusesCheck (ColumnsWrong tables links) refusal
column_refusal tables links place d (check.Memory error) within refuses = tt
column_refusal tables links place d (check.Defect kind wrong) within refuses =
    let link : TableLink = get_or links place d in (link, (place, within, get_or_default links place link d within), refuses)

-- ---- weights

-- the weights of one table more
pub one_weighed_more : (t : Table) (tables : List Table) (old new : List PairWeights) (known : PairWeights) → t.kind ≡ known.kind → HasWeights t known.weights.items
    → table_named t.kind tables ≡ t → new ≡ old ++ known ∷ [] → All (IsWeighed tables) old → All (IsWeighed tables) new
one_weighed_more t tables old new known same has named pushed before =
    let here : IsWeighed tables known =
    subst (λ u. HasWeights u known.weights.items) (sym named ∙ ap (λ kind. table_named kind tables) same) has in
    subst (All (IsWeighed tables)) (sym pushed) (All-push (IsWeighed tables) old known before here)

-- what holds whatever comes of a call
pub in_any_case : {T E : Type 0} (r : Result T E) (A : Type 0) → A → OnOk r A
in_any_case (Ok value) A is = is
in_any_case (Err error) A is = tt
