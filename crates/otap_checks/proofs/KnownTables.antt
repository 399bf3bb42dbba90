-- Ids that are known, and what they say of the tables of a batch.
use Rattle.std.proofs.Common.{◌≡◌, ℕ, zero, suc, true, false, List, [], ◌∷◌, Option, None, Some, inl, inr, refl, sym, ◌∙◌, ap, subst, arith}
use Rattle.std.specs.Prelude.{All, Contains, ◌==◌}
use Rattle.std.proofs.lemmas.Bool.{cases_Bool, eqb-true, false≢true, and_parts}
use Rattle.std.proofs.lemmas.List.Elements.{All-head, All-tail}
use Rattle.otlp_model.specs.declared.request.Signal.{Signal}
use Rattle.otap_cells.specs.declared.ids.IdFault.TheVariants as fault
use Rattle.otap_cells.specs.declared.payload.Kind.{Kind}
use Rattle.otap_cells.specs.Columns.{is_id_at}
use Rattle.otap_cells.specs.GivenIds.{HasIds}
use Rattle.otap_cells.specs.Named.{table_named}
use Rattle.otap_cells.specs.Payload.{is_kind}
use Rattle.otap_cells.specs.Tables.{Table}
use Rattle.otap_attrs.specs.declared.refusal.RowRefusal.{RowRefusal}
use Rattle.otap_attrs.specs.declared.refusal.RowRefusal.TheVariants as why
use Rattle.otap_attrs.specs.declared.refusal.CheckRefusal.{CheckRefusal}
use Rattle.otap_attrs.specs.declared.refusal.CheckRefusal.TheVariants as check
use Rattle.otap_checks.specs.declared.known.ColumnIds.{ColumnIds}
use Rattle.otap_checks.specs.declared.signals.TableLink.{TableLink}
use Rattle.otap_checks.specs.declared.signals.Parents.{Parents}
use Rattle.otap_checks.specs.IdDefects.{DuplicateOf, IdDefect, OrphanOf, WrongIn}
use Rattle.otap_checks.specs.Inside.{ColumnFault, ColumnsWrong, HasColumns, IsLost, IsRight, KnownFault, KnownFaults, OwnTwice}
use Rattle.otap_checks.specs.Given.{AreGiven}
use Rattle.otap_checks.specs.Known.{IsKnown, Knows, ids_named, is_of_column}
use Rattle.otap_checks.specs.Links.{links_of}
use Rattle.otap_checks.specs.Refusing.{RefusesCheck}
use Rattle.otap_checks.proofs.GivenColumns.{an_orphan, no_orphan, nothing_wrong, own_once}
use Rattle.otap_checks.proofs.LinkedTables.{linked, parents_listed, IsIdOrNone, IsAbove, IsAboveOrNone}
use Rattle.otap_cells.proofs.KindsApart.{same_kind}
use Rattle.otap_cells.proofs.KindNamed.{kind_named}

-- ---- a column among those that are known

module _ (tables : List Table) (kind : Kind) (column : ℕ) where
  here : (ids : ColumnIds) → is_of_column kind column ids ≡ true → IsRight tables ids → IsKnown (table_named kind tables) column ids.ids.items
  here ids is right =
      let told = and_parts (is_kind ids.kind kind) (ids.column == column) is in
      subst (λ kind. IsKnown (table_named kind tables) column ids.ids.items) (same_kind ids.kind kind told.0)
      (subst (λ column. IsKnown (table_named ids.kind tables) column ids.ids.items) (eqb-true ids.column column told.1) right)

  later : (first ids : ColumnIds) (known : List ColumnIds) → is_of_column kind column first ≡ false → is_of_column kind column ids ≡ true → Contains (first ∷ known) ids → Contains known ids
  later first ids known miss is (zero, within, at) = absurd (false≢true (sym miss ∙ ap (is_of_column kind column) at ∙ is))
  later first ids known miss is (suc k, within, at) = (k, omega arith, at)

  found : (known : List ColumnIds) (ids : ColumnIds) → All (IsRight tables) known → Contains known ids → is_of_column kind column ids ≡ true
      → IsKnown (table_named kind tables) column (ids_named kind column known)
  found [] ids right at is = absurd (omega (arith, at.1))
  found (first ∷ known) ids right at is =
      elim (cases_Bool (is_of_column kind column first)) [
        | inl hit ↦ rw hit (here first hit (All-head (IsRight tables) first known right))
        | inr miss ↦ rw miss (found known ids (All-tail (IsRight tables) first known right) (later first ids known miss is at) is)
      ]

pub knows : (tables : List Table) (kind : Kind) (known : List ColumnIds) → All (IsRight tables) known → HasColumns kind known → Knows (table_named kind tables) kind known
knows tables kind known right all column id = let there = all column id in found tables kind column known there.0 right there.1 there.2

pub all_known : (of : Signal) (tables : List Table) (links : List TableLink) (known : List ColumnIds) → links ≡ links_of of → All (IsRight tables) known
    → All (λ (link : TableLink). HasColumns link.kind known) links → (link : TableLink) → Contains (links_of of) link → Knows (table_named link.kind tables) link.kind known
all_known of tables links known are right all link listed =
    let at : Contains links link = subst (λ links. Contains links link) (sym are) listed in
    knows tables link.kind known right (subst (λ (one : TableLink). HasColumns one.kind known) at.2 (all at.0 link at.1))

-- what is known is given
pub given : (tables : List Table) (kind : Kind) (known : List ColumnIds) → Knows (table_named kind tables) kind known → AreGiven (table_named kind tables)
given tables kind known are column id =
    let here = are column (subst (λ kind. is_id_at kind column ≡ true) (kind_named tables kind) id) in
    record { ids = ids_named kind column known; are = here.are; parents = here.parents }

-- ---- what is wrong

module _ (of : Signal) (tables : List Table) (known : List ColumnIds) (all : (link : TableLink) → Contains (links_of of) link → Knows (table_named link.kind tables) link.kind known) where
  module _ (link : TableLink) (listed : Contains (links_of of) link) where
    duplicate : (own : Option ℕ) → link.own ≡ own → OwnTwice known link own → DuplicateOf (table_named link.kind tables) own
    duplicate None is twice = absurd twice
    duplicate (Some column) is twice = record {
      ids = ids_named link.kind column known;
      are = (all link listed column (subst (λ own. IsIdOrNone link.kind own) is (linked of link listed).own)).are;
      twice = twice;
    }

    no_duplicate : (own : Option ℕ) → link.own ≡ own → (OwnTwice known link own → ⊥) → DuplicateOf (table_named link.kind tables) own → ⊥
    no_duplicate None is once dup = dup
    no_duplicate (Some column) is once dup =
        own_once (table_named link.kind tables) (Some column) column (ids_named link.kind column known) refl
        (all link listed column (subst (λ own. IsIdOrNone link.kind own) is (linked of link listed).own)).are once dup

    above_linked : (above : Parents) → link.parents ≡ Some above → IsAbove link.kind above
    above_linked above is = subst (IsAboveOrNone link.kind) is (linked of link listed).parents

    -- the ids of the table above
    above_known : (above : Parents) → link.parents ≡ Some above → HasIds (table_named above.of tables) above.at (ids_named above.of above.at known)
    above_known above is =
        let other = parents_listed of link above listed is in
        let of_kind : Knows (table_named above.of tables) above.of known = subst (λ kind. Knows (table_named kind tables) kind known) other.2 (all other.0 other.1) in
        (of_kind above.at (above_linked above is).at).are

    own_known : (above : Parents) → link.parents ≡ Some above → HasIds (table_named link.kind tables) above.column (ids_named link.kind above.column known)
    own_known above is = (all link listed above.column (above_linked above is).column).are

    lost : (parents : Option Parents) → link.parents ≡ parents → IsLost known link parents → OrphanOf tables (table_named link.kind tables) parents
    lost None is none = absurd none
    lost (Some above) is none =
        an_orphan tables (table_named link.kind tables) (Some above) above _ _ refl (own_known above is) (above_known above is) none

    none_lost : (parents : Option Parents) → link.parents ≡ parents → (IsLost known link parents → ⊥) → OrphanOf tables (table_named link.kind tables) parents → ⊥
    none_lost None is fine orphan = orphan
    none_lost (Some above) is fine orphan =
        no_orphan tables (table_named link.kind tables) (Some above) above _ _ refl (own_known above is) (above_known above is) fine orphan

    wrong_in : (wrong : RowRefusal) → KnownFault known link wrong → WrongIn tables (table_named link.kind tables) link wrong
    wrong_in (why.Ids fault.Duplicate) is = duplicate link.own refl is
    wrong_in (why.Ids fault.PastType) is = absurd is
    wrong_in (why.Ids fault.NullParent) is = absurd is
    wrong_in why.Orphan is = lost link.parents refl is
    wrong_in why.Disagree is = is
    wrong_in why.BadValueType is = is
    wrong_in (why.BadCbor refusal) is = is
    wrong_in why.TwoValues is = is
    wrong_in why.BadKind is = is
    wrong_in (why.Memory error) is = is

    clean_in : ((wrong : RowRefusal) → KnownFault known link wrong → ⊥) → (wrong : RowRefusal) → WrongIn tables (table_named link.kind tables) link wrong → ⊥
    clean_in fine wrong is =
        nothing_wrong tables (table_named link.kind tables) link (given tables link.kind known (all link listed)) (no_duplicate link.own refl (fine (why.Ids fault.Duplicate)))
        (none_lost link.parents refl (fine why.Orphan)) wrong is

  pub faults_refused : (links : List TableLink) (refusal : CheckRefusal) → links ≡ links_of of → RefusesCheck (KnownFaults known links) refusal → RefusesCheck (IdDefect of tables) refusal
  faults_refused links (check.Memory error) are refuses = tt
  faults_refused links (check.Defect kind wrong) are refuses =
      let link : TableLink = refuses.0 in
      let listed : Contains (links_of of) link = subst (λ links. Contains links link) are refuses.1 in record {
        link = link;
        listed = listed;
        names = sym refuses.2.0;
        is = subst (λ kind. WrongIn tables (table_named kind tables) link wrong) (sym refuses.2.0) (wrong_in link listed wrong refuses.2.1);
      }

  pub no_defect : (links : List TableLink) → links ≡ links_of of → All (λ (link : TableLink). (wrong : RowRefusal) → KnownFault known link wrong → ⊥) links
      → (kind : Kind) (wrong : RowRefusal) → IdDefect of tables kind wrong → ⊥
  no_defect links are fine kind wrong defect =
      let at : Contains links defect.link = subst (λ links. Contains links defect.link) (sym are) defect.listed in
      clean_in defect.link defect.listed (subst (λ (one : TableLink). (wrong : RowRefusal) → KnownFault known one wrong → ⊥) at.2 (fine at.0 defect.link at.1)) wrong
      (subst (λ kind. WrongIn tables (table_named kind tables) defect.link wrong) (sym defect.names) defect.is)

-- what is wrong with a column is wrong with its table
column_fault_in : (tables : List Table) (t : Table) (link : TableLink) (wrong : RowRefusal) → ColumnFault t wrong → WrongIn tables t link wrong
column_fault_in tables t link (why.Ids fault.PastType) is = is
column_fault_in tables t link (why.Ids fault.NullParent) is = is
column_fault_in tables t link (why.Ids fault.Duplicate) is = absurd is
column_fault_in tables t link why.Orphan is = absurd is
column_fault_in tables t link why.Disagree is = absurd is
column_fault_in tables t link why.BadValueType is = absurd is
column_fault_in tables t link (why.BadCbor refusal) is = absurd is
column_fault_in tables t link why.TwoValues is = absurd is
column_fault_in tables t link why.BadKind is = absurd is
column_fault_in tables t link (why.Memory error) is = absurd is

pub columns_refused : (of : Signal) (tables : List Table) (links : List TableLink) (refusal : CheckRefusal) → links ≡ links_of of
    → RefusesCheck (ColumnsWrong tables links) refusal → RefusesCheck (IdDefect of tables) refusal
columns_refused of tables links (check.Memory error) are refuses = tt
columns_refused of tables links (check.Defect kind wrong) are refuses =
    let link : TableLink = refuses.0 in record {
      link = link;
      listed = subst (λ links. Contains links link) are refuses.1;
      names = sym refuses.2.0;
      is = subst (λ kind. WrongIn tables (table_named kind tables) link wrong) (sym refuses.2.0)
          (column_fault_in tables (table_named link.kind tables) link wrong refuses.2.1);
    }
