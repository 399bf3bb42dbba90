-- Tables that read as others, whose ids are given, have the same rows, and what is wrong with them is wrong with the others.
use Rattle.std.proofs.Common.{◌≡◌, ◌∙◌, ℕ, suc, ◌<◌, true, List, [], ◌∷◌, map, drop, get_or, length, Option, Some, None, refl, sym, ap, subst, arith, inl, inr}
use Rattle.std.specs.Prelude.{All, Contains}
use Rattle.std.proofs.lemmas.Bool.{cases_Bool}
use Rattle.otlp_model.specs.declared.request.Signal.{Signal}
use Rattle.otap_cells.specs.declared.payload.Kind.{Kind}
use Rattle.otap_cells.specs.declared.ids.IdFault.TheVariants as fault
use Rattle.otap_cells.specs.Cells.{Cell}
use Rattle.otap_cells.specs.Columns.{is_id_at, name_at}
use Rattle.otap_cells.specs.ColumnIds.{HasNullParent, id_in}
use Rattle.otap_cells.specs.GivenIds.{ColumnDefect, HasIds, ids_in, ReadsAs, ReadAs}
use Rattle.otap_cells.specs.Named.{table_named}
use Rattle.otap_cells.specs.Payload.{is_kind}
use Rattle.otap_cells.specs.Tables.{Table, column_in, profile_table}
use Rattle.otap_groups.specs.Children.{children}
use Rattle.otap_groups.specs.Disagree.{DifferBy}
use Rattle.otap_groups.specs.Rows.{MainRow, main_rows, child_rows}
use Rattle.otap_attrs.specs.declared.refusal.RowRefusal.{RowRefusal}
use Rattle.otap_attrs.specs.declared.refusal.RowRefusal.TheVariants as why
use Rattle.otap_attrs.specs.Values.{BadValue, pair_in}
use Rattle.otap_checks.specs.declared.signals.TableLink.{TableLink}
use Rattle.otap_checks.specs.declared.signals.Parents.{Parents}
use Rattle.otap_checks.specs.IdDefects.{DuplicateOf, OrphanOf, WrongIn, IdDefect}
use Rattle.otap_checks.specs.Links.{links_of}
use Rattle.otap_attrs.specs.Index.{pairs_in}
use Rattle.otap_checks.specs.Reading.{HasAllIds, main_rows_in, Disagrees}
use Rattle.otap_attrs.specs.Defects.{WrongValue}
use Rattle.otap_checks.proofs.GivenColumns.{one_given}
use Rattle.otap_checks.proofs.LinkedTables.{is_linked, IsIdOrNone, IsAboveOrNone, IsLinked}
use Rattle.otap_attrs.proofs.TablePairs.{ids_are}
use Rattle.otap_cells.proofs.KindNamed.{kind_named}

-- ---- one table

pub value_told : (a b : Table) → ReadsAs a b → (column : ℕ) (wrong : RowRefusal) → WrongValue a column wrong → WrongValue b column wrong
value_told a b reads column wrong w = record {
  row = w.row;
  there = subst (λ (rows : List (List Cell)). w.row < length rows) reads.same.rows w.there;
  is = subst (λ (rows : List (List Cell)). BadValue (drop column (get_or rows w.row [])) wrong) reads.same.rows w.is;
}

module _ (a b : Table) (reads : ReadsAs a b) (given : HasAllIds b) where
  -- the ids of a column are the other one's
  pub ids_told : (column : ℕ) (ids : List (Option ℕ)) → is_id_at b.kind column ≡ true → HasIds a column ids → HasIds b column ids
  ids_told column ids id are =
      let other = given column id in
      let same : other.0 ≡ ids = one_given a column other.0 ids (reads.ids column other.0 id other.1) are in
      subst (HasIds b column) same other.1

  pub ids_same : (column : ℕ) → is_id_at b.kind column ≡ true → ids_in a column ≡ ids_in b column
  ids_same column id =
      let other = given column id in
      sym (ids_are a column other.0 (reads.ids column other.0 id other.1)) ∙ ids_are b column other.0 other.1

  pub main_rows_same : is_id_at b.kind 0 ≡ true → is_id_at b.kind 1 ≡ true → is_id_at b.kind 4 ≡ true → main_rows_in a ≡ main_rows_in b
  main_rows_same own resource scope = λ i. main_rows (ids_same 0 own i) (ids_same 1 resource i) (ids_same 4 scope i) (reads.same.rows i)

  pub pairs_same : (parent : Option ℕ) → is_id_at b.kind 0 ≡ true → pairs_in a parent ≡ pairs_in b parent
  pairs_same parent id = λ i. children (λ id cells. pair_in cells) (child_rows [] (ids_same 0 id i) (map (drop 1) (reads.same.rows i))) parent

  pub disagrees_told : is_id_at b.kind 1 ≡ true → is_id_at b.kind 4 ≡ true → Disagrees a → Disagrees b
  disagrees_told resource scope (inl d) = inl (record {
    ids = d.ids;
    are = ids_told 1 d.ids resource d.are;
    differ = subst (λ rows. DifferBy (λ (row : MainRow). row.resource_id) (λ row. row.resource) (main_rows [] d.ids [] rows)) reads.same.rows d.differ;
  })
  disagrees_told resource scope (inr d) = inr (record {
    ids = d.ids;
    are = ids_told 4 d.ids scope d.are;
    differ = subst (λ rows. DifferBy (λ (row : MainRow). row.scope_id) (λ row. row.scope) (main_rows [] [] d.ids rows)) reads.same.rows d.differ;
  })

  null_parent_told : (column : ℕ) → HasNullParent a column → HasNullParent b column
  null_parent_told column null = record {
    named = ap (λ kind. name_at kind column) (sym reads.same.kind) ∙ null.named;
    null = subst (λ (rows : List (List Cell)). Contains (map id_in (column_in rows column)) None) reads.same.rows null.null;
  }

  id_there : (column : ℕ) → is_id_at a.kind column ≡ true → is_id_at b.kind column ≡ true
  id_there column id = ap (λ kind. is_id_at kind column) (sym reads.same.kind) ∙ id

  never_past : (column : ℕ) → is_id_at a.kind column ≡ true → ColumnDefect fault.PastType a column → ⊥
  never_past column id past =
      let other = given column (id_there column id) in
      past.1 other.0 (reads.ids column other.0 (id_there column id) other.1)

  duplicate_told : (own : Option ℕ) → IsIdOrNone b.kind own → DuplicateOf a own → DuplicateOf b own
  duplicate_told None linked is = absurd is
  duplicate_told (Some column) linked is = record { ids = is.ids; are = ids_told column is.ids linked is.are; twice = is.twice }

-- ---- tables by their kinds

-- a table that isn't there reads as one that isn't there
missing_reads : (kind : Kind) → ReadsAs (profile_table kind []) (profile_table kind [])
missing_reads kind = record { same = record { kind = refl; rows = refl; coding = λ column id. refl }; ids = λ column ids id are. are }

pub reads_named : (tables others : List Table) (kind : Kind) → ReadAs tables others → ReadsAs (table_named kind tables) (table_named kind others)
reads_named [] [] kind reads = missing_reads kind
reads_named [] (b ∷ others) kind reads = absurd reads
reads_named (a ∷ tables) [] kind reads = absurd reads
reads_named (a ∷ tables) (b ∷ others) kind reads =
    let same : is_kind a.kind kind ≡ is_kind b.kind kind = ap (λ k. is_kind k kind) reads.0.same.kind in
    elim (cases_Bool (is_kind b.kind kind)) [
      | inl hit ↦ rw (same ∙ hit, hit) reads.0
      | inr miss ↦ rw (same ∙ miss, miss) (reads_named tables others kind reads.1)
    ]

pub all_ids_named : (others : List Table) (kind : Kind) → All HasAllIds others → HasAllIds (table_named kind others)
all_ids_named [] kind given = λ column id. ([], tt)
all_ids_named (b ∷ others) kind given = elim (cases_Bool (is_kind b.kind kind)) [
  | inl hit ↦ rw hit (given 0 b (omega arith))
  | inr miss ↦ rw miss (all_ids_named others kind (λ k d within. given (suc k) d (omega arith)))
]

-- ---- all tables

module _ (of : Signal) (tables others : List Table) (reads : ReadAs tables others) (given : All HasAllIds others) where
  orphan_told : (kind : Kind) (parents : Option Parents) → IsAboveOrNone kind parents → OrphanOf tables (table_named kind tables) parents → OrphanOf others (table_named kind others) parents
  orphan_told kind None above is = absurd is
  orphan_told kind (Some p) above is = record {
    ids = is.ids;
    known = ids_told (table_named p.of tables) (table_named p.of others) (reads_named tables others p.of reads) (all_ids_named others p.of given)
        p.at is.ids (ap (λ k. is_id_at k p.at) (kind_named others p.of) ∙ above.at) is.known;
    lost = record {
      parents = is.lost.parents;
      are = ids_told (table_named kind tables) (table_named kind others) (reads_named tables others kind reads) (all_ids_named others kind given)
          p.column is.lost.parents (ap (λ k. is_id_at k p.column) (kind_named others kind) ∙ above.column) is.lost.are;
      orphan = is.lost.orphan;
    };
  }

  wrong_told : (link : TableLink) (wrong : RowRefusal) → IsLinked link → WrongIn tables (table_named link.kind tables) link wrong → WrongIn others (table_named link.kind others) link wrong
  wrong_told link wrong linked is = by_fault wrong is
    where
      a : Table
      a = table_named link.kind tables

      b : Table
      b = table_named link.kind others

      as_other : ReadsAs a b
      as_other = reads_named tables others link.kind reads

      all : HasAllIds b
      all = all_ids_named others link.kind given

      by_fault : (wrong : RowRefusal) → WrongIn tables a link wrong → WrongIn others b link wrong
      by_fault (why.Ids fault.PastType) (column, id, past) = absurd (never_past a b as_other all column id past)
      by_fault (why.Ids fault.NullParent) (column, id, null) = (column, id_there a b as_other all column id, null_parent_told a b as_other all column null)
      by_fault (why.Ids fault.Duplicate) is =
          duplicate_told a b as_other all link.own (subst (λ kind. IsIdOrNone kind link.own) (sym (kind_named others link.kind)) linked.own) is
      by_fault why.Orphan is = orphan_told link.kind link.parents linked.parents is
      by_fault why.Disagree is = absurd is
      by_fault why.BadValueType is = absurd is
      by_fault (why.BadCbor refusal) is = absurd is
      by_fault why.TwoValues is = absurd is
      by_fault why.BadKind is = absurd is
      by_fault (why.Memory error) is = absurd is

  pub id_defect_told : (kind : Kind) (wrong : RowRefusal) → IdDefect of tables kind wrong → IdDefect of others kind wrong
  id_defect_told kind wrong d =
      let linked : IsLinked d.link = subst IsLinked (d.listed.2) (is_linked of (links_of of) d.listed.0 d.link refl d.listed.1) in
      record {
        link = d.link;
        listed = d.listed;
        names = d.names;
        is = subst (λ kind. WrongIn others (table_named kind others) d.link wrong) d.names
            (wrong_told d.link wrong linked (subst (λ kind. WrongIn tables (table_named kind tables) d.link wrong) (sym d.names) d.is));
      }
