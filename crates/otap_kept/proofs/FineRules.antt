-- Nothing is wrong with the rows of what is kept.
use Rattle.std.proofs.Common.{◌≡◌, ℕ, suc, ◌≤◌, true, List, [], ◌∷◌, length, Option, refl, sym, ◌∙◌, ap, subst, inl, inr, arith}
use Rattle.std.specs.Prelude.{Contains}
use Rattle.std.specs.List.{AllByRecursion}
use Rattle.otlp_model.specs.declared.request.Signal.{Signal}
use Rattle.otlp_model.specs.declared.request.Signal.TheVariants as signal
use Rattle.otlp_model.specs.declared.value.Pair.{Pair}
use Rattle.otap_cells.specs.declared.payload.Kind.{Kind}
use Rattle.otap_cells.specs.declared.payload.Kind.TheVariants as table
use Rattle.otap_cells.specs.Columns.{is_id_at}
use Rattle.otap_cells.specs.Continuing.{ids_in_front}
use Rattle.otap_cells.specs.GivenIds.{HasIds, ids_in}
use Rattle.otap_cells.specs.Named.{table_named}
use Rattle.otap_cells.specs.Payload.{main_of}
use Rattle.otap_cells.specs.Tables.{Table}
use Rattle.otap_groups.specs.Rows.{MainRow}
use Rattle.otap_attrs.specs.declared.refusal.RowRefusal.{RowRefusal}
use Rattle.otap_attrs.specs.declared.refusal.RowRefusal.TheVariants as why
use Rattle.otap_checks.specs.declared.signals.Asks.TheVariants as asks
use Rattle.otap_checks.specs.declared.signals.CellRule.{CellRule}
use Rattle.otap_checks.specs.declared.shapes.PointSort.{PointSort}
use Rattle.otap_checks.specs.Links.{items, links_of}
use Rattle.otap_checks.specs.Reading.{Disagrees}
use Rattle.otap_checks.specs.RowDefects.{Breaks, RowDefect}
use Rattle.otap_checks.specs.Ruled.{Keeps}
use Rattle.otap_checks.specs.Rules.{rule, rules_of}
use Rattle.otap_checks.specs.Shapes.{WrongParent, fits_of}
use Rattle.otap_kept.specs.declared.whose.Whose.{Whose}
use Rattle.otap_kept.specs.Clean.{AreCleanAndLight}
use Rattle.otap_kept.specs.Kept.{is_kept, is_ordered, kept_of, kept_rows, table_below}
use Rattle.otap_kept.specs.Numbers.{first_ids}
use Rattle.otap_kept.specs.Rows.{renewed, renewed_from, resource_ids, scope_ids}
use Rattle.otap_kept.specs.Tables.{kept_main, past_id, stored_main}
use Rattle.otap_kept.proofs.AcceptedTables.{given_ids}
use Rattle.otap_kept.proofs.Each.{each_is, each_there}
use Rattle.otap_kept.proofs.FineCells.{disagrees_from, two_from, type_from, uneven_from, value_from}
use Rattle.otap_kept.proofs.FineLinks.{fine_ids}
use Rattle.otap_kept.proofs.KeptRows.{is_main, kept_few, main_again, main_has_ids, shaped}
use Rattle.otap_kept.proofs.KeptTables.{main_named}
use Rattle.otap_kept.proofs.Origins.{ComeFrom, below_come_from, main_come_from}

-- ---- one rule, where the rows that are kept come from those of the batch

module _ (all tables : List Table) (kind : Kind) (f : ℕ) (come : ComeFrom f (table_named kind all) (table_named kind tables)) where
  pub values_kept : (column : ℕ) → f ≤ column → Keeps tables (rule kind (asks.Values column)) → Keeps all (rule kind (asks.Values column))
  values_kept column far clean wrong is = clean wrong (value_from f (table_named kind all) (table_named kind tables) come column far wrong is)

  pub two_kept : (column : ℕ) → f ≤ column → Keeps tables (rule kind (asks.OneNumber column)) → Keeps all (rule kind (asks.OneNumber column))
  two_kept column far clean why.TwoValues is = clean why.TwoValues (two_from f (table_named kind all) (table_named kind tables) come column far is)
  two_kept column far clean (why.Ids fault) is = is
  two_kept column far clean why.Orphan is = is
  two_kept column far clean why.Disagree is = is
  two_kept column far clean why.BadValueType is = is
  two_kept column far clean (why.BadCbor refusal) is = is
  two_kept column far clean why.BadKind is = is
  two_kept column far clean (why.Memory error) is = is

  pub lists_kept : (first second : ℕ) → f ≤ first → f ≤ second → Keeps tables (rule kind (asks.EvenLists first second)) → Keeps all (rule kind (asks.EvenLists first second))
  lists_kept first second far_first far_second clean why.BadKind is =
      clean why.BadKind (uneven_from f (table_named kind all) (table_named kind tables) come first second far_first far_second is)
  lists_kept first second far_first far_second clean (why.Ids fault) is = is
  lists_kept first second far_first far_second clean why.Orphan is = is
  lists_kept first second far_first far_second clean why.Disagree is = is
  lists_kept first second far_first far_second clean why.BadValueType is = is
  lists_kept first second far_first far_second clean (why.BadCbor refusal) is = is
  lists_kept first second far_first far_second clean why.TwoValues is = is
  lists_kept first second far_first far_second clean (why.Memory error) is = is

  pub type_kept : f ≤ 9 → Keeps tables (rule kind asks.KnownShape) → Keeps all (rule kind asks.KnownShape)
  type_kept far clean why.BadKind is = clean why.BadKind (type_from f (table_named kind all) (table_named kind tables) come far is)
  type_kept far clean (why.Ids fault) is = is
  type_kept far clean why.Orphan is = is
  type_kept far clean why.Disagree is = is
  type_kept far clean why.BadValueType is = is
  type_kept far clean (why.BadCbor refusal) is = is
  type_kept far clean why.TwoValues is = is
  type_kept far clean (why.Memory error) is = is

-- what holds of a table's rows alone
pub agree_kept : (all tables : List Table) (kind : Kind) → (Disagrees (table_named kind all) → Disagrees (table_named kind tables))
    → Keeps tables (rule kind asks.Agree) → Keeps all (rule kind asks.Agree)
agree_kept all tables kind from clean why.Disagree is = clean why.Disagree (from is)
agree_kept all tables kind from clean (why.Ids fault) is = is
agree_kept all tables kind from clean why.Orphan is = is
agree_kept all tables kind from clean why.BadValueType is = is
agree_kept all tables kind from clean (why.BadCbor refusal) is = is
agree_kept all tables kind from clean why.TwoValues is = is
agree_kept all tables kind from clean why.BadKind is = is
agree_kept all tables kind from clean (why.Memory error) is = is

-- and of points and the metrics that they name
pub shape_kept : (all tables : List Table) (kind : Kind) (of : PointSort)
    → (WrongParent (fits_of of) (table_named kind all) (table_named table.Metrics all) → WrongParent (fits_of of) (table_named kind tables) (table_named table.Metrics tables))
    → Keeps tables (rule kind (asks.OfShape of)) → Keeps all (rule kind (asks.OfShape of))
shape_kept all tables kind of from clean why.BadKind is = clean why.BadKind (from is)
shape_kept all tables kind of from clean (why.Ids fault) is = is
shape_kept all tables kind of from clean why.Orphan is = is
shape_kept all tables kind of from clean why.Disagree is = is
shape_kept all tables kind of from clean why.BadValueType is = is
shape_kept all tables kind of from clean (why.BadCbor refusal) is = is
shape_kept all tables kind of from clean why.TwoValues is = is
shape_kept all tables kind of from clean (why.Memory error) is = is

pub items_listed : (of : Signal) → Contains (links_of of) (items (main_of of))
unfolding links_of
items_listed signal.Logs = (0, omega arith, refl)
items_listed signal.Traces = (0, omega arith, refl)
items_listed signal.Metrics = (0, omega arith, refl)

size_of_main : (own resource scope : ℕ) (rows : List MainRow) → length (stored_main own resource scope rows) ≡ length rows
size_of_main own resource scope [] = refl
size_of_main own resource scope (row ∷ rows) = ap suc (size_of_main (past_id own row.id) (past_id resource row.resource_id) (past_id scope row.scope_id) rows)

size_renewed : (resources scopes : List (Option ℕ)) (n : ℕ) (rows : List MainRow) → length (renewed_from resources scopes n rows) ≡ length rows
size_renewed resources scopes n [] = refl
size_renewed resources scopes n (row ∷ rows) = ap suc (size_renewed resources scopes (suc n) rows)

pub kept_size : (kind : Kind) (rows : List MainRow) → length (kept_main kind (renewed rows)).rows ≡ length rows
unfolding kept_main renewed
kept_size kind rows =
    size_of_main 0 0 0 (renewed_from (first_ids (resource_ids rows)) (first_ids (scope_ids rows)) 0 rows)
    ∙ size_renewed (first_ids (resource_ids rows)) (first_ids (scope_ids rows)) 0 rows

-- ---- the tables of a signal

module _ (of : Signal) (by : Whose) (pair : Pair) (tables : List Table) (accepted : AreCleanAndLight of tables) (ordered : is_ordered of by pair tables ≡ true) where
  abbrev rows : List MainRow
  rows = kept_rows of by pair tables

  abbrev all : List Table
  all = kept_of of rows tables

  abbrev main : Kind
  main = main_of of

  -- the rules that the tables keep, and what is left: that what is kept does too
  abbrev pub Stays : CellRule → Type 0
  Stays one = Keeps tables one → Keeps all one

  rules_kept : AllByRecursion (Keeps tables) (rules_of of)
  rules_kept = each_is (Keeps tables) (rules_of of) (λ one at wrong is. accepted.clean one.kind wrong (inr (record { rule = one; listed = at; names = refl; is = is })))

  both : (rules : List CellRule) → AllByRecursion (Keeps tables) rules → AllByRecursion Stays rules → AllByRecursion (Keeps all) rules
  both [] keep stay = tt
  both (one ∷ rules) keep stay = (stay.0 keep.0, both rules keep.1 stay.1)

  pub no_defect : AllByRecursion Stays (rules_of of) → (kind : Kind) (wrong : RowRefusal) → RowDefect of all kind wrong → ⊥
  no_defect stay kind wrong (inl defect) =
      fine_ids of tables rows accepted (main_has_ids of by pair tables accepted ordered) (kept_few of by pair tables accepted) kind wrong defect
  no_defect stay kind wrong (inr defect) =
      each_there (Keeps all) (rules_of of) (both (rules_of of) rules_kept stay) defect.rule defect.listed wrong
      (subst (λ kind. Breaks all defect.rule.asks (table_named kind all) wrong) (sym defect.names) defect.is)

  pub come_main : ComeFrom 9 (table_named main all) (table_named main tables)
  unfolding kept_rows
  come_main =
      subst (λ (t : Table). ComeFrom 9 t (table_named main tables)) (sym (main_named of rows tables))
      (main_come_from main (is_kept of by pair tables) (table_named main tables) (shaped of by pair tables))

  pub come_below : (kind : Kind) → (ids : List (Option ℕ)) × (table_named kind all ≡ table_below tables ids kind) → ComeFrom (ids_in_front kind) (table_named kind all) (table_named kind tables)
  come_below kind is = subst (λ (t : Table). ComeFrom (ids_in_front kind) t (table_named kind tables)) (sym is.1) (below_come_from tables is.0 kind)

  pub main_given : (column : ℕ) → is_id_at main column ≡ true → HasIds (table_named main tables) column (ids_in (table_named main tables) column)
  main_given column id = given_ids of tables accepted (items main) (items_listed of) column id

  pub agree_stays : Stays (rule main asks.Agree)
  unfolding kept_rows
  agree_stays =
      agree_kept all tables main
      (disagrees_from (table_named main all) (table_named main tables) (is_kept of by pair tables) (main_again of by pair tables accepted ordered)
      (main_given 1 (is_main of).resource_id) (main_given 4 (is_main of).scope_id))
