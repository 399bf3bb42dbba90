-- What is kept are tables of the profile, the main one first, then by ascending type those that have rows.
use Rattle.std.proofs.Common.{◌≡◌, ℕ, ◌≤◌, ◌^◌, true, List, [], ◌∷◌, length, Option, refl, ◌∙◌, ap, inl, inr, arith}
use Rattle.std.specs.Prelude.{All}
use Rattle.std.specs.List.{AllByRecursion}
use Rattle.std.proofs.lemmas.Bool.{and_parts, cases_Bool}
use Rattle.std.proofs.lemmas.List.Elements.{All-cons, All-from_recursion, All-head, All-nil, All-tail}
use Rattle.otlp_model.specs.declared.request.Signal.{Signal}
use Rattle.otlp_model.specs.declared.value.Pair.{Pair}
use Rattle.otap_cells.specs.declared.payload.Kind.{Kind}
use Rattle.otap_cells.specs.Cells.{Cell}
use Rattle.otap_cells.specs.Columns.{columns_of}
use Rattle.otap_cells.specs.Named.{table_named}
use Rattle.otap_cells.specs.Payload.{is_kind, main_of, number_of}
use Rattle.otap_cells.specs.Tables.{IsRow, IsTable, Table, profile_table}
use Rattle.otap_cells.proofs.AttributeColumns.{attribute_width}
use Rattle.otap_cells.proofs.KindNamed.{kind_named}
use Rattle.otap_groups.specs.ProfileTables.{IsProfileTable}
use Rattle.otap_groups.specs.Rows.{MainRow}
use Rattle.otap_groups.proofs.ProfileRows.{is_profile_table}
use Rattle.otap_attrs.specs.Index.{attribute_rows_in}
use Rattle.otap_attrs.specs.Tables.{apart, missing}
use Rattle.otap_attrs.proofs.FilledTables.{filled, filled_all}
use Rattle.otap_attrs.proofs.TablePairs.{attribute_id}
use Rattle.otap_checks.specs.declared.signals.TableLink.{TableLink}
use Rattle.otap_checks.specs.Given.{AreGiven}
use Rattle.otap_checks.specs.Links.{links_of}
use Rattle.otap_checks.specs.Reading.{part_rows_in}
use Rattle.otap_kept.specs.declared.whose.Whose.{Whose}
use Rattle.otap_kept.specs.Clean.{AreCleanAndLight}
use Rattle.otap_kept.specs.Kept.{KeptIds, is_kept, is_ordered, kept, kept_below, kept_ids, kept_of, kept_rows, known_after, links_below, main_ids, parent_ids, table_below, tables_below}
use Rattle.otap_kept.specs.Rows.{parts_under, renewed, under}
use Rattle.otap_kept.specs.Tables.{kept_attributes, kept_main, kept_parts}
use Rattle.otap_kept.proofs.AcceptedTables.{few_rows}
use Rattle.otap_kept.proofs.FineIds.{attributes_given, parts_given}
use Rattle.otap_kept.proofs.FineLinks.{IsBelow, IsSound, Names, all_below_main, below_names, main_apart, main_given, main_sound, numbers_of, pass, sound_after}
use Rattle.otap_kept.proofs.FitRows.{kept_attributes_fit, kept_main_fits, kept_parts_fit}
use Rattle.otap_kept.proofs.KeptRows.{is_main, kept_few, main_has_ids}
use Rattle.otap_kept.proofs.KeptTables.{kind_below, kind_is_itself, links_apart}
use Rattle.otap_kept.proofs.Levels.{part_count}
use Rattle.otap_kept.proofs.MainTables.{HasMainIds}

-- a table that isn't there has no rows, and each other one is a table
pub named_table : (kind : Kind) (tables : List Table) → All IsTable tables → IsTable (table_named kind tables)
named_table kind [] all = (is_profile_table kind [] (All-nil (IsRow (columns_of kind))) (λ column is. ([], tt))).table
named_table kind (t ∷ ts) all = elim (cases_Bool (is_kind t.kind kind)) [
  | inl hit ↦ rw hit (All-head IsTable t ts all)
  | inr miss ↦ rw miss (named_table kind ts (All-tail IsTable t ts all))
]

-- a table of rows that fit, whose ids are given
profile : (kind : Kind) (rows : List (List Cell)) → AllByRecursion (IsRow (columns_of kind)) rows → AreGiven (profile_table kind rows) → IsProfileTable (profile_table kind rows)
profile kind rows fit given =
    is_profile_table kind rows (All-from_recursion (IsRow (columns_of kind)) rows fit) (λ column id. let here = given column id in (here.ids, here.are))

module _ (of : Signal) (tables : List Table) (rows : List MainRow) (accepted : AreCleanAndLight of tables) (are : All IsTable tables) where
  abbrev all : List Table
  all = kept_of of rows tables

  one_below : (link : TableLink) (known : List KeptIds) → IsSound of tables rows accepted known → IsBelow link → IsProfileTable (table_below tables (parent_ids link.parents known) link.kind)
  unfolding kept_attributes kept_parts
  one_below link known sound (inl is) =
      let ids : List (Option ℕ) = kept_ids is.of is.at known in
      let parents : parent_ids link.parents known ≡ ids = ap (λ (l : TableLink). parent_ids l.parents known) is.is in
      let t : Table = table_named link.kind tables in
      rw (parents, is.kinds)
      (profile link.kind (kept_attributes link.kind (under ids (attribute_rows_in t))).rows
      (kept_attributes_fit link.kind t (named_table link.kind tables are) (kind_named tables link.kind) (attribute_id link.kind is.kinds)
      (omega (arith, attribute_width link.kind is.kinds)) ids (sound.few is.of is.at))
      (attributes_given all link.kind is.of is.at ids (attribute_rows_in t) (sound.covers is.of is.at) (sound.few is.of is.at) is.kinds))
  one_below link known sound (inr is) =
      let ids : List (Option ℕ) = kept_ids is.of is.at known in
      let parents : parent_ids link.parents known ≡ ids = ap (λ (l : TableLink). parent_ids l.parents known) is.is in
      let t : Table = table_named link.kind tables in
      rw (parents, is.other)
      (profile link.kind (kept_parts link.kind (parts_under ids (part_rows_in t))).rows
      (kept_parts_fit link.kind t (named_table link.kind tables are) (kind_named tables link.kind) is.part.part.id is.part.part.parent is.part.part.wide ids (sound.few is.of is.at))
      (parts_given all link.kind is.of is.at ids (part_rows_in t) (sound.covers is.of is.at) (sound.few is.of is.at) is.part
      (omega (arith, part_count t, few_rows of tables accepted link.kind))))

  all_below : (known : List KeptIds) (links : List TableLink) → IsSound of tables rows accepted known → AllByRecursion IsBelow links → apart (numbers_of links) ≡ true
      → AllByRecursion (Names of tables rows accepted (kept_below tables known links)) links → All IsProfileTable (kept_below tables known links)
  all_below known [] sound is far named = All-nil IsProfileTable
  all_below known (link ∷ links) sound is far named =
      let ids : List (Option ℕ) = parent_ids link.parents known in
      let t : Table = table_below tables ids link.kind in
      let rest : List Table = kept_below tables (known_after tables ids link.kind known) links in
      let kind : t.kind ≡ link.kind = kind_below tables ids link.kind in
      let first : table_named link.kind (t ∷ rest) ≡ t = rw (ap (λ k. is_kind k link.kind) kind ∙ kind_is_itself link.kind) refl in
      let both = and_parts (missing (number_of link.kind) (numbers_of links)) (apart (numbers_of links)) far in
      All-cons IsProfileTable t rest (one_below link known sound is.0)
      (all_below (known_after tables ids link.kind known) links (sound_after of tables rows accepted link known sound is.0 (named.0 ∙ first)) is.1 both.1
      (pass of tables rows accepted t link.kind rest links kind both.0 named.1))

pub all_profile : (of : Signal) (by : Whose) (pair : Pair) (tables : List Table) → AreCleanAndLight of tables → All IsTable tables
    → is_ordered of by pair tables ≡ true
    → All IsProfileTable (kept of by pair tables)
unfolding kept kept_rows kept_main
all_profile of by pair tables accepted are ordered =
    let rows : List MainRow = kept_rows of by pair tables in
    let main : Kind = main_of of in
    let ids : HasMainIds main (renewed rows) = main_has_ids of by pair tables accepted ordered in
    let few : length rows ≤ 2 ^ 21 = kept_few of by pair tables accepted in
    let t : Table = table_named main tables in
    All-cons IsProfileTable (kept_main main (renewed rows)) (filled (tables_below of rows tables))
    (profile main (kept_main main (renewed rows)).rows
    (kept_main_fits main t (named_table main tables are) (kind_named tables main) (is_main of).wide (is_main of).id (is_main of).resource_id (is_main of).scope_id
    (is_kept of by pair tables) (omega (arith, few)))
    (main_given of tables rows accepted ids few))
    (filled_all IsProfileTable (tables_below of rows tables)
    (all_below of tables rows accepted are (main_ids main rows) (links_below (links_of of)) (main_sound of tables rows accepted ids few) (all_below_main of) (links_apart of)
    (below_names of tables rows accepted (links_below (links_of of)) (main_apart of))))
