-- The tables that are kept, by the places of the main rows and the ids that were read.
use Rattle.std.proofs.Common.{◌≡◌, ℕ, ◌≤◌, ◌^◌, true, List, [], ◌∷◌, ◌++◌, length, map, Option, refl, sym, ap, ◌∙◌, arith}
use Rattle.std.specs.Prelude.{◌&&◌}
use Rattle.std.specs.List.{flat_map}
use Rattle.std.proofs.lemmas.List.{length-map}
use Rattle.otlp_model.specs.declared.request.Signal.{Signal}
use Rattle.otlp_model.specs.declared.value.Pair.{Pair}
use Rattle.otap_cells.specs.declared.payload.Kind.{Kind}
use Rattle.otap_cells.specs.Columns.{is_id_at}
use Rattle.otap_cells.specs.GivenIds.{ids_in}
use Rattle.otap_cells.specs.Named.{table_named}
use Rattle.otap_cells.specs.Payload.{main_of}
use Rattle.otap_cells.specs.Tables.{Table}
use Rattle.otap_groups.specs.Kinds.{IsMain}
use Rattle.otap_groups.specs.Rows.{id_at}
use Rattle.otap_attrs.specs.Tables.{beside_kind, where_rows}
use Rattle.otap_attrs.proofs.TablePairs.{ids_are, ids_long}
use Rattle.otap_checks.specs.declared.known.ColumnIds.{ColumnIds}
use Rattle.otap_checks.specs.Known.{Knows, KnowsAll, ids_named}
use Rattle.otap_checks.specs.Links.{links_of}
use Rattle.otap_kept.specs.declared.whose.Whose.{Whose}
use Rattle.otap_kept.specs.Clean.{AreCleanAndLight}
use Rattle.otap_kept.specs.Holding.{main_row_in}
use Rattle.otap_kept.specs.Kept.{KeptIds, is_ordered, kept_below, kept_ids, kept_of, kept_rows, links_below, main_ids, rise}
use Rattle.otap_kept.specs.Numbering.{numbers_rise}
use Rattle.otap_kept.specs.Numbers.{first_ids, new_number}
use Rattle.otap_kept.specs.Rows.{renewed}
use Rattle.otap_kept.specs.Tables.{kept_main}
use Rattle.otap_kept.specs.Writing.{ids_kept, main_ids_kept, mains_from, places_rise, seen_ids}
use Rattle.otap_kept.proofs.KeptRows.{is_main, kept_few}
use Rattle.otap_kept.proofs.KeptSets.{main_known, named_seen}
use Rattle.otap_kept.proofs.KeptTables.{kind_is_itself}
use Rattle.otap_kept.proofs.MainAgain.{mains_are, own_at, resources_at, rise_is, scopes_at}

-- ---- the ids that are kept

module _ (main : Kind) (kept read : List ColumnIds) (places : List ℕ) (are : map seen_ids kept ≡ main_ids_kept main read places) where
  resources_first : kept_ids main 1 (main_ids_kept main read places) ≡ first_ids (ids_kept main read places 1)
  resources_first = rw (kind_is_itself main) refl

  scopes_first : kept_ids main 4 (main_ids_kept main read places) ≡ first_ids (ids_kept main read places 4)
  scopes_first = rw (kind_is_itself main) refl

  pub resources_named : ids_named main 1 kept ≡ first_ids (ids_kept main read places 1)
  resources_named = named_seen main 1 kept ∙ ap (kept_ids main 1) are ∙ resources_first

  pub scopes_named : ids_named main 4 kept ≡ first_ids (ids_kept main read places 4)
  scopes_named = named_seen main 4 kept ∙ ap (kept_ids main 4) are ∙ scopes_first

-- ---- the ids of a table are those that were read

module _ (main : Kind) (t : Table) (read : List ColumnIds) (knows : Knows t main read) where
  pub ids_read : (column : ℕ) → is_id_at main column ≡ true → ids_named main column read ≡ ids_in t column
  ids_read column id = ids_are t column (ids_named main column read) (knows column id).are

  pub read_long : (column : ℕ) → is_id_at main column ≡ true → length (ids_named main column read) ≡ length t.rows
  read_long column id = ids_long t column (ids_named main column read) (knows column id).are

  module _ (is : IsMain main) (places : List ℕ) where
    resources_read : ids_kept main read places 1 ≡ map (id_at (ids_in t 1)) places
    resources_read = ap (λ ids. map (id_at ids) places) (ids_read 1 is.resource_id)

    scopes_read : ids_kept main read places 4 ≡ map (id_at (ids_in t 4)) places
    scopes_read = ap (λ ids. map (id_at ids) places) (ids_read 4 is.scope_id)

    own_read : ids_kept main read places 0 ≡ map (id_at (ids_in t 0)) places
    own_read = ap (λ ids. map (id_at ids) places) (ids_read 0 is.id)

    -- the rows that are written
    pub mains_read : (kept : List ColumnIds) → map seen_ids kept ≡ main_ids_kept main read places → (resources scopes : List (Option ℕ))
        → resources ≡ map (new_number (ids_named main 1 kept)) (ids_kept main read places 1)
        → scopes ≡ map (new_number (ids_named main 4 kept)) (ids_kept main read places 4)
        → mains_from resources scopes t.rows 0 places ≡ renewed (map (main_row_in t) places)
    mains_read kept are resources scopes r s =
        mains_are t resources scopes places
        (r ∙ ap (λ first. map (new_number first) (ids_kept main read places 1)) (resources_named main kept read places are)
        ∙ ap (λ ids. map (new_number (first_ids ids)) ids) resources_read)
        (s ∙ ap (λ first. map (new_number first) (ids_kept main read places 4)) (scopes_named main kept read places are)
        ∙ ap (λ ids. map (new_number (first_ids ids)) ids) scopes_read)

    pub ids_again : main_ids_kept main read places ≡ main_ids main (map (main_row_in t) places)
    ids_again = λ i.
        record { kind = main; column = 0; ids = (own_read ∙ sym (own_at t places)) i }
        ∷ record { kind = main; column = 1; ids = first_ids ((resources_read ∙ sym (resources_at t places)) i) }
        ∷ record { kind = main; column = 4; ids = first_ids ((scopes_read ∙ sym (scopes_at t places)) i) }
        ∷ []

    pub rise_again : places_rise main read places ≡ rise (renewed (map (main_row_in t) places))
    rise_again =
        (λ i. numbers_rise ((resources_read ∙ sym (resources_at t places)) i) && numbers_rise ((scopes_read ∙ sym (scopes_at t places)) i))
        ∙ sym (rise_is (map (main_row_in t) places))

-- ---- a call

module _ (of : Signal) (by : Whose) (pair : Pair) (tables : List Table) (read : List ColumnIds) (knows : KnowsAll of tables read) (places : List ℕ)
    (are : map (main_row_in (table_named (main_of of) tables)) places ≡ kept_rows of by pair tables) where
  abbrev main : Kind
  main = main_of of

  abbrev t : Table
  t = table_named (main_of of) tables

  -- whether they are ordered
  pub ordered_is : places_rise main read places ≡ is_ordered of by pair tables
  unfolding is_ordered
  ordered_is = rise_again main t read (main_known of tables read knows) (is_main of) places ∙ ap (λ rows. rise (renewed rows)) are

  pub places_few : AreCleanAndLight of tables → length places ≤ 2 ^ 32
  places_few accepted =
      omega (arith, kept_few of by pair tables accepted, ap length are, length-map places (main_row_in (table_named (main_of of) tables)))

  pub pairs_are : (first : Table) (ids : List ColumnIds) (pairs : List (Kind × Table)) → first ≡ kept_main main (renewed (map (main_row_in t) places))
      → map seen_ids ids ≡ main_ids_kept main read places
      → pairs ≡ ((main, first) ∷ []) ++ map beside_kind (flat_map where_rows (kept_below tables (map seen_ids ids) (links_below (links_of of))))
      → pairs ≡ map beside_kind (kept_of of (kept_rows of by pair tables) tables)
  unfolding kept_main
  pairs_are first ids pairs one known all =
      all
      ∙ ap (λ (t : Table). (main, t) ∷ map beside_kind (flat_map where_rows (kept_below tables (map seen_ids ids) (links_below (links_of of))))) (one ∙ ap (λ rows. kept_main main (renewed rows)) are)
      ∙ ap (λ (ids : List KeptIds). (main, kept_main main (renewed (kept_rows of by pair tables))) ∷ map beside_kind (flat_map where_rows (kept_below tables ids (links_below (links_of of)))))
      (known ∙ ids_again main t read (main_known of tables read knows) (is_main of) places ∙ ap (main_ids main) are)
