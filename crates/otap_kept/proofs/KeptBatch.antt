-- What a call keeps of a batch, by the kind of the main table and the places that it has.
use Rattle.std.proofs.Common.{◌≡◌, ℕ, ◌<◌, ◌≤◌, ◌^◌, Bool, Option, Some, List, [], ◌∷◌, ◌++◌, length, map, sym, ap, subst, ◌∙◌, arith}
use Rattle.std.specs.Prelude.{All, IfSome}
use Rattle.std.specs.List.{flat_map}
use Rattle.otlp_model.specs.declared.request.Signal.{Signal}
use Rattle.otlp_model.specs.declared.value.Pair.{Pair}
use Rattle.otap_cells.specs.declared.payload.Kind.{Kind}
use Rattle.otap_cells.specs.Named.{table_named}
use Rattle.otap_cells.specs.Payload.{main_of}
use Rattle.otap_cells.specs.Sets.{IsSet, tables_in}
use Rattle.otap_cells.specs.Tables.{Table}
use Rattle.otap_groups.specs.Kinds.{IsMain}
use Rattle.otap_attrs.specs.Tables.{beside_kind, where_rows}
use Rattle.otap_checks.specs.declared.known.ColumnIds.{ColumnIds}
use Rattle.otap_checks.specs.declared.signals.TableLink.{TableLink}
use Rattle.otap_checks.specs.Known.{Knows, KnowsAll}
use Rattle.otap_checks.specs.Links.{links_of}
use Rattle.otap_kept.specs.declared.whose.Whose.{Whose}
use Rattle.otap_kept.specs.Clean.{AreCleanAndLight}
use Rattle.otap_kept.specs.Holding.{main_row_in}
use Rattle.otap_kept.specs.Kept.{is_ordered, kept, kept_below, kept_of, kept_rows, links_below}
use Rattle.otap_kept.specs.Rows.{renewed}
use Rattle.otap_kept.specs.Tables.{kept_main}
use Rattle.otap_kept.specs.Writing.{main_ids_kept, places_rise, seen_ids}
use Rattle.otap_kept.proofs.KeptCall.{ordered_is, pairs_are, places_few}
use Rattle.otap_kept.proofs.KeptRows.{is_main}
use Rattle.otap_kept.proofs.KeptSets.{main_known, set_is, set_sound}

module _ (of : Signal) (by : Whose) (pair : Pair) (tables : List Table) where
  -- the set of the tables that are kept
  module _ (pairs : List (Kind × Table)) (are : pairs ≡ map beside_kind (kept_of of (kept_rows of by pair tables) tables)) where
    pub kept_tables : tables_in (λ t. t) pairs ≡ kept of by pair tables
    unfolding kept
    kept_tables = set_is of (kept_rows of by pair tables) tables pairs are

    pub kept_sound : IsSet (λ t. t) pairs
    kept_sound = set_sound of (kept_rows of by pair tables) tables pairs are

  module _ (read : List ColumnIds) (knows : KnowsAll of tables read) (places : List ℕ)
      (are : map (main_row_in (table_named (main_of of) tables)) places ≡ kept_rows of by pair tables) (m : Kind) (named : m ≡ main_of of) where
    pub main_is : IsMain m
    main_is = subst IsMain (sym named) (is_main of)

    pub main_knows : Knows (table_named m tables) m read
    main_knows = subst (λ main. Knows (table_named main tables) main read) (sym named) (main_known of tables read knows)

    -- the places as they are lent
    module _ (lent : List ℕ) (is : lent ≡ places) where
      pub main_within : All (λ place. place < length (table_named (main_of of) tables).rows) places → All (λ place. place < length (table_named m tables).rows) lent
      main_within within =
          subst (λ main. All (λ place. place < length (table_named main tables).rows) lent) (sym named)
          (subst (All (λ place. place < length (table_named (main_of of) tables).rows)) (sym is) within)

      pub rows_few : AreCleanAndLight of tables → length lent ≤ 2 ^ 32
      rows_few accepted = omega (arith, ap length is, places_few of by pair tables read knows places are accepted)

      pub order_is : (b : Bool) → places_rise m read lent ≡ b → is_ordered of by pair tables ≡ b
      order_is b rise = sym (ordered_is of by pair tables read knows places are) ∙ (λ i. places_rise (sym named i) read (sym is i)) ∙ rise

      -- the ids that were found, and whether their rows are in order
      pub ids_found : (found : Option (List ColumnIds)) (ids : List ColumnIds) → found ≡ Some ids
          → IfSome found (λ (ids : List ColumnIds). map seen_ids ids ≡ main_ids_kept m read lent) → map seen_ids ids ≡ main_ids_kept m read lent
      ids_found found ids some all = subst (λ found. IfSome found (λ (ids : List ColumnIds). map seen_ids ids ≡ main_ids_kept m read lent)) some all

      pub pairs_kept : (again : List ℕ) → again ≡ places → (first : Table) (ids : List ColumnIds) (pairs : List (Kind × Table)) (below : List TableLink)
          → first ≡ kept_main m (renewed (map (main_row_in (table_named m tables)) again)) → map seen_ids ids ≡ main_ids_kept m read lent
          → below ≡ links_below (links_of of)
          → pairs ≡ ((m, first) ∷ []) ++ map beside_kind (flat_map where_rows (kept_below tables (map seen_ids ids) below))
          → pairs ≡ map beside_kind (kept_of of (kept_rows of by pair tables) tables)
      pairs_kept again same first ids pairs below one known links all =
          pairs_are of by pair tables read knows places are first ids pairs
          (one ∙ (λ i. kept_main (named i) (renewed (map (main_row_in (table_named (named i) tables)) (same i)))))
          (known ∙ (λ i. main_ids_kept (named i) read (is i)))
          (all ∙ (λ i. ((named i, first) ∷ []) ++ map beside_kind (flat_map where_rows (kept_below tables (map seen_ids ids) (links i)))))
