-- The tables that are kept as a set, link by link.
use Rattle.std.proofs.Common.{◌≡◌, ℕ, suc, true, false, List, [], ◌∷◌, map, Option, Some, None, refl, sym, ap, subst, ◌∙◌, inl, inr, arith}
use Rattle.std.specs.Prelude.{All, Contains, ◌&&◌, ◌==◌}
use Rattle.std.specs.List.{AllByRecursion}
use Rattle.std.proofs.lemmas.Bool.{cases_Bool}
use Rattle.std.proofs.lemmas.List.Elements.{All-from_recursion}
use Rattle.otlp_model.specs.declared.request.Signal.{Signal}
use Rattle.otap_cells.specs.declared.payload.Kind.{Kind}
use Rattle.otap_cells.specs.Continuing.{has_attributes}
use Rattle.otap_cells.specs.Named.{table_named}
use Rattle.otap_cells.specs.Payload.{is_kind, main_of, number_of}
use Rattle.otap_cells.specs.Sets.{IsSet, tables_in}
use Rattle.otap_cells.specs.Tables.{Table}
use Rattle.otap_groups.specs.Rows.{MainRow}
use Rattle.otap_attrs.specs.Index.{attribute_rows_in}
use Rattle.otap_attrs.specs.Tables.{apart, beside_kind, missing}
use Rattle.otap_attrs.proofs.FilledTables.{filled_set, filled_tables, numbers}
use Rattle.otap_checks.specs.declared.known.ColumnIds.{ColumnIds}
use Rattle.otap_checks.specs.declared.signals.TableLink.{TableLink}
use Rattle.otap_checks.specs.Known.{Knows, KnowsAll, ids_named}
use Rattle.otap_checks.specs.Links.{items, links_of}
use Rattle.otap_checks.specs.Reading.{part_rows_in}
use Rattle.otap_kept.specs.Kept.{KeptIds, kept_ids, kept_of, known_after, links_below, main_ids, table_below, tables_below}
use Rattle.otap_kept.specs.Rows.{former_ids, parts_under, renewed, under}
use Rattle.otap_kept.specs.Tables.{kept_attributes, kept_main, kept_parts}
use Rattle.otap_kept.specs.Writing.{IsBelow, seen_ids}
use Rattle.otap_kept.proofs.Each.{each_is}
use Rattle.otap_kept.proofs.FineLinks as fine
use Rattle.otap_kept.proofs.KeptTables.{all_numbers, links_apart}

-- ---- ids by their columns

pub named_seen : (kind : Kind) (column : ℕ) (known : List ColumnIds) → ids_named kind column known ≡ kept_ids kind column (map seen_ids known)
named_seen kind column [] = refl
named_seen kind column (ids ∷ known) = elim (cases_Bool (is_kind ids.kind kind && ids.column == column)) [
  | inl hit ↦ rw hit refl
  | inr miss ↦ rw miss (named_seen kind column known)
]

-- ---- one table

module _ (tables : List Table) (ids : List (Option ℕ)) (kind : Kind) (known : List KeptIds) where
  pub attributes_here : has_attributes kind ≡ true → kept_attributes kind (under ids (attribute_rows_in (table_named kind tables))) ≡ table_below tables ids kind
  attributes_here is = rw is refl

  pub known_here : has_attributes kind ≡ true → known ≡ known_after tables ids kind known
  known_here is = rw is refl

  pub parts_here : has_attributes kind ≡ false → kept_parts kind (parts_under ids (part_rows_in (table_named kind tables))) ≡ table_below tables ids kind
  parts_here is = rw is refl

  pub known_more : has_attributes kind ≡ false
      → record { kind = kind; column = 0; ids = former_ids (parts_under ids (part_rows_in (table_named kind tables))) } ∷ known ≡ known_after tables ids kind known
  known_more is = rw is refl

-- ---- the links of a signal

one_below : (link : TableLink) → fine.IsBelow link → IsBelow link
one_below link (inl is) =
    let own : link.own ≡ None = ap (λ (l : TableLink). l.own) is.is in record {
      attributes = λ e. is.kinds;
      parts = λ column e. absurd (let both : None ≡ Some column = sym own ∙ e in cc both);
    }
one_below link (inr is) =
    let own : link.own ≡ Some 0 = ap (λ (l : TableLink). l.own) is.is in record {
      attributes = λ e. absurd (let both : Some 0 ≡ None = sym own ∙ e in cc both);
      parts = λ column e. is.part.part;
    }

each_below : (links : List TableLink) → AllByRecursion fine.IsBelow links → AllByRecursion IsBelow links
each_below [] all = tt
each_below (link ∷ links) all = (one_below link all.0, each_below links all.1)

pub all_below : (of : Signal) → All IsBelow (links_below (links_of of))
all_below of = All-from_recursion IsBelow (links_below (links_of of)) (each_below (links_below (links_of of)) (fine.all_below_main of))

module _ (of : Signal) (tables : List Table) (known : List ColumnIds) (knows : KnowsAll of tables known) where
  pub main_known : Knows (table_named (main_of of) tables) (main_of of) known
  main_known = knows (items (main_of of)) (subst (λ links. Contains links (items (main_of of))) (sym (fine.links_are of)) (0, omega arith, refl))

  below_known : (link : TableLink) → Contains (links_below (links_of of)) link → Knows (table_named link.kind tables) link.kind known
  below_known link at = knows link (subst (λ links. Contains links link) (sym (fine.links_are of)) (suc at.0, omega (arith, at.1), at.2))

  pub all_known : All (λ (link : TableLink). Knows (table_named link.kind tables) link.kind known) (links_below (links_of of))
  all_known = All-from_recursion (λ (link : TableLink). Knows (table_named link.kind tables) link.kind known) (links_below (links_of of))
      (each_is (λ (link : TableLink). Knows (table_named link.kind tables) link.kind known) (links_below (links_of of)) below_known)

-- ---- the set

module _ (of : Signal) (rows : List MainRow) (tables : List Table) where
  abbrev below : List Table
  below = tables_below of rows tables

  far : apart (numbers (kept_main (main_of of) (renewed rows) ∷ below)) ≡ true
  unfolding kept_main
  far =
      let are : numbers below ≡ map (λ (link : TableLink). number_of link.kind) (links_below (links_of of)) = all_numbers tables (main_ids (main_of of) rows) (links_below (links_of of)) in
      ap (λ ns. missing (number_of (main_of of)) ns && apart ns) are ∙ rw (fine.main_apart of, links_apart of) refl

  module _ (pairs : List (Kind × Table)) (are : pairs ≡ map beside_kind (kept_of of rows tables)) where
    pub set_is : tables_in (λ t. t) pairs ≡ kept_of of rows tables
    set_is = filled_tables (kept_main (main_of of) (renewed rows)) below pairs are

    pub set_sound : IsSet (λ t. t) pairs
    set_sound = filled_set (kept_main (main_of of) (renewed rows)) below pairs are far
