-- The table of each kind among those that are kept.
use Rattle.std.proofs.Common.{◌≡◌, ℕ, true, false, List, [], ◌∷◌, Option, map, refl, ◌∙◌, ap, inl, inr}
use Rattle.std.proofs.lemmas.Bool.{cases_Bool, eq-eqb}
use Rattle.otlp_model.specs.declared.request.Signal.{Signal}
use Rattle.otlp_model.specs.declared.request.Signal.TheVariants as signal
use Rattle.otap_cells.specs.declared.payload.Kind.{Kind}
use Rattle.otap_cells.specs.Continuing.{has_attributes}
use Rattle.otap_cells.specs.Named.{table_named}
use Rattle.otap_cells.specs.Payload.{is_kind, main_of, number_of}
use Rattle.otap_cells.specs.Tables.{Table, profile_table}
use Rattle.otap_groups.specs.Rows.{MainRow}
use Rattle.otap_attrs.specs.Tables.{apart}
use Rattle.otap_attrs.proofs.FilledTables.{Formed, filled_named, numbers}
use Rattle.otap_checks.specs.declared.signals.TableLink.{TableLink}
use Rattle.otap_checks.specs.Links.{links_of}
use Rattle.otap_kept.specs.Kept.{KeptIds, kept_below, kept_of, known_after, links_below, main_ids, parent_ids, table_below, tables_below}
use Rattle.otap_kept.specs.Rows.{renewed}
use Rattle.otap_kept.specs.Tables.{kept_attributes, kept_main, kept_parts}

pub kind_is_itself : (kind : Kind) → is_kind kind kind ≡ true
kind_is_itself kind = eq-eqb (number_of kind) (number_of kind) refl

module _ (tables : List Table) where
  pub kind_below : (ids : List (Option ℕ)) (kind : Kind) → (table_below tables ids kind).kind ≡ kind
  unfolding kept_attributes kept_parts
  kind_below ids kind = elim (cases_Bool (has_attributes kind)) [ inl t ↦ rw t refl | inr f ↦ rw f refl ]

  pub formed_below : (ids : List (Option ℕ)) (kind : Kind) → table_below tables ids kind ≡ profile_table (table_below tables ids kind).kind (table_below tables ids kind).rows
  unfolding kept_attributes kept_parts
  formed_below ids kind = elim (cases_Bool (has_attributes kind)) [ inl t ↦ rw t refl | inr f ↦ rw f refl ]

  all_formed : (known : List KeptIds) (links : List TableLink) → Formed (kept_below tables known links)
  all_formed known [] = tt
  all_formed known (link ∷ links) =
      let ids = parent_ids link.parents known in
      (formed_below ids link.kind, all_formed (known_after tables ids link.kind known) links)

  pub all_numbers : (known : List KeptIds) (links : List TableLink) → numbers (kept_below tables known links) ≡ map (λ (link : TableLink). number_of link.kind) links
  all_numbers known [] = refl
  all_numbers known (link ∷ links) =
      let ids = parent_ids link.parents known in
      λ i. number_of (kind_below ids link.kind i) ∷ all_numbers (known_after tables ids link.kind known) links i

pub links_apart : (of : Signal) → apart (map (λ (link : TableLink). number_of link.kind) (links_below (links_of of))) ≡ true
unfolding links_of
links_apart signal.Logs = refl
links_apart signal.Traces = refl
links_apart signal.Metrics = refl

module _ (of : Signal) (rows : List MainRow) (tables : List Table) where
  pub below_apart : apart (numbers (tables_below of rows tables)) ≡ true
  below_apart = ap apart (all_numbers tables (main_ids (main_of of) rows) (links_below (links_of of))) ∙ links_apart of

  pub below_formed : Formed (tables_below of rows tables)
  below_formed = all_formed tables (main_ids (main_of of) rows) (links_below (links_of of))

  pub main_named : table_named (main_of of) (kept_of of rows tables) ≡ kept_main (main_of of) (renewed rows)
  unfolding kept_main
  main_named = rw (kind_is_itself (main_of of)) refl

  pub below_named : (kind : Kind) → is_kind (main_of of) kind ≡ false → table_named kind (kept_of of rows tables) ≡ table_named kind (tables_below of rows tables)
  unfolding kept_main
  below_named kind other = rw other (filled_named kind (tables_below of rows tables) below_apart below_formed)
