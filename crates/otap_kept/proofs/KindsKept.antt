-- What is kept comes in the order of its signal's kinds, and has no more items than the batch.
use Rattle.std.proofs.Common.{◌≡◌, ℕ, ◌≤◌, Bool, true, false, List, [], ◌∷◌, length, Option, map, refl, sym, ◌∙◌, ap, arith}
use Rattle.std.specs.Prelude.{◌==◌, ◌||◌, filter, nat_lt, not}
use Rattle.std.specs.List.{AllByRecursion}
use Rattle.std.proofs.lemmas.Bool.{and_parts, not-true}
use Rattle.std.proofs.lemmas.Bool.Decides.{nat_tests}
use Rattle.otlp_model.specs.declared.request.Signal.{Signal}
use Rattle.otlp_model.specs.declared.value.Pair.{Pair}
use Rattle.otap_cells.specs.declared.payload.Kind.{Kind}
use Rattle.otap_cells.specs.Named.{table_named}
use Rattle.otap_cells.specs.Payload.{is_kind, kinds_of, main_of, number_of}
use Rattle.otap_cells.specs.Tables.{Table}
use Rattle.otap_groups.specs.Rows.{MainRow}
use Rattle.otap_attrs.specs.Tables.{apart, missing}
use Rattle.otap_attrs.proofs.FilledTables.{Tells, kinds_filled}
use Rattle.otap_checks.specs.declared.signals.TableLink.{TableLink}
use Rattle.otap_checks.specs.Links.{links_of}
use Rattle.otap_checks.specs.Reading.{main_rows_in}
use Rattle.otap_checks.proofs.AllWritten.{kinds_listed}
use Rattle.otap_kept.specs.declared.whose.Whose.{Whose}
use Rattle.otap_kept.specs.Kept.{KeptIds, is_kept, kept, kept_below, kept_of, kept_rows, known_after, links_below, main_ids, parent_ids, table_below, tables_below}
use Rattle.otap_kept.specs.Tables.{kept_main}
use Rattle.otap_kept.proofs.FineLinks.{links_are, main_apart, numbers_of}
use Rattle.otap_kept.proofs.FineRules.{kept_size}
use Rattle.otap_kept.proofs.KeptRows.{fewer, main_count}
use Rattle.otap_kept.proofs.KeptTables.{below_named, kind_below, kind_is_itself, links_apart, main_named}

other_way : (n m : ℕ) → (n == m) ≡ false → (m == n) ≡ false
other_way n m differ = grind (arith, nat_tests, differ)

module _ (of : Signal) (rows : List MainRow) (tables : List Table) where
  abbrev all : List Table
  all = kept_of of rows tables

  -- the kinds that are there
  abbrev pub has : Kind → Bool
  has kind = is_kind kind (main_of of) || nat_lt 0 (length (table_named kind all).rows)

  abbrev Names : List Table → TableLink → Type 0
  Names ts link = table_named link.kind all ≡ table_named link.kind ts

  pass : (t : Table) (kind : Kind) (ts : List Table) (links : List TableLink) → t.kind ≡ kind → missing (number_of kind) (numbers_of links) ≡ true
      → AllByRecursion (Names (t ∷ ts)) links → AllByRecursion (Names ts) links
  pass t kind ts [] is far named = tt
  pass t kind ts (link ∷ links) is far named =
      let both = and_parts (not (number_of kind == number_of link.kind)) (missing (number_of kind) (numbers_of links)) far in
      let other : is_kind t.kind link.kind ≡ false = ap (λ k. is_kind k link.kind) is ∙ not-true _ both.0 in
      let next : table_named link.kind (t ∷ ts) ≡ table_named link.kind ts = rw other refl in
      (named.0 ∙ next, pass t kind ts links is both.1 named.1)

  names : (links : List TableLink) → missing (number_of (main_of of)) (numbers_of links) ≡ true → AllByRecursion (Names (tables_below of rows tables)) links
  names [] far = tt
  names (link ∷ links) far =
      let both = and_parts (not (number_of (main_of of) == number_of link.kind)) (missing (number_of (main_of of)) (numbers_of links)) far in
      (below_named of rows tables link.kind (not-true _ both.0), names links both.1)

  tells : (known : List KeptIds) (links : List TableLink) → missing (number_of (main_of of)) (numbers_of links) ≡ true → apart (numbers_of links) ≡ true
      → AllByRecursion (Names (kept_below tables known links)) links → Tells has (kept_below tables known links)
  tells known [] other far named = tt
  tells known (link ∷ links) other far named =
      let ids : List (Option ℕ) = parent_ids link.parents known in
      let t : Table = table_below tables ids link.kind in
      let rest : List Table = kept_below tables (known_after tables ids link.kind known) links in
      let kind : t.kind ≡ link.kind = kind_below tables ids link.kind in
      let first : table_named link.kind (t ∷ rest) ≡ t = rw (ap (λ k. is_kind k link.kind) kind ∙ kind_is_itself link.kind) refl in
      let here : table_named link.kind all ≡ t = named.0 ∙ first in
      let both = and_parts (missing (number_of link.kind) (numbers_of links)) (apart (numbers_of links)) far in
      let not_main = and_parts (not (number_of (main_of of) == number_of link.kind)) (missing (number_of (main_of of)) (numbers_of links)) other in
      let is : is_kind link.kind (main_of of) ≡ false = other_way (number_of (main_of of)) (number_of link.kind) (not-true _ not_main.0) in (
        ap has kind ∙ (λ i. is i || nat_lt 0 (length (here i).rows)),
        tells (known_after tables ids link.kind known) links not_main.1 both.1 (pass t link.kind rest links kind both.0 named.1),
      )

  kinds_are : (known : List KeptIds) (links : List TableLink) → map (λ (t : Table). t.kind) (kept_below tables known links) ≡ map (λ (link : TableLink). link.kind) links
  kinds_are known [] = refl
  kinds_are known (link ∷ links) =
      let ids : List (Option ℕ) = parent_ids link.parents known in
      λ i. kind_below tables ids link.kind i ∷ kinds_are (known_after tables ids link.kind known) links i

  by_type : map (λ (t : Table). t.kind) all ≡ filter has (kinds_of of)
  unfolding kept_main
  by_type =
      let links : List TableLink = links_below (links_of of) in
      let below : List Table = tables_below of rows tables in
      let kinds : kinds_of of ≡ main_of of ∷ map (λ (link : TableLink). link.kind) links = kinds_listed of ∙ ap (map (λ (link : TableLink). link.kind)) (links_are of) in
      let main : has (main_of of) ≡ true = ap (λ (b : Bool). b || nat_lt 0 (length (table_named (main_of of) all).rows)) (kind_is_itself (main_of of)) in
      let first : filter has (main_of of ∷ map (λ (link : TableLink). link.kind) links) ≡ main_of of ∷ filter has (map (λ (link : TableLink). link.kind) links) = rw main refl in
      ap (λ (kinds : List Kind). main_of of ∷ kinds)
      (kinds_filled has below (tells (main_ids (main_of of) rows) links (main_apart of) (links_apart of) (names links (main_apart of)))
      ∙ ap (filter has) (kinds_are (main_ids (main_of of) rows) links))
      ∙ sym first ∙ ap (filter has) (sym kinds)

pub kept_by_type : (of : Signal) (by : Whose) (pair : Pair) (tables : List Table)
    → map (λ (t : Table). t.kind) (kept of by pair tables) ≡ filter (λ kind. is_kind kind (main_of of) || nat_lt 0 (length (table_named kind (kept of by pair tables)).rows)) (kinds_of of)
unfolding kept
kept_by_type of by pair tables = by_type of (kept_rows of by pair tables) tables

pub kept_fewer : (of : Signal) (by : Whose) (pair : Pair) (tables : List Table) → length (table_named (main_of of) (kept of by pair tables)).rows ≤ length (table_named (main_of of) tables).rows
unfolding kept kept_rows
kept_fewer of by pair tables =
    let t : Table = table_named (main_of of) tables in
    let rows : List MainRow = kept_rows of by pair tables in
    let named : length (table_named (main_of of) (kept_of of rows tables)).rows ≡ length rows = ap (λ (t : Table). length t.rows) (main_named of rows tables) ∙ kept_size (main_of of) rows in
    omega (arith, named, fewer (is_kept of by pair tables) (main_rows_in t), main_count t)
