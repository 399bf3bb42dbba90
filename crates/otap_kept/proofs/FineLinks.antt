-- Nothing is wrong with the ids of what is kept, link by link.
use Rattle.std.proofs.Common.{◌≡◌, ℕ, zero, suc, ◌≤◌, ◌^◌, true, false, List, [], ◌∷◌, length, codes, Option, Some, map, refl, sym, ◌∙◌, ap, subst, inl, inr, arith}
use Rattle.std.specs.Prelude.{◌⊎◌, ◌==◌, ◌&&◌, Contains, not}
use Rattle.std.specs.List.{AllByRecursion}
use Rattle.std.proofs.lemmas.Bool.{and_parts, cases_Bool, eqb-true, not-true}
use Rattle.std.proofs.lemmas.List.{length-map}
use Rattle.otlp_model.specs.declared.request.Signal.{Signal}
use Rattle.otlp_model.specs.declared.request.Signal.TheVariants as signal
use Rattle.otap_cells.specs.declared.payload.Kind.{Kind}
use Rattle.otap_cells.specs.declared.payload.Kind.TheVariants as table
use Rattle.otap_cells.specs.ColumnIds.{HasNullParent}
use Rattle.otap_cells.specs.Columns.{exemplars, hist_points, name_at, number_points, span_events, span_links, summary_points}
use Rattle.otap_cells.specs.Continuing.{has_attributes}
use Rattle.otap_cells.specs.GivenIds.{HasIds}
use Rattle.otap_cells.specs.Named.{table_named}
use Rattle.otap_cells.specs.Payload.{is_kind, main_of, number_of}
use Rattle.otap_cells.specs.Tables.{Table}
use Rattle.otap_cells.proofs.KindsApart.{same_kind}
use Rattle.otap_groups.specs.Flat.{PlacedIn}
use Rattle.otap_groups.specs.Rows.{ChildRow, MainRow}
use Rattle.otap_groups.proofs.FrontKinds.{events_front, links_front}
use Rattle.otap_groups.proofs.IdColumns.{each_id}
use Rattle.otap_groups.proofs.RunningIds.{running, running_once, running_there}
use Rattle.otap_attrs.specs.declared.refusal.RowRefusal.{RowRefusal}
use Rattle.otap_attrs.specs.Index.{attribute_rows_in}
use Rattle.otap_attrs.specs.Tables.{apart, missing}
use Rattle.otap_checks.specs.declared.signals.TableLink.{TableLink}
use Rattle.otap_checks.specs.Given.{AreGiven, IsGiven}
use Rattle.otap_checks.specs.IdDefects.{IdDefect, WrongIn}
use Rattle.otap_checks.specs.Links.{attributes_link, items, links_of, parts}
use Rattle.otap_checks.specs.Reading.{part_rows_in}
use Rattle.otap_checks.specs.Written.{IsMainKind, IsPartKind}
use Rattle.otap_checks.proofs.GivenColumns.{nothing_wrong, one_given, own_once}
use Rattle.otap_checks.proofs.MainKinds.{logs_kind, metrics_kind, other_name, spans_kind}
use Rattle.otap_kept.specs.Clean.{AreCleanAndLight}
use Rattle.otap_kept.specs.Kept.{KeptIds, kept_below, kept_ids, kept_of, known_after, links_below, main_ids, parent_ids, table_below, tables_below}
use Rattle.otap_kept.specs.Numbers.{first_ids, new_number}
use Rattle.otap_kept.specs.Rows.{former_ids, own_ids, parts_under, renewed, renewed_from, resource_ids, scope_ids, under}
use Rattle.otap_kept.specs.Tables.{kept_attributes, kept_main, kept_parts}
use Rattle.otap_kept.proofs.AcceptedTables.{few_rows}
use Rattle.otap_kept.proofs.Each.{each_there}
use Rattle.otap_kept.proofs.FineIds.{Covers, fine_attributes, fine_parts, main_run, part_own}
use Rattle.otap_kept.proofs.FirstIds.{number_there}
use Rattle.otap_kept.proofs.KeptTables.{below_named, links_apart, kind_below, kind_is_itself, main_named}
use Rattle.otap_kept.proofs.Levels.{part_count}
use Rattle.otap_kept.proofs.MainTables.{HasMainIds, few_first}
use Rattle.otap_kept.proofs.PartTables.{parts_few}

-- ---- what tables below others are

pub record IsAttributes (link : TableLink) : Type 0 where
  pub of : Kind
  pub at : ℕ
  pub is : link ≡ attributes_link link.kind of at
  pub kinds : has_attributes link.kind ≡ true

pub record IsParts (link : TableLink) : Type 0 where
  pub of : Kind
  pub at : ℕ
  pub is : link ≡ parts link.kind of at
  pub other : has_attributes link.kind ≡ false
  pub part : IsPartKind link.kind

abbrev pub IsBelow : TableLink → Type 0
IsBelow link = IsAttributes link ⊎ IsParts link

attributes : (kind of : Kind) (at : ℕ) → has_attributes kind ≡ true → IsBelow (attributes_link kind of at)
attributes kind of at kinds = inl (record { of = of; at = at; is = refl; kinds = kinds })

parted : (kind of : Kind) (at : ℕ) → IsPartKind kind → IsBelow (parts kind of at)
parted kind of at part = inr (record { of = of; at = at; is = refl; other = part.part.other; part = part })

abbrev IsFirst : ℕ → Type 0
IsFirst column = (column ≡ 0) ⊎ (column ≡ 1)

event_kind : IsPartKind table.SpanEvents
unfolding span_events
event_kind = record { part = events_front; ids = λ column is. each_id IsFirst table.SpanEvents (inl refl, (inr refl, tt)) column is; own = other_name _ refl }

link_kind : IsPartKind table.SpanLinks
unfolding span_links
link_kind = record { part = links_front; ids = λ column is. each_id IsFirst table.SpanLinks (inl refl, (inr refl, tt)) column is; own = other_name _ refl }

number_kind : IsPartKind table.NumberPoints
unfolding number_points
number_kind = record { part = record { wide = omega arith; other = refl; id = refl; parent = refl; ids_rise = refl }; ids = λ column is. each_id IsFirst table.NumberPoints (inl refl, (inr refl, tt)) column is; own = other_name _ refl }

summary_kind : IsPartKind table.SummaryPoints
unfolding summary_points
summary_kind = record { part = record { wide = omega arith; other = refl; id = refl; parent = refl; ids_rise = refl }; ids = λ column is. each_id IsFirst table.SummaryPoints (inl refl, (inr refl, tt)) column is; own = other_name _ refl }

hist_kind : IsPartKind table.HistPoints
unfolding hist_points
hist_kind = record { part = record { wide = omega arith; other = refl; id = refl; parent = refl; ids_rise = refl }; ids = λ column is. each_id IsFirst table.HistPoints (inl refl, (inr refl, tt)) column is; own = other_name _ refl }

number_exemplar_kind : IsPartKind table.NumberExemplars
unfolding exemplars
number_exemplar_kind = record { part = record { wide = omega arith; other = refl; id = refl; parent = refl; ids_rise = refl }; ids = λ column is. each_id IsFirst table.NumberExemplars (inl refl, (inr refl, tt)) column is; own = other_name _ refl }

hist_exemplar_kind : IsPartKind table.HistExemplars
unfolding exemplars
hist_exemplar_kind = record { part = record { wide = omega arith; other = refl; id = refl; parent = refl; ids_rise = refl }; ids = λ column is. each_id IsFirst table.HistExemplars (inl refl, (inr refl, tt)) column is; own = other_name _ refl }

pub all_below_main : (of : Signal) → AllByRecursion IsBelow (links_below (links_of of))
unfolding links_of
all_below_main signal.Logs = (attributes _ _ 1 refl, (attributes _ _ 4 refl, (attributes _ _ 0 refl, tt)))
all_below_main signal.Traces = (
  attributes _ _ 1 refl,
  (
    attributes _ _ 4 refl,
    (
      attributes _ _ 0 refl,
      (parted _ _ 0 event_kind, (parted _ _ 0 link_kind, (attributes _ _ 0 refl, (attributes _ _ 0 refl, tt)))),
    ),
  ),
)
all_below_main signal.Metrics = (
  attributes _ _ 1 refl,
  (
    attributes _ _ 4 refl,
    (
      parted _ _ 0 number_kind,
      (
        parted _ _ 0 summary_kind,
        (
          parted _ _ 0 hist_kind,
          (
            attributes _ _ 0 refl,
            (
              attributes _ _ 0 refl,
              (
                attributes _ _ 0 refl,
                (
                  parted _ _ 0 number_exemplar_kind,
                  (parted _ _ 0 hist_exemplar_kind, (attributes _ _ 0 refl, (attributes _ _ 0 refl, tt))),
                ),
              ),
            ),
          ),
        ),
      ),
    ),
  ),
)

pub main_kind : (of : Signal) → IsMainKind (main_of of)
main_kind signal.Logs = logs_kind
main_kind signal.Traces = spans_kind
main_kind signal.Metrics = metrics_kind

-- ---- all tables below

abbrev pub numbers_of : List TableLink → List ℕ
numbers_of links = map (λ (link : TableLink). number_of link.kind) links

pub main_apart : (of : Signal) → missing (number_of (main_of of)) (numbers_of (links_below (links_of of))) ≡ true
unfolding links_of
main_apart signal.Logs = refl
main_apart signal.Traces = refl
main_apart signal.Metrics = refl

pub links_are : (of : Signal) → links_of of ≡ items (main_of of) ∷ links_below (links_of of)
unfolding links_of
links_are signal.Logs = refl
links_are signal.Traces = refl
links_are signal.Metrics = refl

module _ (of : Signal) (tables : List Table) (rows : List MainRow) (accepted : AreCleanAndLight of tables) where
  abbrev all : List Table
  all = kept_of of rows tables

  abbrev Fine : TableLink → Type 0
  Fine link = (wrong : RowRefusal) → WrongIn all (table_named link.kind all) link wrong → ⊥

  -- each column whose former ids are known has their new ones
  pub record IsSound (known : List KeptIds) : Type 0 where
    pub covers : (kind : Kind) (column : ℕ) → Covers all kind column (kept_ids kind column known)
    pub few : (kind : Kind) (column : ℕ) → length (kept_ids kind column known) ≤ 2 ^ 32

  -- a list of ids more
  sound_with : (known : List KeptIds) (more : KeptIds) → IsSound known → Covers all more.kind more.column more.ids → length more.ids ≤ 2 ^ 32 → IsSound (more ∷ known)
  sound_with known more sound covers few = record {
    covers = λ kind column. elim (cases_Bool (is_kind more.kind kind && more.column == column)) [
      | inl hit ↦ rw hit (here kind column hit)
      | inr miss ↦ rw miss (sound.covers kind column)
    ];
    few = λ kind column. elim (cases_Bool (is_kind more.kind kind && more.column == column)) [
      | inl hit ↦ rw hit few
      | inr miss ↦ rw miss (sound.few kind column)
    ];
  }
    where
      here : (kind : Kind) (column : ℕ) → (is_kind more.kind kind && more.column == column) ≡ true → Covers all kind column more.ids
      here kind column hit =
          let both = and_parts (is_kind more.kind kind) (more.column == column) hit in
          subst (λ column. Covers all kind column more.ids) (eqb-true more.column column both.1)
          (subst (λ kind. Covers all kind more.column more.ids) (same_kind more.kind kind both.0) covers)

  -- the ids of the parents of a table
  attributes_fine : (link : TableLink) (known : List KeptIds) → IsSound known → (is : IsAttributes link)
      → table_named link.kind all ≡ table_below tables (parent_ids link.parents known) link.kind → Fine link
  attributes_fine link known sound is named =
      let ids : List (Option ℕ) = kept_ids is.of is.at known in
      let parents : parent_ids link.parents known ≡ ids = ap (λ (l : TableLink). parent_ids l.parents known) is.is in
      let here : table_named link.kind all ≡ kept_attributes link.kind (under ids (attribute_rows_in (table_named link.kind tables))) =
      named ∙ ap (λ ids. table_below tables ids link.kind) parents ∙ rw is.kinds refl in
      subst (λ (t : Table). (wrong : RowRefusal) → WrongIn all t link wrong → ⊥) (sym here)
      (subst (λ (l : TableLink). (wrong : RowRefusal) → WrongIn all (kept_attributes link.kind (under ids (attribute_rows_in (table_named link.kind tables)))) l wrong → ⊥) (sym is.is)
      (fine_attributes all link.kind is.of is.at ids (attribute_rows_in (table_named link.kind tables)) (sound.covers is.of is.at) (sound.few is.of is.at) is.kinds))

  module _ (link : TableLink) (known : List KeptIds) (sound : IsSound known) (is : IsParts link)
      (named : table_named link.kind all ≡ table_below tables (parent_ids link.parents known) link.kind) where
    abbrev ids : List (Option ℕ)
    ids = kept_ids is.of is.at known

    parents_are : parent_ids link.parents known ≡ ids
    parents_are = ap (λ (l : TableLink). parent_ids l.parents known) is.is

    abbrev ps : List (PlacedIn ChildRow)
    ps = parts_under ids (part_rows_in (table_named link.kind tables))

    here : table_named link.kind all ≡ kept_parts link.kind ps
    here = named ∙ ap (λ ids. table_below tables ids link.kind) parents_are ∙ rw is.other refl

    few_here : length (part_rows_in (table_named link.kind tables)) ≤ 2 ^ 21
    few_here = omega (arith, part_count (table_named link.kind tables), few_rows of tables accepted link.kind)

    parts_fine : Fine link
    parts_fine =
        subst (λ (t : Table). (wrong : RowRefusal) → WrongIn all t link wrong → ⊥) (sym here)
        (subst (λ (l : TableLink). (wrong : RowRefusal) → WrongIn all (kept_parts link.kind ps) l wrong → ⊥) (sym is.is)
        (fine_parts all link.kind is.of is.at ids (part_rows_in (table_named link.kind tables)) (sound.covers is.of is.at) (sound.few is.of is.at) is.part few_here))

    own_covers : Covers all link.kind 0 (former_ids ps)
    own_covers xs are n within =
        let own : HasIds (kept_parts link.kind ps) 0 (running 0 ps) =
        part_own all link.kind is.of is.at ids (part_rows_in (table_named link.kind tables)) (sound.covers is.of is.at) (sound.few is.of is.at) is.part few_here in
        let same : running 0 ps ≡ xs = one_given (kept_parts link.kind ps) 0 (running 0 ps) xs own (subst (λ (t : Table). HasIds t 0 xs) here are) in
        subst (λ ids. Contains ids (Some n)) same (running_there n ps (omega (arith, within, length-map ps (λ (p : PlacedIn ChildRow). p.part.id))))

    own_few : length (former_ids ps) ≤ 2 ^ 32
    own_few = omega (arith, length-map ps (λ (p : PlacedIn ChildRow). p.part.id), parts_few ids (part_rows_in (table_named link.kind tables)), few_here)

  pub sound_after : (link : TableLink) (known : List KeptIds) → IsSound known → IsBelow link → table_named link.kind all ≡ table_below tables (parent_ids link.parents known) link.kind
      → IsSound (known_after tables (parent_ids link.parents known) link.kind known)
  sound_after link known sound (inl is) named = rw is.kinds sound
  sound_after link known sound (inr is) named =
      rw (is.other, parents_are link known sound is named)
      (sound_with known (record { kind = link.kind; column = 0; ids = former_ids (ps link known sound is named) }) sound (own_covers link known sound is named) (own_few link known sound is named))

  fine_one : (link : TableLink) (known : List KeptIds) → IsSound known → IsBelow link → table_named link.kind all ≡ table_below tables (parent_ids link.parents known) link.kind → Fine link
  fine_one link known sound (inl is) named = attributes_fine link known sound is named
  fine_one link known sound (inr is) named = parts_fine link known sound is named

  -- one table is passed over: those of the kinds after it come after it
  abbrev pub Names : List Table → TableLink → Type 0
  Names ts link = table_named link.kind all ≡ table_named link.kind ts

  pub pass : (t : Table) (kind : Kind) (ts : List Table) (links : List TableLink) → t.kind ≡ kind → missing (number_of kind) (numbers_of links) ≡ true
      → AllByRecursion (Names (t ∷ ts)) links → AllByRecursion (Names ts) links
  pass t kind ts [] is far named = tt
  pass t kind ts (link ∷ links) is far named =
      let both = and_parts (not (number_of kind == number_of link.kind)) (missing (number_of kind) (numbers_of links)) far in
      let other : is_kind t.kind link.kind ≡ false = ap (λ k. is_kind k link.kind) is ∙ not-true _ both.0 in
      let next : table_named link.kind (t ∷ ts) ≡ table_named link.kind ts = rw other refl in
      (named.0 ∙ next, pass t kind ts links is both.1 named.1)

  fine_links : (known : List KeptIds) (links : List TableLink) → IsSound known → AllByRecursion IsBelow links → apart (numbers_of links) ≡ true
      → AllByRecursion (Names (kept_below tables known links)) links → AllByRecursion Fine links
  fine_links known [] sound are far named = tt
  fine_links known (link ∷ links) sound are far named =
      let ids : List (Option ℕ) = parent_ids link.parents known in
      let t : Table = table_below tables ids link.kind in
      let rest : List Table = kept_below tables (known_after tables ids link.kind known) links in
      let kind : t.kind ≡ link.kind = kind_below tables ids link.kind in
      let first : table_named link.kind (t ∷ rest) ≡ t = rw (ap (λ k. is_kind k link.kind) kind ∙ kind_is_itself link.kind) refl in
      let here : table_named link.kind all ≡ t = named.0 ∙ first in
      let both = and_parts (missing (number_of link.kind) (numbers_of links)) (apart (numbers_of links)) far in (
        fine_one link known sound are.0 here,
        fine_links (known_after tables ids link.kind known) links (sound_after link known sound are.0 here) are.1 both.1 (pass t link.kind rest links kind both.0 named.1),
      )

  pub below_names : (links : List TableLink) → missing (number_of (main_of of)) (numbers_of links) ≡ true → AllByRecursion (Names (tables_below of rows tables)) links
  below_names [] far = tt
  below_names (link ∷ links) far =
      let both = and_parts (not (number_of (main_of of) == number_of link.kind)) (missing (number_of (main_of of)) (numbers_of links)) far in
      (below_named of rows tables link.kind (not-true _ both.0), below_names links both.1)

  -- the table of each link is one below some parents
  abbrev pub IsKeptBelow : TableLink → Type 0
  IsKeptBelow link = (ids : List (Option ℕ)) × (table_named link.kind all ≡ table_below tables ids link.kind)

  links_kept : (known : List KeptIds) (links : List TableLink) → apart (numbers_of links) ≡ true → AllByRecursion (Names (kept_below tables known links)) links
      → AllByRecursion IsKeptBelow links
  links_kept known [] far named = tt
  links_kept known (link ∷ links) far named =
      let ids : List (Option ℕ) = parent_ids link.parents known in
      let t : Table = table_below tables ids link.kind in
      let rest : List Table = kept_below tables (known_after tables ids link.kind known) links in
      let kind : t.kind ≡ link.kind = kind_below tables ids link.kind in
      let first : table_named link.kind (t ∷ rest) ≡ t = rw (ap (λ k. is_kind k link.kind) kind ∙ kind_is_itself link.kind) refl in
      let both = and_parts (missing (number_of link.kind) (numbers_of links)) (apart (numbers_of links)) far in (
        (ids, named.0 ∙ first),
        links_kept (known_after tables ids link.kind known) links both.1 (pass t link.kind rest links kind both.0 named.1),
      )

  pub all_kept : AllByRecursion IsKeptBelow (links_below (links_of of))
  all_kept = links_kept (main_ids (main_of of) rows) (links_below (links_of of)) (links_apart of) (below_names (links_below (links_of of)) (main_apart of))

  -- ---- the main table

  module _ (ids : HasMainIds (main_of of) (renewed rows)) (few : length rows ≤ 2 ^ 21) where
    abbrev main : Table
    main = table_named (main_of of) all

    own_is : HasIds main 0 (running 0 rows)
    unfolding renewed
    own_is =
        subst (λ (t : Table). HasIds t 0 (running 0 rows)) (sym (main_named of rows tables))
        (subst (HasIds (kept_main (main_of of) (renewed rows)) 0) (main_run (first_ids (resource_ids rows)) (first_ids (scope_ids rows)) 0 rows) ids.own)

    resources_are : HasIds main 1 (resource_ids (renewed rows))
    resources_are = subst (λ (t : Table). HasIds t 1 (resource_ids (renewed rows))) (sym (main_named of rows tables)) ids.resource

    scopes_are : HasIds main 4 (scope_ids (renewed rows))
    scopes_are = subst (λ (t : Table). HasIds t 4 (scope_ids (renewed rows))) (sym (main_named of rows tables)) ids.scope

    own_there : Covers all (main_of of) 0 (own_ids rows)
    own_there xs are n within =
        subst (λ ids. Contains ids (Some n)) (one_given main 0 (running 0 rows) xs own_is are)
        (running_there n rows (omega (arith, within, length-map rows (λ (row : MainRow). row.id))))

    -- the new number of an id of a row is in its column
    resource_moved : (resources scopes : List (Option ℕ)) (k p n : ℕ) (some : List MainRow) → new_number resources (Some p) ≡ Some n
        → Contains (resource_ids some) (Some p) → Contains (resource_ids (renewed_from resources scopes k some)) (Some n)
    resource_moved resources scopes k p n [] is at = absurd (omega (arith, at.1))
    resource_moved resources scopes k p n (row ∷ some) is (zero, within, at) = (0, omega arith, ap (new_number resources) at ∙ is)
    resource_moved resources scopes k p n (row ∷ some) is (suc i, within, at) =
        let more = resource_moved resources scopes (suc k) p n some is (i, omega arith, at) in (suc more.0, omega (arith, more.1), more.2)

    scope_moved : (resources scopes : List (Option ℕ)) (k p n : ℕ) (some : List MainRow) → new_number scopes (Some p) ≡ Some n
        → Contains (scope_ids some) (Some p) → Contains (scope_ids (renewed_from resources scopes k some)) (Some n)
    scope_moved resources scopes k p n [] is at = absurd (omega (arith, at.1))
    scope_moved resources scopes k p n (row ∷ some) is (zero, within, at) = (0, omega arith, ap (new_number scopes) at ∙ is)
    scope_moved resources scopes k p n (row ∷ some) is (suc i, within, at) =
        let more = scope_moved resources scopes (suc k) p n some is (i, omega arith, at) in (suc more.0, omega (arith, more.1), more.2)

    resources_there : Covers all (main_of of) 1 (first_ids (resource_ids rows))
    unfolding renewed
    resources_there xs are n within =
        let p = number_there (resource_ids rows) n within in
        subst (λ ids. Contains ids (Some n)) (one_given main 1 (resource_ids (renewed rows)) xs resources_are are)
        (resource_moved (first_ids (resource_ids rows)) (first_ids (scope_ids rows)) 0 p.0 n rows p.2 p.1)

    scopes_there : Covers all (main_of of) 4 (first_ids (scope_ids rows))
    unfolding renewed
    scopes_there xs are n within =
        let p = number_there (scope_ids rows) n within in
        subst (λ ids. Contains ids (Some n)) (one_given main 4 (scope_ids (renewed rows)) xs scopes_are are)
        (scope_moved (first_ids (resource_ids rows)) (first_ids (scope_ids rows)) 0 p.0 n rows p.2 p.1)

    none_known : IsSound []
    none_known = record { covers = λ kind column xs are n within. absurd (omega arith); few = λ kind column. omega arith }

    pub main_sound : IsSound (main_ids (main_of of) rows)
    main_sound =
        sound_with _ (record { kind = main_of of; column = 0; ids = own_ids rows })
        (sound_with _ (record { kind = main_of of; column = 1; ids = first_ids (resource_ids rows) })
        (sound_with [] (record { kind = main_of of; column = 4; ids = first_ids (scope_ids rows) }) none_known scopes_there
        (omega (arith, few_first (scope_ids rows), length-map rows (λ (row : MainRow). row.scope_id), few)))
        resources_there (omega (arith, few_first (resource_ids rows), length-map rows (λ (row : MainRow). row.resource_id), few)))
        own_there (omega (arith, length-map rows (λ (row : MainRow). row.id), few))

    unnamed : (column : ℕ) → (column ≡ 0) ⊎ ((column ≡ 1) ⊎ (column ≡ 4)) → HasNullParent (kept_main (main_of of) (renewed rows)) column → ⊥
    unfolding kept_main
    unnamed column (inl is) null = (main_kind of).own (subst (λ c. name_at (main_of of) c ≡ codes "parent_id") is null.named)
    unnamed column (inr (inl is)) null = (main_kind of).resource (subst (λ c. name_at (main_of of) c ≡ codes "parent_id") is null.named)
    unnamed column (inr (inr is)) null = (main_kind of).scope (subst (λ c. name_at (main_of of) c ≡ codes "parent_id") is null.named)

    pub main_given : AreGiven (kept_main (main_of of) (renewed rows))
    unfolding kept_main
    main_given column id = by column ((main_kind of).ids column id) where
      by : (column : ℕ) → (column ≡ 0) ⊎ ((column ≡ 1) ⊎ (column ≡ 4)) → IsGiven (kept_main (main_of of) (renewed rows)) column
      by column (inl is) = subst (IsGiven (kept_main (main_of of) (renewed rows))) (sym is) (record { ids = own_ids (renewed rows); are = ids.own; parents = unnamed 0 (inl refl) })
      by column (inr (inl is)) =
          subst (IsGiven (kept_main (main_of of) (renewed rows))) (sym is) (record { ids = resource_ids (renewed rows); are = ids.resource; parents = unnamed 1 (inr (inl refl)) })
      by column (inr (inr is)) =
          subst (IsGiven (kept_main (main_of of) (renewed rows))) (sym is) (record { ids = scope_ids (renewed rows); are = ids.scope; parents = unnamed 4 (inr (inr refl)) })

    main_fine : Fine (items (main_of of))
    main_fine wrong is =
        nothing_wrong all main (items (main_of of)) (subst AreGiven (sym (main_named of rows tables)) main_given) (own_once main (Some 0) 0 (running 0 rows) refl own_is (running_once 0 rows))
        (λ none. none) wrong is

    all_fine : AllByRecursion Fine (items (main_of of) ∷ links_below (links_of of))
    all_fine = (
      main_fine,
      fine_links (main_ids (main_of of) rows) (links_below (links_of of)) main_sound (all_below_main of) (links_apart of) (below_names (links_below (links_of of)) (main_apart of)),
    )

    -- NOTHING IS WRONG WITH THE IDS of what is kept
    pub fine_ids : (kind : Kind) (wrong : RowRefusal) → IdDefect of all kind wrong → ⊥
    fine_ids kind wrong defect =
        let listed : Contains (items (main_of of) ∷ links_below (links_of of)) defect.link = subst (λ links. Contains links defect.link) (links_are of) defect.listed in
        each_there Fine (items (main_of of) ∷ links_below (links_of of)) all_fine defect.link listed wrong
        (subst (λ kind. WrongIn all (table_named kind all) defect.link wrong) (sym defect.names) defect.is)
