-- The main rows that are kept, by their places.
use Rattle.std.proofs.Common.{◌≡◌, ℕ, suc, ◌+◌, ◌<◌, Bool, true, false, List, [], ◌∷◌, length, get_or, map, Option, Some, None, refl, sym, ap, subst, ◌∙◌, inl, inr, arith}
use Rattle.std.specs.Prelude.{All, Contains, filter}
use Rattle.std.specs.List.{AllByRecursion, range_with_len}
use Rattle.std.proofs.lemmas.Bool.{cases_Bool}
use Rattle.std.proofs.lemmas.List.Elements.{All-from_recursion}
use Rattle.otlp_model.specs.declared.request.Signal.{Signal}
use Rattle.otlp_model.specs.declared.request.Signal.TheVariants as signal
use Rattle.otlp_model.specs.declared.value.Pair.{Pair}
use Rattle.otap_cells.specs.declared.payload.Kind.{Kind}
use Rattle.otap_cells.specs.declared.payload.Kind.TheVariants as table
use Rattle.otap_cells.specs.Columns.{is_id_at}
use Rattle.otap_cells.specs.Continuing.{has_attributes}
use Rattle.otap_cells.specs.GivenIds.{ids_in}
use Rattle.otap_cells.specs.Named.{table_named}
use Rattle.otap_cells.specs.Payload.{main_of}
use Rattle.otap_cells.specs.Tables.{Table}
use Rattle.otap_groups.specs.Rows.{MainRow, id_at, main_rows}
use Rattle.otap_attrs.specs.Index.{pairs_in}
use Rattle.otap_checks.specs.declared.signals.TableLink.{TableLink}
use Rattle.otap_checks.specs.Links.{attributes_link, links_of}
use Rattle.otap_checks.specs.Reading.{main_rows_in}
use Rattle.otap_checks.specs.Rules.{pairs, rules_of}
use Rattle.otap_checks.specs.ValueDefects.{HasFineValues}
use Rattle.otap_kept.specs.declared.whose.Whose.{Whose}
use Rattle.otap_kept.specs.declared.whose.Whose.TheVariants as whose
use Rattle.otap_kept.specs.Clean.{AreCleanAndLight}
use Rattle.otap_kept.specs.Holding.{is_among, looked_at, main_row_in, places_among}
use Rattle.otap_kept.specs.Kept.{has, is_kept, kept_rows}
use Rattle.otap_kept.proofs.KeptRows.{is_main}

-- ---- places

-- the rows at the places of ids that are among numbers are those that pass a test, where that is the same
pub places_filter : {A : Type 0} (numbers : List ℕ) (f : ℕ → A) (test : A → Bool) (n : ℕ) (ids : List (Option ℕ))
    → ((k place : ℕ) → place ≡ n + k → k < length ids → is_among numbers (get_or ids k None) ≡ test (f place))
    → map f (places_among numbers n ids) ≡ filter test (map f (range_with_len n (length ids)))
places_filter numbers f test n [] same = refl
places_filter numbers f test n (id ∷ ids) same =
    let here : is_among numbers id ≡ test (f n) = same 0 n (omega arith) (omega arith) in
    let more = places_filter numbers f test (suc n) ids (λ k place is within. same (suc k) place (omega (arith, is)) (omega (arith, within)))
    ∙ ap (λ m. filter test (map f (range_with_len m (length ids)))) (let e : suc n ≡ n + 1 = omega arith in e) in
    elim (cases_Bool (test (f n))) [
      | inl t ↦ rw (here ∙ t, t) (ap (λ (rows : List _). f n ∷ rows) more)
      | inr off ↦ rw (here ∙ off, off) more
    ]

places_below : (numbers : List ℕ) (n to : ℕ) (ids : List (Option ℕ)) → to ≡ n + length ids → AllByRecursion (λ place. place < to) (places_among numbers n ids)
places_below numbers n to [] is = tt
places_below numbers n to (id ∷ ids) is =
    let more = places_below numbers (suc n) to ids (omega (arith, is)) in
    elim (cases_Bool (is_among numbers id)) [
      | inl t ↦ rw t (omega (arith, is), more)
      | inr f ↦ rw f more
    ]

pub places_within : (numbers : List ℕ) (ids : List (Option ℕ)) (to : ℕ) → to ≡ length ids → All (λ place. place < to) (places_among numbers 0 ids)
places_within numbers ids to is = All-from_recursion (λ place. place < to) (places_among numbers 0 ids) (places_below numbers 0 to ids (omega (arith, is)))

-- ---- what is looked at

-- the table has attributes, and is one of the signal's; the column has ids
pub record IsLookedAt (of : Signal) (kind : Kind) (column : ℕ) : Type 0 where
  pub kinds : has_attributes kind ≡ true
  pub ids : is_id_at (main_of of) column ≡ true
  pub link : TableLink
  pub listed : Contains (links_of of) link
  pub names : link.kind ≡ kind
  pub rule : Contains (rules_of of) (pairs kind)

abbrev IsLookedIf : Signal → Option (Kind × ℕ) → Type 0
IsLookedIf of None = Unit {0}
IsLookedIf of (Some at) = IsLookedAt of at.0 at.1

each_looked : (of : Signal) (by : Whose) → IsLookedIf of (looked_at of by)
unfolding links_of rules_of
each_looked signal.Logs whose.Resource = record { kinds = refl; ids = (is_main signal.Logs).resource_id; link = attributes_link table.ResourceAttrs table.Logs 1; listed = (1, omega arith, refl); names = refl; rule = (1, omega arith, refl) }
each_looked signal.Traces whose.Resource = record { kinds = refl; ids = (is_main signal.Traces).resource_id; link = attributes_link table.ResourceAttrs table.Spans 1; listed = (1, omega arith, refl); names = refl; rule = (0, omega arith, refl) }
each_looked signal.Metrics whose.Resource = record { kinds = refl; ids = (is_main signal.Metrics).resource_id; link = attributes_link table.ResourceAttrs table.Metrics 1; listed = (1, omega arith, refl); names = refl; rule = (4, omega arith, refl) }
each_looked signal.Logs whose.Item = record { kinds = refl; ids = (is_main signal.Logs).id; link = attributes_link table.LogAttrs table.Logs 0; listed = (3, omega arith, refl); names = refl; rule = (3, omega arith, refl) }
each_looked signal.Traces whose.Item = record { kinds = refl; ids = (is_main signal.Traces).id; link = attributes_link table.SpanAttrs table.Spans 0; listed = (3, omega arith, refl); names = refl; rule = (2, omega arith, refl) }
each_looked signal.Metrics whose.Item = tt

pub looked : (of : Signal) (by : Whose) (kind : Kind) (column : ℕ) → looked_at of by ≡ Some (kind, column) → IsLookedAt of kind column
looked of by kind column is = subst (IsLookedIf of) is (each_looked of by)

pub looked_fine : (of : Signal) (tables : List Table) (kind : Kind) (column : ℕ) → AreCleanAndLight of tables → IsLookedAt of kind column
    → HasFineValues tables kind
looked_fine of tables kind column accepted is = λ wrong bad. accepted.clean kind wrong (inr (record { rule = pairs kind; listed = is.rule; names = refl; is = bad }))

-- whether a row is kept, by the pairs of its owner
module _ (pair : Pair) (tables : List Table) (t : Table) (k : ℕ) where
  abbrev by_owner : Option (Kind × ℕ) → Bool
  by_owner None = false
  by_owner (Some at) = has pair (pairs_in (table_named at.0 tables) (id_at (ids_in t at.1) k))

  each_kept : (of : Signal) (by : Whose) → is_kept of by pair tables (main_row_in t k) ≡ by_owner (looked_at of by)
  each_kept signal.Logs whose.Resource = refl
  each_kept signal.Traces whose.Resource = refl
  each_kept signal.Metrics whose.Resource = refl
  each_kept signal.Logs whose.Item = refl
  each_kept signal.Traces whose.Item = refl
  each_kept signal.Metrics whose.Item = refl

  pub kept_by : (of : Signal) (by : Whose) (kind : Kind) (column : ℕ) → looked_at of by ≡ Some (kind, column)
      → is_kept of by pair tables (main_row_in t k) ≡ has pair (pairs_in (table_named kind tables) (id_at (ids_in t column) k))
  kept_by of by kind column is = each_kept of by ∙ ap by_owner is

-- ---- the rows

none_left : {A : Type 0} (test : A → Bool) (xs : List A) → ((x : A) → test x ≡ false) → filter test xs ≡ []
none_left test [] none = refl
none_left test (x ∷ xs) none = rw (none x) (none_left test xs none)

abbrev where_looked : Option (Kind × ℕ) → Bool → Bool
where_looked None kept = false
where_looked (Some at) kept = kept

looked_or_none : (of : Signal) (by : Whose) (pair : Pair) (tables : List Table) (row : MainRow)
    → is_kept of by pair tables row ≡ where_looked (looked_at of by) (is_kept of by pair tables row)
looked_or_none signal.Logs whose.Resource pair tables row = refl
looked_or_none signal.Traces whose.Resource pair tables row = refl
looked_or_none signal.Metrics whose.Resource pair tables row = refl
looked_or_none signal.Logs whose.Item pair tables row = refl
looked_or_none signal.Traces whose.Item pair tables row = refl
looked_or_none signal.Metrics whose.Item pair tables row = refl

module _ (of : Signal) (by : Whose) (pair : Pair) (tables : List Table) where
  abbrev main : Table
  main = table_named (main_of of) tables

  -- where nothing is looked at, none is kept
  pub kept_none : looked_at of by ≡ None → kept_rows of by pair tables ≡ []
  unfolding kept_rows
  kept_none is = none_left (is_kept of by pair tables) (main_rows_in main)
      (λ row. looked_or_none of by pair tables row ∙ ap (λ at. where_looked at (is_kept of by pair tables row)) is)

  -- THE ROWS THAT ARE KEPT, by the ids that have the pair
  pub kept_at : (kind : Kind) (column : ℕ) → looked_at of by ≡ Some (kind, column) → (holders : List ℕ)
      → ((id : Option ℕ) → is_among holders id ≡ has pair (pairs_in (table_named kind tables) id))
      → length (ids_in main column) ≡ length main.rows → map (main_row_in main) (places_among holders 0 (ids_in main column)) ≡ kept_rows of by pair tables
  unfolding kept_rows main_rows
  kept_at kind column is holders hold long =
      places_filter holders (main_row_in main) (is_kept of by pair tables) 0 (ids_in main column)
      (λ k place at within. hold (get_or (ids_in main column) k None) ∙ sym (kept_by pair tables main k of by kind column is) ∙ ap (λ n. is_kept of by pair tables (main_row_in main n)) (let e : k ≡ place = omega (arith, at) in e))
      ∙ ap (λ n. filter (is_kept of by pair tables) (map (main_row_in main) (range_with_len 0 n))) long
