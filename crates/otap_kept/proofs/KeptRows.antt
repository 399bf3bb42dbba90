-- The main rows that are kept, of any signal.
use Rattle.std.proofs.Common.{◌≡◌, ◌≤◌, ◌^◌, true, Bool, List, [], ◌∷◌, length, ◌∙◌, ap, inl, inr, arith}
use Rattle.std.specs.Prelude.{filter}
use Rattle.std.specs.List.{AllByRecursion}
use Rattle.std.proofs.lemmas.Bool.{cases_Bool}
use Rattle.std.proofs.lemmas.List.FromFn.{length-map-range_with_len}
use Rattle.otlp_model.specs.declared.request.Signal.{Signal}
use Rattle.otlp_model.specs.declared.request.Signal.TheVariants as signal
use Rattle.otlp_model.specs.declared.value.Pair.{Pair}
use Rattle.otap_cells.specs.GivenIds.{ids_in}
use Rattle.otap_cells.specs.Named.{table_named}
use Rattle.otap_cells.specs.Payload.{main_of}
use Rattle.otap_cells.specs.Tables.{Table}
use Rattle.otap_groups.specs.Kinds.{IsMain}
use Rattle.otap_groups.specs.Rows.{main_row_at, main_rows}
use Rattle.otap_checks.specs.Reading.{main_rows_in}
use Rattle.otap_checks.proofs.MainKinds.{logs_are_main, metrics_are_main, spans_are_main}
use Rattle.otap_kept.specs.declared.whose.Whose.{Whose}
use Rattle.otap_kept.specs.Clean.{AreCleanAndLight}
use Rattle.otap_kept.specs.Kept.{is_kept, is_ordered, kept_of, kept_rows}
use Rattle.otap_kept.specs.Rows.{renewed}
use Rattle.otap_kept.proofs.AcceptedTables.{few_rows}
use Rattle.otap_kept.proofs.KeptTables.{main_named}
use Rattle.otap_kept.proofs.MainRows.{IsShaped}
use Rattle.otap_kept.proofs.MainTables.{HasMainIds, kept_main_again, kept_main_ids, shaped_filter, shaped_rows}

pub is_main : (of : Signal) → IsMain (main_of of)
is_main signal.Logs = logs_are_main
is_main signal.Traces = spans_are_main
is_main signal.Metrics = metrics_are_main

pub fewer : {A : Type 0} (test : A → Bool) (xs : List A) → length (filter test xs) ≤ length xs
fewer test [] = omega arith
fewer test (x ∷ xs) =
    let more = fewer test xs in elim (cases_Bool (test x)) [
      | inl t ↦ rw t (omega (arith, more))
      | inr f ↦ rw f (omega (arith, more))
    ]

pub main_count : (t : Table) → length (main_rows_in t) ≡ length t.rows
unfolding main_rows
main_count t = length-map-range_with_len (main_row_at (ids_in t 0) (ids_in t 1) (ids_in t 4) t.rows) 0 (length t.rows)

module _ (of : Signal) (by : Whose) (pair : Pair) (tables : List Table) where
  pub shaped : AllByRecursion IsShaped (kept_rows of by pair tables)
  unfolding kept_rows
  shaped =
      let t : Table = table_named (main_of of) tables in
      shaped_filter (is_kept of by pair tables) (main_rows_in t) (shaped_rows (ids_in t 0) (ids_in t 1) (ids_in t 4) t.rows)

  pub kept_few : AreCleanAndLight of tables → length (kept_rows of by pair tables) ≤ 2 ^ 21
  unfolding kept_rows
  kept_few accepted =
      let t : Table = table_named (main_of of) tables in
      omega (arith, fewer (is_kept of by pair tables) (main_rows_in t), main_count t, few_rows of tables accepted (main_of of))

  module _ (accepted : AreCleanAndLight of tables) (ordered : is_ordered of by pair tables ≡ true) where
    pub main_has_ids : HasMainIds (main_of of) (renewed (kept_rows of by pair tables))
    unfolding is_ordered
    main_has_ids = kept_main_ids (main_of of) (kept_rows of by pair tables) (is_main of) shaped (omega (arith, kept_few accepted)) ordered

    -- the main table that is kept has these rows
    pub main_again : main_rows_in (table_named (main_of of) (kept_of of (kept_rows of by pair tables) tables)) ≡ renewed (kept_rows of by pair tables)
    unfolding is_ordered
    main_again =
        ap main_rows_in (main_named of (kept_rows of by pair tables) tables)
        ∙ kept_main_again (main_of of) (kept_rows of by pair tables) (is_main of) shaped (omega (arith, kept_few accepted)) ordered
