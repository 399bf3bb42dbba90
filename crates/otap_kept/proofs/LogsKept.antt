-- The law for logs.
use Rattle.std.proofs.Common.{◌≡◌, ℕ, true, List, Option, refl, sym, ◌∙◌, ap, subst, arith}
use Rattle.std.specs.Prelude.{filter}
use Rattle.std.proofs.lemmas.List.{length-map}
use Rattle.otlp_model.specs.Same.{SameLogRecord, SameOften}
use Rattle.otlp_model.specs.Telemetry.{log_record, told_as}
use Rattle.otlp_model.specs.Weight.{total, weight_of_log_record, weight_of_pair}
use Rattle.otlp_model.specs.declared.request.Signal.TheVariants as signal
use Rattle.otlp_model.specs.declared.value.Pair.{Pair}
use Rattle.otap_cells.specs.declared.payload.Kind.TheVariants as table
use Rattle.otap_cells.specs.Cells.{Cell}
use Rattle.otap_cells.specs.Named.{table_named}
use Rattle.otap_cells.specs.Tables.{Table}
use Rattle.otap_groups.specs.Rows.{MainRow}
use Rattle.otap_attrs.specs.Index.{attribute_rows_in, pairs_in}
use Rattle.otap_checks.specs.Links.{items, links_of}
use Rattle.otap_checks.specs.Reading.{main_rows_in}
use Rattle.otap_checks.proofs.MainKinds.{logs_are_main}
use Rattle.otap_logs.specs.Records.{record_of}
use Rattle.otap_logs.specs.Requests.{record_in, regrouped_logs}
use Rattle.otap_kept.specs.declared.whose.Whose.{Whose}
use Rattle.otap_kept.specs.declared.whose.Whose.TheVariants as whose
use Rattle.otap_kept.specs.Clean.{AreCleanAndLight}
use Rattle.otap_kept.specs.Filtered.{IsNoHeavier, MeansFilter, entry_has}
use Rattle.otap_kept.specs.Kept.{is_kept, is_ordered, kept, kept_of, kept_rows}
use Rattle.otap_kept.specs.Numbers.{first_ids}
use Rattle.otap_kept.specs.Rows.{own_ids, resource_ids, scope_ids, under}
use Rattle.otap_kept.specs.Tables.{kept_attributes}
use Rattle.otap_kept.proofs.AcceptedTables.{rows_apart}
use Rattle.otap_kept.proofs.AnySignal.{AreKept, of_resources, of_scopes, tells_filter, weighs_no_more}
use Rattle.otap_kept.proofs.AttributeTables.{AreLow, kept_pairs}
use Rattle.otap_kept.proofs.KeptRows.{kept_few, main_again}
use Rattle.otap_kept.proofs.KeptTables.{below_named}
use Rattle.otap_kept.proofs.MainTables.{under_low}
use Rattle.otap_kept.proofs.NewNumbers.{AreApart}
use Rattle.otap_kept.proofs.PairsBelow.{attributes_under, pairs_by_place, pairs_under}
use Rattle.otap_kept.proofs.RenewedWeigh.{kept_pairs_weigh}
use Rattle.otap_kept.proofs.RowsTold.{entry_of_row}

same_record : (cells : List Cell) (xs ys : List Pair) → SameOften xs ys → SameLogRecord (record_of cells xs) (record_of cells ys)
unfolding record_of
same_record cells xs ys same = record { scalars = refl; pairs = same }

record_weighs : (cells : List Cell) (xs ys : List Pair) → total 32 weight_of_pair xs ≡ total 32 weight_of_pair ys → weight_of_log_record (record_of cells xs) ≡ weight_of_log_record (record_of cells ys)
unfolding record_of
record_weighs cells xs ys same = omega (arith, same)

-- the pairs of a record
abbrev pairs_found : List Table → Option ℕ → List Pair
pairs_found ts = pairs_in (table_named table.LogAttrs ts)

module _ (by : Whose) (pair : Pair) (tables : List Table) where
  abbrev rows : List MainRow
  rows = kept_rows signal.Logs by pair tables

  abbrev all : List Table
  all = kept_of signal.Logs rows tables

  abbrev pairs_before : Option ℕ → List Pair
  pairs_before = pairs_under (own_ids rows) (table_named table.LogAttrs tables)

  resources_named : table_named table.ResourceAttrs all ≡ attributes_under table.ResourceAttrs (first_ids (resource_ids rows)) (table_named table.ResourceAttrs tables)
  unfolding links_of kept_attributes
  resources_named = below_named signal.Logs rows tables table.ResourceAttrs refl

  scopes_named : table_named table.ScopeAttrs all ≡ attributes_under table.ScopeAttrs (first_ids (scope_ids rows)) (table_named table.ScopeAttrs tables)
  unfolding links_of kept_attributes
  scopes_named = below_named signal.Logs rows tables table.ScopeAttrs refl

  pairs_named : table_named table.LogAttrs all ≡ attributes_under table.LogAttrs (own_ids rows) (table_named table.LogAttrs tables)
  unfolding links_of kept_attributes
  pairs_named = below_named signal.Logs rows tables table.LogAttrs refl

  tests : (row : MainRow) → is_kept signal.Logs by pair tables row ≡ entry_has by pair (told_as log_record (entry_of_row (of_resources tables) (of_scopes tables) (record_in tables) row))
  unfolding record_of
  tests row = by_whose by row where
    by_whose : (by : Whose) (row : MainRow) → is_kept signal.Logs by pair tables row ≡ entry_has by pair (told_as log_record (entry_of_row (of_resources tables) (of_scopes tables) (record_in tables) row))
    by_whose whose.Item row = refl
    by_whose whose.Resource row = refl

  are : rows ≡ filter (λ row. entry_has by pair (told_as log_record (entry_of_row (of_resources tables) (of_scopes tables) (record_in tables) row))) (main_rows_in (table_named table.Logs tables))
  unfolding kept_rows
  are = λ i. filter (λ row. tests row i) (main_rows_in (table_named table.Logs tables))

  rows_are : rows ≡ filter (is_kept signal.Logs by pair tables) (main_rows_in (table_named table.Logs tables))
  unfolding kept_rows
  rows_are = refl

  module _ (accepted : AreCleanAndLight signal.Logs tables) (ordered : is_ordered signal.Logs by pair tables ≡ true) where
    own_apart : AreApart (own_ids rows)
    unfolding links_of kept_rows
    own_apart = rows_apart signal.Logs tables accepted (items table.Logs) (0, omega arith, refl) refl logs_are_main.id (is_kept signal.Logs by pair tables)

    low : AreLow (under (own_ids rows) (attribute_rows_in (table_named table.LogAttrs tables)))
    low =
        under_low (own_ids rows) (omega (arith, length-map rows (λ (row : MainRow). row.id), kept_few signal.Logs by pair tables accepted))
        (attribute_rows_in (table_named table.LogAttrs tables))

    kept_as : AreKept table.Logs pairs_found pairs_before tables all rows
    kept_as = record {
      main_rows = main_again signal.Logs by pair tables accepted ordered;
      resources = resources_named;
      scopes = scopes_named;
      few = omega (arith, kept_few signal.Logs by pair tables accepted);
      by_place = pairs_by_place (own_ids rows) (table_named table.LogAttrs tables) own_apart;
    }

    same : (id : Option ℕ) (cells : List Cell) → SameLogRecord (record_of cells (pairs_before id)) (record_of cells (pairs_found all id))
    same id cells =
        subst (λ (t : Table). SameLogRecord (record_of cells (pairs_before id)) (record_of cells (pairs_in t id))) (sym pairs_named)
        (same_record cells _ _ (kept_pairs table.LogAttrs (under (own_ids rows) (attribute_rows_in (table_named table.LogAttrs tables))) refl low id))

    pub logs_tell : MeansFilter signal.Logs by pair tables
    unfolding kept regrouped_logs
    logs_tell = tells_filter table.Logs record_of pairs_found pairs_before tables all rows kept_as SameLogRecord log_record (λ a b same. same) same (entry_has by pair) are

    weighs : (id : Option ℕ) (cells : List Cell) → weight_of_log_record (record_of cells (pairs_before id)) ≡ weight_of_log_record (record_of cells (pairs_found all id))
    weighs id cells =
        record_weighs cells _ _ (kept_pairs_weigh table.LogAttrs (under (own_ids rows) (attribute_rows_in (table_named table.LogAttrs tables))) refl low id)
        ∙ ap (λ (t : Table). weight_of_log_record (record_of cells (pairs_in t id))) (sym pairs_named)

    pub logs_light : IsNoHeavier signal.Logs by pair tables
    unfolding kept regrouped_logs
    logs_light = weighs_no_more table.Logs record_of pairs_found pairs_before tables all rows kept_as weight_of_log_record weighs (is_kept signal.Logs by pair tables) rows_are
