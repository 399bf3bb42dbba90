-- The tables of a request that is exported are in order, and can be written.
use Rattle.std.proofs.Common.{◌≡◌, ℕ, List, Bool, subst}
use Rattle.std.specs.Prelude.{All, ◌||◌, filter, length, map, nat_lt}
use Rattle.std.proofs.lemmas.List.Elements.{All-weaker}
use Rattle.otlp_model.specs.Telemetry.{signal_of}
use Rattle.otlp_model.specs.declared.request.Request.{Request}
use Rattle.otlp_model.specs.declared.request.Signal.{Signal}
use Rattle.otap_cells.specs.declared.payload.Kind.{Kind}
use Rattle.otap_cells.specs.declared.profile.Coding.{Coding}
use Rattle.otap_cells.specs.Named.{table_named}
use Rattle.otap_cells.specs.Payload.{is_kind, kinds_of, main_of}
use Rattle.otap_cells.specs.Tables.{Table, coding_in, greatest_wide}
use Rattle.otap_cells.specs.Continuing.{continues_in}
use Rattle.otap_cells.specs.ColumnIds.{stored_in}
use Rattle.otap_cells.specs.Ids.{Ids}
use Rattle.otap_groups.specs.ProfileTables.{HasProfileIds, IsProfileTable}
use Rattle.otap_columns.specs.WrittenPayloads.{IsWritableTable}
use Rattle.otap_signals.specs.BySignal.{RequestComesBack, rows_by, tables_of_request}
use Rattle.otap_signals.specs.Signals.{IsWritten}
use Rattle.otap_produce.specs.Policy.{IsExported}
use Rattle.otap_produce.specs.TableOrder.{AreInOrder, HaveWritable}

-- a table of the profile can be written
can_be_written : (t : Table) → IsProfileTable t → IsWritableTable t.kind t
can_be_written t profile = record {
  kind_is = λ i. t.kind;
  table = profile.table;
  coded = λ column id. (profile.columns column id).coded;
  ids = λ column id.
      let has : HasProfileIds t column = profile.columns column id in (
        has.ids,
        subst (λ (how : Coding). Ids how greatest_wide (continues_in t) (stored_in t column) has.ids) has.coded
            (subst (λ (last : ℕ). Ids (coding_in t column) last (continues_in t) (stored_in t column) has.ids) has.wide has.are),
      );
}

-- and so can tables of the profile that are in order
pub profile_writable : (signal : Signal) (ts : List Table) → AreInOrder signal ts → All IsProfileTable ts → HaveWritable signal ts
profile_writable signal ts order profile = record {
  order = order;
  each = All-weaker IsProfileTable (λ (t : Table). IsWritableTable t.kind t) can_be_written ts profile;
}

-- the main table is there, and the others that have rows
abbrev kept : Signal → List Table → Kind → Bool
kept signal ts kind = is_kind kind (main_of signal) || nat_lt 0 (length (table_named kind ts).rows)

writable : (signal : Signal) (ts : List Table) → map (λ t. t.kind) ts ≡ filter (kept signal ts) (kinds_of signal) → All IsProfileTable ts → HaveWritable signal ts
writable signal ts kinds profile = profile_writable signal ts (record { has = kept signal ts; kinds = kinds }) profile

pub exported_writable : ((request : Request) → IsWritten request → RequestComesBack request) → (signal : Signal) (q : Request) → IsExported (rows_by signal) q → HaveWritable signal (tables_of_request q)
exported_writable back signal q exported =
    let here : RequestComesBack q = back q (record { real = exported.real; profile = exported.profile; light = exported.tree }) in
    subst (λ (s : Signal). HaveWritable s (tables_of_request q)) exported.signal (writable (signal_of q) (tables_of_request q) here.order here.profile)
