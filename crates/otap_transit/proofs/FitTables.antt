-- Tables of the profile with which nothing is wrong are fit to be sent: cells and ids decide what is wrong with tables that read as
-- these.
use Rattle.std.proofs.Common.{◌≡◌, ◌≤◌, List, length, sym, subst}
use Rattle.std.specs.Prelude.{All}
use Rattle.std.proofs.lemmas.List.Elements.{All-weaker}
use Rattle.otlp_model.specs.Limits.{item_limit, weight_limit}
use Rattle.otlp_model.specs.Weight.{weight_of}
use Rattle.otlp_model.specs.declared.request.Request.{Request}
use Rattle.otlp_model.specs.declared.request.Signal.{Signal}
use Rattle.otap_attrs.specs.declared.refusal.RowRefusal.{RowRefusal}
use Rattle.otap_cells.specs.declared.payload.Kind.{Kind}
use Rattle.otap_cells.specs.GivenIds.{ReadAs}
use Rattle.otap_cells.specs.Payload.{main_of}
use Rattle.otap_cells.specs.Sets.{rows_named}
use Rattle.otap_cells.specs.Tables.{Table}
use Rattle.otap_cells.specs.Weights.{row_weight_limit, weight_of_tables}
use Rattle.otap_groups.specs.ProfileTables.{IsProfileTable, HasProfileIds}
use Rattle.otap_checks.specs.Reading.{HasAllIds}
use Rattle.otap_checks.specs.RowDefects.{RowDefect}
use Rattle.otap_consume.specs.LateStages.{HasFineRows}
use Rattle.otap_signals.specs.BySignal.{meaning_by, request_in}
use Rattle.otap_produce.specs.TableOrder.{HaveWritable}
use Rattle.otap_transit.specs.Arrivals.{AreFit}

-- tables of the profile have ids
pub all_ids : (t : Table) → IsProfileTable t → HasAllIds t
all_ids t profile column is_id = let has : HasProfileIds t column = profile.columns column is_id in (has.ids, has.are)

module _ (request : (signal : Signal) (tables others : List Table) → ReadAs tables others → All HasAllIds others → request_in signal tables ≡ request_in signal others)
    (wrong : (signal : Signal) (tables others : List Table) → ReadAs tables others → All HasAllIds others
    → (kind : Kind) (why : RowRefusal) → RowDefect signal tables kind why → RowDefect signal others kind why)
  where
    pub fit : (signal : Signal) (tables : List Table) → HaveWritable signal tables → All IsProfileTable tables → length (rows_named (main_of signal) tables) ≤ item_limit
        → weight_of_tables tables ≤ row_weight_limit → HasFineRows (meaning_by signal) tables → AreFit (meaning_by signal) tables
    fit signal tables writable profile items rows fine = record {
      writable = writable;
      items = items;
      rows = rows;
      fine = λ read same.
          let given : All HasAllIds tables = All-weaker IsProfileTable HasAllIds all_ids tables profile in
          let one : request_in signal read ≡ request_in signal tables = request signal read tables same given in
          record {
            clean = λ kind why stands. fine.clean kind why (wrong signal read tables same given kind why stands);
            light = subst (λ (now : Request). weight_of now ≤ weight_limit) (sym one) fine.light;
          };
    }
