-- What is kept of a batch that is accepted is fit to be sent.
use Rattle.std.proofs.Common.{◌≡◌, ◌≤◌, ◌++◌, true, false, List, length, refl, ap, sym, subst, arith}
use Rattle.std.specs.Prelude.{All, filter, map, nat_lt, ◌||◌}
use Rattle.otlp_model.specs.Limits.{item_limit, weight_limit}
use Rattle.otlp_model.specs.Weight.{weight_of}
use Rattle.otlp_model.specs.declared.request.Signal.{Signal}
use Rattle.otlp_model.specs.declared.value.Pair.{Pair}
use Rattle.otap_attrs.specs.declared.refusal.RowRefusal.{RowRefusal}
use Rattle.otap_capture.specs.Batch.{BatchContent}
use Rattle.otap_capture.specs.Capture.{Frame}
use Rattle.otap_cells.specs.declared.payload.Kind.{Kind}
use Rattle.otap_cells.specs.Named.{table_named}
use Rattle.otap_cells.specs.Payload.{is_kind, kinds_of, main_of}
use Rattle.otap_cells.specs.Sets.{rows_named}
use Rattle.otap_cells.specs.Tables.{IsTable, Table}
use Rattle.otap_cells.specs.Weights.{row_weight_limit, weight_of_tables}
use Rattle.otap_checks.specs.RowDefects.{RowDefect}
use Rattle.otap_groups.specs.ProfileTables.{IsProfileTable}
use Rattle.otap_signals.specs.BySignal.{meaning_by, request_in}
use Rattle.otap_kept.specs.declared.whose.Whose.{Whose}
use Rattle.otap_kept.specs.Clean.{AreCleanAndLight}
use Rattle.otap_kept.specs.Filtered.{IsNoHeavier, MeansFilter}
use Rattle.otap_kept.specs.Kept.{is_ordered, kept}
use Rattle.otap_consume.specs.Defects.{IsWithinLimits, held_after}
use Rattle.otap_consume.specs.LateStages.{HasFineRows}
use Rattle.otap_consume.specs.Outcomes.{Outcome, Accepted, OutcomeAfter, is_broken, payloads_after}
use Rattle.otap_consume.specs.Receiving.{ReceivedAfter}
use Rattle.otap_consume.proofs.Formats.{settles_accepted}
use Rattle.otap_consume.proofs.Regrouping.{GivesBatch, accepted_batch}
use Rattle.otap_produce.specs.TableOrder.{AreInOrder}
use Rattle.otap_transit.specs.Arrivals.{AreFit}
use Rattle.otap_transit.proofs.Faithful.{named_rows}

-- ---- the laws of the crates below

abbrev pub IsKeptOrder : Signal → List Table → Type 0
IsKeptOrder of tables =
    map (λ t. t.kind) tables ≡ filter (λ kind. is_kind kind (main_of of) || nat_lt 0 (length (table_named kind tables).rows)) (kinds_of of)

pub in_kept_order : (of : Signal) (tables : List Table) → IsKeptOrder of tables → AreInOrder of tables
in_kept_order of tables order = record { has = λ kind. is_kind kind (main_of of) || nat_lt 0 (length (table_named kind tables).rows); kinds = order }

-- what is true of all that is kept
pub record KeptLaws : Type 0 where
  pub profile : (of : Signal) (whose : Whose) (pair : Pair) (tables : List Table) → AreCleanAndLight of tables → All IsTable tables
      → is_ordered of whose pair tables ≡ true
      → All IsProfileTable (kept of whose pair tables)
  pub order : (of : Signal) (whose : Whose) (pair : Pair) (tables : List Table) → IsKeptOrder of (kept of whose pair tables)
  pub items : (of : Signal) (whose : Whose) (pair : Pair) (tables : List Table)
      → length (table_named (main_of of) (kept of whose pair tables)).rows ≤ length (table_named (main_of of) tables).rows
  pub rows : (of : Signal) (whose : Whose) (pair : Pair) (tables : List Table) → weight_of_tables (kept of whose pair tables) ≤ weight_of_tables tables
  pub clean : (of : Signal) (whose : Whose) (pair : Pair) (tables : List Table) → AreCleanAndLight of tables → is_ordered of whose pair tables ≡ true
      → (kind : Kind) (wrong : RowRefusal) → RowDefect of (kept of whose pair tables) kind wrong → ⊥
  pub light : (of : Signal) (whose : Whose) (pair : Pair) (tables : List Table) → AreCleanAndLight of tables → is_ordered of whose pair tables ≡ true
      → IsNoHeavier of whose pair tables
  pub tells : (of : Signal) (whose : Whose) (pair : Pair) (tables : List Table) → AreCleanAndLight of tables → is_ordered of whose pair tables ≡ true
      → MeansFilter of whose pair tables

-- tables of the profile are fit
abbrev pub ProfileTablesFit : Type 0
ProfileTablesFit = (of : Signal) (tables : List Table) → AreInOrder of tables → All IsProfileTable tables → length (rows_named (main_of of) tables) ≤ item_limit
    → weight_of_tables tables ≤ row_weight_limit → HasFineRows (meaning_by of) tables → AreFit (meaning_by of) tables

-- ---- the tables of a batch that is accepted

pub record HaveBeenAccepted (of : Signal) (tables : List Table) : Type 0 where
  pub accepted : AreCleanAndLight of tables
  pub items : length (rows_named (main_of of) tables) ≤ item_limit
  pub tree : weight_of (request_in of tables) ≤ weight_limit

pub have_been : (of : Signal) (before : List Outcome) (frame : Frame) (batch : BatchContent) (tables : List Table)
    → ReceivedAfter (meaning_by of) before frame (Accepted batch tables) → HaveBeenAccepted of tables
have_been of before frame batch tables received =
    let settled : (received.seen ≡ Accepted batch tables) × HasFineRows (meaning_by of) tables
    = settles_accepted (meaning_by of) received.seen (Accepted batch tables) batch tables refl received.settles in
    let given : (is_broken before ≡ false) × GivesBatch of (payloads_after before) frame batch tables
    = accepted_batch of before frame batch tables (subst (OutcomeAfter of before frame) settled.0 received.gives) in
    let held = held_after of (payloads_after before ++ batch.payloads) in
    let within : IsWithinLimits of tables held = subst (λ (ts : List Table). IsWithinLimits of ts held) (sym given.1.are) given.1.accepts.size in
    record {
      accepted = record { clean = settled.1.clean; light = within.rows };
      items = within.items;
      tree = settled.1.light;
    }

-- ---- what is kept of them

module _ (laws : KeptLaws) (fits : ProfileTablesFit) (of : Signal) (whose : Whose) (pair : Pair) (tables : List Table) where
  abbrev now : List Table
  now = kept of whose pair tables

  pub fit_kept : HaveBeenAccepted of tables → All IsTable tables → is_ordered of whose pair tables ≡ true → AreFit (meaning_by of) now
  fit_kept given sound ordered =
      fits of now (in_kept_order of now (laws.order of whose pair tables)) (laws.profile of whose pair tables given.accepted sound ordered)
      (omega (
        arith,
        ap length (named_rows (main_of of) now),
        laws.items of whose pair tables,
        ap length (named_rows (main_of of) tables),
        given.items,
      ))
      (omega (arith, laws.rows of whose pair tables, given.accepted.light))
      (record {
        clean = laws.clean of whose pair tables given.accepted ordered;
        light = omega (arith, laws.light of whose pair tables given.accepted ordered, given.tree);
      })
