-- What a batch weighs and holds as a whole.
use Rattle.std.proofs.Common.{◌≡◌, ℕ, ◌*◌, ◌^◌, ◌<◌, ◌≤◌, min, List, [], ◌∷◌, length, get_or, Option, Some, None, ℤ, refl, sym, ap, ◌∙◌, arith}
use Rattle.std.specs.Prelude.{sum_by}
use Rattle.std.proofs.lemmas.List.Sums.{sum_by-cons}
use Rattle.otlp_model.specs.declared.request.Signal.{Signal}
use Rattle.otap_cells.specs.declared.payload.Kind.{Kind}
use Rattle.otap_cells.specs.Payload.{kinds_of}
use Rattle.otap_cells.specs.Tables.{Table}
use Rattle.otap_cells.specs.Weights.{row_weight_limit, weight_of_table, weight_of_tables}
use Rattle.lists.proofs.Latest.{last_after-none}
use Rattle.lists.specs.Payloads.{PayloadIn}
use Rattle.otap_columns.specs.Streams.{of_type, stream_of, last_of}
use Rattle.otap_columns.specs.Substreams.{held_in, substream_in}
use Rattle.otap_consume.specs.Defects.{held_after}
use Rattle.otap_consume.specs.Payloads.{payload_type_of}
use Rattle.otap_consume.specs.Sizes.{count_of_rows}
use Rattle.otap_consume.specs.Streams.{OpenIn, StreamIn, IsOpenAfter, AreAfter, kinds_in}
use Rattle.otap_consume.specs.StreamSteps.{held_if, held_of}
use Rattle.lists.proofs.MadeSums.{sum_of_map}
use Rattle.otap_consume.proofs.Lists.{sum_same}
use Rattle.otap_columns.proofs.RowsAdded.{rows_weigh}

tables_weigh : (tables : List Table) → 32 * count_of_rows tables ≤ weight_of_tables tables
tables_weigh [] = omega arith
tables_weigh (table ∷ tables) =
    omega (
      arith,
      sum_by-cons (λ (t : Table). length t.rows) table tables,
      sum_by-cons weight_of_table table tables,
      rows_weigh table.rows,
      tables_weigh tables,
    )

-- the number of rows alone is too heavy
pub too_many_rows : (tables : List Table) (count : ℕ) → count ≡ min (count_of_rows tables) (2 ^ 63) → row_weight_limit < 32 * count → row_weight_limit < weight_of_tables tables
too_many_rows tables count is many = omega (arith, tables_weigh tables)

-- ---- what is held

-- a type without earlier payloads has no messages in its sub-stream
no_messages : (type : ℤ) (payloads : List PayloadIn) → last_of type payloads ≡ None → stream_of type payloads ≡ []
unfolding stream_of
no_messages type payloads none = rw (last_after-none (of_type type payloads) none) refl

held_nothing : held_in [] ≡ 0
unfolding held_in substream_in
held_nothing = refl

held_at : (payloads : List PayloadIn) (kind : Kind) (last : Option PayloadIn) (current : Option OpenIn) → last_of (payload_type_of kind) payloads ≡ last
    → IsOpenAfter payloads kind last current → held_if current ≡ held_in (stream_of (payload_type_of kind) payloads)
unfolding held_in
held_at payloads kind None None is h = sym (ap held_in (no_messages (payload_type_of kind) payloads is) ∙ held_nothing)
held_at payloads kind None (Some current) is h = absurd h
held_at payloads kind (Some last) None is h = absurd h
held_at payloads kind (Some last) (Some current) is h = rw h.stands.stands refl

pub held_are : (signal : Signal) (payloads : List PayloadIn) (streams : List StreamIn) → kinds_in streams ≡ kinds_of signal → AreAfter payloads streams
    → sum_by held_of streams ≡ held_after signal payloads
unfolding held_after
held_are signal payloads streams same are =
    let held : Kind → ℕ = λ kind. held_in (stream_of (payload_type_of kind) payloads) in
    sum_same held_of (λ (s : StreamIn). held s.kind) streams
    (λ k d inside. held_at payloads (get_or streams k d).kind (last_of (payload_type_of (get_or streams k d).kind) payloads) (get_or streams k d).current refl (are k d inside).current)
    ∙ sym (sum_of_map held (λ (s : StreamIn). s.kind) streams) ∙ ap (sum_by held) same
