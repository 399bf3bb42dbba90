-- Payloads in which the far end finds all that it checks are accepted, and their tables read as those that were written.
use Rattle.std.proofs.Common.{◌≡◌, ℕ, ◌+◌, ◌≤◌, false, List, [], ◌∷◌, ◌++◌, length, Option, Some, ℤ, inl, inr, refl, sym, ap, ◌∙◌, subst, append-nil, append_assoc, arith}
use Rattle.std.specs.Prelude.{count_by, sum_by}
use Rattle.std.specs.List.{AllByRecursion, filter_map}
use Rattle.std.specs.Option.{IsSome}
use Rattle.std.specs.Ordering.{int_eq}
use Rattle.std.proofs.lemmas.Bool.{cases_Bool}
use Rattle.std.proofs.lemmas.List.Sums.{sum_by-cons, sum_by-le-sum_by}
use Rattle.lists.specs.EachAfter.{EachAfter, AllAfter}
use Rattle.lists.specs.Payloads.{PayloadIn}
use Rattle.otlp_model.specs.Limits.{item_limit}
use Rattle.otlp_model.specs.declared.request.Signal.{Signal}
use Rattle.otap_cells.specs.Cells.{Cell}
use Rattle.otap_cells.specs.GivenIds.{ReadAs}
use Rattle.otap_cells.specs.declared.payload.Kind.{Kind}
use Rattle.otap_cells.specs.Payload.{is_kind, kinds_of, main_of}
use Rattle.otap_cells.specs.Sets.{rows_named}
use Rattle.otap_cells.specs.Tables.{Table}
use Rattle.otap_cells.specs.Weights.{row_weight_limit, weight_of_table, weight_of_row, weight_of_tables}
use Rattle.otap_columns.specs.Limits.{held_of_kind}
use Rattle.otap_columns.specs.Records.{IsRead}
use Rattle.otap_columns.specs.Substreams.{held_in, logical}
use Rattle.otap_columns.specs.Streams.{stream_of}
use Rattle.otap_consume.specs.Defects.{Accepts, HasFineRecords, IsReadAfter, held_after, is_taken, table_of, tables_of}
use Rattle.otap_consume.specs.Limits.{held_limit}
use Rattle.otap_consume.specs.Payloads.{payload_type_of, messages_before}
use Rattle.otap_consume.specs.PayloadTypes.{IsFineType, times}
use Rattle.otap_columns.proofs.Openings.{stream_of-other}
use Rattle.otap_cells.proofs.KindsApart.{is_itself, types_compared}
use Rattle.otap_transit.proofs.Once.{count_hit, count_miss, all_columns}
use Rattle.otap_transit.proofs.Reaching.{Reaches, AreHeld}

module _ (signal : Signal) where
  -- ---- the types

  returned : (before : List Table) (past : List PayloadIn) (t : Table) (p : PayloadIn) (kind : Kind) → Reaches signal before past t p → int_eq p.kind (payload_type_of kind) ≡ is_kind t.kind kind
  returned before past t p kind r = ap (λ (type : ℤ). int_eq type (payload_type_of kind)) r.type ∙ types_compared t.kind kind

  -- a type occurs as often among payloads as its kind among their tables
  as_often : (before : List Table) (past : List PayloadIn) (ts : List Table) (ps : List PayloadIn) (kind : Kind) → EachAfter (Reaches signal) before past ts ps
      → times (payload_type_of kind) ps ≡ count_by (λ t. is_kind t.kind kind) ts
  as_often before past [] [] kind each = refl
  as_often before past [] (p ∷ ps) kind each = absurd each
  as_often before past (t ∷ ts) [] kind each = absurd each
  as_often before past (t ∷ ts) (p ∷ ps) kind each =
      let later : times (payload_type_of kind) ps ≡ count_by (λ t. is_kind t.kind kind) ts = as_often (before ++ t ∷ []) (past ++ p ∷ []) ts ps kind each.1 in
      let same : int_eq p.kind (payload_type_of kind) ≡ is_kind t.kind kind = returned before past t p kind each.0 in
      elim (cases_Bool (is_kind t.kind kind)) [
        | inl own ↦
            count_hit (λ (q : PayloadIn). int_eq q.kind (payload_type_of kind)) p ps (same ∙ own) ∙ ap (λ (n : ℕ). 1 + n) later
            ∙ sym (count_hit (λ (u : Table). is_kind u.kind kind) t ts own)
        | inr other ↦
            count_miss (λ (q : PayloadIn). int_eq q.kind (payload_type_of kind)) p ps (same ∙ other) ∙ later
            ∙ sym (count_miss (λ (u : Table). is_kind u.kind kind) t ts other)
      ]

  fine_types : (all : List PayloadIn) → ((kind : Kind) → times (payload_type_of kind) all ≤ 1) → (before : List Table) (past : List PayloadIn) (ts : List Table) (ps : List PayloadIn)
      → EachAfter (Reaches signal) before past ts ps → AllByRecursion (IsFineType signal all) ps
  fine_types all once before past [] [] each = tt
  fine_types all once before past [] (p ∷ ps) each = absurd each
  fine_types all once before past (t ∷ ts) [] each = absurd each
  fine_types all once before past (t ∷ ts) (p ∷ ps) each = (
    record {
      known = subst (λ (o : Option Kind). IsSome o) (sym each.0.known) refl;
      once = subst (λ (type : ℤ). times type all ≤ 1) (sym each.0.type) (once t.kind);
    },
    fine_types all once (before ++ t ∷ []) (past ++ p ∷ []) ts ps each.1,
  )

  -- ---- the ids and the records

  all_free : (before : List Table) (past : List PayloadIn) (ts : List Table) (ps : List PayloadIn) → EachAfter (Reaches signal) before past ts ps
      → AllAfter (λ before p. is_taken signal before p ≡ false) past ps
  all_free before past [] [] each = tt
  all_free before past [] (p ∷ ps) each = absurd each
  all_free before past (t ∷ ts) [] each = absurd each
  all_free before past (t ∷ ts) (p ∷ ps) each = (each.0.free, all_free (before ++ t ∷ []) (past ++ p ∷ []) ts ps each.1)

  read_after : (before : List Table) (past : List PayloadIn) (t : Table) (p : PayloadIn) → Reaches signal before past t p → IsReadAfter signal past p
  read_after before past t p r kind known =
      let same : Some t.kind ≡ Some kind = sym r.known ∙ known in
      subst (λ (k : Kind). IsRead k (messages_before past p) p.bytes) (cc same) r.read

  all_read : (before : List Table) (past : List PayloadIn) (ts : List Table) (ps : List PayloadIn) → EachAfter (Reaches signal) before past ts ps → HasFineRecords signal past ps
  all_read before past [] [] each = tt
  all_read before past [] (p ∷ ps) each = absurd each
  all_read before past (t ∷ ts) [] each = absurd each
  all_read before past (t ∷ ts) (p ∷ ps) each = (read_after before past t p each.0, all_read (before ++ t ∷ []) (past ++ p ∷ []) ts ps each.1)

  -- ---- the tables

  -- payloads of other types change no sub-stream
  passed_over : (type : ℤ) (past ps : List PayloadIn) → times type ps ≡ 0 → stream_of type (past ++ ps) ≡ stream_of type past
  passed_over type past [] none = ap (stream_of type) (append-nil past)
  passed_over type past (p ∷ ps) none =
      elim (cases_Bool (int_eq p.kind type)) [
        | inl own ↦ absurd (omega (arith, none, count_hit (λ (q : PayloadIn). int_eq q.kind type) p ps own))
        | inr other ↦
            let rest : times type ps ≡ 0 = sym (count_miss (λ (q : PayloadIn). int_eq q.kind type) p ps other) ∙ none in
            ap (stream_of type) (sym (append_assoc past (p ∷ []) ps)) ∙ passed_over type (past ++ p ∷ []) ps rest ∙ stream_of-other type past p other
      ]

  fewer_once : (t : Table) (ts : List Table) → ((kind : Kind) → count_by (λ u. is_kind u.kind kind) (t ∷ ts) ≤ 1) → (kind : Kind) → count_by (λ u. is_kind u.kind kind) ts ≤ 1
  fewer_once t ts once kind =
      elim (cases_Bool (is_kind t.kind kind)) [
        | inl own ↦ omega (arith, once kind, count_hit (λ (u : Table). is_kind u.kind kind) t ts own)
        | inr other ↦ omega (arith, once kind, count_miss (λ (u : Table). is_kind u.kind kind) t ts other)
      ]

  none_later : (t : Table) (ts : List Table) → ((kind : Kind) → count_by (λ u. is_kind u.kind kind) (t ∷ ts) ≤ 1) → count_by (λ u. is_kind u.kind t.kind) ts ≡ 0
  none_later t ts once = omega (arith, once t.kind, count_hit (λ (u : Table). is_kind u.kind t.kind) t ts (is_itself t.kind))

  -- the table of a payload after all payloads of its batch
  table_is : (before : List Table) (past : List PayloadIn) (t : Table) (p : PayloadIn) (later : List PayloadIn) → (r : Reaches signal before past t p) → times (payload_type_of t.kind) later ≡ 0
      → table_of signal (past ++ p ∷ later) p ≡ Some r.table
  table_is before past t p later r none =
      let stream : stream_of p.kind (past ++ p ∷ later) ≡ stream_of p.kind (past ++ p ∷ [])
      = ap (stream_of p.kind) (sym (append_assoc past (p ∷ []) later)) ∙ passed_over p.kind (past ++ p ∷ []) later (subst (λ (type : ℤ). times type later ≡ 0) (sym r.type) none) in
      rw r.known (ap (logical t.kind) stream ∙ r.gives)

  pub all_tables : (before : List Table) (past : List PayloadIn) (ts : List Table) (ps : List PayloadIn) → EachAfter (Reaches signal) before past ts ps
      → ((kind : Kind) → count_by (λ t. is_kind t.kind kind) ts ≤ 1) → ReadAs (filter_map (table_of signal (past ++ ps)) ps) ts
  all_tables before past [] [] each once = tt
  all_tables before past [] (p ∷ ps) each once = absurd each
  all_tables before past (t ∷ ts) [] each once = absurd each
  all_tables before past (t ∷ ts) (p ∷ ps) each once =
      let none : times (payload_type_of t.kind) ps ≡ 0 = as_often (before ++ t ∷ []) (past ++ p ∷ []) ts ps t.kind each.1 ∙ none_later t ts once in
      let later : ReadAs (filter_map (table_of signal ((past ++ p ∷ []) ++ ps)) ps) ts = all_tables (before ++ t ∷ []) (past ++ p ∷ []) ts ps each.1 (fewer_once t ts once) in
      let later_is : ReadAs (filter_map (table_of signal (past ++ p ∷ ps)) ps) ts
      = subst (λ (all : List PayloadIn). ReadAs (filter_map (table_of signal all) ps) ts) (append_assoc past (p ∷ []) ps) later in
      rw (table_is before past t p ps each.0 none) (each.0.reads, later_is)

-- ---- sizes

pub same_rows : (kind : Kind) (tables ts : List Table) → ReadAs tables ts → rows_named kind tables ≡ rows_named kind ts
same_rows kind [] [] read = refl
same_rows kind [] (t ∷ ts) read = absurd read
same_rows kind (u ∷ us) [] read = absurd read
same_rows kind (u ∷ us) (t ∷ ts) read = rw (read.0.same.kind, read.0.same.rows, same_rows kind us ts read.1) refl

pub same_weight : (tables ts : List Table) → ReadAs tables ts → weight_of_tables tables ≡ weight_of_tables ts
same_weight [] [] read = refl
same_weight [] (t ∷ ts) read = absurd read
same_weight (u ∷ us) [] read = absurd read
same_weight (u ∷ us) (t ∷ ts) read =
    let here : weight_of_table u ≡ weight_of_table t = ap (λ (rows : List (List Cell)). sum_by weight_of_row rows) read.0.same.rows in
    omega (arith, here, same_weight us ts read.1, sum_by-cons weight_of_table u us, sum_by-cons weight_of_table t ts)

pub held_little : (signal : Signal) (all : List PayloadIn) → AreHeld all → held_after signal all ≤ held_limit
unfolding held_after
held_little signal all held =
    omega (arith, all_columns signal, sum_by-le-sum_by (λ kind. held_in (stream_of (payload_type_of kind) all)) held_of_kind (kinds_of signal) held)

-- ---- all together

module _ (signal : Signal) (before : List Table) (past : List PayloadIn) (ts : List Table) (ps : List PayloadIn) (each : EachAfter (Reaches signal) before past ts ps)
    (once : (kind : Kind) → count_by (λ t. is_kind t.kind kind) ts ≤ 1) where
  pub tables_read : ReadAs (tables_of signal past ps) ts
  unfolding tables_of
  tables_read = all_tables signal before past ts ps each once

  types_once : (kind : Kind) → times (payload_type_of kind) ps ≤ 1
  types_once kind = omega (arith, as_often signal before past ts ps kind each, once kind)

  pub accepts : AreHeld (past ++ ps) → length (rows_named (main_of signal) ts) ≤ item_limit → weight_of_tables ts ≤ row_weight_limit → Accepts signal past ps
  accepts held items weight = record {
    list = record { types = fine_types signal ps types_once before past ts ps each; ids = all_free signal before past ts ps each };
    records = all_read signal before past ts ps each;
    size = record {
      items = subst (λ (rows : List (List Cell)). length rows ≤ item_limit) (sym (same_rows (main_of signal) (tables_of signal past ps) ts tables_read)) items;
      rows = subst (λ (n : ℕ). n ≤ row_weight_limit) (sym (same_weight (tables_of signal past ps) ts tables_read)) weight;
      holds = held_little signal (past ++ ps) held;
    };
  }
