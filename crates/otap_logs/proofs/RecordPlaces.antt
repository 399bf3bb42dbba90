-- A record's own cells come in its row after the nine of the front.
use Rattle.std.proofs.Common.{◌≡◌, ℕ, ◌+◌, ◌^◌, ◌<◌, List, [], ◌∷◌, map, drop, length, get_or, ◌∙◌, sym, ap, arith}
use Rattle.std.specs.Prelude.{min, sum}
use Rattle.std.proofs.lemmas.List.{get_or-map, get_or-drop, length-map, drop-drop}
use Rattle.otlp_model.specs.Weight.{total, weight_of_log_record, weight_of_pair, weight_of_value}
use Rattle.otlp_model.specs.declared.value.Pair.{Pair}
use Rattle.otlp_model.specs.declared.logs.LogRecord.{LogRecord}
use Rattle.otap_cells.specs.Cells.{Cell, null, bytes_in, nat_in, cell_at}
use Rattle.otap_cells.specs.Scalars.{int_in, bits_in}
use Rattle.otap_cells.specs.Tables.{cell_in}
use Rattle.otap_attrs.specs.Values.{value_in}
use Rattle.otap_logs.specs.Records.{record_of}

-- the own cells of a row
abbrev pub own_cells : List (List Cell) → ℕ → List Cell
own_cells rows row = get_or (map (drop 9) rows) row []

own_row : (rows : List (List Cell)) (row : ℕ) → row < length rows → own_cells rows row ≡ drop 9 (get_or rows row [])
own_row rows row within = get_or-map (drop 9) rows row [] [] within

pub own_cell : (rows : List (List Cell)) (row k : ℕ) → row < length rows → cell_at (own_cells rows row) k ≡ cell_in rows (9 + k) row
own_cell rows row k within = rw (own_row rows row within) (get_or-drop 9 (get_or rows row []) k null)

own_value : (rows : List (List Cell)) (row : ℕ) → row < length rows → drop 15 (get_or rows row []) ≡ drop 6 (own_cells rows row)
own_value rows row within = rw (own_row rows row within) (sym (drop-drop 6 9 (get_or rows row [])))

pub record_read : (log : LogRecord) (rows : List (List Cell)) (row : ℕ) (pairs : List Pair) → row < length (map (drop 9) rows)
    → log.time ≡ bits_in (cell_in rows 9 row) → log.observed ≡ bits_in (cell_in rows 10 row)
    → log.trace_id ≡ bytes_in (cell_in rows 11 row) → log.span_id ≡ bytes_in (cell_in rows 12 row)
    → log.severity ≡ int_in (cell_in rows 13 row) → log.severity_text ≡ bytes_in (cell_in rows 14 row)
    → log.body ≡ value_in (drop 15 (get_or rows row [])) → log.pairs ≡ pairs
    → log.dropped ≡ nat_in (cell_in rows 22 row) → log.flags ≡ nat_in (cell_in rows 23 row) → log.event_name ≡ bytes_in (cell_in rows 24 row)
    → log ≡ record_of (own_cells rows row) pairs
unfolding record_of
record_read log rows row pairs inside
    is_time is_observed is_trace is_span is_severity is_text is_body are_pairs is_dropped is_flags is_name =
    let within : row < length rows = simp length-map at inside in λ i. record {
      time = (is_time ∙ ap bits_in (sym (own_cell rows row 0 within))) i;
      observed = (is_observed ∙ ap bits_in (sym (own_cell rows row 1 within))) i;
      severity = (is_severity ∙ ap int_in (sym (own_cell rows row 4 within))) i;
      severity_text = (is_text ∙ ap bytes_in (sym (own_cell rows row 5 within))) i;
      body = (is_body ∙ ap value_in (own_value rows row within)) i;
      pairs = are_pairs i;
      dropped = (is_dropped ∙ ap nat_in (sym (own_cell rows row 13 within))) i;
      flags = (is_flags ∙ ap nat_in (sym (own_cell rows row 14 within))) i;
      trace_id = (is_trace ∙ ap bytes_in (sym (own_cell rows row 2 within))) i;
      span_id = (is_span ∙ ap bytes_in (sym (own_cell rows row 3 within))) i;
      event_name = (is_name ∙ ap bytes_in (sym (own_cell rows row 15 within))) i;
    }

capped : (a b c d e f n x y : ℕ) → e ≡ min x (2 ^ 63) → f ≡ min y (2 ^ 63)
    → n ≡ min (sum (0 ∷ 0 ∷ b ∷ c ∷ 0 ∷ a ∷ e ∷ 0 ∷ 0 ∷ d ∷ f ∷ [])) (2 ^ 63)
    → n ≡ min (a + b + c + d + x + y) (2 ^ 63)
capped a b c d e f n x y of_e of_f of_n = omega arith

-- what a record weighs, by the bytes of its cells and by what is below it
pub record_weighs : (rows : List (List Cell)) (row : ℕ) (pairs : List Pair) (text trace span name : List ℕ) (body below total_weight : ℕ) (weigh : Pair → ℕ)
    → row < length (map (drop 9) rows)
    → text ≡ bytes_in (cell_in rows 14 row) → trace ≡ bytes_in (cell_in rows 11 row) → span ≡ bytes_in (cell_in rows 12 row) → name ≡ bytes_in (cell_in rows 24 row)
    → body ≡ min (weight_of_value (value_in (drop 15 (get_or rows row [])))) (2 ^ 63)
    → ((pair : Pair) → weigh pair ≡ weight_of_pair pair) → below ≡ min (total 32 weigh pairs) (2 ^ 63)
    → total_weight ≡ min (sum (0 ∷ 0 ∷ length trace ∷ length span ∷ 0 ∷ length text ∷ body ∷ 0 ∷ 0 ∷ length name ∷ below ∷ [])) (2 ^ 63)
    → total_weight ≡ min (weight_of_log_record (record_of (own_cells rows row) pairs)) (2 ^ 63)
unfolding record_of
record_weighs rows row pairs text trace span name body below total_weight weigh inside is_text is_trace is_span is_name is_body same is_below is_total =
    let within : row < length rows = simp length-map at inside in
    let of_text : length text ≡ length (bytes_in (cell_at (own_cells rows row) 5)) = ap length (is_text ∙ ap bytes_in (sym (own_cell rows row 5 within))) in
    let of_trace : length trace ≡ length (bytes_in (cell_at (own_cells rows row) 2)) = ap length (is_trace ∙ ap bytes_in (sym (own_cell rows row 2 within))) in
    let of_span : length span ≡ length (bytes_in (cell_at (own_cells rows row) 3)) = ap length (is_span ∙ ap bytes_in (sym (own_cell rows row 3 within))) in
    let of_name : length name ≡ length (bytes_in (cell_at (own_cells rows row) 15)) = ap length (is_name ∙ ap bytes_in (sym (own_cell rows row 15 within))) in
    let of_body : body ≡ min (weight_of_value (value_in (drop 6 (own_cells rows row)))) (2 ^ 63)
    = is_body ∙ ap (λ cells. min (weight_of_value (value_in cells)) (2 ^ 63)) (own_value rows row within) in
    let of_below : below ≡ min (total 32 weight_of_pair pairs) (2 ^ 63) = is_below ∙ ap (λ (w : Pair → ℕ). min (total 32 w pairs) (2 ^ 63)) (λ i pair. same pair i) in
    capped (length text) (length trace) (length span) (length name) body below total_weight (weight_of_value (value_in (drop 6 (own_cells rows row)))) (total 32 weight_of_pair pairs)
    of_body of_below is_total ∙ (λ i. min (of_text i + of_trace i + of_span i + of_name i + weight_of_value (value_in (drop 6 (own_cells rows row))) + total 32 weight_of_pair pairs) (2 ^ 63))
