-- The own cells of spans, events and links come in their rows after those of the front.
use Rattle.std.proofs.Common.{◌≡◌, ℕ, ◌+◌, ◌^◌, ◌<◌, List, [], ◌∷◌, map, drop, length, ◌∙◌, sym, ap, arith}
use Rattle.std.specs.Prelude.{min, sum}
use Rattle.std.proofs.lemmas.List.{length-map}
use Rattle.lists.proofs.Numbers.{capped_fourth}
use Rattle.otlp_model.specs.Weight.{total, weight_of_event, weight_of_link, weight_of_pair, weight_of_span}
use Rattle.otlp_model.specs.declared.value.Pair.{Pair}
use Rattle.otlp_model.specs.declared.spans.Span.{Span}
use Rattle.otlp_model.specs.declared.spans.Event.{Event}
use Rattle.otlp_model.specs.declared.spans.Link.{Link}
use Rattle.otap_cells.specs.Cells.{Cell, bytes_in, nat_in, cell_at}
use Rattle.otlp_model.proofs.Totals.{below_weighs}
use Rattle.otap_cells.specs.Scalars.{int_in, bits_in}
use Rattle.otap_cells.specs.Tables.{cell_in}
use Rattle.otap_spans.specs.Records.{end_time, event_of, link_of, span_of}
use Rattle.otap_cells.proofs.OwnCells.{length_own, own_cell, own_cells}

-- ---- reading

pub span_read : (span : Span) (rows : List (List Cell)) (row : ℕ) (pairs : List Pair) (events : List Event) (links : List Link) → row < length (map (drop 9) rows)
    → span.trace_id ≡ bytes_in (cell_in rows 11 row) → span.span_id ≡ bytes_in (cell_in rows 12 row) → span.parent_span_id ≡ bytes_in (cell_in rows 14 row)
    → span.trace_state ≡ bytes_in (cell_in rows 13 row) → span.name ≡ bytes_in (cell_in rows 15 row) → span.kind ≡ int_in (cell_in rows 16 row)
    → span.start ≡ bits_in (cell_in rows 9 row) → span.end ≡ end_time (bits_in (cell_in rows 9 row)) (bits_in (cell_in rows 10 row))
    → span.flags ≡ nat_in (cell_in rows 22 row) → span.pairs ≡ pairs → span.dropped_pairs ≡ nat_in (cell_in rows 17 row)
    → span.events ≡ events → span.dropped_events ≡ nat_in (cell_in rows 18 row) → span.links ≡ links → span.dropped_links ≡ nat_in (cell_in rows 19 row)
    → span.status_code ≡ int_in (cell_in rows 20 row) → span.status_message ≡ bytes_in (cell_in rows 21 row)
    → span ≡ span_of (own_cells 9 rows row) pairs events links
unfolding span_of
span_read span rows row pairs events links inside is_trace is_span is_parent is_state is_name is_kind is_start is_end is_flags are_pairs is_pairs are_events is_events are_links is_links is_code is_message =
    let within : row < length rows = simp length-map at inside in
    let start : bits_in (cell_in rows 9 row) ≡ bits_in (cell_at (own_cells 9 rows row) 0) = ap bits_in (sym (own_cell 9 rows row 0 within)) in
    let duration : bits_in (cell_in rows 10 row) ≡ bits_in (cell_at (own_cells 9 rows row) 1) = ap bits_in (sym (own_cell 9 rows row 1 within)) in λ i. record {
      trace_id = (is_trace ∙ ap bytes_in (sym (own_cell 9 rows row 2 within))) i;
      span_id = (is_span ∙ ap bytes_in (sym (own_cell 9 rows row 3 within))) i;
      parent_span_id = (is_parent ∙ ap bytes_in (sym (own_cell 9 rows row 5 within))) i;
      trace_state = (is_state ∙ ap bytes_in (sym (own_cell 9 rows row 4 within))) i;
      name = (is_name ∙ ap bytes_in (sym (own_cell 9 rows row 6 within))) i;
      kind = (is_kind ∙ ap int_in (sym (own_cell 9 rows row 7 within))) i;
      start = (is_start ∙ start) i;
      end = (is_end ∙ (λ j. end_time (start j) (duration j))) i;
      flags = (is_flags ∙ ap nat_in (sym (own_cell 9 rows row 13 within))) i;
      pairs = are_pairs i;
      dropped_pairs = (is_pairs ∙ ap nat_in (sym (own_cell 9 rows row 8 within))) i;
      events = are_events i;
      dropped_events = (is_events ∙ ap nat_in (sym (own_cell 9 rows row 9 within))) i;
      links = are_links i;
      dropped_links = (is_links ∙ ap nat_in (sym (own_cell 9 rows row 10 within))) i;
      status_code = (is_code ∙ ap int_in (sym (own_cell 9 rows row 11 within))) i;
      status_message = (is_message ∙ ap bytes_in (sym (own_cell 9 rows row 12 within))) i;
    }

pub event_read : (event : Event) (rows : List (List Cell)) (row : ℕ) (pairs : List Pair) → row < length (map (drop 2) rows)
    → event.time ≡ bits_in (cell_in rows 2 row) → event.name ≡ bytes_in (cell_in rows 3 row) → event.pairs ≡ pairs → event.dropped ≡ nat_in (cell_in rows 4 row)
    → event ≡ event_of (own_cells 2 rows row) pairs
unfolding event_of
event_read event rows row pairs inside is_time is_name are_pairs is_dropped =
    let within : row < length rows = simp length-map at inside in λ i. record {
      time = (is_time ∙ ap bits_in (sym (own_cell 2 rows row 0 within))) i;
      name = (is_name ∙ ap bytes_in (sym (own_cell 2 rows row 1 within))) i;
      pairs = are_pairs i;
      dropped = (is_dropped ∙ ap nat_in (sym (own_cell 2 rows row 2 within))) i;
    }

pub link_read : (link : Link) (rows : List (List Cell)) (row : ℕ) (pairs : List Pair) → row < length (map (drop 2) rows)
    → link.trace_id ≡ bytes_in (cell_in rows 2 row) → link.span_id ≡ bytes_in (cell_in rows 3 row) → link.trace_state ≡ bytes_in (cell_in rows 4 row)
    → link.flags ≡ nat_in (cell_in rows 6 row) → link.pairs ≡ pairs → link.dropped ≡ nat_in (cell_in rows 5 row)
    → link ≡ link_of (own_cells 2 rows row) pairs
unfolding link_of
link_read link rows row pairs inside is_trace is_span is_state is_flags are_pairs is_dropped =
    let within : row < length rows = simp length-map at inside in λ i. record {
      trace_id = (is_trace ∙ ap bytes_in (sym (own_cell 2 rows row 0 within))) i;
      span_id = (is_span ∙ ap bytes_in (sym (own_cell 2 rows row 1 within))) i;
      trace_state = (is_state ∙ ap bytes_in (sym (own_cell 2 rows row 2 within))) i;
      flags = (is_flags ∙ ap nat_in (sym (own_cell 2 rows row 4 within))) i;
      pairs = are_pairs i;
      dropped = (is_dropped ∙ ap nat_in (sym (own_cell 2 rows row 3 within))) i;
    }

-- ---- weights, by the bytes of cells and by what is below

span_sum : (a b c d e f p v l n x y z : ℕ) → p ≡ min x (2 ^ 63) → v ≡ min y (2 ^ 63) → l ≡ min z (2 ^ 63)
    → n ≡ min (sum (a ∷ b ∷ c ∷ d ∷ e ∷ f ∷ p ∷ v ∷ l ∷ [])) (2 ^ 63) → n ≡ min (a + b + c + d + e + f + x + y + z) (2 ^ 63)
span_sum a b c d e f p v l n x y z of_p of_v of_l of_n = omega arith

pub span_weighs : (rows : List (List Cell)) (row : ℕ) (pairs : List Pair) (events : List Event) (links : List Link) (trace span parent state name message : List ℕ)
    (of_pairs of_events of_links total_weight : ℕ) (weigh_pair : Pair → ℕ) (weigh_event : Event → ℕ) (weigh_link : Link → ℕ) → row < length (map (drop 9) rows)
    → trace ≡ bytes_in (cell_in rows 11 row) → span ≡ bytes_in (cell_in rows 12 row) → parent ≡ bytes_in (cell_in rows 14 row)
    → state ≡ bytes_in (cell_in rows 13 row) → name ≡ bytes_in (cell_in rows 15 row) → message ≡ bytes_in (cell_in rows 21 row)
    → ((pair : Pair) → weigh_pair pair ≡ weight_of_pair pair) → of_pairs ≡ min (total 32 weigh_pair pairs) (2 ^ 63)
    → ((event : Event) → weigh_event event ≡ weight_of_event event) → of_events ≡ min (total 32 weigh_event events) (2 ^ 63)
    → ((link : Link) → weigh_link link ≡ weight_of_link link) → of_links ≡ min (total 32 weigh_link links) (2 ^ 63)
    → total_weight ≡ min (sum (length trace ∷ length span ∷ length parent ∷ length state ∷ length name ∷ length message ∷ of_pairs ∷ of_events ∷ of_links ∷ [])) (2 ^ 63)
    → total_weight ≡ min (weight_of_span (span_of (own_cells 9 rows row) pairs events links)) (2 ^ 63)
unfolding span_of
span_weighs rows row pairs events links trace span parent state name message of_pairs of_events of_links total_weight weigh_pair weigh_event weigh_link inside
    is_trace is_span is_parent is_state is_name is_message same_pairs is_pairs same_events is_events same_links is_links is_total =
    let within : row < length rows = simp length-map at inside in
    span_sum (length trace) (length span) (length parent) (length state) (length name) (length message) of_pairs of_events of_links total_weight
    (total 32 weight_of_pair pairs) (total 32 weight_of_event events) (total 32 weight_of_link links)
    (below_weighs of_pairs weigh_pair weight_of_pair pairs same_pairs is_pairs) (below_weighs of_events weigh_event weight_of_event events same_events is_events)
    (below_weighs of_links weigh_link weight_of_link links same_links is_links) is_total
    ∙ (λ i. min (length_own 9 rows row 2 trace within is_trace i + length_own 9 rows row 3 span within is_span i + length_own 9 rows row 5 parent within is_parent i
    + length_own 9 rows row 4 state within is_state i + length_own 9 rows row 6 name within is_name i + length_own 9 rows row 12 message within is_message i
    + total 32 weight_of_pair pairs + total 32 weight_of_event events + total 32 weight_of_link links) (2 ^ 63))

event_sum : (a p n x : ℕ) → p ≡ min x (2 ^ 63) → n ≡ min (sum (a ∷ p ∷ [])) (2 ^ 63) → n ≡ min (a + x) (2 ^ 63)
event_sum a p n x of_p of_n = omega arith

pub event_weighs : (rows : List (List Cell)) (row : ℕ) (pairs : List Pair) (name : List ℕ) (of_pairs total_weight : ℕ) (weigh : Pair → ℕ) → row < length (map (drop 2) rows)
    → name ≡ bytes_in (cell_in rows 3 row) → ((pair : Pair) → weigh pair ≡ weight_of_pair pair) → of_pairs ≡ min (total 32 weigh pairs) (2 ^ 63)
    → total_weight ≡ min (sum (length name ∷ of_pairs ∷ [])) (2 ^ 63) → total_weight ≡ min (weight_of_event (event_of (own_cells 2 rows row) pairs)) (2 ^ 63)
unfolding event_of
event_weighs rows row pairs name of_pairs total_weight weigh inside is_name same is_pairs is_total =
    let within : row < length rows = simp length-map at inside in
    event_sum (length name) of_pairs total_weight (total 32 weight_of_pair pairs) (below_weighs of_pairs weigh weight_of_pair pairs same is_pairs) is_total
    ∙ (λ i. min (length_own 2 rows row 1 name within is_name i + total 32 weight_of_pair pairs) (2 ^ 63))

pub link_weighs : (rows : List (List Cell)) (row : ℕ) (pairs : List Pair) (trace span state : List ℕ) (of_pairs total_weight : ℕ) (weigh : Pair → ℕ) → row < length (map (drop 2) rows)
    → trace ≡ bytes_in (cell_in rows 2 row) → span ≡ bytes_in (cell_in rows 3 row) → state ≡ bytes_in (cell_in rows 4 row)
    → ((pair : Pair) → weigh pair ≡ weight_of_pair pair) → of_pairs ≡ min (total 32 weigh pairs) (2 ^ 63)
    → total_weight ≡ min (sum (length trace ∷ length span ∷ length state ∷ of_pairs ∷ [])) (2 ^ 63)
    → total_weight ≡ min (weight_of_link (link_of (own_cells 2 rows row) pairs)) (2 ^ 63)
unfolding link_of
link_weighs rows row pairs trace span state of_pairs total_weight weigh inside is_trace is_span is_state same is_pairs is_total =
    let within : row < length rows = simp length-map at inside in
    capped_fourth (length trace) (length span) (length state) of_pairs total_weight (total 32 weight_of_pair pairs) (below_weighs of_pairs weigh weight_of_pair pairs same is_pairs) is_total
    ∙ (λ i. min (length_own 2 rows row 0 trace within is_trace i + length_own 2 rows row 1 span within is_span i + length_own 2 rows row 2 state within is_state i
    + total 32 weight_of_pair pairs) (2 ^ 63))
