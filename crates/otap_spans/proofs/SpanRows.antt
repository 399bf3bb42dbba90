-- The rows of spans, events and links: their cells fit their columns, and what a span's own cells weigh.
use Rattle.std.proofs.Common.{◌≡◌, ℕ, ◌+◌, ◌^◌, true, false, List, [], ◌∷◌, ◌++◌, length, drop, sym, ap, ◌∙◌, arith}
use Rattle.std.specs.Prelude.{min, sum}
use Rattle.std.proofs.lemmas.List.Sums.{sum_by-cons}
use Rattle.otlp_model.specs.declared.spans.Span.{Span}
use Rattle.otap_cells.specs.declared.payload.Kind.{Kind}
use Rattle.otap_cells.specs.declared.payload.Kind.TheVariants as table
use Rattle.otap_cells.specs.declared.profile.Base.TheVariants as base
use Rattle.otap_cells.specs.Cells.{Cell, IsCellOf}
use Rattle.otap_cells.specs.Columns.{columns_of, common, spans, span_events, span_links}
use Rattle.otap_cells.specs.Scalars.{text_cell, number_cell, int_cell, bits_cell}
use Rattle.otap_cells.specs.Tables.{IsRow}
use Rattle.otap_cells.specs.Weights.{cell_weight}
use Rattle.otap_groups.specs.Weighing.{cells_weight}
use Rattle.otap_groups.proofs.ProfileRows.{rows_join}
use Rattle.otap_spans.specs.Records.{duration_of, span_cells}
use Rattle.otap_cells.proofs.ScalarLaws.{text_weighs, number_weighs, int_weighs_nothing, bits_weigh}

pub span_fits : (kind : Kind) (front : List Cell) (start duration trace span state parent name sort pairs events links code message flags : Cell) → kind ≡ table.Spans → IsRow common front
    → IsCellOf base.Timestamp start → IsCellOf base.Duration duration → IsCellOf base.Fixed16 trace → IsCellOf base.Fixed8 span → IsCellOf base.Utf8 state → IsCellOf base.Fixed8 parent
    → IsCellOf base.Utf8 name → IsCellOf base.I32 sort → IsCellOf base.U32 pairs → IsCellOf base.U32 events → IsCellOf base.U32 links → IsCellOf base.I32 code → IsCellOf base.Utf8 message
    → IsCellOf base.U32 flags
    → IsRow (columns_of kind) (front ++ (start ∷ duration ∷ trace ∷ span ∷ state ∷ parent ∷ name ∷ sort ∷ pairs ∷ events ∷ links ∷ code ∷ message ∷ flags ∷ []))
unfolding spans
span_fits kind front start duration trace span state parent name sort pairs events links code message flags is f f0 f1 f2 f3 f4 f5 f6 f7 f8 f9 f10 f11 f12 f13 =
    let own : IsRow (drop 9 spans) (start ∷ duration ∷ trace ∷ span ∷ state ∷ parent ∷ name ∷ sort ∷ pairs ∷ events ∷ links ∷ code ∷ message ∷ flags ∷ []) =
    (f0, (f1, (f2, (f3, (f4, (f5, (f6, (f7, (f8, (f9, (f10, (f11, (f12, (f13, tt)))))))))))))) in
    rw is (rows_join common (drop 9 spans) front _ f own)

pub event_fits : (kind : Kind) (id parent time name dropped : Cell) → kind ≡ table.SpanEvents → IsCellOf (base.Id true) id → IsCellOf (base.Id false) parent
    → IsCellOf base.Timestamp time → IsCellOf base.Utf8 name → IsCellOf base.U32 dropped
    → IsRow (columns_of kind) (id ∷ parent ∷ time ∷ name ∷ dropped ∷ [])
unfolding span_events
event_fits kind id parent time name dropped is f0 f1 f2 f3 f4 = rw is (f0, (f1, (f2, (f3, (f4, tt)))))

pub link_fits : (kind : Kind) (id parent trace span state dropped flags : Cell) → kind ≡ table.SpanLinks → IsCellOf (base.Id true) id → IsCellOf (base.Id false) parent
    → IsCellOf base.Fixed16 trace → IsCellOf base.Fixed8 span → IsCellOf base.Utf8 state → IsCellOf base.U32 dropped → IsCellOf base.U32 flags
    → IsRow (columns_of kind) (id ∷ parent ∷ trace ∷ span ∷ state ∷ dropped ∷ flags ∷ [])
unfolding span_links
link_fits kind id parent trace span state dropped flags is f0 f1 f2 f3 f4 f5 f6 = rw is (f0, (f1, (f2, (f3, (f4, (f5, (f6, tt)))))))

-- ---- weights

fourteen : (a b c d e f g h i j k l m n : Cell)
    → cells_weight (a ∷ b ∷ c ∷ d ∷ e ∷ f ∷ g ∷ h ∷ i ∷ j ∷ k ∷ l ∷ m ∷ n ∷ [])
    ≡ cell_weight a + cell_weight b + cell_weight c + cell_weight d + cell_weight e + cell_weight f + cell_weight g
    + cell_weight h + cell_weight i + cell_weight j + cell_weight k + cell_weight l + cell_weight m + cell_weight n
fourteen a b c d e f g h i j k l m n =
    let w14 = sum_by-cons cell_weight n [] in
    let w13 = sum_by-cons cell_weight m (n ∷ []) in
    let w12 = sum_by-cons cell_weight l (m ∷ n ∷ []) in
    let w11 = sum_by-cons cell_weight k (l ∷ m ∷ n ∷ []) in
    let w10 = sum_by-cons cell_weight j (k ∷ l ∷ m ∷ n ∷ []) in
    let w9 = sum_by-cons cell_weight i (j ∷ k ∷ l ∷ m ∷ n ∷ []) in
    let w8 = sum_by-cons cell_weight h (i ∷ j ∷ k ∷ l ∷ m ∷ n ∷ []) in
    let w7 = sum_by-cons cell_weight g (h ∷ i ∷ j ∷ k ∷ l ∷ m ∷ n ∷ []) in
    let w6 = sum_by-cons cell_weight f (g ∷ h ∷ i ∷ j ∷ k ∷ l ∷ m ∷ n ∷ []) in
    let w5 = sum_by-cons cell_weight e (f ∷ g ∷ h ∷ i ∷ j ∷ k ∷ l ∷ m ∷ n ∷ []) in
    let w4 = sum_by-cons cell_weight d (e ∷ f ∷ g ∷ h ∷ i ∷ j ∷ k ∷ l ∷ m ∷ n ∷ []) in
    let w3 = sum_by-cons cell_weight c (d ∷ e ∷ f ∷ g ∷ h ∷ i ∷ j ∷ k ∷ l ∷ m ∷ n ∷ []) in
    let w2 = sum_by-cons cell_weight b (c ∷ d ∷ e ∷ f ∷ g ∷ h ∷ i ∷ j ∷ k ∷ l ∷ m ∷ n ∷ []) in
    let w1 = sum_by-cons cell_weight a (b ∷ c ∷ d ∷ e ∷ f ∷ g ∷ h ∷ i ∷ j ∷ k ∷ l ∷ m ∷ n ∷ []) in
    omega (arith, w1, w2, w3, w4, w5, w6, w7, w8, w9, w10, w11, w12, w13, w14)

span_weighs_its_cells : (span : Span) → cells_weight (span_cells span)
    ≡ length span.trace_id + length span.span_id + length span.trace_state + length span.parent_span_id + length span.name + length span.status_message
span_weighs_its_cells span =
    let all = fourteen (bits_cell span.start) (bits_cell (duration_of span.start span.end)) (text_cell span.trace_id) (text_cell span.span_id) (text_cell span.trace_state)
    (text_cell span.parent_span_id) (text_cell span.name) (int_cell span.kind) (number_cell span.dropped_pairs) (number_cell span.dropped_events) (number_cell span.dropped_links)
    (int_cell span.status_code) (text_cell span.status_message) (number_cell span.flags) in
    let a = bits_weigh span.start in
    let b = bits_weigh (duration_of span.start span.end) in
    let c = text_weighs span.trace_id in
    let d = text_weighs span.span_id in
    let e = text_weighs span.trace_state in
    let f = text_weighs span.parent_span_id in
    let g = text_weighs span.name in
    let h = int_weighs_nothing span.kind in
    let i = number_weighs span.dropped_pairs in
    let j = number_weighs span.dropped_events in
    let k = number_weighs span.dropped_links in
    let l = int_weighs_nothing span.status_code in
    let m = text_weighs span.status_message in
    let n = number_weighs span.flags in
    omega (arith, all, a, b, c, d, e, f, g, h, i, j, k, l, m, n)

pub own_weight : (span : Span) (a b c d e f n : ℕ) → a ≡ length span.trace_id → b ≡ length span.span_id → c ≡ length span.trace_state → d ≡ length span.parent_span_id
    → e ≡ length span.name → f ≡ length span.status_message → n ≡ min (sum (a ∷ b ∷ c ∷ d ∷ e ∷ f ∷ [])) (2 ^ 63) → n ≡ min (cells_weight (span_cells span)) (2 ^ 63)
own_weight span a b c d e f n is_a is_b is_c is_d is_e is_f is_n =
    let own : n ≡ min (a + b + c + d + e + f) (2 ^ 63) = omega (arith, is_n) in
    own ∙ (λ i. min (is_a i + is_b i + is_c i + is_d i + is_e i + is_f i) (2 ^ 63)) ∙ ap (λ m. min m (2 ^ 63)) (sym (span_weighs_its_cells span))
