-- The tables of a load of traces aren't too heavy.
use Rattle.std.proofs.Common.{◌≡◌, ℕ, ◌+◌, ◌%◌, ◌<◌, ◌≤◌, ◌^◌, List, [], ◌∷◌, length, refl, subst, arith}
use Rattle.std.specs.Prelude.{codes, min}
use Rattle.std.proofs.Math.Nat.{mod-lt}
use Rattle.std.proofs.lemmas.List.Sums.{sum_by-cons}
use Rattle.otlp_load.specs.Pairs.{numbered_text}
use Rattle.otlp_load.specs.Items.{event_at, load_span, time_of}
use Rattle.otlp_load.specs.Load.{groups_of, requests_at_most}
use Rattle.otlp_load.proofs.ItemsLight.{numbered_at_most}
use Rattle.otap_cells.specs.Scalars.{text_cell, number_cell, bits_cell}
use Rattle.otap_cells.specs.Weights.{cell_weight, row_weight_limit, weight_of_tables}
use Rattle.otap_groups.specs.Weighing.{cells_weight}
use Rattle.otap_spans.specs.Records.{span_cells}
use Rattle.otap_spans.specs.Tables.{tables_of_spans}
use Rattle.otap_spans.specs.Weighing.{below_weight, event_weight}
use Rattle.otap_spans.proofs.SpanRows.{own_weight}
use Rattle.otap_spans.proofs.WrittenWeight.{tables_weigh}
use Rattle.otap_gateway.proofs.LoadRows.{pairs_rows, load_rows}
use Rattle.otap_cells.proofs.ScalarLaws.{text_weighs, number_weighs, bits_weigh}

event_rows : (name : List ℕ) (time : ℕ) → length name ≡ 2 → event_weight (event_at name time) ≡ 34
event_rows name time short =
    let a = bits_weigh time in
    let b = text_weighs name in
    let c : cell_weight (number_cell 0) ≡ 0 = number_weighs 0 in
    let s0 = sum_by-cons cell_weight (bits_cell time) (text_cell name ∷ number_cell 0 ∷ []) in
    let s1 = sum_by-cons cell_weight (text_cell name) (number_cell 0 ∷ []) in
    let s2 = sum_by-cons cell_weight (number_cell 0) [] in
    omega (arith, a, b, c, s0, s1, s2, short)

below_rows : (r n : ℕ) → r < requests_at_most → below_weight (load_span r n) ≤ 600
below_rows r n request =
    let pairs = pairs_rows r n request in
    let first = event_rows (codes "e0") (time_of n) refl in
    let second = event_rows (codes "e1") (time_of n) refl in
    let s0 = sum_by-cons event_weight (event_at (codes "e0") (time_of n)) (event_at (codes "e1") (time_of n) ∷ []) in
    let s1 = sum_by-cons event_weight (event_at (codes "e1") (time_of n)) [] in
    omega (arith, pairs, first, second, s0, s1)

span_rows : (r n : ℕ) → r < requests_at_most → cells_weight (span_cells (load_span r n)) + below_weight (load_span r n) ≤ 800
span_rows r n request =
    let few : n % 300 < 300 = mod-lt n (omega arith) in
    let name : List ℕ = numbered_text (codes "op-") (n % 300) in
    let short : length name ≤ 6 = numbered_at_most 3 (n % 300) (codes "op-") (omega arith) (omega arith) (omega arith) in
    let own : 24 + length name ≡ min (cells_weight (span_cells (load_span r n))) (2 ^ 63) =
    own_weight (load_span r n) 16 8 0 0 (length name) 0 (24 + length name) refl refl refl refl refl refl (omega (arith, short)) in
    let below = below_rows r n request in
    omega (arith, own, short, below)

pub span_tables_rows : (r : ℕ) → r < requests_at_most → weight_of_tables (tables_of_spans (groups_of load_span r)) ≤ row_weight_limit
span_tables_rows r request =
    subst (λ (weight : ℕ). weight ≤ row_weight_limit) (tables_weigh (groups_of load_span r))
    (load_rows (λ span. cells_weight (span_cells span) + below_weight span) load_span r (λ n. span_rows r n request))
