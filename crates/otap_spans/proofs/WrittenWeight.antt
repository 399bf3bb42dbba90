-- What the tables of a request of spans weigh.
use Rattle.std.proofs.Common.{◌≡◌, ℕ, ◌+◌, ◌^◌, List, [], ◌∷◌, map, refl, ap, ◌∙◌, arith}
use Rattle.std.specs.Prelude.{min, sum_by}
use Rattle.std.proofs.lemmas.List.Sums.{sum_by-cons}
use Rattle.otlp_model.specs.declared.groups.Resource.{Resource}
use Rattle.otlp_model.specs.declared.groups.Scope.{Scope}
use Rattle.otlp_model.specs.declared.groups.ResourceGroup.{ResourceGroup}
use Rattle.otlp_model.specs.declared.spans.Span.{Span}
use Rattle.otlp_model.specs.declared.spans.Event.{Event}
use Rattle.otlp_model.specs.declared.spans.Link.{Link}
use Rattle.otlp_model.specs.declared.value.Pair.{Pair}
use Rattle.otap_cells.specs.declared.payload.Kind.{Kind}
use Rattle.otap_cells.specs.declared.payload.Kind.TheVariants as table
use Rattle.otap_cells.specs.Cells.{Cell}
use Rattle.otap_cells.specs.Tables.{Table}
use Rattle.otap_cells.specs.Weights.{weight_of_table, weight_of_tables}
use Rattle.otap_groups.specs.Flat.{items_of, resource_pairs, resources_of, scope_pairs, scopes_of}
use Rattle.otap_groups.specs.Stored.{part_table}
use Rattle.otap_groups.specs.Weighing.{cells_weight, parts_weight, rows_of_groups}
use Rattle.otap_groups.proofs.RowsApart.{rows_apart}
use Rattle.otap_groups.proofs.RowsWeighed.{main_weighs, parts_weigh}
use Rattle.otap_attrs.specs.Tables.{attribute_table}
use Rattle.otap_attrs.specs.Values.{pair_cells}
use Rattle.otap_attrs.proofs.AttributesWeighed.{table_weighs}
use Rattle.lists.proofs.MadeSums.{sum_of_both, sum_of_flat, sum_of_map}
use Rattle.otap_checks.specs.Written.{Written, pairs_below, parts_below, table_of}
use Rattle.otap_checks.proofs.AllWritten.{weighs}
use Rattle.otap_checks.proofs.SeenParts.{table_seen}
use Rattle.otap_spans.specs.Records.{event_cells, link_cells, span_cells}
use Rattle.otap_spans.specs.Tables.{all_events, all_links, below_spans, event_lists, event_pairs, link_lists, link_pairs, span_pairs, tables_of_spans}
use Rattle.otap_spans.specs.Weighing.{below_weight, event_weight, link_weight}

abbrev pairs_weight : {A : Type 0} → (A → List Pair) → A → ℕ
pairs_weight pairs x = parts_weight pair_cells (pairs x)

pairs_weigh : {A : Type 0} (kind : Kind) (pairs : A → List Pair) (xs : List A) → weight_of_table (attribute_table kind (map pairs xs)) ≡ sum_by (pairs_weight pairs) xs
pairs_weigh kind pairs xs = table_weighs kind (map pairs xs) ∙ sum_of_map (parts_weight pair_cells) pairs xs

below_weighs : {A C : Type 0} (kind : Kind) (cells_of : C → List Cell) (parts : A → List C) (xs : List A)
    → weight_of_table (part_table kind cells_of (map parts xs)) ≡ sum_by (λ x. parts_weight cells_of (parts x)) xs
below_weighs kind cells_of parts xs = parts_weigh kind cells_of (map parts xs) ∙ sum_of_map (parts_weight cells_of) parts xs

-- parts with their attributes, part by part and table by table
with_pairs : {C : Type 0} (cells_of : C → List Cell) (pairs : C → List Pair) (cs : List C)
    → sum_by (λ c. 32 + cells_weight (cells_of c) + parts_weight pair_cells (pairs c)) cs ≡ parts_weight cells_of cs + sum_by (pairs_weight pairs) cs
with_pairs cells_of pairs cs = sum_of_both (λ c. 32 + cells_weight (cells_of c)) (pairs_weight pairs) cs

both_tables : {A C : Type 0} (kind attributes : Kind) (cells_of : C → List Cell) (pairs : C → List Pair) (parts : A → List C) (xs : List A) (cs : List C)
    → sum_by (pairs_weight pairs) cs ≡ sum_by (λ x. sum_by (pairs_weight pairs) (parts x)) xs
    → sum_by (λ x. sum_by (λ c. 32 + cells_weight (cells_of c) + parts_weight pair_cells (pairs c)) (parts x)) xs
    ≡ weight_of_table (part_table kind cells_of (map parts xs)) + weight_of_table (attribute_table attributes (map pairs cs))
both_tables {A} kind attributes cells_of pairs parts xs cs flat =
    let a = below_weighs kind cells_of parts xs in
    let b = pairs_weigh attributes pairs cs in
    let c = each xs in
    let d = sum_of_both (λ x. parts_weight cells_of (parts x)) (λ x. sum_by (pairs_weight pairs) (parts x)) xs in
    omega (arith, a, b, c, d, flat)
  where
    each : (ys : List A) → sum_by (λ x. sum_by (λ c. 32 + cells_weight (cells_of c) + parts_weight pair_cells (pairs c)) (parts x)) ys
        ≡ sum_by (λ x. parts_weight cells_of (parts x) + sum_by (pairs_weight pairs) (parts x)) ys
    each [] = refl
    each (y ∷ ys) =
        let a = sum_by-cons (λ x. sum_by (λ c. 32 + cells_weight (cells_of c) + parts_weight pair_cells (pairs c)) (parts x)) y ys in
        let b = sum_by-cons (λ x. parts_weight cells_of (parts x) + sum_by (pairs_weight pairs) (parts x)) y ys in
        let c = with_pairs cells_of pairs (parts y) in
        let more = each ys in
        omega (arith, a, b, c, more)

-- the rows below spans, span by span
below_apart : (spans : List Span) → sum_by below_weight spans
    ≡ sum_by (pairs_weight (λ (span : Span). span.pairs)) spans + sum_by (λ (span : Span). sum_by event_weight span.events) spans
    + sum_by (λ (span : Span). sum_by link_weight span.links) spans
below_apart spans =
    let a = sum_of_both (λ (span : Span). parts_weight pair_cells span.pairs + sum_by event_weight span.events) (λ (span : Span). sum_by link_weight span.links) spans in
    let b = sum_of_both (pairs_weight (λ (span : Span). span.pairs)) (λ (span : Span). sum_by event_weight span.events) spans in
    omega (arith, a, b)

seven : (h : Written → ℕ) (a b c d e f g : Written) → sum_by h (a ∷ b ∷ c ∷ d ∷ e ∷ f ∷ g ∷ []) ≡ h a + h b + h c + h d + h e + h f + h g
seven h a b c d e f g =
    let w7 = sum_by-cons h g [] in
    let w6 = sum_by-cons h f (g ∷ []) in
    let w5 = sum_by-cons h e (f ∷ g ∷ []) in
    let w4 = sum_by-cons h d (e ∷ f ∷ g ∷ []) in
    let w3 = sum_by-cons h c (d ∷ e ∷ f ∷ g ∷ []) in
    let w2 = sum_by-cons h b (c ∷ d ∷ e ∷ f ∷ g ∷ []) in
    let w1 = sum_by-cons h a (b ∷ c ∷ d ∷ e ∷ f ∷ g ∷ []) in
    omega (arith, w1, w2, w3, w4, w5, w6, w7)

abbrev of_resource : Resource → ℕ
of_resource resource = parts_weight pair_cells resource.pairs

abbrev of_scope : Scope → ℕ
of_scope scope = parts_weight pair_cells scope.pairs

pub tables_weigh : (groups : List (ResourceGroup Span))
    → rows_of_groups of_resource of_scope (λ span. cells_weight (span_cells span) + below_weight span) groups ≡ weight_of_tables (tables_of_spans groups)
unfolding tables_of_spans
tables_weigh groups =
    let r : Table = attribute_table table.ResourceAttrs (map (λ (resource : Resource). resource.pairs) (resources_of groups)) in
    let s : Table = attribute_table table.ScopeAttrs (map (λ (scope : Scope). scope.pairs) (scopes_of groups)) in
    let a : Table = attribute_table table.SpanAttrs (map (λ (span : Span). span.pairs) (items_of groups)) in
    let e : Table = part_table table.SpanEvents event_cells (map (λ (span : Span). span.events) (items_of groups)) in
    let l : Table = part_table table.SpanLinks link_cells (map (λ (span : Span). span.links) (items_of groups)) in
    let ea : Table = attribute_table table.EventAttrs (map (λ (event : Event). event.pairs) (all_events groups)) in
    let la : Table = attribute_table table.LinkAttrs (map (λ (link : Link). link.pairs) (all_links groups)) in
    let rows = weighs table.Spans span_cells (below_spans groups) groups in
    let seen_e : weight_of_table (table_of (parts_below table.SpanEvents table.Spans event_cells (event_lists groups))) ≡ weight_of_table e =
    ap weight_of_table (table_seen event_cells table.SpanEvents (event_lists groups)) in
    let seen_l : weight_of_table (table_of (parts_below table.SpanLinks table.Spans link_cells (link_lists groups))) ≡ weight_of_table l =
    ap weight_of_table (table_seen link_cells table.SpanLinks (link_lists groups)) in
    let parts : sum_by (λ w. weight_of_table (table_of w)) (below_spans groups)
    ≡ weight_of_table r + weight_of_table s + weight_of_table a + weight_of_table (table_of (parts_below table.SpanEvents table.Spans event_cells (event_lists groups)))
    + weight_of_table (table_of (parts_below table.SpanLinks table.Spans link_cells (link_lists groups))) + weight_of_table ea + weight_of_table la =
    seven (λ w. weight_of_table (table_of w)) (pairs_below table.ResourceAttrs table.Spans 1 (resource_pairs groups))
    (pairs_below table.ScopeAttrs table.Spans 4 (scope_pairs groups)) (pairs_below table.SpanAttrs table.Spans 0 (span_pairs groups))
    (parts_below table.SpanEvents table.Spans event_cells (event_lists groups)) (parts_below table.SpanLinks table.Spans link_cells (link_lists groups))
    (pairs_below table.EventAttrs table.SpanEvents 0 (event_pairs groups)) (pairs_below table.LinkAttrs table.SpanLinks 0 (link_pairs groups)) in
    let wm = main_weighs span_cells table.Spans groups in
    let wr = pairs_weigh table.ResourceAttrs (λ (resource : Resource). resource.pairs) (resources_of groups) in
    let ws = pairs_weigh table.ScopeAttrs (λ (scope : Scope). scope.pairs) (scopes_of groups) in
    let wa = pairs_weigh table.SpanAttrs (λ (span : Span). span.pairs) (items_of groups) in
    let we = both_tables table.SpanEvents table.EventAttrs event_cells (λ (event : Event). event.pairs) (λ (span : Span). span.events) (items_of groups) (all_events groups)
    (sum_of_flat (pairs_weight (λ (event : Event). event.pairs)) (λ (span : Span). span.events) (items_of groups)) in
    let wl = both_tables table.SpanLinks table.LinkAttrs link_cells (λ (link : Link). link.pairs) (λ (span : Span). span.links) (items_of groups) (all_links groups)
    (sum_of_flat (pairs_weight (λ (link : Link). link.pairs)) (λ (span : Span). span.links) (items_of groups)) in
    let apart = rows_apart of_resource of_scope (λ (span : Span). cells_weight (span_cells span)) below_weight groups in
    let more = below_apart (items_of groups) in
    omega (arith, rows, parts, seen_e, seen_l, wm, wr, ws, wa, we, wl, apart, more)

pub weighed : (groups gs : List (ResourceGroup Span)) (n : ℕ) → gs ≡ groups
    → n ≡ min (rows_of_groups of_resource of_scope (λ span. cells_weight (span_cells span) + below_weight span) gs) (2 ^ 63)
    → n ≡ min (weight_of_tables (tables_of_spans groups)) (2 ^ 63)
weighed groups gs n same is =
    is ∙ ap (λ m. min m (2 ^ 63)) (tables_weigh gs) ∙ ap (λ gs. min (weight_of_tables (tables_of_spans gs)) (2 ^ 63)) same
