-- What a request of the load weighs at most.
use Rattle.std.proofs.Common.{◌≤◌, ◌<◌, ℕ, ◌+◌, ◌*◌, List, length, get_or, arith}
use Rattle.std.specs.Prelude.{map, codes, pos}
use Rattle.std.proofs.lemmas.List.{length-map}
use Rattle.std.proofs.lemmas.List.Elements.{All-map}
use Rattle.otlp_model.specs.Limits.{weight_limit}
use Rattle.otlp_model.specs.Weight.{total, weight_of, weight_of_pair, weight_of_value, weight_of_resource, weight_of_resource_group, weight_of_span, weight_of_log_record, weight_of_metric}
use Rattle.otlp_model.specs.declared.value.Value as values
use Rattle.otlp_model.specs.declared.request.Signal.{Signal}
use Rattle.otlp_model.specs.declared.request.Signal.TheVariants as signals
use Rattle.otlp_load.specs.Pairs.{numbered_text}
use Rattle.otlp_load.specs.Items.{load_span, load_log_record, load_metric}
use Rattle.otlp_load.specs.Load.{generated, service_of, host_of, load_resource, group_of, groups_of, item_number, places_below, items_each, requests_at_most}
use Rattle.otlp_load.proofs.ItemsLight.{str_at_most, int_at_most, counted_at_most, numbered_at_most, span_at_most, log_record_at_most, metric_at_most}
use Rattle.otlp_load.proofs.LoadCounted.{places_counted}

resource_at_most : (g : ℕ) → g < 10 → weight_of_resource (load_resource g) ≤ 100
resource_at_most g few =
    let service : weight_of_pair (service_of g) ≤ 17 =
    (let name : weight_of_value (values.Str (numbered_text (codes "svc-") g)) ≤ 5 = str_at_most _ 5 (numbered_at_most 1 g (codes "svc-") (omega arith) (omega arith) (omega arith)) in omega arith) in
    let host : weight_of_pair (host_of g) ≤ 7 = (let number : weight_of_value (values.Int (pos g)) ≤ 0 = int_at_most g 0 in omega arith) in
    omega arith

items_at_most : {I : Type 0} (weigh : I → ℕ) (item_of : ℕ → ℕ → I) (r : ℕ) → ((n : ℕ) → weigh (item_of r n) ≤ 700) → (places : List ℕ)
    → total 32 weigh (map (λ k. item_of r (item_number r k)) places) ≤ length places * 732
items_at_most weigh item_of r each places =
    counted_at_most (length places) 32 700 weigh (map (λ k. item_of r (item_number r k)) places) (length-map places (λ k. item_of r (item_number r k)))
    (All-map (λ item. weigh item ≤ 700) (λ k. item_of r (item_number r k)) places (λ k d below. each (item_number r (get_or places k d))))

group_at_most : {I : Type 0} (weigh : I → ℕ) (item_of : ℕ → ℕ → I) (r : ℕ) → ((n : ℕ) → weigh (item_of r n) ≤ 700) → (g : ℕ) → g < 10
    → weight_of_resource_group weigh (group_of item_of r g) ≤ 200 + length (places_below items_each g) * 732
group_at_most weigh item_of r each g few =
    let resource = resource_at_most g few in
    let items = items_at_most weigh item_of r each (places_below items_each g) in
    omega arith

groups_at_most : {I : Type 0} (weigh : I → ℕ) (item_of : ℕ → ℕ → I) (r : ℕ) → ((n : ℕ) → weigh (item_of r n) ≤ 700)
    → total 32 (weight_of_resource_group weigh) (groups_of item_of r) ≤ weight_limit
groups_at_most weigh item_of r each =
    let g0 = group_at_most weigh item_of r each 0 (omega arith) in
    let g1 = group_at_most weigh item_of r each 1 (omega arith) in
    let g2 = group_at_most weigh item_of r each 2 (omega arith) in
    let all = places_counted items_each in
    omega arith

pub is_light : (s : Signal) (r : ℕ) → r < requests_at_most → weight_of (generated s r) ≤ weight_limit
is_light signals.Traces r request = groups_at_most weight_of_span load_span r (λ n. span_at_most r n request)
is_light signals.Logs r request = groups_at_most weight_of_log_record load_log_record r (λ n. log_record_at_most r n request)
is_light signals.Metrics r request = groups_at_most weight_of_metric load_metric r (λ n. metric_at_most r n request)
