-- The load: a request of any signal for each number r. It has 8,192 items, of which the one at the index k has the number
-- 8192 r + k, in three groups.
use Rattle.std.specs.Prelude.{ℕ, ◌+◌, ◌*◌, ◌%◌, ◌==◌, List, [], ◌∷◌, map, filter, codes, pos}
use Rattle.std.specs.List.{range_with_len}
use Rattle.otlp_load.specs.Limits.{groups_each}
pub use Rattle.otlp_load.specs.Limits.{items_each, requests_at_most}
use Rattle.otlp_load.specs.Pairs.{numbered_text}
use Rattle.otlp_load.specs.Items.{load_span, load_log_record, load_metric}
use Rattle.otlp_model.specs.declared.value.Value.TheVariants as values
use Rattle.otlp_model.specs.declared.value.Pair.{Pair}
use Rattle.otlp_model.specs.declared.groups.Resource.{Resource}
use Rattle.otlp_model.specs.declared.groups.Scope.{Scope}
use Rattle.otlp_model.specs.declared.groups.ResourceGroup.{ResourceGroup}
use Rattle.otlp_model.specs.declared.request.Request.{Request}
use Rattle.otlp_model.specs.declared.request.Request.TheVariants.{Traces, Logs, Metrics}
use Rattle.otlp_model.specs.declared.request.Signal.{Signal}
use Rattle.otlp_model.specs.declared.request.Signal.TheVariants as signals

-- the number of the item at the index k of request r
abbrev pub item_number : ℕ → ℕ → ℕ
item_number r k = items_each * r + k

-- the indices of group g below some index, in ascending order: those that leave g when divided by the number of groups
unfoldable pub places_below : ℕ → ℕ → List ℕ
places_below end g = filter (λ k. k % groups_each == g) (range_with_len 0 end)

abbrev pub service_of : ℕ → Pair
service_of g = record { key = codes "service.name"; value = values.Str (numbered_text (codes "svc-") g) }

abbrev pub host_of : ℕ → Pair
host_of g = record { key = codes "host.id"; value = values.Int (pos g) }

abbrev pub load_resource : ℕ → Resource
load_resource g = record { schema_url = []; dropped = 0; pairs = service_of g ∷ host_of g ∷ [] }

abbrev pub scope_of_all : Scope
scope_of_all = record { schema_url = []; name = codes "gen"; version = codes "1"; dropped = 0; pairs = [] }

-- group g of request r, whose items are made of the number r and their own
abbrev pub group_of : {I : Type 0} → (ℕ → ℕ → I) → ℕ → ℕ → ResourceGroup I
group_of item_of r g = record {
  resource = load_resource g;
  scopes = record { scope = scope_of_all; items = map (λ k. item_of r (item_number r k)) (places_below items_each g) } ∷ [];
}

abbrev pub groups_of : {I : Type 0} → (ℕ → ℕ → I) → ℕ → List (ResourceGroup I)
groups_of item_of r = map (group_of item_of r) (range_with_len 0 groups_each)

-- request r of a signal
abbrev pub generated : Signal → ℕ → Request
generated signals.Traces r = Traces (groups_of load_span r)
generated signals.Logs r = Logs (groups_of load_log_record r)
generated signals.Metrics r = Metrics (groups_of load_metric r)
