-- What a resource and a scope say (OTLP, resource.proto and common.proto).
use Rattle.std.specs.Prelude.{ℕ, List, []}
use Rattle.otlp_messages.specs.Rows.{said, uint32_in, bytes_in, many_in}
use Rattle.otlp_codec.specs.Limits.{level_limit}
use Rattle.otlp_model.specs.declared.value.Value.{Value}
use Rattle.otlp_model.specs.declared.value.Pair.{Pair}
use Rattle.otlp_model.specs.declared.groups.Resource.{Resource}
use Rattle.otlp_model.specs.declared.groups.Scope.{Scope}
use Rattle.otlp_model.specs.declared.groups.ScopeGroup.{ScopeGroup}
use Rattle.otlp_model.specs.declared.groups.ResourceGroup.{ResourceGroup}
use Rattle.otlp_codec.specs.Values.{any_value_at, key_value_at}

-- AnyValue and KeyValue outside of any array and key-value list
abbrev pub value_in : List ℕ → Value
value_in = any_value_at level_limit

abbrev pub pair_in : List ℕ → Pair
pair_in = key_value_at level_limit

-- Resource; its schema url is a field of the group
abbrev pub resource_in : List ℕ → List ℕ → Resource
resource_in schema_url bytes = record {
  schema_url = schema_url;
  dropped = said 2 uint32_in 0 bytes;
  pairs = said 1 (many_in pair_in) [] bytes;
}

-- InstrumentationScope; its schema url is a field of the group
abbrev pub scope_in : List ℕ → List ℕ → Scope
scope_in schema_url bytes = record {
  schema_url = schema_url;
  name = said 1 bytes_in [] bytes;
  version = said 2 bytes_in [] bytes;
  dropped = said 4 uint32_in 0 bytes;
  pairs = said 3 (many_in pair_in) [] bytes;
}

-- ScopeSpans, ScopeLogs and ScopeMetrics
abbrev pub scope_group_in : {I : Type 0} → (List ℕ → I) → List ℕ → ScopeGroup I
scope_group_in item bytes = record {
  scope = scope_in (said 3 bytes_in [] bytes) (said 1 bytes_in [] bytes);
  items = said 2 (many_in item) [] bytes;
}

-- ResourceSpans, ResourceLogs and ResourceMetrics
abbrev pub resource_group_in : {I : Type 0} → (List ℕ → I) → List ℕ → ResourceGroup I
resource_group_in item bytes = record {
  resource = resource_in (said 3 bytes_in [] bytes) (said 1 bytes_in [] bytes);
  scopes = said 2 (many_in (scope_group_in item)) [] bytes;
}

-- the three requests
abbrev pub groups_in : {I : Type 0} → (List ℕ → I) → List ℕ → List (ResourceGroup I)
groups_in item bytes = said 1 (many_in (resource_group_in item)) [] bytes
