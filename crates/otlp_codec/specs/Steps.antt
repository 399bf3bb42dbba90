-- One field after another, in the words of private contracts: how the messages are read in one pass over their fields. That this gives
-- what they say is a law of each (`lemmas/Passed`, `lemmas/SpansPassed`, `lemmas/MetricsPassed`).
use Rattle.std.specs.Prelude.{ℕ, zero, suc, List, []}
use Rattle.otlp_wire.specs.Wire as wire
use Rattle.otlp_wire.specs.Wire.{FieldValue, Entry}
use Rattle.otlp_messages.specs.Rows.{at, fixed64_in, fixed32_in, uint32_in, int32_in, bytes_in, embedded_in, many_in}
use Rattle.otlp_model.specs.declared.value.Value.{Value}
use Rattle.otlp_model.specs.declared.value.Value.TheVariants.{Empty}
use Rattle.otlp_model.specs.declared.value.Pair.{Pair}
use Rattle.otlp_model.specs.declared.groups.Resource.{Resource}
use Rattle.otlp_model.specs.declared.groups.Scope.{Scope}
use Rattle.otlp_model.specs.declared.groups.ScopeGroup.{ScopeGroup}
use Rattle.otlp_model.specs.declared.groups.ResourceGroup.{ResourceGroup}
use Rattle.otlp_model.specs.declared.logs.LogRecord.{LogRecord}
use Rattle.otlp_codec.specs.Values.{any_value_at, key_value_at, members_of}
use Rattle.otlp_codec.specs.Groups.{value_in, pair_in, resource_in, scope_in, scope_group_in, resource_group_in}

-- what an array and a key-value list say, below which this number of levels of members may be
unfoldable pub array_at : ℕ → List ℕ → List Value
array_at zero bytes = []
array_at (suc levels) bytes = members_of (any_value_at levels) bytes

unfoldable pub map_at : ℕ → List ℕ → List Pair
map_at zero bytes = []
map_at (suc levels) bytes = members_of (key_value_at levels) bytes

abbrev pub no_pair : Pair
no_pair = record { key = []; value = Empty }

abbrev pub pair_step : ℕ → Pair → Entry → Pair
pair_step levels old f = record {
  key = at 1 bytes_in old.key f;
  value = at 2 (embedded_in (any_value_at levels)) old.value f;
}

-- at level 0 there may be no member
abbrev pub array_step : ℕ → List Value → Entry → List Value
array_step zero old f = old
array_step (suc levels) old f = at 1 (many_in (any_value_at levels)) old f

abbrev pub map_step : ℕ → List Pair → Entry → List Pair
map_step zero old f = old
map_step (suc levels) old f = at 1 (many_in (key_value_at levels)) old f

abbrev pub no_resource : Resource
no_resource = record { schema_url = []; dropped = 0; pairs = [] }

abbrev pub resource_step : Resource → Entry → Resource
resource_step old f = record {
  schema_url = old.schema_url;
  dropped = at 2 uint32_in old.dropped f;
  pairs = at 1 (many_in pair_in) old.pairs f;
}

abbrev pub no_scope : Scope
no_scope = record { schema_url = []; name = []; version = []; dropped = 0; pairs = [] }

abbrev pub scope_step : Scope → Entry → Scope
scope_step old f = record {
  schema_url = old.schema_url;
  name = at 1 bytes_in old.name f;
  version = at 2 bytes_in old.version f;
  dropped = at 4 uint32_in old.dropped f;
  pairs = at 3 (many_in pair_in) old.pairs f;
}

-- a scope and its schema url, which are two fields of the group
abbrev pub scope_part_in : Scope → FieldValue → Scope
scope_part_in old (wire.Bytes part) = scope_in old.schema_url part
scope_part_in old value = old

abbrev pub scope_url_in : Scope → FieldValue → Scope
scope_url_in old (wire.Bytes part) = record old { schema_url = part }
scope_url_in old value = old

abbrev pub no_scope_group : {I : Type 0} → ScopeGroup I
no_scope_group = record { scope = no_scope; items = [] }

abbrev pub scope_group_step : {I : Type 0} → (List ℕ → I) → ScopeGroup I → Entry → ScopeGroup I
scope_group_step item old f = record {
  scope = at 3 scope_url_in (at 1 scope_part_in old.scope f) f;
  items = at 2 (many_in item) old.items f;
}

-- a resource and its schema url
abbrev pub resource_part_in : Resource → FieldValue → Resource
resource_part_in old (wire.Bytes part) = resource_in old.schema_url part
resource_part_in old value = old

abbrev pub resource_url_in : Resource → FieldValue → Resource
resource_url_in old (wire.Bytes part) = record old { schema_url = part }
resource_url_in old value = old

abbrev pub no_resource_group : {I : Type 0} → ResourceGroup I
no_resource_group = record { resource = no_resource; scopes = [] }

abbrev pub resource_group_step : {I : Type 0} → (List ℕ → I) → ResourceGroup I → Entry → ResourceGroup I
resource_group_step item old f = record {
  resource = at 3 resource_url_in (at 1 resource_part_in old.resource f) f;
  scopes = at 2 (many_in (scope_group_in item)) old.scopes f;
}

abbrev pub log_record_step : LogRecord → Entry → LogRecord
log_record_step old f = record {
  time = at 1 fixed64_in old.time f;
  observed = at 11 fixed64_in old.observed f;
  severity = at 2 int32_in old.severity f;
  severity_text = at 3 bytes_in old.severity_text f;
  body = at 5 (embedded_in value_in) old.body f;
  pairs = at 6 (many_in pair_in) old.pairs f;
  dropped = at 7 uint32_in old.dropped f;
  flags = at 8 fixed32_in old.flags f;
  trace_id = at 9 bytes_in old.trace_id f;
  span_id = at 10 bytes_in old.span_id f;
  event_name = at 12 bytes_in old.event_name f;
}

abbrev pub request_step : {I : Type 0} → (List ℕ → I) → List (ResourceGroup I) → Entry → List (ResourceGroup I)
request_step item old f = at 1 (many_in (resource_group_in item)) old f
