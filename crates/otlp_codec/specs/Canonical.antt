-- The canonical spelling of a request: the rows of each message, by ascending field number, and none that holds its default.
use Rattle.std.specs.Prelude.{ℕ, List, [], ◌∷◌, map, if◌then◌else◌}
use Rattle.std.specs.Int.{w64, cast_unsigned}
use Rattle.otlp_wire.specs.Wire as wire
use Rattle.otlp_messages.specs.Canon.{Filled, row, canon, varint_row, signed_row, fixed64_row, fixed32_row, bytes_row, many_row}
use Rattle.otlp_model.specs.declared.value.Value.{Value, fold-Value}
use Rattle.otlp_model.specs.declared.value.Value.TheOpen.{Value-F}
use Rattle.otlp_model.specs.declared.value.Pair.{Pair}
use Rattle.otlp_model.specs.declared.groups.Resource.{Resource}
use Rattle.otlp_model.specs.declared.groups.Scope.{Scope}
use Rattle.otlp_model.specs.declared.groups.ScopeGroup.{ScopeGroup}
use Rattle.otlp_model.specs.declared.groups.ResourceGroup.{ResourceGroup}
use Rattle.otlp_model.specs.declared.logs.LogRecord.{LogRecord}

-- ArrayValue and KeyValueList, whose members have these spellings
abbrev pub members_rows : List (List ℕ) → List Filled
members_rows members = row 1 (many_row members) ∷ []

-- AnyValue, whose members have these spellings: a member of the oneof is written also where it holds zero or nothing
abbrev pub value_rows : Value-F (List ℕ) (List ℕ) → List Filled
value_rows Value-F.Empty = []
value_rows (Value-F.Str text) = row 1 (wire.Bytes text ∷ []) ∷ []
value_rows (Value-F.Bool b) = row 2 (wire.Varint (if b then 1 else 0) ∷ []) ∷ []
value_rows (Value-F.Int z) = row 3 (wire.Varint (cast_unsigned w64 z) ∷ []) ∷ []
value_rows (Value-F.Double bits) = row 4 (wire.Fixed64 bits ∷ []) ∷ []
value_rows (Value-F.Array members) = row 5 (wire.Bytes (canon (members_rows members)) ∷ []) ∷ []
value_rows (Value-F.Map pairs) = row 6 (wire.Bytes (canon (members_rows pairs)) ∷ []) ∷ []
value_rows (Value-F.Bytes bytes) = row 7 (wire.Bytes bytes ∷ []) ∷ []

-- KeyValue, whose value has this spelling
abbrev pub pair_rows : List ℕ → List ℕ → List Filled
pair_rows key value = row 1 (bytes_row key) ∷ row 2 (bytes_row value) ∷ []

abbrev pub canon_value : Value → List ℕ
canon_value = fold-Value (List ℕ) (List ℕ) (λ value. canon (value_rows value)) (λ pair. canon (pair_rows pair.key pair.value))

abbrev pub canon_pair : Pair → List ℕ
canon_pair pair = canon (pair_rows pair.key (canon_value pair.value))

abbrev pub resource_rows : Resource → List Filled
resource_rows resource =
    row 1 (many_row (map canon_pair resource.pairs))
    ∷ row 2 (varint_row resource.dropped)
    ∷ []

abbrev pub scope_rows : Scope → List Filled
scope_rows scope =
    row 1 (bytes_row scope.name)
    ∷ row 2 (bytes_row scope.version)
    ∷ row 3 (many_row (map canon_pair scope.pairs))
    ∷ row 4 (varint_row scope.dropped)
    ∷ []

abbrev pub log_record_rows : LogRecord → List Filled
log_record_rows log =
    row 1 (fixed64_row log.time)
    ∷ row 2 (signed_row log.severity)
    ∷ row 3 (bytes_row log.severity_text)
    ∷ row 5 (bytes_row (canon_value log.body))
    ∷ row 6 (many_row (map canon_pair log.pairs))
    ∷ row 7 (varint_row log.dropped)
    ∷ row 8 (fixed32_row log.flags)
    ∷ row 9 (bytes_row log.trace_id)
    ∷ row 10 (bytes_row log.span_id)
    ∷ row 11 (fixed64_row log.observed)
    ∷ row 12 (bytes_row log.event_name)
    ∷ []

unfoldable pub canon_log_record : LogRecord → List ℕ
canon_log_record log = canon (log_record_rows log)

-- ScopeLogs and its like, of items that have these spellings
abbrev pub scope_group_rows : {I : Type 0} → (I → List ℕ) → ScopeGroup I → List Filled
scope_group_rows item group =
    row 1 (bytes_row (canon (scope_rows group.scope)))
    ∷ row 2 (many_row (map item group.items))
    ∷ row 3 (bytes_row group.scope.schema_url)
    ∷ []

abbrev pub canon_scope_group : {I : Type 0} → (I → List ℕ) → ScopeGroup I → List ℕ
canon_scope_group item group = canon (scope_group_rows item group)

abbrev pub resource_group_rows : {I : Type 0} → (I → List ℕ) → ResourceGroup I → List Filled
resource_group_rows item group =
    row 1 (bytes_row (canon (resource_rows group.resource)))
    ∷ row 2 (many_row (map (canon_scope_group item) group.scopes))
    ∷ row 3 (bytes_row group.resource.schema_url)
    ∷ []

abbrev pub canon_resource_group : {I : Type 0} → (I → List ℕ) → ResourceGroup I → List ℕ
canon_resource_group item group = canon (resource_group_rows item group)

-- the request
abbrev pub groups_rows : {I : Type 0} → (I → List ℕ) → List (ResourceGroup I) → List Filled
groups_rows item groups = row 1 (many_row (map (canon_resource_group item) groups)) ∷ []

abbrev pub canon_groups : {I : Type 0} → (I → List ℕ) → List (ResourceGroup I) → List ℕ
canon_groups item groups = canon (groups_rows item groups)
