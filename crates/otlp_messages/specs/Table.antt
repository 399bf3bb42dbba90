-- The fields of each message, a line for each, by the protobuf definitions of OTLP 1.x and of OTAP; those of SendEvent are ours.
use Rattle.std.specs.Prelude.{ℕ, List, [], ◌∷◌, ◌==◌, if◌then◌else◌}
use Rattle.otlp_messages.specs.declared.messages.ItemKind.{ItemKind}
use Rattle.otlp_messages.specs.declared.messages.ItemKind.TheVariants.{Spans, LogRecords, Metrics}
use Rattle.otlp_messages.specs.declared.messages.Message.{Message}
use Rattle.otlp_messages.specs.declared.messages.Message.TheVariants.{
  BatchArrowRecords,
  ArrowPayload,
  BatchStatus,
  SendEvent,
  Request,
  ResourceGroup,
  ScopeGroup,
  Resource,
  InstrumentationScope,
  KeyValue,
  AnyValue,
  ArrayValue,
  KeyValueList,
  LogRecord,
  Span,
  Event,
  Link,
  Status,
  Metric,
  Gauge,
  Sum,
  Histogram,
  Summary,
  NumberDataPoint,
  HistogramDataPoint,
  SummaryDataPoint,
  ValueAtQuantile,
  Exemplar,
}
use Rattle.otlp_messages.specs.declared.messages.Row.{Row}
use Rattle.otlp_messages.specs.declared.messages.FieldKind.{FieldKind}
use Rattle.otlp_messages.specs.declared.messages.FieldKind.TheVariants.{Unknown, Varint, Fixed64, Fixed32, Packed64, Text, Octets, Id, Embedded, Member, Refused}

-- at most one field of a message has the same mark, but any number may have the mark 0
pub record Line : Type 0 where
  pub number : ℕ
  pub mark : ℕ
  pub kind : FieldKind

-- a singular field, a repeated field, and a member of the oneof whose first member is `mark`
abbrev pub once : ℕ → FieldKind → Line
once number kind = record { number = number; mark = number; kind = kind }

abbrev pub many : ℕ → FieldKind → Line
many number kind = record { number = number; mark = 0; kind = kind }

abbrev pub choice : ℕ → ℕ → FieldKind → Line
choice mark number kind = record { number = number; mark = mark; kind = kind }

-- the message of a scope group's items
abbrev pub item_of : ItemKind → Message
item_of Spans = Span
item_of LogRecords = LogRecord
item_of Metrics = Metric

abbrev pub lines_of : Message → List Line
lines_of BatchArrowRecords =
    once 1 Varint  -- batch_id, int64
    ∷ many 2 (Embedded ArrowPayload)  -- arrow_payloads; headers, number 3, is passed over
    ∷ []
lines_of ArrowPayload =
    once 1 Text  -- schema_id
    ∷ once 2 Varint  -- type, enum
    ∷ once 3 Octets  -- record
    ∷ []
lines_of BatchStatus =
    once 1 Varint  -- batch_id, int64
    ∷ once 2 Varint  -- status_code, enum
    ∷ once 3 Text  -- status_message
    ∷ []
lines_of SendEvent =
    choice 1 1 Octets  -- request, an export request
    ∷ choice 1 2 (Embedded BatchStatus)  -- status
    ∷ []
lines_of (Request of) =
    many 1 (Embedded (ResourceGroup of))  -- resource_spans, resource_logs or resource_metrics
    ∷ []
lines_of (ResourceGroup of) =
    once 1 (Embedded Resource)  -- resource
    ∷ many 2 (Embedded (ScopeGroup of))  -- scope_spans, scope_logs or scope_metrics
    ∷ once 3 Text  -- schema_url
    ∷ []
lines_of (ScopeGroup of) =
    once 1 (Embedded InstrumentationScope)  -- scope
    ∷ many 2 (Embedded (item_of of))  -- spans, log_records or metrics
    ∷ once 3 Text  -- schema_url
    ∷ []
lines_of Resource =
    many 1 (Embedded KeyValue)  -- attributes
    ∷ once 2 Varint  -- dropped_attributes_count, uint32
    ∷ []
lines_of InstrumentationScope =
    once 1 Text  -- name
    ∷ once 2 Text  -- version
    ∷ many 3 (Embedded KeyValue)  -- attributes
    ∷ once 4 Varint  -- dropped_attributes_count, uint32
    ∷ []
lines_of KeyValue =
    once 1 Text  -- key
    ∷ once 2 (Embedded AnyValue)  -- value
    ∷ []
lines_of AnyValue =
    choice 1 1 Text  -- string_value
    ∷ choice 1 2 Varint  -- bool_value
    ∷ choice 1 3 Varint  -- int_value, int64
    ∷ choice 1 4 Fixed64  -- double_value
    ∷ choice 1 5 (Embedded ArrayValue)  -- array_value
    ∷ choice 1 6 (Embedded KeyValueList)  -- kvlist_value
    ∷ choice 1 7 Octets  -- bytes_value
    ∷ []
lines_of ArrayValue =
    many 1 (Member AnyValue)  -- values
    ∷ []
lines_of KeyValueList =
    many 1 (Member KeyValue)  -- values
    ∷ []
lines_of LogRecord =
    once 1 Fixed64  -- time_unix_nano
    ∷ once 2 Varint  -- severity_number, enum
    ∷ once 3 Text  -- severity_text
    ∷ once 5 (Embedded AnyValue)  -- body
    ∷ many 6 (Embedded KeyValue)  -- attributes
    ∷ once 7 Varint  -- dropped_attributes_count, uint32
    ∷ once 8 Fixed32  -- flags
    ∷ once 9 (Id 16)  -- trace_id
    ∷ once 10 (Id 8)  -- span_id
    ∷ once 11 Fixed64  -- observed_time_unix_nano
    ∷ once 12 Text  -- event_name
    ∷ []
lines_of Span =
    once 1 (Id 16)  -- trace_id
    ∷ once 2 (Id 8)  -- span_id
    ∷ once 3 Text  -- trace_state
    ∷ once 4 (Id 8)  -- parent_span_id
    ∷ once 5 Text  -- name
    ∷ once 6 Varint  -- kind, enum
    ∷ once 7 Fixed64  -- start_time_unix_nano
    ∷ once 8 Fixed64  -- end_time_unix_nano
    ∷ many 9 (Embedded KeyValue)  -- attributes
    ∷ once 10 Varint  -- dropped_attributes_count, uint32
    ∷ many 11 (Embedded Event)  -- events
    ∷ once 12 Varint  -- dropped_events_count, uint32
    ∷ many 13 (Embedded Link)  -- links
    ∷ once 14 Varint  -- dropped_links_count, uint32
    ∷ once 15 (Embedded Status)  -- status
    ∷ once 16 Fixed32  -- flags
    ∷ []
lines_of Event =
    once 1 Fixed64  -- time_unix_nano
    ∷ once 2 Text  -- name
    ∷ many 3 (Embedded KeyValue)  -- attributes
    ∷ once 4 Varint  -- dropped_attributes_count, uint32
    ∷ []
lines_of Link =
    once 1 (Id 16)  -- trace_id
    ∷ once 2 (Id 8)  -- span_id
    ∷ once 3 Text  -- trace_state
    ∷ many 4 (Embedded KeyValue)  -- attributes
    ∷ once 5 Varint  -- dropped_attributes_count, uint32
    ∷ once 6 Fixed32  -- flags
    ∷ []
lines_of Status =
    once 2 Text  -- message
    ∷ once 3 Varint  -- code, enum
    ∷ []
lines_of Metric =
    once 1 Text  -- name
    ∷ once 2 Text  -- description
    ∷ once 3 Text  -- unit
    ∷ choice 5 5 (Embedded Gauge)  -- gauge
    ∷ choice 5 7 (Embedded Sum)  -- sum
    ∷ choice 5 9 (Embedded Histogram)  -- histogram
    ∷ choice 5 10 Refused  -- exponential_histogram
    ∷ choice 5 11 (Embedded Summary)  -- summary
    ∷ []
lines_of Gauge =
    many 1 (Embedded NumberDataPoint)  -- data_points
    ∷ []
lines_of Sum =
    many 1 (Embedded NumberDataPoint)  -- data_points
    ∷ once 2 Varint  -- aggregation_temporality, enum
    ∷ once 3 Varint  -- is_monotonic, bool
    ∷ []
lines_of Histogram =
    many 1 (Embedded HistogramDataPoint)  -- data_points
    ∷ once 2 Varint  -- aggregation_temporality, enum
    ∷ []
lines_of Summary =
    many 1 (Embedded SummaryDataPoint)  -- data_points
    ∷ []
lines_of NumberDataPoint =
    once 2 Fixed64  -- start_time_unix_nano
    ∷ once 3 Fixed64  -- time_unix_nano
    ∷ choice 4 4 Fixed64  -- as_double
    ∷ many 5 (Embedded Exemplar)  -- exemplars
    ∷ choice 4 6 Fixed64  -- as_int, sfixed64
    ∷ many 7 (Embedded KeyValue)  -- attributes
    ∷ once 8 Varint  -- flags, uint32
    ∷ []
lines_of HistogramDataPoint =
    once 2 Fixed64  -- start_time_unix_nano
    ∷ once 3 Fixed64  -- time_unix_nano
    ∷ once 4 Fixed64  -- count
    ∷ once 5 Fixed64  -- sum, an optional double
    ∷ many 6 Packed64  -- bucket_counts, fixed64
    ∷ many 7 Packed64  -- explicit_bounds, double
    ∷ many 8 (Embedded Exemplar)  -- exemplars
    ∷ many 9 (Embedded KeyValue)  -- attributes
    ∷ once 10 Varint  -- flags, uint32
    ∷ once 11 Fixed64  -- min, an optional double
    ∷ once 12 Fixed64  -- max, an optional double
    ∷ []
lines_of SummaryDataPoint =
    once 2 Fixed64  -- start_time_unix_nano
    ∷ once 3 Fixed64  -- time_unix_nano
    ∷ once 4 Fixed64  -- count
    ∷ once 5 Fixed64  -- sum, double
    ∷ many 6 (Embedded ValueAtQuantile)  -- quantile_values
    ∷ many 7 (Embedded KeyValue)  -- attributes
    ∷ once 8 Varint  -- flags, uint32
    ∷ []
lines_of ValueAtQuantile =
    once 1 Fixed64  -- quantile, double
    ∷ once 2 Fixed64  -- value, double
    ∷ []
lines_of Exemplar =
    once 2 Fixed64  -- time_unix_nano
    ∷ choice 3 3 Fixed64  -- as_double
    ∷ once 4 (Id 8)  -- span_id
    ∷ once 5 (Id 16)  -- trace_id
    ∷ choice 3 6 Fixed64  -- as_int, sfixed64
    ∷ many 7 (Embedded KeyValue)  -- filtered_attributes
    ∷ []

-- the line of a field number; a field that has none is unknown
abbrev pub line_in : List Line → ℕ → Line
line_in [] n = many n Unknown
line_in (line ∷ lines) n = if n == line.number then line else line_in lines n

abbrev pub kind_of : Message → ℕ → FieldKind
kind_of message n = (line_in (lines_of message) n).kind

abbrev pub mark_of : Message → ℕ → ℕ
mark_of message n = (line_in (lines_of message) n).mark

-- what the code's table says of a field, seen by the code's type
abbrev pub row_in : Message → ℕ → Row
row_in message n = record { kind = kind_of message n; mark = mark_of message n }
