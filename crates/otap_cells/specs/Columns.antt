-- The columns of each table (OpenTelemetry Arrow data model; names, types and codings are this gateway's profile).
use Rattle.std.specs.Prelude.{ℕ, ◌+◌, Bool, true, false, List, [], ◌∷◌, ◌++◌, length, codes, Option, None, if◌then◌else◌, ◌==◌}
use Rattle.std.specs.List.{slice_index_or, list_any, join_with_byte, position_from}
use Rattle.std.specs.Str.{bytes_eq}
use Rattle.otap_cells.specs.declared.payload.Kind.{Kind}
use Rattle.otap_cells.specs.declared.payload.Kind.TheVariants as table
use Rattle.otap_cells.specs.declared.profile.Base.{Base}
use Rattle.otap_cells.specs.declared.profile.Base.TheVariants as base
use Rattle.otap_cells.specs.declared.profile.Coding.{Coding}
use Rattle.otap_cells.specs.declared.profile.Coding.TheVariants as coding
use Rattle.otap_cells.specs.declared.profile.Column.{Column}
use Rattle.otap_cells.specs.Bases.{is_id}

-- a column: its dotted name, what its cells hold, whether it is written as a dictionary, how its ids are stored
pub record ColumnSpec : Type 0 where
  pub name : List ℕ
  pub base : Base
  pub dictionary : Bool
  pub coding : Coding

-- ids that are stored in runs
abbrev pub is_run : Coding → Bool
is_run coding.Plain = false
is_run coding.Delta = false
is_run coding.Run = true

-- the column that the program's table has
abbrev pub described : Column → ColumnSpec
described c = record { name = c.name.now; base = c.base; dictionary = c.dictionary; coding = c.coding }

-- the four sorts of lines in the tables below
abbrev pub plain : List ℕ → Base → ColumnSpec
plain name holds = record { name = name; base = holds; dictionary = false; coding = coding.Plain }

abbrev pub dictionary : List ℕ → Base → ColumnSpec
dictionary name holds = record { name = name; base = holds; dictionary = true; coding = coding.Plain }

abbrev pub delta : List ℕ → Base → ColumnSpec
delta name holds = record { name = name; base = holds; dictionary = false; coding = coding.Delta }

abbrev pub run : List ℕ → Base → ColumnSpec
run name holds = record { name = name; base = holds; dictionary = false; coding = coding.Run }

-- the numbers of rows, wide where they are always written with 32 bits
abbrev pub id : Base
id = base.Id false

abbrev pub wide_id : Base
wide_id = base.Id true

-- ---- the tables: first the columns that a table has of its own items, and then all of its columns

-- the columns at the front of each main table: the item's own id, its resource and its scope
abbrev pub own_resources : List ColumnSpec
own_resources = dictionary (codes "resource.schema_url") base.Utf8
    ∷ plain (codes "resource.dropped_attributes_count") base.U32 ∷ []

abbrev pub own_scopes : List ColumnSpec
own_scopes = dictionary (codes "scope.name") base.Utf8
    ∷ dictionary (codes "scope.version") base.Utf8
    ∷ plain (codes "scope.dropped_attributes_count") base.U32 ∷ []

abbrev pub common : List ColumnSpec
common = delta (codes "id") id
    ∷ delta (codes "resource.id") id ∷ own_resources
    ++ (delta (codes "scope.id") id ∷ own_scopes
    ++ (dictionary (codes "schema_url") base.Utf8 ∷ []))

-- log records
abbrev pub own_logs : List ColumnSpec
own_logs = plain (codes "time_unix_nano") base.Timestamp
    ∷ plain (codes "observed_time_unix_nano") base.Timestamp
    ∷ plain (codes "trace_id") base.Fixed16
    ∷ plain (codes "span_id") base.Fixed8
    ∷ dictionary (codes "severity_number") base.I32
    ∷ dictionary (codes "severity_text") base.Utf8
    ∷ plain (codes "body.type") base.U8
    ∷ plain (codes "body.str") base.Utf8
    ∷ plain (codes "body.int") base.I64
    ∷ plain (codes "body.double") base.Double
    ∷ plain (codes "body.bool") base.Bool
    ∷ plain (codes "body.bytes") base.Binary
    ∷ plain (codes "body.ser") base.Binary
    ∷ plain (codes "dropped_attributes_count") base.U32
    ∷ plain (codes "flags") base.U32
    ∷ dictionary (codes "event_name") base.Utf8 ∷ []

unfoldable pub logs : List ColumnSpec
logs = common ++ own_logs

-- spans
abbrev pub own_spans : List ColumnSpec
own_spans = plain (codes "start_time_unix_nano") base.Timestamp
    ∷ dictionary (codes "duration_time_unix_nano") base.Duration
    ∷ plain (codes "trace_id") base.Fixed16
    ∷ plain (codes "span_id") base.Fixed8
    ∷ dictionary (codes "trace_state") base.Utf8
    ∷ plain (codes "parent_span_id") base.Fixed8
    ∷ dictionary (codes "name") base.Utf8
    ∷ dictionary (codes "kind") base.I32
    ∷ plain (codes "dropped_attributes_count") base.U32
    ∷ plain (codes "dropped_events_count") base.U32
    ∷ plain (codes "dropped_links_count") base.U32
    ∷ dictionary (codes "status.code") base.I32
    ∷ dictionary (codes "status.status_message") base.Utf8
    ∷ plain (codes "flags") base.U32 ∷ []

unfoldable pub spans : List ColumnSpec
spans = common ++ own_spans

-- metrics
abbrev pub own_metrics : List ColumnSpec
own_metrics = plain (codes "metric_type") base.U8
    ∷ dictionary (codes "name") base.Utf8
    ∷ dictionary (codes "description") base.Utf8
    ∷ dictionary (codes "unit") base.Utf8
    ∷ dictionary (codes "aggregation_temporality") base.I32
    ∷ plain (codes "is_monotonic") base.Bool ∷ []

unfoldable pub metrics : List ColumnSpec
metrics = common ++ own_metrics

-- attributes: the columns of a value, those from the key on, and all by the width of their parents' ids
abbrev pub own_values : List ColumnSpec
own_values = plain (codes "type") base.U8
    ∷ dictionary (codes "str") base.Utf8
    ∷ dictionary (codes "int") base.I64
    ∷ plain (codes "double") base.Double
    ∷ plain (codes "bool") base.Bool
    ∷ dictionary (codes "bytes") base.Binary
    ∷ dictionary (codes "ser") base.Binary ∷ []

abbrev pub own_attributes : List ColumnSpec
own_attributes = dictionary (codes "key") base.Utf8 ∷ own_values

abbrev pub attributes : Base → List ColumnSpec
attributes parent = run (codes "parent_id") parent ∷ own_attributes

-- events of spans
abbrev pub own_events : List ColumnSpec
own_events = plain (codes "time_unix_nano") base.Timestamp
    ∷ dictionary (codes "name") base.Utf8
    ∷ plain (codes "dropped_attributes_count") base.U32 ∷ []

unfoldable pub span_events : List ColumnSpec
span_events = delta (codes "id") wide_id ∷ run (codes "parent_id") id ∷ own_events

-- links of spans
abbrev pub own_links : List ColumnSpec
own_links = plain (codes "trace_id") base.Fixed16
    ∷ plain (codes "span_id") base.Fixed8
    ∷ dictionary (codes "trace_state") base.Utf8
    ∷ plain (codes "dropped_attributes_count") base.U32
    ∷ plain (codes "flags") base.U32 ∷ []

unfoldable pub span_links : List ColumnSpec
span_links = delta (codes "id") wide_id ∷ run (codes "parent_id") id ∷ own_links

-- points of gauges and sums
abbrev pub own_number_points : List ColumnSpec
own_number_points = plain (codes "start_time_unix_nano") base.Timestamp
    ∷ plain (codes "time_unix_nano") base.Timestamp
    ∷ plain (codes "int_value") base.I64
    ∷ plain (codes "double_value") base.Double
    ∷ plain (codes "flags") base.U32 ∷ []

unfoldable pub number_points : List ColumnSpec
number_points = delta (codes "id") wide_id ∷ delta (codes "parent_id") id ∷ own_number_points

-- points of summaries
abbrev pub own_summary_points : List ColumnSpec
own_summary_points = plain (codes "start_time_unix_nano") base.Timestamp
    ∷ plain (codes "time_unix_nano") base.Timestamp
    ∷ plain (codes "count") base.U64
    ∷ plain (codes "sum") base.Double
    ∷ plain (codes "quantiles") base.ListF64
    ∷ plain (codes "quantile_values") base.ListF64
    ∷ plain (codes "flags") base.U32 ∷ []

unfoldable pub summary_points : List ColumnSpec
summary_points = delta (codes "id") wide_id ∷ delta (codes "parent_id") id ∷ own_summary_points

-- points of histograms
abbrev pub own_hist_points : List ColumnSpec
own_hist_points = plain (codes "start_time_unix_nano") base.Timestamp
    ∷ plain (codes "time_unix_nano") base.Timestamp
    ∷ plain (codes "count") base.U64
    ∷ plain (codes "bucket_counts") base.ListU64
    ∷ plain (codes "explicit_bounds") base.ListF64
    ∷ plain (codes "sum") base.Double
    ∷ plain (codes "flags") base.U32
    ∷ plain (codes "min") base.Double
    ∷ plain (codes "max") base.Double ∷ []

unfoldable pub hist_points : List ColumnSpec
hist_points = delta (codes "id") wide_id ∷ delta (codes "parent_id") id ∷ own_hist_points

-- exemplars of numbers and of histograms
abbrev pub own_exemplars : List ColumnSpec
own_exemplars = plain (codes "time_unix_nano") base.Timestamp
    ∷ plain (codes "int_value") base.I64
    ∷ plain (codes "double_value") base.Double
    ∷ plain (codes "span_id") base.Fixed8
    ∷ plain (codes "trace_id") base.Fixed16 ∷ []

unfoldable pub exemplars : List ColumnSpec
exemplars = delta (codes "id") wide_id ∷ delta (codes "parent_id") wide_id ∷ own_exemplars

-- attributes of resources, scopes, log records and spans
unfoldable pub attrs : List ColumnSpec
attrs = attributes id

-- attributes of points, exemplars, events and links
unfoldable pub deep_attrs : List ColumnSpec
deep_attrs = attributes wide_id

-- the columns of each kind's tables, in their order
abbrev pub columns_of : Kind → List ColumnSpec
columns_of table.ResourceAttrs = attrs
columns_of table.ScopeAttrs = attrs
columns_of table.Metrics = metrics
columns_of table.NumberPoints = number_points
columns_of table.SummaryPoints = summary_points
columns_of table.HistPoints = hist_points
columns_of table.NumberPointAttrs = deep_attrs
columns_of table.SummaryPointAttrs = deep_attrs
columns_of table.HistPointAttrs = deep_attrs
columns_of table.NumberExemplars = exemplars
columns_of table.HistExemplars = exemplars
columns_of table.NumberExemplarAttrs = deep_attrs
columns_of table.HistExemplarAttrs = deep_attrs
columns_of table.Logs = logs
columns_of table.LogAttrs = attrs
columns_of table.Spans = spans
columns_of table.SpanAttrs = attrs
columns_of table.SpanEvents = span_events
columns_of table.SpanLinks = span_links
columns_of table.EventAttrs = deep_attrs
columns_of table.LinkAttrs = deep_attrs

-- how many columns a kind has
abbrev pub width_of : Kind → ℕ
width_of kind = length (columns_of kind)

-- a column of a kind
abbrev pub column_at : Kind → ℕ → ColumnSpec
column_at kind column = slice_index_or (columns_of kind) column (plain [] base.Binary)

-- its dotted name, what its cells hold, how its ids are stored where a schema names no other way
abbrev pub name_at : Kind → ℕ → List ℕ
name_at kind column = (column_at kind column).name

abbrev pub base_at : Kind → ℕ → Base
base_at kind column = (column_at kind column).base

abbrev pub coding_at : Kind → ℕ → Coding
coding_at kind column = (column_at kind column).coding

-- its cells are the numbers of rows
abbrev pub is_id_at : Kind → ℕ → Bool
is_id_at kind column = is_id (base_at kind column)

-- ids may be stored plainly and by distances, and in runs where the profile itself stores them in runs: at the parents of
-- attributes, events and links
abbrev pub allows : ColumnSpec → Coding → Bool
allows c coding.Plain = is_id c.base
allows c coding.Delta = is_id c.base
allows c coding.Run = is_run c.coding

-- the place of a name among columns; their number where none has it
abbrev pub place_in : List ColumnSpec → List ℕ → ℕ
place_in [] name = 0
place_in (column ∷ columns) name = if bytes_eq name column.name then 0 else place_in columns name + 1

-- a name that holds a dot
abbrev pub has_dot : List ℕ → Bool
has_dot name = list_any (λ byte. byte == 46) name

-- the first column with this path of names, joined by dots; a name that holds a dot is on no path
abbrev pub place_of_path : List ColumnSpec → List (List ℕ) → Option ℕ
place_of_path columns path = if list_any has_dot path then None else position_from (λ column. bytes_eq (join_with_byte 46 path) column.name) 0 columns
