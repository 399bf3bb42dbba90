-- The groups of each table's columns, tested: names that differ, one column at the end of each path, few fields.
use Rattle.std.proofs.Common.{◌≡◌, ℕ, zero, suc, ◌+◌, Bool, true, List, [], ◌∷◌, ◌++◌, map, length, None, refl, arith}
use Rattle.std.specs.Prelude.{◌==◌, ◌&&◌, ◌||◌, not, nat_lt, nat_le}
use Rattle.std.specs.List.{slice_index_or, list_all, list_any}
use Rattle.std.specs.Option.{is_none}
use Rattle.std.specs.Str.{is_utf8, IsAscii}
use Rattle.std.proofs.lemmas.Bool.{and_parts, ltb-true}
use Rattle.std.proofs.lemmas.Str.{IsUtf8-from_ascii, is_utf8-from_IsUtf8}
use Rattle.arrow_schema.specs.Limits.{max_fields}
use Rattle.arrow_schema.specs.Types.{takes_dictionary}
use Rattle.arrow_schema.specs.Trees.{sum_of}
use Rattle.arrow_schema.specs.Branches.{are_apart, items_in}
use Rattle.arrow_buffers.specs.Below.{all_below}
use Rattle.otap_cells.specs.declared.payload.Kind.{Kind}
use Rattle.otap_cells.specs.declared.payload.Kind.TheVariants as table
use Rattle.otap_cells.specs.declared.profile.Base.TheVariants as base
use Rattle.otap_cells.specs.Columns.{ColumnSpec, plain, place_of_path, columns_of, logs, spans, metrics, attrs, deep_attrs, span_events, span_links, number_points, summary_points, hist_points, exemplars}
use Rattle.otap_columns.specs.declared.forms.ColumnForm.TheVariants as form
use Rattle.otap_columns.specs.Known.{is_column}
use Rattle.otap_cells.specs.Groups.{Member, Group, Alone, Under, grouped}
use Rattle.otap_columns.specs.Schemas.{arrow_type_in, item_in}

-- ---- texts of which each byte is below 128

abbrev pub is_ascii : List ℕ → Bool
is_ascii bytes = list_all (λ byte. nat_lt byte 128) bytes

ascii : (bytes : List ℕ) → is_ascii bytes ≡ true → IsAscii bytes
ascii [] is zero = omega arith
ascii [] is (suc i) = omega arith
ascii (b ∷ bytes) is zero = ltb-true b 128 (and_parts (nat_lt b 128) (is_ascii bytes) is).0
ascii (b ∷ bytes) is (suc i) = ascii bytes (and_parts (nat_lt b 128) (is_ascii bytes) is).1 i

pub ascii_text : (bytes : List ℕ) → is_ascii bytes ≡ true → is_utf8 bytes ≡ true
ascii_text bytes is = is_utf8-from_IsUtf8 bytes (IsUtf8-from_ascii bytes (ascii bytes is))

-- ---- the test

abbrev pub spec_at : List ColumnSpec → ℕ → ColumnSpec
spec_at columns column = slice_index_or columns column (plain [] base.Binary)

-- the path of a column leads to it
abbrev pub is_member : List ColumnSpec → List (List ℕ) → Member → Bool
is_member columns above m = is_ascii m.name && is_column m.column (place_of_path columns (above ++ m.name ∷ []))

-- the path of a struct leads to no column
abbrev pub is_group : List ColumnSpec → Group → Bool
is_group columns (Alone m) = is_member columns [] m
is_group columns (Under struct members) =
    is_ascii struct && (is_none (place_of_path columns (struct ∷ [])) && (are_apart (map (λ (m : Member). m.name) members) && list_all (is_member columns (struct ∷ [])) members))

-- the parts of the test of a struct
pub record IsUnder (columns : List ColumnSpec) (struct : List ℕ) (members : List Member) : Type 0 where
  pub text : is_ascii struct ≡ true
  pub none : is_none (place_of_path columns (struct ∷ [])) ≡ true
  pub apart : are_apart (map (λ (m : Member). m.name) members) ≡ true
  pub each : list_all (is_member columns (struct ∷ [])) members ≡ true

pub under_tests : (columns : List ColumnSpec) (struct : List ℕ) (members : List Member) → is_group columns (Under struct members) ≡ true → IsUnder columns struct members
under_tests columns struct members is =
    let names = are_apart (map (λ (m : Member). m.name) members) in
    let each = list_all (is_member columns (struct ∷ [])) members in
    let one = and_parts (is_ascii struct) (is_none (place_of_path columns (struct ∷ [])) && (names && each)) is in
    let two = and_parts (is_none (place_of_path columns (struct ∷ []))) (names && each) one.1 in
    let three = and_parts names each two.1 in
    record { text = one.0; none = two.0; apart = three.0; each = three.1 }

abbrev pub group_name : Group → List ℕ
group_name (Alone m) = m.name
group_name (Under struct members) = struct

abbrev pub members_of : Group → List Member
members_of (Alone m) = m ∷ []
members_of (Under struct members) = members

abbrev pub member_size : List ColumnSpec → Member → ℕ
member_size columns m = 1 + items_in (item_in (spec_at columns m.column).base)

abbrev pub group_size : List ColumnSpec → Group → ℕ
group_size columns (Alone m) = member_size columns m
group_size columns (Under struct members) = 1 + sum_of (map (member_size columns) members)

-- a column is in one of the groups
abbrev pub is_of : ℕ → Member → Bool
is_of column m = m.column == column

abbrev pub has_column : List Group → ℕ → Bool
has_column groups column = list_any (λ (g : Group). list_any (is_of column) (members_of g)) groups

abbrev pub may_be_dictionary : ColumnSpec → Bool
may_be_dictionary c = not c.dictionary || takes_dictionary (arrow_type_in c.base form.Plain)

pub record IsGrouped (columns : List ColumnSpec) : Type 0 where
  pub apart : are_apart (map group_name (grouped columns)) ≡ true
  pub each : list_all (is_group columns) (grouped columns) ≡ true
  pub few : nat_le (sum_of (map (group_size columns) (grouped columns))) max_fields ≡ true
  pub root : place_of_path columns [] ≡ None
  pub all : all_below (has_column (grouped columns)) (length columns) ≡ true
  pub dictionaries : all_below (λ (column : ℕ). may_be_dictionary (spec_at columns column)) (length columns) ≡ true

logs_grouped : IsGrouped logs
unfolding grouped logs are_apart
logs_grouped = record { apart = refl; each = refl; few = refl; root = refl; all = refl; dictionaries = refl }

spans_grouped : IsGrouped spans
unfolding grouped spans are_apart
spans_grouped = record { apart = refl; each = refl; few = refl; root = refl; all = refl; dictionaries = refl }

metrics_grouped : IsGrouped metrics
unfolding grouped metrics are_apart
metrics_grouped = record { apart = refl; each = refl; few = refl; root = refl; all = refl; dictionaries = refl }

attrs_grouped : IsGrouped attrs
unfolding grouped attrs are_apart
attrs_grouped = record { apart = refl; each = refl; few = refl; root = refl; all = refl; dictionaries = refl }

deep_attrs_grouped : IsGrouped deep_attrs
unfolding grouped deep_attrs are_apart
deep_attrs_grouped = record { apart = refl; each = refl; few = refl; root = refl; all = refl; dictionaries = refl }

span_events_grouped : IsGrouped span_events
unfolding grouped span_events are_apart
span_events_grouped = record { apart = refl; each = refl; few = refl; root = refl; all = refl; dictionaries = refl }

span_links_grouped : IsGrouped span_links
unfolding grouped span_links are_apart
span_links_grouped = record { apart = refl; each = refl; few = refl; root = refl; all = refl; dictionaries = refl }

number_points_grouped : IsGrouped number_points
unfolding grouped number_points are_apart
number_points_grouped = record { apart = refl; each = refl; few = refl; root = refl; all = refl; dictionaries = refl }

summary_points_grouped : IsGrouped summary_points
unfolding grouped summary_points are_apart
summary_points_grouped = record { apart = refl; each = refl; few = refl; root = refl; all = refl; dictionaries = refl }

hist_points_grouped : IsGrouped hist_points
unfolding grouped hist_points are_apart
hist_points_grouped = record { apart = refl; each = refl; few = refl; root = refl; all = refl; dictionaries = refl }

exemplars_grouped : IsGrouped exemplars
unfolding grouped exemplars are_apart
exemplars_grouped = record { apart = refl; each = refl; few = refl; root = refl; all = refl; dictionaries = refl }

-- the columns of each kind pass it
pub kinds_grouped : (kind : Kind) → IsGrouped (columns_of kind)
kinds_grouped table.ResourceAttrs = attrs_grouped
kinds_grouped table.ScopeAttrs = attrs_grouped
kinds_grouped table.Metrics = metrics_grouped
kinds_grouped table.NumberPoints = number_points_grouped
kinds_grouped table.SummaryPoints = summary_points_grouped
kinds_grouped table.HistPoints = hist_points_grouped
kinds_grouped table.NumberPointAttrs = deep_attrs_grouped
kinds_grouped table.SummaryPointAttrs = deep_attrs_grouped
kinds_grouped table.HistPointAttrs = deep_attrs_grouped
kinds_grouped table.NumberExemplars = exemplars_grouped
kinds_grouped table.HistExemplars = exemplars_grouped
kinds_grouped table.NumberExemplarAttrs = deep_attrs_grouped
kinds_grouped table.HistExemplarAttrs = deep_attrs_grouped
kinds_grouped table.Logs = logs_grouped
kinds_grouped table.LogAttrs = attrs_grouped
kinds_grouped table.Spans = spans_grouped
kinds_grouped table.SpanAttrs = attrs_grouped
kinds_grouped table.SpanEvents = span_events_grouped
kinds_grouped table.SpanLinks = span_links_grouped
kinds_grouped table.EventAttrs = deep_attrs_grouped
kinds_grouped table.LinkAttrs = deep_attrs_grouped
