-- How much the columns of each kind take together.
use Rattle.std.proofs.Common.{◌≡◌, ℕ, ◌+◌, ◌*◌, ◌≤◌, true, List, [], ◌∷◌, ◌++◌, map, length, refl, sym, ap, arith}
use Rattle.std.specs.Prelude.{nat_le, count_by, sum_by, if◌then◌else◌}
use Rattle.std.specs.List.{flat_map, range_with_len}
use Rattle.std.proofs.lemmas.Bool.{leb-true}
use Rattle.std.proofs.lemmas.List.{map-append}
use Rattle.std.proofs.lemmas.List.FromFn.{length-range_with_len}
use Rattle.std.proofs.lemmas.List.Sums.{sum_by-cons, sum_by-append}
use Rattle.arrow_schema.specs.Trees.{sum_of}
use Rattle.otap_cells.specs.declared.payload.Kind.{Kind}
use Rattle.otap_cells.specs.declared.payload.Kind.TheVariants as table
use Rattle.otap_cells.specs.Columns.{ColumnSpec, base_at, columns_of, width_of, logs, spans, metrics, attrs, deep_attrs, span_events, span_links, number_points, summary_points, hist_points, exemplars}
use Rattle.otap_cells.specs.Tables.{Table}
use Rattle.otap_cells.specs.Weights.{row_weight_limit, weight_of_table}
use Rattle.otap_columns.specs.Limits.{row_limit}
use Rattle.otap_cells.specs.declared.grouping.ColumnGroup as code
use Rattle.otap_cells.specs.Groups.{Member, Group, Alone, Under, grouped}
use Rattle.otap_columns.specs.BuiltCells.{HasRoom, row_most, column_weight, column_most, columns_most, group_parts, group_most}
use Rattle.otap_cells.specs.StaticGroups.{group_in}
use Rattle.otap_columns.proofs.Grouping.{spec_at, members_of, group_size}
use Rattle.otap_columns.proofs.RowsAdded.{rows_light}
use Rattle.lists.proofs.MadeSums.{sum_of_map, sum_of_both}
use Rattle.otap_columns.proofs.Summing.{sum_of-times, sum_of-same, columns_weigh}

-- 1 for a column that may be a dictionary
abbrev pub mark : ColumnSpec → ℕ
mark c = if c.dictionary then 1 else 0

-- each column is in the groups once; the groups make few parts and few fields; and so on
pub record IsCounted (columns : List ColumnSpec) : Type 0 where
  pub order : map (λ (m : Member). m.column) (flat_map members_of (grouped columns)) ≡ range_with_len 0 (length columns)
  pub parts : nat_le (sum_by group_parts (grouped columns)) 32 ≡ true
  pub fields : nat_le (sum_of (map (group_size columns) (grouped columns))) 32 ≡ true
  pub width : nat_le (length columns) 32 ≡ true
  pub rows : nat_le (sum_by (λ (column : ℕ). row_most (spec_at columns column).base) (range_with_len 0 (length columns))) 168 ≡ true
  pub marked : sum_by (λ (column : ℕ). mark (spec_at columns column)) (range_with_len 0 (length columns)) ≡ count_by (λ (c : ColumnSpec). c.dictionary) columns

logs_counted : IsCounted logs
unfolding grouped logs
logs_counted = record { order = refl; parts = refl; fields = refl; width = refl; rows = refl; marked = refl }

spans_counted : IsCounted spans
unfolding grouped spans
spans_counted = record { order = refl; parts = refl; fields = refl; width = refl; rows = refl; marked = refl }

metrics_counted : IsCounted metrics
unfolding grouped metrics
metrics_counted = record { order = refl; parts = refl; fields = refl; width = refl; rows = refl; marked = refl }

attrs_counted : IsCounted attrs
unfolding grouped attrs
attrs_counted = record { order = refl; parts = refl; fields = refl; width = refl; rows = refl; marked = refl }

deep_attrs_counted : IsCounted deep_attrs
unfolding grouped deep_attrs
deep_attrs_counted = record { order = refl; parts = refl; fields = refl; width = refl; rows = refl; marked = refl }

span_events_counted : IsCounted span_events
unfolding grouped span_events
span_events_counted = record { order = refl; parts = refl; fields = refl; width = refl; rows = refl; marked = refl }

span_links_counted : IsCounted span_links
unfolding grouped span_links
span_links_counted = record { order = refl; parts = refl; fields = refl; width = refl; rows = refl; marked = refl }

number_points_counted : IsCounted number_points
unfolding grouped number_points
number_points_counted = record { order = refl; parts = refl; fields = refl; width = refl; rows = refl; marked = refl }

summary_points_counted : IsCounted summary_points
unfolding grouped summary_points
summary_points_counted = record { order = refl; parts = refl; fields = refl; width = refl; rows = refl; marked = refl }

hist_points_counted : IsCounted hist_points
unfolding grouped hist_points
hist_points_counted = record { order = refl; parts = refl; fields = refl; width = refl; rows = refl; marked = refl }

exemplars_counted : IsCounted exemplars
unfolding grouped exemplars
exemplars_counted = record { order = refl; parts = refl; fields = refl; width = refl; rows = refl; marked = refl }

pub kinds_counted : (kind : Kind) → IsCounted (columns_of kind)
kinds_counted table.ResourceAttrs = attrs_counted
kinds_counted table.ScopeAttrs = attrs_counted
kinds_counted table.Metrics = metrics_counted
kinds_counted table.NumberPoints = number_points_counted
kinds_counted table.SummaryPoints = summary_points_counted
kinds_counted table.HistPoints = hist_points_counted
kinds_counted table.NumberPointAttrs = deep_attrs_counted
kinds_counted table.SummaryPointAttrs = deep_attrs_counted
kinds_counted table.HistPointAttrs = deep_attrs_counted
kinds_counted table.NumberExemplars = exemplars_counted
kinds_counted table.HistExemplars = exemplars_counted
kinds_counted table.NumberExemplarAttrs = deep_attrs_counted
kinds_counted table.HistExemplarAttrs = deep_attrs_counted
kinds_counted table.Logs = logs_counted
kinds_counted table.LogAttrs = attrs_counted
kinds_counted table.Spans = spans_counted
kinds_counted table.SpanAttrs = attrs_counted
kinds_counted table.SpanEvents = span_events_counted
kinds_counted table.SpanLinks = span_links_counted
kinds_counted table.EventAttrs = deep_attrs_counted
kinds_counted table.LinkAttrs = deep_attrs_counted

-- ---- the bytes of the columns of a table

members_most : (t : Table) (ms : List Member) → columns_most t ms ≡ sum_by (column_most t) (map (λ (m : Member). m.column) ms)
members_most t ms = sym (sum_of_map (column_most t) (λ (m : Member). m.column) ms)

one_most : (t : Table) (g : Group) → group_most t g ≡ sum_by (column_most t) (map (λ (m : Member). m.column) (members_of g))
one_most t (Alone m) = omega (arith, sum_by-cons (column_most t) m.column [])
one_most t (Under struct members) = members_most t members

groups_most : (t : Table) (gs : List Group) → sum_by (group_most t) gs ≡ sum_by (column_most t) (map (λ (m : Member). m.column) (flat_map members_of gs))
groups_most t [] = refl
groups_most t (g ∷ gs) =
    let both : map (λ (m : Member). m.column) (flat_map members_of (g ∷ gs)) ≡ map (λ (m : Member). m.column) (members_of g) ++ map (λ (m : Member). m.column) (flat_map members_of gs) =
    map-append (λ (m : Member). m.column) (members_of g) (flat_map members_of gs) in
    omega (
      arith,
      sum_by-cons (group_most t) g gs,
      one_most t g,
      groups_most t gs,
      ap (sum_by (column_most t)) both,
      sum_by-append (column_most t) (map (λ (m : Member). m.column) (members_of g)) (map (λ (m : Member). m.column) (flat_map members_of gs)),
    )

at_most : (a b n : ℕ) → a ≤ b → a * n ≤ b * n
at_most a b n low = grind arith

-- THE COLUMNS TOGETHER take at most 136 bytes for each row, the row weight of the table, and 1,024 bytes more
pub table_most : (t : Table) → sum_by (group_most t) (grouped (columns_of t.kind)) ≤ row_limit * length t.rows + weight_of_table t + 1024
table_most t =
    let counted : IsCounted (columns_of t.kind) = kinds_counted t.kind in
    let numbers : List ℕ = range_with_len 0 (width_of t.kind) in
    let rows : ℕ → ℕ = λ column. row_most (base_at t.kind column) * length t.rows in
    let weights : ℕ → ℕ = column_weight t in
    let few : sum_by (λ (column : ℕ). row_most (base_at t.kind column)) numbers ≤ 168 = leb-true _ 168 counted.rows in
    let narrow : width_of t.kind ≤ 32 = leb-true (width_of t.kind) 32 counted.width in
    omega (
      arith,
      groups_most t (grouped (columns_of t.kind)),
      ap (sum_by (column_most t)) counted.order,
      sum_of_both (λ (column : ℕ). rows column + weights column) (λ (column : ℕ). 32) numbers,
      sum_of_both rows weights numbers,
      sum_of-times (λ (column : ℕ). row_most (base_at t.kind column)) (length t.rows) numbers,
      sum_of-same 32 numbers,
      length-range_with_len 0 (width_of t.kind),
      at_most (sum_by (λ (column : ℕ). row_most (base_at t.kind column)) numbers) 168 (length t.rows) few,
      columns_weigh t.rows (width_of t.kind),
      narrow,
    )

pub table_parts : (kind : Kind) → sum_by group_parts (grouped (columns_of kind)) ≤ 32
table_parts kind = leb-true (sum_by group_parts (grouped (columns_of kind))) 32 (kinds_counted kind).parts

-- ---- the same for the groups of the code

module _ (t : Table) (gs : List code.ColumnGroup) (are : map group_in gs ≡ grouped (columns_of t.kind)) where
  pub groups_parts : sum_by (λ (g : code.ColumnGroup). group_parts (group_in g)) gs ≤ 32
  groups_parts = omega (arith, sum_of_map group_parts group_in gs, ap (sum_by group_parts) are, table_parts t.kind)

  pub groups_bytes : sum_by (λ (g : code.ColumnGroup). group_most t (group_in g)) gs ≤ row_limit * length t.rows + weight_of_table t + 1024
  groups_bytes = omega (arith, sum_of_map (group_most t) group_in gs, ap (sum_by (group_most t)) are, table_most t)

-- a batch without parts has room for all
pub room_for_all : (t : Table) → weight_of_table t ≤ row_weight_limit → HasRoom (record { rows = length t.rows; nodes = []; buffers = [] }) 32 (row_limit * length t.rows + weight_of_table t + 1024)
room_for_all t light = record { nodes = omega arith; buffers = omega arith; body = omega (arith, light, rows_light t) }
