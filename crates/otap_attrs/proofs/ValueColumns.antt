-- The columns of a value, wherever they begin.
use Rattle.std.proofs.Common.{◌≡◌, ℕ, ◌+◌, ◌<◌, ◌≤◌, true, List, [], take, drop, length, sym, ap, ◌∙◌, arith}
use Rattle.std.specs.List.{slice_index_or}
use Rattle.std.proofs.Math.ListN.{get_or-map}
use Rattle.std.proofs.lemmas.List.{get_or-take, get_or-drop, length-map, length-take, length-drop}
use Rattle.otap_cells.specs.declared.payload.Kind.{Kind}
use Rattle.otap_cells.specs.declared.payload.Kind.TheVariants as table
use Rattle.otap_cells.specs.declared.profile.Base.{Base}
use Rattle.otap_cells.specs.declared.profile.Base.TheVariants as base
use Rattle.otap_cells.specs.Cells.{Cell, null, cell_at}
use Rattle.otap_cells.specs.Scalars.{is_unsigned}
use Rattle.otap_cells.specs.Columns.{ColumnSpec, plain, columns_of, base_at, width_of, attrs, deep_attrs, metrics, number_points, summary_points, hist_points, exemplars, logs, spans, span_events, span_links}
use Rattle.otap_attrs.specs.Values.{HasValueAt, value_bases}

-- all columns of a value are there
pub value_width : (kind : Kind) (column : ℕ) → HasValueAt kind column → column + 7 ≤ width_of kind
value_width kind column has =
    let part = drop column (columns_of kind) in
    omega (arith, ap length has.bases, length-map (take 7 part) (λ (c : ColumnSpec). c.base), length-take 7 part, length-drop column (columns_of kind))

pub value_base : (kind : Kind) (column k : ℕ) → HasValueAt kind column → k < 7 → base_at kind (column + k) ≡ slice_index_or value_bases k base.Binary
value_base kind column k has near =
    let part = drop column (columns_of kind) in
    let d = plain [] base.Binary in
    let wide = value_width kind column has in
    let there : slice_index_or (columns_of kind) (column + k) d ≡ slice_index_or (take 7 part) k d =
    sym (get_or-drop column (columns_of kind) k d) ∙ sym (get_or-take 7 part k d near) in
    ap (λ (c : ColumnSpec). c.base) there ∙ sym (get_or-map (λ (c : ColumnSpec). c.base) (take 7 part) k d) ∙ ap (λ (bases : List Base). slice_index_or bases k base.Binary) has.bases

pub value_text : (kind : Kind) (column : ℕ) → HasValueAt kind column → base_at kind (column + 1) ≡ base.Utf8
value_text kind column has = value_base kind column 1 has (omega arith)

pub value_type : (kind : Kind) (column : ℕ) → HasValueAt kind column → is_unsigned (base_at kind column) ≡ true
value_type kind column has =
    let same : column + 0 ≡ column = omega arith in
    let is : base_at kind (column + 0) ≡ base.U8 = value_base kind column 0 has (omega arith) in
    ap is_unsigned (sym (ap (base_at kind) same) ∙ is)

-- a cell of a value
pub value_cell : (cells : List Cell) (column k : ℕ) → cell_at (drop column cells) k ≡ slice_index_or cells (column + k) null
value_cell cells column k = get_or-drop column cells k null

pub value_first : (cells : List Cell) (column : ℕ) → cell_at (drop column cells) 0 ≡ slice_index_or cells column null
value_first cells column =
    let same : column + 0 ≡ column = omega arith in
    value_cell cells column 0 ∙ ap (λ (place : ℕ). slice_index_or cells place null) same

-- no table has many columns
pub small_width : (kind : Kind) → width_of kind ≤ 100
unfolding attrs deep_attrs metrics number_points summary_points hist_points exemplars logs spans span_events span_links
small_width table.ResourceAttrs = omega arith
small_width table.ScopeAttrs = omega arith
small_width table.Metrics = omega arith
small_width table.NumberPoints = omega arith
small_width table.SummaryPoints = omega arith
small_width table.HistPoints = omega arith
small_width table.NumberPointAttrs = omega arith
small_width table.SummaryPointAttrs = omega arith
small_width table.HistPointAttrs = omega arith
small_width table.NumberExemplars = omega arith
small_width table.HistExemplars = omega arith
small_width table.NumberExemplarAttrs = omega arith
small_width table.HistExemplarAttrs = omega arith
small_width table.Logs = omega arith
small_width table.LogAttrs = omega arith
small_width table.Spans = omega arith
small_width table.SpanAttrs = omega arith
small_width table.SpanEvents = omega arith
small_width table.SpanLinks = omega arith
small_width table.EventAttrs = omega arith
small_width table.LinkAttrs = omega arith
