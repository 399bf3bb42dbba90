-- Which rows continue the run of the row before them.
use Rattle.std.specs.Prelude.{ℕ, ℤ, pos, Bool, true, false, ◌==◌, ◌&&◌, ◌||◌, if◌then◌else◌, List, [], ◌∷◌, Option, None, Some, codes, map, drop}
use Rattle.std.specs.Ordering.{int_eq}
use Rattle.std.specs.Str.{bytes_eq}
use Rattle.otap_cells.specs.declared.payload.Kind.{Kind}
use Rattle.otap_cells.specs.declared.payload.Kind.TheVariants as table
use Rattle.otap_cells.specs.declared.continuing.Attribute.{Attribute}
use Rattle.otap_cells.specs.ByName.{cell_of}
use Rattle.otap_cells.specs.Cells.{Cell, bytes_in, nat_in}
use Rattle.otap_cells.specs.Columns.{own_attributes, own_events, own_links}
use Rattle.otap_cells.specs.Scalars.{int_in, bits_in, flag_in}
use Rattle.otap_cells.specs.Payload.{is_kind}
use Rattle.otap_cells.specs.Tables.{Table}

-- the kinds whose rows are attributes
abbrev pub has_attributes : Kind → Bool
has_attributes table.ResourceAttrs = true
has_attributes table.ScopeAttrs = true
has_attributes table.LogAttrs = true
has_attributes table.SpanAttrs = true
has_attributes table.EventAttrs = true
has_attributes table.LinkAttrs = true
has_attributes table.NumberPointAttrs = true
has_attributes table.SummaryPointAttrs = true
has_attributes table.HistPointAttrs = true
has_attributes table.NumberExemplarAttrs = true
has_attributes table.HistExemplarAttrs = true
has_attributes _ = false

-- ---- what an attribute says

-- the type of the value, the key, and of the value what its type names; the parts of other types are empty
pub record AttributeIn : Type 0 where
  pub kind : ℕ
  pub key : List ℕ
  pub int : ℤ
  pub bits : ℕ
  pub bytes : List ℕ

-- an integer; the bits of a double, or 1 for `true`; the bytes of a text, of bytes, or of a nested value
abbrev pub int_by : ℕ → List Cell → ℤ
int_by kind cells = if kind == 2 then int_in (cell_of own_attributes (codes "int") cells) else pos 0

abbrev pub bits_by : ℕ → List Cell → ℕ
bits_by kind cells =
    if kind == 3 then bits_in (cell_of own_attributes (codes "double") cells)
    else if kind == 4 && flag_in (cell_of own_attributes (codes "bool") cells) then 1
    else 0

abbrev pub bytes_by : ℕ → List Cell → List ℕ
bytes_by kind cells =
    if kind == 1 then bytes_in (cell_of own_attributes (codes "str") cells)
    else if kind == 7 then bytes_in (cell_of own_attributes (codes "bytes") cells)
    else if kind == 5 || kind == 6 then bytes_in (cell_of own_attributes (codes "ser") cells)
    else []

-- the attribute that the cells of a row say, from its key on
unfoldable pub attribute_in : List Cell → AttributeIn
attribute_in cells = record {
  kind = nat_in (cell_of own_attributes (codes "type") cells);
  key = bytes_in (cell_of own_attributes (codes "key") cells);
  int = int_by (nat_in (cell_of own_attributes (codes "type") cells)) cells;
  bits = bits_by (nat_in (cell_of own_attributes (codes "type") cells)) cells;
  bytes = bytes_by (nat_in (cell_of own_attributes (codes "type") cells)) cells;
}

abbrev pub seen_attribute : Attribute → AttributeIn
seen_attribute a = record { kind = a.kind; key = a.key.now; int = a.int; bits = a.bits; bytes = a.bytes.now }

-- both say the same
abbrev pub attribute_is : AttributeIn → AttributeIn → Bool
attribute_is a b = a.kind == b.kind && bytes_eq a.key b.key && int_eq a.int b.int && a.bits == b.bits && bytes_eq a.bytes b.bytes

-- the types of values that have runs: neither empty nor nested
abbrev pub is_run_kind : ℕ → Bool
is_run_kind kind = kind == 1 || kind == 2 || kind == 3 || kind == 4 || kind == 7

-- ---- which rows continue, by the cells after the ids

-- an attribute that says the same, and is neither empty nor nested
abbrev pub says_again : List Cell → List Cell → Bool
says_again before cells = is_run_kind (attribute_in cells).kind && attribute_is (attribute_in before) (attribute_in cells)

-- an event of the same name
abbrev pub has_name_again : List Cell → List Cell → Bool
has_name_again before cells =
    bytes_eq (bytes_in (cell_of own_events (codes "name") before)) (bytes_in (cell_of own_events (codes "name") cells))

-- a link to the same trace
abbrev pub has_trace_again : List Cell → List Cell → Bool
has_trace_again before cells =
    bytes_eq (bytes_in (cell_of own_links (codes "trace_id") before)) (bytes_in (cell_of own_links (codes "trace_id") cells))

-- whether a row continues the run of the row before it, by a test on the cells of both; the first row doesn't
abbrev pub goes_on_after : (List Cell → List Cell → Bool) → Option (List Cell) → List Cell → Bool
goes_on_after test None cells = false
goes_on_after test (Some before) cells = test before cells

abbrev pub continues_after : (List Cell → List Cell → Bool) → Option (List Cell) → List (List Cell) → List Bool
continues_after test before [] = []
continues_after test before (cells ∷ rows) = goes_on_after test before cells ∷ continues_after test (Some cells) rows

-- of each row, whether it continues the run of the row before it
unfoldable pub continues_of : (List Cell → List Cell → Bool) → List (List Cell) → List Bool
continues_of test rows = continues_after test None rows

-- how many ids come before a row's other cells, where its kind has runs
abbrev pub ids_in_front : Kind → ℕ
ids_in_front kind = if has_attributes kind then 1 else 2

-- the test of a kind; the rows of other kinds have no runs
abbrev pub again_of : Kind → List Cell → List Cell → Bool
again_of kind before cells =
    if has_attributes kind then says_again before cells
    else if is_kind kind table.SpanEvents then has_name_again before cells
    else if is_kind kind table.SpanLinks then has_trace_again before cells
    else false

-- OF EACH ROW of a table, whether it continues the run of the row before it
abbrev pub continues_in : Table → List Bool
continues_in t = continues_of (again_of t.kind) (map (drop (ids_in_front t.kind)) t.rows)
