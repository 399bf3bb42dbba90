-- Words of private contracts: what a rule wants of its table, and tables that break rules.
use Rattle.std.specs.Prelude.{◌≡◌, ℕ, ◌<◌, ◌+◌, ◌^◌, Bool, false, true, length, List, Option, None, Some, Contains}
use Rattle.otap_cells.specs.declared.payload.Kind.{Kind}
use Rattle.otap_cells.specs.declared.payload.Kind.TheVariants as table
use Rattle.otap_cells.specs.Columns.{is_id_at, width_of}
use Rattle.otap_cells.specs.Named.{table_named}
use Rattle.otap_cells.specs.Tables.{Table}
use Rattle.otap_groups.specs.Kinds.{IsMain}
use Rattle.otap_groups.specs.Rows.{id_at}
use Rattle.otap_attrs.specs.declared.refusal.RowRefusal.{RowRefusal}
use Rattle.otap_attrs.specs.Values.{HasValueAt}
use Rattle.otap_checks.specs.declared.known.ColumnIds.{ColumnIds}
use Rattle.otap_checks.specs.declared.signals.Asks.{Asks}
use Rattle.otap_checks.specs.declared.signals.Asks.TheVariants as asks
use Rattle.otap_checks.specs.declared.signals.CellRule.{CellRule}
use Rattle.otap_checks.specs.Given.{AreGiven}
use Rattle.otap_checks.specs.Known.{Knows}
use Rattle.otap_checks.specs.RowDefects.{Breaks}
use Rattle.otap_checks.specs.Shapes.{type_at}

-- ---- rules

-- what a rule wants of the kind of its table
abbrev pub Fits : Kind → Asks → Type 0
Fits kind asks.Agree = IsMain kind
Fits kind (asks.Values column) = HasValueAt kind column
Fits kind (asks.OneNumber column) = (column + 1 < width_of kind) × (column + 1 < 2 ^ 32)
Fits kind (asks.EvenLists first second) = (first < width_of kind) × (second < width_of kind)
Fits kind asks.KnownShape = kind ≡ table.Metrics
Fits kind (asks.OfShape sort) = is_id_at kind 1 ≡ true

abbrev pub FitsRule : CellRule → Type 0
FitsRule rule = Fits rule.kind rule.asks

-- a rule for points wants the ids of metrics
abbrev pub KnowsMetrics : List Table → List ColumnIds → Asks → Type 0
KnowsMetrics tables columns (asks.OfShape sort) = Knows (table_named table.Metrics tables) table.Metrics columns
KnowsMetrics tables columns _ = Unit {0}

-- the ids that a rule wants are given and known
pub record AreGivenFor (tables : List Table) (columns : List ColumnIds) (rule : CellRule) : Type 0 where
  pub given : AreGiven (table_named rule.kind tables)
  pub known : Knows (table_named rule.kind tables) rule.kind columns
  pub metrics : KnowsMetrics tables columns rule.asks

-- tables keep a rule; break it; break one of some
abbrev pub Keeps : List Table → CellRule → Type 0
Keeps tables rule = (wrong : RowRefusal) → Breaks tables rule.asks (table_named rule.kind tables) wrong → ⊥

abbrev pub BreaksRule : List Table → CellRule → Kind → RowRefusal → Type 0
BreaksRule tables rule kind wrong = (kind ≡ rule.kind) × Breaks tables rule.asks (table_named rule.kind tables) wrong

abbrev pub BreaksOne : List Table → List CellRule → Kind → RowRefusal → Type 0
BreaksOne tables rules kind wrong = (rule : CellRule) × Contains rules rule × BreaksRule tables rule kind wrong

-- ---- points of metrics of another shape

-- an id is among numbers
abbrev pub HoldsId : List ℕ → Option ℕ → Type 0
HoldsId numbers None = ⊥
HoldsId numbers (Some id) = Contains numbers id

-- the id of a metric of another shape is
pub record FindsOther (fits : ℕ → Bool) (main : Table) (ids : List (Option ℕ)) (numbers : List ℕ) : Type 0 where
  pub row : ℕ
  pub there : row < length main.rows
  pub other : fits (type_at main row) ≡ false
  pub holds : HoldsId numbers (id_at ids row)
