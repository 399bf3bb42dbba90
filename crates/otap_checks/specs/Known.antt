-- The ids of tables, as they are known column by column.
use Rattle.std.specs.Prelude.{◌≡◌, ℕ, ◌==◌, ◌&&◌, true, All, Bool, if◌then◌else◌, Contains, List, [], ◌∷◌, Option}
use Rattle.otlp_model.specs.declared.request.Signal.{Signal}
use Rattle.otap_cells.specs.declared.payload.Kind.{Kind}
use Rattle.otap_cells.specs.Columns.{is_id_at}
use Rattle.otap_cells.specs.ColumnIds.{HasNullParent}
use Rattle.otap_cells.specs.GivenIds.{HasIds}
use Rattle.otap_cells.specs.Named.{table_named}
use Rattle.otap_cells.specs.Payload.{is_kind}
use Rattle.otap_cells.specs.Tables.{Table}
use Rattle.otap_attrs.specs.Facts.{HasWeights}
use Rattle.otap_checks.specs.declared.known.ColumnIds.{ColumnIds}
use Rattle.otap_checks.specs.declared.known.PairWeights.{PairWeights}
use Rattle.otap_checks.specs.declared.signals.TableLink.{TableLink}
use Rattle.otap_checks.specs.Links.{links_of}

-- whether these are the ids of the column
abbrev pub is_of_column : Kind → ℕ → ColumnIds → Bool
is_of_column kind column known = is_kind known.kind kind && known.column == column

-- the ids of a column among those that are known
abbrev pub ids_named : Kind → ℕ → List ColumnIds → List (Option ℕ)
ids_named kind column [] = []
ids_named kind column (ids ∷ known) = if is_of_column kind column ids then ids.ids.items else ids_named kind column known

-- these are the ids of a column, and no parent is null
pub record IsKnown (t : Table) (column : ℕ) (ids : List (Option ℕ)) : Type 0 where
  pub are : HasIds t column ids
  pub parents : HasNullParent t column → ⊥

-- THE IDS of each column of a table are known
abbrev pub Knows : Table → Kind → List ColumnIds → Type 0
Knows t kind known = (column : ℕ) → is_id_at kind column ≡ true → IsKnown t column (ids_named kind column known)

-- and those of each table of a signal
abbrev pub KnowsAll : Signal → List Table → List ColumnIds → Type 0
KnowsAll signal tables known = (link : TableLink) → Contains (links_of signal) link → Knows (table_named link.kind tables) link.kind known

-- the weights of the pairs of a table of attributes, with whose values nothing is wrong
abbrev pub IsWeighed : List Table → PairWeights → Type 0
IsWeighed tables known = HasWeights (table_named known.kind tables) known.weights.items

-- what is known of the weights of tables, of which this is one, stays so
abbrev pub KeepsWeighed : Table → List PairWeights → List PairWeights → Type 0
KeepsWeighed t old new = (tables : List Table) → table_named t.kind tables ≡ t → All (IsWeighed tables) old → All (IsWeighed tables) new
