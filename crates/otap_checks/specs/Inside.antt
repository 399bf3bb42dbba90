-- Words of private contracts.
use Rattle.std.specs.Prelude.{◌≡◌, ℕ, true, List, Option, None, Some, Contains}
use Rattle.otap_attrs.specs.declared.refusal.RowRefusal.{RowRefusal}
use Rattle.otap_attrs.specs.declared.refusal.RowRefusal.TheVariants as why
use Rattle.otap_cells.specs.declared.ids.IdFault.TheVariants as fault
use Rattle.otap_cells.specs.declared.payload.Kind.{Kind}
use Rattle.otap_cells.specs.Columns.{is_id_at}
use Rattle.otap_cells.specs.GivenIds.{ColumnDefect}
use Rattle.otap_cells.specs.Tables.{Table}
use Rattle.otap_checks.specs.declared.signals.TableLink.{TableLink}
use Rattle.otap_checks.specs.declared.signals.Parents.{Parents}
use Rattle.otap_cells.specs.Named.{table_named}
use Rattle.otap_attrs.specs.Defects.{OrphanIn}
use Rattle.otap_checks.specs.IdDefects.{Some_column}
use Rattle.otap_checks.specs.Known.{IsKnown, ids_named, is_of_column}
use Rattle.otap_checks.specs.declared.known.ColumnIds.{ColumnIds}
use Rattle.otap_cells.specs.Ids.{Twice}

-- ---- columns

-- what is wrong with some column
abbrev pub ColumnFault : Table → RowRefusal → Type 0
ColumnFault t (why.Ids fault.PastType) = Some_column (ColumnDefect fault.PastType) t
ColumnFault t (why.Ids fault.NullParent) = Some_column (ColumnDefect fault.NullParent) t
ColumnFault t _ = ⊥

-- the same of the table of a kind, and of one of the tables that hang together in these ways
abbrev pub ColumnWrong : List Table → Kind → Kind → RowRefusal → Type 0
ColumnWrong tables kind named wrong = (named ≡ kind) × ColumnFault (table_named kind tables) wrong

abbrev pub ColumnsWrong : List Table → List TableLink → Kind → RowRefusal → Type 0
ColumnsWrong tables links kind wrong = (link : TableLink) × Contains links link × ColumnWrong tables link.kind kind wrong

-- ---- ids that are known

abbrev pub IsRight : List Table → ColumnIds → Type 0
IsRight tables known = IsKnown (table_named known.kind tables) known.column known.ids.items

-- each column of ids is there
abbrev pub HasColumns : Kind → List ColumnIds → Type 0
HasColumns kind known = (column : ℕ) → is_id_at kind column ≡ true → (ids : ColumnIds) × Contains known ids × (is_of_column kind column ids ≡ true)

-- what was there is there
abbrev pub KeepsIds : List ColumnIds → List ColumnIds → Type 0
KeepsIds old new = (ids : ColumnIds) → Contains old ids → Contains new ids

-- two rows have one id; a parent isn't there
abbrev pub OwnTwice : List ColumnIds → TableLink → Option ℕ → Type 0
OwnTwice known link None = ⊥
OwnTwice known link (Some column) = Twice (ids_named link.kind column known)

abbrev pub IsLost : List ColumnIds → TableLink → Option Parents → Type 0
IsLost known link None = ⊥
IsLost known link (Some parents) = OrphanIn (ids_named link.kind parents.column known) (ids_named parents.of parents.at known)

-- what is wrong with the ids of a table, where they are known
abbrev pub KnownFault : List ColumnIds → TableLink → RowRefusal → Type 0
KnownFault known link (why.Ids fault.Duplicate) = OwnTwice known link link.own
KnownFault known link why.Orphan = IsLost known link link.parents
KnownFault known link _ = ⊥

abbrev pub KnownWrong : List ColumnIds → TableLink → Kind → RowRefusal → Type 0
KnownWrong known link kind wrong = (kind ≡ link.kind) × KnownFault known link wrong

abbrev pub KnownFaults : List ColumnIds → List TableLink → Kind → RowRefusal → Type 0
KnownFaults known links kind wrong = (link : TableLink) × Contains links link × KnownWrong known link kind wrong
