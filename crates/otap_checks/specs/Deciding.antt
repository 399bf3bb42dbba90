-- That nothing is wrong with rows, or something is, and the tables of which this is decided.
use Rattle.std.specs.Prelude.{ℕ, ◌<◌, All, ◌⊎◌, List}
use Rattle.otap_attrs.specs.declared.refusal.RowRefusal.{RowRefusal}
use Rattle.otap_cells.specs.declared.payload.Kind.{Kind}
use Rattle.otap_cells.specs.Cells.{bytes_in}
use Rattle.otap_cells.specs.Named.{table_named}
use Rattle.otap_cells.specs.Tables.{Table, cell_in}
use Rattle.otap_checks.specs.Refusing.{IsClean}

-- it is decided whether NOTHING IS WRONG with the table of any kind, or something is with one
abbrev pub CleanOrWrong : (Kind → RowRefusal → Type 0) → Type 0
CleanOrWrong Wrong = IsClean Wrong ⊎ ((kind : Kind) × (why : RowRefusal) × Wrong kind why)

-- each cell of bytes holds numbers below 256
abbrev pub HasByteCells : Table → Type 0
HasByteCells t = (column row : ℕ) → All (λ byte. byte < 256) (bytes_in (cell_in t.rows column row))

-- the same of the table of each kind
abbrev pub HaveByteCells : List Table → Type 0
HaveByteCells tables = (kind : Kind) → HasByteCells (table_named kind tables)
