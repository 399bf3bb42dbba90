-- What may be wrong with a table of attributes.
use Rattle.std.specs.Prelude.{ℕ, ◌<◌, length, drop, List, [], Option, Some, Contains}
use Rattle.std.specs.List.{slice_index_or}
use Rattle.otap_cells.specs.GivenIds.{ColumnDefect, HasIds}
use Rattle.otap_cells.specs.Tables.{Table}
use Rattle.otap_attrs.specs.declared.refusal.RowRefusal.{RowRefusal}
use Rattle.otap_attrs.specs.declared.refusal.RowRefusal.TheVariants as why
use Rattle.otap_attrs.specs.Values.{BadValue}

-- a parent that isn't among ids
pub record OrphanIn (parents ids : List (Option ℕ)) : Type 0 where
  pub parent : ℕ
  pub named : Contains parents (Some parent)
  pub missing : Contains ids (Some parent) → ⊥

-- a row names in this column a parent that isn't among ids
pub record HasOrphan (t : Table) (column : ℕ) (ids : List (Option ℕ)) : Type 0 where
  pub parents : List (Option ℕ)
  pub are : HasIds t column parents
  pub orphan : OrphanIn parents ids

-- a row has a wrong value, whose columns begin at this one
pub record WrongValue (t : Table) (column : ℕ) (wrong : RowRefusal) : Type 0 where
  pub row : ℕ
  pub there : row < length t.rows
  pub is : BadValue (drop column (slice_index_or t.rows row [])) wrong

-- WHAT IS WRONG with a table of attributes whose parents are to be among these ids
abbrev pub PairDefect : Table → List (Option ℕ) → RowRefusal → Type 0
PairDefect t ids (why.Ids fault) = ColumnDefect fault t 0
PairDefect t ids why.Orphan = HasOrphan t 0 ids
PairDefect t ids why.BadValueType = WrongValue t 2 why.BadValueType
PairDefect t ids (why.BadCbor refusal) = WrongValue t 2 (why.BadCbor refusal)
PairDefect t ids _ = ⊥

-- a refusal of a table's rows, where `Wrong` says what is wrong with them; being out of memory says nothing of the rows
abbrev pub RefusesRow : (RowRefusal → Type 0) → RowRefusal → Type 0
RefusesRow Wrong (why.Memory error) = Unit {0}
RefusesRow Wrong (why.Ids fault) = Wrong (why.Ids fault)
RefusesRow Wrong why.Orphan = Wrong why.Orphan
RefusesRow Wrong why.Disagree = Wrong why.Disagree
RefusesRow Wrong why.BadValueType = Wrong why.BadValueType
RefusesRow Wrong (why.BadCbor refusal) = Wrong (why.BadCbor refusal)
RefusesRow Wrong why.TwoValues = Wrong why.TwoValues
RefusesRow Wrong why.BadKind = Wrong why.BadKind
