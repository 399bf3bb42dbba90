-- What may be wrong with the ids of a batch. What rests on ids is wrong only where the stored numbers give ids.
use Rattle.std.specs.Prelude.{◌≡◌, ℕ, true, List, Option, None, Some, Contains}
use Rattle.otlp_model.specs.declared.request.Signal.{Signal}
use Rattle.otap_attrs.specs.declared.refusal.RowRefusal.{RowRefusal}
use Rattle.otap_attrs.specs.declared.refusal.RowRefusal.TheVariants as why
use Rattle.otap_cells.specs.declared.ids.IdFault.TheVariants as fault
use Rattle.otap_cells.specs.declared.payload.Kind.{Kind}
use Rattle.otap_cells.specs.Tables.{Table}
use Rattle.otap_cells.specs.Columns.{is_id_at}
use Rattle.otap_cells.specs.Ids.{Twice}
use Rattle.otap_cells.specs.GivenIds.{ColumnDefect, HasIds}
use Rattle.otap_cells.specs.Named.{table_named}
use Rattle.otap_checks.specs.declared.signals.TableLink.{TableLink}
use Rattle.otap_checks.specs.declared.signals.Parents.{Parents}
use Rattle.otap_checks.specs.Links.{links_of}
use Rattle.otap_attrs.specs.Defects.{HasOrphan}

-- two rows have one id
pub record Duplicate (t : Table) (column : ℕ) : Type 0 where
  pub ids : List (Option ℕ)
  pub are : HasIds t column ids
  pub twice : Twice ids

-- a row's parent is the id of no row of the other table
pub record Orphan (t : Table) (column : ℕ) (other : Table) (at : ℕ) : Type 0 where
  pub ids : List (Option ℕ)
  pub known : HasIds other at ids
  pub lost : HasOrphan t column ids

-- some column of ids has the fault
abbrev pub Some_column : (Table → ℕ → Type 0) → Table → Type 0
Some_column Fault t = (column : ℕ) × (is_id_at t.kind column ≡ true) × Fault t column

abbrev pub DuplicateOf : Table → Option ℕ → Type 0
DuplicateOf t None = ⊥
DuplicateOf t (Some column) = Duplicate t column

abbrev pub OrphanOf : List Table → Table → Option Parents → Type 0
OrphanOf tables t None = ⊥
OrphanOf tables t (Some parents) = Orphan t parents.column (table_named parents.of tables) parents.at

-- what is wrong with a table that hangs together with others in this way
abbrev pub WrongIn : List Table → Table → TableLink → RowRefusal → Type 0
WrongIn tables t link (why.Ids fault.PastType) = Some_column (ColumnDefect fault.PastType) t
WrongIn tables t link (why.Ids fault.NullParent) = Some_column (ColumnDefect fault.NullParent) t
WrongIn tables t link (why.Ids fault.Duplicate) = DuplicateOf t link.own
WrongIn tables t link why.Orphan = OrphanOf tables t link.parents
WrongIn tables t link _ = ⊥

-- WHAT IS WRONG WITH THE IDS of the table of a kind among the tables of a signal
pub record IdDefect (of : Signal) (tables : List Table) (kind : Kind) (wrong : RowRefusal) : Type 0 where
  pub link : TableLink
  pub listed : Contains (links_of of) link
  pub names : link.kind ≡ kind
  pub is : WrongIn tables (table_named kind tables) link wrong
