-- What may be wrong with the rows of a batch.
use Rattle.std.specs.Prelude.{◌≡◌, ◌⊎◌, List, Contains}
use Rattle.otlp_model.specs.declared.request.Signal.{Signal}
use Rattle.otap_cells.specs.declared.payload.Kind.{Kind}
use Rattle.otap_cells.specs.declared.payload.Kind.TheVariants as table
use Rattle.otap_cells.specs.Named.{table_named}
use Rattle.otap_cells.specs.Tables.{Table}
use Rattle.otap_attrs.specs.declared.refusal.RowRefusal.{RowRefusal}
use Rattle.otap_attrs.specs.declared.refusal.RowRefusal.TheVariants as why
use Rattle.otap_attrs.specs.Defects.{WrongValue}
use Rattle.otap_checks.specs.declared.signals.Asks.{Asks}
use Rattle.otap_checks.specs.declared.signals.Asks.TheVariants as asks
use Rattle.otap_checks.specs.declared.signals.CellRule.{CellRule}
use Rattle.otap_checks.specs.IdDefects.{IdDefect}
use Rattle.otap_checks.specs.Measured.{HasTwoValues, HasUnevenLists}
use Rattle.otap_checks.specs.Reading.{Disagrees}
use Rattle.otap_checks.specs.Rules.{rules_of}
use Rattle.otap_checks.specs.Shapes.{WrongParent, WrongType, fits_of}

-- what breaks a rule for a table among the tables of a batch
abbrev pub Breaks : List Table → Asks → Table → RowRefusal → Type 0
Breaks tables asks.Agree t why.Disagree = Disagrees t
Breaks tables (asks.OneNumber column) t why.TwoValues = HasTwoValues t column
Breaks tables (asks.EvenLists first second) t why.BadKind = HasUnevenLists t first second
Breaks tables asks.KnownShape t why.BadKind = WrongType t
Breaks tables (asks.OfShape sort) t why.BadKind = WrongParent (fits_of sort) t (table_named table.Metrics tables)
Breaks tables (asks.Values column) t wrong = WrongValue t column wrong
Breaks tables _ t wrong = ⊥

-- WHAT BREAKS A RULE for the table of a kind among the tables of a signal
pub record CellDefect (of : Signal) (tables : List Table) (kind : Kind) (wrong : RowRefusal) : Type 0 where
  pub rule : CellRule
  pub listed : Contains (rules_of of) rule
  pub names : rule.kind ≡ kind
  pub is : Breaks tables rule.asks (table_named kind tables) wrong

-- WHAT IS WRONG WITH THE ROWS of the table of a kind among the tables of a signal
abbrev pub RowDefect : Signal → List Table → Kind → RowRefusal → Type 0
RowDefect of tables kind wrong = IdDefect of tables kind wrong ⊎ CellDefect of tables kind wrong
