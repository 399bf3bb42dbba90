-- What the tables of a signal mean, and which tables its requests are written as.
use Rattle.std.specs.Prelude.{List}
use Rattle.otlp_model.specs.declared.request.Request.{Request}
use Rattle.otlp_model.specs.declared.request.Signal.{Signal}
use Rattle.otap_attrs.specs.declared.refusal.RowRefusal.{RowRefusal}
use Rattle.otap_cells.specs.declared.payload.Kind.{Kind}
use Rattle.otap_cells.specs.Tables.{Table}

-- THE MEANING OF A SIGNAL'S TABLES: what is wrong with the rows of a kind's table among them, and, where nothing is, the
-- request that they are regrouped to
pub record Meaning : Type 1 where
  pub signal : Signal
  pub Stands : List Table → Kind → RowRefusal → Type 0
  pub request : List Table → Request

-- nothing is wrong with the rows of any table
abbrev pub AreClean : Meaning → List Table → Type 0
AreClean m tables = (kind : Kind) (why : RowRefusal) → m.Stands tables kind why → ⊥

-- A SIGNAL, and which tables its requests are written as
pub record SignalRows : Type 0 where
  pub signal : Signal
  pub tables : Request → List Table
