-- What a refusal to take rows says: something that is wrong. Being out of memory says nothing of the rows.
use Rattle.otap_attrs.specs.declared.refusal.RowRefusal.{RowRefusal}
use Rattle.otap_attrs.specs.declared.refusal.CheckRefusal.{CheckRefusal}
use Rattle.otap_attrs.specs.declared.refusal.CheckRefusal.TheVariants as check
use Rattle.otap_cells.specs.declared.payload.Kind.{Kind}
use Rattle.otap_attrs.specs.declared.refusal.RowRefusal.TheVariants as why

-- a refusal of the rows of a batch
abbrev pub RefusesCheck : (Kind → RowRefusal → Type 0) → CheckRefusal → Type 0
RefusesCheck Wrong (check.Memory error) = Unit {0}
RefusesCheck Wrong (check.Defect kind refusal) = Wrong kind refusal

-- the refusal of a batch that a refusal of a table's rows is
abbrev pub refused_as : Kind → RowRefusal → CheckRefusal
refused_as kind (why.Memory error) = check.Memory error
refused_as kind refusal = check.Defect kind refusal

-- nothing of this is wrong
abbrev pub IsClean : (Kind → RowRefusal → Type 0) → Type 0
IsClean Wrong = (kind : Kind) (why : RowRefusal) → Wrong kind why → ⊥

-- nothing is wrong with rows
abbrev pub Nothing : Kind → RowRefusal → Type 0
Nothing kind wrong = ⊥
