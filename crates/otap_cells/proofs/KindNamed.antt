-- The table of a kind, in a set of tables, is of that kind.
use Rattle.std.proofs.Common.{◌≡◌, ◌∙◌, ℕ, true, List, [], ◌∷◌, inl, inr, refl, ap}
use Rattle.std.proofs.lemmas.Bool.{cases_Bool}
use Rattle.otap_cells.specs.declared.payload.Kind.{Kind}
use Rattle.otap_cells.specs.Columns.{is_id_at}
use Rattle.otap_cells.specs.Named.{table_named}
use Rattle.otap_cells.specs.Payload.{is_kind}
use Rattle.otap_cells.specs.Tables.{Table}
use Rattle.otap_cells.proofs.KindsApart.{same_kind}

pub kind_named : (tables : List Table) (kind : Kind) → (table_named kind tables).kind ≡ kind
kind_named [] kind = refl
kind_named (t ∷ tables) kind = elim (cases_Bool (is_kind t.kind kind)) [
  | inl hit ↦ rw hit (same_kind t.kind kind hit)
  | inr miss ↦ rw miss (kind_named tables kind)
]

-- a column of ids, in the table of its kind
pub id_named : (kind : Kind) (column : ℕ) → is_id_at kind column ≡ true → (tables : List Table) → is_id_at (table_named kind tables).kind column ≡ true
id_named kind column is tables = ap (λ kind. is_id_at kind column) (kind_named tables kind) ∙ is
