-- Rules one after the other.
use Rattle.std.proofs.Common.{◌≡◌, ◌∙◌, ℕ, ◌+◌, ◌<◌, List, [], get_or, length, sym, ap, subst, arith, inl, inr}
use Rattle.std.proofs.lemmas.Bool.{cases_eq}
use Rattle.std.proofs.lemmas.List.{get_or_default}
use Rattle.otap_cells.specs.declared.payload.Kind.{Kind}
use Rattle.otap_cells.specs.Tables.{Table, profile_table}
use Rattle.otap_checks.specs.Reading.{Disagrees}
use Rattle.otap_checks.proofs.MissingRows.{none_differ}
use Rattle.otap_checks.specs.declared.signals.CellRule.{CellRule}
use Rattle.otap_checks.specs.Ruled.{Keeps}

pub one_more : (tables : List Table) (rules : List CellRule) (place : ℕ) (e : CellRule) → place < length rules
    → ((k : ℕ) (d : CellRule) → k < place → Keeps tables (get_or rules k d)) → Keeps tables (get_or rules place e)
    → (k : ℕ) (d : CellRule) → k < place + 1 → Keeps tables (get_or rules k d)
one_more tables rules place e within below here k d less =
    elim (cases_eq k place) [
      | inl equal ↦ subst (Keeps tables) (sym (ap (λ n. get_or rules n d) equal ∙ get_or_default rules place d e within)) here
      | inr differ ↦ below k d (omega (arith, differ))
    ]

pub none_there : (t : Table) (kind : Kind) → t ≡ profile_table kind [] → Disagrees t → ⊥
none_there t kind none differ = none_differ kind (subst Disagrees none differ)
