-- No row that is written has an integer and a double.
use Rattle.std.proofs.Common.{ℕ, ◌+◌, Bool, List, [], ◌∷◌, Option, Some}
use Rattle.std.specs.Prelude.{All}
use Rattle.std.proofs.lemmas.List.Elements.{All-nil, All-cons, All-get_or}
use Rattle.otlp_model.specs.declared.metrics.Exemplar.{Exemplar}
use Rattle.otlp_model.specs.declared.metrics.Number.{Number}
use Rattle.otlp_model.specs.declared.metrics.Number.TheVariants as numbers
use Rattle.otlp_model.specs.declared.metrics.Point.{Point}
use Rattle.otap_cells.specs.declared.payload.Kind.{Kind}
use Rattle.otap_cells.specs.declared.profile.Coding.{Coding}
use Rattle.otap_cells.specs.Cells.{Cell, cell_at}
use Rattle.otap_groups.specs.Flat.{PlacedIn, placed}
use Rattle.otap_groups.specs.Stored.{part_table, stored_parts}
use Rattle.otap_checks.specs.Measured.{HasTwoValues, IsThere}
use Rattle.otap_points.specs.Numbers.{double_value, int_value}
use Rattle.otap_points.specs.Points.{exemplar_cells, point_cells}

number_alone : (n : Number) → IsThere (int_value n) → IsThere (double_value n) → ⊥
number_alone numbers.Missing int double = int
number_alone (numbers.Int n) int double = double
number_alone (numbers.Double n) int double = int

abbrev HasOne : ℕ → List Cell → Type 0
HasOne column row = IsThere (cell_at row column) → IsThere (cell_at row (column + 1)) → ⊥

module _ {C : Type 0} (cells_of : C → List Cell) (P : List Cell → Type 0) (each : (id parent : Cell) (part : C) → P (id ∷ parent ∷ cells_of part)) where
  pub all_rows : (how : Coding) (test : List Cell → List Cell → Bool) (step parent : ℕ) (before : Option (List Cell)) (ps : List (PlacedIn C))
      → All P (stored_parts how test cells_of step parent before ps)
  all_rows how test step parent before [] = All-nil P
  all_rows how test step parent before (p ∷ ps) = All-cons P _ _ (each _ _ p.part) (all_rows how test 1 p.parent (Some (cells_of p.part)) ps)

one_value : {C : Type 0} (cells_of : C → List Cell) (kind : Kind) (lists : List (List C)) (column : ℕ)
    → ((id parent : Cell) (part : C) → HasOne column (id ∷ parent ∷ cells_of part)) → HasTwoValues (part_table kind cells_of lists) column → ⊥
unfolding part_table
one_value cells_of kind lists column each two =
    All-get_or (HasOne column) (part_table kind cells_of lists).rows two.row [] two.there (all_rows cells_of (HasOne column) each _ _ 0 0 _ (placed lists)) two.int two.double

pub point_values : (kind : Kind) (lists : List (List Point)) → HasTwoValues (part_table kind point_cells lists) 4 → ⊥
point_values kind lists = one_value point_cells kind lists 4 (λ id parent point. number_alone point.value)

pub exemplar_values : (kind : Kind) (lists : List (List Exemplar)) → HasTwoValues (part_table kind exemplar_cells lists) 3 → ⊥
exemplar_values kind lists = one_value exemplar_cells kind lists 3 (λ id parent exemplar. number_alone exemplar.value)
