-- How the lines of rows are written: used in private contracts.
use Rattle.std.specs.Prelude.{ℕ, List, ◌∷◌}
use Rattle.std.specs.List.{flat_map}
use Rattle.otap_cells.specs.declared.profile.Base.{Base}
use Rattle.otap_gateway.specs.Rows.{bits_text}

-- elements of a list, each after a comma
abbrev pub after_commas : Base → List ℕ → List ℕ
after_commas holds numbers = flat_map (λ n. 44 ∷ bits_text holds n) numbers
