-- The cells of a row with other ids fit the columns.
use Rattle.std.proofs.Common.{◌≡◌, ℕ, ◌<◌, true, List, [], ◌∷◌, length, get_or, drop, Option, Some, refl, sym, ap, subst, arith}
use Rattle.std.proofs.lemmas.List.Elements.{All-get_or}
use Rattle.otap_cells.specs.declared.payload.Kind.{Kind}
use Rattle.otap_cells.specs.declared.profile.Base.TheVariants as base
use Rattle.otap_cells.specs.Cells.{Cell, IsCellOf, cell_at}
use Rattle.otap_cells.specs.Columns.{base_at, columns_of, width_of}
use Rattle.otap_cells.specs.Continuing.{has_attributes}
use Rattle.otap_cells.specs.Tables.{IsRow, IsTable, Table}
use Rattle.otap_cells.proofs.AttributeColumns.{attribute_width}
use Rattle.otap_groups.specs.Kinds.{IsMain, IsPart}
use Rattle.otap_groups.specs.Rows.{id_at}
use Rattle.otap_attrs.proofs.TablePairs.{attribute_id}
use Rattle.otap_kept.specs.Tables.{distance, stored_row}
use Rattle.otap_kept.specs.Writing.{main_at}
use Rattle.otap_kept.proofs.FitRows.{first_fits, main_fits, row_of_table, two_fit}
use Rattle.otap_kept.proofs.WrittenSteps.{id_fits, nine_cells}

module _ (t : Table) (is : IsTable t) (k : ℕ) (within : k < length t.rows) where
  row_wide : length (get_or t.rows k []) ≡ width_of t.kind
  row_wide = All-get_or (λ cells. length cells ≡ width_of t.kind) t.rows k [] within is.wide

  -- the kind of the table that they are written to
  module _ (kind : Kind) (same : kind ≡ t.kind) where
    pub numbered_fits : has_attributes t.kind ≡ true → (x : Cell) → IsCellOf (base.Id true) x → IsRow (columns_of kind) (x ∷ drop 1 (get_or t.rows k []))
    numbered_fits kinds x fits =
        subst (λ kind. IsRow (columns_of kind) (x ∷ drop 1 (get_or t.rows k []))) (sym same)
        (first_fits (columns_of t.kind) (get_or t.rows k []) x (row_of_table t is k within) (omega (arith, attribute_width t.kind kinds))
        (id_fits (base_at t.kind 0) x (attribute_id t.kind kinds) fits))

    pub part_fits : IsPart t.kind → (x y : Cell) → IsCellOf (base.Id true) x → IsCellOf (base.Id true) y → IsRow (columns_of kind) (x ∷ y ∷ drop 2 (get_or t.rows k []))
    part_fits part x y a b =
        subst (λ kind. IsRow (columns_of kind) (x ∷ y ∷ drop 2 (get_or t.rows k []))) (sym same)
        (two_fit (columns_of t.kind) (get_or t.rows k []) x y (row_of_table t is k within) part.wide
        (id_fits (base_at t.kind 0) x part.id a) (id_fits (base_at t.kind 1) y part.parent b))

    pub front_fits : IsMain t.kind → (x y z : Cell) → IsCellOf (base.Id true) x → IsCellOf (base.Id true) y → IsCellOf (base.Id true) z
        → IsRow (columns_of kind) (x ∷ y ∷ cell_at (get_or t.rows k []) 2 ∷ cell_at (get_or t.rows k []) 3 ∷ z ∷ drop 5 (get_or t.rows k []))
    front_fits main x y z a b c =
        subst (λ kind. IsRow (columns_of kind) (x ∷ y ∷ cell_at (get_or t.rows k []) 2 ∷ cell_at (get_or t.rows k []) 3 ∷ z ∷ drop 5 (get_or t.rows k []))) (sym same)
        (subst (λ more. IsRow (columns_of t.kind) (x ∷ y ∷ cell_at (get_or t.rows k []) 2 ∷ cell_at (get_or t.rows k []) 3 ∷ z ∷ more))
        (sym (nine_cells (get_or t.rows k []) (omega (arith, row_wide, main.wide))))
        (main_fits t.kind [] [] [] t is refl main.wide k within x y z (id_fits (base_at t.kind 0) x main.id a) (id_fits (base_at t.kind 1) y main.resource_id b)
        (id_fits (base_at t.kind 4) z main.scope_id c)))

  -- the cells of a main row as it is stored
  pub front_is : IsMain t.kind → (resources scopes : List (Option ℕ)) (own resource scope n : ℕ)
      → stored_row own resource scope (main_at resources scopes t.rows n k)
      ≡ distance own (Some n) ∷ distance resource (id_at resources n) ∷ cell_at (get_or t.rows k []) 2 ∷ cell_at (get_or t.rows k []) 3
      ∷ distance scope (id_at scopes n) ∷ drop 5 (get_or t.rows k [])
  front_is main resources scopes own resource scope n =
      ap (λ (more : List Cell). distance own (Some n) ∷ distance resource (id_at resources n) ∷ cell_at (get_or t.rows k []) 2
      ∷ cell_at (get_or t.rows k []) 3 ∷ distance scope (id_at scopes n) ∷ more) (sym (nine_cells (get_or t.rows k []) (omega (arith, row_wide, main.wide))))
