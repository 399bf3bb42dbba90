-- An array is a column by its path of names.
use Rattle.std.proofs.Common.{◌≡◌, ℕ, ◌<◌, Bool, true, false, List, [], length, get_or, Some, None, refl, sym, ap, ◌∙◌, arith}
use Rattle.std.specs.List.{position_from, list_any, join_with_byte}
use Rattle.std.specs.Str.{bytes_eq}
use Rattle.std.proofs.lemmas.Slice.Eq.{bytes_eq-Decides}
use Rattle.std.proofs.lemmas.List.Folds.{list_any_at}
use Rattle.arrow_arrays.specs.declared.spec.ArraySpec.{ArraySpec}
use Rattle.arrow_arrays.specs.Arrays.{path_of}
use Rattle.otap_cells.specs.declared.payload.Kind.{Kind}
use Rattle.otap_cells.specs.declared.profile.Base.TheVariants as base
use Rattle.otap_cells.specs.Columns.{ColumnSpec, columns_of, width_of, name_at, has_dot, plain, place_of_path}
use Rattle.otap_cells.proofs.Apart.{same_names}
use Rattle.otap_dicts.proofs.Places.{found_from}
use Rattle.otap_columns.specs.Known.{known_column}
use Rattle.otap_columns.proofs.Finding.{PassesAt, passes_at, place_below}

-- an element that passes is found, or one before it
found : {X : Type 0} (p : X → Bool) (from : ℕ) (xs : List X) (i : ℕ) (d : X) → i < length xs → p (get_or xs i d) ≡ true → (k : ℕ) × (position_from p from xs ≡ Some k)
found p from xs i d low is = found_from p from xs (list_any_at p xs i d low is)

module _ (kind : Kind) (path : List (List ℕ)) where
  has_name : ColumnSpec → Bool
  has_name c = bytes_eq (join_with_byte 46 path) c.name

  path_named : (column : ℕ) → place_of_path (columns_of kind) path ≡ Some column → join_with_byte 46 path ≡ name_at kind column
  unfolding has_name
  path_named column is = by (list_any has_dot path) refl
    where
      none : {A : Type 0} {x : A} → None ≡ Some x → ⊥
      none h = cc

      by : (b : Bool) → list_any has_dot path ≡ b → join_with_byte 46 path ≡ name_at kind column
      by true dot = absurd (none (rw dot at is))
      by false dot =
          let f : PassesAt has_name 0 (columns_of kind) column = passes_at has_name 0 (columns_of kind) column (rw dot at is) in
          (bytes_eq-Decides (join_with_byte 46 path) (name_at kind column)).0 (f.passes column (plain [] base.Binary) (omega arith))

  name_found : (column : ℕ) → column < width_of kind → list_any has_dot path ≡ false → join_with_byte 46 path ≡ name_at kind column → place_of_path (columns_of kind) path ≡ Some column
  unfolding has_name
  name_found column low dot is =
      let k = found has_name 0 (columns_of kind) column (plain [] base.Binary) low ((bytes_eq-Decides (join_with_byte 46 path) (name_at kind column)).1 is) in
      let at : place_of_path (columns_of kind) path ≡ Some k.0 = rw dot k.1 in
      let same : k.0 ≡ column = same_names kind k.0 column (place_below (columns_of kind) path k.0 at) low (sym (path_named k.0 at) ∙ is) in
      at ∙ ap Some same

pub known_named : (kind : Kind) (arrays : List ArraySpec) (place column : ℕ) → known_column kind arrays place ≡ Some column → (column < width_of kind) × (join_with_byte 46 (path_of arrays place) ≡ name_at kind column)
known_named kind arrays place column is = (place_below (columns_of kind) (path_of arrays place) column is, path_named kind (path_of arrays place) column is)

pub named_known : (kind : Kind) (arrays : List ArraySpec) (place column : ℕ) → column < width_of kind → list_any has_dot (path_of arrays place) ≡ false
    → join_with_byte 46 (path_of arrays place) ≡ name_at kind column → known_column kind arrays place ≡ Some column
named_known kind arrays place column low dot is = name_found kind (path_of arrays place) column low dot is
