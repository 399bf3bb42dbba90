-- Which column an array is, and the index of the array of a column.
use Rattle.std.proofs.Common.{◌≡◌, ℕ, ◌+◌, ◌<◌, ◌≤◌, suc, zero, Bool, true, false, List, [], ◌∷◌, length, get_or, Option, Some, None, refl, ap, ◌∙◌, arith, add-one, ◌⊎◌, inl, inr}
use Rattle.std.specs.List.{position_from, list_any, join_with_byte}
use Rattle.std.specs.Str.{bytes_eq}
use Rattle.std.proofs.lemmas.Bool.{cases_Bool, and_from}
use Rattle.std.proofs.lemmas.List.FromFn.{length-map-range_with_len, get_or-map-range_with_len}
use Rattle.arrow_buffers.specs.Below.{all_below}
use Rattle.arrow_arrays.specs.declared.spec.ArraySpec.{ArraySpec}
use Rattle.arrow_arrays.specs.Arrays.{path_of}
use Rattle.otap_cells.specs.declared.payload.Kind.{Kind}
use Rattle.otap_cells.specs.Columns.{ColumnSpec, columns_of, width_of, has_dot, place_of_path}
use Rattle.otap_columns.specs.Known.{known_column, known_columns}

-- an index that is found is one of the list, and passes
pub record PassesAt {X : Type 0} (p : X → Bool) (from : ℕ) (xs : List X) (place : ℕ) : Type 0 where
  pub first : from ≤ place
  pub below : place < from + length xs
  pub passes : (i : ℕ) (d : X) → from + i ≡ place → p (get_or xs i d) ≡ true

pub passes_at : {X : Type 0} (p : X → Bool) (from : ℕ) (xs : List X) (place : ℕ) → position_from p from xs ≡ Some place → PassesAt p from xs place
passes_at p from [] place is = absurd (cc)
passes_at {X} p from (x ∷ xs) place is = by_test (cases_Bool (p x)) (passes_at p (from + 1) xs place)
  where
    by_test : (p x ≡ true) ⊎ (p x ≡ false) → (position_from p (from + 1) xs ≡ Some place → PassesAt p (from + 1) xs place) → PassesAt p from (x ∷ xs) place
    by_test (inl good) rest =
        let here : Some from ≡ Some place = rw good at is in
        let same : from ≡ place = cc in
        record { first = omega arith; below = omega arith; passes = λ i d at. let first : i ≡ 0 = omega arith in rw first good }
    by_test (inr bad) rest =
        let later : position_from p (from + 1) xs ≡ Some place = rw bad at is in
        let f : PassesAt p (from + 1) xs place = rest later in
        record { first = omega (arith, f.first); below = omega (arith, f.below); passes = passes f }
      where
        passes : PassesAt p (from + 1) xs place → (i : ℕ) (d : X) → from + i ≡ place → p (get_or (x ∷ xs) i d) ≡ true
        passes f zero d at = absurd (omega (arith, f.first))
        passes f (suc i) d at = f.passes i d (omega arith)

-- a column that a path leads to is one of the columns
pub place_below : (columns : List ColumnSpec) (path : List (List ℕ)) (column : ℕ) → place_of_path columns path ≡ Some column → column < length columns
place_below columns path column is = by_test (list_any has_dot path) refl
  where
    named : ColumnSpec → Bool
    named c = bytes_eq (join_with_byte 46 path) c.name

    by_test : (b : Bool) → list_any has_dot path ≡ b → column < length columns
    by_test true dot = absurd (none (rw dot at is))
      where
        none : {A : Type 0} {x : A} → None ≡ Some x → ⊥
        none h = cc
    by_test false dot =
        let f : PassesAt named 0 columns column = passes_at named 0 columns column (rw dot at is) in
        omega (arith, f.below)

pub known_column-below : (kind : Kind) (arrays : List ArraySpec) (place column : ℕ) → known_column kind arrays place ≡ Some column → column < width_of kind
known_column-below kind arrays place column is = place_below (columns_of kind) (path_of arrays place) column is

-- the columns of the arrays
pub known_len : (kind : Kind) (arrays : List ArraySpec) (known : List (Option ℕ)) → known ≡ known_columns kind arrays → length known ≡ length arrays
unfolding known_columns
known_len kind arrays known is = ap length is ∙ length-map-range_with_len (known_column kind arrays) 0 (length arrays)

pub known_at : (kind : Kind) (arrays : List ArraySpec) (known : List (Option ℕ)) → known ≡ known_columns kind arrays → (place : ℕ) → place < length arrays → get_or known place None ≡ known_column kind arrays place
unfolding known_columns
known_at kind arrays known is place below =
    ap (λ (k : List (Option ℕ)). get_or k place None) is ∙ get_or-map-range_with_len (known_column kind arrays) 0 (length arrays) place place None below (omega arith)

-- a test of one more index
pub all_below-one_more : (test : ℕ → Bool) (n : ℕ) → all_below test n ≡ true → test n ≡ true → all_below test (n + 1) ≡ true
all_below-one_more test n before here = rw add-one (and_from (all_below test n) (test n) before here)
