-- Names joined by dots, and the first column that has such a name.
use Rattle.std.proofs.Common.{◌≡◌, ℕ, ◌+◌, ◌<◌, Bool, true, false, Some, List, [], ◌∷◌, ◌++◌, length, get_or, drop, map, refl, sym, ◌∙◌, ap, Bor, eqb, arith, add-one}
use Rattle.std.specs.List.{list_any, join_with_byte, position_from}
use Rattle.std.specs.Str.{bytes_eq}
use Rattle.std.proofs.Math.Seq.{drop-cons}
use Rattle.std.proofs.lemmas.Bool.{eq-eqb, false_from_ne_true}
use Rattle.std.proofs.lemmas.Slice.Eq.{bytes_eq-Decides}
use Rattle.std.proofs.lemmas.List.{get_or-map, length-map}
use Rattle.otap_cells.specs.declared.profile.Column.{Column}
use Rattle.otap_cells.specs.Columns.{ColumnSpec, described, has_dot, place_of_path}

front_same : (front j rest : List ℕ) → bytes_eq (front ++ 46 ∷ j) (front ++ 46 ∷ rest) ≡ bytes_eq j rest
front_same [] j rest = refl
front_same (x ∷ front) j rest = rw (eq-eqb x x refl) (front_same front j rest)

-- names after the first one and a dot
pub joined_after : (path inner : List (Bor (List ℕ))) (first : Bor (List ℕ)) (dotted rest : List ℕ)
    → path ≡ first ∷ inner → eqb (length inner) 0 ≡ false → dotted ≡ first.now ++ 46 ∷ rest
    → bytes_eq (join_with_byte 46 (map (λ name. name.now) path)) dotted ≡ bytes_eq (join_with_byte 46 (map (λ name. name.now) inner)) rest
joined_after path [] first dotted rest is some after = cc
joined_after path (next ∷ inner) first dotted rest is some after =
    rw (is, after) (front_same first.now (join_with_byte 46 (map (λ name. name.now) (next ∷ inner))) rest)

-- where the first name and a dot aren't at the front
pub joined_elsewhere : (path inner : List (Bor (List ℕ))) (first : Bor (List ℕ)) (dotted : List ℕ)
    → path ≡ first ∷ inner → eqb (length inner) 0 ≡ false → ((rest : List ℕ) → dotted ≡ first.now ++ 46 ∷ rest → ⊥)
    → bytes_eq (join_with_byte 46 (map (λ name. name.now) path)) dotted ≡ false
joined_elsewhere path [] first dotted is some none = cc
joined_elsewhere path (next ∷ inner) first dotted is some none =
    let joined : List ℕ = join_with_byte 46 (map (λ name. name.now) (next ∷ inner)) in
    rw is (false_from_ne_true (bytes_eq (first.now ++ 46 ∷ joined) dotted)
    (λ same. none joined (sym ((bytes_eq-Decides (first.now ++ 46 ∷ joined) dotted).0 same))))

-- the test of the search for a path
abbrev pub is_named : List (Bor (List ℕ)) → ColumnSpec → Bool
is_named path column = bytes_eq (join_with_byte 46 (map (λ name. name.now) path)) column.name

-- at an index before which no column has the path: the test of the column there
module _ (xs : List Column) (columns : List ColumnSpec) (place : ℕ) (d : Column) (path : List (Bor (List ℕ))) (name : List ℕ) (returned : Bool)
    (is : map described xs ≡ columns) (within : place < length xs) (read : name ≡ (get_or xs place d).name.now)
    (asked : returned ≡ bytes_eq (join_with_byte 46 (map (λ name. name.now) path)) name)
    (so_far : position_from (is_named path) place (drop place columns) ≡ position_from (is_named path) 0 columns) where
  tested : is_named path (get_or columns place (described d)) ≡ returned
  tested = ap (λ columns. is_named path (get_or columns place (described d))) (sym is)
      ∙ ap (is_named path) (get_or-map described xs place d (described d) within)
      ∙ ap (bytes_eq (join_with_byte 46 (map (λ name. name.now) path))) (sym read) ∙ sym asked

  there : place < length columns
  there = omega (arith, within, length-map xs described, ap length is)

  pub found_at : returned ≡ true → list_any has_dot (map (λ name. name.now) path) ≡ false → Some place ≡ place_of_path columns (map (λ name. name.now) path)
  found_at hit none =
      let here : position_from (is_named path) place (drop place columns) ≡ Some place
      = rw (drop-cons columns place (described d) there, tested, hit) refl in
      sym here ∙ so_far ∙ rw none refl

  pub passed_at : returned ≡ false → position_from (is_named path) (place + 1) (drop (place + 1) columns) ≡ position_from (is_named path) 0 columns
  passed_at miss =
      let here : position_from (is_named path) place (drop place columns) ≡ position_from (is_named path) (place + 1) (drop (place + 1) columns)
      = rw (drop-cons columns place (described d) there, tested, miss, add-one) refl in
      sym here ∙ so_far
