-- The numbers of a column, one row after the other.
use Rattle.std.proofs.Common.{◌≡◌, ℕ, ◌+◌, ◌<◌, Bool, true, false, List, [], ◌∷◌, ◌++◌, get_or, take, drop, map, length, codes, Contains, Option, None, sym, ◌∙◌, ap, arith, append-nil}
use Rattle.std.proofs.lemmas.Bool.{false≢true}
use Rattle.std.proofs.lemmas.List.{take_more, take_all, drop_all, get_or-map, length-map}
use Rattle.otap_cells.specs.declared.payload.Kind.{Kind}
use Rattle.otap_cells.specs.declared.profile.Base.TheVariants as base
use Rattle.otap_cells.specs.declared.profile.Column.{Column}
use Rattle.otap_cells.specs.Columns.{described, columns_of, name_at, plain}
use Rattle.otap_cells.specs.Cells.{Cell, null}
use Rattle.otap_cells.specs.declared.profile.Coding.{Coding}
use Rattle.otap_cells.specs.Tables.{Table, cell_in, column_in, coding_in, greatest_in}
use Rattle.otap_cells.specs.Ids.{fits_after, undone_after}
use Rattle.otap_cells.specs.ColumnIds.{HasNullParent, IdsOf, id_in, stored_in}
use Rattle.otap_cells.proofs.IdLaws.{undone_stands, stands_fits}

pub stored_more : (t : Table) (column row : ℕ) (cell : Cell) (id : Option ℕ) (before after : List (Option ℕ)) → row < length t.rows
    → cell ≡ cell_in t.rows column row → id ≡ id_in cell → before ≡ take row (stored_in t column) → after ≡ before ++ id ∷ []
    → after ≡ take (row + 1) (stored_in t column)
stored_more t column row cell id before after within read is so_far pushed =
    let cells : row < length (column_in t.rows column) = omega (arith, length-map t.rows (λ row. get_or row column null)) in
    let there : row < length (stored_in t column) = omega (arith, length-map (column_in t.rows column) id_in) in
    let here : get_or (stored_in t column) row None ≡ id_in cell
    = get_or-map id_in (column_in t.rows column) row null None cells ∙ ap id_in (get_or-map (λ row. get_or row column null) t.rows row [] null within ∙ sym read) in
    pushed ∙ (λ i. so_far i ++ (is ∙ sym here) i ∷ []) ∙ sym (take_more (stored_in t column) row None there)

-- what was written over all of a list
pub written_back : {X : Type 0} (n : ℕ) (xs ys : List X) → length ys ≡ length xs → n ≡ length xs → take n (ys ++ drop (length ys) xs) ≡ ys
written_back n xs ys long all =
    ap (λ more. take n (ys ++ more)) (drop_all (length ys) xs (omega arith)) ∙ ap (take n) (append-nil ys) ∙ take_all n ys (omega arith)

-- the name of a column of the program's table
pub name_here : (xs : List Column) (kind : Kind) (column : ℕ) (d : Column) → map described xs ≡ columns_of kind → column < length xs
    → (get_or xs column d).name.now ≡ name_at kind column
name_here xs kind column d is within =
    ap (λ c. c.name) (sym (get_or-map described xs column d (plain [] base.Binary) within)) ∙ ap (λ columns. (get_or columns column (plain [] base.Binary)).name) is

-- the numbers of a column, whose ids were given back or couldn't be
module _ (t : Table) (column : ℕ) (rows : List Bool) (how : Coding) (last : ℕ) (numbers : List (Option ℕ))
    (coded : how ≡ coding_in t column) (bounded : last ≡ greatest_in t column) (stored : numbers ≡ stored_in t column) where
  pub ids_given : (ids : List (Option ℕ)) → fits_after how last 0 rows numbers ≡ true → ids ≡ undone_after how last 0 rows numbers → IdsOf t column rows ids
  ids_given ids fits given = rw (← coded, ← bounded, ← stored, given) (undone_stands how last 0 rows numbers fits)

  pub ids_missing : (ids : List (Option ℕ)) → fits_after how last 0 rows numbers ≡ false → IdsOf t column rows ids → ⊥
  ids_missing ids fits given = false≢true (sym fits ∙ stands_fits how last 0 rows numbers ids (rw (← coded, ← bounded, ← stored) at given))

-- no parent is null, as the test of the numbers says
pub all_parents : (t : Table) (column : ℕ) (kind : Kind) (numbers : List (Option ℕ)) (returned : Bool) → kind ≡ t.kind → numbers ≡ stored_in t column
    → ((name_at kind column ≡ codes "parent_id") × Contains numbers None → returned ≡ true) → returned ≡ false → HasNullParent t column → ⊥
all_parents t column kind numbers returned same stored told miss lacks =
    false≢true (sym miss ∙ told (rw same lacks.named, rw stored lacks.null))
