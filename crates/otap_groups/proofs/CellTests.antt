-- The tests on cells and ids.
use Rattle.std.proofs.Common.{◌≡◌, ℕ, ℤ, true, false, List, [], ◌∷◌, Option, None, Some, refl, ap}
use Rattle.std.specs.Prelude.{bytes_eq}
use Rattle.std.specs.Ordering.{int_eq}
use Rattle.std.proofs.lemmas.Bool.{and_from, and_parts, eq-eqb, eqb-true, false≢true}
use Rattle.std.proofs.lemmas.Bool.Decides.{Decides-int_eq}
use Rattle.std.proofs.lemmas.Slice.Eq.{bytes_eq-Decides}
use Rattle.otap_cells.specs.Cells.{Cell, null, number, bits, flag, bytes}
use Rattle.otap_groups.specs.Rows.{cell_is, cells_are, id_is}

pub id_is_itself : (id : Option ℕ) → id_is id id ≡ true
id_is_itself None = refl
id_is_itself (Some n) = eq-eqb n n refl

bytes_itself : (xs : List ℕ) → bytes_eq xs xs ≡ true
bytes_itself xs = (bytes_eq-Decides xs xs).1 refl

int_itself : (n : ℤ) → int_eq n n ≡ true
int_itself n = (Decides-int_eq n n).1 refl

pub cell_is_itself : (cell : Cell) → cell_is cell cell ≡ true
cell_is_itself null = refl
cell_is_itself (number n) = int_itself n
cell_is_itself (bits n) = eq-eqb n n refl
cell_is_itself (flag true) = refl
cell_is_itself (flag false) = refl
cell_is_itself (bytes part) = bytes_itself part

pub cells_are_themselves : (cells : List Cell) → cells_are cells cells ≡ true
cells_are_themselves [] = refl
cells_are_themselves (cell ∷ cells) = and_from _ _ (cell_is_itself cell) (cells_are_themselves cells)

-- equal cells by the test are equal
cell_told : (a b : Cell) → cell_is a b ≡ true → a ≡ b
cell_told null null h = refl
cell_told null (number n) h = absurd (false≢true h)
cell_told null (bits n) h = absurd (false≢true h)
cell_told null (flag b) h = absurd (false≢true h)
cell_told null (bytes part) h = absurd (false≢true h)
cell_told (number m) null h = absurd (false≢true h)
cell_told (number m) (number n) h = ap number ((Decides-int_eq m n).0 h)
cell_told (number m) (bits n) h = absurd (false≢true h)
cell_told (number m) (flag b) h = absurd (false≢true h)
cell_told (number m) (bytes part) h = absurd (false≢true h)
cell_told (bits m) null h = absurd (false≢true h)
cell_told (bits m) (number n) h = absurd (false≢true h)
cell_told (bits m) (bits n) h = ap bits (eqb-true m n h)
cell_told (bits m) (flag b) h = absurd (false≢true h)
cell_told (bits m) (bytes part) h = absurd (false≢true h)
cell_told (flag a) null h = absurd (false≢true h)
cell_told (flag a) (number n) h = absurd (false≢true h)
cell_told (flag a) (bits n) h = absurd (false≢true h)
cell_told (flag true) (flag true) h = refl
cell_told (flag true) (flag false) h = absurd (false≢true h)
cell_told (flag false) (flag true) h = absurd (false≢true h)
cell_told (flag false) (flag false) h = refl
cell_told (flag a) (bytes part) h = absurd (false≢true h)
cell_told (bytes xs) null h = absurd (false≢true h)
cell_told (bytes xs) (number n) h = absurd (false≢true h)
cell_told (bytes xs) (bits n) h = absurd (false≢true h)
cell_told (bytes xs) (flag b) h = absurd (false≢true h)
cell_told (bytes xs) (bytes ys) h = ap bytes ((bytes_eq-Decides xs ys).0 h)

pub cells_told : (xs ys : List Cell) → cells_are xs ys ≡ true → xs ≡ ys
cells_told [] [] h = refl
cells_told [] (y ∷ ys) h = absurd (false≢true h)
cells_told (x ∷ xs) [] h = absurd (false≢true h)
cells_told (x ∷ xs) (y ∷ ys) h =
    let parts = and_parts (cell_is x y) (cells_are xs ys) h in
    (λ i. cell_told x y parts.0 i ∷ cells_told xs ys parts.1 i)
