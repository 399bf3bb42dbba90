-- A column that is written as the indexes of its values.
use Rattle.std.proofs.Common.{◌≡◌, ℕ, zero, suc, ◌+◌, ◌-◌, ◌<◌, ◌≤◌, true, replicate, List, [], ◌∷◌, ◌++◌, length, take, get_or, map, Option, Some, None, refl, sym, ap, ◌∙◌, subst, arith, position, bytes_eq}
use Rattle.std.proofs.lemmas.Bool.{false≢true}
use Rattle.std.proofs.lemmas.List.{length-append, length-map, map-append, take_more, take-map}
use Rattle.std.proofs.lemmas.List.Quantifiers.{position-Some}
use Rattle.std.proofs.lemmas.List.Sums.{sum_by-append, sum_by-take-le, sum_by_push}
use Rattle.lists.proofs.Parts.{nones_first, same_all_over}
use Rattle.arrow_buffers.specs.Columns.{ColumnIn, cell_len, cells_len}
use Rattle.arrow_buffers.specs.Limits.{max_values}
use Rattle.arrow_buffers.specs.declared.width.Width.{Width}
use Rattle.arrow_buffers.specs.declared.width.Width.TheVariants.{Fixed}
use Rattle.otap_cells.specs.declared.profile.Base.{Base}
use Rattle.otap_cells.specs.Cells.{Cell, null}
use Rattle.otap_cells.specs.Columns.{base_at}
use Rattle.otap_cells.specs.Tables.{Table, column_in}
use Rattle.otap_columns.specs.declared.forms.ColumnForm.{ColumnForm}
use Rattle.otap_columns.specs.declared.forms.ColumnForm.TheVariants as form
use Rattle.otap_columns.specs.Observed.{bytes_for}
use Rattle.otap_columns.specs.Schemas.{is_dictionary}
use Rattle.otap_columns.specs.SeenInside.{filled_up, places_of_cells}
use Rattle.otap_columns.specs.WrittenCells.{FitsIndexes, place_among, stored_for, stored_column}
use Rattle.otap_columns.specs.BuiltCells.{IsIndexFor, index_of, index_size, width_for}
use Rattle.otap_columns.proofs.ColumnsBuilt.{index_stored}

-- ---- indexes, one after the other

-- all that is written so far and the next index have room
pub index_room : (f : ColumnForm) (places : List (Option ℕ)) (row : ℕ) (w : Width) (b : ColumnIn) → row < length places → b ≡ record { width = w; cells = map (index_of f) (take row places) }
    → cells_len (map (index_of f) places) < max_values → cells_len b.cells + cell_len (index_of f (get_or places row None)) < max_values
index_room f places row w b low is room =
    let x = index_of f (get_or places row None) in
    let before = map (index_of f) (take row places) in
    let sum : cells_len (before ++ x ∷ []) ≡ cells_len before + cell_len x = sum_by_push cell_len before x in
    let more : before ++ x ∷ [] ≡ take (row + 1) (map (index_of f) places) =
    sym (map-append (index_of f) (take row places) (get_or places row None ∷ [])) ∙ ap (map (index_of f)) (sym (take_more places row None low)) ∙ sym (take-map (index_of f) (row + 1) places) in
    let short = sum_by-take-le cell_len (map (index_of f) places) (row + 1) in
    omega (arith, sum, ap cells_len more, short, ap (λ (k : ColumnIn). cells_len k.cells) is, room)

-- ---- indexes of cells

one_reached : (f : ColumnForm) (values : List (List ℕ)) (n : ℕ) → n < length values → is_dictionary f ≡ true → FitsIndexes f (length values) → IsIndexFor f (Some n)
one_reached form.Dict8 values n low dictionary few = omega (arith, low, few)
one_reached form.Dict16 values n low dictionary few = omega (arith, low, few)
one_reached form.Absent values n low dictionary few = absurd (false≢true dictionary)
one_reached form.Plain values n low dictionary few = absurd (false≢true dictionary)
one_reached form.Wide values n low dictionary few = absurd (false≢true dictionary)
one_reached (form.Coded how) values n low dictionary few = absurd (false≢true dictionary)

place_reached : (f : ColumnForm) (values : List (List ℕ)) (x : Option (List ℕ)) → is_dictionary f ≡ true → FitsIndexes f (length values) → IsIndexFor f (place_among values x)
place_reached f values None dictionary few = tt
place_reached f values (Some value) dictionary few = by (position (bytes_eq value) values) refl
  where
    by : (place : Option ℕ) → position (bytes_eq value) values ≡ place → IsIndexFor f (position (bytes_eq value) values)
    by None is = subst (IsIndexFor f) (sym is) tt
    by (Some n) is = subst (IsIndexFor f) (sym is) (one_reached f values n (position-Some (bytes_eq value) values n [] is).0 dictionary few)

-- the indexes of a form reach all values
places_reached : (holds : Base) (f : ColumnForm) (values : List (List ℕ)) (cells : List Cell) → is_dictionary f ≡ true → FitsIndexes f (length values)
    → (row : ℕ) → IsIndexFor f (get_or (places_of_cells holds f values cells) row None)
places_reached holds f values [] dictionary few row = tt
places_reached holds f values (cell ∷ cells) dictionary few zero = place_reached f values (bytes_for holds f cell) dictionary few
places_reached holds f values (cell ∷ cells) dictionary few (suc row) = places_reached holds f values cells dictionary few row

indexes_stored : (holds : Base) (f : ColumnForm) (values : List (List ℕ)) (cells : List Cell) → is_dictionary f ≡ true → map (index_of f) (places_of_cells holds f values cells) ≡ map (stored_for holds f values) cells
indexes_stored holds f values [] dictionary = refl
indexes_stored holds f values (cell ∷ cells) dictionary = λ i. index_stored holds f values cell dictionary i ∷ indexes_stored holds f values cells dictionary i

-- and are what is written
pub indexes_column : (f : ColumnForm) (values : List (List ℕ)) (t : Table) (column : ℕ) → is_dictionary f ≡ true
    → map (index_of f) (places_of_cells (base_at t.kind column) f values (column_in t.rows column)) ≡ stored_column f values t column
unfolding stored_column
indexes_column f values t column dictionary = indexes_stored (base_at t.kind column) f values (column_in t.rows column) dictionary

-- ---- nulls after the indexes

filled_at : (places : List (Option ℕ)) (n row : ℕ) → get_or (places ++ replicate n None) row None ≡ get_or places row None
filled_at [] n row = same_all_over {A = Option ℕ} n None row
filled_at (place ∷ places) n zero = refl
filled_at (place ∷ places) n (suc row) = filled_at places n row

no_indexes : (f : ColumnForm) (n : ℕ) → map (index_of f) (replicate n None) ≡ replicate n None
no_indexes f zero = refl
no_indexes f (suc n) = ap (λ (xs : List (Option (List ℕ))). None ∷ xs) (no_indexes f n)

pub nulls_indexed : (f : ColumnForm) (k : ℕ) (places : List (Option ℕ)) → ((row : ℕ) → row < k → get_or places row None ≡ None) → k ≤ length places → replicate k None ≡ map (index_of f) (take k places)
nulls_indexed f k places none low = sym (no_indexes f k) ∙ ap (map (index_of f)) (nones_first k places none low)

pub filled_indexes : (f : ColumnForm) (places : List (Option ℕ)) (n : ℕ) → map (index_of f) (places ++ replicate n None) ≡ map (index_of f) places ++ replicate n None
filled_indexes f places n = map-append (index_of f) places (replicate n None) ∙ ap (λ (xs : List (Option (List ℕ))). map (index_of f) places ++ xs) (no_indexes f n)

pub filled_room : (f : ColumnForm) (places : List (Option ℕ)) (n : ℕ) → cells_len (map (index_of f) places) ≤ cells_len (map (index_of f) (places ++ replicate n None))
filled_room f places n =
    let sum : cells_len (map (index_of f) places ++ replicate n None) ≡ cells_len (map (index_of f) places) + cells_len (replicate n None) = sum_by-append cell_len (map (index_of f) places) (replicate n None) in
    omega (arith, ap cells_len (filled_indexes f places n), sum)

module _ (holds : Base) (f : ColumnForm) (values : List (List ℕ)) (t : Table) (column : ℕ) (places : List (Option ℕ))
    (is : filled_up (length t.rows) places ≡ places_of_cells holds f values (column_in t.rows column)) where
  pub filled_few : length places ≤ length t.rows
  filled_few =
      let all : length (filled_up (length t.rows) places) ≡ length t.rows =
      ap length is ∙ length-map (column_in t.rows column) (λ cell. place_among values (bytes_for holds f cell)) ∙ length-map t.rows (λ cells. get_or cells column null) in
      let sum : length (filled_up (length t.rows) places) ≡ length places + length (replicate (length t.rows - length places) None) = length-append places (replicate (length t.rows - length places) None) in
      omega (arith, all, sum)

  pub filled_reached : is_dictionary f ≡ true → FitsIndexes f (length values) → (row : ℕ) → IsIndexFor f (get_or places row None)
  filled_reached dictionary few row =
      subst (IsIndexFor f) (filled_at places (length t.rows - length places) row)
      (subst (λ (ps : List (Option ℕ)). IsIndexFor f (get_or ps row None)) (sym is) (places_reached holds f values (column_in t.rows column) dictionary few row))

pub index_fixed : (holds : Base) (f : ColumnForm) → is_dictionary f ≡ true → Fixed (index_size f) ≡ width_for holds f
index_fixed holds form.Dict8 dictionary = refl
index_fixed holds form.Dict16 dictionary = refl
index_fixed holds form.Absent dictionary = absurd (false≢true dictionary)
index_fixed holds form.Plain dictionary = absurd (false≢true dictionary)
index_fixed holds form.Wide dictionary = absurd (false≢true dictionary)
index_fixed holds (form.Coded how) dictionary = absurd (false≢true dictionary)
