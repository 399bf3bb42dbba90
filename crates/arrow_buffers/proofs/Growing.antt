-- One more cell: the column with it.
use Rattle.std.proofs.Common.{◌≡◌, ℕ, ◌+◌, ◌<◌, ◌≤◌, if◌then◌else◌, Bool, List, [], ◌∷◌, ◌++◌, length, get_or, map, is_some, is_none, Option, Some, None, refl, ap, ◌∙◌, arith}
use Rattle.std.specs.List.{range_with_len}
use Rattle.std.specs.Option.{ForSome}
use Rattle.std.proofs.lemmas.List.FromFn.{fill_by_all, length-map-range_with_len, get_or-map-range_with_len, map-range_with_len_more}
use Rattle.std.proofs.lemmas.List.Sums.{count_by-le-length, sum_by_push}
use Rattle.arrow_buffers.specs.Limits.{max_rows}
use Rattle.arrow_buffers.specs.declared.width.Width.{Width}
use Rattle.arrow_buffers.specs.Bits.{is_valid}
use Rattle.arrow_buffers.specs.Flags.{PushesFlag}
use Rattle.arrow_buffers.specs.Columns.{cell_at, cells_of, value_at, ended_offsets, cells_so_far}
use Rattle.arrow_buffers.specs.Building.{IsBuilt, PushesValue}

-- two lists that are made alike
pub same-below : {X : Type 0} (f g : ℕ → X) (n : ℕ) (d : X) → ((k : ℕ) → k < n → f k ≡ g k) → map f (range_with_len 0 n) ≡ map g (range_with_len 0 n)
same-below f g n d each =
    fill_by_all g (map f (range_with_len 0 n)) n d (length-map-range_with_len f 0 n) (λ k below. get_or-map-range_with_len f 0 n k k d below (omega arith) ∙ each k below)

pub one-more : {X : Type 0} (f g : ℕ → X) (n : ℕ) (x : X) → ((k : ℕ) → k < n → f k ≡ g k) → f n ≡ x → map f (range_with_len 0 (n + 1)) ≡ map g (range_with_len 0 n) ++ x ∷ []
one-more f g n x each here =
    map-range_with_len_more f 0 n n (omega arith) ∙ ap (λ xs. xs ++ f n ∷ []) (same-below f g n x each) ∙ ap (λ y. map g (range_with_len 0 n) ++ y ∷ []) here

-- there is a cell for each row
pub length-cells_of : (width : Width) (validity offsets values : List ℕ) (rows : ℕ) → length (cells_of width validity offsets values rows) ≡ rows
unfolding cells_of
length-cells_of width validity offsets values rows =
    length-map-range_with_len (cell_at width validity offsets values) 0 rows

pub get_or-cells_of : (width : Width) (validity offsets values : List ℕ) (rows row : ℕ) (d : Option (List ℕ)) → row < rows
    → get_or (cells_of width validity offsets values rows) row d ≡ cell_at width validity offsets values row
unfolding cells_of
get_or-cells_of width validity offsets values rows row d below =
    get_or-map-range_with_len (cell_at width validity offsets values) 0 rows row row d below (omega arith)

-- a cell by its two parts
cell_by : Bool → List ℕ → Option (List ℕ)
cell_by valid value = if valid then Some value else None

cell-there : (cell : Option (List ℕ)) (valid : Bool) (value : List ℕ) → valid ≡ is_some cell → ForSome cell (λ v. value ≡ v) → cell_by valid value ≡ cell
unfolding cell_by
cell-there None valid value is same = rw is refl
cell-there (Some v) valid value is same = rw (is, same v refl) refl

-- a row with a value is one that is not null
null-count : (cell : Option (List ℕ)) → ◌≡◌ {A = ℕ} (if is_some cell then 0 else 1) (if is_none cell then 1 else 0)
null-count None = refl
null-count (Some value) = refl

pub cells-next : (width : Width) (rows nulls : ℕ) (cell : Option (List ℕ)) (bitmap offsets values new_bitmap new_offsets new_values : List ℕ)
    → PushesFlag nulls rows (is_some cell) bitmap new_bitmap → PushesValue width rows cell offsets values new_offsets new_values
    → cells_so_far width new_bitmap new_offsets new_values (rows + 1) ≡ cells_so_far width bitmap offsets values rows ++ cell ∷ []
unfolding cell_by cells_of
cells-next width rows nulls cell bitmap offsets values new_bitmap new_offsets new_values flag value =
    let old : ℕ → Option (List ℕ) = cell_at width bitmap (ended_offsets width offsets values) values in
    let new : ℕ → Option (List ℕ) = cell_at width new_bitmap (ended_offsets width new_offsets new_values) new_values in
    let before : (k : ℕ) → k < rows → new k ≡ old k =
    λ k below.
    ap (λ (v : Bool). cell_by v (value_at width (ended_offsets width new_offsets new_values) new_values k)) (flag.before k below) ∙ ap (cell_by (is_valid bitmap k)) (value.before k below) in
    one-more new old rows cell before (cell-there cell (is_valid new_bitmap rows) (value_at width (ended_offsets width new_offsets new_values) new_values rows) flag.there value.there)

pub built-next : (width : Width) (rows nulls : ℕ) (cell : Option (List ℕ)) (bitmap offsets values new_bitmap new_offsets new_values : List ℕ) → rows + 1 < max_rows
    → IsBuilt width rows nulls bitmap offsets values → PushesFlag nulls rows (is_some cell) bitmap new_bitmap → PushesValue width rows cell offsets values new_offsets new_values
    → IsBuilt width (rows + 1) (nulls + (if is_none cell then 1 else 0)) new_bitmap new_offsets new_values
built-next width rows nulls cell bitmap offsets values new_bitmap new_offsets new_values few built flag value =
    let next = cells-next width rows nulls cell bitmap offsets values new_bitmap new_offsets new_values flag value in
    let cells = cells_so_far width bitmap offsets values rows in
    let count = length-cells_of width bitmap (ended_offsets width offsets values) values rows in
    record {
      few = few;
      flags = rw (null-count cell) at flag.flags;
      stored = value.stored;
      lengths = rw next (value.grown cells count built.lengths);
      counted = rw (next, sum_by_push (λ c. if is_none c then 1 else 0) cells cell) (ap (λ n. n + (if is_none cell then 1 else 0)) built.counted);
    }

-- no more nulls than rows
pub nulls-le : (width : Width) (rows nulls : ℕ) (bitmap offsets values : List ℕ) → IsBuilt width rows nulls bitmap offsets values → nulls ≤ rows
nulls-le width rows nulls bitmap offsets values built =
    let cells = cells_so_far width bitmap offsets values rows in
    let count = length-cells_of width bitmap (ended_offsets width offsets values) values rows in
    let is = built.counted in
    omega (arith, count_by-le-length is_none cells)
