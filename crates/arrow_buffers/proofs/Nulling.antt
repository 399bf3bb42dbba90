-- Nulls in a row.
use Rattle.std.proofs.Common.{◌≡◌, ℕ, zero, suc, ◌+◌, ◌*◌, ◌<◌, ◌≤◌, if◌then◌else◌, List, [], ◌∷◌, ◌++◌, length, map, replicate, is_none, Option, None, refl, sym, ap, ◌∙◌, arith}
use Rattle.std.specs.List.{range_with_len}
use Rattle.std.proofs.lemmas.List.{append-nil, append_assoc, length-append, length-replicate, replicate_more}
use Rattle.std.proofs.lemmas.List.Folds.{sum_by-replicate}
use Rattle.std.proofs.lemmas.List.FromFn.{map-range_with_len_more}
use Rattle.std.proofs.lemmas.List.Sums.{sum_by-append}
use Rattle.arrow_buffers.specs.Limits.{max_rows}
use Rattle.arrow_buffers.specs.declared.width.Width.{Width}
use Rattle.arrow_buffers.specs.declared.width.Width.TheVariants.{Fixed, Var}
use Rattle.arrow_buffers.specs.declared.width.Width.TheVariants as width
use Rattle.arrow_buffers.specs.Flags.{PushesNullFlags}
use Rattle.arrow_buffers.specs.Columns.{cell_at, cells_of, values_len, ended, ended_offsets, cells_so_far}
use Rattle.arrow_buffers.specs.Building.{ended_times, HasValueForEach, IsBuilt, PushesNulls, PushesValue}
use Rattle.arrow_buffers.proofs.Growing.{length-cells_of, same-below}
use Rattle.arrow_buffers.proofs.Placing.{length-ended}
use Rattle.arrow_buffers.proofs.Pushing.{row_part-append, pushes-list, pushes-span}

-- a list whose later items are all null
later-none : (f g : ℕ → Option (List ℕ)) (rows count : ℕ) → ((k : ℕ) → k < rows → f k ≡ g k) → ((k : ℕ) → rows ≤ k → k < rows + count → f k ≡ None)
    → map f (range_with_len 0 (rows + count)) ≡ map g (range_with_len 0 rows) ++ replicate count None
later-none f g rows zero same null =
    let none : rows + 0 ≡ rows = omega arith in
    rw none (same-below f g rows None same ∙ sym (append-nil (map g (range_with_len 0 rows))))
later-none f g rows (suc n) same null =
    let next : rows + suc n ≡ rows + n + 1 = omega arith in
    let one : n + 1 ≡ suc n = omega arith in
    let old = map g (range_with_len 0 rows) in
    let nones : List (Option (List ℕ)) = replicate n None in
    let before = later-none f g rows n same (λ k from below. null k from (omega arith)) in
    let last : f (rows + n) ≡ None = null (rows + n) (omega arith) (omega arith) in
    rw next (map-range_with_len_more f 0 (rows + n) (rows + n) (omega arith) ∙ ap (λ xs. xs ++ f (rows + n) ∷ []) before ∙ ap (λ (x : Option (List ℕ)). (old ++ nones) ++ x ∷ []) last
    ∙ append_assoc old nones (None ∷ []) ∙ ap (λ xs. old ++ xs) (replicate_more n None ∙ ap (λ m. replicate m None) one))

pub cells-nulls : (width : Width) (rows nulls count : ℕ) (bitmap offsets values new_bitmap new_offsets new_values : List ℕ)
    → PushesNullFlags nulls rows count bitmap new_bitmap → PushesNulls width rows count offsets values new_offsets new_values
    → cells_so_far width new_bitmap new_offsets new_values (rows + count) ≡ cells_so_far width bitmap offsets values rows ++ replicate count None
unfolding cells_of
cells-nulls width rows nulls count bitmap offsets values new_bitmap new_offsets new_values flag value =
    let old : ℕ → Option (List ℕ) = cell_at width bitmap (ended_offsets width offsets values) values in
    let new : ℕ → Option (List ℕ) = cell_at width new_bitmap (ended_offsets width new_offsets new_values) new_values in
    let before : (k : ℕ) → k < rows → new k ≡ old k =
    λ k below. rw (flag.before k below, value.before k below) refl in
    let null : (k : ℕ) → rows ≤ k → k < rows + count → new k ≡ None =
    λ k from below. rw (flag.null k from below) refl in
    later-none new old rows count before null

pub built-nulls : (width : Width) (rows nulls count : ℕ) (bitmap offsets values new_bitmap new_offsets new_values : List ℕ) → rows + count < max_rows
    → IsBuilt width rows nulls bitmap offsets values → PushesNullFlags nulls rows count bitmap new_bitmap → PushesNulls width rows count offsets values new_offsets new_values
    → IsBuilt width (rows + count) (nulls + count) new_bitmap new_offsets new_values
built-nulls width rows nulls count bitmap offsets values new_bitmap new_offsets new_values few built flag value =
    let next = cells-nulls width rows nulls count bitmap offsets values new_bitmap new_offsets new_values flag value in
    let cells = cells_so_far width bitmap offsets values rows in
    let len = length-cells_of width bitmap (ended_offsets width offsets values) values rows in
    let nones : List (Option (List ℕ)) = replicate count None in
    let weight : Option (List ℕ) → ℕ = λ c. if is_none c then 1 else 0 in
    let was = built.counted in
    record {
      few = few;
      flags = flag.flags;
      stored = value.stored;
      lengths = rw next (value.grown cells len built.lengths);
      counted = rw next (omega (arith, was, sum_by-append weight cells nones, sum_by-replicate weight count None));
    }

-- no nulls, and one more
no-nulls : (width : Width) (rows : ℕ) (offsets values : List ℕ) → HasValueForEach width rows offsets values → PushesNulls width rows 0 offsets values offsets values
no-nulls width rows offsets values has =
    let none : rows + 0 ≡ rows = omega arith in
    record {
      stored = rw none has;
      before = λ k below. refl;
      grown = λ cells len was. rw (append-nil cells) was;
    }

more-nulls : (width : Width) (rows n : ℕ) (offsets values mid_offsets mid_values new_offsets new_values : List ℕ) → PushesNulls width rows n offsets values mid_offsets mid_values
    → PushesValue width (rows + n) None mid_offsets mid_values new_offsets new_values → PushesNulls width rows (suc n) offsets values new_offsets new_values
more-nulls width rows n offsets values mid_offsets mid_values new_offsets new_values some one =
    let next : rows + n + 1 ≡ rows + suc n = omega arith in
    let more : n + 1 ≡ suc n = omega arith in
    let nones : List (Option (List ℕ)) = replicate n None in
    record {
      stored = rw next at one.stored;
      before = λ k below. one.before k (omega arith) ∙ some.before k below;
      grown = λ cells len was.
          let count : length (cells ++ nones) ≡ rows + n = omega (arith, length-append cells nones, length-replicate {A = Option (List ℕ)} n None) in
          let list : (cells ++ nones) ++ None ∷ [] ≡ cells ++ replicate (suc n) None = append_assoc cells nones (None ∷ []) ∙ ap (λ xs. cells ++ xs) (replicate_more n None ∙ ap (λ m. replicate m None) more) in
          one.grown (cells ++ nones) count (some.grown cells len was) ∙ ap (values_len width) list;
    }

-- values without elements
pub nulls-list : (element rows n : ℕ) (offsets values : List ℕ) → HasValueForEach (width.List element) rows offsets values
    → PushesNulls (width.List element) rows n offsets values (ended_times element n offsets values) values
nulls-list element rows zero offsets values has = no-nulls (width.List element) rows offsets values has
nulls-list element rows (suc n) offsets values has =
    let before = nulls-list element rows n offsets values has in
    let offsets_n = ended_times element n offsets values in
    let fits = before.stored.1.fits in
    let one = pushes-list element (rows + n) None offsets_n values before.stored (λ value is. cc) (omega arith) in
    more-nulls (width.List element) rows n offsets values offsets_n values (ended element offsets_n values) values before (rw (append-nil values) at one)

pub nulls-var : (rows n : ℕ) (offsets values : List ℕ) → HasValueForEach Var rows offsets values → PushesNulls Var rows n offsets values (ended_times 1 n offsets values) values
nulls-var rows zero offsets values has = no-nulls Var rows offsets values has
nulls-var rows (suc n) offsets values has =
    let before = nulls-var rows n offsets values has in
    let offsets_n = ended_times 1 n offsets values in
    let fits = before.stored.fits in
    let one = pushes-span (rows + n) None offsets_n values before.stored (omega arith) in
    more-nulls Var rows n offsets values offsets_n values (ended 1 offsets_n values) values before (rw (append-nil values) at one)

-- values of one width
pub nulls-parts : (width rows count : ℕ) (offsets values : List ℕ) → HasValueForEach (Fixed width) rows offsets values → PushesNulls (Fixed width) rows count offsets values offsets (values ++ replicate (count * width) 0)
nulls-parts width rows count offsets values has =
    let zeros : List ℕ = replicate (count * width) 0 in
    let was = has.1 in
    let len = length-append values zeros in
    let zero_len = length-replicate {A = ℕ} (count * width) 0 in
    record {
      stored = (has.0, omega arith);
      before = λ k below. row_part-append width rows k values zeros has.1 below;
      grown = λ cells same _. rw (length-append cells (replicate count None), same, length-replicate {A = Option (List ℕ)} count None) (omega arith);
    }

pub length-times : (element n : ℕ) (offsets values : List ℕ) → length (ended_times element n offsets values) ≡ length offsets + 4 * n
length-times element zero offsets values = omega arith
length-times element (suc n) offsets values = omega (arith, length-times element n offsets values, length-ended element (ended_times element n offsets values) values)
