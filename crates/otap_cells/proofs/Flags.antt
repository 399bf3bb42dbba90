-- Which rows continue a run, by their indices.
use Rattle.std.proofs.Common.{◌≡◌, ℕ, zero, suc, ◌+◌, ◌-◌, ◌<◌, ◌≤◌, Bool, false, List, [], ◌∷◌, ◌++◌, Option, Some, None, map, drop, take, length, refl, sym, ap, ◌∙◌, arith}
use Rattle.std.proofs.lemmas.List.{take_all, take_more}
use Rattle.std.specs.List.{slice_index_or}
use Rattle.otap_cells.specs.Cells.{Cell, null, cell_at}
use Rattle.otap_cells.specs.Continuing.{continues_after, continues_of, continues_in, again_of, ids_in_front}
use Rattle.otap_cells.specs.Tables.{Table, SameTable}

-- cells after the first one, and after two
pub after_one : (cells : List Cell) (k : ℕ) → cell_at (drop 1 cells) k ≡ slice_index_or cells (suc k) null
after_one [] k = refl
after_one (cell ∷ cells) k = refl

pub after_two : (cells : List Cell) (k : ℕ) → cell_at (drop 2 cells) k ≡ slice_index_or cells (suc (suc k)) null
after_two [] k = refl
after_two (a ∷ []) k = refl
after_two (a ∷ b ∷ cells) k = refl

-- the first row continues nothing
pub first_flag : (test : List Cell → List Cell → Bool) (f : List Cell → List Cell) (rows : List (List Cell))
    → slice_index_or (continues_of test (map f rows)) 0 false ≡ false
unfolding continues_of
first_flag test f [] = refl
first_flag test f (row ∷ rows) = refl

flag_after : (test : List Cell → List Cell → Bool) (f : List Cell → List Cell) (before : List Cell) (rows : List (List Cell)) (k : ℕ)
    → k < length rows
    → slice_index_or (continues_after test (Some (f before)) (map f rows)) k false
    ≡ test (f (slice_index_or (before ∷ rows) k [])) (f (slice_index_or rows k []))
flag_after test f before [] k within = absurd (omega arith)
flag_after test f before (row ∷ rows) zero within = refl
flag_after test f before (row ∷ rows) (suc k) within = flag_after test f row rows k (omega arith)

-- a later row continues the row before it, or doesn't
pub later_flag : (test : List Cell → List Cell → Bool) (f : List Cell → List Cell) (rows : List (List Cell)) (k : ℕ)
    → 0 < k → k < length rows
    → slice_index_or (continues_of test (map f rows)) k false ≡ test (f (slice_index_or rows (k - 1) [])) (f (slice_index_or rows k []))
unfolding continues_of
later_flag test f [] k later within = absurd (omega arith)
later_flag test f (row ∷ rows) zero later within = absurd (omega arith)
later_flag test f (row ∷ rows) (suc k) later within =
    let before : suc k - 1 ≡ k = omega arith in
    rw before (flag_after test f row rows k (omega arith))

-- no rows, no flags
pub no_flags : (test : List Cell → List Cell → Bool) (f : List Cell → List Cell) (rows : List (List Cell))
    → length rows ≡ 0 → continues_of test (map f rows) ≡ []
unfolding continues_of
no_flags test f [] none = refl
no_flags test f (row ∷ rows) none = absurd (omega arith)

-- there is a flag for each row
flags_after : (test : List Cell → List Cell → Bool) (f : List Cell → List Cell) (before : Option (List Cell)) (rows : List (List Cell))
    → length (continues_after test before (map f rows)) ≡ length rows
flags_after test f before [] = refl
flags_after test f before (row ∷ rows) = ap suc (flags_after test f (Some (f row)) rows)

pub flags_long : (test : List Cell → List Cell → Bool) (f : List Cell → List Cell) (rows : List (List Cell))
    → length (continues_of test (map f rows)) ≡ length rows
unfolding continues_of
flags_long test f rows = flags_after test f None rows

pub flags_more : (test : List Cell → List Cell → Bool) (f : List Cell → List Cell) (rows : List (List Cell)) (k : ℕ) (b : Bool) (found pushed : List Bool)
    → k < length rows → b ≡ slice_index_or (continues_of test (map f rows)) k false
    → found ≡ take k (continues_of test (map f rows)) → pushed ≡ found ++ b ∷ []
    → pushed ≡ take (k + 1) (continues_of test (map f rows))
flags_more test f rows k b found pushed within flag so_far more =
    let there : k < length (continues_of test (map f rows)) = omega (arith, flags_long test f rows) in
    more ∙ rw (so_far, flag) (sym (take_more (continues_of test (map f rows)) k false there))

pub flags_done : (test : List Cell → List Cell → Bool) (f : List Cell → List Cell) (rows : List (List Cell)) (k : ℕ) (found : List Bool)
    → length rows ≤ k → found ≡ take k (continues_of test (map f rows)) → found ≡ continues_of test (map f rows)
flags_done test f rows k found all so_far =
    so_far ∙ take_all k (continues_of test (map f rows)) (omega (arith, flags_long test f rows))

-- the same cells have the same runs
pub continues_alike : (t u : Table) → SameTable t u → continues_in u ≡ continues_in t
continues_alike t u same = λ i. continues_of (again_of (sym same.kind i)) (map (drop (ids_in_front (sym same.kind i))) (sym same.rows i))
