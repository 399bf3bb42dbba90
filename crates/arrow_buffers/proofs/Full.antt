-- A column of values of one width, none of which is null.
use Rattle.std.proofs.Common.{◌≡◌, ℕ, ◌+◌, ◌*◌, ◌<◌, List, [], ◌∷◌, ◌++◌, length, map, take, count_by, is_none, Some, refl, sym, ap, ◌∙◌, arith}
use Rattle.std.specs.List.{AllByRecursion, flat_map, range_with_len}
use Rattle.std.proofs.lemmas.List.{append_assoc, drop_at, length-append}
use Rattle.std.proofs.Math.Seq.{take-append_seam}
use Rattle.arrow_buffers.specs.Limits.{max_rows}
use Rattle.arrow_buffers.specs.declared.width.Width.TheVariants.{Fixed}
use Rattle.arrow_buffers.specs.Fixed.{row_part}
use Rattle.arrow_buffers.specs.Columns.{HoldsParts, cells_of}
use Rattle.arrow_buffers.specs.Building.{IsBuilt}
use Rattle.arrow_buffers.proofs.Growing.{length-cells_of}

-- the parts after those that come before
parts-from : (width : ℕ) (parts : List (List ℕ)) (rows : ℕ) (before : List ℕ) → AllByRecursion (λ part. length part ≡ width) parts → length before ≡ rows * width
    → map (λ row. Some (row_part width (before ++ flat_map (λ part. part) parts) row)) (range_with_len rows (length parts)) ≡ map (λ part. Some part) parts
parts-from width [] rows before each len = refl
parts-from width (part ∷ parts) rows before each len =
    let rest : List ℕ = flat_map (λ part. part) parts in
    let whole : before ++ (part ++ rest) ≡ (before ++ part) ++ rest = sym (append_assoc before part rest) in
    let here : row_part width (before ++ (part ++ rest)) rows ≡ part =
    ap (take width) (drop_at before (part ++ rest) (rows * width) len) ∙ ap (λ w. take w (part ++ rest)) (sym each.0) ∙ take-append_seam part rest in
    let later = parts-from width parts (rows + 1) (before ++ part) each.1 (omega (arith, length-append before part, each.0, len)) in
    λ i. Some (here i) ∷ ((ap (λ values. map (λ row. Some (row_part width values row)) (range_with_len (rows + 1) (length parts))) whole ∙ later) i)

-- no cell is null
none-null : (f : ℕ → List ℕ) (rows : List ℕ) → count_by is_none (map (λ row. Some (f row)) rows) ≡ 0
none-null f [] = refl
none-null f (row ∷ rows) = none-null f rows

pub built-full : (width rows : ℕ) (values : List ℕ) → rows < max_rows → length values ≡ rows * width → IsBuilt (Fixed width) rows 0 [] [] values
unfolding cells_of
built-full width rows values few len = record {
  few = few;
  flags = record { none = λ _. refl; some = λ some. absurd (omega arith) };
  stored = (refl, len);
  lengths = len ∙ sym (ap (λ n. n * width) (length-cells_of (Fixed width) [] [] values rows));
  counted = sym (none-null (row_part width values) (range_with_len 0 rows));
}

pub holds-parts : (width rows : ℕ) (values : List ℕ) → HoldsParts width rows values (record { width = Fixed width; cells = cells_of (Fixed width) [] [] values rows })
unfolding cells_of
holds-parts width rows values parts each count all =
    let cells = parts-from width parts 0 [] each (omega arith) in
    λ i. record { width = Fixed width; cells = (ap (λ n. map (λ row. Some (row_part width values row)) (range_with_len 0 n)) (sym count) ∙ ap (λ vs. map (λ row. Some (row_part width vs row)) (range_with_len 0 (length parts))) (sym all) ∙ cells) i }
