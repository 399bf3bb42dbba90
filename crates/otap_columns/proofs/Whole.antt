-- Columns in which no row is null, part by part.
use Rattle.std.proofs.Common.{◌≡◌, ℕ, ◌+◌, ◌*◌, ◌<◌, false, List, [], ◌∷◌, ◌++◌, length, take, get_or, map, Option, Some, None, refl, sym, ap, subst, ◌∙◌, arith}
use Rattle.std.specs.Prelude.{Result, Ok, Err, IfOk}
use Rattle.std.specs.List.{AllByRecursion, flat_map}
use Rattle.std.proofs.lemmas.Grind.{flat_map-append}
use Rattle.std.proofs.lemmas.List.{append-nil, get_or-map, length-append, length-map, map-append, take_more}
use Rattle.byteorder.specs.Endian.{little_bytes}
use Rattle.arrow_buffers.specs.Columns.{ColumnIn, HoldsParts}
use Rattle.arrow_buffers.specs.declared.width.Width.TheVariants.{Fixed}
use Rattle.lists.proofs.Every.{every_append}
use Rattle.otap_cells.specs.declared.profile.Base.{Base}
use Rattle.otap_cells.specs.Cells.{Cell}
use Rattle.otap_cells.specs.Columns.{base_at}
use Rattle.otap_cells.specs.Tables.{Table, cell_in}
use Rattle.otap_columns.specs.declared.forms.ColumnForm.{ColumnForm}
use Rattle.otap_columns.specs.declared.forms.ColumnForm.TheVariants as form
use Rattle.otap_columns.specs.Observed.{bytes_for}
use Rattle.otap_columns.specs.Schemas.{is_dictionary}
use Rattle.otap_columns.specs.WrittenCells.{stored_column}
use Rattle.otap_columns.specs.BuiltCells.{AreParts, IsIndexFor, index_of, index_size}
use Rattle.otap_columns.proofs.ColumnsBuilt.{plain_stored, stored_more}

pub no_parts : (size : ℕ) (cells : List (Option (List ℕ))) (values : List ℕ) → values ≡ [] → AreParts size (take 0 cells) values
no_parts size cells values is = subst (AreParts size (take 0 cells)) (sym is) ([], tt, refl, refl)

pub part_more : (size : ℕ) (cells : List (Option (List ℕ))) (row : ℕ) (part values pushed : List ℕ) → length part ≡ size → pushed ≡ values ++ part
    → take row cells ++ Some part ∷ [] ≡ take (row + 1) cells → AreParts size (take row cells) values → AreParts size (take (row + 1) cells) pushed
part_more size cells row part values pushed len more next are = (
  are.0 ++ part ∷ [],
  every_append (λ (p : List ℕ). length p ≡ size) are.0 (part ∷ []) are.1 (len, tt),
  map-append (λ (p : List ℕ). Some p) are.0 (part ∷ []) ∙ ap (λ (xs : List (Option (List ℕ))). xs ++ Some part ∷ []) are.2 ∙ next,
  flat_map-append (λ (p : List ℕ). p) are.0 (part ∷ []) ∙ (λ i. are.3 i ++ append-nil part i) ∙ sym more,
)

-- so many parts have so many bytes
pub parts_length : (size : ℕ) (parts : List (List ℕ)) → AllByRecursion (λ part. length part ≡ size) parts → length (flat_map (λ (part : List ℕ). part) parts) ≡ length parts * size
parts_length size [] each = omega arith
parts_length size (part ∷ parts) each = omega (arith, length-append part (flat_map (λ (p : List ℕ). p) parts), each.0, parts_length size parts each.1)

pub parts_count : (size : ℕ) (cells : List (Option (List ℕ))) (values : List ℕ) → (are : AreParts size cells values) → length are.0 ≡ length cells
parts_count size cells values are = sym (length-map are.0 (λ (part : List ℕ). Some part)) ∙ ap length are.2

pub values_length : (size : ℕ) (cells : List (Option (List ℕ))) (values : List ℕ) → AreParts size cells values → length values ≡ length cells * size
values_length size cells values are = sym (ap length are.3) ∙ parts_length size are.0 are.1 ∙ ap (λ n. n * size) (parts_count size cells values are)

-- the column that holds the parts
pub parts_column : (size rows : ℕ) (cells : List (Option (List ℕ))) (values : List ℕ) (built : ColumnIn) → AreParts size cells values → rows ≡ length cells → HoldsParts size rows values built
    → built ≡ record { width = Fixed size; cells = cells }
parts_column size rows cells values built are count holds =
    holds are.0 are.1 (parts_count size cells values are ∙ sym count) are.3 ∙ (λ i. record { width = Fixed size; cells = are.2 i })

pub ok_weaker : {T E : Type 0} (r : Result T E) (P Q : T → Type 0) → ((x : T) → P x → Q x) → IfOk r P → IfOk r Q
ok_weaker (Ok x) P Q weaker holds = weaker x holds
ok_weaker (Err e) P Q weaker holds = tt

-- the cell of a row in a column that is written as its values
pub stored_part : (f : ColumnForm) (t : Table) (column row : ℕ) (holds : Base) (cell : Cell) (part : List ℕ) → is_dictionary f ≡ false → row < length t.rows → holds ≡ base_at t.kind column
    → cell ≡ cell_in t.rows column row → bytes_for holds f cell ≡ Some part → take row (stored_column f [] t column) ++ Some part ∷ [] ≡ take (row + 1) (stored_column f [] t column)
stored_part f t column row holds cell part plain low base_is cell_is shown =
    stored_more f [] t column row (Some part) low
    (sym shown ∙ (λ i. bytes_for (base_is i) f (cell_is i)) ∙ plain_stored (base_at t.kind column) f [] (cell_in t.rows column row) plain)

-- the index of a row
pub index_part : (f : ColumnForm) (places : List (Option ℕ)) (row place : ℕ) (part : List ℕ) → row < length places → get_or places row None ≡ Some place → part ≡ little_bytes (index_size f) place
    → take row (map (index_of f) places) ++ Some part ∷ [] ≡ take (row + 1) (map (index_of f) places)
index_part f places row place part low here is =
    let inside : row < length (map (index_of f) places) = omega (arith, length-map places (index_of f)) in
    let at : get_or (map (index_of f) places) row None ≡ Some part = get_or-map (index_of f) places row None None low ∙ ap (index_of f) here ∙ ap (λ (p : List ℕ). Some p) (sym is) in
    sym (take_more (map (index_of f) places) row None inside ∙ ap (λ y. take row (map (index_of f) places) ++ y ∷ []) at)

-- an index of one byte, and one of two
pub narrow_index : (f : ColumnForm) (place : ℕ) → index_size f ≡ 1 → IsIndexFor f (Some place) → place < 256
narrow_index form.Dict8 place size fits = omega (arith, fits)
narrow_index form.Dict16 place size fits = absurd (omega (arith, size))
narrow_index form.Absent place size fits = absurd (omega (arith, size))
narrow_index form.Plain place size fits = absurd (omega (arith, size))
narrow_index form.Wide place size fits = absurd (omega (arith, size))
narrow_index (form.Coded how) place size fits = absurd (omega (arith, size))

pub wide_index : (f : ColumnForm) (place : ℕ) → index_size f ≡ 2 → IsIndexFor f (Some place) → place < 65536
wide_index form.Dict8 place size fits = absurd (omega (arith, size))
wide_index form.Dict16 place size fits = omega (arith, fits)
wide_index form.Absent place size fits = omega (arith, fits)
wide_index form.Plain place size fits = omega (arith, fits)
wide_index form.Wide place size fits = omega (arith, fits)
wide_index (form.Coded how) place size fits = omega (arith, fits)

pub other_size : (f : ColumnForm) → (index_size f ≡ 1 → ⊥) → index_size f ≡ 2
other_size form.Dict8 differs = absurd (differs refl)
other_size form.Dict16 differs = refl
other_size form.Absent differs = refl
other_size form.Plain differs = refl
other_size form.Wide differs = refl
other_size (form.Coded how) differs = refl
