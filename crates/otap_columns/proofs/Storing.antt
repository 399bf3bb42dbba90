-- Cells by the bytes that store them, and the types that store a base.
use Rattle.std.proofs.Common.{◌≡◌, ℕ, ◌*◌, ◌<◌, ◌≤◌, ◌^◌, ◌==◌, Bool, true, false, List, length, Option, Some, None, refl, sym, ap, ◌∙◌, subst, arith, ◌⊎◌, inl, inr}
use Rattle.std.specs.Prelude.{FitsSigned, if◌then◌else◌, ◌||◌}
use Rattle.std.specs.Int.{w32, w64, cast_signed}
use Rattle.std.specs.Option.{ForSome}
use Rattle.std.proofs.Math.Nat.{mod-lt}
use Rattle.std.proofs.lemmas.Nat.{pow_pos}
use Rattle.std.proofs.lemmas.Bool.{cases_Bool, and_parts, false≢true}
use borrow.Author.Gap.{read_sfits}
use Rattle.byteorder.specs.Endian.{little_number}
use Rattle.arrow_schema.specs.declared.spec.ArrowType.{ArrowType}
use Rattle.arrow_schema.specs.declared.spec.ArrowType.TheVariants as arrow
use Rattle.arrow_schema.specs.Types.{same_type}
use Rattle.arrow_schema.proofs.Lists.{same_type_is}
use Rattle.arrow_arrays.specs.Layouts.{layout_of_values, FitsLayout}
use Rattle.otap_cells.specs.declared.profile.Base.{Base}
use Rattle.otap_cells.specs.declared.profile.Base.TheVariants as base
use Rattle.otap_cells.specs.Bases.{is_id, holds_bytes}
use Rattle.otap_cells.specs.Cells.{Cell, IsCellOf, nat_in}
use Rattle.otap_columns.specs.Known.{is_list_of, stores, greatest_of, unsigned, signed, stored, stored_cell}
use Rattle.otap_columns.specs.Resolved.{FitsBase}
use Rattle.otap_columns.specs.Parts.{bytes_of_cell}

-- ---- numbers

-- a number is below what its bytes can hold
unsigned_below : (value : List ℕ) (n : ℕ) → length value ≡ n → unsigned value < 2 ^ (8 * n)
unsigned_below value n size =
    subst (λ (k : ℕ). unsigned value < 2 ^ (8 * k)) size (mod-lt (little_number (length value) value) {m = 2 ^ (8 * length value)} (pow_pos (8 * length value)))

signed_short : (value : List ℕ) → length value ≡ 4 → FitsSigned w32 (signed value)
signed_short value size =
    subst (FitsSigned w32) (sym (ap (λ (n : ℕ). if n == 4 then cast_signed w32 (little_number (length value) value) else cast_signed w64 (little_number (length value) value)) size))
    (read_sfits w32 (little_number (length value) value))

signed_long : (value : List ℕ) → length value ≡ 8 → FitsSigned w64 (signed value)
signed_long value size =
    subst (FitsSigned w64) (sym (ap (λ (n : ℕ). if n == 4 then cast_signed w32 (little_number (length value) value) else cast_signed w64 (little_number (length value) value)) size))
    (read_sfits w64 (little_number (length value) value))

-- an id has 16 or 32 bits
id_below : (value : List ℕ) → (length value ≡ 2) ⊎ (length value ≡ 4) → unsigned value < 2 ^ 32
id_below value (inl short) = omega (arith, unsigned_below value 2 short)
id_below value (inr long) = unsigned_below value 4 long

-- ---- a cell that is stored in the bytes of a base is of the base

pub stored_is : (holds : Base) (value : List ℕ) → FitsBase holds value → IsCellOf holds (stored holds value)
stored_is base.U8 value fits = unsigned_below value 1 fits
stored_is base.U16 value fits = unsigned_below value 2 fits
stored_is base.U32 value fits = unsigned_below value 4 fits
stored_is base.U64 value fits = unsigned_below value 8 fits
stored_is base.I32 value fits = signed_short value fits
stored_is base.I64 value fits = signed_long value fits
stored_is base.Double value fits = unsigned_below value 8 fits
stored_is base.Bool value fits = refl
stored_is base.Utf8 value fits = fits
stored_is base.Binary value fits = tt
stored_is base.Fixed16 value fits = fits
stored_is base.Fixed8 value fits = fits
stored_is base.Timestamp value fits = unsigned_below value 8 fits
stored_is base.Duration value fits = unsigned_below value 8 fits
stored_is base.ListU64 value fits = fits
stored_is base.ListF64 value fits = fits
stored_is (base.Id wide) value fits = id_below value fits

pub cell_is : (holds : Base) (value : Option (List ℕ)) → ForSome value (FitsBase holds) → IsCellOf holds (stored_cell holds value)
unfolding stored_cell
cell_is holds None fits = tt
cell_is holds (Some value) fits = stored_is holds value (fits value refl)

-- its bytes, if it has any
pub part_is : (holds : Base) (value : Option (List ℕ)) → bytes_of_cell (stored_cell holds value) ≡ (if holds_bytes holds then value else None)
unfolding stored_cell
part_is base.U8 None = refl
part_is base.U16 None = refl
part_is base.U32 None = refl
part_is base.U64 None = refl
part_is base.I32 None = refl
part_is base.I64 None = refl
part_is base.Double None = refl
part_is base.Bool None = refl
part_is base.Utf8 None = refl
part_is base.Binary None = refl
part_is base.Fixed16 None = refl
part_is base.Fixed8 None = refl
part_is base.Timestamp None = refl
part_is base.Duration None = refl
part_is base.ListU64 None = refl
part_is base.ListF64 None = refl
part_is (base.Id wide) None = refl
part_is base.U8 (Some value) = refl
part_is base.U16 (Some value) = refl
part_is base.U32 (Some value) = refl
part_is base.U64 (Some value) = refl
part_is base.I32 (Some value) = refl
part_is base.I64 (Some value) = refl
part_is base.Double (Some value) = refl
part_is base.Bool (Some value) = refl
part_is base.Utf8 (Some value) = refl
part_is base.Binary (Some value) = refl
part_is base.Fixed16 (Some value) = refl
part_is base.Fixed8 (Some value) = refl
part_is base.Timestamp (Some value) = refl
part_is base.Duration (Some value) = refl
part_is base.ListU64 (Some value) = refl
part_is base.ListF64 (Some value) = refl
part_is (base.Id wide) (Some value) = refl

pub part_by : (holds : Base) (value : Option (List ℕ)) (x : Cell) (b : Bool) → stored_cell holds value ≡ x → b ≡ holds_bytes holds → (if b then value else None) ≡ bytes_of_cell x
part_by holds value x b is test = ap (λ (c : Bool). if c then value else None) test ∙ sym (part_is holds value) ∙ ap bytes_of_cell is

-- ---- values of a type that stores a base fit the base

fits_as_type : (own type : ArrowType) (value : List ℕ) → same_type own type ≡ true → FitsLayout (layout_of_values type) value → FitsLayout (layout_of_values own) value
fits_as_type own type value same fits = subst (λ (t : ArrowType). FitsLayout (layout_of_values t) value) (sym (same_type_is own type same)) fits

fits_as_list : (element type : ArrowType) (elements : Option ArrowType) (value : List ℕ) → is_list_of element type elements ≡ true → FitsLayout (layout_of_values type) value
    → FitsLayout (layout_of_values arrow.List) value
fits_as_list element type None value is fits = absurd (false≢true is)
fits_as_list element type (Some own) value is fits = fits_as_type arrow.List type value (and_parts (same_type arrow.List type) (same_type element own) is).0 fits

-- one of the two types of ids
id_type : (type : ArrowType) → (same_type (arrow.Int 16 false) type || same_type (arrow.Int 32 false) type) ≡ true → (arrow.Int 16 false ≡ type) ⊎ (arrow.Int 32 false ≡ type)
id_type type is = by_test (cases_Bool (same_type (arrow.Int 16 false) type))
  where
    by_test : (same_type (arrow.Int 16 false) type ≡ true) ⊎ (same_type (arrow.Int 16 false) type ≡ false) → (arrow.Int 16 false ≡ type) ⊎ (arrow.Int 32 false ≡ type)
    by_test (inl narrow) = inl (same_type_is (arrow.Int 16 false) type narrow)
    by_test (inr other) = inr (same_type_is (arrow.Int 32 false) type (sym (ap (λ (b : Bool). b || same_type (arrow.Int 32 false) type) other) ∙ is))

fits_as_id : (type : ArrowType) (value : List ℕ) → (arrow.Int 16 false ≡ type) ⊎ (arrow.Int 32 false ≡ type) → FitsLayout (layout_of_values type) value
    → (length value ≡ 2) ⊎ (length value ≡ 4)
fits_as_id type value (inl narrow) fits = inl (subst (λ (t : ArrowType). FitsLayout (layout_of_values t) value) (sym narrow) fits)
fits_as_id type value (inr wide) fits = inr (subst (λ (t : ArrowType). FitsLayout (layout_of_values t) value) (sym wide) fits)

pub stores_fits : (holds : Base) (type : ArrowType) (elements : Option ArrowType) (value : List ℕ) → stores holds type elements ≡ true → FitsLayout (layout_of_values type) value
    → FitsBase holds value
stores_fits base.U8 type elements value is fits = fits_as_type (arrow.Int 8 false) type value is fits
stores_fits base.U16 type elements value is fits = fits_as_type (arrow.Int 16 false) type value is fits
stores_fits base.U32 type elements value is fits = fits_as_type (arrow.Int 32 false) type value is fits
stores_fits base.U64 type elements value is fits = fits_as_type (arrow.Int 64 false) type value is fits
stores_fits base.I32 type elements value is fits = fits_as_type (arrow.Int 32 true) type value is fits
stores_fits base.I64 type elements value is fits = fits_as_type (arrow.Int 64 true) type value is fits
stores_fits base.Double type elements value is fits = fits_as_type arrow.Double type value is fits
stores_fits base.Bool type elements value is fits = fits_as_type arrow.Bool type value is fits
stores_fits base.Utf8 type elements value is fits = fits_as_type arrow.Utf8 type value is fits
stores_fits base.Binary type elements value is fits = tt
stores_fits base.Fixed16 type elements value is fits = fits_as_type (arrow.Fixed 16) type value is fits
stores_fits base.Fixed8 type elements value is fits = fits_as_type (arrow.Fixed 8) type value is fits
stores_fits base.Timestamp type elements value is fits = fits_as_type arrow.Timestamp type value is fits
stores_fits base.Duration type elements value is fits = fits_as_type arrow.Duration type value is fits
stores_fits base.ListU64 type elements value is fits = fits_as_list (arrow.Int 64 false) type elements value is fits
stores_fits base.ListF64 type elements value is fits = fits_as_list arrow.Double type elements value is fits
stores_fits (base.Id wide) type elements value is fits = fits_as_id type value (id_type type is) fits

-- ---- no stored number of an id is above the greatest of its type

below_greatest : (type : ArrowType) (value : List ℕ) → (arrow.Int 16 false ≡ type) ⊎ (arrow.Int 32 false ≡ type) → FitsLayout (layout_of_values type) value → unsigned value ≤ greatest_of type
below_greatest type value (inl narrow) fits =
    let size : length value ≡ 2 = subst (λ (t : ArrowType). FitsLayout (layout_of_values t) value) (sym narrow) fits in
    subst (λ (t : ArrowType). unsigned value ≤ greatest_of t) narrow (omega (arith, unsigned_below value 2 size))
below_greatest type value (inr wide) fits =
    let size : length value ≡ 4 = subst (λ (t : ArrowType). FitsLayout (layout_of_values t) value) (sym wide) fits in
    subst (λ (t : ArrowType). unsigned value ≤ greatest_of t) wide (omega (arith, unsigned_below value 4 size))

pub id_bounded : (holds : Base) (type : ArrowType) (elements : Option ArrowType) (value : Option (List ℕ)) → is_id holds ≡ true → stores holds type elements ≡ true
    → ForSome value (FitsLayout (layout_of_values type)) → nat_in (stored_cell holds value) ≤ greatest_of type
unfolding stored_cell
id_bounded holds type elements None id is fits = omega arith
id_bounded (base.Id wide) type elements (Some value) id is fits = below_greatest type value (id_type type is) (fits value refl)
id_bounded base.U8 type elements (Some value) id is fits = absurd (false≢true id)
id_bounded base.U16 type elements (Some value) id is fits = absurd (false≢true id)
id_bounded base.U32 type elements (Some value) id is fits = absurd (false≢true id)
id_bounded base.U64 type elements (Some value) id is fits = absurd (false≢true id)
id_bounded base.I32 type elements (Some value) id is fits = absurd (false≢true id)
id_bounded base.I64 type elements (Some value) id is fits = absurd (false≢true id)
id_bounded base.Double type elements (Some value) id is fits = absurd (false≢true id)
id_bounded base.Bool type elements (Some value) id is fits = absurd (false≢true id)
id_bounded base.Utf8 type elements (Some value) id is fits = absurd (false≢true id)
id_bounded base.Binary type elements (Some value) id is fits = absurd (false≢true id)
id_bounded base.Fixed16 type elements (Some value) id is fits = absurd (false≢true id)
id_bounded base.Fixed8 type elements (Some value) id is fits = absurd (false≢true id)
id_bounded base.Timestamp type elements (Some value) id is fits = absurd (false≢true id)
id_bounded base.Duration type elements (Some value) id is fits = absurd (false≢true id)
id_bounded base.ListU64 type elements (Some value) id is fits = absurd (false≢true id)
id_bounded base.ListF64 type elements (Some value) id is fits = absurd (false≢true id)
