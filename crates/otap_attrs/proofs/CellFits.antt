-- The cells of real values fit their columns.
use Rattle.std.proofs.Common.{◌≡◌, ℕ, suc, ◌^◌, ◌<◌, pos, negsuc, Bool, true, false, List, [], ◌∷◌, length, map, refl, sym, ◌∙◌, subst, arith, inl, inr, ◌||◌}
use Rattle.std.specs.Int.{w32, w64}
use Rattle.std.specs.Prelude.{◌==◌, ℤ, FitsSigned, IsTrue}
use Rattle.std.proofs.lemmas.Bool.{cases_Bool, ltb-true}
use Rattle.std.proofs.lemmas.Bool.Decides.{nat_tests}
use Rattle.otlp_model.specs.Profile.{IsSpanId, IsTraceId}
use Rattle.otlp_model.specs.Real.{is_real_value}
use Rattle.otlp_model.specs.declared.value.Value.{Value}
use Rattle.otlp_model.proofs.Induction.{holds}
use Rattle.otlp_model.proofs.Levels.{is_real_double, is_real_int, is_real_str}
use Rattle.otlp_model.proofs.RealParts.{signed_of_real}
use Rattle.otap_cells.specs.declared.profile.Base.{Base}
use Rattle.otap_cells.specs.declared.profile.Base.TheVariants as base
use Rattle.otap_cells.specs.Cells.{Cell, IsCellOf}
use Rattle.otap_cells.specs.Columns.{ColumnSpec}
use Rattle.otap_cells.specs.Scalars.{bits_cell, flag_cell, int_cell, text_cell}
use Rattle.otap_cells.specs.Tables.{IsRow}
use Rattle.otap_groups.proofs.ProfileRows.{text_fits}
use Rattle.otap_attrs.specs.Values.{AreCellsOf, value_bases, value_cells}
use Rattle.otap_attrs.proofs.ValueCells.{cells_of_array, cells_of_bool, cells_of_bytes, cells_of_double, cells_of_empty, cells_of_int, cells_of_map, cells_of_str}

-- ---- single cells

pub bits_fit : (n : ℕ) → n < 2 ^ 64 → IsCellOf base.Timestamp (bits_cell n) × IsCellOf base.Double (bits_cell n) × IsCellOf base.Duration (bits_cell n)
bits_fit n low = elim (cases_Bool (n == 0)) [
  | inl none ↦ rw none (tt, tt, tt)
  | inr some ↦ rw some (low, low, low)
]

pub int_fits : (z : ℤ) → FitsSigned w64 z → IsCellOf base.I64 (int_cell z)
int_fits (pos n) fits = elim (cases_Bool (n == 0)) [
  | inl none ↦ rw none tt
  | inr some ↦ rw some fits
]
int_fits (negsuc n) fits = fits

pub small_fits : (z : ℤ) → FitsSigned w32 z → IsCellOf base.I32 (int_cell z)
small_fits (pos n) fits = elim (cases_Bool (n == 0)) [
  | inl none ↦ rw none tt
  | inr some ↦ rw some fits
]
small_fits (negsuc n) fits = fits

pub flag_fits : (b : Bool) → IsCellOf base.Bool (flag_cell b)
flag_fits true = refl
flag_fits false = tt

pub octets_fit : (octets : List ℕ) → IsCellOf base.Binary (text_cell octets)
octets_fit [] = tt
octets_fit (byte ∷ more) = tt

has_size : (n size : ℕ) → ((suc n == 0) || (suc n == size)) ≡ true → suc n ≡ size
has_size n size is = grind (arith, nat_tests)

pub trace_fits : (id : List ℕ) → IsTraceId id → IsCellOf base.Fixed16 (text_cell id)
trace_fits [] is = tt
trace_fits (byte ∷ more) is = has_size (length more) 16 is

pub span_fits : (id : List ℕ) → IsSpanId id → IsCellOf base.Fixed8 (text_cell id)
span_fits [] is = tt
span_fits (byte ∷ more) is = has_size (length more) 8 is

-- ---- values

abbrev Fits : Value → Type 0
Fits value = is_real_value value ≡ true → AreCellsOf value_bases (value_cells value)

each_fits : (value : Value) → Fits value
each_fits = holds Fits (record {
  empty = λ real. subst (AreCellsOf value_bases) (sym cells_of_empty) (tt, (tt, (tt, (tt, (tt, (tt, (tt, tt)))))));
  str = λ text real. subst (AreCellsOf value_bases) (sym (cells_of_str text)) (omega arith, (text_fits text (sym (is_real_str text) ∙ real), (tt, (tt, (tt, (tt, (tt, tt)))))));
  flag = λ b real. subst (AreCellsOf value_bases) (sym (cells_of_bool b)) (omega arith, (tt, (tt, (tt, (flag_fits b, (tt, (tt, tt)))))));
  int = λ z real. subst (AreCellsOf value_bases) (sym (cells_of_int z)) (omega arith, (tt, (int_fits z (signed_of_real z (sym (is_real_int z) ∙ real)), (tt, (tt, (tt, (tt, tt)))))));
  double = λ n real. subst (AreCellsOf value_bases) (sym (cells_of_double n)) (omega arith, (tt, (tt, ((bits_fit n (ltb-true n (2 ^ 64) (sym (is_real_double n) ∙ real))).1, (tt, (tt, (tt, tt)))))));
  bytes = λ octets real. subst (AreCellsOf value_bases) (sym (cells_of_bytes octets)) (omega arith, (tt, (tt, (tt, (tt, (octets_fit octets, (tt, tt)))))));
  array = λ members each real. subst (AreCellsOf value_bases) (sym (cells_of_array members)) (omega arith, (tt, (tt, (tt, (tt, (tt, (tt, tt)))))));
  pairs = λ pairs each real. subst (AreCellsOf value_bases) (sym (cells_of_map pairs)) (omega arith, (tt, (tt, (tt, (tt, (tt, (tt, tt)))))));
})

pub value_fits : (value : Value) → IsTrue (is_real_value value) → AreCellsOf value_bases (value_cells value)
value_fits value real = each_fits value real

-- cells of these bases are a row of columns that have them
pub cells_row : (columns : List ColumnSpec) (bases : List Base) (cells : List Cell) → map (λ (c : ColumnSpec). c.base) columns ≡ bases → AreCellsOf bases cells → IsRow columns cells
cells_row [] [] [] same fits = tt
cells_row [] [] (cell ∷ cells) same fits = fits
cells_row [] (b ∷ bases) cells same fits = absurd cc
cells_row (c ∷ columns) [] cells same fits = absurd cc
cells_row (c ∷ columns) (b ∷ bases) [] same fits = fits
cells_row (c ∷ columns) (b ∷ bases) (cell ∷ cells) same fits =
    let one : c.base ≡ b = cc in
    let more : map (λ (c : ColumnSpec). c.base) columns ≡ bases = cc in
    (subst (λ (holds : Base). IsCellOf holds cell) (sym one) fits.0, cells_row columns bases cells more fits.1)
