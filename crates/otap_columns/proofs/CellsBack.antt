-- A cell is read back from the bytes that are stored for it.
use Rattle.std.proofs.Common.{◌≡◌, ℕ, ◌*◌, ◌<◌, ◌^◌, ◌%◌, ◌==◌, Bool, true, false, List, [], ◌∷◌, length, None, refl, ap, ◌∙◌, arith}
use Rattle.std.specs.Prelude.{ℤ, pos, negsuc, FitsSigned, if◌then◌else◌}
use Rattle.std.specs.Int.{w32, w64, cast_signed, cast_unsigned}
use Rattle.std.proofs.Math.Nat.{mod-eq_of_lt}
use Rattle.std.proofs.lemmas.Int.{to_z-of_z, ints}
use Rattle.byteorder.specs.Endian.{little_bytes, little_number}
use Rattle.byteorder.specs.Numbers.{length-bytes_low_first}
use Rattle.otap_cells.specs.declared.profile.Base.{Base}
use Rattle.otap_cells.specs.declared.profile.Base.TheVariants as base
use Rattle.otap_cells.specs.Cells.{Cell, null, number, bits, flag, bytes, IsNumberOf, IsBitsOf, IsCellOf}
use Rattle.otap_columns.specs.declared.forms.ColumnForm.{ColumnForm}
use Rattle.otap_columns.specs.declared.forms.ColumnForm.TheVariants as form
use Rattle.otap_columns.specs.Known.{unsigned, signed, stored, stored_cell}
use Rattle.otap_columns.specs.Observed.{id_width, bytes_of_number, bytes_for}
use Rattle.otap_columns.specs.BuiltCells.{id_bits, FitsForm}
use Rattle.arrow_buffers.proofs.Placing.{read-back}

pub length-little_bytes : (n x : ℕ) → length (little_bytes n x) ≡ n
length-little_bytes n x = length-bytes_low_first 0 n x

-- a number of n bytes
unsigned_back : (n x : ℕ) → x < 256 ^ n → x < 2 ^ (8 * n) → unsigned (little_bytes n x) ≡ x
unsigned_back n x low lower =
    ap (λ (k : ℕ). little_number k (little_bytes n x) % 2 ^ (8 * k)) (length-little_bytes n x) ∙ ap (λ (y : ℕ). y % 2 ^ (8 * n)) (read-back n x low) ∙ mod-eq_of_lt lower

short_back : (z : ℤ) → FitsSigned w32 z → signed (little_bytes 4 (cast_unsigned w32 z)) ≡ z
short_back z fits =
    let small : cast_unsigned w32 z < 256 ^ 4 = omega (arith, ints) in
    let part = little_bytes 4 (cast_unsigned w32 z) in
    ap (λ (k : ℕ). if k == 4 then cast_signed w32 (little_number k part) else cast_signed w64 (little_number k part)) (length-little_bytes 4 (cast_unsigned w32 z))
    ∙ ap (cast_signed w32) (read-back 4 (cast_unsigned w32 z) small) ∙ to_z-of_z w32 z fits

long_back : (z : ℤ) → FitsSigned w64 z → signed (little_bytes 8 (cast_unsigned w64 z)) ≡ z
long_back z fits =
    let small : cast_unsigned w64 z < 256 ^ 8 = omega (arith, ints) in
    let part = little_bytes 8 (cast_unsigned w64 z) in
    ap (λ (k : ℕ). if k == 4 then cast_signed w32 (little_number k part) else cast_signed w64 (little_number k part)) (length-little_bytes 8 (cast_unsigned w64 z))
    ∙ ap (cast_signed w64) (read-back 8 (cast_unsigned w64 z) small) ∙ to_z-of_z w64 z fits

id_back : (form : ColumnForm) (n : ℕ) → n < 2 ^ id_bits form → unsigned (little_bytes (id_width form) n) ≡ n
id_back form.Wide n low = unsigned_back 4 n (omega arith) (omega arith)
id_back (form.Coded how) n low = unsigned_back 4 n (omega arith) (omega arith)
id_back form.Absent n low = unsigned_back 2 n (omega arith) (omega arith)
id_back form.Plain n low = unsigned_back 2 n (omega arith) (omega arith)
id_back form.Dict8 n low = unsigned_back 2 n (omega arith) (omega arith)
id_back form.Dict16 n low = unsigned_back 2 n (omega arith) (omega arith)

number_back : (holds : Base) (form : ColumnForm) (z : ℤ) → IsNumberOf holds z → FitsForm holds form (number z) → stored holds (bytes_of_number holds form z) ≡ number z
number_back base.U8 form (pos n) is fits = ap (λ (k : ℕ). number (pos k)) (unsigned_back 1 n (omega arith) (omega arith))
number_back base.U16 form (pos n) is fits = ap (λ (k : ℕ). number (pos k)) (unsigned_back 2 n (omega arith) (omega arith))
number_back base.U32 form (pos n) is fits = ap (λ (k : ℕ). number (pos k)) (unsigned_back 4 n (omega arith) (omega arith))
number_back (base.Id wide) form (pos n) is fits =
    ap (λ (k : ℕ). number (pos k)) (id_back form n fits)
number_back base.U8 form (negsuc n) is fits = absurd is
number_back base.U16 form (negsuc n) is fits = absurd is
number_back base.U32 form (negsuc n) is fits = absurd is
number_back (base.Id wide) form (negsuc n) is fits = absurd is
number_back base.I32 form z is fits = ap number (short_back z is)
number_back base.I64 form z is fits = ap number (long_back z is)
number_back base.U64 form z is fits = absurd is
number_back base.Double form z is fits = absurd is
number_back base.Bool form z is fits = absurd is
number_back base.Utf8 form z is fits = absurd is
number_back base.Binary form z is fits = absurd is
number_back base.Fixed16 form z is fits = absurd is
number_back base.Fixed8 form z is fits = absurd is
number_back base.Timestamp form z is fits = absurd is
number_back base.Duration form z is fits = absurd is
number_back base.ListU64 form z is fits = absurd is
number_back base.ListF64 form z is fits = absurd is

raw_back : (n : ℕ) → n < 2 ^ 64 → unsigned (little_bytes 8 n) ≡ n
raw_back n low = unsigned_back 8 n (omega arith) (omega arith)

bits_back : (holds : Base) (n : ℕ) → IsBitsOf holds n → stored holds (little_bytes 8 n) ≡ bits n
bits_back base.U64 n is = ap bits (raw_back n is)
bits_back base.Double n is = ap bits (raw_back n is)
bits_back base.Timestamp n is = ap bits (raw_back n is)
bits_back base.Duration n is = ap bits (raw_back n is)
bits_back base.U8 n is = absurd is
bits_back base.U16 n is = absurd is
bits_back base.U32 n is = absurd is
bits_back base.I32 n is = absurd is
bits_back base.I64 n is = absurd is
bits_back base.Bool n is = absurd is
bits_back base.Utf8 n is = absurd is
bits_back base.Binary n is = absurd is
bits_back base.Fixed16 n is = absurd is
bits_back base.Fixed8 n is = absurd is
bits_back base.ListU64 n is = absurd is
bits_back base.ListF64 n is = absurd is
bits_back (base.Id wide) n is = absurd is

bytes_back : (holds : Base) (part : List ℕ) → IsCellOf holds (bytes part) → stored holds part ≡ bytes part
bytes_back base.Utf8 part is = refl
bytes_back base.Binary part is = refl
bytes_back base.Fixed16 part is = refl
bytes_back base.Fixed8 part is = refl
bytes_back base.ListU64 part is = refl
bytes_back base.ListF64 part is = refl
bytes_back base.U8 part is = absurd is
bytes_back base.U16 part is = absurd is
bytes_back base.U32 part is = absurd is
bytes_back base.U64 part is = absurd is
bytes_back base.I32 part is = absurd is
bytes_back base.I64 part is = absurd is
bytes_back base.Double part is = absurd is
bytes_back base.Bool part is = absurd is
bytes_back base.Timestamp part is = absurd is
bytes_back base.Duration part is = absurd is
bytes_back (base.Id wide) part is = absurd is

flag_back : (b : Bool) → stored base.Bool ((if b then 1 else 0) ∷ []) ≡ flag b
flag_back true = refl
flag_back false = refl

-- THE CELL AGAIN
pub cell_back : (holds : Base) (form : ColumnForm) (cell : Cell) → IsCellOf holds cell → FitsForm holds form cell → stored_cell holds (bytes_for holds form cell) ≡ cell
unfolding stored_cell
cell_back holds form null is fits = refl
cell_back holds form (number z) is fits = number_back holds form z is fits
cell_back holds form (bits n) is fits = bits_back holds n is
cell_back holds form (flag b) is fits = ap (λ (h : Base). stored h ((if b then 1 else 0) ∷ [])) is ∙ flag_back b
cell_back holds form (bytes part) is fits = bytes_back holds part is

-- only null has no bytes
pub null_bytes : (holds : Base) (form : ColumnForm) (cell : Cell) → bytes_for holds form cell ≡ None → cell ≡ null
null_bytes holds form null is = refl
null_bytes holds form (number z) is = absurd (cc)
null_bytes holds form (bits n) is = absurd (cc)
null_bytes holds form (flag b) is = absurd (cc)
null_bytes holds form (bytes part) is = absurd (cc)
