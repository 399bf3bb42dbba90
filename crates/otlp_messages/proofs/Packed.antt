-- What is written of packed numbers, optional numbers and signed 64 bits fits the table and reads back.
use Rattle.std.proofs.Common.{◌≡◌, ℕ, ◌*◌, ◌/◌, ◌%◌, ◌^◌, ◌<◌, List, [], ◌∷◌, length, drop, ℤ, refl, ap, ◌∙◌, arith}
use Rattle.std.specs.Prelude.{fold, FitsSigned}
use Rattle.std.specs.Int.{w64, cast_unsigned}
use Rattle.std.specs.List.{flat_map, AllByRecursion}
use Rattle.std.proofs.lemmas.List.{length-append}
use Rattle.byteorder.specs.Endian.{little_bytes}
use Rattle.byteorder.specs.Numbers.{little_number-reads_back, length-bytes_low_first}
use Rattle.lists.proofs.Numbers.{eights_divided, eights_whole, unsigned_small}
use Rattle.otlp_messages.specs.declared.messages.Message.{Message}
use Rattle.otlp_messages.specs.declared.messages.FieldKind.TheVariants as kinds
use Rattle.otlp_wire.specs.Wire.{Fixed64}
use Rattle.otlp_messages.specs.Table.{kind_of}
use Rattle.lists.specs.Numbers.{little_numbers}
use Rattle.otlp_messages.specs.Rows.{packed_in}
use Rattle.otlp_messages.specs.Canon.{row, packed_row, RowFits}
use Rattle.otlp_messages.proofs.RowKinds.{part_field_fits, none_fits, fixed64_field_fits}

-- the bytes of numbers
abbrev pub run : List ℕ → List ℕ
run ns = flat_map (little_bytes 8) ns

pub length-run : (ns : List ℕ) → length (run ns) ≡ 8 * length ns
length-run [] = refl
length-run (n ∷ ns) = omega (arith, length-append (little_bytes 8 n) (run ns), length-bytes_low_first 0 8 n, length-run ns)

run_back : (ns : List ℕ) → AllByRecursion (λ n. n < 2 ^ 64) ns → little_numbers (length ns) (run ns) ≡ ns
run_back [] small = refl
run_back (n ∷ ns) small =
    ap (λ x. x ∷ little_numbers (length ns) (drop 8 (run (n ∷ ns)))) (little_number-reads_back 8 n (run ns) small.0)
    ∙ ap (λ bytes. n ∷ little_numbers (length ns) bytes) refl ∙ ap (λ rest. n ∷ rest) (run_back ns small.1)

pub packed_back : (ns : List ℕ) → AllByRecursion (λ n. n < 2 ^ 64) ns → fold packed_in [] (packed_row ns) ≡ ns
packed_back [] small = refl
packed_back (n ∷ ns) small =
    ap (λ count. little_numbers count (run (n ∷ ns))) (ap (λ size. size / 8) (length-run (n ∷ ns)) ∙ eights_divided (length (n ∷ ns))) ∙ run_back (n ∷ ns) small

pub packed_fits : (m : Message) (l n : ℕ) (ns : List ℕ) → kind_of m n ≡ kinds.Packed64 → RowFits m l (row n (packed_row ns))
packed_fits m l n [] is = none_fits m l n
packed_fits m l n (x ∷ ns) is = part_field_fits m l n (run (x ∷ ns)) (λ short. rw is (ap (λ size. size % 8) (length-run (x ∷ ns)) ∙ eights_whole (length (x ∷ ns))))

-- a signed number of 64 bits
pub sfixed64_fits : (m : Message) (l n : ℕ) (z : ℤ) → kind_of m n ≡ kinds.Fixed64 → FitsSigned w64 z → RowFits m l (row n (Fixed64 (cast_unsigned w64 z) ∷ []))
sfixed64_fits m l n z is fits = fixed64_field_fits m l n (cast_unsigned w64 z) is (unsigned_small z fits)
