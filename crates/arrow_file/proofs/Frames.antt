-- Bytes that are framed as a file: how they begin and end, and their footer.
use Rattle.std.proofs.Common.{◌≡◌, ℕ, ◌+◌, ◌-◌, ◌<◌, ◌≤◌, ◌^◌, List, ◌++◌, length, take, drop, drop-drop, length-drop, refl, sym, ap, ◌∙◌, append_assoc, length-append, arith}
use Rattle.std.specs.Prelude.{pos}
use Rattle.std.specs.Int.{w32, cast_signed, cast_unsigned, from_le_bytes}
use Rattle.std.proofs.lemmas.Int.{to_z_pos, of_z-to_z, ints}
use Rattle.std.proofs.lemmas.Nat.{le_bytes_4}
use Rattle.std.proofs.lemmas.List.{take_at, drop_at, length-take-le, take-append-drop}
use Rattle.byteorder.specs.Endian.{little_bytes, little_number}
use Rattle.byteorder.specs.Numbers.{length-bytes_low_first, little_number-reads_back, little_from-take}
use Rattle.lists.proofs.AllBytes.{IsBytes, IsBytes-drop, IsBytes-take}
use Rattle.arrow_file.specs.Files.{magic, head, IsFramedFile}
use Rattle.arrow_file.specs.Defects.{HasMagics, footer_size}

-- the sizes and the offsets that a footer determines
pub record Framing (bytes footer : List ℕ) : Type 0 where
  pub magics : HasMagics bytes
  pub size : footer_size bytes ≡ pos (length footer)
  pub fits : 18 + length footer ≤ length bytes
  pub is : footer ≡ take (length footer) (drop (length bytes - 10 - length footer) bytes)

-- five parts, taken together from the front
group_4 : (a b c d e : List ℕ) → a ++ (b ++ (c ++ (d ++ e))) ≡ (((a ++ b) ++ c) ++ d) ++ e
group_4 a b c d e = sym (append_assoc ((a ++ b) ++ c) d e ∙ append_assoc (a ++ b) c (d ++ e) ∙ append_assoc a b (c ++ (d ++ e)))

group_3 : (a b c d : List ℕ) → a ++ (b ++ (c ++ d)) ≡ ((a ++ b) ++ c) ++ d
group_3 a b c d = sym (append_assoc (a ++ b) c d ∙ append_assoc a b (c ++ d))

pub framing : (bytes footer : List ℕ) → IsFramedFile bytes footer → Framing bytes footer
framing bytes footer h =
    let n : ℕ = length footer in
    let c : List ℕ = h.content in
    let size : List ℕ = little_bytes 4 n in
    let four : length size ≡ 4 = length-bytes_low_first 0 4 n in
    let six : length magic ≡ 6 = refl in
    let eight : length head ≡ 8 = refl in
    let end : length (size ++ magic) ≡ 10 = omega (arith, length-append size magic, four, six) in
    let all : length bytes ≡ 8 + (length c + (n + 10)) =
    omega (arith, ap length h.whole, length-append head (c ++ (footer ++ (size ++ magic))), length-append c (footer ++ (size ++ magic)), length-append footer (size ++ magic), end, eight) in
    let front_2 : length (head ++ c) ≡ 8 + length c = omega (arith, length-append head c, eight) in
    let front_3 : length ((head ++ c) ++ footer) ≡ 8 + length c + n = omega (arith, length-append (head ++ c) footer, front_2) in
    let front_4 : length (((head ++ c) ++ footer) ++ size) ≡ 12 + length c + n = omega (arith, length-append ((head ++ c) ++ footer) size, front_3, four) in
    let last : drop (length bytes - 6) bytes ≡ magic =
    ap (drop (length bytes - 6)) (h.whole ∙ group_4 head c footer size magic) ∙ drop_at (((head ++ c) ++ footer) ++ size) magic (length bytes - 6) (omega (arith, front_4, all)) in
    let tail : drop (length bytes - 10) bytes ≡ size ++ magic =
    ap (drop (length bytes - 10)) (h.whole ∙ group_3 head c footer (size ++ magic)) ∙ drop_at ((head ++ c) ++ footer) (size ++ magic) (length bytes - 10) (omega (arith, front_3, all)) in
    let rest : drop (length bytes - 10 - n) bytes ≡ footer ++ (size ++ magic) =
    ap (drop (length bytes - 10 - n)) (h.whole ∙ sym (append_assoc head c (footer ++ (size ++ magic)))) ∙ drop_at (head ++ c) (footer ++ (size ++ magic)) (length bytes - 10 - n) (omega (arith, front_2, all)) in
    let number : little_number 4 (drop (length bytes - 10) bytes) ≡ n = ap (little_number 4) tail ∙ little_number-reads_back 4 n magic (omega (arith, h.small)) in
    record {
      magics = record { long = omega (arith, all); first = ap (take 8) h.whole ∙ take_at head (c ++ (footer ++ (size ++ magic))) 8 eight; last = last };
      size = ap (cast_signed w32) number ∙ to_z_pos w32 n (omega (arith, h.small));
      fits = omega (arith, all);
      is = sym (ap (take n) rest ∙ take_at footer (size ++ magic) n refl);
    }

-- bytes have one footer
pub one_footer : (bytes a b : List ℕ) → IsFramedFile bytes a → IsFramedFile bytes b → a ≡ b
one_footer bytes a b h k =
    let f : Framing bytes a = framing bytes a h in
    let g : Framing bytes b = framing bytes b k in
    let same : length a ≡ length b = cc (f.size, g.size) in
    f.is ∙ ap (λ n. take n (drop (length bytes - 10 - n) bytes)) same ∙ sym g.is

-- ---- and back

little_as_bytes : (bs : List ℕ) → little_number 4 bs ≡ from_le_bytes w32 bs
little_as_bytes bs = omega arith

size_back : (bytes : List ℕ) → IsBytes bytes → 4 ≤ length bytes → take 4 bytes ≡ little_bytes 4 (little_number 4 bytes)
size_back bytes fits long =
    let is : little_number 4 bytes ≡ from_le_bytes w32 (take 4 bytes) = sym (little_from-take 0 4 4 bytes (omega arith)) ∙ little_as_bytes (take 4 bytes) in
    sym (le_bytes_4 (take 4 bytes) (little_number 4 bytes) (length-take-le 4 bytes long) (IsBytes-take 4 bytes fits) is)

pub framed_by : (bytes : List ℕ) (n : ℕ) → IsBytes bytes → HasMagics bytes → n ≡ little_number 4 (drop (length bytes - 10) bytes) → 18 + n ≤ length bytes → n < 2 ^ 31
    → IsFramedFile bytes (take n (drop (length bytes - 10 - n) bytes))
framed_by bytes n fits h is long small =
    let from : ℕ = length bytes - 10 - n in
    let content : List ℕ = take (from - 8) (drop 8 bytes) in
    let footer : List ℕ = take n (drop from bytes) in
    let size : length footer ≡ n = length-take-le n (drop from bytes) (omega (arith, length-drop from bytes, long)) in
    let after_head : drop 8 bytes ≡ content ++ drop from bytes =
    sym (take-append-drop (from - 8) (drop 8 bytes)) ∙ ap (λ end. content ++ end) (drop-drop (from - 8) 8 bytes ∙ ap (λ k. drop k bytes) (omega (arith, long))) in
    let after_content : drop from bytes ≡ footer ++ drop (length bytes - 10) bytes =
    sym (take-append-drop n (drop from bytes)) ∙ ap (λ end. footer ++ end) (drop-drop n from bytes ∙ ap (λ k. drop k bytes) (omega (arith, long))) in
    let four : take 4 (drop (length bytes - 10) bytes) ≡ little_bytes 4 (length footer) =
    size_back (drop (length bytes - 10) bytes) (IsBytes-drop (length bytes - 10) bytes fits) (omega (arith, length-drop (length bytes - 10) bytes, long))
    ∙ ap (little_bytes 4) (sym is ∙ sym size) in
    let after_footer : drop (length bytes - 10) bytes ≡ little_bytes 4 (length footer) ++ magic =
    sym (take-append-drop 4 (drop (length bytes - 10) bytes))
    ∙ ap (λ front. front ++ drop 4 (drop (length bytes - 10) bytes)) four
    ∙ ap (λ end. little_bytes 4 (length footer) ++ end) (drop-drop 4 (length bytes - 10) bytes ∙ ap (λ k. drop k bytes) (omega (arith, long)) ∙ h.last) in
    record {
      content = content;
      whole = sym (take-append-drop 8 bytes) ∙ ap (λ front. front ++ drop 8 bytes) h.first
          ∙ ap (λ end. head ++ end) (after_head ∙ ap (λ end. content ++ end) (after_content ∙ ap (λ end. footer ++ end) after_footer));
      small = omega (arith, size, small);
    }

-- a size that is too large is none from 0 to what is left, read with its sign
pub too_large : (bytes : List ℕ) (n : ℕ) → n ≡ little_number 4 (drop (length bytes - 10) bytes) → n < 2 ^ 32 → length bytes < 18 + n
    → (m : ℕ) → footer_size bytes ≡ pos m → length bytes < 18 + m
too_large bytes n is fits large m h =
    let back : cast_unsigned w32 (pos m) ≡ n = ap (cast_unsigned w32) (sym h ∙ ap (cast_signed w32) (sym is)) ∙ of_z-to_z w32 n fits in
    omega (arith, ints, back, large)
