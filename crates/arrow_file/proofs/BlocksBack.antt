-- Blocks that were written are read back.
use Rattle.std.proofs.Common.{◌≡◌, ℕ, ◌+◌, ◌*◌, ◌<◌, ◌^◌, suc, zero, List, [], ◌∷◌, ◌++◌, length, take, drop, drop-drop, get_or, Some, unwrap_or, refl, sym, ap, ◌∙◌, append_assoc, length-append, arith}
use Rattle.std.specs.Prelude.{ℤ, pos, FitsSigned}
use Rattle.std.specs.Int.{w32, w64, cast_signed, cast_unsigned}
use Rattle.std.proofs.lemmas.Int.{to_z-of_z, ints}
use Rattle.std.proofs.lemmas.List.{take_at, drop_at, append-nil}
use Rattle.std.proofs.lemmas.List.FromFn.{fill_by_all}
use Rattle.byteorder.specs.Endian.{little_number}
use Rattle.byteorder.specs.Numbers.{length-bytes_low_first, little_number-reads_back}
use Rattle.flat_tables.specs.Tables.{element_part}
use Rattle.flat_tables.specs.Building.{vector_from, IsParts}
use Rattle.arrow_file.specs.declared.block.Block.{Block}
use Rattle.arrow_file.specs.Blocks.{block_in, block_at, blocks_in}
use Rattle.arrow_file.specs.BlockBytes.{Fits, AllFit, no_block, number_32, number_64, block_bytes, blocks_bytes}

back_64 : (z : ℤ) (rest : List ℕ) → FitsSigned w64 z → cast_signed w64 (little_number 8 (number_64 z ++ rest)) ≡ z
unfolding number_64
back_64 z rest fits =
    let small : cast_unsigned w64 z < 256 ^ 8 = omega (arith, ints) in
    ap (cast_signed w64) (little_number-reads_back 8 (cast_unsigned w64 z) rest small) ∙ to_z-of_z w64 z fits

back_32 : (z : ℤ) (rest : List ℕ) → FitsSigned w32 z → cast_signed w32 (little_number 4 (number_32 z ++ rest)) ≡ z
unfolding number_32
back_32 z rest fits =
    let small : cast_unsigned w32 z < 256 ^ 4 = omega (arith, ints) in
    ap (cast_signed w32) (little_number-reads_back 4 (cast_unsigned w32 z) rest small) ∙ to_z-of_z w32 z fits

length_64 : (z : ℤ) → length (number_64 z) ≡ 8
unfolding number_64
length_64 z = length-bytes_low_first 0 8 (cast_unsigned w64 z)

length_32 : (z : ℤ) → length (number_32 z) ≡ 4
unfolding number_32
length_32 z = length-bytes_low_first 0 4 (cast_unsigned w32 z)

block_back : (b : Block) → Fits b → block_in (block_bytes b) ≡ b
block_back b fits =
    let o : List ℕ = number_64 b.offset in
    let m : List ℕ = number_32 b.metadata_size in
    let p : List ℕ = number_32 (pos 0) in
    let z : List ℕ = number_64 b.body_size in
    let after_8 : drop 8 (block_bytes b) ≡ m ++ (p ++ z) = drop_at o (m ++ (p ++ z)) 8 (length_64 b.offset) in
    let sixteen : length ((o ++ m) ++ p) ≡ 16 = omega (arith, length-append (o ++ m) p, length-append o m, length_64 b.offset, length_32 b.metadata_size, length_32 (pos 0)) in
    let after_16 : drop 16 (block_bytes b) ≡ z ++ [] =
    ap (drop 16) (sym (append_assoc (o ++ m) p z ∙ append_assoc o m (p ++ z))) ∙ drop_at ((o ++ m) ++ p) z 16 sixteen ∙ sym (append-nil z) in
    let e0 : cast_signed w64 (little_number 8 (block_bytes b)) ≡ b.offset = back_64 b.offset (m ++ (p ++ z)) fits.offset in
    let e1 : cast_signed w32 (little_number 4 (drop 8 (block_bytes b))) ≡ b.metadata_size =
    ap (λ part. cast_signed w32 (little_number 4 part)) after_8 ∙ back_32 b.metadata_size (p ++ z) fits.metadata in
    let e2 : cast_signed w64 (little_number 8 (drop 16 (block_bytes b))) ≡ b.body_size =
    ap (λ part. cast_signed w64 (little_number 8 part)) after_16 ∙ back_64 b.body_size [] fits.body in
    λ i. record { offset = e0 i; metadata_size = e1 i; body_size = e2 i }

length-block_bytes : (b : Block) → length (block_bytes b) ≡ 24
length-block_bytes b =
    let m : List ℕ = number_32 b.metadata_size in
    let p : List ℕ = number_32 (pos 0) in
    let z : List ℕ = number_64 b.body_size in
    omega (
      arith,
      length-append (number_64 b.offset) (m ++ (p ++ z)),
      length-append m (p ++ z),
      length-append p z,
      length_64 b.offset,
      length_32 b.metadata_size,
      length_32 (pos 0),
      length_64 b.body_size,
    )

pub length-blocks_bytes : (bs : List Block) → length (blocks_bytes bs) ≡ 24 * length bs
length-blocks_bytes [] = refl
length-blocks_bytes (b ∷ bs) = omega (arith, length-append (block_bytes b) (blocks_bytes bs), length-block_bytes b, length-blocks_bytes bs)

part_back : (bs : List Block) (i : ℕ) (d : Block) → i < length bs → take 24 (drop (i * 24) (blocks_bytes bs)) ≡ block_bytes (get_or bs i d)
part_back [] i d h = absurd (omega arith)
part_back (b ∷ bs) zero d h = take_at (block_bytes b) (blocks_bytes bs) 24 (length-block_bytes b)
part_back (b ∷ bs) (suc i) d h =
    let next : suc i * 24 ≡ 24 + i * 24 = omega arith in
    let further : drop (suc i * 24) (block_bytes b ++ blocks_bytes bs) ≡ drop (i * 24) (blocks_bytes bs) =
    ap (λ n. drop n (block_bytes b ++ blocks_bytes bs)) next
    ∙ sym (drop-drop (i * 24) 24 (block_bytes b ++ blocks_bytes bs))
    ∙ ap (drop (i * 24)) (drop_at (block_bytes b) (blocks_bytes bs) 24 (length-block_bytes b)) in
    ap (take 24) further ∙ part_back bs i d (omega arith)

-- a vector of them
pub blocks_back : (bs : List Block) (bytes : List ℕ) (place : ℕ) (v : IsParts 24 (blocks_bytes bs) bytes place) → AllFit bs
    → blocks_in (vector_from 24 v.count bytes place) ≡ bs
blocks_back bs bytes place v fits =
    let count : length bs ≡ v.count = omega (arith, v.whole, length-blocks_bytes bs) in
    sym (fill_by_all (block_at (vector_from 24 v.count bytes place)) bs v.count no_block count (λ k h.
    let here : element_part (vector_from 24 v.count bytes place) k ≡ Some (block_bytes (get_or bs k no_block)) =
    v.each k h ∙ ap Some (part_back bs k no_block (omega (arith, count, h))) in
    sym (ap (λ found. block_in (unwrap_or found [])) here ∙ block_back (get_or bs k no_block) (fits k (omega (arith, count, h))))))
