-- Structs of two numbers that were written are read back.
use Rattle.std.proofs.Common.{◌≡◌, ℕ, ◌+◌, ◌*◌, ◌<◌, ◌^◌, suc, zero, List, [], ◌∷◌, ◌++◌, length, take, drop, drop-drop, get_or, Some, unwrap_or, refl, sym, ap, ◌∙◌, length-append, arith}
use Rattle.std.specs.Prelude.{ℤ, pos, FitsSigned}
use Rattle.std.specs.Int.{w64, cast_signed, cast_unsigned}
use Rattle.std.proofs.lemmas.Int.{to_z-of_z, ints}
use Rattle.std.proofs.lemmas.List.{take_at, drop_at, append-nil}
use Rattle.std.proofs.lemmas.List.FromFn.{fill_by_all}
use Rattle.byteorder.specs.Endian.{little_number}
use Rattle.byteorder.specs.Numbers.{length-bytes_low_first, little_number-reads_back}
use Rattle.flat_tables.specs.Tables.{element_part}
use Rattle.flat_tables.specs.Building.{vector_from, IsParts}
use Rattle.arrow_ipc.specs.Batches.{struct_of, struct_at, structs_in}
use Rattle.arrow_ipc.specs.Laying.{FitsPair, AllFit, number_bytes, pair_bytes, pairs_bytes}

signed_back : (z : ℤ) (rest : List ℕ) → FitsSigned w64 z → cast_signed w64 (little_number 8 (number_bytes z ++ rest)) ≡ z
unfolding number_bytes
signed_back z rest fits =
    let small : cast_unsigned w64 z < 256 ^ 8 = omega (arith, ints) in
    ap (cast_signed w64) (little_number-reads_back 8 (cast_unsigned w64 z) rest small) ∙ to_z-of_z w64 z fits

length-number_bytes : (z : ℤ) → length (number_bytes z) ≡ 8
unfolding number_bytes
length-number_bytes z = length-bytes_low_first 0 8 (cast_unsigned w64 z)

pair_back : (p : ℤ × ℤ) → FitsPair p → struct_of (pair_bytes p) ≡ p
pair_back p fits =
    let second : drop 8 (pair_bytes p) ≡ number_bytes p.1 ++ [] =
    drop_at (number_bytes p.0) (number_bytes p.1) 8 (length-number_bytes p.0) ∙ sym (append-nil (number_bytes p.1)) in
    let e0 : cast_signed w64 (little_number 8 (pair_bytes p)) ≡ p.0 = signed_back p.0 (number_bytes p.1) fits.0 in
    let e1 : cast_signed w64 (little_number 8 (drop 8 (pair_bytes p))) ≡ p.1 =
    ap (λ part. cast_signed w64 (little_number 8 part)) second ∙ signed_back p.1 [] fits.1 in
    λ i. (e0 i, e1 i)

length-pair_bytes : (p : ℤ × ℤ) → length (pair_bytes p) ≡ 16
length-pair_bytes p = omega (arith, length-append (number_bytes p.0) (number_bytes p.1), length-number_bytes p.0, length-number_bytes p.1)

pub length-pairs_bytes : (ps : List (ℤ × ℤ)) → length (pairs_bytes ps) ≡ 16 * length ps
length-pairs_bytes [] = refl
length-pairs_bytes (p ∷ ps) = omega (arith, length-append (pair_bytes p) (pairs_bytes ps), length-pair_bytes p, length-pairs_bytes ps)

part_back : (ps : List (ℤ × ℤ)) (i : ℕ) (d : ℤ × ℤ) → i < length ps → take 16 (drop (i * 16) (pairs_bytes ps)) ≡ pair_bytes (get_or ps i d)
part_back [] i d h = absurd (omega arith)
part_back (p ∷ ps) zero d h = take_at (pair_bytes p) (pairs_bytes ps) 16 (length-pair_bytes p)
part_back (p ∷ ps) (suc i) d h =
    let next : suc i * 16 ≡ 16 + i * 16 = omega arith in
    let further : drop (suc i * 16) (pair_bytes p ++ pairs_bytes ps) ≡ drop (i * 16) (pairs_bytes ps) =
    ap (λ n. drop n (pair_bytes p ++ pairs_bytes ps)) next
    ∙ sym (drop-drop (i * 16) 16 (pair_bytes p ++ pairs_bytes ps))
    ∙ ap (drop (i * 16)) (drop_at (pair_bytes p) (pairs_bytes ps) 16 (length-pair_bytes p)) in
    ap (take 16) further ∙ part_back ps i d (omega arith)

-- a vector of them
pub pairs_back : (ps : List (ℤ × ℤ)) (bytes : List ℕ) (place : ℕ) (v : IsParts 16 (pairs_bytes ps) bytes place) → AllFit ps
    → structs_in (vector_from 16 v.count bytes place) ≡ ps
pairs_back ps bytes place v fits =
    let count : length ps ≡ v.count = omega (arith, v.whole, length-pairs_bytes ps) in
    let d : ℤ × ℤ = (pos 0, pos 0) in
    sym (fill_by_all (struct_at (vector_from 16 v.count bytes place)) ps v.count d count (λ k h.
    let here : element_part (vector_from 16 v.count bytes place) k ≡ Some (pair_bytes (get_or ps k d)) =
    v.each k h ∙ ap Some (part_back ps k d (omega (arith, count, h))) in
    sym (ap (λ found. struct_of (unwrap_or found [])) here ∙ pair_back (get_or ps k d) (fits k (omega (arith, count, h))))))
