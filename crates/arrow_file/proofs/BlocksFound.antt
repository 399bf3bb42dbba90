-- The blocks of a vector, one by one.
use Rattle.std.proofs.Common.{◌≡◌, ℕ, ◌<◌, ltb, false, Some, None, refl, ap, ◌∙◌, inl, inr, zero-add, length, arith}
use Rattle.std.specs.Prelude.{slice_get}
use Rattle.std.specs.List.{range_with_len}
use Rattle.std.specs.Option.{option_map}
use Rattle.std.proofs.lemmas.Bool.{cases_Bool, ltb-true, ltb-false}
use Rattle.std.proofs.lemmas.Option.{slice_get-map, slice_get-get_or, slice_get_past}
use Rattle.std.proofs.lemmas.List.FromFn.{length-range_with_len, length-map-range_with_len, get_or-range_with_len}
use Rattle.flat_tables.specs.Tables.{VectorIn, element_place, element_part}
use Rattle.arrow_file.specs.Blocks.{block_in, block_at, blocks_in}

range_get : (n i : ℕ) → i < n → slice_get (range_with_len 0 n) i ≡ Some i
range_get n i h =
    slice_get-get_or (range_with_len 0 n) i 0 (omega (arith, length-range_with_len 0 n)) ∙ ap Some (get_or-range_with_len 0 n i 0 h ∙ zero-add i)

range_past : (n i : ℕ) → ltb i n ≡ false → slice_get (range_with_len 0 n) i ≡ None
range_past n i h = slice_get_past (range_with_len 0 n) i (omega (arith, length-range_with_len 0 n, ltb-false i n h))

pub slice_get_blocks : (v : VectorIn) (i : ℕ) → slice_get (blocks_in v) i ≡ option_map block_in (element_part v i)
unfolding element_part element_place
slice_get_blocks v i =
    slice_get-map (block_at v) (range_with_len 0 v.count) i
    ∙ elim (cases_Bool (ltb i v.count)) [
      | inl e ↦ rw (range_get v.count i (ltb-true i v.count e), e) refl
      | inr e ↦ rw (range_past v.count i e, e) refl
    ]

pub slice_get-blocks_in : (v : VectorIn) (i : ℕ) → i < v.count → slice_get (blocks_in v) i ≡ Some (block_at v i)
slice_get-blocks_in v i h = slice_get-map (block_at v) (range_with_len 0 v.count) i ∙ ap (option_map (block_at v)) (range_get v.count i h)

pub length-blocks_in : (v : VectorIn) → length (blocks_in v) ≡ v.count
length-blocks_in v = length-map-range_with_len (block_at v) 0 v.count
