-- The structs of a vector, one by one.
use Rattle.std.proofs.Common.{◌≡◌, ℕ, ◌+◌, ◌<◌, ◌≤◌, Bool, true, false, ltb, List, take, take_all, Some, None, refl, sym, ap, ◌∙◌, inl, inr, zero-add, arith}
use Rattle.std.specs.Prelude.{slice_get, ℤ, pos, negsuc, unsigned_abs}
use Rattle.std.specs.List.{range_with_len, list_all}
use Rattle.std.specs.Option.{option_map}
use Rattle.std.proofs.lemmas.Bool.{cases_Bool, ltb-true, ltb-false, leb-true, true_from_ne_false, true≢false}
use Rattle.std.proofs.lemmas.Option.{slice_get-map, slice_get-get_or, slice_get_past, slice_get_within, get_or_from_slice_get}
use Rattle.std.proofs.lemmas.List.FromFn.{length-range_with_len, length-map-range_with_len, get_or-range_with_len}
use Rattle.std.proofs.lemmas.List.Folds.{list_all_at, list_all_more}
use Rattle.flat_tables.specs.Tables.{VectorIn, element_place, element_part}
use Rattle.arrow_ipc.specs.Batches.{struct_of, struct_at, structs_in, lies_in, lies_from}

range_get : (n i : ℕ) → i < n → slice_get (range_with_len 0 n) i ≡ Some i
range_get n i h =
    slice_get-get_or (range_with_len 0 n) i 0 (omega (arith, length-range_with_len 0 n)) ∙ ap Some (get_or-range_with_len 0 n i 0 h ∙ zero-add i)

range_past : (n i : ℕ) → ltb i n ≡ false → slice_get (range_with_len 0 n) i ≡ None
range_past n i h = slice_get_past (range_with_len 0 n) i (omega (arith, length-range_with_len 0 n, ltb-false i n h))

pub slice_get_pairs : (v : VectorIn) (i : ℕ) → slice_get (structs_in v) i ≡ option_map struct_of (element_part v i)
unfolding element_part element_place
slice_get_pairs v i =
    slice_get-map (struct_at v) (range_with_len 0 v.count) i
    ∙ elim (cases_Bool (ltb i v.count)) [
      | inl e ↦ rw (range_get v.count i (ltb-true i v.count e), e) refl
      | inr e ↦ rw (range_past v.count i e, e) refl
    ]

pub slice_get-pairs_in : (v : VectorIn) (i : ℕ) → i < v.count → slice_get (structs_in v) i ≡ Some (struct_at v i)
slice_get-pairs_in v i h = slice_get-map (struct_at v) (range_with_len 0 v.count) i ∙ ap (option_map (struct_at v)) (range_get v.count i h)

-- a test of all structs, one after the other
pub one_bad : (p : ℤ × ℤ → Bool) (v : VectorIn) (i : ℕ) (x : ℤ × ℤ) → slice_get (structs_in v) i ≡ Some x → p x ≡ false → list_all p (structs_in v) ≡ false
one_bad p v i x here bad =
    list_all_at p (structs_in v) i x (slice_get_within (structs_in v) i x here) (ap p (get_or_from_slice_get (structs_in v) i x x here) ∙ bad)

pub one_more : (p : ℤ × ℤ → Bool) (v : VectorIn) (i : ℕ) (x : ℤ × ℤ) → list_all p (take i (structs_in v)) ≡ true → slice_get (structs_in v) i ≡ Some x → p x ≡ true
    → list_all p (take (i + 1) (structs_in v)) ≡ true
one_more p v i x so_far here good =
    rw (list_all_more p (structs_in v) i x (slice_get_within (structs_in v) i x here), so_far, get_or_from_slice_get (structs_in v) i x x here, good) refl

pub all_good : (p : ℤ × ℤ → Bool) (v : VectorIn) (i : ℕ) → v.count ≤ i → list_all p (take i (structs_in v)) ≡ true → list_all p (structs_in v) ≡ true
all_good p v i end so_far = ap (list_all p) (sym (take_all i (structs_in v) (omega (arith, length-map-range_with_len (struct_at v) 0 v.count)))) ∙ so_far

pub each_good : (p : ℤ × ℤ → Bool) (xs : List (ℤ × ℤ)) (i : ℕ) (x : ℤ × ℤ) → list_all p xs ≡ true → slice_get xs i ≡ Some x → p x ≡ true
each_good p xs i x all here = true_from_ne_false (p x) (λ bad. true≢false (sym all
    ∙ list_all_at p xs i x (slice_get_within xs i x here) (ap p (get_or_from_slice_get xs i x x here) ∙ bad)))

-- a buffer that lies in the body ends in it
pub lies_within : (size : ℕ) (place : ℤ × ℤ) → lies_in size place ≡ true → unsigned_abs place.0 + unsigned_abs place.1 ≤ size
lies_within size place h = go place.0 place.1 h
  where
    go : (offset length : ℤ) → lies_from size offset length ≡ true → unsigned_abs offset + unsigned_abs length ≤ size
    go (pos a) (pos b) h = leb-true (a + b) size h
    go (pos a) (negsuc b) h = absurd (true≢false (sym h))
    go (negsuc a) b h = absurd (true≢false (sym h))
