-- Elements and digits, as loops print them.
use Rattle.std.proofs.Common.{◌≡◌, ℕ, suc, ◌/◌, ◌%◌, ◌<◌, ◌≤◌, List, [], ◌∷◌, ◌++◌, length, take, drop, map, refl, sym, ap, arith, append_assoc, append-nil, length-drop}
use Rattle.std.specs.Prelude.{slice_index}
use Rattle.std.specs.List.{flat_map, join_with_byte}
use Rattle.byteorder.specs.Endian.{little_number}
use Rattle.hex.specs.Hex.{encode_with, encode_lower, lower_digits}
use Rattle.otap_cells.specs.declared.profile.Base.{Base}
use Rattle.otap_gateway.specs.Rows.{bits_text, elements, elements_text}
use Rattle.otap_gateway.specs.RowsInside.{after_commas}

-- the first element of a list, and those after it
pub elements_more : (part first rest : List ℕ) → 8 ≤ length part → first ≡ take 8 part → rest ≡ drop 8 part → elements part ≡ little_number 8 first ∷ elements rest
elements_more part first rest many front back =
    let count : length part / 8 ≡ suc (length (drop 8 part) / 8) = omega (arith, length-drop 8 part) in
    rw (front, back, count) refl

pub elements_none : (part : List ℕ) → length part < 8 → elements part ≡ []
elements_none part few = let count : length part / 8 ≡ 0 = omega arith in rw count refl

-- elements with commas between them: the first one, and the others after commas
joined : (f : ℕ → List ℕ) (n : ℕ) (ns : List ℕ) → join_with_byte 44 (map f (n ∷ ns)) ≡ f n ++ flat_map (λ n. 44 ∷ f n) ns
joined f n [] = sym (append-nil (f n))
joined f n (m ∷ ns) = ap (λ text. f n ++ (44 ∷ text)) (joined f m ns)

-- the digits of bytes that come after others
pub digits_join : (xs ys : List ℕ) → encode_lower (xs ++ ys) ≡ encode_lower xs ++ encode_lower ys
unfolding encode_with
digits_join [] ys = refl
digits_join (x ∷ xs) ys = ap (λ text. slice_index lower_digits (x / 16) ∷ slice_index lower_digits (x % 16) ∷ text) (digits_join xs ys)

-- digits of the bytes in front, and then of the rest
pub digits_go_on : (before after whole part first rest : List ℕ) → part ≡ first ++ rest → before ++ encode_lower part ≡ whole
    → after ≡ before ++ encode_lower first → after ++ encode_lower rest ≡ whole
digits_go_on before after whole part first rest is so_far shown =
    rw (shown, append_assoc, ← digits_join first rest, ← is) so_far

-- an element after a comma, and then the rest
pub commas_go_on : (holds : Base) (before after whole part first rest : List ℕ) → 8 ≤ length part → first ≡ take 8 part → rest ≡ drop 8 part
    → before ++ after_commas holds (elements part) ≡ whole → after ≡ (before ++ 44 ∷ []) ++ bits_text holds (little_number 8 first)
    → after ++ after_commas holds (elements rest) ≡ whole
commas_go_on holds before after whole part first rest many front back so_far shown =
    rw shown (rw (
      append_assoc (before ++ 44 ∷ []) (bits_text holds (little_number 8 first)) (after_commas holds (elements rest)),
      append_assoc before (44 ∷ []) (bits_text holds (little_number 8 first) ++ after_commas holds (elements rest)),
    )
    (rw (elements_more part first rest many front back) at so_far))

pub elements_split : (holds : Base) (before between after part first rest : List ℕ) → 8 ≤ length part → first ≡ take 8 part → rest ≡ drop 8 part
    → between ≡ before ++ bits_text holds (little_number 8 first) → after ≡ between ++ after_commas holds (elements rest)
    → after ≡ before ++ elements_text holds (elements part)
elements_split holds before between after part first rest many front back one others =
    rw (others, one, elements_more part first rest many front back, joined (bits_text holds) (little_number 8 first) (elements rest))
    (append_assoc before (bits_text holds (little_number 8 first)) (after_commas holds (elements rest)))

pub elements_empty : (holds : Base) (before part : List ℕ) → length part < 8 → before ≡ before ++ elements_text holds (elements part)
elements_empty holds before part few = rw (elements_none part few) (sym (append-nil before))
