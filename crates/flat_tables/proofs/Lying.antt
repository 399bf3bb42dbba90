-- A part that lies at an offset of the bytes, and what is read there.
use Rattle.std.proofs.Common.{◌≡◌, ℕ, zero, suc, get_or, subst, length-drop, ◌+◌, ◌*◌, ◌<◌, ◌≤◌, ◌^◌, List, [], ◌∷◌, ◌++◌, length, take, drop, Ok, refl, sym, ap, ◌∙◌, append_assoc, length-append, arith}
use Rattle.std.proofs.lemmas.Bool.{le-ltb}
use Rattle.std.proofs.lemmas.List.{take_at, drop_at, append-nil, drop-drop, drop-append-le, take-append-le}
use Rattle.byteorder.specs.Endian.{little_bytes, little_number}
use Rattle.byteorder.specs.Numbers.{length-bytes_low_first, little_number-reads_back}
use Rattle.flat_tables.specs.Bytes.{part_at, number_at}
use Rattle.flat_tables.specs.Layout.{bytes_of_numbers}

pub record Lies (part bytes : List ℕ) (place : ℕ) : Type 0 where
  pub before : List ℕ
  pub rest : List ℕ
  pub whole : bytes ≡ before ++ (part ++ rest)
  pub here : length before ≡ place

-- the first and the second of two parts
pub lies_left : (a b bytes : List ℕ) (place : ℕ) → Lies (a ++ b) bytes place → Lies a bytes place
lies_left a b bytes place l = record {
  before = l.before;
  rest = b ++ l.rest;
  whole = l.whole ∙ ap (λ (end : List ℕ). l.before ++ end) (append_assoc a b l.rest);
  here = l.here;
}

pub lies_right : (a b bytes : List ℕ) (place : ℕ) → Lies (a ++ b) bytes place → Lies b bytes (place + length a)
lies_right a b bytes place l = record {
  before = l.before ++ a;
  rest = l.rest;
  whole = l.whole ∙ ap (λ (end : List ℕ). l.before ++ end) (append_assoc a b l.rest) ∙ sym (append_assoc l.before a (b ++ l.rest));
  here = omega (arith, length-append l.before a, l.here);
}

lies_drop : (part bytes : List ℕ) (place : ℕ) (l : Lies part bytes place) → drop place bytes ≡ part ++ l.rest
lies_drop part bytes place l = ap (drop place) l.whole ∙ drop_at l.before (part ++ l.rest) place l.here

lies_within : (part bytes : List ℕ) (place : ℕ) → Lies part bytes place → place + length part ≤ length bytes
lies_within part bytes place l =
    omega (arith, ap length l.whole, length-append l.before (part ++ l.rest), length-append part l.rest, l.here)

-- the part is read at its offset
pub part_at-lies : (part bytes : List ℕ) (place : ℕ) → Lies part bytes place → part_at bytes place (length part) ≡ Ok part
unfolding part_at
part_at-lies part bytes place l =
    rw (le-ltb (length bytes) (place + length part) (lies_within part bytes place l), lies_drop part bytes place l, take_at part l.rest (length part) refl) refl

-- and so is a number that was written there
pub number_at-lies : (n x : ℕ) (bytes : List ℕ) (place : ℕ) → x < 256 ^ n → Lies (little_bytes n x) bytes place → number_at n bytes place ≡ Ok x
unfolding number_at
number_at-lies n x bytes place fits l =
    let size : length (little_bytes n x) ≡ n = length-bytes_low_first 0 n x in
    let read : part_at bytes place n ≡ Ok (little_bytes n x) = ap (part_at bytes place) (sym size) ∙ part_at-lies (little_bytes n x) bytes place l in
    let back : little_number n (little_bytes n x) ≡ x = ap (little_number n) (sym (append-nil (little_bytes n x))) ∙ little_number-reads_back n x [] fits in
    rw (read, back) refl

pub little_number-lies : (n x : ℕ) (bytes : List ℕ) (place : ℕ) → x < 256 ^ n → Lies (little_bytes n x) bytes place → little_number n (drop place bytes) ≡ x
little_number-lies n x bytes place fits l =
    ap (little_number n) (lies_drop (little_bytes n x) bytes place l) ∙ little_number-reads_back n x l.rest fits

-- the same part at an equal offset
pub lies_at : (part bytes : List ℕ) (place place' : ℕ) → place ≡ place' → Lies part bytes place → Lies part bytes place'
lies_at part bytes place place' e l = subst (Lies part bytes) e l

-- what lies within a part
pub take-lies : (n i : ℕ) (part bytes : List ℕ) (place : ℕ) → i + n ≤ length part → Lies part bytes place → take n (drop (place + i) bytes) ≡ take n (drop i part)
take-lies n i part bytes place h l =
    let from_there : drop (place + i) bytes ≡ drop i part ++ l.rest =
    sym (drop-drop i place bytes) ∙ ap (drop i) (lies_drop part bytes place l) ∙ drop-append-le i part l.rest (omega arith) in
    ap (take n) from_there ∙ take-append-le n (drop i part) l.rest (omega (arith, length-drop i part))

-- each of the numbers of a list
pub numbers_lie : {A : Type 0} (width : ℕ) (number : ℕ → A → ℕ) (index : ℕ) (xs : List A) (bytes : List ℕ) (place k : ℕ) (d : A) → k < length xs
    → Lies (bytes_of_numbers width number index xs) bytes place → Lies (little_bytes width (number (index + k) (get_or xs k d))) bytes (place + width * k)
numbers_lie width number index [] bytes place k d lt l = absurd (omega arith)
numbers_lie {A = A} width number index (x ∷ xs) bytes place zero d lt l =
    let i : index ≡ index + 0 = omega arith in
    let p : place ≡ place + width * 0 = omega arith in
    lies_at (little_bytes width (number (index + 0) x)) bytes place (place + width * 0) p
    (subst (λ (n : ℕ). Lies (little_bytes width (number n x)) bytes place) i (lies_left (little_bytes width (number index x)) (bytes_of_numbers width number (index + 1) xs) bytes place l))
numbers_lie {A = A} width number index (x ∷ xs) bytes place (suc k) d lt l =
    let first : length (little_bytes width (number index x)) ≡ width = length-bytes_low_first 0 width (number index x) in
    let rest = lies_right (little_bytes width (number index x)) (bytes_of_numbers width number (index + 1) xs) bytes place l in
    let i : index + 1 + k ≡ index + suc k = omega arith in
    let p : place + length (little_bytes width (number index x)) + width * k ≡ place + width * suc k = omega (arith, first) in
    lies_at (little_bytes width (number (index + suc k) (get_or xs k d))) bytes _ (place + width * suc k) p
    (subst (λ (n : ℕ). Lies (little_bytes width (number n (get_or xs k d))) bytes (place + length (little_bytes width (number index x)) + width * k)) i
    (numbers_lie width number (index + 1) xs bytes (place + length (little_bytes width (number index x))) k d (omega arith) rest))

pub length-numbers : {A : Type 0} (width : ℕ) (number : ℕ → A → ℕ) (index : ℕ) (xs : List A) → length (bytes_of_numbers width number index xs) ≡ width * length xs
length-numbers width number index [] = omega arith
length-numbers width number index (x ∷ xs) =
    omega (arith, length-append (little_bytes width (number index x)) (bytes_of_numbers width number (index + 1) xs), length-bytes_low_first 0 width (number index x), length-numbers width number (index + 1) xs)
