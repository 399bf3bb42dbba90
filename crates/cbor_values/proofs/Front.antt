-- What is at the front is read again: heads, strings.
use Rattle.std.proofs.Common.{◌≡◌, ℕ, ◌+◌, ◌*◌, ◌/◌, ◌%◌, ◌^◌, ◌<◌, ◌≤◌, List, [], ◌∷◌, ◌++◌, length, Some, None, Ok, Err, refl, sym, ap, ◌∙◌, arith}
use Rattle.std.proofs.lemmas.Bool.{ne_eqb, lt-ltb, le-ltb}
use Rattle.std.proofs.lemmas.List.{append-nil, length-append, take_at, drop_at}
use Rattle.byteorder.specs.Endian.{big_bytes, big_number}
use Rattle.byteorder.specs.Numbers.{big_number-reads_back, length-bytes_high_first}
use Rattle.cbor_values.specs.declared.refusal.CborRefusal.TheVariants.{Cut, BadHead}
use Rattle.cbor_values.specs.declared.heads.Head.{Head}
use Rattle.cbor_values.specs.declared.heads.Head.TheVariants as heads
use Rattle.cbor_values.specs.Heads.{IsHead, short, long, argument_len}
use Rattle.lists.specs.Results.{◌>>=◌}
use Rattle.cbor_values.specs.Reading.{front_part, argument_at, head_by, float_at, head_at}

-- exactly that number of bytes is there
pub part_again : (part rest : List ℕ) (n : ℕ) → length part ≡ n → front_part n (part ++ rest) ≡ Ok (part, rest)
part_again part rest n len =
    rw (le-ltb (length (part ++ rest)) n (omega (arith, length-append part rest)), take_at part rest n len, drop_at part rest n len) refl

number_again : (width n : ℕ) → n < 256 ^ width → big_number width (big_bytes width n) ≡ n
number_again width n fits =
    ap (big_number width) (sym (append-nil (big_bytes width n))) ∙ big_number-reads_back width n [] fits

-- a first byte of a major type below 7, whose argument is read
head_by_argument : (first : ℕ) (rest : List ℕ) → first < 224
    → head_at (first ∷ rest) ≡ (argument_at (first % 32) rest >>= λ argument. head_by (first / 32) argument.0 >>= λ head. Ok (head, argument.1))
unfolding head_at
head_by_argument first rest small =
    rw (
      ne_eqb first 244 (λ e. omega arith),
      ne_eqb first 245 (λ e. omega arith),
      ne_eqb first 246 (λ e. omega arith),
      ne_eqb first 249 (λ e. omega arith),
      ne_eqb first 250
          (λ e. omega arith),
      ne_eqb first 251 (λ e. omega arith),
    ) refl

argument_short : (n : ℕ) (rest : List ℕ) → n < 24 → argument_at n rest ≡ Ok (Some n, rest)
unfolding argument_at
argument_short n rest small = rw (lt-ltb n 24 small) refl

argument_long : (info n : ℕ) (rest : List ℕ) → 24 ≤ info → info < 28 → n < 256 ^ argument_len info
    → argument_at info (big_bytes (argument_len info) n ++ rest) ≡ Ok (Some n, rest)
unfolding argument_at
argument_long info n rest low high fits =
    rw (le-ltb info 24 low, lt-ltb info 28 high, part_again (big_bytes (argument_len info) n) rest (argument_len info) (length-bytes_high_first (argument_len info) n), number_again (argument_len info) n fits) refl

-- a head of a major type below 6
pub head_again : (major n : ℕ) (head : List ℕ) (kind : Head) → IsHead major n head → major < 6
    → head_by major (Some n) ≡ Ok kind → (rest : List ℕ) → head_at (head ++ rest) ≡ Ok (kind, rest)
head_again major n _ kind (short small) low known rest =
    let info : (32 * major + n) % 32 ≡ n = omega arith in
    let upper : (32 * major + n) / 32 ≡ major = omega arith in
    head_by_argument (32 * major + n) rest (omega arith) ∙ rw (info, upper, argument_short n rest small, known) refl
head_again major n _ kind (long info least most fits) low known rest =
    let lower : (32 * major + info) % 32 ≡ info = omega arith in
    let upper : (32 * major + info) / 32 ≡ major = omega arith in
    head_by_argument (32 * major + info) (big_bytes (argument_len info) n ++ rest) (omega arith)
    ∙ rw (lower, upper, argument_long info n rest least most fits, known) refl

-- the head of a string, an array or a map of indefinite length
pub open_head : (major : ℕ) (kind : Head) → major < 6 → head_by major None ≡ Ok kind
    → (rest : List ℕ) → head_at ((32 * major + 31) ∷ rest) ≡ Ok (kind, rest)
unfolding argument_at
open_head major kind low known rest =
    let lower : (32 * major + 31) % 32 ≡ 31 = omega arith in
    let upper : (32 * major + 31) / 32 ≡ major = omega arith in
    head_by_argument (32 * major + 31) rest (omega arith) ∙ rw (lower, upper, known) refl

-- a float of that width
pub float_again : (widen : ℕ → ℕ) (width bits : ℕ) (rest : List ℕ) → bits < 256 ^ width
    → float_at widen width (big_bytes width bits ++ rest) ≡ Ok (heads.Double (widen bits), rest)
float_again widen width bits rest fits =
    rw (part_again (big_bytes width bits) rest width (length-bytes_high_first width bits), number_again width bits fits) refl

-- a break is no head
pub head_of_break : (rest : List ℕ) → head_at (255 ∷ rest) ≡ Err BadHead
unfolding head_at argument_at head_by
head_of_break rest = refl

pub head_of_nothing : head_at [] ≡ Err Cut
unfolding head_at
head_of_nothing = refl
