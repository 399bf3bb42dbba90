-- What is read is what the bytes that it took encode.
use Rattle.std.proofs.Common.{◌≡◌, ℕ, zero, suc, ◌+◌, ◌*◌, ◌/◌, ◌%◌, ◌^◌, ◌<◌, ◌≤◌, true, false, cond, eqb, ltb, List, [], ◌∷◌}
use Rattle.std.proofs.Common.{◌++◌, length, take, drop, Option, Some, None, Ok, Err, refl, sym, ap, subst, ◌∙◌, append_assoc, arith, inl, inr}
use Rattle.std.specs.Str.{IsUtf8, is_utf8}
use Rattle.std.proofs.lemmas.Bool.{ltb-false, ltb-true, eqb-true, cases_Bool}
use Rattle.std.proofs.lemmas.List.{take-append-drop, length-take}
use Rattle.std.proofs.lemmas.Str.{IsUtf8-from_is_utf8}
use Rattle.byteorder.specs.Endian.{big_bytes, big_number}
use Rattle.lists.proofs.AllBytes.{IsBytes, IsBytes-drop, IsBytes-take, IsBytes-tail}
use Rattle.otlp_model.specs.declared.value.Value.{Value}
use Rattle.otlp_model.specs.declared.value.Pair.{Pair}
use Rattle.cbor_values.specs.declared.refusal.CborRefusal.TheVariants.{BadUtf8}
use Rattle.cbor_values.specs.declared.heads.Head.{Head}
use Rattle.cbor_values.specs.declared.heads.Head.TheVariants as heads
use Rattle.cbor_values.specs.Floats.{of_half, of_single}
use Rattle.cbor_values.specs.Heads.{IsHead, short, long, argument_len}
use Rattle.cbor_values.specs.Strings.{IsAny, Chunks, no_chunk, one_chunk, IsString, whole, chunked}
use Rattle.lists.specs.Results.{◌>>=◌}
use Rattle.cbor_values.specs.Reading.{ValueReading, front_part, argument_at, head_of_argument, head_by, float_at, head_at, break_at, many_at, until_at, open_at}
use Rattle.cbor_values.specs.Reading.{joined, letters_at, octets_of_head, letters_of_head, octets_chunk_at, text_chunk_at, octets_at, text_at, key_of_head, key_at, pair_at, item_at}
use Rattle.cbor_values.proofs.Steps.{bind_ok, ok_is, got, got_is}
use Rattle.cbor_values.proofs.Bytes.{number_back, number_fits}
use Rattle.cbor_values.proofs.Rows.{Row, no_more, one_more}
use Rattle.cbor_values.proofs.Again.{IsChunk, Shallow, ShallowPair}

-- the front of the bytes that was taken, in its relation to what it gave, and the bytes after it
pub record Taken {X : Type 0} (R : List ℕ → X → Type 0) (bytes : List ℕ) (x : X) (rest : List ℕ) : Type 0 where
  pub front : List ℕ
  pub is : R front x
  pub parts : bytes ≡ front ++ rest
  pub fits : IsBytes rest

-- ---- heads

-- exactly n bytes
pub record IsPart (n : ℕ) (front part : List ℕ) : Type 0 where
  pub same : front ≡ part
  pub size : length part ≡ n
  pub bytes : IsBytes part

pub part_takes : (n : ℕ) (bytes part rest : List ℕ) → IsBytes bytes → front_part n bytes ≡ Ok (part, rest)
    → Taken (IsPart n) bytes part rest
part_takes n bytes part rest fits e = elim (cases_Bool (ltb (length bytes) n)) [
  | inl few ↦ absurd (let clash = rw few at e in cc)
  | inr enough ↦
      let read = rw enough at e in
      let long = ltb-false (length bytes) n enough in
      let here : Taken (IsPart n) bytes (take n bytes) (drop n bytes) = record {
        front = take n bytes;
        is = record { same = refl; size = omega (arith, length-take n bytes); bytes = IsBytes-take n bytes fits };
        parts = sym (take-append-drop n bytes);
        fits = IsBytes-drop n bytes fits;
      } in
      got_is (Taken (IsPart n) bytes) (take n bytes) (drop n bytes) part rest read here
]

-- the argument that additional information gives, in the bytes that follow
pub data IsArgument (info : ℕ) : List ℕ → Option ℕ → Type 0 where
  direct : info < 24 → IsArgument info [] (Some info)
  following : (n : ℕ) → 24 ≤ info → info < 28 → n < 256 ^ argument_len info
      → IsArgument info (big_bytes (argument_len info) n) (Some n)
  none : info ≡ 31 → IsArgument info [] None

pub number_of_part : (width : ℕ) (part : List ℕ) → length part ≡ width → IsBytes part
    → (big_bytes width (big_number width part) ≡ part) × (big_number width part < 256 ^ width)
number_of_part width part size bytes =
    subst (λ (w : ℕ). (big_bytes w (big_number w part) ≡ part) × (big_number w part < 256 ^ w)) size (number_back part bytes, number_fits part bytes)

pub argument_takes : (info : ℕ) (bytes : List ℕ) (argument : Option ℕ) (rest : List ℕ) → IsBytes bytes
    → argument_at info bytes ≡ Ok (argument, rest) → Taken (IsArgument info) bytes argument rest
unfolding argument_at
argument_takes info bytes argument rest fits e = elim (cases_Bool (ltb info 24)) [
  | inl small ↦
      let read = rw small at e in
      got_is (Taken (IsArgument info) bytes) (Some info) bytes argument rest read
      (record { front = []; is = direct (ltb-true info 24 small); parts = refl; fits = fits })
  | inr large ↦ elim (cases_Bool (ltb info 28)) [
    | inl wide ↦
        let read = rw (large, wide) at e in
        let b = bind_ok (front_part (argument_len info) bytes) (λ part. Ok (Some (big_number (argument_len info) part.0), part.1)) (argument, rest) read in
        let t = part_takes (argument_len info) bytes b.0.0 b.0.1 fits b.1 in
        let n = big_number (argument_len info) b.0.0 in
        let spelled = number_of_part (argument_len info) b.0.0 t.is.size t.is.bytes in
        let same : t.front ≡ big_bytes (argument_len info) n = t.is.same ∙ sym spelled.0 in
        got_is (Taken (IsArgument info) bytes) (Some n) b.0.1 argument rest b.2
        (record {
          front = big_bytes (argument_len info) n;
          is = following n (ltb-false info 24 large) (ltb-true info 28 wide) spelled.1;
          parts = subst (λ (f : List ℕ). bytes ≡ f ++ b.0.1) same t.parts;
          fits = t.fits;
        })
    | inr other ↦ elim (cases_Bool (eqb info 31)) [
      | inl open_ended ↦
          let read = rw (large, other, open_ended) at e in
          got_is (Taken (IsArgument info) bytes) None bytes argument rest read
          (record { front = []; is = none (eqb-true info 31 open_ended); parts = refl; fits = fits })
      | inr reserved ↦ absurd (let clash = rw (large, other, reserved) at e in cc)
    ]
  ]
]

-- the bytes of a float
pub data IsDouble : List ℕ → ℕ → Type 0 where
  half : (bits : ℕ) → bits < 2 ^ 16 → IsDouble (249 ∷ big_bytes 2 bits) (of_half bits)
  single : (bits : ℕ) → bits < 2 ^ 32 → IsDouble (250 ∷ big_bytes 4 bits) (of_single bits)
  double : (bits : ℕ) → bits < 2 ^ 64 → IsDouble (251 ∷ big_bytes 8 bits) bits

-- the bytes of a head
abbrev pub IsSized : ℕ → List ℕ → Option ℕ → Type 0
IsSized major front (Some n) = IsHead major n front
IsSized major front None = front ≡ (32 * major + 31) ∷ []

abbrev pub IsFront : List ℕ → Head → Type 0
IsFront front (heads.Whole n) = IsHead 0 n front
IsFront front (heads.Negative n) = IsHead 1 n front
IsFront front (heads.Bytes size) = IsSized 2 front size
IsFront front (heads.Text size) = IsSized 3 front size
IsFront front (heads.Array size) = IsSized 4 front size
IsFront front (heads.Map size) = IsSized 5 front size
IsFront front (heads.Bool flag) = front ≡ (cond flag 245 244) ∷ []
IsFront front heads.Null = front ≡ 246 ∷ []
IsFront front (heads.Double wide) = IsDouble front wide

sized_by : (first : ℕ) (part : List ℕ) (argument : Option ℕ) → IsArgument (first % 32) part argument
    → IsSized (first / 32) (first ∷ part) argument
sized_by first _ _ (direct small) =
    let whole_byte : 32 * (first / 32) + first % 32 ≡ first = omega arith in
    subst (λ (f : ℕ). IsHead (first / 32) (first % 32) (f ∷ [])) whole_byte (short small)
sized_by first _ _ (following n low high fits) =
    let whole_byte : 32 * (first / 32) + first % 32 ≡ first = omega arith in
    subst (λ (f : ℕ). IsHead (first / 32) n (f ∷ big_bytes (argument_len (first % 32)) n)) whole_byte (long (first % 32) low high fits)
sized_by first _ _ (none open_ended) =
    let whole_byte : first ≡ 32 * (first / 32) + 31 = omega arith in
    ap (λ (f : ℕ). f ∷ []) whole_byte

number_takes : (make : ℕ → Head) (major first : ℕ) (part : List ℕ) (argument : Option ℕ) (kind : Head)
    → ((n : ℕ) → IsHead major n (first ∷ part) → IsFront (first ∷ part) (make n))
    → IsSized major (first ∷ part) argument → head_of_argument make argument ≡ Ok kind → IsFront (first ∷ part) kind
number_takes make major first part (Some n) kind front sized e =
    subst (λ (k : Head). IsFront (first ∷ part) k) (ok_is (make n) kind e) (front n sized)
number_takes make major first part None kind front sized e = absurd cc

kind_takes : (first : ℕ) (part : List ℕ) (argument : Option ℕ) (kind : Head) → IsArgument (first % 32) part argument
    → head_by (first / 32) argument ≡ Ok kind → IsFront (first ∷ part) kind
unfolding head_by
kind_takes first part argument kind is e =
    let sized : (major : ℕ) → first / 32 ≡ major → IsSized major (first ∷ part) argument = λ major same. subst (λ (m : ℕ). IsSized m (first ∷ part) argument) same (sized_by first part argument is) in
    elim (cases_Bool (eqb (first / 32) 0)) [
      | inl t0 ↦ number_takes heads.Whole 0 first part argument kind (λ n h. h) (sized 0 (eqb-true (first / 32) 0 t0)) (rw t0 at e)
      | inr f0 ↦ elim (cases_Bool (eqb (first / 32) 1)) [
        | inl t1 ↦ number_takes heads.Negative 1 first part argument kind (λ n h. h) (sized 1 (eqb-true (first / 32) 1 t1)) (rw (f0, t1) at e)
        | inr f1 ↦ elim (cases_Bool (eqb (first / 32) 2)) [
          | inl t2 ↦ subst (λ (k : Head). IsFront (first ∷ part) k) (ok_is (heads.Bytes argument) kind (rw (f0, f1, t2) at e)) (sized 2 (eqb-true (first / 32) 2 t2))
          | inr f2 ↦ elim (cases_Bool (eqb (first / 32) 3)) [
            | inl t3 ↦ subst (λ (k : Head). IsFront (first ∷ part) k) (ok_is (heads.Text argument) kind (rw (f0, f1, f2, t3) at e)) (sized 3 (eqb-true (first / 32) 3 t3))
            | inr f3 ↦ elim (cases_Bool (eqb (first / 32) 4)) [
              | inl t4 ↦ subst (λ (k : Head). IsFront (first ∷ part) k) (ok_is (heads.Array argument) kind (rw (f0, f1, f2, f3, t4) at e)) (sized 4 (eqb-true (first / 32) 4 t4))
              | inr f4 ↦ elim (cases_Bool (eqb (first / 32) 5)) [
                | inl t5 ↦ subst (λ (k : Head). IsFront (first ∷ part) k) (ok_is (heads.Map argument) kind (rw (f0, f1, f2, f3, f4, t5) at e)) (sized 5 (eqb-true (first / 32) 5 t5))
                | inr f5 ↦ absurd (let clash = rw (f0, f1, f2, f3, f4, f5) at e in cc)
              ]
            ]
          ]
        ]
      ]
    ]

float_takes : (widen : ℕ → ℕ) (width first : ℕ) (bytes : List ℕ) (kind : Head) (rest : List ℕ)
    → ((bits : ℕ) → bits < 256 ^ width → IsDouble (first ∷ big_bytes width bits) (widen bits))
    → IsBytes bytes → float_at widen width bytes ≡ Ok (kind, rest) → Taken IsFront (first ∷ bytes) kind rest
float_takes widen width first bytes kind rest is fits e =
    let b = bind_ok (front_part width bytes) (λ part. Ok (heads.Double (widen (big_number width part.0)), part.1)) (kind, rest) e in
    let t = part_takes width bytes b.0.0 b.0.1 fits b.1 in
    let n = big_number width b.0.0 in
    let spelled = number_of_part width b.0.0 t.is.size t.is.bytes in
    let same : t.front ≡ big_bytes width n = t.is.same ∙ sym spelled.0 in
    got_is (Taken IsFront (first ∷ bytes)) (heads.Double (widen n)) b.0.1 kind rest b.2
    (record {
      front = first ∷ big_bytes width n;
      is = is n spelled.1;
      parts = ap (λ (f : List ℕ). first ∷ f) (subst (λ (f : List ℕ). bytes ≡ f ++ b.0.1) same t.parts);
      fits = t.fits;
    })

-- a head that is its first byte
alone : (byte : ℕ) (made kind : Head) (first : ℕ) (bytes rest : List ℕ) → IsBytes bytes → first ≡ byte
    → IsFront (byte ∷ []) made → got made bytes ≡ got kind rest → Taken IsFront (first ∷ bytes) kind rest
alone byte made kind first bytes rest fits same is e =
    got_is (Taken IsFront (first ∷ bytes)) made bytes kind rest e
    (record { front = byte ∷ []; is = is; parts = ap (λ (f : ℕ). f ∷ bytes) same; fits = fits })

by_argument : (first : ℕ) (bytes : List ℕ) (kind : Head) (rest : List ℕ) → IsBytes bytes
    → (argument_at (first % 32) bytes >>= λ argument. head_by (first / 32) argument.0 >>= λ head. got head argument.1) ≡ got kind rest
    → Taken IsFront (first ∷ bytes) kind rest
by_argument first bytes kind rest fits e =
    let a = bind_ok (argument_at (first % 32) bytes) (λ argument. head_by (first / 32) argument.0 >>= λ head. Ok (head, argument.1)) (kind, rest) e in
    let k = bind_ok (head_by (first / 32) a.0.0) (λ head. Ok (head, a.0.1)) (kind, rest) a.2 in
    let t = argument_takes (first % 32) bytes a.0.0 a.0.1 fits a.1 in
    got_is (Taken IsFront (first ∷ bytes)) k.0 a.0.1 kind rest k.2
    (record {
      front = first ∷ t.front;
      is = kind_takes first t.front a.0.0 k.0 t.is k.1;
      parts = ap (λ (f : List ℕ). first ∷ f) t.parts;
      fits = t.fits;
    })

pub head_takes : (bytes : List ℕ) (kind : Head) (rest : List ℕ) → IsBytes bytes → head_at bytes ≡ Ok (kind, rest)
    → Taken IsFront bytes kind rest
unfolding head_at
head_takes [] kind rest fits e = absurd cc
head_takes (first ∷ bytes) kind rest fits e =
    let tail = IsBytes-tail first bytes fits in
    elim (cases_Bool (eqb first 244)) [
      | inl t0 ↦ alone 244 (heads.Bool false) kind first bytes rest tail (eqb-true first 244 t0) refl (rw t0 at e)
      | inr f0 ↦ elim (cases_Bool (eqb first 245)) [
        | inl t1 ↦ alone 245 (heads.Bool true) kind first bytes rest tail (eqb-true first 245 t1) refl (rw (f0, t1) at e)
        | inr f1 ↦ elim (cases_Bool (eqb first 246)) [
          | inl t2 ↦ alone 246 heads.Null kind first bytes rest tail (eqb-true first 246 t2) refl (rw (f0, f1, t2) at e)
          | inr f2 ↦ elim (cases_Bool (eqb first 249)) [
            | inl t3 ↦ subst (λ (f : ℕ). Taken IsFront (f ∷ bytes) kind rest) (sym (eqb-true first 249 t3)) (float_takes of_half 2 249 bytes kind rest half tail (rw (f0, f1, f2, t3) at e))
            | inr f3 ↦ elim (cases_Bool (eqb first 250)) [
              | inl t4 ↦ subst (λ (f : ℕ). Taken IsFront (f ∷ bytes) kind rest) (sym (eqb-true first 250 t4)) (float_takes of_single 4 250 bytes kind rest single tail (rw (f0, f1, f2, f3, t4) at e))
              | inr f4 ↦ elim (cases_Bool (eqb first 251)) [
                | inl t5 ↦ subst (λ (f : ℕ). Taken IsFront (f ∷ bytes) kind rest) (sym (eqb-true first 251 t5)) (float_takes (λ bits. bits) 8 251 bytes kind rest double tail (rw (f0, f1, f2, f3, f4, t5) at e))
                | inr f5 ↦ by_argument first bytes kind rest tail (rw (f0, f1, f2, f3, f4, f5) at e)
              ]
            ]
          ]
        ]
      ]
    ]

-- ---- rows

-- exactly n things
pub record TakenRow {X : Type 0} (R : List ℕ → X → Type 0) (bytes : List ℕ) (xs : List X) (rest : List ℕ) : Type 0 where
  pub front : List ℕ
  pub row : Row R front xs
  pub parts : bytes ≡ front ++ rest
  pub fits : IsBytes rest

abbrev pub Takes : {X : Type 0} → (List ℕ → X → Type 0) → (List ℕ → ValueReading X) → Type 0
Takes {X} R one = (bytes : List ℕ) (x : X) (rest : List ℕ) → IsBytes bytes → one bytes ≡ got x rest → Taken R bytes x rest

taken_more : {X : Type 0} (R : List ℕ → X → Type 0) (bytes : List ℕ) (x : X) (middle : List ℕ) (xs : List X) (rest : List ℕ)
    → Taken R bytes x middle → TakenRow R middle xs rest → TakenRow R bytes (x ∷ xs) rest
taken_more R bytes x middle xs rest first others = record {
  front = first.front ++ others.front;
  row = one_more first.front others.front x xs first.is others.row;
  parts = first.parts ∙ ap (λ (t : List ℕ). first.front ++ t) others.parts ∙ sym (append_assoc first.front others.front rest);
  fits = others.fits;
}

pub many_takes : {X : Type 0} (R : List ℕ → X → Type 0) (one : List ℕ → ValueReading X) → Takes R one
    → (n : ℕ) (bytes : List ℕ) (xs : List X) (rest : List ℕ) → IsBytes bytes → many_at one n bytes ≡ got xs rest
    → TakenRow R bytes xs rest × (length xs ≡ n)
unfolding many_at
many_takes R one takes zero bytes xs rest fits e =
    got_is (λ ys r. TakenRow R bytes ys r × (length ys ≡ 0)) [] bytes xs rest e
    (record { front = []; row = no_more; parts = refl; fits = fits }, refl)
many_takes {X} R one takes (suc n) bytes xs rest fits e =
    let a = bind_ok (one bytes) (λ first. many_at one n first.1 >>= λ others. got (first.0 ∷ others.0) others.1) (xs, rest) e in
    let b = bind_ok (many_at one n a.0.1) (λ others. got (a.0.0 ∷ others.0) others.1) (xs, rest) a.2 in
    let first = takes bytes a.0.0 a.0.1 fits a.1 in
    let others = many_takes R one takes n a.0.1 b.0.0 b.0.1 first.fits b.1 in
    got_is (λ ys r. TakenRow R bytes ys r × (length ys ≡ suc n)) (a.0.0 ∷ b.0.0) b.0.1 xs rest b.2
    (taken_more R bytes a.0.0 a.0.1 b.0.0 b.0.1 first others.0, ap suc others.1)

-- things up to a break
pub break_is : (bytes rest : List ℕ) → break_at bytes ≡ Some rest → bytes ≡ 255 ∷ rest
break_is [] rest e = absurd cc
break_is (first ∷ bytes) rest e = elim (cases_Bool (eqb first 255)) [
  | inl same ↦
      let told : Some bytes ≡ Some rest = rw same at e in
      let tail : bytes ≡ rest = cc in
      ap (λ (f : ℕ). f ∷ bytes) (eqb-true first 255 same) ∙ ap (λ (t : List ℕ). 255 ∷ t) tail
  | inr other ↦ absurd (let clash = rw other at e in cc)
]

ended : {X : Type 0} (R : List ℕ → X → Type 0) (bytes after : List ℕ) (xs : List X) (rest : List ℕ) → IsBytes bytes
    → bytes ≡ 255 ∷ after → got {X = List X} [] after ≡ got xs rest → TakenRow R bytes xs (255 ∷ rest)
ended {X} R bytes after xs rest fits is e =
    got_is (λ ys r. TakenRow R bytes ys (255 ∷ r)) [] after xs rest e
    (record { front = []; row = no_more; parts = is; fits = subst (λ (b : List ℕ). IsBytes b) is fits })

pub until_takes : {X : Type 0} (R : List ℕ → X → Type 0) (one : List ℕ → ValueReading X) → Takes R one
    → (fuel : ℕ) (bytes : List ℕ) (xs : List X) (rest : List ℕ) → IsBytes bytes → until_at one fuel bytes ≡ got xs rest
    → TakenRow R bytes xs (255 ∷ rest)
unfolding until_at
until_takes R one takes zero bytes xs rest fits e = go (break_at bytes) refl
  where
    go : (o : Option (List ℕ)) → break_at bytes ≡ o → TakenRow R bytes xs (255 ∷ rest)
    go (Some after) is = ended R bytes after xs rest fits (break_is bytes after is) (rw is at e)
    go None is = absurd (let clash = rw is at e in cc)
until_takes {X} R one takes (suc fuel) bytes xs rest fits e =
    go (break_at bytes) refl (λ middle ys after inner read. until_takes R one takes fuel middle ys after inner read)
  where
    go : (o : Option (List ℕ)) → break_at bytes ≡ o
        → ((middle : List ℕ) (ys : List X) (after : List ℕ) → IsBytes middle → until_at one fuel middle ≡ got ys after → TakenRow R middle ys (255 ∷ after))
        → TakenRow R bytes xs (255 ∷ rest)
    go (Some after) is again = ended R bytes after xs rest fits (break_is bytes after is) (rw is at e)
    go None is again =
        let read = rw is at e in
        let a = bind_ok (one bytes) (λ first. until_at one fuel first.1 >>= λ others. got (first.0 ∷ others.0) others.1) (xs, rest) read in
        let b = bind_ok (until_at one fuel a.0.1) (λ others. got (a.0.0 ∷ others.0) others.1) (xs, rest) a.2 in
        let first = takes bytes a.0.0 a.0.1 fits a.1 in
        let others = again a.0.1 b.0.0 b.0.1 first.fits b.1 in
        got_is (λ ys r. TakenRow R bytes ys (255 ∷ r)) (a.0.0 ∷ b.0.0) b.0.1 xs rest b.2
        (taken_more R bytes a.0.0 a.0.1 b.0.0 (255 ∷ b.0.1) first others)

pub open_takes : {X : Type 0} (R : List ℕ → X → Type 0) (one : List ℕ → ValueReading X) → Takes R one
    → (bytes : List ℕ) (xs : List X) (rest : List ℕ) → IsBytes bytes → open_at one bytes ≡ got xs rest
    → TakenRow R bytes xs (255 ∷ rest)
unfolding open_at
open_takes R one takes bytes xs rest fits e = until_takes R one takes (length bytes) bytes xs rest fits e

-- ---- strings

pub row_chunks : (major : ℕ) (P : List ℕ → Type 0) (bytes : List ℕ) (parts : List (List ℕ)) → Row (IsChunk major P) bytes parts
    → Chunks major P bytes (joined parts)
row_chunks major P _ _ no_more = no_chunk
row_chunks major P _ _ (one_more bytes others part parts chunk row) =
    let same : chunk.head ++ (part ++ others) ≡ bytes ++ others = sym (append_assoc chunk.head part others) ∙ ap (λ (t : List ℕ). t ++ others) (sym chunk.is) in
    subst (λ (t : List ℕ). Chunks major P t (part ++ joined parts)) same
    (one_chunk chunk.head part others (joined parts) chunk.is_head chunk.kind (row_chunks major P others parts row))

-- a string of that kind after its head
behind_head : (major n : ℕ) (P : List ℕ → Type 0) (front bytes inner part rest : List ℕ) → bytes ≡ front ++ inner
    → inner ≡ part ++ rest → length part ≡ n → P part → IsHead major n front → IsBytes rest
    → Taken (IsChunk major P) bytes part rest
behind_head major n P front bytes inner part rest parts split size kind is_head fits = record {
  front = front ++ part;
  is = record { head = front; is = refl; is_head = subst (λ (m : ℕ). IsHead major m front) (sym size) is_head; kind = kind };
  parts = parts ∙ ap (λ (t : List ℕ). front ++ t) split ∙ sym (append_assoc front part rest);
  fits = fits;
}

pub part_split : (n : ℕ) (inner part rest : List ℕ) → IsBytes inner → front_part n inner ≡ got part rest
    → (inner ≡ part ++ rest) × (length part ≡ n) × IsBytes rest
part_split n inner part rest fits e =
    let t = part_takes n inner part rest fits e in
    (subst (λ (f : List ℕ). inner ≡ f ++ rest) t.is.same t.parts, t.is.size, t.fits)

pub letters_split : (n : ℕ) (inner s rest : List ℕ) → IsBytes inner → letters_at n inner ≡ got s rest
    → (inner ≡ s ++ rest) × (length s ≡ n) × IsBytes rest × IsUtf8 s
unfolding letters_at
letters_split n inner s rest fits e =
    let b = bind_ok (front_part n inner) (λ part. cond (is_utf8 part.0) (Ok part) (Err BadUtf8)) (s, rest) e in
    let p = part_split n inner b.0.0 b.0.1 fits b.1 in
    elim (cases_Bool (is_utf8 b.0.0)) [
      | inl utf8 ↦
          let read = rw utf8 at b.2 in
          got_is (λ t r. (inner ≡ t ++ r) × (length t ≡ n) × IsBytes r × IsUtf8 t) b.0.0 b.0.1 s rest read
          (p.0, p.1, p.2, IsUtf8-from_is_utf8 b.0.0 utf8)
      | inr other ↦ absurd (let clash = rw other at b.2 in cc)
    ]

octets_of : (front : List ℕ) (kind : Head) (bytes inner part rest : List ℕ) → bytes ≡ front ++ inner → IsBytes inner
    → IsFront front kind → octets_of_head kind inner ≡ got part rest → Taken (IsChunk 2 IsAny) bytes part rest
octets_of front (heads.Bytes (Some n)) bytes inner part rest parts fits is e =
    let p = part_split n inner part rest fits e in
    behind_head 2 n IsAny front bytes inner part rest parts p.0 p.1 tt is p.2
octets_of front (heads.Bytes None) bytes inner part rest parts fits is e = absurd cc
octets_of front (heads.Whole n) bytes inner part rest parts fits is e = absurd cc
octets_of front (heads.Negative n) bytes inner part rest parts fits is e = absurd cc
octets_of front (heads.Text size) bytes inner part rest parts fits is e = absurd cc
octets_of front (heads.Array size) bytes inner part rest parts fits is e = absurd cc
octets_of front (heads.Map size) bytes inner part rest parts fits is e = absurd cc
octets_of front (heads.Bool flag) bytes inner part rest parts fits is e = absurd cc
octets_of front heads.Null bytes inner part rest parts fits is e = absurd cc
octets_of front (heads.Double wide) bytes inner part rest parts fits is e = absurd cc

pub octets_chunk_takes : (bytes part rest : List ℕ) → IsBytes bytes → octets_chunk_at bytes ≡ got part rest
    → Taken (IsChunk 2 IsAny) bytes part rest
unfolding octets_chunk_at
octets_chunk_takes bytes part rest fits e =
    let b = bind_ok (head_at bytes) (λ head. octets_of_head head.0 head.1) (part, rest) e in
    let t = head_takes bytes b.0.0 b.0.1 fits b.1 in
    octets_of t.front b.0.0 bytes b.0.1 part rest t.parts t.fits t.is b.2

letters_of : (front : List ℕ) (kind : Head) (bytes inner part rest : List ℕ) → bytes ≡ front ++ inner → IsBytes inner
    → IsFront front kind → letters_of_head kind inner ≡ got part rest → Taken (IsChunk 3 IsUtf8) bytes part rest
letters_of front (heads.Text (Some n)) bytes inner part rest parts fits is e =
    let p = letters_split n inner part rest fits e in
    behind_head 3 n IsUtf8 front bytes inner part rest parts p.0 p.1 p.3 is p.2
letters_of front (heads.Text None) bytes inner part rest parts fits is e = absurd cc
letters_of front (heads.Whole n) bytes inner part rest parts fits is e = absurd cc
letters_of front (heads.Negative n) bytes inner part rest parts fits is e = absurd cc
letters_of front (heads.Bytes size) bytes inner part rest parts fits is e = absurd cc
letters_of front (heads.Array size) bytes inner part rest parts fits is e = absurd cc
letters_of front (heads.Map size) bytes inner part rest parts fits is e = absurd cc
letters_of front (heads.Bool flag) bytes inner part rest parts fits is e = absurd cc
letters_of front heads.Null bytes inner part rest parts fits is e = absurd cc
letters_of front (heads.Double wide) bytes inner part rest parts fits is e = absurd cc

pub text_chunk_takes : (bytes part rest : List ℕ) → IsBytes bytes → text_chunk_at bytes ≡ got part rest
    → Taken (IsChunk 3 IsUtf8) bytes part rest
unfolding text_chunk_at
text_chunk_takes bytes part rest fits e =
    let b = bind_ok (head_at bytes) (λ head. letters_of_head head.0 head.1) (part, rest) e in
    let t = head_takes bytes b.0.0 b.0.1 fits b.1 in
    letters_of t.front b.0.0 bytes b.0.1 part rest t.parts t.fits t.is b.2

-- a string in chunks after its first byte
chunks_behind : (major : ℕ) (P : List ℕ → Type 0) (front bytes inner : List ℕ) (parts : List (List ℕ)) (rest : List ℕ)
    → bytes ≡ front ++ inner → front ≡ (32 * major + 31) ∷ [] → TakenRow (IsChunk major P) inner parts (255 ∷ rest)
    → Taken (IsString major P) bytes (joined parts) rest
chunks_behind major P front bytes inner parts rest split is row =
    let first = 32 * major + 31 in
    let inside : inner ≡ (row.front ++ 255 ∷ []) ++ rest = row.parts ∙ sym (append_assoc row.front (255 ∷ []) rest) in
    record {
      front = first ∷ (row.front ++ 255 ∷ []);
      is = chunked row.front (joined parts) (row_chunks major P row.front parts row.row);
      parts = split ∙ ap (λ (f : List ℕ). f ++ inner) is ∙ ap (λ (t : List ℕ). first ∷ t) inside;
      fits = IsBytes-tail 255 rest row.fits;
    }

pub octets_takes : (front : List ℕ) (size : Option ℕ) (bytes inner s rest : List ℕ) → bytes ≡ front ++ inner → IsBytes inner
    → IsSized 2 front size → octets_at size inner ≡ got s rest → Taken (IsString 2 IsAny) bytes s rest
unfolding octets_at
octets_takes front (Some n) bytes inner s rest split fits is e =
    let p = part_split n inner s rest fits e in
    record {
      front = front ++ s;
      is = whole front s (subst (λ (m : ℕ). IsHead 2 m front) (sym p.1) is) tt;
      parts = split ∙ ap (λ (t : List ℕ). front ++ t) p.0 ∙ sym (append_assoc front s rest);
      fits = p.2;
    }
octets_takes front None bytes inner s rest split fits is e =
    let b = bind_ok (open_at octets_chunk_at inner) (λ parts. got (joined parts.0) parts.1) (s, rest) e in
    let row = open_takes (IsChunk 2 IsAny) octets_chunk_at octets_chunk_takes inner b.0.0 b.0.1 fits b.1 in
    got_is (Taken (IsString 2 IsAny) bytes) (joined b.0.0) b.0.1 s rest b.2
    (chunks_behind 2 IsAny front bytes inner b.0.0 b.0.1 split is row)

pub text_takes : (front : List ℕ) (size : Option ℕ) (bytes inner s rest : List ℕ) → bytes ≡ front ++ inner → IsBytes inner
    → IsSized 3 front size → text_at size inner ≡ got s rest → Taken (IsString 3 IsUtf8) bytes s rest
unfolding text_at
text_takes front (Some n) bytes inner s rest split fits is e =
    let p = letters_split n inner s rest fits e in
    record {
      front = front ++ s;
      is = whole front s (subst (λ (m : ℕ). IsHead 3 m front) (sym p.1) is) p.3;
      parts = split ∙ ap (λ (t : List ℕ). front ++ t) p.0 ∙ sym (append_assoc front s rest);
      fits = p.2;
    }
text_takes front None bytes inner s rest split fits is e =
    let b = bind_ok (open_at text_chunk_at inner) (λ parts. got (joined parts.0) parts.1) (s, rest) e in
    let row = open_takes (IsChunk 3 IsUtf8) text_chunk_at text_chunk_takes inner b.0.0 b.0.1 fits b.1 in
    got_is (Taken (IsString 3 IsUtf8) bytes) (joined b.0.0) b.0.1 s rest b.2
    (chunks_behind 3 IsUtf8 front bytes inner b.0.0 b.0.1 split is row)

-- ---- items

key_of : (front : List ℕ) (kind : Head) (bytes inner s rest : List ℕ) → bytes ≡ front ++ inner → IsBytes inner
    → IsFront front kind → key_of_head kind inner ≡ got s rest → Taken (IsString 3 IsUtf8) bytes s rest
key_of front (heads.Text size) bytes inner s rest split fits is e = text_takes front size bytes inner s rest split fits is e
key_of front (heads.Whole n) bytes inner s rest split fits is e = absurd cc
key_of front (heads.Negative n) bytes inner s rest split fits is e = absurd cc
key_of front (heads.Bytes size) bytes inner s rest split fits is e = absurd cc
key_of front (heads.Array size) bytes inner s rest split fits is e = absurd cc
key_of front (heads.Map size) bytes inner s rest split fits is e = absurd cc
key_of front (heads.Bool flag) bytes inner s rest split fits is e = absurd cc
key_of front heads.Null bytes inner s rest split fits is e = absurd cc
key_of front (heads.Double wide) bytes inner s rest split fits is e = absurd cc

pub key_takes : (bytes s rest : List ℕ) → IsBytes bytes → key_at bytes ≡ got s rest → Taken (IsString 3 IsUtf8) bytes s rest
unfolding key_at
key_takes bytes s rest fits e =
    let b = bind_ok (head_at bytes) (λ head. key_of_head head.0 head.1) (s, rest) e in
    let t = head_takes bytes b.0.0 b.0.1 fits b.1 in
    key_of t.front b.0.0 bytes b.0.1 s rest t.parts t.fits t.is b.2

pub pair_takes : (d : ℕ)
    → ((bytes : List ℕ) (value : Value) (rest : List ℕ) → IsBytes bytes → item_at d bytes ≡ got value rest → Taken (Shallow d) bytes value rest)
    → (bytes : List ℕ) (pair : Pair) (rest : List ℕ) → IsBytes bytes → pair_at (item_at d) bytes ≡ got pair rest
    → Taken (ShallowPair d) bytes pair rest
unfolding pair_at
pair_takes d takes bytes pair rest fits e =
    let a = bind_ok (key_at bytes) (λ key. item_at d key.1 >>= λ value. got (make key.0 value.0) value.1) (pair, rest) e in
    let b = bind_ok (item_at d a.0.1) (λ value. got (make a.0.0 value.0) value.1) (pair, rest) a.2 in
    let key = key_takes bytes a.0.0 a.0.1 fits a.1 in
    let value = takes a.0.1 b.0.0 b.0.1 key.fits b.1 in
    got_is (Taken (ShallowPair d) bytes) (make a.0.0 b.0.0) b.0.1 pair rest b.2
    (record {
      front = key.front ++ value.front;
      is = record { key_bytes = key.front; value_bytes = value.front; is = refl; is_key = key.is; is_value = value.is.0; shallow = value.is.1 };
      parts = key.parts ∙ ap (λ (t : List ℕ). key.front ++ t) value.parts ∙ sym (append_assoc key.front value.front b.0.1);
      fits = value.fits;
    })
  where
    make : List ℕ → Value → Pair
    make key value = record { key = key; value = value }
