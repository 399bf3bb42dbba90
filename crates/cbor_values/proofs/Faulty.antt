-- A refusal at the front of the bytes applies there.
use Rattle.std.proofs.Common.{◌≡◌, ℕ, ◌+◌, ◌*◌, ◌/◌, ◌%◌, ◌<◌, ◌≤◌, Bool, true, false, cond, eqb, ltb, List, [], ◌∷◌, ◌++◌, length, Option, Some, None, Ok, Err, refl, sym, ap, subst, ◌∙◌, arith, ◌⊎◌, inl, inr}
use Rattle.std.specs.Str.{IsUtf8, is_utf8}
use Rattle.std.proofs.lemmas.Bool.{ltb-false, ltb-true, le-ltb, lt-ltb, eqb-true, eqb-false, ne_eqb, cases_Bool, cases_eq, eq-eqb, or_parts}
use Rattle.byteorder.specs.Endian.{big_number}
use Rattle.std.proofs.lemmas.Str.{is_utf8-from_IsUtf8}
use Rattle.lists.proofs.AllBytes.{IsBytes, IsBytes-tail}
use Rattle.cbor_values.specs.declared.refusal.CborRefusal.{CborRefusal}
use Rattle.cbor_values.specs.declared.refusal.CborRefusal.TheVariants.{Cut, BadHead, BadUtf8}
use Rattle.cbor_values.specs.declared.heads.Head.{Head}
use Rattle.cbor_values.specs.declared.heads.Head.TheVariants as heads
use Rattle.cbor_values.specs.Floats.{of_half, of_single}
use Rattle.cbor_values.specs.Heads.{IsHead, short, long, argument_len}
use Rattle.cbor_values.specs.Refusals.{Due, may_break, begins, IsCutHead, IsCutString, IsBadText, Faults, IsOtherChunk, ChunkFaults}
use Rattle.lists.specs.Results.{◌>>=◌}
use Rattle.cbor_values.specs.Reading.{front_part, argument_at, head_of_argument, head_by, float_at, head_at, break_at, letters_at, octets_of_head, letters_of_head, octets_chunk_at, text_chunk_at}
use Rattle.cbor_values.proofs.Steps.{bind_err, err_is, failed, got}
use Rattle.cbor_values.proofs.Takes.{IsArgument, direct, following, none, IsFront, IsSized, IsDouble, half, single, double, argument_takes, head_takes, part_split}

-- ---- heads

-- why a head isn't read
abbrev pub NoHead : List ℕ → Type 0
NoHead [] = ⊥
NoHead (first ∷ rest) = begins (first / 32) (first % 32) ≡ false

abbrev pub HeadFails : CborRefusal → List ℕ → Type 0
HeadFails e bytes = ((Cut ≡ e) × IsCutHead bytes) ⊎ ((BadHead ≡ e) × NoHead bytes)

begins_reserved : (major info : ℕ) → 28 ≤ info → (info ≡ 31 → ⊥) → begins major info ≡ false
begins_reserved major info high other = elim (cases_Bool (ltb major 2)) [
  | inl t ↦ rw (t, le-ltb info 28 high) refl
  | inr f ↦ elim (cases_Bool (ltb major 6)) [
    | inl t ↦ rw (f, t, le-ltb info 28 high, ne_eqb info 31 other) refl
    | inr g ↦ elim (cases_Bool (eqb major 7)) [
      | inl t ↦ rw (
        f,
        g,
        t,
        ne_eqb info 20 (λ e. omega arith),
        ne_eqb info 21 (λ e. omega arith),
        ne_eqb info 22 (λ e. omega arith),
        ne_eqb info 25 (λ e. omega arith),
        ne_eqb info 26
            (λ e. omega arith),
        ne_eqb info 27 (λ e. omega arith),
      ) refl
      | inr k ↦ rw (f, g, k) refl
    ]
  ]
]

-- a first byte of major type 0 or 1 with no argument
begins_number : (major info : ℕ) → major < 2 → info ≡ 31 → begins major info ≡ false
begins_number major info low is = rw (lt-ltb major 2 low, is) refl

-- a first byte from 192 on that is none of `false`, `true`, `null` and the floats
begins_high : (first : ℕ) → 6 ≤ first / 32 → (first ≡ 244 → ⊥) → (first ≡ 245 → ⊥) → (first ≡ 246 → ⊥)
    → (first ≡ 249 → ⊥) → (first ≡ 250 → ⊥) → (first ≡ 251 → ⊥) → begins (first / 32) (first % 32) ≡ false
begins_high first high n0 n1 n2 n3 n4 n5 = elim (cases_Bool (eqb (first / 32) 7)) [
  | inl t ↦
      let seven = eqb-true (first / 32) 7 t in
      rw (
        le-ltb (first / 32) 2 (omega arith),
        le-ltb (first / 32) 6 high,
        t,
        ne_eqb (first % 32) 20 (λ e. n0 (omega arith)),
        ne_eqb (first % 32) 21 (λ e. n1 (omega arith)),
        ne_eqb (first % 32) 22 (λ e. n2 (omega arith)),
        ne_eqb (first % 32) 25 (λ e. n3 (omega arith)),
        ne_eqb (first % 32) 26 (λ e. n4 (omega arith)),
        ne_eqb (first % 32) 27 (λ e. n5 (omega arith)),
      ) refl
  | inr f ↦ rw (le-ltb (first / 32) 2 (omega arith), le-ltb (first / 32) 6 high, f) refl
]

pub part_fails : (n : ℕ) (bytes : List ℕ) (e : CborRefusal) → front_part n bytes ≡ Err e → (Cut ≡ e) × (length bytes < n)
part_fails n bytes e fails = elim (cases_Bool (ltb (length bytes) n)) [
  | inl few ↦ (err_is {A = List ℕ × List ℕ} Cut e (rw few at fails), ltb-true (length bytes) n few)
  | inr enough ↦ absurd (let clash = rw enough at fails in cc)
]

argument_fails : (info : ℕ) (bytes : List ℕ) (e : CborRefusal) → argument_at info bytes ≡ Err e
    → ((Cut ≡ e) × (24 ≤ info) × (info < 28) × (length bytes < argument_len info)) ⊎ ((BadHead ≡ e) × (28 ≤ info) × (info ≡ 31 → ⊥))
unfolding argument_at
argument_fails info bytes e fails = elim (cases_Bool (ltb info 24)) [
  | inl small ↦ absurd (let clash = rw small at fails in cc)
  | inr large ↦ elim (cases_Bool (ltb info 28)) [
    | inl wide ↦
        let stops = rw (large, wide) at fails in
        elim (bind_err (front_part (argument_len info) bytes) (λ part. got (Some (big_number (argument_len info) part.0)) part.1) e stops) [
          | inl here ↦
              let p = part_fails (argument_len info) bytes e here in
              inl (p.0, ltb-false info 24 large, ltb-true info 28 wide, p.1)
          | inr never ↦ absurd (let clash = never.2 in cc)
        ]
    | inr other ↦ elim (cases_Bool (eqb info 31)) [
      | inl open_ended ↦ absurd (let clash = rw (large, other, open_ended) at fails in cc)
      | inr reserved ↦ inr (err_is {A = Option ℕ × List ℕ} BadHead e (rw (large, other, reserved) at fails), ltb-false info 28 other, eqb-false info 31 reserved)
    ]
  ]
]

number_fails : (make : ℕ → Head) (info : ℕ) (part : List ℕ) (argument : Option ℕ) (e : CborRefusal) → IsArgument info part argument
    → head_of_argument make argument ≡ Err e → (BadHead ≡ e) × (info ≡ 31)
number_fails make info _ _ e (direct small) fails = absurd cc
number_fails make info _ _ e (following n low high fits) fails = absurd cc
number_fails make info _ _ e (none open_ended) fails = (err_is {A = Head} BadHead e fails, open_ended)

kind_fails : (first : ℕ) (part : List ℕ) (argument : Option ℕ) (e : CborRefusal)
    → (first ≡ 244 → ⊥) → (first ≡ 245 → ⊥) → (first ≡ 246 → ⊥) → (first ≡ 249 → ⊥) → (first ≡ 250 → ⊥) → (first ≡ 251 → ⊥)
    → IsArgument (first % 32) part argument → head_by (first / 32) argument ≡ Err e
    → (BadHead ≡ e) × (begins (first / 32) (first % 32) ≡ false)
unfolding head_by
kind_fails first part argument e n0 n1 n2 n3 n4 n5 is fails =
    elim (cases_Bool (eqb (first / 32) 0)) [
      | inl t0 ↦
          let n = number_fails heads.Whole (first % 32) part argument e is (rw t0 at fails) in
          (n.0, begins_number (first / 32) (first % 32) (let zero_is = eqb-true (first / 32) 0 t0 in omega arith) n.1)
      | inr f0 ↦ elim (cases_Bool (eqb (first / 32) 1)) [
        | inl t1 ↦
            let n = number_fails heads.Negative (first % 32) part argument e is (rw (f0, t1) at fails) in
            (n.0, begins_number (first / 32) (first % 32) (let one_is = eqb-true (first / 32) 1 t1 in omega arith) n.1)
        | inr f1 ↦ elim (cases_Bool (eqb (first / 32) 2)) [
          | inl t2 ↦ absurd (let clash = rw (f0, f1, t2) at fails in cc)
          | inr f2 ↦ elim (cases_Bool (eqb (first / 32) 3)) [
            | inl t3 ↦ absurd (let clash = rw (f0, f1, f2, t3) at fails in cc)
            | inr f3 ↦ elim (cases_Bool (eqb (first / 32) 4)) [
              | inl t4 ↦ absurd (let clash = rw (f0, f1, f2, f3, t4) at fails in cc)
              | inr f4 ↦ elim (cases_Bool (eqb (first / 32) 5)) [
                | inl t5 ↦ absurd (let clash = rw (f0, f1, f2, f3, f4, t5) at fails in cc)
                | inr f5 ↦
                    let m0 = eqb-false (first / 32) 0 f0 in
                    let m1 = eqb-false (first / 32) 1 f1 in
                    let m2 = eqb-false (first / 32) 2 f2 in
                    let m3 = eqb-false (first / 32) 3 f3 in
                    let m4 = eqb-false (first / 32) 4 f4 in
                    let m5 = eqb-false (first / 32) 5 f5 in
                    (err_is {A = Head} BadHead e (rw (f0, f1, f2, f3, f4, f5) at fails), begins_high first (omega arith) n0 n1 n2 n3 n4 n5)
              ]
            ]
          ]
        ]
      ]
    ]

float_fails : (widen : ℕ → ℕ) (width : ℕ) (bytes : List ℕ) (e : CborRefusal) → float_at widen width bytes ≡ Err e
    → (Cut ≡ e) × (length bytes < width)
float_fails widen width bytes e fails =
    elim (bind_err (front_part width bytes) (λ part. got (heads.Double (widen (big_number width part.0))) part.1) e fails) [
      | inl here ↦ part_fails width bytes e here
      | inr never ↦ absurd (let clash = never.2 in cc)
    ]

float_head : (byte : ℕ) (widen : ℕ → ℕ) (width first : ℕ) (bytes : List ℕ) (e : CborRefusal) → first ≡ byte
    → (24 ≤ byte % 32) × (byte % 32 < 28) × (argument_len (byte % 32) ≡ width)
    → float_at widen width bytes ≡ Err e → HeadFails e (first ∷ bytes)
float_head byte widen width first bytes e is sized fails =
    let f = float_fails widen width bytes e fails in
    subst (λ (b : ℕ). HeadFails e (b ∷ bytes)) (sym is) (inl (f.0, (sized.0, sized.1, subst (λ (w : ℕ). length bytes < w) (sym sized.2) f.1)))

pub head_fails : (bytes : List ℕ) (e : CborRefusal) → IsBytes bytes → head_at bytes ≡ Err e → HeadFails e bytes
unfolding head_at
head_fails [] e fits fails = inl (err_is {A = Head × List ℕ} Cut e fails, tt)
head_fails (first ∷ bytes) e fits fails =
    elim (cases_Bool (eqb first 244)) [
      | inl t0 ↦ absurd (let clash = rw t0 at fails in cc)
      | inr f0 ↦ elim (cases_Bool (eqb first 245)) [
        | inl t1 ↦ absurd (let clash = rw (f0, t1) at fails in cc)
        | inr f1 ↦ elim (cases_Bool (eqb first 246)) [
          | inl t2 ↦ absurd (let clash = rw (f0, f1, t2) at fails in cc)
          | inr f2 ↦ elim (cases_Bool (eqb first 249)) [
            | inl t3 ↦ float_head 249 of_half 2 first bytes e (eqb-true first 249 t3) (omega arith, omega arith, refl) (rw (f0, f1, f2, t3) at fails)
            | inr f3 ↦ elim (cases_Bool (eqb first 250)) [
              | inl t4 ↦ float_head 250 of_single 4 first bytes e (eqb-true first 250 t4) (omega arith, omega arith, refl) (rw (f0, f1, f2, f3, t4) at fails)
              | inr f4 ↦ elim (cases_Bool (eqb first 251)) [
                | inl t5 ↦ float_head 251 (λ bits. bits) 8 first bytes e (eqb-true first 251 t5) (omega arith, omega arith, refl) (rw (f0, f1, f2, f3, f4, t5) at fails)
                | inr f5 ↦
                    let stops = rw (f0, f1, f2, f3, f4, f5) at fails in
                    elim (bind_err (argument_at (first % 32) bytes) (λ argument. head_by (first / 32) argument.0 >>= λ head. got head argument.1) e stops) [
                      | inl here ↦ elim (argument_fails (first % 32) bytes e here) [
                        | inl cut ↦ inl (cut.0, (cut.1, cut.2, cut.3))
                        | inr bad ↦ inr (bad.0, begins_reserved (first / 32) (first % 32) bad.1 bad.2)
                      ]
                      | inr there ↦
                          let t = argument_takes (first % 32) bytes there.0.0 there.0.1 (IsBytes-tail first bytes fits) there.1 in
                          elim (bind_err (head_by (first / 32) there.0.0) (λ head. got head there.0.1) e there.2) [
                            | inl bad ↦ inr (kind_fails first t.front there.0.0 e (eqb-false first 244 f0) (eqb-false first 245 f1) (eqb-false first 246 f2) (eqb-false first 249 f3)
                                (eqb-false first 250 f4) (eqb-false first 251 f5) t.is bad)
                            | inr never ↦ absurd (let clash = never.2 in cc)
                          ]
                    ]
              ]
            ]
          ]
        ]
      ]
    ]

-- ---- breaks, and heads

-- no break is at the front, or none may be there
abbrev pub Closed : Bool → List ℕ → Type 0
Closed may [] = Unit {0}
Closed may (first ∷ rest) = first ≡ 255 → may ≡ false

pub closed_never : (bytes : List ℕ) → Closed false bytes
closed_never [] = tt
closed_never (first ∷ rest) = λ e. refl

pub closed_unbroken : (may : Bool) (bytes : List ℕ) → break_at bytes ≡ None → Closed may bytes
closed_unbroken may [] unbroken = tt
closed_unbroken may (first ∷ rest) unbroken = λ e. absurd (let clash = rw (eq-eqb first 255 e) at unbroken in cc)

-- a head that isn't read is a fault where it is due
pub head_faults : (place : Due) (inside : ℕ) (bytes : List ℕ) (e : CborRefusal) → Closed (may_break place) bytes
    → HeadFails e bytes → Faults e place inside bytes
head_faults place inside bytes e closed (inl cut) = subst (λ (d : CborRefusal). Faults d place inside bytes) cut.0 (inl cut.1)
head_faults place inside [] e closed (inr bad) = absurd bad.1
head_faults place inside (first ∷ rest) e closed (inr bad) = subst (λ (d : CborRefusal). Faults d place inside (first ∷ rest)) bad.0 (bad.1, closed)

-- ---- strings

abbrev pub major_of : Head → ℕ
major_of (heads.Whole n) = 0
major_of (heads.Negative n) = 1
major_of (heads.Bytes size) = 2
major_of (heads.Text size) = 3
major_of (heads.Array size) = 4
major_of (heads.Map size) = 5
major_of (heads.Bool flag) = 7
major_of heads.Null = 7
major_of (heads.Double wide) = 7

-- the major type of the first byte
abbrev pub TellsMajor : ℕ → List ℕ → Type 0
TellsMajor major [] = ⊥
TellsMajor major (first ∷ rest) = first / 32 ≡ major

pub major_of_head : (major n : ℕ) (front inner : List ℕ) → IsHead major n front → TellsMajor major (front ++ inner)
major_of_head major n _ inner (short small) = omega arith
major_of_head major n _ inner (long info low high fits) = omega arith

major_of_sized : (major : ℕ) (size : Option ℕ) (front inner : List ℕ) → IsSized major front size → TellsMajor major (front ++ inner)
major_of_sized major (Some n) front inner is = major_of_head major n front inner is
major_of_sized major None front inner is =
    subst (λ (f : List ℕ). TellsMajor major (f ++ inner)) (sym is) (let tells : (32 * major + 31) / 32 ≡ major = omega arith in tells)

major_of_double : (wide : ℕ) (front inner : List ℕ) → IsDouble front wide → TellsMajor 7 (front ++ inner)
major_of_double _ _ inner (half bits fits) = refl
major_of_double _ _ inner (single bits fits) = refl
major_of_double _ _ inner (double bits fits) = refl

pub front_major : (front : List ℕ) (kind : Head) (inner : List ℕ) → IsFront front kind → TellsMajor (major_of kind) (front ++ inner)
front_major front (heads.Whole n) inner is = major_of_head 0 n front inner is
front_major front (heads.Negative n) inner is = major_of_head 1 n front inner is
front_major front (heads.Bytes size) inner is = major_of_sized 2 size front inner is
front_major front (heads.Text size) inner is = major_of_sized 3 size front inner is
front_major front (heads.Array size) inner is = major_of_sized 4 size front inner is
front_major front (heads.Map size) inner is = major_of_sized 5 size front inner is
front_major front (heads.Bool true) inner is = subst (λ (f : List ℕ). TellsMajor 7 (f ++ inner)) (sym is) refl
front_major front (heads.Bool false) inner is = subst (λ (f : List ℕ). TellsMajor 7 (f ++ inner)) (sym is) refl
front_major front heads.Null inner is = subst (λ (f : List ℕ). TellsMajor 7 (f ++ inner)) (sym is) refl
front_major front (heads.Double wide) inner is = major_of_double wide front inner is

pub cut_string : (major n : ℕ) (front bytes inner : List ℕ) → bytes ≡ front ++ inner → IsHead major n front → length inner < n
    → IsCutString major bytes
cut_string major n front bytes inner parts is_head few = record { n = n; head = front; rest = inner; is = parts; is_head = is_head; short = few }

-- why a text isn't read
pub record BadLetters (n : ℕ) (inner : List ℕ) : Type 0 where
  pub text : List ℕ
  pub rest : List ℕ
  pub parts : inner ≡ text ++ rest
  pub size : length text ≡ n
  pub bad : IsUtf8 text → ⊥

pub letters_fail : (n : ℕ) (inner : List ℕ) (e : CborRefusal) → IsBytes inner → letters_at n inner ≡ Err e
    → ((Cut ≡ e) × (length inner < n)) ⊎ ((BadUtf8 ≡ e) × BadLetters n inner)
unfolding letters_at
letters_fail n inner e fits fails =
    elim (bind_err (front_part n inner) (λ part. cond (is_utf8 part.0) (Ok part) (Err BadUtf8)) e fails) [
      | inl here ↦ inl (part_fails n inner e here)
      | inr later ↦
          let part = later.0 in
          let split = part_split n inner part.0 part.1 fits later.1 in
          elim (cases_Bool (is_utf8 part.0)) [
            | inl utf8 ↦ absurd (let clash = rw utf8 at later.2 in cc)
            | inr other ↦
                inr (
                  err_is {A = List ℕ × List ℕ} BadUtf8 e (rw other at later.2),
                  record {
                    text = part.0;
                    rest = part.1;
                    parts = split.0;
                    size = split.1;
                    bad = λ utf8. absurd (let clash = sym other ∙ is_utf8-from_IsUtf8 part.0 utf8 in cc);
                  },
                )
          ]
    ]

pub bad_text : (n : ℕ) (front bytes inner : List ℕ) → bytes ≡ front ++ inner → IsHead 3 n front → BadLetters n inner → IsBadText bytes
bad_text n front bytes inner parts is_head b = record {
  head = front;
  text = b.text;
  rest = b.rest;
  is = parts ∙ ap (λ (t : List ℕ). front ++ t) b.parts;
  is_head = subst (λ (m : ℕ). IsHead 3 m front) (sym b.size) is_head;
  bad = b.bad;
}

-- ---- chunks

other_begins : (major : ℕ) (bytes : List ℕ) → 2 ≤ major → major < 6 → break_at bytes ≡ None → NoHead bytes → IsOtherChunk major bytes
other_begins major [] low high unbroken bad = absurd bad
other_begins major (first ∷ rest) low high unbroken bad = (
  λ e. absurd (let clash = rw (eq-eqb first 255 e) at unbroken in cc),
  elim (cases_eq (first / 32) major) [
    | inl same ↦
        let is : begins major (first % 32) ≡ false = rw same at bad in
        let told = rw (le-ltb major 2 low, lt-ltb major 6 high) at is in
        inr (ltb-false (first % 32) 28 (or_parts (ltb (first % 32) 28) (eqb (first % 32) 31) told).0)
    | inr other ↦ inl other
  ],
)

other_major : (major told : ℕ) (bytes : List ℕ) → break_at bytes ≡ None → (told ≡ major → ⊥) → TellsMajor told bytes → IsOtherChunk major bytes
other_major major told [] unbroken other tells = absurd tells
other_major major told (first ∷ rest) unbroken other tells =
    (λ e. absurd (let clash = rw (eq-eqb first 255 e) at unbroken in cc), inl (λ same. other (sym tells ∙ same)))

other_open : (major : ℕ) (front bytes inner : List ℕ) → bytes ≡ front ++ inner → break_at bytes ≡ None → front ≡ (32 * major + 31) ∷ []
    → IsOtherChunk major bytes
other_open major front bytes inner parts unbroken is =
    let whole : bytes ≡ (32 * major + 31) ∷ inner = parts ∙ ap (λ (f : List ℕ). f ++ inner) is in
    let still : break_at ((32 * major + 31) ∷ inner) ≡ None = subst (λ (b : List ℕ). break_at b ≡ None) whole unbroken in
    subst (λ (b : List ℕ). IsOtherChunk major b) (sym whole)
    (λ e. absurd (let clash = rw (eq-eqb (32 * major + 31) 255 e) at still in cc), inr (let high : 28 ≤ (32 * major + 31) % 32 = omega arith in high))

bad_chunk : (major : ℕ) (bytes : List ℕ) (e : CborRefusal) → failed (List ℕ × List ℕ) BadHead ≡ Err e → IsOtherChunk major bytes → ChunkFaults e major bytes
bad_chunk major bytes e fails other =
    subst (λ (d : CborRefusal). ChunkFaults d major bytes) (err_is {A = List ℕ × List ℕ} BadHead e fails) other

-- a chunk of another kind
strange_chunk : (major : ℕ) (front : List ℕ) (kind : Head) (bytes inner : List ℕ) (e : CborRefusal) → bytes ≡ front ++ inner
    → break_at bytes ≡ None → IsFront front kind → (major_of kind ≡ major → ⊥) → failed (List ℕ × List ℕ) BadHead ≡ Err e
    → ChunkFaults e major bytes
strange_chunk major front kind bytes inner e parts unbroken is other fails =
    bad_chunk major bytes e fails
    (other_major major (major_of kind) bytes unbroken other (subst (λ (b : List ℕ). TellsMajor (major_of kind) b) (sym parts) (front_major front kind inner is)))

octets_of_fails : (front : List ℕ) (kind : Head) (bytes inner : List ℕ) (e : CborRefusal) → bytes ≡ front ++ inner
    → break_at bytes ≡ None → IsFront front kind → octets_of_head kind inner ≡ Err e → ChunkFaults e 2 bytes
octets_of_fails front (heads.Bytes (Some n)) bytes inner e parts unbroken is fails =
    let p = part_fails n inner e fails in
    subst (λ (d : CborRefusal). ChunkFaults d 2 bytes) p.0 (inr (cut_string 2 n front bytes inner parts is p.1))
octets_of_fails front (heads.Bytes None) bytes inner e parts unbroken is fails = bad_chunk 2 bytes e fails (other_open 2 front bytes inner parts unbroken is)
octets_of_fails front (heads.Whole n) bytes inner e parts unbroken is fails = strange_chunk 2 front (heads.Whole n) bytes inner e parts unbroken is (λ s. omega arith) fails
octets_of_fails front (heads.Negative n) bytes inner e parts unbroken is fails = strange_chunk 2 front (heads.Negative n) bytes inner e parts unbroken is (λ s. omega arith) fails
octets_of_fails front (heads.Text size) bytes inner e parts unbroken is fails = strange_chunk 2 front (heads.Text size) bytes inner e parts unbroken is (λ s. omega arith) fails
octets_of_fails front (heads.Array size) bytes inner e parts unbroken is fails = strange_chunk 2 front (heads.Array size) bytes inner e parts unbroken is (λ s. omega arith) fails
octets_of_fails front (heads.Map size) bytes inner e parts unbroken is fails = strange_chunk 2 front (heads.Map size) bytes inner e parts unbroken is (λ s. omega arith) fails
octets_of_fails front (heads.Bool flag) bytes inner e parts unbroken is fails = strange_chunk 2 front (heads.Bool flag) bytes inner e parts unbroken is (λ s. omega arith) fails
octets_of_fails front heads.Null bytes inner e parts unbroken is fails = strange_chunk 2 front heads.Null bytes inner e parts unbroken is (λ s. omega arith) fails
octets_of_fails front (heads.Double wide) bytes inner e parts unbroken is fails = strange_chunk 2 front (heads.Double wide) bytes inner e parts unbroken is (λ s. omega arith) fails

head_of_chunk : (major : ℕ) (bytes : List ℕ) (e : CborRefusal) → 2 ≤ major → major < 6 → break_at bytes ≡ None → HeadFails e bytes
    → ChunkFaults e major bytes
head_of_chunk major bytes e low high unbroken (inl cut) = subst (λ (d : CborRefusal). ChunkFaults d major bytes) cut.0 (inl cut.1)
head_of_chunk major bytes e low high unbroken (inr bad) =
    subst (λ (d : CborRefusal). ChunkFaults d major bytes) bad.0 (other_begins major bytes low high unbroken bad.1)

pub octets_chunk_fails : (bytes : List ℕ) (e : CborRefusal) → IsBytes bytes → break_at bytes ≡ None → octets_chunk_at bytes ≡ Err e
    → ChunkFaults e 2 bytes
unfolding octets_chunk_at
octets_chunk_fails bytes e fits unbroken fails =
    elim (bind_err (head_at bytes) (λ head. octets_of_head head.0 head.1) e fails) [
      | inl here ↦ head_of_chunk 2 bytes e (omega arith) (omega arith) unbroken (head_fails bytes e fits here)
      | inr there ↦
          let t = head_takes bytes there.0.0 there.0.1 fits there.1 in
          octets_of_fails t.front there.0.0 bytes there.0.1 e t.parts unbroken t.is there.2
    ]

letters_of_fails : (front : List ℕ) (kind : Head) (bytes inner : List ℕ) (e : CborRefusal) → bytes ≡ front ++ inner
    → break_at bytes ≡ None → IsBytes inner → IsFront front kind → letters_of_head kind inner ≡ Err e → ChunkFaults e 3 bytes
letters_of_fails front (heads.Text (Some n)) bytes inner e parts unbroken fits is fails = elim (letters_fail n inner e fits fails) [
  | inl cut ↦ subst (λ (d : CborRefusal). ChunkFaults d 3 bytes) cut.0 (inr (cut_string 3 n front bytes inner parts is cut.1))
  | inr bad ↦ subst (λ (d : CborRefusal). ChunkFaults d 3 bytes) bad.0 (refl, bad_text n front bytes inner parts is bad.1)
]
letters_of_fails front (heads.Text None) bytes inner e parts unbroken fits is fails = bad_chunk 3 bytes e fails (other_open 3 front bytes inner parts unbroken is)
letters_of_fails front (heads.Whole n) bytes inner e parts unbroken fits is fails = strange_chunk 3 front (heads.Whole n) bytes inner e parts unbroken is (λ s. omega arith) fails
letters_of_fails front (heads.Negative n) bytes inner e parts unbroken fits is fails = strange_chunk 3 front (heads.Negative n) bytes inner e parts unbroken is (λ s. omega arith) fails
letters_of_fails front (heads.Bytes size) bytes inner e parts unbroken fits is fails = strange_chunk 3 front (heads.Bytes size) bytes inner e parts unbroken is (λ s. omega arith) fails
letters_of_fails front (heads.Array size) bytes inner e parts unbroken fits is fails = strange_chunk 3 front (heads.Array size) bytes inner e parts unbroken is (λ s. omega arith) fails
letters_of_fails front (heads.Map size) bytes inner e parts unbroken fits is fails = strange_chunk 3 front (heads.Map size) bytes inner e parts unbroken is (λ s. omega arith) fails
letters_of_fails front (heads.Bool flag) bytes inner e parts unbroken fits is fails = strange_chunk 3 front (heads.Bool flag) bytes inner e parts unbroken is (λ s. omega arith) fails
letters_of_fails front heads.Null bytes inner e parts unbroken fits is fails = strange_chunk 3 front heads.Null bytes inner e parts unbroken is (λ s. omega arith) fails
letters_of_fails front (heads.Double wide) bytes inner e parts unbroken fits is fails = strange_chunk 3 front (heads.Double wide) bytes inner e parts unbroken is (λ s. omega arith) fails

pub text_chunk_fails : (bytes : List ℕ) (e : CborRefusal) → IsBytes bytes → break_at bytes ≡ None → text_chunk_at bytes ≡ Err e
    → ChunkFaults e 3 bytes
unfolding text_chunk_at
text_chunk_fails bytes e fits unbroken fails =
    elim (bind_err (head_at bytes) (λ head. letters_of_head head.0 head.1) e fails) [
      | inl here ↦ head_of_chunk 3 bytes e (omega arith) (omega arith) unbroken (head_fails bytes e fits here)
      | inr there ↦
          let t = head_takes bytes there.0.0 there.0.1 fits there.1 in
          letters_of_fails t.front there.0.0 bytes there.0.1 e t.parts unbroken t.fits t.is there.2
    ]
