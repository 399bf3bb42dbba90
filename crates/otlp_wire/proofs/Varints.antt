-- All bytes begin with exactly one varint or with exactly one fault.
use Rattle.std.proofs.Common.{◌≡◌, ℕ, zero, suc, ◌+◌, ◌<◌, ◌≤◌, List, ◌++◌, length, get_or, take, drop, Result, Ok, Err, refl, sym, ap, ◌∙◌, arith, inl, inr}
use Rattle.std.specs.Prelude.{[], ◌∷◌, slice_index, nat_lt, if◌then◌else◌}
use Rattle.std.proofs.lemmas.Bool.{cases_lt, cases_eq, lt-ltb, le-ltb}
use Rattle.std.proofs.lemmas.List.{length-append, get_or_append_left, get_or-take, length-take-le, take-append-drop, get_or_past}
use Rattle.std.proofs.Math.Seq.{take-append_seam, drop-append_seam}
use Rattle.otlp_wire.specs.declared.parts.WireError.{WireError}
use Rattle.otlp_wire.specs.declared.parts.WireError.TheVariants.{Cut, BadVarint, BadWireType, BadTag}
use Rattle.otlp_wire.specs.Varint.{sevens, IsFollowed, IsVarint, IsCutVarint, IsLongVarint}
use Rattle.otlp_wire.specs.Reading.{Begins, VarintFaults}
use Rattle.otlp_wire.specs.Fields.{going_on, first_varint}

-- the index of the first byte that goes no further
record EndsAt (bytes : List ℕ) (last : ℕ) : Type 0 where
  inside : last < length bytes
  goes_on : IsFollowed bytes last
  ends : slice_index bytes last < 128

one_end : (bytes : List ℕ) (k l : ℕ) → EndsAt bytes k → EndsAt bytes l → k ≡ l
one_end bytes k l a b =
    elim (cases_lt k l) [
      | inl low ↦ absurd (omega (arith, a.ends, b.goes_on k low))
      | inr high ↦ elim (cases_lt l k) [ inl low ↦ absurd (omega (arith, b.ends, a.goes_on l low)) | inr same ↦ omega arith ]
    ]

front_ends : (front rest : List ℕ) (n : ℕ) (v : IsVarint front n) → EndsAt (front ++ rest) v.last
front_ends front rest n v = record {
  inside = omega (arith, v.size, length-append front rest);
  goes_on = λ i h. rw (get_or_append_left front rest 0 i (omega (arith, v.size))) (v.goes_on i h);
  ends = rw (get_or_append_left front rest 0 v.last (omega (arith, v.size))) v.ends;
}

pub same_front : (a b r s : List ℕ) → a ++ r ≡ b ++ s → length a ≡ length b → (a ≡ b) × (r ≡ s)
same_front a b r s same size = (
  sym (take-append_seam a r) ∙ ap (take (length a)) same ∙ ap (λ n. take n (b ++ s)) size ∙ take-append_seam b s,
  sym (drop-append_seam a r) ∙ ap (drop (length a)) same ∙ ap (λ n. drop n (b ++ s)) size ∙ drop-append_seam b s,
)

one_varint : (a b r s : List ℕ) (n m : ℕ) → IsVarint a n → IsVarint b m → a ++ r ≡ b ++ s → (n ≡ m) × (r ≡ s)
one_varint a b r s n m v w same =
    let last : v.last ≡ w.last = one_end (b ++ s) v.last w.last (rw same at (front_ends a r n v)) (front_ends b s m w) in
    let front = same_front a b r s same (omega (arith, v.size, w.size)) in
    (v.value ∙ ap sevens front.0 ∙ sym w.value, front.1)

not_cut : (front rest : List ℕ) (n : ℕ) → IsVarint front n → IsCutVarint (front ++ rest) → ⊥
not_cut front rest n v cut =
    let end = front_ends front rest n v in
    omega (arith, cut.goes_on v.last end.inside, end.ends)

not_long : (front rest : List ℕ) (n : ℕ) → IsVarint front n → IsLongVarint (front ++ rest) → ⊥
not_long front rest n v long =
    let end = front_ends front rest n v in
    elim (cases_lt v.last 9) [
      | inl early ↦ omega (arith, long.goes_on v.last early, end.ends)
      | inr late ↦
          (let nine : 9 < length front = omega (arith, v.size) in
          omega (arith, v.tenth, rw (get_or_append_left front rest 0 9 nine) at long.tenth))
    ]

-- what is at the front
abbrev pub VarintIs : List ℕ → Result (ℕ × List ℕ) WireError → Type 0
VarintIs bytes (Ok x) = Begins (λ front. IsVarint front x.0) bytes x.1
VarintIs bytes (Err e) = VarintFaults bytes e

no_fault : (bytes : List ℕ) (n : ℕ) (rest : List ℕ) (e : WireError) → Begins (λ front. IsVarint front n) bytes rest → VarintFaults bytes e → ⊥
no_fault bytes n rest Cut b f = not_cut b.0 rest n b.2 (rw b.1 at f)
no_fault bytes n rest BadVarint b f = not_long b.0 rest n b.2 (rw b.1 at f)
no_fault bytes n rest BadWireType b f = f
no_fault bytes n rest BadTag b f = f

one_fault : (bytes : List ℕ) (d e : WireError) → VarintFaults bytes d → VarintFaults bytes e → d ≡ e
one_fault bytes Cut Cut f g = refl
one_fault bytes Cut BadVarint f g = absurd (omega (arith, f.short, g.ten))
one_fault bytes Cut BadWireType f g = absurd g
one_fault bytes Cut BadTag f g = absurd g
one_fault bytes BadVarint Cut f g = absurd (omega (arith, g.short, f.ten))
one_fault bytes BadVarint BadVarint f g = refl
one_fault bytes BadVarint BadWireType f g = absurd g
one_fault bytes BadVarint BadTag f g = absurd g
one_fault bytes BadWireType e f g = absurd f
one_fault bytes BadTag e f g = absurd f

pub one_varint_result : (bytes : List ℕ) (x y : Result (ℕ × List ℕ) WireError) → VarintIs bytes x → VarintIs bytes y → x ≡ y
one_varint_result bytes (Ok x) (Ok y) p q =
    let same = one_varint p.0 q.0 x.1 y.1 x.0 y.0 p.2 q.2 (sym p.1 ∙ q.1) in
    ap (λ n. Ok (n, x.1)) same.0 ∙ ap (λ r. Ok (y.0, r)) same.1
one_varint_result bytes (Ok x) (Err e) p q = absurd (no_fault bytes x.0 x.1 e p q)
one_varint_result bytes (Err d) (Ok y) p q = absurd (no_fault bytes y.0 y.1 d q p)
one_varint_result bytes (Err d) (Err e) p q = ap (λ f. Err f) (one_fault bytes d e p q)

-- a varint ends at the index i
pub ends_at : (bytes : List ℕ) (i v : ℕ) → i < length bytes → i ≤ 9 → IsFollowed bytes i → slice_index bytes i < 128 → (i ≡ 9 → slice_index bytes i ≤ 1)
    → v ≡ sevens (take (i + 1) bytes) → Begins (λ front. IsVarint front v) bytes (drop (i + 1) bytes)
ends_at bytes i v below nine goes_on last tenth value = (
  take (i + 1) bytes,
  sym (take-append-drop (i + 1) bytes),
  record {
    last = i;
    size = length-take-le (i + 1) bytes (omega arith);
    at_most_ten = omega arith;
    goes_on = λ k h. rw (get_or-take (i + 1) bytes k 0 (omega arith)) (goes_on k h);
    ends = rw (get_or-take (i + 1) bytes i 0 (omega arith)) last;
    tenth = elim (cases_eq i 9) [
      | inl here ↦ (let at : get_or (take (i + 1) bytes) 9 0 ≡ get_or bytes 9 0 = get_or-take (i + 1) bytes 9 0 (omega arith) in
          rw at (rw here at (tenth here)))
      | inr away ↦ (let past : length (take (i + 1) bytes) ≤ 9 = rw (length-take-le (i + 1) bytes (omega arith)) (omega arith) in
          rw (get_or_past (take (i + 1) bytes) 9 0 past) (omega arith))
    ];
    value = value;
  },
)

-- the first byte that goes no further
goes_on_more : (byte : ℕ) (bytes : List ℕ) (n : ℕ) → 128 ≤ byte → IsFollowed bytes n → IsFollowed (byte ∷ bytes) (suc n)
goes_on_more byte bytes n high on zero h = high
goes_on_more byte bytes n high on (suc i) h = on i (omega arith)

going_on-on : (bytes : List ℕ) → IsFollowed bytes (going_on bytes)
going_on-on [] = λ i h. absurd (omega arith)
going_on-on (byte ∷ bytes) =
    elim (cases_lt byte 128) [
      | inl low ↦ rw (lt-ltb byte 128 low) (λ i h. absurd (omega arith))
      | inr high ↦ rw (le-ltb byte 128 high) (goes_on_more byte bytes (going_on bytes) high (going_on-on bytes))
    ]

going_on-within : (bytes : List ℕ) → going_on bytes ≤ length bytes
going_on-within [] = omega arith
going_on-within (byte ∷ bytes) =
    elim (cases_lt byte 128) [
      | inl low ↦ rw (lt-ltb byte 128 low) (omega arith)
      | inr high ↦ rw (le-ltb byte 128 high) (omega (arith, going_on-within bytes))
    ]

going_on-ends : (bytes : List ℕ) → going_on bytes < length bytes → slice_index bytes (going_on bytes) < 128
going_on-ends [] inside = absurd (omega arith)
going_on-ends (byte ∷ bytes) inside =
    elim (cases_lt byte 128) [
      | inl low ↦ rw (lt-ltb byte 128 low) low
      | inr high ↦ (let rest : suc (going_on bytes) < suc (length bytes) = rw (le-ltb byte 128 high) at inside in
          rw (le-ltb byte 128 high) (going_on-ends bytes (omega arith)))
    ]

-- a varint that goes on over nine bytes at most ends, or is cut
ended : (bytes : List ℕ) → going_on bytes ≤ 9 → (going_on bytes ≡ 9 → slice_index bytes (going_on bytes) ≤ 1)
    → VarintIs bytes (if nat_lt (going_on bytes) (length bytes) then Ok (sevens (take (going_on bytes + 1) bytes), drop (going_on bytes + 1) bytes) else Err Cut)
ended bytes nine tenth =
    elim (cases_lt (going_on bytes) (length bytes)) [
      | inl inside ↦ rw (lt-ltb (going_on bytes) (length bytes) inside)
          (ends_at bytes (going_on bytes) (sevens (take (going_on bytes + 1) bytes)) inside nine (going_on-on bytes) (going_on-ends bytes inside) tenth refl)
      | inr past ↦ (let short : length bytes < 10 = omega (arith, going_on-within bytes) in
          rw (le-ltb (going_on bytes) (length bytes) past) (record { short = short; goes_on = λ i h. going_on-on bytes i (omega arith) }))
    ]

-- a tenth byte that is too large is there, and the nine before it go on
too_long : (bytes : List ℕ) → 8 < going_on bytes → 1 < slice_index bytes 9 → IsLongVarint bytes
too_long bytes many long = record {
  ten = elim (cases_lt 9 (length bytes)) [
    | inl inside ↦ omega arith
    | inr past ↦ absurd (omega (arith, long, get_or_past bytes 9 0 past))
  ];
  goes_on = λ i h. going_on-on bytes i (omega arith);
  tenth = long;
}

-- what `first_varint` returns is at the front
pub first_varint_is : (bytes : List ℕ) → VarintIs bytes (first_varint bytes)
unfolding first_varint
first_varint_is bytes =
    elim (cases_lt 8 (going_on bytes)) [
      | inl many ↦ elim (cases_lt 1 (slice_index bytes 9)) [
        | inl long ↦ rw (lt-ltb 8 (going_on bytes) many, lt-ltb 1 (slice_index bytes 9) long) (too_long bytes many long)
        | inr fits ↦ (let nine : going_on bytes ≤ 9 = elim (cases_lt 9 (going_on bytes)) [ inl on ↦ absurd (omega (arith, going_on-on bytes 9 on)) | inr at_most ↦ at_most ] in
            rw (lt-ltb 8 (going_on bytes) many, le-ltb 1 (slice_index bytes 9) fits) (ended bytes nine (λ is. rw is fits)))
      ]
      | inr few ↦ rw (le-ltb 8 (going_on bytes) few) (ended bytes (omega arith) (λ is. absurd (omega arith)))
    ]
