-- The faults of offsets by their conditions.
use Rattle.std.proofs.Common.{◌≡◌, ℕ, zero, suc, ◌+◌, ◌-◌, ◌*◌, ◌^◌, ◌<◌, ◌≤◌, ◌==◌, ◌&&◌, ◌⊎◌, ◌↔◌, nat_lt, nat_le, if◌then◌else◌, true, false, List, length, Ok, Err, IsOk, refl, ◌∙◌, inl, inr, arith}
use Rattle.std.proofs.lemmas.Bool.{and_parts, and_from, and_cases, and_left, and_right, cases_Bool, cases_lt, cases_eq, eqb-true, eq-eqb}
use Rattle.std.proofs.lemmas.Bool.{ne_eqb, lt-ltb, le-ltb, lt-leb, ltb-false, leb-false, false_from_ne_true, cond-true, cond-false}
use Rattle.std.proofs.Math.Nat.{mul-le-mul_right}
use Rattle.arrow_buffers.specs.declared.fault.BufferFault.TheVariants.{Short, BadOffsets}
use Rattle.arrow_buffers.specs.Below.{all_below}
use Rattle.arrow_buffers.specs.Offsets.{offset_at, offset_before, is_fine_at, offsets_check, AreNone, AreOffsets, IsBad}
use Rattle.arrow_buffers.proofs.EachBelow.{all_below-at, all_below-each, all_below-fails, all_below-where}
use Rattle.arrow_buffers.proofs.Spans.{IsFine, AllFine, fine-from, fine-parts, check-cases, span-among}

-- the three ways of the check
check-none : (width : ℕ) (offsets values : List ℕ) (rows : ℕ) → AreNone offsets rows → offsets_check width offsets values rows ≡ Ok tt
unfolding offsets_check
check-none width offsets values rows none =
    rw (and_from (rows == 0) (length offsets == 0) (eq-eqb rows 0 none.0) (eq-eqb (length offsets) 0 none.1)) refl

some-rows : (offsets : List ℕ) (rows : ℕ) → (AreNone offsets rows → ⊥) → (rows == 0 && length offsets == 0) ≡ false
some-rows offsets rows some =
    false_from_ne_true (rows == 0 && length offsets == 0) (λ none.
    let both = and_parts (rows == 0) (length offsets == 0) none in some (eqb-true rows 0 both.0, eqb-true (length offsets) 0 both.1))

check-short : (width : ℕ) (offsets values : List ℕ) (rows : ℕ) → (AreNone offsets rows → ⊥) → length offsets < 4 * (rows + 1) → offsets_check width offsets values rows ≡ Err Short
unfolding offsets_check
check-short width offsets values rows some short =
    rw (some-rows offsets rows some, lt-ltb (length offsets) (4 * (rows + 1)) short) refl

check-each : (width : ℕ) (offsets values : List ℕ) (rows : ℕ) → (AreNone offsets rows → ⊥) → 4 * (rows + 1) ≤ length offsets
    → offsets_check width offsets values rows ≡ (if all_below (is_fine_at width offsets values) (rows + 1) then Ok tt else Err BadOffsets)
unfolding offsets_check
check-each width offsets values rows some enough =
    rw (some-rows offsets rows some, le-ltb (length offsets) (4 * (rows + 1)) enough) refl

-- what rises by each step rises
rising-le : (f : ℕ → ℕ) (n : ℕ) → ((k : ℕ) → k < n → f k ≤ f (k + 1)) → (i : ℕ) → i ≤ n → f i ≤ f n
rising-le f zero rising i below = let e : i ≡ 0 = omega arith in rw e (omega arith)
rising-le f (suc n) rising i below =
    elim (cases_eq i (suc n)) [
      | inl e ↦ rw e (omega arith)
      | inr ne ↦
          let earlier = rising-le f n (λ k less. rising k (omega arith)) i (omega arith) in
          let next : n + 1 ≡ suc n = omega arith in
          let last : f n ≤ f (suc n) = rw next at (rising n (omega arith)) in
          omega arith
    ]

-- fine offsets are those that the format wants
pub fine-offsets : (width : ℕ) (offsets values : List ℕ) (rows : ℕ) → AllFine width offsets values rows → AreOffsets width offsets values rows
fine-offsets width offsets values rows all =
    let fine : (place : ℕ) → place < rows + 1 → IsFine (offset_before offsets place) (offset_at offsets place) width (length values) =
    λ place below. fine-parts _ _ _ _ (all_below-at (is_fine_at width offsets values) (rows + 1) place all.fine below) in
    record {
      enough = all.enough;
      not_negative = λ place within. (fine place (omega arith)).fits;
      rising = λ row below. (span-among width offsets values rows row below all).order;
      within = (fine rows (omega arith)).within;
    }

offsets-fine : (width : ℕ) (offsets values : List ℕ) (rows : ℕ) → AreOffsets width offsets values rows → all_below (is_fine_at width offsets values) (rows + 1) ≡ true
offsets-fine width offsets values rows are =
    all_below-each (is_fine_at width offsets values) (rows + 1) (λ place below.
    let last = rising-le (offset_at offsets) rows are.rising place (omega arith) in
    let reach : offset_at offsets place * width ≤ offset_at offsets rows * width = mul-le-mul_right width last in
    let end = are.within in
    let order : offset_before offsets place ≤ offset_at offsets place =
    elim (cases_eq place 0) [
      | inl first ↦ rw (eq-eqb place 0 first) (omega arith)
      | inr later ↦
          let step = are.rising (place - 1) (omega arith) in
          let back : place - 1 + 1 ≡ place = omega arith in
          rw (ne_eqb place 0 later) (rw back at step)
    ] in
    fine-from (offset_before offsets place) (offset_at offsets place) width (length values) (record { fits = are.not_negative place (omega arith); order = order; within = omega arith }))

-- a bad offset is one that is not fine
bad-from : (width : ℕ) (offsets values : List ℕ) (place : ℕ) → is_fine_at width offsets values place ≡ false → IsBad width offsets values place
bad-from width offsets values place fails =
    elim (and_cases (nat_lt (offset_at offsets place) (2 ^ 31)) (nat_le (offset_before offsets place) (offset_at offsets place) && nat_le (offset_at offsets place * width) (length values)) fails) [
      | inl negative ↦ inl (ltb-false _ _ negative)
      | inr rest ↦
          elim (and_cases (nat_le (offset_before offsets place) (offset_at offsets place)) (nat_le (offset_at offsets place * width) (length values)) rest) [
            | inl falls ↦ inr (inl (leb-false _ _ falls))
            | inr past ↦ inr (inr (leb-false _ _ past))
          ]
    ]

bad-to : (width : ℕ) (offsets values : List ℕ) (place : ℕ) → IsBad width offsets values place → is_fine_at width offsets values place ≡ false
bad-to width offsets values place (inl negative) = and_left _ _ (le-ltb _ _ negative)
bad-to width offsets values place (inr (inl falls)) = and_right _ _ (and_left _ _ (lt-leb _ _ falls))
bad-to width offsets values place (inr (inr past)) = and_right _ _ (and_right _ _ (lt-leb _ _ past))

-- the laws
pub no-fault-law : (width : ℕ) (offsets values : List ℕ) (rows : ℕ) → IsOk (offsets_check width offsets values rows) ↔ (AreNone offsets rows ⊎ AreOffsets width offsets values rows)
no-fault-law width offsets values rows = (
  λ ok. elim (check-cases width offsets values rows ok) [ inl none ↦ inl none | inr all ↦ inr (fine-offsets width offsets values rows all) ],
  λ e. elim e [
    | inl none ↦ rw (check-none width offsets values rows none) refl
    | inr are ↦
        let enough = are.enough in
        rw (check-each width offsets values rows (λ none. absurd (omega (arith, none.1))) enough, offsets-fine width offsets values rows are) refl
  ],
)

pub short-law : (width : ℕ) (offsets values : List ℕ) (rows : ℕ) → (offsets_check width offsets values rows ≡ Err Short) ↔ ((AreNone offsets rows → ⊥) × (length offsets < 4 * (rows + 1)))
short-law width offsets values rows = (
  λ is.
      let some : AreNone offsets rows → ⊥ = λ none. let ok = check-none width offsets values rows none in cc in (
        some,
        elim (cases_lt (length offsets) (4 * (rows + 1))) [
          | inl short ↦ short
          | inr enough ↦
              let each = check-each width offsets values rows some enough in
              absurd (elim (cases_Bool (all_below (is_fine_at width offsets values) (rows + 1))) [
                | inl fine ↦ let ok = each ∙ cond-true _ (Ok tt) (Err BadOffsets) fine in cc
                | inr bad ↦ let err = each ∙ cond-false _ (Ok tt) (Err BadOffsets) bad in cc
              ])
        ],
      ),
  λ h. check-short width offsets values rows h.0 h.1,
)

pub bad-law : (width : ℕ) (offsets values : List ℕ) (rows : ℕ) → (offsets_check width offsets values rows ≡ Err BadOffsets)
    ↔ ((AreNone offsets rows → ⊥) × (4 * (rows + 1) ≤ length offsets) × ((place : ℕ) × (place ≤ rows) × IsBad width offsets values place))
bad-law width offsets values rows = (
  λ is.
      let some : AreNone offsets rows → ⊥ = λ none. let ok = check-none width offsets values rows none in cc in
      let enough : 4 * (rows + 1) ≤ length offsets =
      elim (cases_lt (length offsets) (4 * (rows + 1))) [
        | inl short ↦ absurd (let err = check-short width offsets values rows some short in cc)
        | inr enough ↦ enough
      ] in
      let each = check-each width offsets values rows some enough in
      let fails : all_below (is_fine_at width offsets values) (rows + 1) ≡ false =
      false_from_ne_true _ (λ fine. let ok = each ∙ cond-true _ (Ok tt) (Err BadOffsets) fine in cc) in
      let where_ = all_below-where (is_fine_at width offsets values) (rows + 1) fails in
      (some, enough, (where_.0, omega (arith, where_.1), bad-from width offsets values where_.0 where_.2)),
  λ h.
      let place = h.2.0 in
      let fails = all_below-fails (is_fine_at width offsets values) (rows + 1) place (bad-to width offsets values place h.2.2) (omega (arith, h.2.1)) in
      rw (check-each width offsets values rows h.0 h.1, fails) refl,
)
