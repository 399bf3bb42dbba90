-- The schema ids of a segment: each opening has a new number, so no id is open for two types.
use Rattle.std.proofs.Common.{◌≡◌, ℕ, suc, ◌+◌, ◌<◌, ◌≤◌, Bool, true, false, List, [], ◌∷◌, ◌++◌, length, Some, ℤ, inl, inr, if◌then◌else◌}
use Rattle.std.proofs.Common.{refl, sym, ap, ◌∙◌, subst, append-nil, append_assoc, length-append, arith}
use Rattle.std.specs.Prelude.{◌⊎◌, ◌^◌}
use Rattle.std.specs.Fmt.{decimal}
use Rattle.std.specs.Str.{IsUtf8}
use Rattle.std.specs.Str.Parse.{digits_value}
use Rattle.std.proofs.lemmas.Bool.{cases_Bool}
use Rattle.std.proofs.lemmas.Bool.Decides.{Decides-int_eq}
use Rattle.std.proofs.lemmas.Fmt.{decimal_is_IsNumeral_wide, IsAscii-decimal_wide}
use Rattle.std.proofs.lemmas.Str.{IsUtf8-from_ascii}
use Rattle.lists.specs.Payloads.{PayloadIn}
use Rattle.otap_columns.specs.Streams.{is_of, opens, open_id}
use Rattle.otap_columns.specs.TableSets.{openings, openings_after}
use Rattle.otap_columns.proofs.Openings.{open_id-other, open_id-own, stays_open}

-- ---- openings

swapped : (b c : Bool) (n : ℕ) → (if b then suc (if c then suc n else n) else (if c then suc n else n)) ≡ (if c then suc (if b then suc n else n) else (if b then suc n else n))
swapped true true n = refl
swapped true false n = refl
swapped false true n = refl
swapped false false n = refl

after_push : (past ps : List PayloadIn) (p : PayloadIn)
    → openings_after past (ps ++ p ∷ []) ≡ (if opens (past ++ ps) p then suc (openings_after past ps) else openings_after past ps)
after_push past [] p = rw (append-nil past) refl
after_push past (q ∷ ps) p =
    let rest = after_push (past ++ q ∷ []) ps p in
    rw (rest, append_assoc past (q ∷ []) ps) (swapped (opens past q) (opens (past ++ q ∷ ps) p) (openings_after (past ++ q ∷ []) ps))

pub openings-push : (past : List PayloadIn) (p : PayloadIn) → openings (past ++ p ∷ []) ≡ (if opens past p then suc (openings past) else openings past)
unfolding openings
openings-push past p = after_push [] past p

at_most_one : (b : Bool) (n m : ℕ) → n ≤ m → (if b then suc n else n) ≤ suc m
at_most_one true n m h = omega (arith, h)
at_most_one false n m h = omega (arith, h)

after-le : (past ps : List PayloadIn) → openings_after past ps ≤ length ps
after-le past [] = omega arith
after-le past (q ∷ ps) = at_most_one (opens past q) (openings_after (past ++ q ∷ []) ps) (length ps) (after-le (past ++ q ∷ []) ps)

pub openings-le : (past : List PayloadIn) → openings past ≤ length past
unfolding openings
openings-le past = after-le [] past

-- ---- numbers

-- an id is one of the first numbers
pub record IsBelow (id : List ℕ) (count : ℕ) : Type 0 where
  pub number : ℕ
  pub low : number < count
  pub is : id ≡ decimal number

numbers_differ : (n m : ℕ) → n < m → m < 10 ^ 64 → decimal n ≡ decimal m → ⊥
numbers_differ n m low few same =
    let one : n ≡ m = sym (decimal_is_IsNumeral_wide n (omega (arith, low, few))).1 ∙ ap (λ (bytes : List ℕ). digits_value 10 bytes) same ∙ (decimal_is_IsNumeral_wide m few).1 in
    omega (arith, low, one)

-- ---- the ids that are open

-- each is one of the numbers given so far, and no two types have the same
pub record AreApart (past : List PayloadIn) : Type 0 where
  pub below : (type : ℤ) (id : List ℕ) → open_id type past ≡ Some id → IsBelow id (openings past)
  pub apart : (a b : ℤ) (id : List ℕ) → open_id a past ≡ Some id → open_id b past ≡ Some id → a ≡ b

pub none_open : AreApart []
unfolding open_id
none_open = record { below = λ type id is. absurd (cc is); apart = λ a b id is same. absurd (cc is) }

module _ (past : List PayloadIn) (p : PayloadIn) (apart : AreApart past) (few : length past < 10 ^ 64) (numbered : opens past p ≡ true → p.schema_id ≡ decimal (openings past)) where
  -- its id is open for no other type
  pub is_free : (type : ℤ) → open_id type past ≡ Some p.schema_id → type ≡ p.kind
  is_free type is =
      elim (cases_Bool (opens past p)) [
        | inl opening ↦
            let low : IsBelow p.schema_id (openings past) = apart.below type p.schema_id is in
            absurd (numbers_differ low.number (openings past) low.low (omega (arith, openings-le past, few)) (sym low.is ∙ numbered opening))
        | inr stays ↦ apart.apart type p.kind p.schema_id is (stays_open past p stays)
      ]

  own_below : IsBelow p.schema_id (openings (past ++ p ∷ []))
  own_below =
      elim (cases_Bool (opens past p)) [
        | inl opening ↦
            let more : openings (past ++ p ∷ []) ≡ suc (openings past) = openings-push past p ∙ rw opening refl in
            record { number = openings past; low = omega (arith, more); is = numbered opening }
        | inr stays ↦
            let more : openings (past ++ p ∷ []) ≡ openings past = openings-push past p ∙ rw stays refl in
            let low : IsBelow p.schema_id (openings past) = apart.below p.kind p.schema_id (stays_open past p stays) in
            record { number = low.number; low = omega (arith, more, low.low); is = low.is }
      ]

  grown : (id : List ℕ) → IsBelow id (openings past) → IsBelow id (openings (past ++ p ∷ []))
  grown id low = record {
    number = low.number;
    low =
        elim (cases_Bool (opens past p)) [
          | inl opening ↦ let more : openings (past ++ p ∷ []) ≡ suc (openings past) = openings-push past p ∙ rw opening refl in omega (arith, more, low.low)
          | inr stays ↦ let more : openings (past ++ p ∷ []) ≡ openings past = openings-push past p ∙ rw stays refl in omega (arith, more, low.low)
        ];
    is = low.is;
  }

  -- what is open for a type after it
  abbrev Opens : ℤ → List ℕ → Type 0
  Opens type id = ((type ≡ p.kind) × (id ≡ p.schema_id)) ⊎ (open_id type past ≡ Some id)

  returned : (type : ℤ) (id : List ℕ) → open_id type (past ++ p ∷ []) ≡ Some id → Opens type id
  returned type id is =
      elim (cases_Bool (is_of type p)) [
        | inl own ↦
            let here : Some p.schema_id ≡ Some id = sym (open_id-own type past p own) ∙ is in
            inl (sym ((Decides-int_eq p.kind type).0 own), cc here)
        | inr other ↦ inr (sym (open_id-other type past p other) ∙ is)
      ]

  by_two : (a b : ℤ) (id : List ℕ) → Opens a id → Opens b id → a ≡ b
  by_two a b id (inl (own, is)) (inl (own', is')) = own ∙ sym own'
  by_two a b id (inl (own, is)) (inr there) = own ∙ sym (is_free b (there ∙ ap (λ (x : List ℕ). Some x) is))
  by_two a b id (inr there) (inl (own, is)) = is_free a (there ∙ ap (λ (x : List ℕ). Some x) is) ∙ sym own
  by_two a b id (inr here) (inr there) = apart.apart a b id here there

  below_of : (type : ℤ) (id : List ℕ) → Opens type id → IsBelow id (openings (past ++ p ∷ []))
  below_of type id (inl (own, is)) = subst (λ (x : List ℕ). IsBelow x (openings (past ++ p ∷ []))) (sym is) own_below
  below_of type id (inr there) = grown id (apart.below type id there)

  pub still_apart : AreApart (past ++ p ∷ [])
  still_apart = record {
    below = λ type id is. below_of type id (returned type id is);
    apart = λ a b id is same. by_two a b id (returned a id is) (returned b id same);
  }

  -- and it is a text
  pub id_is_text : IsUtf8 p.schema_id
  id_is_text =
      let low : IsBelow p.schema_id (openings (past ++ p ∷ [])) = own_below in
      let long : length (past ++ p ∷ []) ≡ length past + 1 = length-append past (p ∷ []) in
      let fits : low.number < 10 ^ 64 = omega (arith, low.low, openings-le (past ++ p ∷ []), long, few) in
      subst (λ (id : List ℕ). IsUtf8 id) (sym low.is) (IsUtf8-from_ascii (decimal low.number) (IsAscii-decimal_wide low.number fits))
