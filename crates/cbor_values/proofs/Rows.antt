-- Things one after the other, in general.
use Rattle.std.proofs.Common.{◌≡◌, ℕ, zero, suc, ◌<◌, ◌≤◌, List, [], ◌∷◌, ◌++◌, length, None, Ok, Err, refl, sym, ap, ◌∙◌, append_assoc, arith, inl, inr}
use Rattle.std.proofs.lemmas.Bool.{cases_eq, ne_eqb}
use Rattle.std.proofs.lemmas.List.{length-append}
use Rattle.cbor_values.specs.declared.refusal.CborRefusal.TheVariants.{Cut, BadHead}
use Rattle.cbor_values.specs.Reading.{ValueReading, break_at, many_at, until_at, open_at}

-- the bytes are the things, each in its relation to some of the bytes
pub data Row {X : Type 0} (R : List ℕ → X → Type 0) : List ℕ → List X → Type 0 where
  no_more : Row R [] []
  one_more : (bytes others : List ℕ) (x : X) (xs : List X) → R bytes x → Row R others xs
      → Row R (bytes ++ others) (x ∷ xs)

-- what is in a row is read again
pub many_again : {X : Type 0} (R : List ℕ → X → Type 0) (one : List ℕ → ValueReading X)
    → ((bytes : List ℕ) (x : X) → R bytes x → (rest : List ℕ) → one (bytes ++ rest) ≡ Ok (x, rest))
    → (bytes : List ℕ) (xs : List X) → Row R bytes xs → (rest : List ℕ)
    → many_at one (length xs) (bytes ++ rest) ≡ Ok (xs, rest)
unfolding many_at
many_again R one again _ _ no_more rest = refl
many_again R one again _ _ (one_more bytes others x xs r row) rest =
    ap (many_at one (suc (length xs))) (append_assoc bytes others rest)
    ∙ rw (again bytes x r (others ++ rest), many_again R one again others xs row rest) refl

-- a reader of things takes neither nothing nor a break
pub record Starts {X : Type 0} (one : List ℕ → ValueReading X) : Type 0 where
  pub nothing : one [] ≡ Err Cut
  pub broken : (rest : List ℕ) → one (255 ∷ rest) ≡ Err BadHead

pub unbroken : {X : Type 0} (one : List ℕ → ValueReading X) → Starts one → (bytes : List ℕ) (x : X × List ℕ)
    → one bytes ≡ Ok x → break_at bytes ≡ None
unbroken one starts [] x e = refl
unbroken {X} one starts (first ∷ rest) x e =
    elim (cases_eq first 255) [
      | inl same ↦ absurd (let broken : one (first ∷ rest) ≡ Err BadHead = rw same (starts.broken rest) in
          let clash : Err BadHead ≡ Ok x = sym broken ∙ e in cc)
      | inr other ↦ rw (ne_eqb first 255 other) refl
    ]

pub some_bytes : {X : Type 0} (one : List ℕ → ValueReading X) → Starts one → (bytes : List ℕ) (x : X × List ℕ)
    → one bytes ≡ Ok x → 0 < length bytes
some_bytes one starts [] x e = absurd (let clash : Err Cut ≡ Ok x = sym starts.nothing ∙ e in cc)
some_bytes one starts (first ∷ rest) x e = omega arith

-- the same up to a break
pub until_again : {X : Type 0} (R : List ℕ → X → Type 0) (one : List ℕ → ValueReading X) → Starts one
    → ((bytes : List ℕ) (x : X) → R bytes x → (rest : List ℕ) → one (bytes ++ rest) ≡ Ok (x, rest))
    → (bytes : List ℕ) (xs : List X) → Row R bytes xs → (fuel : ℕ) → length xs ≤ fuel → (rest : List ℕ)
    → until_at one fuel (bytes ++ 255 ∷ rest) ≡ Ok (xs, rest)
unfolding until_at
until_again R one starts again _ _ no_more zero enough rest = refl
until_again R one starts again _ _ no_more (suc fuel) enough rest = refl
until_again R one starts again _ _ (one_more bytes others x xs r row) zero enough rest = absurd (omega arith)
until_again R one starts again _ _ (one_more bytes others x xs r row) (suc fuel) enough rest =
    let here = again bytes x r (others ++ 255 ∷ rest) in
    ap (until_at one (suc fuel)) (append_assoc bytes others (255 ∷ rest))
    ∙ rw (unbroken one starts (bytes ++ (others ++ 255 ∷ rest)) (x, others ++ 255 ∷ rest) here, here, until_again R one starts again others xs row fuel (omega arith) rest) refl

-- each thing takes a byte at least
row_len : {X : Type 0} (R : List ℕ → X → Type 0) (one : List ℕ → ValueReading X) → Starts one
    → ((bytes : List ℕ) (x : X) → R bytes x → (rest : List ℕ) → one (bytes ++ rest) ≡ Ok (x, rest))
    → (bytes : List ℕ) (xs : List X) → Row R bytes xs → length xs ≤ length bytes
row_len R one starts again _ _ no_more = omega arith
row_len R one starts again _ _ (one_more bytes others x xs r row) =
    let here = some_bytes one starts (bytes ++ []) (x, []) (again bytes x r []) in
    let there = row_len R one starts again others xs row in
    omega (arith, length-append bytes others, length-append bytes [], here, there)

pub open_again : {X : Type 0} (R : List ℕ → X → Type 0) (one : List ℕ → ValueReading X) → Starts one
    → ((bytes : List ℕ) (x : X) → R bytes x → (rest : List ℕ) → one (bytes ++ rest) ≡ Ok (x, rest))
    → (bytes : List ℕ) (xs : List X) → Row R bytes xs → (rest : List ℕ)
    → open_at one (bytes ++ 255 ∷ rest) ≡ Ok (xs, rest)
unfolding open_at
open_again R one starts again bytes xs row rest =
    let few = row_len R one starts again bytes xs row in
    until_again R one starts again bytes xs row (length (bytes ++ 255 ∷ rest)) (omega (arith, few, length-append bytes (255 ∷ rest))) rest
