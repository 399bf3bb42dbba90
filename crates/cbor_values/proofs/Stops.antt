-- Where a reading of one after the other stops.
use Rattle.std.proofs.Common.{◌≡◌, ℕ, zero, suc, ◌<◌, ◌≤◌, List, [], ◌∷◌, ◌++◌, length, Option, Some, None, Err, refl, sym, ap, ◌∙◌, append_assoc, arith, inl, inr}
use Rattle.lists.proofs.AllBytes.{IsBytes}
use Rattle.cbor_values.specs.declared.refusal.CborRefusal.{CborRefusal}
use Rattle.cbor_values.specs.declared.refusal.CborRefusal.TheVariants.{Cut}
use Rattle.lists.specs.Results.{◌>>=◌}
use Rattle.cbor_values.specs.Reading.{ValueReading, break_at, many_at, until_at, open_at}
use Rattle.cbor_values.proofs.Steps.{bind_err, err_is, failed, got}
use Rattle.cbor_values.proofs.Rows.{Row, no_more, one_more}
use Rattle.cbor_values.proofs.Loops.{Reader, shorter}

-- things were read, and then the reading of one failed
pub record Stopped {X : Type 0} (R : List ℕ → X → Type 0) (one : List ℕ → ValueReading X) (e : CborRefusal) (bytes : List ℕ) (xs : List X) : Type 0 where
  pub front : List ℕ
  pub rest : List ℕ
  pub row : Row R front xs
  pub parts : bytes ≡ front ++ rest
  pub fits : IsBytes rest
  pub fails : one rest ≡ Err e

stopped_more : {X : Type 0} (R : List ℕ → X → Type 0) (one : List ℕ → ValueReading X) (e : CborRefusal)
    → Reader R one → (bytes : List ℕ) (x : X) (after : List ℕ) (xs : List X) → IsBytes bytes → one bytes ≡ got x after
    → Stopped R one e after xs → Stopped R one e bytes (x ∷ xs)
stopped_more R one e reader bytes x after xs fits read s =
    let t = reader.takes bytes x after fits read in
    record {
      front = t.front ++ s.front;
      rest = s.rest;
      row = one_more t.front s.front x xs t.is s.row;
      parts = t.parts ∙ ap (λ (r : List ℕ). t.front ++ r) s.parts ∙ sym (append_assoc t.front s.front s.rest);
      fits = s.fits;
      fails = s.fails;
    }

stopped_here : {X : Type 0} (R : List ℕ → X → Type 0) (one : List ℕ → ValueReading X) (e : CborRefusal) (bytes : List ℕ)
    → IsBytes bytes → one bytes ≡ Err e → Stopped R one e bytes []
stopped_here R one e bytes fits fails = record { front = []; rest = bytes; row = no_more; parts = refl; fits = fits; fails = fails }

pub many_stops : {X : Type 0} (R : List ℕ → X → Type 0) (one : List ℕ → ValueReading X) (e : CborRefusal) → Reader R one
    → (n : ℕ) (bytes : List ℕ) → IsBytes bytes → many_at one n bytes ≡ Err e
    → (xs : List X) × (length xs < n) × Stopped R one e bytes xs
unfolding many_at
many_stops R one e reader zero bytes fits fails = absurd cc
many_stops {X} R one e reader (suc n) bytes fits fails =
    elim (bind_err (one bytes) (λ first. many_at one n first.1 >>= λ others. got (first.0 ∷ others.0) others.1) e fails) [
      | inl here ↦ ([], omega arith, stopped_here R one e bytes fits here)
      | inr later ↦
          let first = later.0 in
          elim (bind_err (many_at one n first.1) (λ others. got (first.0 ∷ others.0) others.1) e later.2) [
            | inl there ↦
                let s = shorter R one reader bytes first.0 first.1 fits later.1 in
                let rest = many_stops R one e reader n first.1 s.1 there in
                (first.0 ∷ rest.0, omega (arith, rest.1), stopped_more R one e reader bytes first.0 first.1 rest.0 fits later.1 rest.2)
            | inr never ↦ absurd (let clash = never.2 in cc)
          ]
    ]

pub until_stops : {X : Type 0} (R : List ℕ → X → Type 0) (one : List ℕ → ValueReading X) (e : CborRefusal) → Reader R one
    → (fuel : ℕ) (bytes : List ℕ) → length bytes ≤ fuel → IsBytes bytes → until_at one fuel bytes ≡ Err e
    → (xs : List X) × ((s : Stopped R one e bytes xs) × (break_at s.rest ≡ None))
unfolding until_at stopped_here stopped_more
until_stops {X} R one e reader zero [] enough fits fails =
    let same : Cut ≡ e = err_is {A = List X × List ℕ} Cut e fails in
    ([], (stopped_here R one e [] fits (reader.starts.nothing ∙ ap (failed (X × List ℕ)) same), refl))
until_stops R one e reader zero (first ∷ bytes) enough fits fails = absurd (omega arith)
until_stops {X} R one e reader (suc fuel) bytes enough fits fails =
    go (break_at bytes) refl (λ rest few inner stops. until_stops R one e reader fuel rest few inner stops)
  where
    go : (o : Option (List ℕ)) → break_at bytes ≡ o
        → ((rest : List ℕ) → length rest ≤ fuel → IsBytes rest → until_at one fuel rest ≡ Err e → (xs : List X) × ((s : Stopped R one e rest xs) × (break_at s.rest ≡ None)))
        → (xs : List X) × ((s : Stopped R one e bytes xs) × (break_at s.rest ≡ None))
    go (Some after) broken again = absurd (let clash = rw broken at fails in cc)
    go None unbroken again =
        let read = rw unbroken at fails in
        elim (bind_err (one bytes) (λ first. until_at one fuel first.1 >>= λ others. got (first.0 ∷ others.0) others.1) e read) [
          | inl here ↦ ([], (stopped_here R one e bytes fits here, unbroken))
          | inr later ↦
              let first = later.0 in
              elim (bind_err (until_at one fuel first.1) (λ others. got (first.0 ∷ others.0) others.1) e later.2) [
                | inl there ↦
                    let s = shorter R one reader bytes first.0 first.1 fits later.1 in
                    let rest = again first.1 (omega (arith, s.0)) s.1 there in
                    (first.0 ∷ rest.0, (stopped_more R one e reader bytes first.0 first.1 rest.0 fits later.1 rest.1.0, rest.1.1))
                | inr never ↦ absurd (let clash = never.2 in cc)
              ]
        ]

pub open_stops : {X : Type 0} (R : List ℕ → X → Type 0) (one : List ℕ → ValueReading X) (e : CborRefusal) → Reader R one
    → (bytes : List ℕ) → IsBytes bytes → open_at one bytes ≡ Err e
    → (xs : List X) × ((s : Stopped R one e bytes xs) × (break_at s.rest ≡ None))
unfolding open_at
open_stops R one e reader bytes fits fails = until_stops R one e reader (length bytes) bytes (omega arith) fits fails
