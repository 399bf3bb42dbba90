-- What the code returns of parts, one after the other, as loops do.
use Rattle.std.proofs.Common.{◌≡◌, ℕ, suc, ◌+◌, ◌-◌, ◌^◌, ◌<◌, ◌≤◌, min, List, [], ◌∷◌, ◌++◌, Some, None, Err, refl, sym, ◌∙◌, arith}
use Rattle.std.proofs.lemmas.List.{length-append}
use Rattle.lists.proofs.AllBytes.{IsBytes}
use Rattle.otlp_model.specs.Weight.{total}
use Rattle.cbor_values.specs.declared.refusal.CborRefusal.{CborRefusal}
use Rattle.cbor_values.specs.declared.refusal.CborRefusal.TheVariants.{Cut}
use Rattle.cbor_values.specs.Reading.{ValueReading, break_at, many_at, until_at, open_at}
use Rattle.cbor_values.specs.Returned.{IsTold, long}
use Rattle.cbor_values.proofs.Steps.{got}
use Rattle.cbor_values.proofs.Rows.{Starts}
use Rattle.cbor_values.proofs.Loops.{Reader, shorter, with_front, with_text, goes_on, is_done, open_goes_on, open_is_done, chunks_go_on, chunks_are_done}

-- what the parts so far weigh, with 32 for each
abbrev pub capped_total : {X : Type 0} → (X → ℕ) → List X → ℕ
capped_total weigh parts = min (total 32 weigh parts) (2 ^ 63)

total_more : {X : Type 0} (weigh : X → ℕ) (front : List X) (x : X) → total 32 weigh (front ++ x ∷ []) ≡ total 32 weigh front + (32 + weigh x)
total_more weigh [] x = omega arith
total_more weigh (y ∷ front) x = omega (arith, total_more weigh front x)

weight_more : {X : Type 0} (weigh : X → ℕ) (front : List X) (x : X) (weight new : ℕ) → weight ≡ capped_total weigh front
    → new ≡ min (weight + min (32 + min (weigh x) (2 ^ 63)) (2 ^ 63)) (2 ^ 63) → new ≡ capped_total weigh (front ++ x ∷ [])
weight_more weigh front x weight new so_far more = omega (arith, total_more weigh front x)

-- ---- exactly n of them

pub record ManyTold {X : Type 0} (weigh : X → ℕ) (one : List ℕ → ValueReading X) (count i weight : ℕ) (rest : List ℕ) (all : ValueReading (List X)) : Type 0 where
  pub front : List X
  pub of : weight ≡ capped_total weigh front
  pub told : with_front front (many_at one (count - i) rest) ≡ all

pub many_more : {X : Type 0} (weigh : X → ℕ) (one : List ℕ → ValueReading X) (count i weight new : ℕ) (rest : List ℕ) (x : X) (after : List ℕ) (all : ValueReading (List X))
    → i < count → ManyTold weigh one count i weight rest all → one rest ≡ got x after
    → new ≡ min (weight + min (32 + min (weigh x) (2 ^ 63)) (2 ^ 63)) (2 ^ 63) → ManyTold weigh one count (i + 1) new after all
many_more weigh one count i weight new rest x after all more so_far e is = record {
  front = so_far.front ++ x ∷ [];
  of = weight_more weigh so_far.front x weight new so_far.of is;
  told = goes_on one so_far.front count i rest x after all more e so_far.told;
}

pub many_done : {X : Type 0} (weigh : X → ℕ) (one : List ℕ → ValueReading X) (count i weight : ℕ) (rest : List ℕ) (all : ValueReading (List X))
    → count ≤ i → ManyTold weigh one count i weight rest all → IsTold (capped_total weigh) all weight rest
many_done weigh one count i weight rest all none so_far = record {
  value = so_far.front;
  is = is_done one so_far.front count i rest all none so_far.told;
  of = so_far.of;
}

pub many_fails : {X : Type 0} (weigh : X → ℕ) (one : List ℕ → ValueReading X) (count i weight : ℕ) (rest : List ℕ) (all : ValueReading (List X)) (e : CborRefusal)
    → i < count → ManyTold weigh one count i weight rest all → one rest ≡ Err e → all ≡ Err e
unfolding many_at
many_fails weigh one count i weight rest all e more so_far fails =
    let next : count - i ≡ suc (count - (i + 1)) = omega arith in
    let step : with_front so_far.front (many_at one (count - i) rest) ≡ Err e = rw (next, fails) refl in
    sym so_far.told ∙ step

-- ---- up to a break

pub record OpenTold {X : Type 0} (weigh : X → ℕ) (one : List ℕ → ValueReading X) (weight : ℕ) (rest : List ℕ) (all : ValueReading (List X)) : Type 0 where
  pub front : List X
  pub of : weight ≡ capped_total weigh front
  pub told : with_front front (open_at one rest) ≡ all
  pub fits : IsBytes rest

pub open_more : {X : Type 0} (weigh : X → ℕ) (R : List ℕ → X → Type 0) (one : List ℕ → ValueReading X) → Reader R one
    → (weight new : ℕ) (rest : List ℕ) (x : X) (after : List ℕ) (all : ValueReading (List X))
    → break_at rest ≡ None → OpenTold weigh one weight rest all → one rest ≡ got x after
    → new ≡ min (weight + min (32 + min (weigh x) (2 ^ 63)) (2 ^ 63)) (2 ^ 63) → OpenTold weigh one new after all
open_more weigh R one reader weight new rest x after all whole so_far e is = record {
  front = so_far.front ++ x ∷ [];
  of = weight_more weigh so_far.front x weight new so_far.of is;
  told = open_goes_on R one reader so_far.front rest x after all so_far.fits whole e so_far.told;
  fits = (shorter R one reader rest x after so_far.fits e).1;
}

pub open_done : {X : Type 0} (weigh : X → ℕ) (one : List ℕ → ValueReading X) (weight : ℕ) (rest after : List ℕ) (all : ValueReading (List X))
    → break_at rest ≡ Some after → OpenTold weigh one weight rest all → IsTold (capped_total weigh) all weight after
open_done weigh one weight rest after all broken so_far = record {
  value = so_far.front;
  is = open_is_done one so_far.front rest after all broken so_far.told;
  of = so_far.of;
}

open_fails_at : {X : Type 0} (one : List ℕ → ValueReading X) → Starts one → (rest : List ℕ) (e : CborRefusal) → break_at rest ≡ None → one rest ≡ Err e
    → open_at one rest ≡ Err e
unfolding open_at until_at
open_fails_at one starts [] e whole fails = let clash : Err Cut ≡ Err e = sym starts.nothing ∙ fails in cc
open_fails_at one starts (first ∷ rest) e whole fails = rw (whole, fails) refl

pub open_fails : {X : Type 0} (weigh : X → ℕ) (one : List ℕ → ValueReading X) → Starts one → (weight : ℕ) (rest : List ℕ) (all : ValueReading (List X)) (e : CborRefusal)
    → break_at rest ≡ None → OpenTold weigh one weight rest all → one rest ≡ Err e → all ≡ Err e
open_fails weigh one starts weight rest all e whole so_far fails =
    let step : with_front so_far.front (open_at one rest) ≡ Err e = rw (open_fails_at one starts rest e whole fails) refl in
    sym so_far.told ∙ step

-- ---- chunks

pub record ChunksTold (one : List ℕ → ValueReading (List ℕ)) (len : ℕ) (rest : List ℕ) (all : ValueReading (List ℕ)) : Type 0 where
  pub text : List ℕ
  pub of : len ≡ long text
  pub told : with_text text (open_at one rest) ≡ all
  pub fits : IsBytes rest

pub chunks_more : (R : List ℕ → List ℕ → Type 0) (one : List ℕ → ValueReading (List ℕ)) → Reader R one
    → (len new : ℕ) (rest part after : List ℕ) (all : ValueReading (List ℕ)) → break_at rest ≡ None → ChunksTold one len rest all
    → one rest ≡ got part after → new ≡ min (len + long part) (2 ^ 63) → ChunksTold one new after all
chunks_more R one reader len new rest part after all whole so_far e is = record {
  text = so_far.text ++ part;
  of = omega (arith, length-append so_far.text part, so_far.of);
  told = chunks_go_on R one reader so_far.text rest part after all so_far.fits whole e so_far.told;
  fits = (shorter R one reader rest part after so_far.fits e).1;
}

pub chunks_done : (one : List ℕ → ValueReading (List ℕ)) (len : ℕ) (rest after : List ℕ) (all : ValueReading (List ℕ))
    → break_at rest ≡ Some after → ChunksTold one len rest all → IsTold long all len after
chunks_done one len rest after all broken so_far = record {
  value = so_far.text;
  is = chunks_are_done one so_far.text rest after all broken so_far.told;
  of = so_far.of;
}

pub chunks_fail : (one : List ℕ → ValueReading (List ℕ)) → Starts one → (len : ℕ) (rest : List ℕ) (all : ValueReading (List ℕ)) (e : CborRefusal)
    → break_at rest ≡ None → ChunksTold one len rest all → one rest ≡ Err e → all ≡ Err e
chunks_fail one starts len rest all e whole so_far fails =
    let step : with_text so_far.text (open_at one rest) ≡ Err e = rw (open_fails_at one starts rest e whole fails) refl in
    sym so_far.told ∙ step
