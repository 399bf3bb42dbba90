-- Parts that were read lie in the bytes, and stay where they are when bytes are added after them.
use Rattle.std.proofs.Common.{◌≡◌, ℕ, ◌+◌, ◌<◌, ◌≤◌, ltb, List, ◌++◌, length, take, drop, Result, Ok, Err, inl, inr, refl, sym, ap, ◌∙◌, length-append, arith}
use Rattle.std.proofs.Common.{length-drop}
use Rattle.std.proofs.lemmas.Bool.{cases_Bool, ltb-true, ltb-false}
use Rattle.std.proofs.lemmas.List.{length-take-le, take-append-le, drop-append-le}
use Rattle.flat_tables.specs.declared.fault.FlatFault.{FlatFault}
use Rattle.flat_tables.specs.Bytes.{part_at, number_at}
use Rattle.flat_tables.proofs.InWords.{lies_part}

pub record Lies (bytes : List ℕ) (place n : ℕ) (part : List ℕ) : Type 0 where
  pub inside : place + n ≤ length bytes
  pub is : part ≡ take n (drop place bytes)
  pub size : length part ≡ n

pub part_lies : (bytes : List ℕ) (place n : ℕ) (part : List ℕ) → part_at bytes place n ≡ Ok part → Lies bytes place n part
unfolding part_at
part_lies bytes place n part h =
    elim (cases_Bool (ltb (length bytes) (place + n))) [
      | inl past ↦ absurd (cc (rw past at h))
      | inr fits ↦
          let inside : place + n ≤ length bytes = ltb-false (length bytes) (place + n) fits in
          let is : take n (drop place bytes) ≡ part = cc (rw fits at h) in
          record {
            inside = inside;
            is = sym is;
            size = ap length (sym is) ∙ length-take-le n (drop place bytes) (omega (arith, length-drop place bytes));
          }
    ]

pub part_more : (bytes more : List ℕ) (place n : ℕ) (part : List ℕ) → part_at bytes place n ≡ Ok part → part_at (bytes ++ more) place n ≡ Ok part
part_more bytes more place n part h =
    let l : Lies bytes place n part = part_lies bytes place n part h in
    let dropped : drop place (bytes ++ more) ≡ drop place bytes ++ more = drop-append-le place bytes more (omega (arith, l.inside)) in
    let taken : take n (drop place bytes ++ more) ≡ take n (drop place bytes) = take-append-le n (drop place bytes) more (omega (arith, l.inside, length-drop place bytes)) in
    lies_part (bytes ++ more) place n (omega (arith, l.inside, length-append bytes more)) ∙ ap Ok (ap (take n) dropped ∙ taken ∙ sym l.is)

pub number_more : (n : ℕ) (bytes more : List ℕ) (place x : ℕ) → number_at n bytes place ≡ Ok x → number_at n (bytes ++ more) place ≡ Ok x
unfolding number_at
number_more n bytes more place x h = go (part_at bytes place n) refl
  where
    go : (r : Result (List ℕ) FlatFault) → part_at bytes place n ≡ r → number_at n (bytes ++ more) place ≡ Ok x
    go (Ok part) e = rw (part_more bytes more place n part e) (rw e at h)
    go (Err fault) e = absurd (cc (rw e at h))

-- a part that can't be read runs past the bytes
pub part_past : (bytes : List ℕ) (place after n : ℕ) (fault : FlatFault) → place + after ≡ length bytes → part_at bytes place n ≡ Err fault → after < n
unfolding part_at
part_past bytes place after n fault whole h =
    elim (cases_Bool (ltb (length bytes) (place + n))) [
      | inl past ↦ omega (arith, ltb-true (length bytes) (place + n) past)
      | inr fits ↦ absurd (cc (rw fits at h))
    ]
