-- Where the entries of parents begin: what is between two starts is what one parent has.
use Rattle.std.proofs.Common.{◌≡◌, ◌∙◌, ℕ, ◌+◌, ◌-◌, ◌<◌, ◌≤◌, true, false, List, length, get_or, take, drop, inl, inr, sym, ap, arith, length-drop}
use Rattle.std.specs.Prelude.{◌⊎◌, nat_lt, nat_le}
use Rattle.std.specs.List.Sorted.{IsNonDecreasingBy}
use Rattle.std.proofs.lemmas.Bool.{cases_Bool, lt-ltb, le-ltb, ltb-true, ltb-false}
use Rattle.std.proofs.lemmas.Bool.Decides.{nat_tests}
use Rattle.std.proofs.lemmas.List.{get_or_default, get_or-drop}
use Rattle.otap_groups.specs.declared.entry.ChildEntry.{ChildEntry}
use Rattle.otap_groups.specs.Inside.{AreStarts, BeginsParent, blank}
use Rattle.otap_groups.specs.Found.{of_parent}
use Rattle.otap_groups.proofs.IndexLaws.{part_of_rest}

is_within : (m n : ℕ) → m < n + 1 → nat_le m n ≡ true
is_within m n h = grind (arith, nat_tests)

is_above : (m n : ℕ) → n + 1 ≤ m → nat_le m n ≡ false
is_above m n h = grind (arith, nat_tests)

pub starts_rise : (parent : ℕ) (es : List ChildEntry) (from to : ℕ) → BeginsParent es parent from → BeginsParent es (parent + 1) to → from ≤ to
starts_rise parent es from to low high = by (cases_Bool (nat_lt to from)) where
  by : ((nat_lt to from ≡ true) ⊎ (nat_lt to from ≡ false)) → from ≤ to
  by (inl h) =
      let w : to < from = ltb-true to from h in
      let inside : to < length es = omega (arith, w, low.within) in
      let same : to ≤ to = omega arith in
      absurd (omega (arith, low.before to blank w, high.after to blank same inside))
  by (inr h) = ltb-false to from h

pub part_between : (parent : ℕ) (es rest : List ChildEntry) (from to : ℕ) → rest ≡ drop from es → BeginsParent es parent from → BeginsParent es (parent + 1) to
    → take (to - from) rest ≡ of_parent parent es
part_between parent es rest from to is low high =
    let in_rest : to - from ≤ length rest = omega (arith, ap length is, length-drop from es, high.within) in
    part_of_rest parent es rest from (to - from) is low.within in_rest
    ((λ k d lo hi. lt-ltb _ _ (low.before k d hi)), (λ k d lo hi. le-ltb _ _ (low.after k d lo hi))) (
      (λ k d lo hi.
          let e : get_or rest k d ≡ get_or es (from + k) d = ap (λ xs. get_or xs k d) is ∙ get_or-drop from es k d in
          let w : from + k < to = omega (arith, hi) in
          rw e (is_within _ _ (high.before (from + k) d w))),
      (λ k d lo hi.
          let e : get_or rest k d ≡ get_or es (from + k) d = ap (λ xs. get_or xs k d) is ∙ get_or-drop from es k d in
          let far : to ≤ from + k = omega (arith, lo) in
          let inside : from + k < length es = omega (arith, hi, ap length is, length-drop from es) in
          rw e (is_above _ _ (high.after (from + k) d far inside))),
    )

-- the starts that are known once the entries before a place were looked at
pub record StartsBefore (es : List ChildEntry) (starts : List ℕ) (place : ℕ) : Type 0 where
  pub told : AreStarts es starts
  pub low : (k : ℕ) (d : ChildEntry) → k < place → (get_or es k d).parent < length starts
  pub high : (k : ℕ) (d : ChildEntry) → place ≤ k → k < length es → length starts ≤ (get_or es k d).parent + 1

pub starts_next : (es : List ChildEntry) (old new : List ℕ) (place parent : ℕ) → IsNonDecreasingBy (λ (e : ChildEntry). e.parent) es → place < length es
    → parent ≡ (get_or es place blank).parent → length new ≡ parent + 1
    → ((k d : ℕ) → k < parent + 1 → k < length old → get_or new k d ≡ get_or old k d)
    → ((k d : ℕ) → length old ≤ k → k < parent + 1 → get_or new k d ≡ place)
    → StartsBefore es old place → StartsBefore es new (place + 1)
starts_next es old new place parent rising inside is long kept more before = record {
  told = λ p d w. by p d (omega (arith, w, long)) (cases_Bool (nat_lt p (length old)));
  low = λ k d w. low k d (rising k place d (omega (arith, w)) inside) (at d);
  high = λ k d far within. high (get_or es k d).parent (rising place k d (omega (arith, far)) within) (at d);
} where
  at : (d : ChildEntry) → (get_or es place d).parent ≡ parent
  at d = ap (λ (e : ChildEntry). e.parent) (get_or_default es place d blank inside) ∙ sym is

  low : (k : ℕ) (d : ChildEntry) → (get_or es k d).parent ≤ (get_or es place d).parent → (get_or es place d).parent ≡ parent → (get_or es k d).parent < length new
  low k d up at = omega (arith, up, at, long)

  high : (n : ℕ) {m : ℕ} → m ≤ n → m ≡ parent → length new ≤ n + 1
  high n up at = omega (arith, up, at, long)

  begins : (p : ℕ) → length old ≤ p → p < parent + 1 → BeginsParent es p place
  begins p from to = record {
    within = omega (arith, inside);
    before = λ k d w. omega (arith, before.low k d w, from);
    after = λ k d far within. omega (arith, to, at d, rising place k d far within);
  }

  by : (p d : ℕ) → p < parent + 1 → ((nat_lt p (length old) ≡ true) ⊎ (nat_lt p (length old) ≡ false)) → BeginsParent es p (get_or new p d)
  by p d w (inl h) =
      let known : p < length old = ltb-true p (length old) h in
      rw (kept p d w known) (before.told p d known)
  by p d w (inr h) =
      let new_one : length old ≤ p = ltb-false p (length old) h in
      rw (more p d new_one w) (begins p new_one w)
