-- What a resender keeps stays true: each request is exported, and written at most once in a segment.
use Rattle.std.proofs.Common.{◌≡◌, ◌⊎◌, inl, inr, ℕ, ◌+◌, ◌<◌, ◌≤◌, Bool, true, false, cond, List, [], ◌∷◌, ◌++◌, length, map, Some, None, refl, ap, ◌∙◌, subst, arith, length-append}
use Rattle.std.specs.Prelude.{find, count_by}
use Rattle.std.specs.List.{AllByRecursion}
use Rattle.std.proofs.lemmas.Bool.{cases_Bool}
use Rattle.std.proofs.lemmas.List.Sums.{sum_by-append, sum_by-cons}
use Rattle.otap_signals.specs.Meanings.{SignalRows}
use Rattle.otap_produce.specs.Limits.{batch_limit}
use Rattle.otap_produce.specs.Policy.{IsExported}
use Rattle.otap_resend.specs.declared.unanswered.Unanswered.{Unanswered}
use Rattle.otap_resend.specs.Inside.{IsResender}
use Rattle.otap_resend.specs.States.{is_unwritten, without_first, with_first_written, without_id}

abbrev pub unwritten : List Unanswered → ℕ
unwritten ws = count_by is_unwritten ws

abbrev pub one_if : Bool → ℕ
one_if b = cond b 1 0

unwritten-cons : (w : Unanswered) (ws : List Unanswered) → unwritten (w ∷ ws) ≡ one_if (is_unwritten w) + unwritten ws
unwritten-cons w ws = sum_by-cons (λ (v : Unanswered). cond (is_unwritten v) 1 0) w ws

pub unwritten-push : (ws : List Unanswered) (w : Unanswered) → is_unwritten w ≡ false → unwritten (ws ++ w ∷ []) ≡ unwritten ws
unwritten-push ws w is_not =
    let split : unwritten (ws ++ w ∷ []) ≡ unwritten ws + unwritten (w ∷ []) = sum_by-append (λ (v : Unanswered). cond (is_unwritten v) 1 0) ws (w ∷ []) in
    let last : unwritten (w ∷ []) ≡ 0 = unwritten-cons w [] ∙ ap (λ b. one_if b + unwritten []) is_not in
    omega (arith, split, last)

one_at_most : (b : Bool) → one_if b ≤ 1
one_at_most true = omega arith
one_at_most false = omega arith

pub unwritten-most : (ws : List Unanswered) → unwritten ws ≤ length ws
unwritten-most [] = omega arith
unwritten-most (w ∷ ws) = let rest = unwritten-most ws in let here = unwritten-cons w ws in let one = one_at_most (is_unwritten w) in omega (arith, rest, here, one)

pub unwritten-without : (p : Unanswered → Bool) (ws : List Unanswered) → unwritten (without_first p ws) ≤ unwritten ws
unwritten-without p [] = omega arith
unwritten-without p (w ∷ ws) = by (cases_Bool (p w)) (unwritten-without p ws)
  where
    by : (p w ≡ true) ⊎ (p w ≡ false) → unwritten (without_first p ws) ≤ unwritten ws → unwritten (without_first p (w ∷ ws)) ≤ unwritten (w ∷ ws)
    by (inl is) rest = let here = unwritten-cons w ws in rw is (omega (arith, here))
    by (inr is_not) rest = let here = unwritten-cons w ws in let there = unwritten-cons w (without_first p ws) in rw is_not (omega (arith, here, there, rest))

pub length-without : (p : Unanswered → Bool) (ws : List Unanswered) → length (without_first p ws) ≤ length ws
length-without p [] = omega arith
length-without p (w ∷ ws) = by (cases_Bool (p w)) (length-without p ws)
  where
    by : (p w ≡ true) ⊎ (p w ≡ false) → length (without_first p ws) ≤ length ws → length (without_first p (w ∷ ws)) ≤ length (w ∷ ws)
    by (inl is) rest = rw is (omega arith)
    by (inr is_not) rest = rw is_not (omega (arith, rest))

pub unwritten-written : (id : ℕ) (w : Unanswered) (ws : List Unanswered) → find is_unwritten ws ≡ Some w → unwritten ws ≡ 1 + unwritten (with_first_written id ws)
unwritten-written id w [] found = let clash : None ≡ Some w = found in cc
unwritten-written id w (v ∷ ws) found = by (cases_Bool (is_unwritten v)) (unwritten-written id w ws)
  where
    by : (is_unwritten v ≡ true) ⊎ (is_unwritten v ≡ false) → (find is_unwritten ws ≡ Some w → unwritten ws ≡ 1 + unwritten (with_first_written id ws))
        → unwritten (v ∷ ws) ≡ 1 + unwritten (with_first_written id (v ∷ ws))
    by (inl is) again =
        let here : unwritten (v ∷ ws) ≡ 1 + unwritten ws = unwritten-cons v ws ∙ ap (λ b. one_if b + unwritten ws) is in
        let there : unwritten (record { number = v.number; request = v.request; id = Some id } ∷ ws) ≡ 0 + unwritten ws =
        unwritten-cons (record { number = v.number; request = v.request; id = Some id }) ws in
        let list : with_first_written id (v ∷ ws) ≡ record { number = v.number; request = v.request; id = Some id } ∷ ws = rw is refl in
        let same = ap (λ us. unwritten us) list in
        omega (arith, here, there, same)
    by (inr is_not) again =
        let found' : find is_unwritten ws ≡ Some w = rw is_not at found in
        let rest = again found' in
        let here : unwritten (v ∷ ws) ≡ 0 + unwritten ws = unwritten-cons v ws ∙ ap (λ b. one_if b + unwritten ws) is_not in
        let there : unwritten (v ∷ with_first_written id ws) ≡ 0 + unwritten (with_first_written id ws) =
        unwritten-cons v (with_first_written id ws) ∙ ap (λ b. one_if b + unwritten (with_first_written id ws)) is_not in
        let list : with_first_written id (v ∷ ws) ≡ v ∷ with_first_written id ws = rw is_not refl in
        let same = ap (λ us. unwritten us) list in
        omega (arith, here, there, rest, same)

pub length-written : (id : ℕ) (ws : List Unanswered) → length (with_first_written id ws) ≡ length ws
length-written id [] = refl
length-written id (w ∷ ws) = by (cases_Bool (is_unwritten w)) (length-written id ws)
  where
    by : (is_unwritten w ≡ true) ⊎ (is_unwritten w ≡ false) → length (with_first_written id ws) ≡ length ws → length (with_first_written id (w ∷ ws)) ≡ length (w ∷ ws)
    by (inl is) rest = rw is refl
    by (inr is_not) rest = rw is_not (omega (arith, rest))

pub length-unwritten : (ws : List Unanswered) → length (map without_id ws) ≡ length ws
length-unwritten [] = refl
length-unwritten (w ∷ ws) = let rest = length-unwritten ws in omega (arith, rest)

module _ (rows : SignalRows) where
  abbrev pub AreExported : List Unanswered → Type 0
  AreExported ws = AllByRecursion (λ w. IsExported rows w.request) ws

  pub exported-push : (ws : List Unanswered) (w : Unanswered) → AreExported ws → IsExported rows w.request → AreExported (ws ++ w ∷ [])
  exported-push [] w all here = (here, tt)
  exported-push (v ∷ ws) w all here = (all.0, exported-push ws w all.1 here)

  pub exported-without : (p : Unanswered → Bool) (ws : List Unanswered) → AreExported ws → AreExported (without_first p ws)
  exported-without p [] all = tt
  exported-without p (w ∷ ws) all = by (cases_Bool (p w)) (exported-without p ws all.1)
    where
      by : (p w ≡ true) ⊎ (p w ≡ false) → AreExported (without_first p ws) → AreExported (without_first p (w ∷ ws))
      by (inl is) rest = rw is all.1
      by (inr is_not) rest = rw is_not (all.0, rest)

  pub exported-written : (id : ℕ) (ws : List Unanswered) → AreExported ws → AreExported (with_first_written id ws)
  exported-written id [] all = tt
  exported-written id (w ∷ ws) all = by (cases_Bool (is_unwritten w)) (exported-written id ws all.1)
    where
      by : (is_unwritten w ≡ true) ⊎ (is_unwritten w ≡ false) → AreExported (with_first_written id ws) → AreExported (with_first_written id (w ∷ ws))
      by (inl is) rest = rw is (all.0, all.1)
      by (inr is_not) rest = rw is_not (all.0, rest)

  pub exported-unwritten : (ws : List Unanswered) → AreExported ws → AreExported (map without_id ws)
  exported-unwritten [] all = tt
  exported-unwritten (w ∷ ws) all = (all.0, exported-unwritten ws all.1)

  pub exported-found : (p : Unanswered → Bool) (w : Unanswered) (ws : List Unanswered) → find p ws ≡ Some w → AreExported ws → IsExported rows w.request
  exported-found p w [] found all = let clash : None ≡ Some w = found in cc
  exported-found p w (v ∷ ws) found all = by (cases_Bool (p v)) (λ rest. exported-found p w ws rest all.1)
    where
      by : (p v ≡ true) ⊎ (p v ≡ false) → (find p ws ≡ Some w → IsExported rows w.request) → IsExported rows w.request
      by (inl is) again = let first : Some v ≡ Some w = rw is at found in let same : v ≡ w = cc in subst (λ (u : Unanswered). IsExported rows u.request) same all.0
      by (inr is_not) again = again (rw is_not at found)

  -- ---- the invariant after each call

  module _ (window sent batches capacity : ℕ) (ws : List Unanswered) (is : IsResender rows window sent batches capacity ws) where
    pub kept_sent : (w : Unanswered) → is_unwritten w ≡ false → IsExported rows w.request → length ws < window → sent + 1 ≤ batch_limit → (room : ℕ) → window ≤ room
        → IsResender rows window (sent + 1) (batches + 1) room (ws ++ w ∷ [])
    kept_sent w written exported few limit room fits = record {
      exported = exported-push ws w is.exported exported;
      once = let once = is.once in let same = unwritten-push ws w written in omega (arith, once, same);
      all_sent = let all = is.all_sent in let long = length-append ws (w ∷ []) in let one : length (w ∷ []) ≡ 1 = refl in omega (arith, all, long, one);
      few = limit;
      fits = let long = length-append ws (w ∷ []) in let one : length (w ∷ []) ≡ 1 = refl in omega (arith, few, long, one);
      room = fits;
      narrow = is.narrow;
    }

    pub kept_without : (p : Unanswered → Bool) → IsResender rows window sent batches capacity (without_first p ws)
    kept_without p = record {
      exported = exported-without p ws is.exported;
      once = let once = is.once in let fewer = unwritten-without p ws in omega (arith, once, fewer);
      all_sent = let all = is.all_sent in let fewer = length-without p ws in omega (arith, all, fewer);
      few = is.few;
      fits = let fits = is.fits in let fewer = length-without p ws in omega (arith, fits, fewer);
      room = is.room;
      narrow = is.narrow;
    }

    pub kept_reset : IsResender rows window sent 0 capacity (map without_id ws)
    kept_reset = record {
      exported = exported-unwritten ws is.exported;
      once = let all = is.all_sent in let most = unwritten-most (map without_id ws) in let same = length-unwritten ws in omega (arith, all, most, same);
      all_sent = let all = is.all_sent in let same = length-unwritten ws in omega (arith, all, same);
      few = is.few;
      fits = let fits = is.fits in let same = length-unwritten ws in omega (arith, fits, same);
      room = is.room;
      narrow = is.narrow;
    }

    pub kept_resent : (w : Unanswered) (id : ℕ) → find is_unwritten ws ≡ Some w → IsResender rows window sent (batches + 1) capacity (with_first_written id ws)
    kept_resent w id found = record {
      exported = exported-written id ws is.exported;
      once = let once = is.once in let fewer = unwritten-written id w ws found in omega (arith, once, fewer);
      all_sent = let all = is.all_sent in let same = length-written id ws in omega (arith, all, same);
      few = is.few;
      fits = let fits = is.fits in let same = length-written id ws in omega (arith, fits, same);
      room = is.room;
      narrow = is.narrow;
    }

    -- a request that is to be written again, so one more batch is allowed
    pub one_more : (w : Unanswered) → find is_unwritten ws ≡ Some w → batches < batch_limit
    one_more w found = let once = is.once in let few = is.few in let some = unwritten-written 0 w ws found in omega (arith, once, few, some)
