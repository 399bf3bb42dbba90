-- Each number is where it belongs: among those that wait, were done or were given up; and each id is an index.
use Rattle.std.proofs.Common.{◌≡◌, ◌⊎◌, inl, inr, ℕ, zero, suc, ◌+◌, ◌<◌, Bool, true, false, List, [], ◌∷◌, ◌++◌, length, Option, Some, None, refl, sym, ap, ◌∙◌, arith}
use Rattle.std.specs.Prelude.{◌==◌, cond, nat_lt, if◌then◌else◌, map, find, slice_get, IfSome}
use Rattle.std.specs.List.{AllByRecursion}
use Rattle.std.proofs.lemmas.Bool.{cases_Bool, false≢true, eqb-true, eqb-false, ltb-true, lt-ltb}
use Rattle.std.proofs.lemmas.List.Sums.{sum_by-append, sum_by-cons}
use Rattle.otlp_model.specs.declared.request.Request.{Request}
use Rattle.otap_signals.specs.Meanings.{SignalRows}
use Rattle.otap_resend.specs.declared.unanswered.Unanswered.{Unanswered}
use Rattle.otap_resend.specs.Runs.{IsAccounted, IsPlaced, times, times_unanswered}
use Rattle.otap_resend.specs.States.{State, Call, Outcome, next, has_id, is_unwritten, without_first, with_first_written, without_id, request_if}
use Rattle.otap_resend.specs.Turns.{MayGive}
use Rattle.otap_resend.specs.Turns as turns

-- one for a number that is n
abbrev pub one_if : Bool → ℕ
one_if b = cond b 1 0

times-cons : (n : ℕ) (w : Unanswered) (ws : List Unanswered) → times_unanswered n (w ∷ ws) ≡ one_if (w.number == n) + times_unanswered n ws
times-cons n w ws = sum_by-cons (λ (v : Unanswered). cond (v.number == n) 1 0) w ws

times-push : (n : ℕ) (w : Unanswered) (ws : List Unanswered) → times_unanswered n (ws ++ w ∷ []) ≡ times_unanswered n ws + one_if (w.number == n)
times-push n w ws =
    let split : times_unanswered n (ws ++ w ∷ []) ≡ times_unanswered n ws + times_unanswered n (w ∷ []) = sum_by-append (λ (v : Unanswered). cond (v.number == n) 1 0) ws (w ∷ []) in
    let last : times_unanswered n (w ∷ []) ≡ one_if (w.number == n) + times_unanswered n [] = times-cons n w [] in
    let none : times_unanswered n [] ≡ 0 = refl in
    omega (arith, split, last, none)

times-one : (n m : ℕ) (ms : List ℕ) → times n (ms ++ m ∷ []) ≡ times n ms + one_if (m == n)
times-one n m ms =
    let split : times n (ms ++ m ∷ []) ≡ times n ms + times n (m ∷ []) = sum_by-append (λ (v : ℕ). cond (v == n) 1 0) ms (m ∷ []) in
    let last : times n (m ∷ []) ≡ one_if (m == n) + times n [] = sum_by-cons (λ (v : ℕ). cond (v == n) 1 0) m [] in
    let none : times n [] ≡ 0 = refl in
    omega (arith, split, last, none)

-- the first one that passes a test is taken away
times-without : (n : ℕ) (p : Unanswered → Bool) (w : Unanswered) (ws : List Unanswered) → find p ws ≡ Some w → times_unanswered n ws ≡ times_unanswered n (without_first p ws) + one_if (w.number == n)
times-without n p w [] found = let clash : None ≡ Some w = found in cc
times-without n p w (v ∷ ws) found = by (cases_Bool (p v)) (λ rest. times-without n p w ws rest)
  where
    by : (p v ≡ true) ⊎ (p v ≡ false) → (find p ws ≡ Some w → times_unanswered n ws ≡ times_unanswered n (without_first p ws) + one_if (w.number == n))
        → times_unanswered n (v ∷ ws) ≡ times_unanswered n (without_first p (v ∷ ws)) + one_if (w.number == n)
    by (inl is_so) again =
        let same : Some v ≡ Some w = rw is_so at found in
        let is : v ≡ w = cc in
        let split = times-cons n v ws in
        let here : one_if (v.number == n) ≡ one_if (w.number == n) = ap (λ (u : Unanswered). one_if (u.number == n)) is in
        rw is_so (omega (arith, split, here))
    by (inr is_not) again =
        let rest : find p ws ≡ Some w = rw is_not at found in
        let further = again rest in
        let split = times-cons n v ws in
        let split' = times-cons n v (without_first p ws) in
        rw is_not (omega (arith, further, split, split'))

-- to give an id to the first, or to take the ids from all, leaves the numbers
times-written : (n id : ℕ) (ws : List Unanswered) → times_unanswered n (with_first_written id ws) ≡ times_unanswered n ws
times-written n id [] = refl
times-written n id (w ∷ ws) = by (cases_Bool (is_unwritten w)) (times-written n id ws)
  where
    by : (is_unwritten w ≡ true) ⊎ (is_unwritten w ≡ false) → times_unanswered n (with_first_written id ws) ≡ times_unanswered n ws → times_unanswered n (with_first_written id (w ∷ ws)) ≡ times_unanswered n (w ∷ ws)
    by (inl is_so) rest = rw is_so (times-cons n (record { number = w.number; request = w.request; id = Some id }) ws ∙ sym (times-cons n w ws))
    by (inr is_not) rest = rw is_not (times-cons n w (with_first_written id ws) ∙ ap (λ t. one_if (w.number == n) + t) rest ∙ sym (times-cons n w ws))

times-unwritten : (n : ℕ) (ws : List Unanswered) → times_unanswered n (map without_id ws) ≡ times_unanswered n ws
times-unwritten n [] = refl
times-unwritten n (w ∷ ws) = times-cons n (without_id w) (map without_id ws) ∙ ap (λ t. one_if (w.number == n) + t) (times-unwritten n ws) ∙ sym (times-cons n w ws)

-- one more number is below the next count
below_next : (n sent : ℕ) → (if nat_lt n (sent + 1) then 1 else 0) ≡ (if nat_lt n sent then 1 else 0) + one_if (sent == n)
below_next n sent = by (cases_Bool (nat_lt n sent)) (cases_Bool (sent == n)) (cases_Bool (nat_lt n (sent + 1)))
  where
    strict : (n m : ℕ) → n < m + 1 → (n ≡ m → ⊥) → n < m
    strict n m lt other = omega (arith, lt, other)

    by : (nat_lt n sent ≡ true) ⊎ (nat_lt n sent ≡ false) → ((sent == n) ≡ true) ⊎ ((sent == n) ≡ false) → (nat_lt n (sent + 1) ≡ true) ⊎ (nat_lt n (sent + 1) ≡ false)
        → (if nat_lt n (sent + 1) then 1 else 0) ≡ (if nat_lt n sent then 1 else 0) + one_if (sent == n)
    by (inl a) (inl b) c = let lt = ltb-true n sent a in let eq = eqb-true sent n b in absurd (omega (arith, lt, eq))
    by (inl a) (inr b) (inl c) = rw (a, b, c) refl
    by (inl a) (inr b) (inr c) = let lt = ltb-true n sent a in absurd (false≢true (sym c ∙ lt-ltb n (sent + 1) (omega (arith, lt))))
    by (inr a) (inl b) (inl c) = rw (a, b, c) refl
    by (inr a) (inl b) (inr c) = let eq = eqb-true sent n b in absurd (false≢true (sym c ∙ lt-ltb n (sent + 1) (omega (arith, eq))))
    by (inr a) (inr b) (inl c) = absurd (false≢true (sym a ∙ lt-ltb n sent (strict n sent (ltb-true n (sent + 1) c) (λ e. eqb-false sent n b (sym e)))))
    by (inr a) (inr b) (inr c) = rw (a, b, c) refl

module _ (rows : SignalRows) (s : State) where
  pub accounted : (call : Call) (outcome : Outcome) → MayGive rows s call outcome → IsAccounted s → IsAccounted (next s call outcome)
  unfolding next
  accounted _ _ (turns.full q full) so = so
  accounted _ _ (turns.pending q w room some) so = so
  accounted _ _ (turns.broken q room broken) so = so
  accounted _ _ (turns.too_many_items q ready many) so = so
  accounted _ _ (turns.too_heavy q ready few heavy) so = so
  accounted _ _ (turns.out_of_memory q ready exported) so = so
  accounted _ _ (turns.sends q message ready is) so = λ n.
      let more = times-push n (record { number = s.sent; request = q; id = Some (length s.written) }) s.unanswered in
      let before = so n in
      let next' = below_next n s.sent in
      omega (arith, more, before, next')
  accounted _ _ (turns.unknown id code none) so = so
  accounted _ _ (turns.done id code w found accepted) so = λ n.
      let went = times-without n (has_id id) w s.unanswered found in
      let came = times-one n w.number s.done in
      let before = so n in
      omega (arith, went, came, before)
  accounted _ _ (turns.given_up id code w found given) so = λ n.
      let went = times-without n (has_id id) w s.unanswered found in
      let came = times-one n w.number s.given_up in
      let before = so n in
      omega (arith, went, came, before)
  accounted _ _ (turns.kept id code w found none) so = so
  accounted _ _ turns.resets so = λ n. ap (λ t. t + (times n s.done + times n s.given_up)) (times-unwritten n s.unanswered) ∙ so n
  accounted _ _ (turns.resend_broken broken) so = so
  accounted _ _ (turns.all_written sound none) so = so
  accounted _ _ (turns.resend_out_of_memory w sound found) so = so
  accounted _ _ (turns.resends w message sound found is) so = λ n. ap (λ t. t + (times n s.done + times n s.given_up)) (times-written n (length s.written) s.unanswered) ∙ so n

-- ---- indexes

pub get-last : {A : Type 0} (xs : List A) (x : A) → slice_get (xs ++ x ∷ []) (length xs) ≡ Some x
get-last [] x = refl
get-last (y ∷ xs) x = get-last xs x

pub get-more : {A : Type 0} (xs : List A) (x y : A) (i : ℕ) → slice_get xs i ≡ Some y → slice_get (xs ++ x ∷ []) i ≡ Some y
get-more [] x y i is = let clash : None ≡ Some y = is in cc
get-more (z ∷ xs) x y zero is = is
get-more (z ∷ xs) x y (suc i) is = get-more xs x y i is

placed-more : (written : List Request) (q : Request) (w : Unanswered) → IsPlaced written w → IsPlaced (written ++ q ∷ []) w
placed-more written q w placed = by w.id placed
  where
    by : (id : Option ℕ) → IfSome id (λ i. slice_get written i ≡ Some w.request) → IfSome id (λ i. slice_get (written ++ q ∷ []) i ≡ Some w.request)
    by None is = tt
    by (Some i) is = get-more written q w.request i is

all-more : (written : List Request) (q : Request) (ws : List Unanswered) → AllByRecursion (IsPlaced written) ws → AllByRecursion (IsPlaced (written ++ q ∷ [])) ws
all-more written q [] all = tt
all-more written q (w ∷ ws) all = (placed-more written q w all.0, all-more written q ws all.1)

pub all-push : (P : Unanswered → Type 0) (ws : List Unanswered) (w : Unanswered) → AllByRecursion P ws → P w → AllByRecursion P (ws ++ w ∷ [])
all-push P [] w all here = (here, tt)
all-push P (v ∷ ws) w all here = (all.0, all-push P ws w all.1 here)

pub all-without : (P : Unanswered → Type 0) (p : Unanswered → Bool) (ws : List Unanswered) → AllByRecursion P ws → AllByRecursion P (without_first p ws)
all-without P p [] all = tt
all-without P p (w ∷ ws) all = by (cases_Bool (p w)) (all-without P p ws all.1)
  where
    by : (p w ≡ true) ⊎ (p w ≡ false) → AllByRecursion P (without_first p ws) → AllByRecursion P (without_first p (w ∷ ws))
    by (inl is_so) rest = rw is_so all.1
    by (inr is_not) rest = rw is_not (all.0, rest)

all-unwritten : (written : List Request) (ws : List Unanswered) → AllByRecursion (IsPlaced written) (map without_id ws)
all-unwritten written [] = tt
all-unwritten written (w ∷ ws) = (tt, all-unwritten written ws)

-- the first that wasn't written gets the index of its own request
all-written : (written : List Request) (q : Request) (w : Unanswered) (ws : List Unanswered) → find is_unwritten ws ≡ Some w → w.request ≡ q → AllByRecursion (IsPlaced written) ws
    → AllByRecursion (IsPlaced (written ++ q ∷ [])) (with_first_written (length written) ws)
all-written written q w [] found same all = tt
all-written written q w (v ∷ ws) found same all = by (cases_Bool (is_unwritten v)) (λ rest. all-written written q w ws rest same all.1)
  where
    by : (is_unwritten v ≡ true) ⊎ (is_unwritten v ≡ false) → (find is_unwritten ws ≡ Some w → AllByRecursion (IsPlaced (written ++ q ∷ [])) (with_first_written (length written) ws))
        → AllByRecursion (IsPlaced (written ++ q ∷ [])) (with_first_written (length written) (v ∷ ws))
    by (inl is_so) again =
        let first : Some v ≡ Some w = rw is_so at found in
        let is : v ≡ w = cc in
        let own : q ≡ v.request = sym same ∙ ap (λ (u : Unanswered). u.request) (sym is) in
        rw is_so (get-last written q ∙ ap (λ (r : Request). Some r) own, all-more written q ws all.1)
    by (inr is_not) again = let rest : find is_unwritten ws ≡ Some w = rw is_not at found in rw is_not (placed-more written q v all.0, again rest)

module _ (rows : SignalRows) (s : State) where
  pub placed : (call : Call) (outcome : Outcome) → MayGive rows s call outcome → AllByRecursion (IsPlaced s.written) s.unanswered → AllByRecursion (IsPlaced (next s call outcome).written) (next s call outcome).unanswered
  unfolding next
  placed _ _ (turns.full q full) so = so
  placed _ _ (turns.pending q w room some) so = so
  placed _ _ (turns.broken q room broken) so = so
  placed _ _ (turns.too_many_items q ready many) so = so
  placed _ _ (turns.too_heavy q ready few heavy) so = so
  placed _ _ (turns.out_of_memory q ready exported) so = so
  placed _ _ (turns.sends q message ready is) so =
      all-push (IsPlaced (s.written ++ q ∷ [])) s.unanswered _ (all-more s.written q s.unanswered so) (get-last s.written q)
  placed _ _ (turns.unknown id code none) so = so
  placed _ _ (turns.done id code w found accepted) so = all-without (IsPlaced s.written) (has_id id) s.unanswered so
  placed _ _ (turns.given_up id code w found given) so = all-without (IsPlaced s.written) (has_id id) s.unanswered so
  placed _ _ (turns.kept id code w found none) so = so
  placed _ _ turns.resets so = all-unwritten [] s.unanswered
  placed _ _ (turns.resend_broken broken) so = so
  placed _ _ (turns.all_written sound none) so = so
  placed _ _ (turns.resend_out_of_memory w sound found) so = so
  placed _ _ (turns.resends w message sound found is) so = by (find is_unwritten s.unanswered) found
    where
      by : (first : Option Unanswered) → first ≡ Some w → AllByRecursion (IsPlaced (s.written ++ request_if first)) (with_first_written (length s.written) s.unanswered)
      by first same = rw same (all-written s.written w.request w s.unanswered found refl so)
