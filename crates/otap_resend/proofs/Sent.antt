-- Each request is the one that was sent with its number, the numbers of the unanswered ones ascend, and each batch carries one.
use Rattle.std.proofs.Common.{◌≡◌, ◌⊎◌, inl, inr, ℕ, ◌+◌, ◌<◌, ℤ, pos, nat_abs, Bool, true, false, List, [], ◌∷◌, ◌++◌, length, Option, Some, None, refl, sym, ap, ◌∙◌, subst, append-nil, arith}
use Rattle.std.specs.Prelude.{map, find, slice_get, IfSome}
use Rattle.std.specs.List.{AllByRecursion}
use Rattle.std.specs.Ordering.{int_eq}
use Rattle.std.proofs.lemmas.Bool.{cases_Bool}
use Rattle.std.proofs.lemmas.Bool.Decides.{Decides-int_eq}
use Rattle.std.proofs.lemmas.List.{length-append}
use Rattle.std.proofs.lemmas.Option.{slice_get_within}
use Rattle.lists.proofs.Every.{every_append, every_weaker}
use Rattle.otlp_model.specs.declared.request.Request.{Request}
use Rattle.otap_signals.specs.Meanings.{SignalRows}
use Rattle.otap_resend.specs.declared.unanswered.Unanswered.{Unanswered}
use Rattle.otap_resend.specs.Runs.{Ascend, numbers_of, IsSentAs, WasSent, HandsBack, Carries, IsPlaced, request_of}
use Rattle.otap_resend.specs.States.{State, Call, Outcome, Wrote, Refused, OutOfMemory, Done, GivenUp, Kept, Unknown, Nothing, next, has_id, is_id, is_unwritten, without_first, with_first_written, without_id, request_if}
use Rattle.otap_resend.specs.Turns.{MayGive}
use Rattle.otap_resend.specs.Turns as turns
use Rattle.otap_resend.proofs.Accounting.{all-push, all-without, get-last, get-more}

-- ---- numbers that ascend

ascend-push : (ns : List ℕ) (m : ℕ) → Ascend ns → AllByRecursion (λ n. n < m) ns → Ascend (ns ++ m ∷ [])
ascend-push [] m up below = (tt, tt)
ascend-push (n ∷ ns) m up below =
    (every_append (λ (k : ℕ). n < k) ns (m ∷ []) up.0 (below.0, tt), ascend-push ns m up.1 below.1)

numbers-push : (ws : List Unanswered) (w : Unanswered) → numbers_of (ws ++ w ∷ []) ≡ numbers_of ws ++ w.number ∷ []
numbers-push [] w = refl
numbers-push (v ∷ ws) w = ap (λ ns. v.number ∷ ns) (numbers-push ws w)

numbers-written : (id : ℕ) (ws : List Unanswered) → numbers_of (with_first_written id ws) ≡ numbers_of ws
numbers-written id [] = refl
numbers-written id (w ∷ ws) = by (cases_Bool (is_unwritten w)) (numbers-written id ws)
  where
    by : (is_unwritten w ≡ true) ⊎ (is_unwritten w ≡ false) → numbers_of (with_first_written id ws) ≡ numbers_of ws
        → numbers_of (with_first_written id (w ∷ ws)) ≡ numbers_of (w ∷ ws)
    by (inl is_so) rest = rw is_so refl
    by (inr is_not) rest = rw is_not (ap (λ ns. w.number ∷ ns) rest)

numbers-unwritten : (ws : List Unanswered) → numbers_of (map without_id ws) ≡ numbers_of ws
numbers-unwritten [] = refl
numbers-unwritten (w ∷ ws) = ap (λ ns. w.number ∷ ns) (numbers-unwritten ws)

all_numbers-without : (P : ℕ → Type 0) (p : Unanswered → Bool) (ws : List Unanswered) → AllByRecursion P (numbers_of ws)
    → AllByRecursion P (numbers_of (without_first p ws))
all_numbers-without P p [] all = tt
all_numbers-without P p (w ∷ ws) all = by (cases_Bool (p w)) (all_numbers-without P p ws all.1)
  where
    by : (p w ≡ true) ⊎ (p w ≡ false) → AllByRecursion P (numbers_of (without_first p ws))
        → AllByRecursion P (numbers_of (without_first p (w ∷ ws)))
    by (inl is_so) rest = rw is_so all.1
    by (inr is_not) rest = rw is_not (all.0, rest)

ascend-without : (p : Unanswered → Bool) (ws : List Unanswered) → Ascend (numbers_of ws)
    → Ascend (numbers_of (without_first p ws))
ascend-without p [] up = tt
ascend-without p (w ∷ ws) up = by (cases_Bool (p w)) (ascend-without p ws up.1)
  where
    by : (p w ≡ true) ⊎ (p w ≡ false) → Ascend (numbers_of (without_first p ws))
        → Ascend (numbers_of (without_first p (w ∷ ws)))
    by (inl is_so) rest = rw is_so up.1
    by (inr is_not) rest = rw is_not (all_numbers-without (λ (m : ℕ). w.number < m) p ws up.0, rest)

-- ---- the requests that were sent

abbrev pub IsOwn : List Request → Unanswered → Type 0
IsOwn sent w = IsSentAs sent w.number w.request

abbrev pub AreSentAs : List Request → List Unanswered → Type 0
AreSentAs sent ws = AllByRecursion (λ w. IsSentAs sent w.number w.request) ws

sent-more : (sent : List Request) (q : Request) (ws : List Unanswered) → AreSentAs sent ws → AreSentAs (sent ++ q ∷ []) ws
sent-more sent q ws all =
    every_weaker (IsOwn sent) (IsOwn (sent ++ q ∷ [])) (λ w is. get-more sent q w.request w.number is) ws all

written-more : (sent : List Request) (q : Request) (qs : List Request) → AllByRecursion (WasSent sent) qs
    → AllByRecursion (WasSent (sent ++ q ∷ [])) qs
written-more sent q qs all =
    every_weaker (WasSent sent) (WasSent (sent ++ q ∷ [])) (λ r is. (is.0, get-more sent q r is.0 is.1)) qs all

sent-written : (sent : List Request) (id : ℕ) (ws : List Unanswered) → AreSentAs sent ws
    → AreSentAs sent (with_first_written id ws)
sent-written sent id [] all = tt
sent-written sent id (w ∷ ws) all = by (cases_Bool (is_unwritten w)) (sent-written sent id ws all.1)
  where
    by : (is_unwritten w ≡ true) ⊎ (is_unwritten w ≡ false) → AreSentAs sent (with_first_written id ws)
        → AreSentAs sent (with_first_written id (w ∷ ws))
    by (inl is_so) rest = rw is_so (all.0, all.1)
    by (inr is_not) rest = rw is_not (all.0, rest)

sent-unwritten : (sent : List Request) (ws : List Unanswered) → AreSentAs sent ws → AreSentAs sent (map without_id ws)
sent-unwritten sent [] all = tt
sent-unwritten sent (w ∷ ws) all = (all.0, sent-unwritten sent ws all.1)

numbers_below : (sent : List Request) (ws : List Unanswered) → AreSentAs sent ws
    → AllByRecursion (λ n. n < length sent) (numbers_of ws)
numbers_below sent [] all = tt
numbers_below sent (w ∷ ws) all = (slice_get_within sent w.number w.request all.0, numbers_below sent ws all.1)

found_is : (P : Unanswered → Type 0) (p : Unanswered → Bool) (w : Unanswered) (ws : List Unanswered) → find p ws ≡ Some w
    → AllByRecursion P ws → P w
found_is P p w [] found all = let clash : None ≡ Some w = found in cc
found_is P p w (v ∷ ws) found all = by (cases_Bool (p v)) (λ rest. found_is P p w ws rest all.1)
  where
    by : (p v ≡ true) ⊎ (p v ≡ false) → (find p ws ≡ Some w → P w) → P w
    by (inl is_so) again = let first : Some v ≡ Some w = rw is_so at found in let same : v ≡ w = cc in subst P same all.0
    by (inr is_not) again = again (rw is_not at found)

-- what is true of how many requests were sent, of the unanswered ones and of those that were written, in a state
pub record KeepsRequests (sent : List Request) (count : ℕ) (ws : List Unanswered) (qs : List Request) : Type 0 where
  pub counted : count ≡ length sent
  pub ascending : Ascend (numbers_of ws)
  pub unanswered : AreSentAs sent ws
  pub written : AllByRecursion (WasSent sent) qs

module _ (rows : SignalRows) (s : State) (sent : List Request) where
  abbrev Keeps : List Request → State → Type 0
  Keeps requests after = KeepsRequests requests after.sent after.unanswered after.written

  leaves : (p : Unanswered → Bool) → Keeps sent s → KeepsRequests sent s.sent (without_first p s.unanswered) s.written
  leaves p keeps = record {
    counted = keeps.counted;
    ascending = ascend-without p s.unanswered keeps.ascending;
    unanswered = all-without (IsOwn sent) p s.unanswered keeps.unanswered;
    written = keeps.written;
  }

  one_more : (q : Request) (id : Option ℕ) → Keeps sent s
      → KeepsRequests (sent ++ q ∷ []) (s.sent + 1) (s.unanswered ++ record { number = s.sent; request = q; id = id } ∷ []) (s.written ++ q ∷ [])
  one_more q id keeps =
      let last : IsSentAs (sent ++ q ∷ []) s.sent q =
      subst (λ (n : ℕ). IsSentAs (sent ++ q ∷ []) n q) (sym keeps.counted) (get-last sent q) in
      let below : AllByRecursion (λ n. n < s.sent) (numbers_of s.unanswered) =
      subst (λ (n : ℕ). AllByRecursion (λ (m : ℕ). m < n) (numbers_of s.unanswered)) (sym keeps.counted)
      (numbers_below sent s.unanswered keeps.unanswered) in
      record {
        counted = ap (λ n. n + 1) keeps.counted ∙ sym (length-append sent (q ∷ []));
        ascending = subst Ascend (sym (numbers-push s.unanswered _))
            (ascend-push (numbers_of s.unanswered) s.sent keeps.ascending below);
        unanswered = all-push (IsOwn (sent ++ q ∷ [])) s.unanswered _ (sent-more sent q s.unanswered keeps.unanswered) last;
        written = every_append (WasSent (sent ++ q ∷ [])) s.written (q ∷ []) (written-more sent q s.written keeps.written)
            ((s.sent, last), tt);
      }

  resent : (found : Option Unanswered) (w : Unanswered) (id : ℕ) → found ≡ Some w → find is_unwritten s.unanswered ≡ Some w
      → Keeps sent s
      → KeepsRequests sent s.sent (with_first_written id s.unanswered) (s.written ++ request_if found)
  resent found w id is first keeps =
      let own = found_is (IsOwn sent) is_unwritten w s.unanswered first keeps.unanswered in
      let all : AllByRecursion (WasSent sent) (s.written ++ w.request ∷ []) =
      every_append (WasSent sent) s.written (w.request ∷ []) keeps.written ((w.number, own), tt) in
      record {
        counted = keeps.counted;
        ascending = subst Ascend (sym (numbers-written id s.unanswered)) keeps.ascending;
        unanswered = sent-written sent id s.unanswered keeps.unanswered;
        written = rw is all;
      }

  pub keeps_requests : (call : Call) (outcome : Outcome) → MayGive rows s call outcome → Keeps sent s
      → Keeps (sent ++ request_of call outcome) (next s call outcome)
  unfolding next
  keeps_requests _ _ (turns.full q full) keeps = rw (append-nil sent) keeps
  keeps_requests _ _ (turns.pending q w room some) keeps = rw (append-nil sent) keeps
  keeps_requests _ _ (turns.broken q room broken) keeps = rw (append-nil sent) keeps
  keeps_requests _ _ (turns.too_many_items q ready many) keeps = rw (append-nil sent) keeps
  keeps_requests _ _ (turns.too_heavy q ready few heavy) keeps = rw (append-nil sent) keeps
  keeps_requests _ _ (turns.out_of_memory q ready exported) keeps = rw (append-nil sent) keeps
  keeps_requests _ _ (turns.sends q message ready is) keeps = one_more q (Some (length s.written)) keeps
  keeps_requests _ _ (turns.unknown id code none) keeps = rw (append-nil sent) keeps
  keeps_requests _ _ (turns.done id code w found accepted) keeps = rw (append-nil sent) (leaves (has_id id) keeps)
  keeps_requests _ _ (turns.given_up id code w found given) keeps = rw (append-nil sent) (leaves (has_id id) keeps)
  keeps_requests _ _ (turns.kept id code w found none) keeps = rw (append-nil sent) keeps
  keeps_requests _ _ turns.resets keeps = rw (append-nil sent) (record {
    counted = keeps.counted;
    ascending = subst Ascend (sym (numbers-unwritten s.unanswered)) keeps.ascending;
    unanswered = sent-unwritten sent s.unanswered keeps.unanswered;
    written = tt;
  })
  keeps_requests _ _ (turns.resend_broken broken) keeps = rw (append-nil sent) keeps
  keeps_requests _ _ (turns.all_written sound none) keeps = rw (append-nil sent) keeps
  keeps_requests _ _ (turns.resend_out_of_memory w sound found) keeps = rw (append-nil sent) keeps
  keeps_requests _ _ (turns.resends w message sound found is) keeps =
      rw (append-nil sent) (resent (find is_unwritten s.unanswered) w (length s.written) found found keeps)

  pub handed_back : (call : Call) (outcome : Outcome) → MayGive rows s call outcome → AreSentAs sent s.unanswered
      → HandsBack sent outcome
  handed_back _ _ (turns.given_up id code w found given) all =
      found_is (IsOwn sent) (has_id id) w s.unanswered found all
  handed_back call (Wrote message) may all = tt
  handed_back call (Refused why) may all = tt
  handed_back call OutOfMemory may all = tt
  handed_back call (Done number) may all = tt
  handed_back call (Kept number) may all = tt
  handed_back call Unknown may all = tt
  handed_back call Nothing may all = tt

-- ---- what a batch carries

abbrev with_id : ℕ → Unanswered → Unanswered
with_id id w = record { number = w.number; request = w.request; id = Some id }

-- a request that was written before has another id than the next batch
not_yet : (written : List Request) (w : Unanswered) → IsPlaced written w → has_id (pos (length written)) w ≡ false
not_yet written w placed = by w.id placed
  where
    other : (i : ℕ) → slice_get written i ≡ Some w.request
        → (int_eq (pos i) (pos (length written)) ≡ true) ⊎ (int_eq (pos i) (pos (length written)) ≡ false)
        → int_eq (pos i) (pos (length written)) ≡ false
    other i is (inl same) =
        let equal : i ≡ length written = ap nat_abs ((Decides-int_eq (pos i) (pos (length written))).0 same) in
        let within = slice_get_within written i w.request is in
        absurd (omega (arith, equal, within))
    other i is (inr not) = not

    by : (id : Option ℕ) → IfSome id (λ i. slice_get written i ≡ Some w.request) → is_id (pos (length written)) id ≡ false
    by None is = refl
    by (Some i) is = other i is (cases_Bool (int_eq (pos i) (pos (length written))))

none_yet : (written : List Request) (ws : List Unanswered) → AllByRecursion (IsPlaced written) ws
    → AllByRecursion (λ w. has_id (pos (length written)) w ≡ false) ws
none_yet written ws all =
    every_weaker (IsPlaced written) (λ (w : Unanswered). has_id (pos (length written)) w ≡ false) (not_yet written) ws all

found_pushed : (p : Unanswered → Bool) (w : Unanswered) (ws : List Unanswered) → AllByRecursion (λ v. p v ≡ false) ws
    → p w ≡ true → find p (ws ++ w ∷ []) ≡ Some w
found_pushed p w [] none own = rw own refl
found_pushed p w (v ∷ ws) none own = let not = none.0 in rw not (found_pushed p w ws none.1 own)

found_written : (p : Unanswered → Bool) (id : ℕ) (w : Unanswered) (ws : List Unanswered) → AllByRecursion (λ v. p v ≡ false) ws
    → p (with_id id w) ≡ true → find is_unwritten ws ≡ Some w
    → find p (with_first_written id ws) ≡ Some (with_id id w)
found_written p id w [] none own found = let clash : None ≡ Some w = found in cc
found_written p id w (v ∷ ws) none own found = by (cases_Bool (is_unwritten v)) (λ rest. found_written p id w ws none.1 own rest)
  where
    by : (is_unwritten v ≡ true) ⊎ (is_unwritten v ≡ false)
        → (find is_unwritten ws ≡ Some w → find p (with_first_written id ws) ≡ Some (with_id id w))
        → find p (with_first_written id (v ∷ ws)) ≡ Some (with_id id w)
    by (inl is_so) again =
        let first : Some v ≡ Some w = rw is_so at found in
        let same : v ≡ w = cc in
        let here : p (with_id id v) ≡ true = subst (λ (u : Unanswered). p (with_id id u) ≡ true) (sym same) own in
        rw (is_so, here) (ap (λ (u : Unanswered). Some (with_id id u)) same)
    by (inr is_not) again =
        let rest : find is_unwritten ws ≡ Some w = rw is_not at found in
        let not = none.0 in
        rw (is_not, not) (again rest)

module _ (rows : SignalRows) (s : State) (sent : List Request) where
  pub carried : (call : Call) (outcome : Outcome) → MayGive rows s call outcome
      → AllByRecursion (IsPlaced s.written) s.unanswered → AreSentAs sent (next s call outcome).unanswered
      → Carries rows sent s (next s call outcome) outcome
  unfolding next
  carried _ _ (turns.sends q message ready is) placed all =
      let w : Unanswered = record { number = s.sent; request = q; id = Some (length s.written) } in
      let own : has_id (pos (length s.written)) w ≡ true =
      (Decides-int_eq (pos (length s.written)) (pos (length s.written))).1 refl in
      let none = none_yet s.written s.unanswered placed in
      let found = found_pushed (has_id (pos (length s.written))) w s.unanswered none own in
      record {
        carried = w;
        was_sent = found_is (IsOwn sent) (has_id (pos (length s.written))) w (s.unanswered ++ w ∷ []) found all;
        unanswered = subst (λ (id : ℤ). find (has_id id) (s.unanswered ++ w ∷ []) ≡ Some w) (sym is.id) found;
        is_next = is;
      }
  carried _ _ (turns.resends w message sound found is) placed all =
      let next' : Unanswered = with_id (length s.written) w in
      let list : List Unanswered = with_first_written (length s.written) s.unanswered in
      let own : has_id (pos (length s.written)) next' ≡ true =
      (Decides-int_eq (pos (length s.written)) (pos (length s.written))).1 refl in
      let none = none_yet s.written s.unanswered placed in
      let found' = found_written (has_id (pos (length s.written))) (length s.written) w s.unanswered none own found in
      record {
        carried = next';
        was_sent = found_is (IsOwn sent) (has_id (pos (length s.written))) next' list found' all;
        unanswered = subst (λ (id : ℤ). find (has_id id) list ≡ Some next') (sym is.id) found';
        is_next = is;
      }
  carried call (Refused why) may placed all = tt
  carried call OutOfMemory may placed all = tt
  carried call (Done number) may placed all = tt
  carried call (GivenUp number q) may placed all = tt
  carried call (Kept number) may placed all = tt
  carried call Unknown may placed all = tt
  carried call Nothing may placed all = tt
