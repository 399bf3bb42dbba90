-- What was sent, one more frame.
use Rattle.std.proofs.Common.{◌≡◌, ◌⊎◌, inl, inr, ℕ, ◌≤◌, Bool, true, false, List, [], ◌∷◌, ◌++◌, length, refl, ◌∙◌, append-nil, arith}
use Rattle.std.specs.Prelude.{if◌then◌else◌}
use Rattle.std.specs.List.{flat_map, list_any}
use Rattle.std.proofs.lemmas.Bool.{cases_Bool}
use Rattle.std.proofs.lemmas.Grind.{flat_map-append}
use Rattle.lists.specs.EachAfter.{EachAfter}
use Rattle.lists.specs.Since.{since}
use Rattle.lists.proofs.Growing.{all_after-push, each_after-keeps}
use Rattle.otap_capture.specs.Capture.{Frame}
use Rattle.otap_signals.specs.Meanings.{SignalRows}
use Rattle.otap_transit.specs.Sendings.{Sending, Sent, Reset, is_reset, request_if, requests_since, messages_since, AreAllowed, IsAllowed}
use Rattle.otap_gateway.specs.Encoding.{Encoded, Puts, Refuses, EncodedAfter, sending_if, sent}

-- ---- the outcomes, one more

pub sent_on : (os : List Encoded) (s : Sending) → sent (os ++ Puts s ∷ []) ≡ sent os ++ s ∷ []
sent_on os s = flat_map-append sending_if os (Puts s ∷ [])

pub sent_still : (os : List Encoded) (name : List ℕ) → sent (os ++ Refuses name ∷ []) ≡ sent os
sent_still os name = flat_map-append sending_if os (Refuses name ∷ []) ∙ append-nil (sent os)

-- ---- the segment, one more

pub requests_first : requests_since [] ≡ []
unfolding requests_since
requests_first = refl

pub messages_first : messages_since [] ≡ []
unfolding messages_since
messages_first = refl

-- ---- no more requests than frames

pub since_short : {A : Type 0} (test : A → Bool) (xs : List A) → length (since test xs) ≤ length xs
since_short test [] = omega arith
since_short {A} test (x ∷ xs) = by_rest (since_short test xs) (cases_Bool (list_any test xs))
  where
    by_rest : length (since test xs) ≤ length xs → (list_any test xs ≡ true) ⊎ (list_any test xs ≡ false)
        → length (if list_any test xs then since test xs else x ∷ xs) ≤ length (x ∷ xs)
    by_rest rest (inl some) = rw some (omega (arith, rest))
    by_rest rest (inr none) = rw none (omega arith)

requests_short : (xs : List Sending) → length (flat_map request_if xs) ≤ length xs
requests_short [] = omega arith
requests_short (Sent q m ∷ xs) = let rest = requests_short xs in omega (arith, rest)
requests_short (Reset ∷ xs) = let rest = requests_short xs in omega (arith, rest)

sent_short : (os : List Encoded) → length (sent os) ≤ length os
sent_short [] = omega arith
sent_short (Puts s ∷ os) = let rest = sent_short os in omega (arith, rest)
sent_short (Refuses name ∷ os) = let rest = sent_short os in omega (arith, rest)

pub few_requests : (os : List Encoded) → length (requests_since (sent os)) ≤ length os
unfolding requests_since
few_requests os =
    let requests = requests_short (since is_reset (sent os)) in
    let last = since_short is_reset (sent os) in
    let all = sent_short os in
    omega (arith, requests, last, all)

-- ---- what was sent was allowed

module _ (rows : SignalRows) where
  allowed_more : (os : List Encoded) (frame : Frame) (o : Encoded) → AreAllowed rows (sent os) → EncodedAfter rows os frame o → AreAllowed rows (sent (os ++ o ∷ []))
  allowed_more os frame o all EncodedAfter.compressed = rw (sent_still os _) all
  allowed_more os frame o all (EncodedAfter.unreadable bytes defect stands) = rw (sent_still os _) all
  allowed_more os frame o all (EncodedAfter.too_many bytes request reads many) = rw (sent_still os _) all
  allowed_more os frame o all (EncodedAfter.too_heavy bytes request reads heavy) = rw (sent_still os _) all
  allowed_more os frame o all (EncodedAfter.sends bytes request message reads may) =
      rw (sent_on os (Sent request message)) (all_after-push (IsAllowed rows) [] (sent os) (Sent request message) all may)
  allowed_more os frame o all EncodedAfter.resets = rw (sent_on os Reset) (all_after-push (IsAllowed rows) [] (sent os) Reset all tt)

  pub are_allowed : (frames : List Frame) (os : List Encoded) → EachAfter (λ past before frame o. EncodedAfter rows before frame o) [] [] frames os → AreAllowed rows (sent os)
  are_allowed frames os each =
      each_after-keeps (λ past before frame o. EncodedAfter rows before frame o) (λ fs outcomes. AreAllowed rows (sent outcomes))
      (λ fs outcomes frame o all gives. allowed_more outcomes frame o all gives) [] [] frames os tt each
