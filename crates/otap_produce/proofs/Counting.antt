-- The openings of payloads, with one more.
use Rattle.std.proofs.Common.{◌≡◌, ℕ, ◌+◌, ◌≤◌, suc, Bool, true, false, List, [], ◌∷◌, ◌++◌, if◌then◌else◌, refl, ap, ◌∙◌, append_assoc, append-nil, arith}
use Rattle.lists.specs.Payloads.{PayloadIn}
use Rattle.otap_columns.specs.Streams.{opens}
use Rattle.otap_columns.specs.TableSets.{openings_after, openings}

-- one, where it opens
abbrev pub if_opens : Bool → ℕ
if_opens true = 1
if_opens false = 0

alone : (b : Bool) → (if b then suc 0 else 0) ≡ 0 + if_opens b
alone true = refl
alone false = refl

after_one : (b : Bool) (n m k : ℕ) → n ≡ m + k → (if b then suc n else n) ≡ (if b then suc m else m) + k
after_one true n m k is = omega (arith, is)
after_one false n m k is = is

pub openings_after-push : (past ps : List PayloadIn) (p : PayloadIn) → openings_after past (ps ++ p ∷ []) ≡ openings_after past ps + if_opens (opens (past ++ ps) p)
openings_after-push past [] p = rw (append-nil past) (alone (opens past p))
openings_after-push past (q ∷ ps) p =
    let rest : openings_after (past ++ q ∷ []) (ps ++ p ∷ []) ≡ openings_after (past ++ q ∷ []) ps + if_opens (opens (past ++ q ∷ ps) p) =
    openings_after-push (past ++ q ∷ []) ps p ∙ ap (λ before. openings_after (past ++ q ∷ []) ps + if_opens (opens before p)) (append_assoc past (q ∷ []) ps) in
    after_one (opens past q) (openings_after (past ++ q ∷ []) (ps ++ p ∷ [])) (openings_after (past ++ q ∷ []) ps) (if_opens (opens (past ++ q ∷ ps) p)) rest

pub openings-push : (ps : List PayloadIn) (p : PayloadIn) → openings (ps ++ p ∷ []) ≡ openings ps + if_opens (opens ps p)
unfolding openings
openings-push ps p = openings_after-push [] ps p

pub openings-none : openings [] ≡ 0
unfolding openings
openings-none = refl

pub openings_grow : (ps : List PayloadIn) (p : PayloadIn) → openings ps ≤ openings (ps ++ p ∷ [])
openings_grow ps p = omega (arith, openings-push ps p)
