-- What was written is still the end of what is there, after writes of which the last one fails.
use Rattle.std.proofs.Common.{◌≡◌, ℕ, ◌-◌, List, [], ◌++◌, length, drop, append_assoc, length-append, refl, sym, ap, subst, ◌∙◌, arith}
use Rattle.std.proofs.Math.Seq.{drop-append_seam}
use Rattle.std.specs.Prelude.{Result, Ok, Err, OnErr}
use Rattle.std.proofs.lemmas.Result.{on_err_weaker}
use Rattle.otlp_messages.specs.Kept.{KeepsEnd}

pub keeps_itself : (bytes : List ℕ) → KeepsEnd bytes bytes
unfolding KeepsEnd
keeps_itself bytes = ([], refl)

-- what is the end of more bytes, which are the end, is the end
pub keeps_more : (front old new : List ℕ) → KeepsEnd (front ++ old) new → KeepsEnd old new
unfolding KeepsEnd
keeps_more front old new kept = (kept.0 ++ front, kept.1 ∙ sym (append_assoc kept.0 front old))

-- the same over four writes, of which a proof takes fewer steps than of one at a time
pub keeps_four : (a b c d old new : List ℕ) → KeepsEnd (a ++ (b ++ (c ++ (d ++ old)))) new → KeepsEnd old new
keeps_four a b c d old new kept = keeps_more d old new (keeps_more c (d ++ old) new (keeps_more b (c ++ (d ++ old)) new (keeps_more a (b ++ (c ++ (d ++ old))) new kept)))

-- before the last write, another one went well
pub keeps_on : (front old mid new : List ℕ) → mid ≡ front ++ old → KeepsEnd mid new → KeepsEnd old new
keeps_on front old mid new written kept = keeps_more front old new (subst (λ (bytes : List ℕ). KeepsEnd bytes new) written kept)

-- before it, a part that was written was made a field
pub keeps_closed : (n m : ℕ) (part front old mid closed new : List ℕ) → mid ≡ part ++ old → n ≡ length mid → m ≡ length old → closed ≡ front ++ drop (n - m) mid
    → KeepsEnd closed new → KeepsEnd old new
keeps_closed n m part front old mid closed new written n_is m_is closed_is kept =
    let size : n - m ≡ length part = omega (arith, n_is, m_is, ap length written, length-append part old) in
    let rest : drop (n - m) mid ≡ old = subst (λ (k : ℕ). drop k mid ≡ old) (sym size) (ap (drop (length part)) written ∙ drop-append_seam part old) in
    keeps_on front old closed new (closed_is ∙ ap (λ (bytes : List ℕ). front ++ bytes) rest) kept

-- the last write left what it found
keeps_stopped : (front old mid new : List ℕ) → mid ≡ front ++ old → new ≡ mid → KeepsEnd old new
unfolding KeepsEnd
keeps_stopped front old mid new written same = (front, same ∙ written)

pub stopped : {A E : Type 0} (r : Result A E) (front old mid new : List ℕ) → mid ≡ front ++ old → OnErr r (new ≡ mid) → OnErr r (KeepsEnd old new)
stopped r front old mid new written = on_err_weaker r (keeps_stopped front old mid new written)

pub on_any_err : {A E P : Type 0} (r : Result A E) → P → OnErr r P
on_any_err (Ok a) p = tt
on_any_err (Err e) p = p

-- a result that hands on the error of the last write
pub handed_on : {A E : Type 0} (r : Result A E) (front old mid new : List ℕ) → mid ≡ front ++ old → new ≡ mid → OnErr r (KeepsEnd old new)
handed_on r front old mid new written same = on_any_err r (keeps_stopped front old mid new written same)
