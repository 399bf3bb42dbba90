-- Words that aren't those of `file` or `unfile`; and what a run of `unfile` leaves where nothing failed.
use Rattle.std.proofs.Common.{◌≡◌, ◌⊎◌, inl, inr, ℕ, ◌+◌, ◌<◌, ◌≤◌, ◌^◌, zero, suc, true, List, [], ◌∷◌, ◌++◌, length, get_or, map, take, Option, Some, None, Result, Ok, Err, ℤ, pos, refl, sym, ap, ◌∙◌, subst, append-nil, arith}
use Rattle.std.specs.Prelude.{Contains, MatchOption, codes, find}
use Rattle.std.specs.Fmt.{decimal}
use Rattle.std.specs.Ordering.{int_eq}
use Rattle.std.proofs.lemmas.Fmt.{decimal_injective}
use Rattle.std.proofs.lemmas.Bool.{cases_Bool}
use Rattle.std.proofs.lemmas.Bool.Decides.{Decides-int_eq}
use Rattle.otlp_model.specs.declared.request.Signal.{Signal}
use Rattle.otap_capture.specs.Outside.{Rose}
use Rattle.otap_cells.specs.declared.payload.Kind.{Kind}
use Rattle.otap_cells.specs.Payload.{kind_numbered, kinds_of, number_of}
use Rattle.otap_cells.proofs.KindsApart.{number_small}
use Rattle.arrow_file.specs.Limits.{max_file}
use Rattle.otap_gateway.specs.declared.jobs.ending.Ending.TheVariants as ending
use Rattle.otap_gateway.specs.declared.jobs.unfile.Unfile.{Unfile}
use Rattle.otap_gateway.specs.declared.runs.stop.Stop.{Stop}
use Rattle.otap_gateway.specs.declared.runs.stop.Stop.TheVariants as stop
use Rattle.otap_gateway.specs.declared.runs.stop.Tally.{Tally}
use Rattle.otap_gateway.specs.Commands.{signal_word}
use Rattle.otap_gateway.specs.Endings.{IsNoEnding, number_limit}
use Rattle.otap_gateway.specs.Runs.{CountsFaults, World, exit_status}
use Rattle.otap_gateway.specs.Unfiling.{CompletesUnfile, IsNoUnfile, LeavesUnfile, RunsUnfile, TakesFile, Unfiles, UnfilesAll}
use Rattle.otap_consume.proofs.Lists.{finds}
use Rattle.otap_gateway.proofs.LoadWords.{same_signal}

-- ---- words of `file`

-- four words, by their indexes
pub four_words : {X : Type 0} (f : X → List ℕ) (ws : List X) (a b c d : X) → 4 ≤ length ws → length ws < 5 → a ≡ get_or ws 0 a → b ≡ get_or ws 1 b → c ≡ get_or ws 2 c → d ≡ get_or ws 3 d
    → map f ws ≡ f a ∷ f b ∷ f c ∷ f d ∷ []
four_words f [] a b c d many few first second third fourth = absurd (omega (arith, many))
four_words f (w ∷ []) a b c d many few first second third fourth = absurd (omega (arith, many))
four_words f (w ∷ x ∷ []) a b c d many few first second third fourth = absurd (omega (arith, many))
four_words f (w ∷ x ∷ y ∷ []) a b c d many few first second third fourth = absurd (omega (arith, many))
four_words f (w ∷ x ∷ y ∷ z ∷ []) a b c d many few first second third fourth = λ i. f (sym first i) ∷ f (sym second i) ∷ f (sym third i) ∷ f (sym fourth i) ∷ []
four_words f (w ∷ x ∷ y ∷ z ∷ v ∷ ws) a b c d many few first second third fourth = absurd (omega (arith, few))

module _ (job signal kind number : List ℕ) where
  pub no_file : (job ≡ codes "file" → ⊥) → IsNoEnding (job ∷ signal ∷ kind ∷ number ∷ [])
  no_file other (ending.File s k n) is same = other (cc same)
  no_file other (ending.Resend s w) is same = absurd (cc same)

  pub no_signal : ((s : Signal) → signal ≡ signal_word s → ⊥) → IsNoEnding (job ∷ signal ∷ kind ∷ number ∷ [])
  no_signal none (ending.File s k n) is same = none s (cc same)
  no_signal none (ending.Resend s w) is same = absurd (cc same)

  pub no_kind : (s : Signal) → signal ≡ signal_word s → ((k : Kind) → Contains (kinds_of s) k → kind ≡ decimal (number_of k) → ⊥) → IsNoEnding (job ∷ signal ∷ kind ∷ number ∷ [])
  no_kind s is_signal none (ending.File t k n) is same =
      let named : signal ≡ signal_word t = cc same in
      let one : t ≡ s = same_signal t s (sym named ∙ is_signal) in
      none k (subst (λ (x : Signal). Contains (kinds_of x) k) one is.kind_is) (cc same)
  no_kind s is_signal none (ending.Resend t w) is same = absurd (cc same)

  pub no_number : ((n : ℕ) → n ≤ number_limit → number ≡ decimal n → ⊥) → IsNoEnding (job ∷ signal ∷ kind ∷ number ∷ [])
  no_number none (ending.File s k n) is same = none n is.few (cc same)
  no_number none (ending.Resend s w) is same = absurd (cc same)

pub past_limit : (word : List ℕ) (number : ℕ) → number < 2 ^ 32 → number_limit < number → word ≡ decimal number → (n : ℕ) → n ≤ number_limit → word ≡ decimal n → ⊥
past_limit word number fits many is n few says =
    let same = decimal_injective number n (omega (arith, fits)) (omega (arith, few)) (sym is ∙ says) in
    omega (arith, same, many, few)

-- ---- payload types

-- a number that no payload type of the signal has
pub no_type : (word : List ℕ) (signal : Signal) (number : ℕ) → number < 2 ^ 32 → kind_numbered signal (pos number) ≡ None → word ≡ decimal number
    → (k : Kind) → Contains (kinds_of signal) k → word ≡ decimal (number_of k) → ⊥
no_type word signal number fits none is k there says =
    let small = number_small k in
    let same = decimal_injective number (number_of k) (omega (arith, fits)) (omega (arith, small)) (sym is ∙ says) in
    missing (kinds_of signal) there (ap (λ (n : ℕ). find (λ kind. int_eq (pos (number_of kind)) (pos n)) (kinds_of signal)) (sym same) ∙ none)
  where
    missing : (kinds : List Kind) → Contains kinds k → find (λ kind. int_eq (pos (number_of kind)) (pos (number_of k))) kinds ≡ None → ⊥
    missing [] there none = omega (arith, there.1)
    missing (kind ∷ kinds) (zero, within, is_it) none =
        let own : int_eq (pos (number_of kind)) (pos (number_of k)) ≡ true
        = (Decides-int_eq (pos (number_of kind)) (pos (number_of k))).1 (ap (λ (x : Kind). pos (number_of x)) is_it) in
        absurd (cc (rw own at none))
    missing (kind ∷ kinds) (suc n, within, is_it) none =
        elim (cases_Bool (int_eq (pos (number_of kind)) (pos (number_of k)))) [
          | inl own ↦ absurd (cc (rw own at none))
          | inr other ↦ missing kinds (n, omega (arith, within), is_it) (rw other at none)
        ]

-- or one that none can have
pub too_large : (word : List ℕ) (signal : Signal) (number : ℕ) → number < 2 ^ 32 → 127 < number → word ≡ decimal number → (k : Kind) → Contains (kinds_of signal) k → word ≡ decimal (number_of k) → ⊥
too_large word signal number fits large is k there says =
    let small = number_small k in
    let same = decimal_injective number (number_of k) (omega (arith, fits)) (omega (arith, small)) (sym is ∙ says) in
    omega (arith, same, small, large)

-- the payload type that has it
pub is_type : (word : List ℕ) (signal : Signal) (number : ℕ) (k : Kind) → kind_numbered signal (pos number) ≡ Some k → word ≡ decimal number
    → Contains (kinds_of signal) k × (word ≡ decimal (number_of k))
is_type word signal number k found is =
    let there = finds (λ kind. int_eq (pos (number_of kind)) (pos number)) (kinds_of signal) k found in
    let same : pos (number_of k) ≡ pos number = (Decides-int_eq (pos (number_of k)) (pos number)).0 there.passes in
    let number_is : number_of k ≡ number = cc same in
    ((there.at, there.inside, there.is k), is ∙ ap decimal (sym number_is))

-- what is found of a number
pub type_told : (word : List ℕ) (signal : Signal) (number : ℕ) (z : ℤ) (o : Option Kind) → number < 2 ^ 32 → word ≡ decimal number → z ≡ pos number → o ≡ kind_numbered signal z
    → MatchOption o ((k : Kind) → Contains (kinds_of signal) k → word ≡ decimal (number_of k) → ⊥) (λ k. Contains (kinds_of signal) k × (word ≡ decimal (number_of k)))
type_told word signal number z None fits is same found = no_type word signal number fits (ap (kind_numbered signal) (sym same) ∙ sym found) is
type_told word signal number z (Some k) fits is same found = is_type word signal number k (ap (kind_numbered signal) (sym same) ∙ sym found) is

-- ---- words of `unfile`

module _ (job signal kind : List ℕ) where
  pub no_unfile : (job ≡ codes "unfile" → ⊥) → IsNoUnfile (job ∷ signal ∷ kind ∷ [])
  no_unfile other u is same = other (cc same)

  pub no_unfile_signal : ((s : Signal) → signal ≡ signal_word s → ⊥) → IsNoUnfile (job ∷ signal ∷ kind ∷ [])
  no_unfile_signal none u is same = none u.signal (cc same)

  pub no_unfile_kind : (s : Signal) → signal ≡ signal_word s → ((k : Kind) → Contains (kinds_of s) k → kind ≡ decimal (number_of k) → ⊥) → IsNoUnfile (job ∷ signal ∷ kind ∷ [])
  no_unfile_kind s is_signal none u is same =
      let named : signal ≡ signal_word u.signal = cc same in
      let one : u.signal ≡ s = same_signal u.signal s (sym named ∙ is_signal) in
      none u.kind (subst (λ (x : Signal). Contains (kinds_of x) u.kind) one is) (cc same)

-- ---- a run of `unfile` in which no count of faults rose

all_looked_at : (bytes taken : List ℕ) (left : Option (List ℕ)) → TakesFile (Some bytes) left taken → taken ≡ take (max_file + 1) bytes
all_looked_at bytes taken None takes = absurd takes.taken
all_looked_at bytes taken (Some rest) takes = by_end takes.enough
  where
    take_within : (xs : List ℕ) (n : ℕ) → length xs ≤ n → take n xs ≡ xs
    take_within [] zero few = refl
    take_within [] (suc n) few = refl
    take_within (x ∷ xs) zero few = absurd (omega (arith, few))
    take_within (x ∷ xs) (suc n) few = ap (λ l. x ∷ l) (take_within xs n (omega (arith, few)))

    take_front : (xs ys : List ℕ) → take (length xs) (xs ++ ys) ≡ xs
    take_front [] ys = none_taken ys
      where
        none_taken : (ys : List ℕ) → take 0 ys ≡ []
        none_taken [] = refl
        none_taken (y ∷ ys) = refl
    take_front (x ∷ xs) ys = ap (λ l. x ∷ l) (take_front xs ys)

    by_end : (rest ≡ []) ⊎ (length taken ≡ max_file + 1) → taken ≡ take (max_file + 1) bytes
    by_end (inl none) =
        let all : bytes ≡ taken = takes.taken ∙ ap (λ l. taken ++ l) none ∙ append-nil taken in
        let few = takes.few in
        sym (ap (take (max_file + 1)) all ∙ take_within taken (max_file + 1) few)
    by_end (inr full) = sym (ap (take (max_file + 1)) takes.taken ∙ ap (λ n. take n (taken ++ rest)) (sym full) ∙ take_front taken rest)

completes : (job : Unfile) (old new : World) (tally : Tally) (bytes : List ℕ) → UnfilesAll job.kind old new tally → old.left ≡ Some bytes
    → CompletesUnfile job bytes old.sinks new.sinks (exit_status (Ok tally))
completes job old new tally bytes w bytes_left = record {
  reply = w.reply;
  gives = subst (λ (l : List ℕ). Unfiles job.kind l w.reply) (all_looked_at bytes w.bytes new.left (subst (λ (o : Option (List ℕ)). TakesFile o new.left w.bytes) bytes_left w.takes)) w.gives;
  out = w.out;
  err = w.err;
  flushed = w.flushed;
  same = rw (w.damaged, w.refused) refl;
}

pub complete_unfiles : (job : Unfile) (old new : World) (status : ℕ) (bytes : List ℕ) → RunsUnfile job old new status → old.left ≡ Some bytes
    → (Rose old.faults new.faults → ⊥)
    → (Rose old.sinks.out.faults new.sinks.out.faults → ⊥)
    → (Rose old.sinks.err.faults new.sinks.err.faults → ⊥)
    → (status ≡ 6) ⊎ CompletesUnfile job bytes old.sinks new.sinks status
complete_unfiles job old new status bytes run bytes_left source out err =
    subst (λ n. (n ≡ 6) ⊎ CompletesUnfile job bytes old.sinks new.sinks n) (sym run.same) (by_returned run.returned run.leaves run.faults)
  where
    by_returned : (returned : Result Tally Stop) → LeavesUnfile job.kind old new returned → CountsFaults old new returned
        → (exit_status returned ≡ 6) ⊎ CompletesUnfile job bytes old.sinks new.sinks (exit_status returned)
    by_returned (Ok tally) leaves faults = inr (completes job old new tally bytes leaves bytes_left)
    by_returned (Err stop.Source) leaves faults = absurd (source faults.0)
    by_returned (Err stop.Sink) leaves faults = elim faults.1 [ inl failed ↦ absurd (out failed.out) | inr failed ↦ absurd (err failed.err) ]
    by_returned (Err stop.Memory) leaves faults = inl refl
