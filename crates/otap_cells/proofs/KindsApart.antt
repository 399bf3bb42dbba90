-- Kinds by their numbers.
use Rattle.std.proofs.Common.{◌≡◌, ℕ, pos, true, List, [], ◌∷◌, Some, inl, inr, refl, sym, ap, ◌∙◌, ◌<◌, arith}
use Rattle.std.specs.Prelude.{find, ◌==◌, FitsSigned}
use Rattle.std.specs.Ordering.{int_eq}
use Rattle.std.specs.Int.{w32}
use Rattle.std.proofs.lemmas.Bool.{eqb-true, eq-eqb, cases_Bool, both_ways}
use Rattle.std.proofs.lemmas.Bool.Decides.{Decides-int_eq}
use Rattle.std.proofs.lemmas.Int.{fits_signed_from_abs}
use Rattle.otap_cells.specs.declared.payload.Kind.{Kind}
use Rattle.otap_cells.specs.declared.payload.Kind.TheVariants as table
use Rattle.otap_cells.specs.Payload.{number_of, is_kind}

abbrev all_kinds : List Kind
all_kinds = table.ResourceAttrs ∷ table.ScopeAttrs ∷ table.Metrics ∷ table.NumberPoints ∷ table.SummaryPoints ∷ table.HistPoints ∷ table.NumberPointAttrs ∷ table.SummaryPointAttrs
    ∷ table.HistPointAttrs ∷ table.NumberExemplars ∷ table.HistExemplars ∷ table.NumberExemplarAttrs ∷ table.HistExemplarAttrs ∷ table.Logs ∷ table.LogAttrs ∷ table.Spans
    ∷ table.SpanAttrs ∷ table.SpanEvents ∷ table.SpanLinks ∷ table.EventAttrs ∷ table.LinkAttrs ∷ []

-- each is found by its number
by_number : (kind : Kind) → find (λ k. number_of k == number_of kind) all_kinds ≡ Some kind
by_number table.ResourceAttrs = refl
by_number table.ScopeAttrs = refl
by_number table.Metrics = refl
by_number table.NumberPoints = refl
by_number table.SummaryPoints = refl
by_number table.HistPoints = refl
by_number table.NumberPointAttrs = refl
by_number table.SummaryPointAttrs = refl
by_number table.HistPointAttrs = refl
by_number table.NumberExemplars = refl
by_number table.HistExemplars = refl
by_number table.NumberExemplarAttrs = refl
by_number table.HistExemplarAttrs = refl
by_number table.Logs = refl
by_number table.LogAttrs = refl
by_number table.Spans = refl
by_number table.SpanAttrs = refl
by_number table.SpanEvents = refl
by_number table.SpanLinks = refl
by_number table.EventAttrs = refl
by_number table.LinkAttrs = refl

pub same_number : (a b : Kind) → number_of a ≡ number_of b → a ≡ b
same_number a b same =
    let one : Some a ≡ Some b = sym (by_number a) ∙ ap (λ (n : ℕ). find (λ k. number_of k == n) all_kinds) same ∙ by_number b in
    cc one

pub same_kind : (a b : Kind) → is_kind a b ≡ true → a ≡ b
same_kind a b is = same_number a b (eqb-true (number_of a) (number_of b) is)

-- a kind is itself
pub is_itself : (kind : Kind) → is_kind kind kind ≡ true
is_itself kind = eq-eqb (number_of kind) (number_of kind) refl

-- payload types are compared as their numbers
pub types_compared : (a b : Kind) → int_eq (pos (number_of a)) (pos (number_of b)) ≡ is_kind a b
types_compared a b =
    elim (cases_Bool (is_kind a b)) [
      | inl one ↦ (Decides-int_eq (pos (number_of a)) (pos (number_of b))).1 (ap (λ (kind : Kind). pos (number_of kind)) (same_kind a b one)) ∙ sym one
      | inr other ↦
          elim (cases_Bool (int_eq (pos (number_of a)) (pos (number_of b)))) [
            | inl equal ↦
                let numbers : pos (number_of a) ≡ pos (number_of b) = (Decides-int_eq (pos (number_of a)) (pos (number_of b))).0 equal in
                let same : number_of a ≡ number_of b = cc numbers in
                absurd (both_ways (is_kind a b) other (eq-eqb (number_of a) (number_of b) same))
            | inr unequal ↦ unequal ∙ sym other
          ]
    ]

-- the numbers are small
pub number_small : (kind : Kind) → number_of kind < 64
number_small table.ResourceAttrs = omega arith
number_small table.ScopeAttrs = omega arith
number_small table.Metrics = omega arith
number_small table.NumberPoints = omega arith
number_small table.SummaryPoints = omega arith
number_small table.HistPoints = omega arith
number_small table.NumberPointAttrs = omega arith
number_small table.SummaryPointAttrs = omega arith
number_small table.HistPointAttrs = omega arith
number_small table.NumberExemplars = omega arith
number_small table.HistExemplars = omega arith
number_small table.NumberExemplarAttrs = omega arith
number_small table.HistExemplarAttrs = omega arith
number_small table.Logs = omega arith
number_small table.LogAttrs = omega arith
number_small table.Spans = omega arith
number_small table.SpanAttrs = omega arith
number_small table.SpanEvents = omega arith
number_small table.SpanLinks = omega arith
number_small table.EventAttrs = omega arith
number_small table.LinkAttrs = omega arith

-- so they fit 32 bits
pub number_fits : (kind : Kind) → FitsSigned w32 (pos (number_of kind))
number_fits kind = fits_signed_from_abs w32 (pos (number_of kind)) (omega (arith, number_small kind))
