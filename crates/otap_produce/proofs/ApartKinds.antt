-- The kinds of a signal are different ones, and so are those of its senders.
use Rattle.std.proofs.Common.{◌≡◌, ◌≢◌, ◌⊎◌, inl, inr, ℕ, ◌<◌, ◌≤◌, Bool, true, false, List, [], ◌∷◌, length, get_or, refl, sym, ap, ◌∙◌, arith}
use Rattle.std.specs.Prelude.{map, nat_eq, not, ◌&&◌, ◌||◌}
use Rattle.std.specs.List.{AllByRecursion, IsDistinct, list_any}
use Rattle.std.proofs.lemmas.Bool.{cases_lt, and_parts}
use Rattle.std.proofs.lemmas.List.{get_or-map, length-map}
use Rattle.std.proofs.lemmas.Map.Keys.{apart_from_distinct}
use Rattle.std.specs.Cmp.{nat_eq_equiv}
use Rattle.otlp_model.specs.declared.request.Signal.{Signal}
use Rattle.otlp_model.specs.declared.request.Signal.TheVariants.{Traces, Logs, Metrics}
use Rattle.otap_cells.specs.declared.payload.Kind.{Kind}
use Rattle.otap_cells.specs.Payload.{is_kind, kinds_of, number_of}
use Rattle.otap_produce.specs.Senders.{SenderIn, kinds_in}

abbrev numbers : List Kind → List ℕ
numbers kinds = map (λ kind. number_of kind) kinds

-- no number is equal to one after it
abbrev are_apart : List ℕ → Bool
are_apart [] = true
are_apart (n ∷ ns) = not (list_any (nat_eq n) ns) && are_apart ns

neither : (a b : Bool) → not (a || b) ≡ true → (a ≡ false) × (not b ≡ true)
neither true b h = absurd (cc h)
neither false b h = (refl, h)

none_of : (n : ℕ) (ns : List ℕ) → not (list_any (nat_eq n) ns) ≡ true → AllByRecursion (λ m. nat_eq n m ≡ false) ns
none_of n [] h = tt
none_of n (m ∷ ns) h = let two = neither (nat_eq n m) (list_any (nat_eq n) ns) h in (two.0, none_of n ns two.1)

distinct : (ns : List ℕ) → are_apart ns ≡ true → IsDistinct nat_eq ns
unfolding IsDistinct
distinct [] h = tt
distinct (n ∷ ns) h = let two = and_parts (not (list_any (nat_eq n) ns)) (are_apart ns) h in (none_of n ns two.0, distinct ns two.1)

kinds_apart : (signal : Signal) → IsDistinct nat_eq (numbers (kinds_of signal))
kinds_apart Logs = distinct (numbers (kinds_of Logs)) refl
kinds_apart Traces = distinct (numbers (kinds_of Traces)) refl
kinds_apart Metrics = distinct (numbers (kinds_of Metrics)) refl

-- the senders at two indexes have different kinds
pub apart : (signal : Signal) (senders : List SenderIn) (i j : ℕ) (d : SenderIn) → kinds_in senders ≡ kinds_of signal → i < length senders → j < length senders → i ≢ j
    → is_kind (get_or senders i d).writer.kind (get_or senders j d).writer.kind ≡ false
apart signal senders i j d same low high differ = go (cases_lt i j)
  where
    at : (k : ℕ) → k < length senders → get_or (numbers (kinds_of signal)) k (number_of d.writer.kind) ≡ number_of (get_or senders k d).writer.kind
    at k inside =
        ap (λ (kinds : List Kind). get_or (numbers kinds) k (number_of d.writer.kind)) (sym same)
        ∙ get_or-map (λ (kind : Kind). number_of kind) (kinds_in senders) k d.writer.kind (number_of d.writer.kind) (omega (arith, length-map senders (λ (s : SenderIn). s.writer.kind), inside))
        ∙ ap (λ (kind : Kind). number_of kind) (get_or-map (λ (s : SenderIn). s.writer.kind) senders k d d.writer.kind inside)

    long : length (numbers (kinds_of signal)) ≡ length senders
    long = length-map (kinds_of signal) (λ (kind : Kind). number_of kind) ∙ ap (λ (kinds : List Kind). length kinds) (sym same) ∙ length-map senders (λ (s : SenderIn). s.writer.kind)

    by : (k l : ℕ) → k < l → k < length senders → l < length senders → nat_eq (number_of (get_or senders k d).writer.kind) (number_of (get_or senders l d).writer.kind) ≡ false
    by k l less inside inside' =
        ap (λ n. nat_eq n (number_of (get_or senders l d).writer.kind)) (sym (at k inside)) ∙ ap (λ n. nat_eq (get_or (numbers (kinds_of signal)) k (number_of d.writer.kind)) n) (sym (at l inside'))
        ∙ apart_from_distinct nat_eq (numbers (kinds_of signal)) k l (number_of d.writer.kind) (kinds_apart signal) less (omega (arith, long, inside'))

    go : (i < j) ⊎ (j ≤ i) → is_kind (get_or senders i d).writer.kind (get_or senders j d).writer.kind ≡ false
    go (inl less) = by i j less low high
    go (inr more) = nat_eq_equiv.symm (number_of (get_or senders i d).writer.kind) (number_of (get_or senders j d).writer.kind) ∙ by j i (omega (arith, more, differ)) high low
