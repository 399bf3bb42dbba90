-- The dictionaries after the batches of a record, one column after the other.
use Rattle.std.proofs.Common.{◌≡◌, ◌≢◌, ℕ, suc, zero, ◌<◌, ◌≤◌, Bool, true, false, List, [], ◌∷◌, ◌++◌, length, Option, Some, refl, sym, ap, ◌∙◌, arith, append-nil, ◌⊎◌, inl, inr}
use Rattle.std.specs.Prelude.{ℤ, pos, map, Ok}
use Rattle.std.specs.Ordering.{int_eq}
use Rattle.std.proofs.lemmas.Bool.{cases_Bool, cases_lt}
use Rattle.std.proofs.lemmas.Bool.Decides.{Decides-int_eq}
use Rattle.std.proofs.lemmas.Cmp.{int_eq_equiv}
use Rattle.std.proofs.lemmas.Grind.{flat_map-append}
use Rattle.std.proofs.lemmas.List.{length-map}
use Rattle.arrow_schema.specs.declared.spec.ArrowType.{ArrowType}
use Rattle.arrow_ipc.specs.declared.messages.IpcMessage.{IpcMessage}
use Rattle.arrow_ipc.specs.declared.messages.IpcMessage.TheVariants.{Dictionary}
use Rattle.arrow_ipc.specs.Batches.{BatchIn}
use Rattle.arrow_arrays.specs.Cells.{array_check, place_of_values}
use Rattle.otap_columns.specs.Dictionaries.{values_of, dictionary_batches, batches_of, dictionary_over, kept}
use Rattle.otap_columns.specs.WrittenPayloads.{heads}
use Rattle.otap_columns.proofs.Growing.{joined, joined-push}

-- the values, none of them null
abbrev pub all_some : List (List ℕ) → List (Option (List ℕ))
all_some values = map (λ value. Some value) values

-- what a column has in a record after messages: nothing where its dictionary is as it should be, or a batch that makes it so
pub data Turn (type : ArrowType) (column : ℕ) (start : List IpcMessage) (values : List (List ℕ)) : List IpcMessage → Type 0 where
  stays : dictionary_over type (pos column) start ≡ all_some values → Turn type column start values []
  gets : (delta : Bool) (batch : BatchIn) → kept delta (dictionary_over type (pos column) start) ++ values_of type batch ≡ all_some values → array_check batch (place_of_values type) ≡ Ok tt
      → Turn type column start values (Dictionary (pos column) delta batch ∷ [])

batches-append : (id : ℤ) (ms ns : List IpcMessage) → batches_of id (ms ++ ns) ≡ batches_of id ms ++ batches_of id ns
batches-append id ms ns = flat_map-append (dictionary_batches id) ms ns

-- two columns have different ids
apart : (a b : ℕ) → a ≢ b → int_eq (pos a) (pos b) ≡ false
apart a b differ = by (cases_Bool (int_eq (pos a) (pos b)))
  where
    by : (int_eq (pos a) (pos b) ≡ true) ⊎ (int_eq (pos a) (pos b) ≡ false) → int_eq (pos a) (pos b) ≡ false
    by (inl same) = absurd (differ (let e : pos a ≡ pos b = (Decides-int_eq (pos a) (pos b)).0 same in cc))
    by (inr other) = other

own-batch : (column : ℕ) (delta : Bool) (batch : BatchIn) → batches_of (pos column) (Dictionary (pos column) delta batch ∷ []) ≡ (delta, batch) ∷ []
own-batch column delta batch = rw (int_eq_equiv.refl (pos column)) refl

other-turn : (type : ArrowType) (c column : ℕ) (start : List IpcMessage) (values : List (List ℕ)) (ms : List IpcMessage) → c ≢ column → Turn type column start values ms → batches_of (pos c) ms ≡ []
other-turn type c column start values [] differ (stays is) = refl
other-turn type c column start values (m ∷ ms) differ (gets delta batch is fine) = rw (apart c column differ) refl

module _ (types : ℕ → ArrowType) (wanted : ℕ → Bool) (width : ℕ) (start : List IpcMessage) (values : ℕ → List (List ℕ)) (head : ℕ → List IpcMessage) where
  -- each column has its turn, and one that isn't a dictionary has nothing
  pub record Turns : Type 0 where
    pub own : (column : ℕ) → column < width → wanted column ≡ true → Turn (types column) column start (values column) (head column)
    pub quiet : (column : ℕ) → wanted column ≡ false → head column ≡ []

  module _ (turns : Turns) where
    passed : (c column : ℕ) → c ≢ column → column < width → batches_of (pos c) (head column) ≡ []
    passed c column differ below = by (cases_Bool (wanted column))
      where
        by : (wanted column ≡ true) ⊎ (wanted column ≡ false) → batches_of (pos c) (head column) ≡ []
        by (inl is) = other-turn (types column) c column start (values column) (head column) differ (turns.own column below is)
        by (inr not) = rw (turns.quiet column not) refl

    none_yet : (c n : ℕ) → n ≤ c → n ≤ width → batches_of (pos c) (heads head n) ≡ []
    none_yet c zero h low = refl
    none_yet c (suc n) h low = batches-append (pos c) (heads head n) (head n) ∙ ap (λ bs. bs ++ batches_of (pos c) (head n)) (none_yet c n (omega arith) (omega arith)) ∙ passed c n (omega arith) (omega arith)

    only_own : (c n : ℕ) → c < n → n ≤ width → batches_of (pos c) (heads head n) ≡ batches_of (pos c) (head c)
    only_own c zero h low = absurd (omega arith)
    only_own c (suc n) h low = batches-append (pos c) (heads head n) (head n) ∙ by (cases_lt c n) (λ lt. only_own c n lt (omega arith))
      where
        by : (c < n) ⊎ (n ≤ c) → (c < n → batches_of (pos c) (heads head n) ≡ batches_of (pos c) (head c)) → batches_of (pos c) (heads head n) ++ batches_of (pos c) (head n) ≡ batches_of (pos c) (head c)
        by (inl lt) rest = ap (λ bs. bs ++ batches_of (pos c) (head n)) (rest lt) ∙ ap (λ bs. batches_of (pos c) (head c) ++ bs) (passed c n (omega arith) (omega arith)) ∙ append-nil (batches_of (pos c) (head c))
        by (inr ge) rest =
            let same : c ≡ n = omega arith in
            ap (λ bs. bs ++ batches_of (pos c) (head n)) (none_yet c n ge (omega arith)) ∙ ap (λ k. batches_of (pos c) (head k)) (sym same)

    -- a dictionary is as it was before its column's turn
    pub before_turn : (kind : ArrowType) (c n : ℕ) → n ≤ c → n ≤ width → dictionary_over kind (pos c) (start ++ heads head n) ≡ dictionary_over kind (pos c) start
    unfolding dictionary_over
    before_turn kind c n h low =
        ap (joined kind) (batches-append (pos c) start (heads head n) ∙ ap (λ bs. batches_of (pos c) start ++ bs) (none_yet c n h low) ∙ append-nil (batches_of (pos c) start))

    turned : (kind : ArrowType) (column : ℕ) (ms : List IpcMessage) → Turn kind column start (values column) ms → joined kind (batches_of (pos column) start ++ batches_of (pos column) ms) ≡ all_some (values column)
    unfolding dictionary_over
    turned kind column [] (stays is) = ap (joined kind) (append-nil (batches_of (pos column) start)) ∙ is
    turned kind column (m ∷ ms) (gets delta batch is fine) =
        ap (λ bs. joined kind (batches_of (pos column) start ++ bs)) (own-batch column delta batch) ∙ joined-push kind (batches_of (pos column) start) delta batch ∙ is

    -- and as it should be after it
    pub after_turn : (c n : ℕ) → c < n → n ≤ width → wanted c ≡ true → dictionary_over (types c) (pos c) (start ++ heads head n) ≡ all_some (values c)
    unfolding dictionary_over
    after_turn c n h low is =
        ap (joined (types c)) (batches-append (pos c) start (heads head n) ∙ ap (λ bs. batches_of (pos c) start ++ bs) (only_own c n h low))
        ∙ turned (types c) c (head c) (turns.own c (omega arith) is)

    -- it never has too many values
    pub few_after : (most c n : ℕ) → n ≤ width → wanted c ≡ true → length (values c) ≤ most → length (dictionary_over (types c) (pos c) start) ≤ most
        → length (dictionary_over (types c) (pos c) (start ++ heads head n)) ≤ most
    few_after most c n low is after before = by (cases_lt c n)
      where
        by : (c < n) ⊎ (n ≤ c) → length (dictionary_over (types c) (pos c) (start ++ heads head n)) ≤ most
        by (inl lt) = rw (after_turn c n lt low is, length-map) after
        by (inr ge) = rw (before_turn (types c) c n ge low) before
