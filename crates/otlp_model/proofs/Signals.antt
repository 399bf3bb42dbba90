-- Requests of one signal and of two.
use Rattle.std.proofs.Common.{◌≡◌, ℕ, ◌^◌, min, List, [], ◌∷◌, length, map, refl, ap, arith}
use Rattle.std.specs.Prelude.{◌↔◌, ◌≢◌, IsTrue, Bool}
use Rattle.std.specs.List.{AllZip}
use Rattle.std.proofs.lemmas.List.{nil_from_length}
use Rattle.otlp_model.specs.Telemetry.{ItemEntry, Item, span, log_record, metric, told_as, item_entries, telemetry, signal_of}
use Rattle.otlp_model.specs.Same.{SameItem, SameSpan, SameLogRecord, SameMetric, SameEntry, Same}
use Rattle.otlp_model.specs.declared.groups.ResourceGroup.{ResourceGroup}
use Rattle.otlp_model.specs.declared.spans.Span.{Span}
use Rattle.otlp_model.specs.declared.logs.LogRecord.{LogRecord}
use Rattle.otlp_model.specs.declared.metrics.Metric.{Metric}
use Rattle.otlp_model.specs.declared.request.Request.{Request}
use Rattle.otlp_model.specs.declared.request.Request.TheVariants.{Traces, Logs, Metrics}

-- entries of one kind are the same exactly where they are as items of any kind
module _ {I : Type 0} (kind : I → Item) (SameOne : I → I → Type 0) where
  pub kept : ((x y : I) → SameOne x y → SameItem (kind x) (kind y)) → (xs ys : List (ItemEntry I))
      → AllZip (SameEntry SameOne) xs ys → AllZip (SameEntry SameItem) (map (told_as kind) xs) (map (told_as kind) ys)
  kept f [] [] h = tt
  kept f [] (y ∷ ys) h = absurd h
  kept f (x ∷ xs) [] h = absurd h
  kept f (x ∷ xs) (y ∷ ys) h =
      (record { resource = h.0.resource; scope = h.0.scope; item = f x.item y.item h.0.item }, kept f xs ys h.1)

  pub kept_back : ((x y : I) → SameItem (kind x) (kind y) → SameOne x y) → (xs ys : List (ItemEntry I))
      → AllZip (SameEntry SameItem) (map (told_as kind) xs) (map (told_as kind) ys) → AllZip (SameEntry SameOne) xs ys
  kept_back f [] [] h = tt
  kept_back f [] (y ∷ ys) h = absurd h
  kept_back f (x ∷ xs) [] h = absurd h
  kept_back f (x ∷ xs) (y ∷ ys) h =
      (record { resource = h.0.resource; scope = h.0.scope; item = f x.item y.item h.0.item }, kept_back f xs ys h.1)

pub same_traces : (a b : Request) (x y xs ys : List (ResourceGroup Span)) (r : Bool) → a ≡ Traces x → b ≡ Traces y → xs ≡ x → ys ≡ y
    → (IsTrue r ↔ AllZip (SameEntry SameSpan) (item_entries xs) (item_entries ys)) → IsTrue r ↔ Same a b
same_traces a b x y xs ys r ax by' xx yy h = rw (ax, by', ← xx, ← yy)
    (λ t. kept span SameSpan (λ p q e. e) _ _ (h.0 t), λ s. h.1 (kept_back span SameSpan (λ p q e. e) _ _ s))

pub same_logs : (a b : Request) (x y xs ys : List (ResourceGroup LogRecord)) (r : Bool) → a ≡ Logs x → b ≡ Logs y → xs ≡ x → ys ≡ y
    → (IsTrue r ↔ AllZip (SameEntry SameLogRecord) (item_entries xs) (item_entries ys)) → IsTrue r ↔ Same a b
same_logs a b x y xs ys r ax by' xx yy h = rw (ax, by', ← xx, ← yy)
    (λ t. kept log_record SameLogRecord (λ p q e. e) _ _ (h.0 t), λ s. h.1 (kept_back log_record SameLogRecord (λ p q e. e) _ _ s))

pub same_metrics : (a b : Request) (x y xs ys : List (ResourceGroup Metric)) (r : Bool) → a ≡ Metrics x → b ≡ Metrics y → xs ≡ x → ys ≡ y
    → (IsTrue r ↔ AllZip (SameEntry SameMetric) (item_entries xs) (item_entries ys)) → IsTrue r ↔ Same a b
same_metrics a b x y xs ys r ax by' xx yy h = rw (ax, by', ← xx, ← yy)
    (λ t. kept metric SameMetric (λ p q e. e) _ _ (h.0 t), λ s. h.1 (kept_back metric SameMetric (λ p q e. e) _ _ s))

-- entries of two kinds are the same only where there are none
unlike : {I J : Type 0} (kind : I → Item) (other : J → Item) → ((x : I) (y : J) → SameItem (kind x) (other y) → ⊥)
    → (xs : List (ItemEntry I)) (ys : List (ItemEntry J)) → AllZip (SameEntry SameItem) (map (told_as kind) xs) (map (told_as other) ys)
    → (length (map (told_as kind) xs) ≡ 0) × (length (map (told_as other) ys) ≡ 0)
unlike kind other f [] [] h = (refl, refl)
unlike kind other f [] (y ∷ ys) h = absurd h
unlike kind other f (x ∷ xs) [] h = absurd h
unlike kind other f (x ∷ xs) (y ∷ ys) h = absurd (f x.item y.item h.0.item)

pub same_unlike : (a b : Request) → signal_of a ≢ signal_of b → Same a b → (length (telemetry a) ≡ 0) × (length (telemetry b) ≡ 0)
same_unlike (Traces x) (Traces y) d h = absurd (d refl)
same_unlike (Traces x) (Logs y) d h = unlike span log_record (λ p q e. e) (item_entries x) (item_entries y) h
same_unlike (Traces x) (Metrics y) d h = unlike span metric (λ p q e. e) (item_entries x) (item_entries y) h
same_unlike (Logs x) (Traces y) d h = unlike log_record span (λ p q e. e) (item_entries x) (item_entries y) h
same_unlike (Logs x) (Logs y) d h = absurd (d refl)
same_unlike (Logs x) (Metrics y) d h = unlike log_record metric (λ p q e. e) (item_entries x) (item_entries y) h
same_unlike (Metrics x) (Traces y) d h = unlike metric span (λ p q e. e) (item_entries x) (item_entries y) h
same_unlike (Metrics x) (Logs y) d h = unlike metric log_record (λ p q e. e) (item_entries x) (item_entries y) h
same_unlike (Metrics x) (Metrics y) d h = absurd (d refl)

-- requests without items denote the same telemetry
none_told : (xs ys : List (ItemEntry Item)) → length xs ≡ 0 → length ys ≡ 0 → AllZip (SameEntry SameItem) xs ys
none_told [] [] a b = tt
none_told [] (y ∷ ys) a b = absurd (omega arith)
none_told (x ∷ xs) ys a b = absurd (omega arith)

pub same_empty : (a b : Request) → length (telemetry a) ≡ 0 → length (telemetry b) ≡ 0 → Same a b
same_empty a b e f = none_told (telemetry a) (telemetry b) e f

-- a request that is not of the signal of another one
pub unlike_traces : (a b : Request) (x : List (ResourceGroup Span)) → a ≡ Traces x
    → ((y : List (ResourceGroup Span)) → b ≡ Traces y → ⊥) → signal_of a ≢ signal_of b
unlike_traces a (Traces y) x e d h = d y refl
unlike_traces a (Logs y) x e d h = let f = ap signal_of e in cc
unlike_traces a (Metrics y) x e d h = let f = ap signal_of e in cc

pub unlike_logs : (a b : Request) (x : List (ResourceGroup LogRecord)) → a ≡ Logs x
    → ((y : List (ResourceGroup LogRecord)) → b ≡ Logs y → ⊥) → signal_of a ≢ signal_of b
unlike_logs a (Logs y) x e d h = d y refl
unlike_logs a (Traces y) x e d h = let f = ap signal_of e in cc
unlike_logs a (Metrics y) x e d h = let f = ap signal_of e in cc

pub unlike_metrics : (a b : Request) (x : List (ResourceGroup Metric)) → a ≡ Metrics x
    → ((y : List (ResourceGroup Metric)) → b ≡ Metrics y → ⊥) → signal_of a ≢ signal_of b
unlike_metrics a (Metrics y) x e d h = d y refl
unlike_metrics a (Traces y) x e d h = let f = ap signal_of e in cc
unlike_metrics a (Logs y) x e d h = let f = ap signal_of e in cc

-- two requests of unlike signals whose items were counted
pub same_counted : (a b : Request) (m n : ℕ) → m ≡ min (length (telemetry a)) (2 ^ 63) → n ≡ min (length (telemetry b)) (2 ^ 63)
    → signal_of a ≢ signal_of b → ((m ≡ 0) × (n ≡ 0)) ↔ Same a b
same_counted a b m n counted_a counted_b differ = (
  λ h. same_empty a b (omega (arith, counted_a, h.0)) (omega (arith, counted_b, h.1)),
  λ s. let none = same_unlike a b differ s in (omega (arith, counted_a, none.0), omega (arith, counted_b, none.1)),
)

pub same_of_two : (a b : Request) → signal_of a ≢ signal_of b → Same a b ↔ ((telemetry a ≡ []) × (telemetry b ≡ []))
same_of_two a b differ = (
  λ s. let none = same_unlike a b differ s in (nil_from_length (telemetry a) none.0, nil_from_length (telemetry b) none.1),
  λ h. same_empty a b (ap length h.0) (ap length h.1),
)
