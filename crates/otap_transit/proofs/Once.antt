-- Each kind of a signal occurs once among its kinds, and so among tables in their order.
use Rattle.std.proofs.Common.{◌≡◌, ℕ, ◌+◌, ◌≤◌, Bool, true, false, List, [], ◌∷◌, map, length, if◌then◌else◌, Some, inl, inr, refl, sym, ap, ◌∙◌, subst, arith, lit≤}
use Rattle.std.specs.Prelude.{◌⊎◌, count_by, sum_by, filter}
use Rattle.std.specs.List.{AllByRecursion, list_any}
use Rattle.std.proofs.lemmas.Bool.{cases_Bool, both_ways}
use Rattle.std.proofs.lemmas.List.{length-map}
use Rattle.std.proofs.lemmas.List.Sums.{sum_by-cons, length-filter, count_by-le-length}
use Rattle.otlp_model.specs.declared.request.Signal.{Signal}
use Rattle.otlp_model.specs.declared.request.Signal.TheVariants.{Traces, Logs, Metrics}
use Rattle.otap_cells.specs.declared.payload.Kind.{Kind}
use Rattle.otap_cells.specs.Columns.{logs, spans, metrics, attrs, deep_attrs, span_events, span_links, number_points, summary_points, hist_points, exemplars}
use Rattle.otap_cells.specs.Payload.{kinds_of, kind_numbered, is_kind}
use Rattle.otap_cells.specs.Tables.{Table}
use Rattle.otap_columns.specs.Limits.{held_of_kind, tables_limit}
use Rattle.otap_consume.specs.Limits.{held_limit}
use Rattle.otap_consume.specs.Payloads.{payload_type_of}
use Rattle.otap_produce.specs.TableOrder.{AreInOrder}
use Rattle.otap_cells.proofs.KindsApart.{same_kind}

-- ---- how often

pub count_hit : {A : Type 0} (test : A → Bool) (x : A) (xs : List A) → test x ≡ true → count_by test (x ∷ xs) ≡ 1 + count_by test xs
count_hit test x xs hit = sum_by-cons (λ y. if test y then 1 else 0) x xs ∙ rw hit refl

pub count_miss : {A : Type 0} (test : A → Bool) (x : A) (xs : List A) → test x ≡ false → count_by test (x ∷ xs) ≡ count_by test xs
count_miss test x xs miss = sum_by-cons (λ y. if test y then 1 else 0) x xs ∙ rw miss (omega arith)

times_kind : Kind → List Kind → ℕ
times_kind kind kinds = count_by (λ k. is_kind k kind) kinds

-- no later one is the same
abbrev AreDistinct : List Kind → Type 0
AreDistinct [] = Unit {0}
AreDistinct (k ∷ ks) = (list_any (λ later. is_kind later k) ks ≡ false) × AreDistinct ks

kinds_distinct : (signal : Signal) → AreDistinct (kinds_of signal)
kinds_distinct Traces = (refl, (refl, (refl, (refl, (refl, (refl, (refl, (refl, tt))))))))
kinds_distinct Logs = (refl, (refl, (refl, (refl, tt))))
kinds_distinct Metrics = (refl, (refl, (refl, (refl, (refl, (refl, (refl, (refl, (refl, (refl, (refl, (refl, (refl, tt)))))))))))))

none_there : (kind : Kind) (kinds : List Kind) → list_any (λ k. is_kind k kind) kinds ≡ false → times_kind kind kinds ≡ 0
unfolding times_kind
none_there kind [] none = refl
none_there kind (k ∷ ks) none =
    elim (cases_Bool (is_kind k kind)) [
      | inl own ↦ absurd (both_ways (list_any (λ k. is_kind k kind) (k ∷ ks)) none (rw own refl))
      | inr other ↦ let later : list_any (λ k. is_kind k kind) ks ≡ false = rw other at none in rw other (none_there kind ks later)
    ]

at_most_once : (kind : Kind) (kinds : List Kind) → AreDistinct kinds → times_kind kind kinds ≤ 1
unfolding times_kind
at_most_once kind [] distinct = omega arith
at_most_once kind (k ∷ ks) distinct =
    elim (cases_Bool (is_kind k kind)) [
      | inl own ↦
          let same : k ≡ kind = same_kind k kind own in
          let none : count_by (λ k. is_kind k kind) ks ≡ 0 = none_there kind ks (subst (λ (one : Kind). list_any (λ later. is_kind later one) ks ≡ false) same distinct.0) in
          omega (arith, none, count_hit (λ k. is_kind k kind) k ks own)
      | inr other ↦ omega (arith, count_miss (λ k. is_kind k kind) k ks other, at_most_once kind ks distinct.1)
    ]

fewer_with : {A : Type 0} (keeps test : A → Bool) (x : A) (xs : List A) → count_by test (filter keeps xs) ≤ count_by test xs → (keeps x ≡ true) ⊎ (keeps x ≡ false) → (test x ≡ true) ⊎ (test x ≡ false)
    → count_by test (filter keeps (x ∷ xs)) ≤ count_by test (x ∷ xs)
fewer_with keeps test x xs later (inl kept) (inl hit) = rw kept (omega (arith, later, count_hit test x (filter keeps xs) hit, count_hit test x xs hit))
fewer_with keeps test x xs later (inl kept) (inr miss) = rw kept (omega (arith, later, count_miss test x (filter keeps xs) miss, count_miss test x xs miss))
fewer_with keeps test x xs later (inr lost) (inl hit) = rw lost (omega (arith, later, count_hit test x xs hit))
fewer_with keeps test x xs later (inr lost) (inr miss) = rw lost (omega (arith, later, count_miss test x xs miss))

fewer : {A : Type 0} (keeps test : A → Bool) (xs : List A) → count_by test (filter keeps xs) ≤ count_by test xs
fewer keeps test [] = omega arith
fewer keeps test (x ∷ xs) = fewer_with keeps test x xs (fewer keeps test xs) (cases_Bool (keeps x)) (cases_Bool (test x))

counted_mapped : (kind : Kind) (ts : List Table) → count_by (λ t. is_kind t.kind kind) ts ≡ times_kind kind (map (λ t. t.kind) ts)
unfolding times_kind
counted_mapped kind [] = refl
counted_mapped kind (t ∷ ts) =
    elim (cases_Bool (is_kind t.kind kind)) [
      | inl own ↦
          count_hit (λ (u : Table). is_kind u.kind kind) t ts own ∙ ap (λ (n : ℕ). 1 + n) (counted_mapped kind ts)
          ∙ sym (count_hit (λ k. is_kind k kind) t.kind (map (λ u. u.kind) ts) own)
      | inr other ↦
          count_miss (λ (u : Table). is_kind u.kind kind) t ts other ∙ counted_mapped kind ts ∙ sym (count_miss (λ k. is_kind k kind) t.kind (map (λ u. u.kind) ts) other)
    ]

module _ (signal : Signal) (ts : List Table) (order : AreInOrder signal ts) where
  -- no kind occurs twice among the tables
  pub kinds_once : (kind : Kind) → count_by (λ t. is_kind t.kind kind) ts ≤ 1
  unfolding times_kind
  kinds_once kind =
      let among : count_by (λ t. is_kind t.kind kind) ts ≡ count_by (λ k. is_kind k kind) (filter order.has (kinds_of signal))
      = counted_mapped kind ts ∙ ap (λ (ks : List Kind). count_by (λ k. is_kind k kind) ks) order.kinds in
      omega (arith, among, fewer order.has (λ k. is_kind k kind) (kinds_of signal), at_most_once kind (kinds_of signal) (kinds_distinct signal))

  -- there are no more of them than kinds
  pub few_tables : length ts ≤ tables_limit
  few_tables =
      let long : length ts ≡ length (filter order.has (kinds_of signal)) = sym (length-map ts (λ t. t.kind)) ∙ ap length order.kinds in
      omega (arith, long, length-filter order.has (kinds_of signal), count_by-le-length order.has (kinds_of signal), few_kinds signal)
    where
      few_kinds : (signal : Signal) → length (kinds_of signal) ≤ tables_limit
      few_kinds Traces = lit≤ tt
      few_kinds Logs = lit≤ tt
      few_kinds Metrics = lit≤ tt

-- ---- each is one of the signal's

abbrev Known : Signal → Kind → Type 0
Known signal kind = kind_numbered signal (payload_type_of kind) ≡ Some kind

all_known : (signal : Signal) → AllByRecursion (Known signal) (kinds_of signal)
all_known Traces = (refl, (refl, (refl, (refl, (refl, (refl, (refl, (refl, tt))))))))
all_known Logs = (refl, (refl, (refl, (refl, tt))))
all_known Metrics = (refl, (refl, (refl, (refl, (refl, (refl, (refl, (refl, (refl, (refl, (refl, (refl, (refl, tt)))))))))))))

some_known : (signal : Signal) (keeps : Kind → Bool) (kinds : List Kind) → AllByRecursion (Known signal) kinds → AllByRecursion (Known signal) (filter keeps kinds)
some_known signal keeps [] known = tt
some_known signal keeps (k ∷ ks) known =
    elim (cases_Bool (keeps k)) [
      | inl kept ↦ rw kept (known.0, some_known signal keeps ks known.1)
      | inr lost ↦ rw lost (some_known signal keeps ks known.1)
    ]

of_tables : (signal : Signal) (ts : List Table) → AllByRecursion (Known signal) (map (λ t. t.kind) ts) → AllByRecursion (λ t. Known signal t.kind) ts
of_tables signal [] known = tt
of_tables signal (t ∷ ts) known = (known.0, of_tables signal ts known.1)

pub tables_known : (signal : Signal) (ts : List Table) → AreInOrder signal ts → AllByRecursion (λ t. kind_numbered signal (payload_type_of t.kind) ≡ Some t.kind) ts
tables_known signal ts order =
    of_tables signal ts (subst (AllByRecursion (Known signal)) (sym order.kinds) (some_known signal order.has (kinds_of signal) (all_known signal)))

-- ---- what all columns of a signal may hold

pub all_columns : (signal : Signal) → sum_by held_of_kind (kinds_of signal) ≤ held_limit
unfolding logs spans metrics attrs deep_attrs span_events span_links number_points summary_points hist_points exemplars
all_columns Traces = lit≤ tt
all_columns Logs = lit≤ tt
all_columns Metrics = lit≤ tt
