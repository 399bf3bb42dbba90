-- The views of the records that were taken last.
use Rattle.std.proofs.Common.{◌≡◌, ℕ, ◌+◌, ◌<◌, ◌≤◌, inl, inr, true, false, List, [], ◌∷◌, ◌++◌, length, get_or, map, Option, Some, None, ℤ, refl, sym, ap, ◌∙◌, subst, append_assoc, append-nil, arith}
use Rattle.std.specs.Prelude.{find, nat_eq, nat_lt, pos, sum_by, if◌then◌else◌, IsSome, All}
use Rattle.std.specs.List.{AllZip, AllByRecursion, IsDistinct, filter_map}
use Rattle.std.specs.Ordering.{int_eq}
use Rattle.std.proofs.lemmas.Bool.{cases_Bool, both_ways, ne_eqb, ltb-false}
use Rattle.std.proofs.lemmas.Bool.Decides.{Decides-int_eq}
use Rattle.std.proofs.lemmas.List.Elements.{All-head, All-tail}
use Rattle.std.proofs.lemmas.List.Sums.{sum_by-cons, sum_by-append}
use Rattle.lists.specs.Payloads.{PayloadIn}
use Rattle.lists.proofs.Every.{every_at}
use Rattle.otlp_model.specs.declared.request.Signal.{Signal}
use Rattle.otlp_model.specs.declared.request.Signal.TheVariants.{Traces, Logs, Metrics}
use Rattle.otap_cells.specs.declared.payload.Kind.{Kind}
use Rattle.otap_cells.specs.Payload.{number_of, kinds_of, kind_numbered}
use Rattle.otap_cells.specs.Sets.{IsSet, tables_in}
use Rattle.otap_cells.specs.Tables.{Table}
use Rattle.otap_columns.specs.Streams.{last_of}
use Rattle.otap_consume.specs.declared.refusal.Cause.{Cause}
use Rattle.otap_consume.specs.declared.refusal.Cause.TheVariants.{TooManyItems, RowsTooHeavy}
use Rattle.otap_consume.specs.Limits.{held_limit}
use Rattle.otap_consume.specs.Defects.{IsTooLarge, table_of, tables_of, held_after}
use Rattle.otap_consume.specs.Outcomes.{payloads_after}
use Rattle.otap_consume.specs.Payloads.{payload_type_of}
use Rattle.otap_consume.specs.PayloadTypes.{times, IsFineType, HasFineTypes}
use Rattle.otap_consume.specs.Segments.{SegmentIn, CanShow, TablesOf}
use Rattle.otap_consume.specs.Sizes.{PastLimit, WithinLimits}
use Rattle.otap_consume.specs.Streams.{StreamIn, AreAfter, ShowsIf, kinds_in, ShowsLast, ShowsAfter}
use Rattle.otap_consume.specs.StreamSteps.{held_of}
use Rattle.otap_consume.specs.Opening.{Weighs}
use Rattle.otap_consume.specs.Views.{IsViewOf, AreViewsOf, Shown, ShownBy, is_stream_of}
use Rattle.otap_consume.proofs.IdSteps.{kind_at, count_of}
use Rattle.otap_consume.proofs.KindNumbers.{HasNumber, has_number}
use Rattle.otap_consume.proofs.Lists.{Finds, finds, found_some, zip-length}
use Rattle.otap_consume.proofs.SegmentSteps.{payloads_accepted}
use Rattle.otap_consume.proofs.SizeSteps.{held_are}
use Rattle.otap_consume.proofs.Substreams.{last_of-other, last_of-own}

-- ---- the last payload of a type

-- payloads of other types leave the last one of a type as it was
last_of-none : (type : ℤ) (xs ys : List PayloadIn) → times type ys ≡ 0 → last_of type (xs ++ ys) ≡ last_of type xs
last_of-none type xs [] none = ap (last_of type) (append-nil xs)
last_of-none type xs (y ∷ ys) none =
    let count : times type (y ∷ ys) ≡ (if int_eq y.kind type then 1 else 0) + times type ys = sum_by-cons (λ (p : PayloadIn). if int_eq p.kind type then 1 else 0) y ys in
    elim (cases_Bool (int_eq y.kind type)) [
      | inl own ↦ absurd (omega (arith, count ∙ ap (λ b. (if b then 1 else 0) + times type ys) own, none))
      | inr other ↦
          ap (last_of type) (sym (append_assoc xs (y ∷ []) ys))
          ∙ last_of-none type (xs ++ y ∷ []) ys (omega (arith, count ∙ ap (λ b. (if b then 1 else 0) + times type ys) other, none))
          ∙ last_of-other type xs y other
    ]

-- a payload whose type occurs once is the last one of its type
pub last_is : (past front rest : List PayloadIn) (p : PayloadIn) → times p.kind (front ++ p ∷ rest) ≤ 1
    → last_of p.kind (past ++ (front ++ p ∷ rest)) ≡ Some p
last_is past front rest p once =
    let own : int_eq p.kind p.kind ≡ true = (Decides-int_eq p.kind p.kind).1 refl in
    let test : PayloadIn → ℕ = λ q. if int_eq q.kind p.kind then 1 else 0 in
    let here : times p.kind (p ∷ rest) ≡ 1 + times p.kind rest = sum_by-cons test p rest ∙ rw own refl in
    let none : times p.kind rest ≡ 0 = omega (arith, sum_by-append test front (p ∷ rest), here, once) in
    ap (last_of p.kind) (sym (append_assoc past front (p ∷ rest)) ∙ sym (append_assoc (past ++ front) (p ∷ []) rest))
    ∙ last_of-none p.kind ((past ++ front) ++ p ∷ []) rest none ∙ last_of-own p.kind (past ++ front) p own

-- ---- the stream that shows a payload

-- a payload of those that were taken last is fine
pub fine_at : (signal : Signal) (payloads front rest : List PayloadIn) (p : PayloadIn) → HasFineTypes signal payloads → payloads ≡ front ++ p ∷ rest → IsFineType signal payloads p
fine_at signal payloads front rest p types whole =
    every_at (IsFineType signal payloads) front rest p (subst (λ (ps : List PayloadIn). AllByRecursion (IsFineType signal payloads) ps) whole types)

pub shown_at : (streams : List StreamIn) (payloads front rest : List PayloadIn) (p : PayloadIn) → CanShow streams payloads → payloads ≡ front ++ p ∷ rest → Shown streams p
shown_at streams payloads front rest p can whole = known (kind_numbered can.signal p.kind) refl fine.known
  where
    fine : IsFineType can.signal payloads p
    fine = fine_at can.signal payloads front rest p can.types whole

    last : last_of p.kind payloads ≡ Some p
    last = ap (last_of p.kind) whole ∙ last_is [] front rest p (subst (λ (ps : List PayloadIn). times p.kind ps ≤ 1) whole fine.once)

    shows : (s : StreamIn) → Finds (is_stream_of p.kind) streams s → ShowsIf s.current p.bytes
    shows s there =
        let here : ShowsAfter payloads s = subst (ShowsAfter payloads) (there.is s) (can.shows there.at s there.inside) in
        let same : p.kind ≡ payload_type_of s.kind = (Decides-int_eq p.kind (payload_type_of s.kind)).0 there.passes in
        subst (λ (l : Option PayloadIn). ShowsLast l s.current) (ap (λ (type : ℤ). last_of type payloads) (sym same) ∙ last) here

    stream : (kind : Kind) → HasNumber can.signal p.kind kind → Shown streams p
    stream kind number =
        let d : StreamIn = record { kind = kind; current = None } in
        let inside : number.at < length streams = omega (arith, count_of can.signal streams can.kinds, number.inside) in
        let is : (get_or streams number.at d).kind ≡ kind = sym (kind_at can.signal streams number.at d kind can.kinds inside) ∙ number.is kind in
        let passes : is_stream_of p.kind (get_or streams number.at d) ≡ true = subst (λ (k : Kind). int_eq p.kind (payload_type_of k) ≡ true) (sym is) number.same in
        let some : (s : StreamIn) × (find (is_stream_of p.kind) streams ≡ Some s) = found_some (is_stream_of p.kind) streams number.at d inside passes in
        subst (λ (o : Option StreamIn). ShownBy o p) (sym some.1) (shows some.0 (finds (is_stream_of p.kind) streams some.0 some.1))

    known : (o : Option Kind) → kind_numbered can.signal p.kind ≡ o → IsSome o → Shown streams p
    known None is some = absurd (cc some)
    known (Some kind) is some = stream kind (has_number can.signal p.kind kind is)

-- ---- the tables

module _ (signal : Signal) (past payloads : List PayloadIn) (streams : List StreamIn) (same : kinds_in streams ≡ kinds_of signal)
    (are : AreAfter (past ++ payloads) streams) (types : HasFineTypes signal payloads) where
  table_is : (front rest : List PayloadIn) (p : PayloadIn) (table : Table) → payloads ≡ front ++ p ∷ rest → IsViewOf streams p table
      → table_of signal (past ++ payloads) p ≡ Some table
  table_is front rest p table whole is =
      let once : times p.kind (front ++ p ∷ rest) ≤ 1 = subst (λ (ps : List PayloadIn). times p.kind ps ≤ 1) whole (fine_at signal payloads front rest p types whole).once in
      let last : last_of p.kind (past ++ payloads) ≡ Some p = ap (λ (ps : List PayloadIn). last_of p.kind (past ++ ps)) whole ∙ last_is past front rest p once in
      rw (is.known signal same) (is.shows (past ++ payloads) are last)

  tables_from : (front rest : List PayloadIn) (tables : List Table) → payloads ≡ front ++ rest → AllZip (IsViewOf streams) rest tables
      → tables ≡ filter_map (table_of signal (past ++ payloads)) rest
  tables_from front [] [] whole zip = refl
  tables_from front [] (table ∷ tables) whole zip = absurd zip
  tables_from front (p ∷ rest) [] whole zip = absurd zip
  tables_from front (p ∷ rest) (table ∷ tables) whole zip =
      let later : tables ≡ filter_map (table_of signal (past ++ payloads)) rest = tables_from (front ++ p ∷ []) rest tables (whole ∙ sym (append_assoc front (p ∷ []) rest)) zip.1 in
      rw (table_is front rest p table whole zip.0) (λ i. table ∷ later i)

  pub tables_are : (tables : List Table) → AreViewsOf streams payloads tables → tables ≡ tables_of signal past payloads
  unfolding tables_of
  tables_are tables zip = tables_from [] payloads tables refl zip

-- ---- views beside their kinds are a set: a kind is there once

-- none of these has the type
others : (streams : List StreamIn) (p : PayloadIn) (table : Table) (payloads : List PayloadIn) (tables : List Table) → payload_type_of table.kind ≡ p.kind
    → times p.kind payloads ≡ 0 → AllZip (IsViewOf streams) payloads tables → AllByRecursion (λ n. nat_eq (number_of table.kind) n ≡ false) (map (λ t. number_of t.kind) tables)
others streams p table [] [] type none zip = tt
others streams p table [] (t ∷ tables) type none zip = absurd zip
others streams p table (q ∷ payloads) [] type none zip = absurd zip
others streams p table (q ∷ payloads) (t ∷ tables) type none zip =
    let count : times p.kind (q ∷ payloads) ≡ (if int_eq q.kind p.kind then 1 else 0) + times p.kind payloads
    = sum_by-cons (λ (r : PayloadIn). if int_eq r.kind p.kind then 1 else 0) q payloads in
    elim (cases_Bool (int_eq q.kind p.kind)) [
      | inl own ↦ absurd (omega (arith, count ∙ ap (λ b. (if b then 1 else 0) + times p.kind payloads) own, none))
      | inr other ↦ (
        ne_eqb (number_of table.kind) (number_of t.kind)
            (λ same. both_ways (int_eq q.kind p.kind) other ((Decides-int_eq q.kind p.kind).1 (sym zip.0.type ∙ ap pos (sym same) ∙ type))),
        others streams p table payloads tables type (omega (arith, count ∙ ap (λ b. (if b then 1 else 0) + times p.kind payloads) other, none)) zip.1,
      )
    ]

distinct_from : (signal : Signal) (streams : List StreamIn) (payloads front rest : List PayloadIn) (tables : List Table) → HasFineTypes signal payloads
    → payloads ≡ front ++ rest → AllZip (IsViewOf streams) rest tables → IsDistinct nat_eq (map (λ table. number_of table.kind) tables)
unfolding IsDistinct
distinct_from signal streams payloads front [] [] types whole zip = tt
distinct_from signal streams payloads front [] (table ∷ tables) types whole zip = absurd zip
distinct_from signal streams payloads front (p ∷ rest) [] types whole zip = absurd zip
distinct_from signal streams payloads front (p ∷ rest) (table ∷ tables) types whole zip =
    let test : PayloadIn → ℕ = λ q. if int_eq q.kind p.kind then 1 else 0 in
    let once : times p.kind payloads ≤ 1 = (fine_at signal payloads front rest p types whole).once in
    let own : int_eq p.kind p.kind ≡ true = (Decides-int_eq p.kind p.kind).1 refl in
    let here : times p.kind (p ∷ rest) ≡ 1 + times p.kind rest = sum_by-cons test p rest ∙ rw own refl in
    let none : times p.kind rest ≡ 0 = omega (arith, sum_by-append test front (p ∷ rest), here, ap (times p.kind) whole, once) in
    (others streams p table rest tables zip.0.type none zip.1, distinct_from signal streams payloads (front ++ p ∷ []) rest tables types (whole ∙ sym (append_assoc front (p ∷ []) rest)) zip.1)

abbrev pub IsBeside : Kind × Table → Type 0
IsBeside pair = pair.1.kind ≡ pair.0

numbers_beside : (pairs : List (Kind × Table)) → All IsBeside pairs → map (λ pair. number_of pair.0) pairs ≡ map (λ table. number_of table.kind) (tables_in (λ table. table) pairs)
numbers_beside [] beside = refl
numbers_beside (pair ∷ pairs) beside = λ i. number_of (sym (All-head IsBeside pair pairs beside) i) ∷ numbers_beside pairs (All-tail IsBeside pair pairs beside) i

pub set_of : (signal : Signal) (streams : List StreamIn) (payloads : List PayloadIn) (pairs : List (Kind × Table)) → HasFineTypes signal payloads
    → AreViewsOf streams payloads (tables_in (λ table. table) pairs) → All IsBeside pairs → IsSet (λ table. table) pairs
set_of signal streams payloads pairs types zip beside = record {
  beside = beside;
  once = subst (IsDistinct nat_eq) (sym (numbers_beside pairs beside)) (distinct_from signal streams payloads [] payloads (tables_in (λ table. table) pairs) types refl zip);
}

-- ---- the tables, whatever the signal of the views is

one_signal : (a b : Signal) → kinds_of a ≡ kinds_of b → a ≡ b
one_signal Traces Traces same = refl
one_signal Logs Logs same = refl
one_signal Metrics Metrics same = refl
one_signal Traces Logs same = absurd (cc same)
one_signal Traces Metrics same = absurd (cc same)
one_signal Logs Traces same = absurd (cc same)
one_signal Logs Metrics same = absurd (cc same)
one_signal Metrics Traces same = absurd (cc same)
one_signal Metrics Logs same = absurd (cc same)

pub views_tables : (signal : Signal) (past payloads : List PayloadIn) (streams : List StreamIn) (tables : List Table) → kinds_in streams ≡ kinds_of signal
    → AreAfter (past ++ payloads) streams → CanShow streams payloads → AreViewsOf streams payloads tables → tables ≡ tables_of signal past payloads
views_tables signal past payloads streams tables kinds are can zip =
    let types : HasFineTypes signal payloads = subst (λ (x : Signal). HasFineTypes x payloads) (one_signal can.signal signal (sym can.kinds ∙ kinds)) can.types in
    tables_are signal past payloads streams kinds are types tables zip

pub gives_tables : (s : SegmentIn) (payloads : List PayloadIn) (tables : List Table) → kinds_in s.streams ≡ kinds_of s.signal → s.broken ≡ false
    → CanShow s.streams payloads → AreViewsOf s.streams payloads tables → TablesOf s payloads tables
gives_tables s payloads tables kinds whole can zip = record {
  long = sym (zip-length (IsViewOf s.streams) payloads tables zip);
  are = λ signal outcomes batch before same stands.
      let is : s.signal ≡ signal = stands.same in
      let kinds' : kinds_in s.streams ≡ kinds_of signal = kinds ∙ ap kinds_of is in
      let are : AreAfter (payloads_after outcomes ++ payloads) s.streams
      = subst (λ (ps : List PayloadIn). AreAfter ps s.streams)
      (payloads_accepted outcomes batch before ∙ ap (λ (ps : List PayloadIn). payloads_after outcomes ++ ps) same) (stands.streams whole) in
      views_tables signal (payloads_after outcomes) payloads s.streams tables kinds' are can zip;
}

-- ---- what is said of the tables of the views is said of the batch

pub too_large : (signal : Signal) (tables these : List Table) (held : ℕ) (cause : Cause) → tables ≡ these → PastLimit signal tables cause → IsTooLarge signal these held cause
too_large signal tables these held TooManyItems same past = subst (λ (ts : List Table). IsTooLarge signal ts held TooManyItems) same past
too_large signal tables these held RowsTooHeavy same past = subst (λ (ts : List Table). IsTooLarge signal ts held RowsTooHeavy) same past
too_large signal tables these held _ same past = absurd past

pub weighs : (signal : Signal) (past payloads : List PayloadIn) (streams : List StreamIn) (tables : List Table) (weight : ℕ) → kinds_in streams ≡ kinds_of signal
    → AreAfter (past ++ payloads) streams → CanShow streams payloads → AreViewsOf streams payloads tables → WithinLimits signal tables weight
    → nat_lt held_limit (sum_by held_of streams) ≡ false → Weighs signal past payloads weight
weighs signal past payloads streams tables weight kinds are can zip within light =
    let same : tables ≡ tables_of signal past payloads = views_tables signal past payloads streams tables kinds are can zip in
    let held : sum_by held_of streams ≡ held_after signal (past ++ payloads) = held_are signal (past ++ payloads) streams kinds are in
    let w : WithinLimits signal (tables_of signal past payloads) weight = subst (λ (ts : List Table). WithinLimits signal ts weight) same within in
    record {
      within = record { items = w.items; rows = w.light; holds = subst (λ (n : ℕ). n ≤ held_limit) held (ltb-false held_limit (sum_by held_of streams) light) };
      rows = w.weighs;
    }
