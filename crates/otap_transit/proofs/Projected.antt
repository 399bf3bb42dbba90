-- The tables and the payloads of all kinds, looked at by one kind.
use Rattle.std.proofs.Common.{◌≡◌, pos, Bool, true, false, List, [], ◌∷◌, ◌++◌, ℤ, inl, inr, if◌then◌else◌, refl, sym, ap, ◌∙◌, subst}
use Rattle.std.specs.Prelude.{◌≤◌, filter, ◌⊎◌}
use Rattle.std.specs.Ordering.{int_eq}
use Rattle.std.proofs.lemmas.Bool.{cases_Bool}
use Rattle.lists.specs.EachAfter.{EachAfter}
use Rattle.lists.proofs.Growing.{each_after-push, each_after-keeps, each_after-last}
use Rattle.lists.specs.Payloads.{PayloadIn}
use Rattle.arrow_ipc.specs.declared.messages.IpcMessage.{IpcMessage}
use Rattle.otap_cells.specs.declared.payload.Kind.{Kind}
use Rattle.otap_cells.specs.Payload.{number_of, is_kind}
use Rattle.otap_cells.specs.Tables.{Table}
use Rattle.otap_columns.specs.Limits.{held_of_kind}
use Rattle.otap_columns.specs.WrittenPayloads.{IsWritten, IsRecord, IsReadAs, AreWrittenAs}
use Rattle.otap_columns.specs.Records.{IsRead}
use Rattle.otap_columns.specs.Substreams.{held_in, logical, schema_in}
use Rattle.otap_columns.specs.Streams.{is_of, of_type, opens, stream_of}
use Rattle.otap_columns.specs.TableSets.{IsPayloadOf, of_kind}
use Rattle.otap_cells.proofs.KindsApart.{same_kind, types_compared, is_itself}
use Rattle.otap_columns.proofs.Openings.{of_type-other, of_type-own}
use Rattle.otap_columns.proofs.KindTables.{of_kind-other, of_kind-own}

-- ---- filters

filter_twice : {A : Type 0} (p : A → Bool) (xs : List A) → filter p (filter p xs) ≡ filter p xs
filter_twice p [] = refl
filter_twice p (x ∷ xs) =
    elim (cases_Bool (p x)) [
      | inl passes ↦ rw (passes, passes) (ap (λ ys. x ∷ ys) (filter_twice p xs))
      | inr fails ↦ rw fails (filter_twice p xs)
    ]

-- ---- what a payload opens, and its sub-stream, are those among the payloads of its type

pub opens_among : (type : ℤ) (past : List PayloadIn) (p : PayloadIn) → p.kind ≡ type → opens (of_type type past) p ≡ opens past p
unfolding opens
opens_among type past p same = rw (same, filter_twice (is_of type) past) refl

pub stream_among : (type : ℤ) (past : List PayloadIn) → stream_of type (of_type type past) ≡ stream_of type past
unfolding stream_of
stream_among type past = rw (filter_twice (is_of type) past) refl

-- ---- the history of one kind

abbrev type_of : Kind → ℤ
type_of kind = pos (number_of kind)

written_among : (kind : Kind) (before : List Table) (past : List PayloadIn) (t : Table) (p : PayloadIn) → IsWritten kind before past t p → IsWritten kind before (of_type (type_of kind) past) t p
written_among kind before past t p w = record {
  type = w.type;
  writable = w.writable;
  record_is = subst (λ (b : Bool). IsRecord kind before t b p.bytes) (sym (opens_among (type_of kind) past p w.type)) w.record_is;
}

one_more : (kind : Kind) (before : List Table) (past : List PayloadIn) (t : Table) (p : PayloadIn) → AreWrittenAs kind (of_kind kind before) (of_type (type_of kind) past) → IsPayloadOf before past t p
    → AreWrittenAs kind (of_kind kind (before ++ t ∷ [])) (of_type (type_of kind) (past ++ p ∷ []))
one_more kind before past t p each is = by_kind (cases_Bool (is_kind t.kind kind))
  where
    returned : is_of (type_of kind) p ≡ is_kind t.kind kind
    returned = ap (λ (type : ℤ). int_eq type (type_of kind)) is.written.type ∙ types_compared t.kind kind

    by_kind : (is_kind t.kind kind ≡ true) ⊎ (is_kind t.kind kind ≡ false) → AreWrittenAs kind (of_kind kind (before ++ t ∷ [])) (of_type (type_of kind) (past ++ p ∷ []))
    by_kind (inl own) =
        let same : t.kind ≡ kind = same_kind t.kind kind own in
        let here : IsWritten kind (of_kind kind before) past t p = subst (λ (k : Kind). IsWritten k (of_kind k before) past t p) same is.written in
        rw (of_kind-own kind before t own, of_type-own (type_of kind) past p (returned ∙ own))
        (each_after-push (IsWritten kind) [] [] (of_kind kind before) (of_type (type_of kind) past) t p each (written_among kind (of_kind kind before) past t p here))
    by_kind (inr other) = rw (of_kind-other kind before t other, of_type-other (type_of kind) past p (returned ∙ other)) each

pub each_kind : (kind : Kind) (tables : List Table) (payloads : List PayloadIn) → EachAfter IsPayloadOf [] [] tables payloads → AreWrittenAs kind (of_kind kind tables) (of_type (type_of kind) payloads)
each_kind kind tables payloads each =
    each_after-keeps IsPayloadOf (λ ts ps. AreWrittenAs kind (of_kind kind ts) (of_type (type_of kind) ps)) (λ ts ps t p is here. one_more kind ts ps t p is here) [] [] tables payloads tt each

-- ---- the far end

read_among : (kind : Kind) (before : List Table) (past : List PayloadIn) (t : Table) (p : PayloadIn) → p.kind ≡ type_of kind → IsReadAs kind before (of_type (type_of kind) past) t p
    → IsReadAs kind before past t p
read_among kind before past t p same r =
    let type : ℤ = type_of kind in
    let own : is_of type p ≡ true = ap (λ (number : ℤ). int_eq number type) same ∙ types_compared kind kind ∙ is_itself kind in
    let stream : stream_of type (of_type type past ++ p ∷ []) ≡ stream_of type (past ++ p ∷ [])
    = ap (stream_of type) (sym (of_type-own type past p own)) ∙ stream_among type (past ++ p ∷ []) in
    let read_before : (if opens (of_type type past) p then [] else stream_of type (of_type type past)) ≡ (if opens past p then [] else stream_of type past)
    = rw (opens_among type past p same, stream_among type past) refl in
    record {
      read = subst (λ (ms : List IpcMessage). IsRead kind ms p.bytes) read_before r.read;
      table = r.table;
      gives = ap (logical kind) (sym stream) ∙ r.gives;
      same = r.same;
      ids = r.ids;
      schema = ap schema_in (sym stream) ∙ r.schema;
      held = subst (λ (ms : List IpcMessage). held_in ms ≤ held_of_kind kind) stream r.held;
    }

abbrev pub FarEndReads : Type 0
FarEndReads = (kind : Kind) (tables : List Table) (payloads : List PayloadIn) → AreWrittenAs kind tables payloads → EachAfter (IsReadAs kind) [] [] tables payloads

-- a payload after payloads of all kinds is read as its table
pub read_as : FarEndReads → (before : List Table) (past : List PayloadIn) (t : Table) (p : PayloadIn) → EachAfter IsPayloadOf [] [] before past → IsPayloadOf before past t p
    → IsReadAs t.kind (of_kind t.kind before) past t p
read_as far before past t p each is =
    let type : ℤ = type_of t.kind in
    let front : AreWrittenAs t.kind (of_kind t.kind before) (of_type type past) = each_kind t.kind before past each in
    let own : is_of type p ≡ true = ap (λ (number : ℤ). int_eq number type) is.written.type ∙ types_compared t.kind t.kind ∙ is_itself t.kind in
    let all : AreWrittenAs t.kind (of_kind t.kind before ++ t ∷ []) (of_type type past ++ p ∷ [])
    = each_after-push (IsWritten t.kind) [] [] (of_kind t.kind before) (of_type type past) t p front (written_among t.kind (of_kind t.kind before) past t p is.written) in
    read_among t.kind (of_kind t.kind before) past t p is.written.type
    (each_after-last (IsReadAs t.kind) [] [] (of_kind t.kind before) (of_type type past) t p
    (far t.kind (of_kind t.kind before ++ t ∷ []) (of_type type past ++ p ∷ []) all))
