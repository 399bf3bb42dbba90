-- The schema ids that are open, after one more payload.
use Rattle.std.proofs.Common.{◌≡◌, ◌⊎◌, inl, inr, ℕ, ◌<◌, true, false, List, [], ◌∷◌, ◌++◌, length, get_or, map, Option, Some, None, refl, sym, ap, ◌∙◌}
use Rattle.std.specs.Prelude.{◌||◌}
use Rattle.std.specs.List.{list_any}
use Rattle.std.specs.Ordering.{int_eq}
use Rattle.std.proofs.lemmas.Bool.{cases_Bool}
use Rattle.std.proofs.lemmas.List.{get_or-map, length-map}
use Rattle.lists.specs.Payloads.{PayloadIn}
use Rattle.otlp_model.specs.declared.request.Signal.{Signal}
use Rattle.otap_cells.specs.declared.payload.Kind.{Kind}
use Rattle.otap_cells.specs.Payload.{kinds_of}
use Rattle.otap_columns.specs.Streams.{open_id, last_of}
use Rattle.otap_consume.specs.Defects.{is_taken, is_open_for}
use Rattle.otap_consume.specs.Ids.{OpenIdIn, ids_of, ids_after, has_other, has_other_type, with_open_id}
use Rattle.otap_consume.specs.Payloads.{payload_type_of}
use Rattle.otap_consume.specs.Streams.{OpenIn, StreamIn, AreAfter, IsOpenAfter, kinds_in}
use Rattle.otap_consume.specs.StreamSteps.{id_if, schema_id_of}
use Rattle.otap_consume.proofs.Lists.{map_same}
use Rattle.otap_columns.proofs.Openings.{open_id-other, open_id-own}

-- the stream at an index, of the kind at this index among those of the signal
pub kind_at : (signal : Signal) (streams : List StreamIn) (k : ℕ) (d : StreamIn) (e : Kind) → kinds_in streams ≡ kinds_of signal → k < length streams
    → get_or (kinds_of signal) k e ≡ (get_or streams k d).kind
kind_at signal streams k d e same inside = rw (← same) (get_or-map (λ (s : StreamIn). s.kind) streams k d e inside)

pub count_of : (signal : Signal) (streams : List StreamIn) → kinds_in streams ≡ kinds_of signal → length streams ≡ length (kinds_of signal)
count_of signal streams same = sym (length-map streams (λ (s : StreamIn). s.kind)) ∙ ap length same

id_at : (past : List PayloadIn) (kind : Kind) (last : Option PayloadIn) (current : Option OpenIn) → last_of (payload_type_of kind) past ≡ last → IsOpenAfter past kind last current
    → id_if current ≡ open_id (payload_type_of kind) past
unfolding open_id
id_at past kind None None is h = rw is refl
id_at past kind None (Some current) is h = absurd h
id_at past kind (Some last) None is h = absurd h
id_at past kind (Some last) (Some current) is h = rw is (ap Some h.id)

pub ids_are : (signal : Signal) (past : List PayloadIn) (streams : List StreamIn) → kinds_in streams ≡ kinds_of signal → AreAfter past streams
    → ids_of streams ≡ ids_after signal past
ids_are signal past streams same are =
    map_same (λ (s : StreamIn). let x : OpenIdIn = record { kind = s.kind; id = schema_id_of s } in x) (λ (kind : Kind). let x : OpenIdIn = record { kind = kind; id = open_id (payload_type_of kind) past } in x)
    streams (kinds_of signal) (count_of signal streams same)
    (λ k a b inside.
    rw (kind_at signal streams k a b same inside)
    (ap (λ (id : Option (List ℕ)). let x : OpenIdIn = record { kind = (get_or streams k a).kind; id = id } in x)
    (id_at past (get_or streams k a).kind (last_of (payload_type_of (get_or streams k a).kind) past) (get_or streams k a).current refl (are k a inside).current)))

opened_one : (ps : List PayloadIn) (p : PayloadIn) (kind : Kind)
    → with_open_id p (record { kind = kind; id = open_id (payload_type_of kind) ps }) ≡ record { kind = kind; id = open_id (payload_type_of kind) (ps ++ p ∷ []) }
opened_one ps p kind = go (cases_Bool (int_eq p.kind (payload_type_of kind)))
  where
    go : (int_eq p.kind (payload_type_of kind) ≡ true) ⊎ (int_eq p.kind (payload_type_of kind) ≡ false)
        → with_open_id p (record { kind = kind; id = open_id (payload_type_of kind) ps }) ≡ record { kind = kind; id = open_id (payload_type_of kind) (ps ++ p ∷ []) }
    go (inl own) = rw (own, open_id-own (payload_type_of kind) ps p own) refl
    go (inr other) = rw (other, open_id-other (payload_type_of kind) ps p other) refl

opened_all : (ps : List PayloadIn) (p : PayloadIn) (kinds : List Kind)
    → map (with_open_id p) (map (λ kind. record { kind = kind; id = open_id (payload_type_of kind) ps }) kinds) ≡ map (λ kind. record { kind = kind; id = open_id (payload_type_of kind) (ps ++ p ∷ []) }) kinds
opened_all ps p [] = refl
opened_all ps p (kind ∷ kinds) = λ i. opened_one ps p kind i ∷ opened_all ps p kinds i

pub ids_step : (signal : Signal) (ps : List PayloadIn) (p : PayloadIn) → map (with_open_id p) (ids_after signal ps) ≡ ids_after signal (ps ++ p ∷ [])
ids_step signal ps p = opened_all ps p (kinds_of signal)

any_same : (ps : List PayloadIn) (p : PayloadIn) (kinds : List Kind)
    → list_any (has_other_type p) (map (λ kind. record { kind = kind; id = open_id (payload_type_of kind) ps }) kinds) ≡ list_any (is_open_for ps p) kinds
any_same ps p [] = refl
any_same ps p (kind ∷ kinds) = ap (λ b. is_open_for ps p kind || b) (any_same ps p kinds)

pub taken_is : (signal : Signal) (ps : List PayloadIn) (p : PayloadIn) → has_other p (ids_after signal ps) ≡ is_taken signal ps p
taken_is signal ps p = any_same ps p (kinds_of signal)
