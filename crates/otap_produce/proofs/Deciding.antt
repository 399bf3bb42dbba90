-- The policy decides the type and the schema id of each payload. So whatever messages it allows for some requests, the same
-- schema ids are open after them, and as many of their payloads opened a sub-stream.
use Rattle.std.proofs.Common.{◌≡◌, inl, inr, ℕ, ◌+◌, List, [], ◌∷◌, ◌++◌, get_or, Some, ℤ, pos, refl, sym, ap, ◌∙◌, subst, append_assoc, append-nil, arith}
use Rattle.std.specs.Fmt.{decimal}
use Rattle.std.specs.List.{flat_map}
use Rattle.std.specs.Ordering.{int_eq}
use Rattle.std.proofs.lemmas.Bool.{cases_Bool}
use Rattle.std.proofs.lemmas.Grind.{flat_map-append}
use Rattle.lists.specs.EachAfter.{EachAfter}
use Rattle.lists.proofs.Growing.{each_after-append}
use Rattle.lists.specs.Payloads.{PayloadIn}
use Rattle.otlp_model.specs.declared.request.Request.{Request}
use Rattle.otap_cells.specs.Payload.{number_of}
use Rattle.otap_cells.specs.Tables.{Table}
use Rattle.otap_columns.specs.Streams.{is_of, opens, open_id}
use Rattle.otap_columns.specs.TableSets.{ArePayloadsOf, IsPayloadOf, openings}
use Rattle.otap_columns.proofs.Openings.{numbered, same_test, open_id-own, open_id-other, stays_open}
use Rattle.otap_produce.specs.Exporters.{ExporterIn, StandsFor}
use Rattle.otap_produce.specs.Senders.{HasSentTables, HaveSent, SenderIn, SendersIn}
use Rattle.otap_capture.specs.Batch.{payloads_in}
use Rattle.otap_signals.specs.Meanings.{SignalRows}
use Rattle.otap_produce.specs.Policy.{IsMessageOf, Policy}
use Rattle.otap_produce.proofs.Counting.{if_opens, openings-push}

-- ---- one payload

-- after both, the same schema ids are open, and as many sub-streams were opened: this decides the schema ids to come
pub record LookAlike (past past' : List PayloadIn) : Type 0 where
  pub ids : (type : ℤ) → open_id type past ≡ open_id type past'
  pub count : openings past ≡ openings past'

module _ (before : List Table) (past past' : List PayloadIn) (t : Table) (p p' : PayloadIn) (alike : LookAlike past past')
    (one : IsPayloadOf before past t p) (other : IsPayloadOf before past' t p') where
  same_type : p.kind ≡ p'.kind
  same_type = one.written.type ∙ sym other.written.type

  -- a record opens by the tables alone
  same_opens : opens past p ≡ opens past' p'
  same_opens =
      same_test (opens past p) (opens past' p') (λ stays. other.written.record_is.goes_on.1 (one.written.record_is.goes_on.0 stays))
      (λ stays. one.written.record_is.goes_on.1 (other.written.record_is.goes_on.0 stays))

  same_id : p.schema_id ≡ p'.schema_id
  same_id =
      elim (cases_Bool (opens past p)) [
        | inl opening ↦ numbered before past t p one opening ∙ ap decimal alike.count ∙ sym (numbered before past' t p' other (sym same_opens ∙ opening))
        | inr stays ↦
            let ids : Some p.schema_id ≡ Some p'.schema_id =
            sym (stays_open past p stays) ∙ alike.ids p.kind ∙ ap (λ type. open_id type past') same_type ∙ stays_open past' p' (sym same_opens ∙ stays) in
            cc ids
      ]

  same_of : (type : ℤ) → is_of type p' ≡ is_of type p
  same_of type = ap (λ z. int_eq z type) (sym same_type)

  pub alike_after : LookAlike (past ++ p ∷ []) (past' ++ p' ∷ [])
  alike_after = record {
    ids = λ type. elim (cases_Bool (is_of type p)) [
      | inl own ↦ open_id-own type past p own ∙ ap (λ (id : List ℕ). Some id) same_id ∙ sym (open_id-own type past' p' (same_of type ∙ own))
      | inr apart ↦ open_id-other type past p apart ∙ alike.ids type ∙ sym (open_id-other type past' p' (same_of type ∙ apart))
    ];
    count =
        openings-push past p ∙ ap (λ n. n + if_opens (opens past p)) alike.count ∙ ap (λ b. openings past' + if_opens b) same_opens
        ∙ sym (openings-push past' p');
  }

-- ---- all payloads of tables

all_alike : (before : List Table) (past past' : List PayloadIn) (ts : List Table) (ps ps' : List PayloadIn) → LookAlike past past' → ArePayloadsOf before past ts ps
    → ArePayloadsOf before past' ts ps' → LookAlike (past ++ ps) (past' ++ ps')
all_alike before past past' [] [] [] alike one other = rw (append-nil past, append-nil past') alike
all_alike before past past' [] [] (p' ∷ ps') alike one other = absurd other
all_alike before past past' [] (p ∷ ps) ps' alike one other = absurd one
all_alike before past past' (t ∷ ts) [] ps' alike one other = absurd one
all_alike before past past' (t ∷ ts) (p ∷ ps) [] alike one other = absurd other
all_alike before past past' (t ∷ ts) (p ∷ ps) (p' ∷ ps') alike one other =
    rw (← append_assoc past (p ∷ []) ps, ← append_assoc past' (p' ∷ []) ps')
    (all_alike (before ++ t ∷ []) (past ++ p ∷ []) (past' ++ p' ∷ []) ts ps ps' (alike_after before past past' t p p' alike one.0 other.0) one.1 other.1)

-- ---- all messages of requests

pub one_more : {A B : Type 0} (f : A → List B) (xs : List A) (x : A) → flat_map f (xs ++ x ∷ []) ≡ flat_map f xs ++ f x
one_more f xs x = flat_map-append f xs (x ∷ []) ∙ ap (λ ys. flat_map f xs ++ ys) (append-nil (f x))

-- the payloads of messages by the policy are those of all tables, one after the other
all_payloads : (rows : SignalRows) (before : List Request) (past : List (List ℕ)) (requests : List Request) (messages : List (List ℕ))
    → EachAfter (IsMessageOf rows) before past requests messages
    → ArePayloadsOf (flat_map rows.tables before) (flat_map payloads_in past) (flat_map rows.tables requests) (flat_map payloads_in messages)
all_payloads rows before past [] [] each = tt
all_payloads rows before past [] (m ∷ ms) each = absurd each
all_payloads rows before past (q ∷ qs) [] each = absurd each
all_payloads rows before past (q ∷ qs) (m ∷ ms) each =
    each_after-append IsPayloadOf (flat_map rows.tables before) (flat_map payloads_in past) (rows.tables q) (flat_map rows.tables qs) (payloads_in m) (flat_map payloads_in ms)
    each.0.payloads
    (subst (λ (ts : List Table). ArePayloadsOf ts (flat_map payloads_in past ++ payloads_in m) (flat_map rows.tables qs) (flat_map payloads_in ms)) (one_more rows.tables before q)
    (subst (λ (ps : List PayloadIn). ArePayloadsOf (flat_map rows.tables (before ++ q ∷ [])) ps (flat_map rows.tables qs) (flat_map payloads_in ms)) (one_more payloads_in past m)
    (all_payloads rows (before ++ q ∷ []) (past ++ m ∷ []) qs ms each.1)))

messages_alike : (rows : SignalRows) (requests : List Request) (messages others : List (List ℕ)) → Policy rows requests messages → Policy rows requests others
    → LookAlike (flat_map payloads_in messages) (flat_map payloads_in others)
messages_alike rows requests messages others one other =
    all_alike [] [] [] (flat_map rows.tables requests) (flat_map payloads_in messages) (flat_map payloads_in others) (record { ids = λ type. refl; count = refl })
    (all_payloads rows [] [] requests messages one) (all_payloads rows [] [] requests others other)

-- ---- the requests and messages that lead to an exporter's state

sent_alike : (tables : List Table) (past past' : List PayloadIn) (s : SenderIn) → LookAlike past past' → HasSentTables tables past s → HasSentTables tables past' s
sent_alike tables past past' s alike has = record {
  written = has.written;
  last = sym (alike.ids (pos (number_of s.writer.kind))) ∙ has.last;
  before = λ started. omega (arith, has.before started, alike.count);
}

all_sent_alike : (tables : List Table) (past past' : List PayloadIn) (s : SendersIn) → LookAlike past past' → HaveSent tables past s → HaveSent tables past' s
all_sent_alike tables past past' s alike sent = record {
  each = λ place d low. sent_alike tables past past' (get_or s.senders place d) alike (sent.each place d low);
  openings = sent.openings ∙ alike.count;
}

-- with whatever messages the policy allows
pub stands_with : (rows : SignalRows) (requests : List Request) (messages others : List (List ℕ)) (e : ExporterIn) → StandsFor rows requests messages e → Policy rows requests others
    → StandsFor rows requests others e
stands_with rows requests messages others e stands allowed = record {
  same = stands.same;
  sound = stands.sound;
  kinds = stands.kinds;
  batches = stands.batches;
  sent =
      all_sent_alike (flat_map rows.tables requests) (flat_map payloads_in messages) (flat_map payloads_in others) e.sent
      (messages_alike rows requests messages others stands.policy allowed) stands.sent;
  policy = allowed;
}
