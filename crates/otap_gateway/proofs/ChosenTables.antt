-- The sub-streams of a payload type and the tables of one of them, one frame more.
use Rattle.std.proofs.Common.{◌≡◌, ℕ, ◌+◌, ◌≤◌, suc, inl, inr, Bool, true, false, List, [], ◌∷◌, ◌++◌, length, Option, Some, None, ℤ, refl, sym, ap, ◌∙◌, subst, append_assoc, append-nil, length-append, arith}
use Rattle.std.specs.Prelude.{find, filter, count_by, ◌&&◌, ◌==◌, if◌then◌else◌}
use Rattle.std.specs.List.{cons_option, filter_map, flat_map}
use Rattle.std.specs.Option.{IsSome}
use Rattle.std.specs.Ordering.{int_eq}
use Rattle.std.proofs.lemmas.Bool.{cases_Bool, eq-eqb, ne_eqb}
use Rattle.std.proofs.lemmas.Bool.Decides.{Decides-int_eq}
use Rattle.std.proofs.lemmas.List.Elements.{filter-append}
use Rattle.std.proofs.lemmas.List.Sums.{length-filter, sum_by-append, sum_by-cons}
use Rattle.lists.specs.Payloads.{PayloadIn}
use Rattle.lists.specs.EachAfter.{AllAfter}
use Rattle.lists.specs.Since.{last_after, since}
use Rattle.lists.proofs.Growing.{all_after-at}
use Rattle.lists.proofs.Latest.{last_after-push}
use Rattle.std.proofs.lemmas.Grind.{flat_map-append}
use Rattle.otlp_model.specs.declared.request.Signal.{Signal}
use Rattle.arrow_ipc.specs.Batches.{BatchIn}
use Rattle.arrow_ipc.specs.declared.messages.IpcMessage.{IpcMessage}
use Rattle.arrow_ipc.specs.declared.messages.IpcMessage.TheVariants.{Rows}
use Rattle.arrow_ipc.specs.Fronts.{front_of}
use Rattle.otap_cells.specs.declared.payload.Kind.{Kind}
use Rattle.otap_cells.specs.Payload.{is_kind, kind_numbered}
use Rattle.otap_cells.specs.Tables.{Table}
use Rattle.otap_cells.specs.Weights.{weight_of_table, weight_of_tables}
use Rattle.otap_columns.specs.Streams.{is_of, last_of, marked_after, of_type, open_id, opens, opens_after, schema_id_in, stream_of}
use Rattle.otap_columns.specs.Substreams.{SubstreamIn, last_rows, logical, record_batches, substream_in, table_if, table_of_batch}
use Rattle.otap_columns.specs.Records.{IsRead}
use Rattle.otap_columns.proofs.Openings.{of_type-own, stream_of-own}
use Rattle.otap_columns.proofs.Tabled.{table_kind as table_kind_is}
use Rattle.otap_columns.specs.TableSets.{of_kind}
use Rattle.otap_consume.specs.Defects.{Accepts, IsReadAfter, table_of, tables_of}
use Rattle.otap_consume.specs.Outcomes.{Outcome}
use Rattle.otap_consume.specs.Payloads.{messages_before, payload_type_of}
use Rattle.otap_consume.specs.PayloadTypes.{HasFineTypes, times}
use Rattle.otap_cells.proofs.KindsApart.{same_kind, types_compared}
use Rattle.otap_consume.proofs.KindNumbers.{has_number, same_kind_number}
use Rattle.otap_consume.proofs.ViewSteps.{fine_at}
use Rattle.otap_gateway.specs.Filing.{chosen, chosen_after, chosen_in, opened, opened_after, opened_in, tables_if}
use Rattle.otap_gateway.specs.FilingSteps.{opens_anew}

-- ---- one more outcome

opened_on : (kind : Kind) (past os : List Outcome) (o : Outcome) → opened_after kind past (os ++ o ∷ []) ≡ opened_after kind past os + opened_in kind (past ++ os) o
opened_on kind past [] o = let same = ap (λ l. opened_in kind l o) (append-nil past) in omega (arith, same)
opened_on kind past (x ∷ os) o =
    let later = opened_on kind (past ++ x ∷ []) os o in
    let same = ap (λ l. opened_in kind l o) (append_assoc past (x ∷ []) os) in
    omega (arith, later, same)

pub opened_more : (kind : Kind) (os : List Outcome) (o : Outcome) → opened kind (os ++ o ∷ []) ≡ opened kind os + opened_in kind os o
unfolding opened
opened_more kind os o = opened_on kind [] os o

chosen_on : (kind : Kind) (n : ℕ) (past os : List Outcome) (o : Outcome)
    → chosen_after kind n past (os ++ o ∷ []) ≡ chosen_after kind n past os ++ chosen_in kind n (past ++ os) o
chosen_on kind n past [] o = append-nil (chosen_in kind n past o) ∙ ap (λ l. chosen_in kind n l o) (sym (append-nil past))
chosen_on kind n past (x ∷ os) o =
    let first = chosen_in kind n past x in
    let rest = chosen_after kind n (past ++ x ∷ []) os in
    ap (λ l. first ++ l) (chosen_on kind n (past ++ x ∷ []) os o ∙ ap (λ l. rest ++ chosen_in kind n l o) (append_assoc past (x ∷ []) os))
    ∙ sym (append_assoc first rest (chosen_in kind n (past ++ x ∷ os) o))

chosen_more : (kind : Kind) (n : ℕ) (os : List Outcome) (o : Outcome) → chosen kind n (os ++ o ∷ []) ≡ chosen kind n os ++ chosen_in kind n os o
unfolding chosen
chosen_more kind n os o = chosen_on kind n [] os o

-- where another sub-stream opened last, nothing is chosen of the frame
pub chosen_other : (kind : Kind) (n : ℕ) (os : List Outcome) (o : Outcome) → (opened kind (os ++ o ∷ []) ≡ suc n → ⊥) → chosen kind n (os ++ o ∷ []) ≡ chosen kind n os
chosen_other kind n os o other =
    let none : chosen_in kind n os o ≡ [] = rw (ne_eqb (opened kind (os ++ o ∷ [])) (suc n) other) refl in
    chosen_more kind n os o ∙ ap (λ l. chosen kind n os ++ l) none ∙ append-nil (chosen kind n os)

-- or the frame has no table of the kind
pub chosen_none : (kind : Kind) (n : ℕ) (os : List Outcome) (o : Outcome) → of_kind kind (tables_if o) ≡ [] → chosen kind n (os ++ o ∷ []) ≡ chosen kind n os
chosen_none kind n os o empty =
    let none : chosen_in kind n os o ≡ [] = by_test (opened kind (os ++ o ∷ []) == suc n) in
    chosen_more kind n os o ∙ ap (λ l. chosen kind n os ++ l) none ∙ append-nil (chosen kind n os)
  where
    by_test : (b : Bool) → (if b then of_kind kind (tables_if o) else []) ≡ []
    by_test true = empty
    by_test false = refl

-- where it is the one, its tables are
pub chosen_own : (kind : Kind) (n : ℕ) (os : List Outcome) (o : Outcome) → opened kind (os ++ o ∷ []) ≡ suc n → chosen kind n (os ++ o ∷ []) ≡ chosen kind n os ++ of_kind kind (tables_if o)
chosen_own kind n os o own =
    let all : chosen_in kind n os o ≡ of_kind kind (tables_if o) = rw (own, eq-eqb (suc n) (suc n) refl) refl in
    chosen_more kind n os o ∙ ap (λ l. chosen kind n os ++ l) all

-- ---- what passes a test

no_more : {X : Type 0} (xs : List X) → length xs ≤ 0 → xs ≡ []
no_more [] h = refl
no_more (x ∷ xs) h = absurd (omega (arith, h))

module _ {X : Type 0} (test : X → Bool) where
  pub filter_none : (xs : List X) → find test xs ≡ None → filter test xs ≡ []
  filter_none [] none = refl
  filter_none (x ∷ xs) none =
      elim (cases_Bool (test x)) [
        | inl passing ↦ absurd (cc (rw passing at none))
        | inr failing ↦ rw failing (filter_none xs (rw failing at none))
      ]

  filter_found : (xs : List X) (x : X) → find test xs ≡ Some x → (rest : List X) × (filter test xs ≡ x ∷ rest)
  filter_found [] x found = absurd (cc found)
  filter_found (y ∷ xs) x found =
      elim (cases_Bool (test y)) [
        | inl passing ↦
            let same : y ≡ x = cc (rw passing at found) in
            (filter test xs, rw passing (ap (λ z. z ∷ filter test xs) same))
        | inr failing ↦
            let later = filter_found xs x (rw failing at found) in
            (later.0, rw failing later.1)
      ]

  pub filter_one : (xs : List X) (x : X) → find test xs ≡ Some x → count_by test xs ≤ 1 → filter test xs ≡ x ∷ []
  filter_one xs x found few =
      let first = filter_found xs x found in
      let long : suc (length first.0) ≡ count_by test xs = sym (ap length first.1) ∙ length-filter test xs in
      first.1 ∙ ap (λ l. x ∷ l) (no_more first.0 (omega (arith, long, few)))

  pub found_split : (xs : List X) (x : X) → find test xs ≡ Some x → (front : List X) × (rest : List X) × (xs ≡ front ++ x ∷ rest) × (test x ≡ true)
  found_split [] x found = absurd (cc found)
  found_split (y ∷ xs) x found =
      elim (cases_Bool (test y)) [
        | inl passing ↦
            let same : y ≡ x = cc (rw passing at found) in
            ([], xs, ap (λ z. z ∷ xs) same, rw (← same) passing)
        | inr failing ↦
            let later = found_split xs x (rw failing at found) in
            (y ∷ later.0, later.1, ap (λ l. y ∷ l) later.2, later.3)
      ]

  -- and also passes another one
  count_both : (other : X → Bool) (xs : List X) → count_by (λ x. test x && other x) xs ≡ count_by other (filter test xs)
  count_both other [] = refl
  count_both other (x ∷ xs) = by_test (test x) refl (count_both other xs)
    where
      by_test : (b : Bool) → test x ≡ b → count_by (λ y. test y && other y) xs ≡ count_by other (filter test xs)
          → count_by (λ y. test y && other y) (x ∷ xs) ≡ count_by other (filter test (x ∷ xs))
      by_test true passing rest =
          let all = sum_by-cons (λ (y : X). if test y && other y then 1 else 0) x xs in
          let head : ◌≡◌ {A = ℕ} (if test x && other x then 1 else 0) (if other x then 1 else 0) = rw passing refl in
          let tail : filter test (x ∷ xs) ≡ x ∷ filter test xs = rw passing refl in
          let more = sum_by-cons (λ (y : X). if other y then 1 else 0) x (filter test xs) in
          let same : count_by (λ y. test y && other y) (x ∷ xs) ≡ count_by other (x ∷ filter test xs) = omega (arith, all, head, rest, more) in
          same ∙ ap (count_by other) (sym tail)
      by_test false failing rest =
          let all = sum_by-cons (λ (y : X). if test y && other y then 1 else 0) x xs in
          let head : ◌≡◌ {A = ℕ} (if test x && other x then 1 else 0) 0 = rw failing refl in
          let tail : filter test (x ∷ xs) ≡ filter test xs = rw failing refl in
          let same : count_by (λ y. test y && other y) (x ∷ xs) ≡ count_by other (filter test xs) = omega (arith, all, head, rest) in
          same ∙ ap (count_by other) (sym tail)

-- ---- the payload of a type in a batch, and its table

last_is : (ms before : List IpcMessage) (batch : BatchIn) → last_rows (ms ++ (before ++ Rows batch ∷ [])) ≡ Some batch
unfolding last_rows
last_is ms before batch =
    let rows = flat_map record_batches in
    ap (last_after None) (flat_map-append record_batches ms (before ++ Rows batch ∷ []) ∙ ap (λ l. rows ms ++ l) (flat_map-append record_batches before (Rows batch ∷ []))
    ∙ sym (append_assoc (rows ms) (rows before) (batch ∷ []))) ∙ last_after-push None (rows ms ++ rows before) batch

logical_from : (kind : Kind) (messages : List IpcMessage) (s : SubstreamIn) (batch : BatchIn) → substream_in messages ≡ Some s → last_rows messages ≡ Some batch
    → logical kind messages ≡ Some (table_of_batch kind s batch)
unfolding logical
logical_from kind messages s batch stands last = λ i. table_if kind (stands i) (last i)

logical_kind : (kind : Kind) (messages : List IpcMessage) (t : Table) → logical kind messages ≡ Some t → t.kind ≡ kind
unfolding logical
logical_kind kind messages t is = by_parts (substream_in messages) (last_rows messages) is
  where
    by_parts : (s : Option SubstreamIn) (b : Option BatchIn) → table_if kind s b ≡ Some t → t.kind ≡ kind
    by_parts None b is = absurd (cc is)
    by_parts (Some s) None is = absurd (cc is)
    by_parts (Some s) (Some b) is = let same : table_of_batch kind s b ≡ t = cc is in ap (λ (u : Table). u.kind) (sym same) ∙ table_kind_is kind s b

module _ (signal : Signal) (all : List PayloadIn) where
  -- the kind of a payload's table is that of its type
  table_kind : (p : PayloadIn) (t : Table) → table_of signal all p ≡ Some t → p.kind ≡ payload_type_of t.kind
  table_kind p t is = by_kind (kind_numbered signal p.kind) refl
    where
      by_kind : (o : Option Kind) → kind_numbered signal p.kind ≡ o → p.kind ≡ payload_type_of t.kind
      by_kind None none = absurd (cc (rw none at is))
      by_kind (Some k) known =
          let number = same_kind_number p.kind (payload_type_of k) (has_number signal p.kind k known).same in
          number ∙ ap payload_type_of (sym (logical_kind k (stream_of p.kind all) t (rw known at is)))

  kinds_tables : (kind : Kind) (ps : List PayloadIn) → of_kind kind (filter_map (table_of signal all) ps) ≡ filter_map (table_of signal all) (of_type (payload_type_of kind) ps)
  kinds_tables kind [] = refl
  kinds_tables kind (p ∷ ps) = by_one (kinds_tables kind ps) (table_of signal all p) refl (is_of (payload_type_of kind) p) refl
    where
      by_one : of_kind kind (filter_map (table_of signal all) ps) ≡ filter_map (table_of signal all) (of_type (payload_type_of kind) ps)
          → (o : Option Table) → table_of signal all p ≡ o → (b : Bool) → is_of (payload_type_of kind) p ≡ b
          → of_kind kind (cons_option (table_of signal all p) (filter_map (table_of signal all) ps)) ≡ filter_map (table_of signal all) (of_type (payload_type_of kind) (p ∷ ps))
      by_one later None none true own = rw (own, none) later
      by_one later None none false other = rw (other, none) later
      by_one later (Some t) is true own =
          let same : is_kind t.kind kind ≡ true = sym (types_compared t.kind kind) ∙ sym (ap (λ (type : ℤ). int_eq type (payload_type_of kind)) (table_kind p t is)) ∙ own in
          rw (own, is, same) (ap (λ l. t ∷ l) later)
      by_one later (Some t) is false other =
          let same : is_kind t.kind kind ≡ false = sym (types_compared t.kind kind) ∙ sym (ap (λ (type : ℤ). int_eq type (payload_type_of kind)) (table_kind p t is)) ∙ other in
          rw (other, is, same) later

module _ (signal : Signal) (kind : Kind) (past ps : List PayloadIn) where
  abbrev type : ℤ
  type = payload_type_of kind

  -- there is none
  pub count_none : find (is_of type) ps ≡ None → count_by (λ p. is_of type p && opens past p) ps ≡ 0
  count_none none = count_both (is_of type) (opens past) ps ∙ ap (count_by (opens past)) (filter_none (is_of type) ps none)

  pub open_none : find (is_of type) ps ≡ None → open_id type (past ++ ps) ≡ open_id type past
  unfolding open_id
  open_none none =
      ap (λ l. schema_id_in (last_after None l)) (filter-append (is_of type) past ps ∙ ap (λ l. of_type type past ++ l) (filter_none (is_of type) ps none) ∙ append-nil (of_type type past))

  pub table_none : find (is_of type) ps ≡ None → of_kind kind (tables_of signal past ps) ≡ []
  unfolding tables_of
  table_none none = kinds_tables signal (past ++ ps) kind ps ∙ ap (filter_map (table_of signal (past ++ ps))) (filter_none (is_of type) ps none)

  pub stream_none : find (is_of type) ps ≡ None → stream_of type (past ++ ps) ≡ stream_of type past
  unfolding stream_of
  stream_none none =
      ap (λ l. flat_map (λ m. front_of m.1.bytes) (since (λ m. m.0) (marked_after None l)))
      (filter-append (is_of type) past ps ∙ ap (λ l. of_type type past ++ l) (filter_none (is_of type) ps none) ∙ append-nil (of_type type past))

  -- what there is where there is one
  pub record HasOne (p : PayloadIn) : Type 0 where
    pub kind_is : p.kind ≡ type
    pub only : of_type type ps ≡ p ∷ []
    pub front : List PayloadIn
    pub rest : List PayloadIn
    pub whole : ps ≡ front ++ p ∷ rest

  pub has_one : HasFineTypes signal ps → (p : PayloadIn) → find (is_of type) ps ≡ Some p → HasOne p
  has_one types p found =
      let split = found_split (is_of type) ps p found in
      let same = same_kind_number p.kind type split.3 in
      let few : times type ps ≤ 1 = subst (λ (k : ℤ). times k ps ≤ 1) same (fine_at signal ps split.0 split.1 p types split.2).once in
      record { kind_is = same; only = filter_one (is_of type) ps p found few; front = split.0; rest = split.1; whole = split.2 }

  pub count_one : (p : PayloadIn) → HasOne p → count_by (λ q. is_of type q && opens past q) ps ≡ (if opens past p then 1 else 0)
  count_one p one =
      count_both (is_of type) (opens past) ps ∙ ap (count_by (opens past)) one.only ∙ sum_by-cons (λ (q : PayloadIn). if opens past q then 1 else 0) p [] ∙ plus_none (if opens past p then 1 else 0)
    where
      plus_none : (n : ℕ) → n + 0 ≡ n
      plus_none n = omega arith

  pub open_one : (p : PayloadIn) → HasOne p → open_id type (past ++ ps) ≡ Some p.schema_id
  unfolding open_id
  open_one p one =
      ap (λ l. schema_id_in (last_after None l)) (filter-append (is_of type) past ps ∙ ap (λ l. of_type type past ++ l) one.only) ∙ ap schema_id_in (last_after-push None (of_type type past) p)

  pub opens_one : (p : PayloadIn) → HasOne p → opens past p ≡ opens_anew (open_id type past) p.schema_id
  unfolding opens open_id
  opens_one p one = ap (λ (k : ℤ). opens_after (last_of k past) p) one.kind_is ∙ by_last (last_of type past)
    where
      by_last : (o : Option PayloadIn) → opens_after o p ≡ opens_anew (schema_id_in o) p.schema_id
      by_last None = refl
      by_last (Some q) = refl

  -- where it goes on, a sub-stream is open
  pub open_there : (p : PayloadIn) → HasOne p → opens past p ≡ false → open_id type past ≡ None → ⊥
  unfolding open_id opens
  open_there p one goes none = by_last (last_of type past) none (sym (ap (λ (k : ℤ). opens_after (last_of k past) p) one.kind_is) ∙ goes)
    where
      by_last : (o : Option PayloadIn) → schema_id_in o ≡ None → opens_after o p ≡ false → ⊥
      by_last None none goes = cc goes
      by_last (Some q) none goes = cc none

  -- the messages of its sub-stream
  of_type_one : (p : PayloadIn) → HasOne p → of_type type (past ++ ps) ≡ of_type type (past ++ p ∷ [])
  of_type_one p one =
      let own : is_of type p ≡ true = (Decides-int_eq p.kind type).1 one.kind_is in
      filter-append (is_of type) past ps ∙ ap (λ l. of_type type past ++ l) one.only ∙ sym (of_type-own type past p own)

  pub stream_one : (p : PayloadIn) → HasOne p → stream_of type (past ++ ps) ≡ messages_before past p ++ front_of p.bytes
  unfolding stream_of opens
  stream_one p one =
      let own : is_of type p ≡ true = (Decides-int_eq p.kind type).1 one.kind_is in
      ap (λ l. flat_map (λ m. front_of m.1.bytes) (since (λ m. m.0) (marked_after None l))) (of_type_one p one) ∙ stream_of-own type past p own
      ∙ by_test (opens_after (last_of type past) p) ∙ ap (λ (k : ℤ). (if opens_after (last_of k past) p then [] else stream_of k past) ++ front_of p.bytes) (sym one.kind_is)
    where
      by_test : (b : Bool) → (if b then front_of p.bytes else stream_of type past ++ front_of p.bytes) ≡ (if b then [] else stream_of type past) ++ front_of p.bytes
      by_test true = refl
      by_test false = refl

  -- which are the same before the batch and in it
  none_before : (p : PayloadIn) (one : HasOne p) → of_type type one.front ≡ []
  none_before p one =
      let own : is_of type p ≡ true = (Decides-int_eq p.kind type).1 one.kind_is in
      let parts : of_type type one.front ++ (p ∷ of_type type one.rest) ≡ p ∷ []
      = sym (filter-append (is_of type) one.front (p ∷ one.rest) ∙ rw own refl) ∙ ap (of_type type) (sym one.whole) ∙ one.only in
      let long = length-append (of_type type one.front) (p ∷ of_type type one.rest) in
      let one_long = ap length parts in
      no_more (of_type type one.front) (omega (arith, long, one_long))

  before_one : (p : PayloadIn) (one : HasOne p) → messages_before (past ++ one.front) p ≡ messages_before past p
  unfolding stream_of opens
  before_one p one =
      let same : of_type p.kind (past ++ one.front) ≡ of_type p.kind past
      = ap (λ (k : ℤ). of_type k (past ++ one.front)) one.kind_is
      ∙ (filter-append (is_of type) past one.front ∙ ap (λ l. of_type type past ++ l) (none_before p one) ∙ append-nil (of_type type past))
      ∙ ap (λ (k : ℤ). of_type k past) (sym one.kind_is) in
      ap (λ (l : List PayloadIn). if opens_after (last_after None l) p then [] else flat_map (λ m. front_of m.1.bytes) (since (λ m. m.0) (marked_after None l))) same

  table_read : (p : PayloadIn) → HasOne p → Accepts signal past ps → (t : Table) × (table_of signal (past ++ ps) p ≡ Some t)
  table_read p one accepts = by_kind (kind_numbered signal p.kind) refl (fine_at signal ps one.front one.rest p accepts.list.types one.whole).known
    where
      by_kind : (o : Option Kind) → kind_numbered signal p.kind ≡ o → IsSome o → (t : Table) × (table_of signal (past ++ ps) p ≡ Some t)
      by_kind None is some = absurd (cc some)
      by_kind (Some k) is some =
          let before = messages_before (past ++ one.front) p in
          let read : IsRead k before p.bytes
          = all_after-at (IsReadAfter signal) past one.front one.rest p (subst (λ (l : List PayloadIn). AllAfter (IsReadAfter signal) past l) one.whole accepts.records) k is in
          let messages : stream_of p.kind (past ++ ps) ≡ before ++ front_of p.bytes
          = ap (λ (x : ℤ). stream_of x (past ++ ps)) one.kind_is ∙ stream_one p one ∙ ap (λ (ms : List IpcMessage). ms ++ front_of p.bytes) (sym (before_one p one)) in
          let after = ap substream_in messages ∙ read.is_after in
          let last = ap last_rows (messages ∙ ap (λ (ms : List IpcMessage). before ++ ms) read.messages) ∙ last_is before read.before read.batch in
          (table_of_batch k read.after read.batch, rw is (logical_from k (stream_of p.kind (past ++ ps)) read.after read.batch after last))

  -- its table is there
  pub table_one : (p : PayloadIn) → HasOne p → Accepts signal past ps → (t : Table) × (table_of signal (past ++ ps) p ≡ Some t) × (of_kind kind (tables_of signal past ps) ≡ t ∷ [])
  unfolding tables_of
  table_one p one accepts =
      let f = table_of signal (past ++ ps) in
      let there = table_read p one accepts in
      (there.0, there.1, kinds_tables signal (past ++ ps) kind ps ∙ ap (filter_map f) one.only ∙ ap (λ o. cons_option o []) there.1)

  -- it is what the sub-stream ends with
  pub logical_one : (p : PayloadIn) → HasOne p → (t : Table) → table_of signal (past ++ ps) p ≡ Some t → logical kind (stream_of type (past ++ ps)) ≡ Some t
  logical_one p one t is = by_kind (kind_numbered signal p.kind) refl
    where
      by_kind : (o : Option Kind) → kind_numbered signal p.kind ≡ o → logical kind (stream_of type (past ++ ps)) ≡ Some t
      by_kind None none = absurd (cc (rw none at is))
      by_kind (Some k) known =
          let number = same_kind_number p.kind (payload_type_of k) (has_number signal p.kind k known).same in
          let same : k ≡ kind = by_number (sym number ∙ one.kind_is) in
          let here : logical k (stream_of p.kind (past ++ ps)) ≡ Some t = rw known at is in
          sym (λ i. logical (same i) (stream_of (one.kind_is i) (past ++ ps))) ∙ here
        where
          by_number : {k : Kind} → payload_type_of k ≡ payload_type_of kind → k ≡ kind
          by_number {k} is = same_kind k kind (sym (types_compared k kind) ∙ (Decides-int_eq (payload_type_of k) (payload_type_of kind)).1 is)

-- the table that is found is no heavier than all
pub found_light : (kind : Kind) (ts : List Table) (t : Table) → find (λ u. is_kind u.kind kind) ts ≡ Some t → weight_of_table t ≤ weight_of_tables ts
found_light kind ts t found =
    let split = found_split (λ (u : Table). is_kind u.kind kind) ts t found in
    let all = ap weight_of_tables split.2 in
    let parts = sum_by-append weight_of_table split.0 (t ∷ split.1) in
    let first = sum_by-cons weight_of_table t split.1 in
    omega (arith, all, parts, first)

-- it is of the kind
pub found_kind : (kind : Kind) (ts : List Table) (t : Table) → find (λ u. is_kind u.kind kind) ts ≡ Some t → is_kind t.kind kind ≡ true
found_kind kind ts t found = (found_split (λ (u : Table). is_kind u.kind kind) ts t found).3

-- and the first of those
pub found_first : (kind : Kind) (ts others : List Table) (t : Table) → of_kind kind ts ≡ t ∷ others → find (λ u. is_kind u.kind kind) ts ≡ Some t
found_first kind [] others t is = absurd (cc is)
found_first kind (u ∷ ts) others t is =
    elim (cases_Bool (is_kind u.kind kind)) [
      | inl own ↦ (let same : u ≡ t = cc (rw own at is) in rw own (ap (λ (v : Table). Some v) same))
      | inr other ↦ rw other (found_first kind ts others t (rw other at is))
    ]

-- at the start of a segment nothing is open
pub none_open : (t : ℤ) → open_id t [] ≡ None
unfolding open_id
none_open t = refl
