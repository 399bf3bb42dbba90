-- At the start of bytes there is one message and no fault, or at least one fault; at their end there is neither.
use Rattle.std.proofs.Common.{◌≡◌, ◌≢◌, ℕ, ◌+◌, ◌-◌, ◌≤◌, Bool, true, List, [], length, Result, Ok, Err, Option, Some, None, MatchResult, inl, inr, refl, sym, ap, ◌∙◌, subst, arith}
use Rattle.std.specs.Prelude.{ℤ, pos, negsuc}
use Rattle.std.specs.List.{list_all}
use Rattle.std.proofs.lemmas.Bool.{cases_Bool, cases_eq, ne_eqb}
use Rattle.flat_tables.specs.Bytes.{part_at, number_at}
use Rattle.flat_tables.specs.Tables.{TableIn, root_at, place_of}
use Rattle.arrow_schema.specs.declared.spec.SchemaSpec.{SchemaSpec}
use Rattle.arrow_schema.specs.declared.refusal.SchemaRefusal.{SchemaRefusal}
use Rattle.arrow_schema.specs.Reading.{schema_of}
use Rattle.arrow_schema.proofs.Refused.{schema_refused}
use Rattle.arrow_ipc.specs.declared.fault.IpcFault.{IpcFault}
use Rattle.arrow_ipc.specs.declared.fault.IpcFault.TheVariants.{Cut, Flat, BadVersion, Compressed, BadBody, Unsupported, Schema, Memory}
use Rattle.arrow_ipc.specs.declared.messages.IpcMessage.{IpcMessage}
use Rattle.arrow_ipc.specs.declared.messages.IpcMessage.TheVariants as content
use Rattle.arrow_ipc.specs.declared.header.Header.{Header}
use Rattle.arrow_ipc.specs.declared.header.Header.TheVariants as header
use Rattle.arrow_ipc.specs.declared.header.FoundHeader.{FoundHeader}
use Rattle.arrow_ipc.specs.Batches.{BatchIn, IsBatch, lies_in, row_count, nodes_of, places_of}
use Rattle.arrow_ipc.specs.Messages.{IsFramed, IsMessage, IsDictionary, IsContent, continuation, version_of, header_kind, header_table_of, body_size_of, is_known, id_of, data_of, delta_of, kind_number}
use Rattle.arrow_ipc.specs.Faults
use Rattle.arrow_ipc.specs.Faults.{HasTable, HasHeader, HasBatch, HasBody, Stands, Refuses}
use Rattle.arrow_ipc.specs.Returned.{RefusesHeader}
use Rattle.arrow_ipc.specs.Order as order
use Rattle.lists.specs.Results.{◌>>=◌}
use Rattle.arrow_ipc.proofs.Parts.{part_lies, part_past}

-- a part that was read, or why not
data Read {A E : Type 0} (r : Result A E) : Type 0 where
  good : (x : A) → r ≡ Ok x → Read r
  bad : (e : E) → r ≡ Err e → Read r

read : {A E : Type 0} (r : Result A E) → Read r
read (Ok x) = good x refl
read (Err e) = bad e refl

data Given {A : Type 0} (o : Option A) : Type 0 where
  none : o ≡ None → Given o
  some : (x : A) → o ≡ Some x → Given o

given : {A : Type 0} (o : Option A) → Given o
given None = none refl
given (Some x) = some x refl

batch_decided : (bytes : List ℕ) (table : TableIn) (part : List ℕ) → HasBatch bytes table → HasBody bytes (length part)
    → MatchResult (order.batch_of table part) (IsBatch table part) (Stands bytes)
unfolding order.batch_of
batch_decided bytes table part has body =
    elim (read (row_count table)) [
      | bad e h1 ↦ rw h1 (Faults.bad_rows table e has h1)
      | good (negsuc n) h1 ↦ rw h1 (Faults.negative_rows table n has h1)
      | good (pos rows) h1 ↦ elim (read (nodes_of table)) [
        | bad e h2 ↦ rw (h1, h2) (Faults.bad_nodes table e has h2)
        | good nodes h2 ↦ elim (read (places_of table)) [
          | bad e h3 ↦ rw (h1, h2, h3) (Faults.bad_places table e has h3)
          | good places h3 ↦ elim (cases_Bool (list_all (lies_in (length part)) places)) [
            | inr h4 ↦ rw (h1, h2, h3, h4) (Faults.outside table places (length part) has body h3 h4)
            | inl h4 ↦ elim (given (place_of table 3)) [
              | some place h5 ↦ rw (h1, h2, h3, h4, h5) (Faults.compressed table has (rw h5 refl))
              | none h5 ↦ rw (h1, h2, h3, h4, h5) (record { rows = h1; nodes = h2; places = places; has_places = h3; inside = h4; buffers = refl; plain = h5 })
            ]
          ]
        ]
      ]
    ]

-- what a header of each kind holds
abbrev HasContent : TableIn → List ℕ → Header → Type 0
HasContent table part (header.Schema inner) = inner ≡ table
HasContent table part (header.Dictionary id delta batch) = IsDictionary table part id delta batch
HasContent table part (header.Rows batch) = IsBatch table part batch

abbrev kind_in : Header → ℕ
kind_in (header.Schema inner) = 1
kind_in (header.Dictionary id delta batch) = 2
kind_in (header.Rows batch) = 3

abbrev Holds : ℕ → TableIn → List ℕ → Header → Type 0
Holds kind table part h = (kind ≡ kind_in h) × HasContent table part h

dictionary_from : (bytes : List ℕ) (table inner : TableIn) (part : List ℕ) (id : ℤ) (delta : Bool) → id_of table ≡ Ok id → delta_of table ≡ Ok delta
    → data_of table ≡ Ok (Some inner) → (r : Result BatchIn IpcFault) → MatchResult r (IsBatch inner part) (Stands bytes)
    → MatchResult (r >>= λ batch. Ok (header.Dictionary id delta batch)) (Holds 2 table part) (Stands bytes)
dictionary_from bytes table inner part id delta h1 h2 h3 (Ok batch) h = (refl, record { has_id = h1; has_delta = h2; table = inner; has_table = h3; is_batch = h })
dictionary_from bytes table inner part id delta h1 h2 h3 (Err e) h = h

dictionary_decided : (bytes : List ℕ) (table : TableIn) (part : List ℕ) → HasHeader bytes 2 table → HasBody bytes (length part)
    → MatchResult (order.dictionary_of table part) (Holds 2 table part) (Stands bytes)
unfolding order.dictionary_of
dictionary_decided bytes table part has body =
    elim (read (id_of table)) [
      | bad e h1 ↦ rw h1 (Faults.bad_id table e has h1)
      | good id h1 ↦ elim (read (delta_of table)) [
        | bad e h2 ↦ rw (h1, h2) (Faults.bad_delta table e has h2)
        | good delta h2 ↦ elim (read (data_of table)) [
          | bad e h3 ↦ rw (h1, h2, h3) (Faults.bad_data table e has h3)
          | good None h3 ↦ rw (h1, h2, h3) (Faults.no_data table has h3)
          | good (Some inner) h3 ↦ rw (h1, h2, h3) (dictionary_from bytes table inner part id delta h1 h2 h3 (order.batch_of inner part)
              (batch_decided bytes inner part (inr (table, has, h3)) body))
        ]
      ]
    ]

rows_from : (bytes : List ℕ) (table : TableIn) (part : List ℕ) → (r : Result BatchIn IpcFault) → MatchResult r (IsBatch table part) (Stands bytes)
    → MatchResult (r >>= λ batch. Ok (header.Rows batch)) (Holds 3 table part) (Stands bytes)
rows_from bytes table part (Ok batch) h = (refl, h)
rows_from bytes table part (Err e) h = h

-- a table's header
record IsHeader (table : TableIn) (part : List ℕ) (h : Header) : Type 0 where
  inner : TableIn
  has_header : header_table_of table ≡ Ok (Some inner)
  has_kind : header_kind table ≡ Ok (kind_in h)
  content : HasContent inner part h

holds_header : (bytes : List ℕ) (table inner : TableIn) (part : List ℕ) (kind : ℕ) → header_table_of table ≡ Ok (Some inner) → header_kind table ≡ Ok kind
    → (r : Result Header IpcFault) → MatchResult r (Holds kind inner part) (Stands bytes) → MatchResult r (IsHeader table part) (Stands bytes)
holds_header bytes table inner part kind h1 h2 (Ok h) holds = record { inner = inner; has_header = h1; has_kind = h2 ∙ ap Ok holds.0; content = holds.1 }
holds_header bytes table inner part kind h1 h2 (Err e) stands = stands

kind_decided : (bytes : List ℕ) (table inner : TableIn) (after : ℕ) (part : List ℕ) (kind : ℕ) → HasTable bytes table after → HasBody bytes (length part)
    → header_table_of table ≡ Ok (Some inner) → header_kind table ≡ Ok kind → MatchResult (order.header_by kind inner part) (Holds kind inner part) (Stands bytes)
kind_decided bytes table inner after part kind has body h1 h2 =
    elim (cases_eq kind 1) [
      | inl e ↦ subst (λ (k : ℕ). MatchResult (order.header_by k inner part) (Holds k inner part) (Stands bytes)) (sym e) (refl, refl)
      | inr one ↦ elim (cases_eq kind 2) [
        | inl e ↦ subst (λ (k : ℕ). MatchResult (order.header_by k inner part) (Holds k inner part) (Stands bytes)) (sym e)
            (dictionary_decided bytes inner part (record { table = table; after = after; has_table = has; has_kind = h2 ∙ ap Ok e; has_header = h1 }) body)
        | inr two ↦ elim (cases_eq kind 3) [
          | inl e ↦ subst (λ (k : ℕ). MatchResult (order.header_by k inner part) (Holds k inner part) (Stands bytes)) (sym e)
              (rows_from bytes inner part (order.batch_of inner part)
              (batch_decided bytes inner part (inl (record { table = table; after = after; has_table = has; has_kind = h2 ∙ ap Ok e; has_header = h1 })) body))
          | inr three ↦ rw (ne_eqb kind 1 one, ne_eqb kind 2 two, ne_eqb kind 3 three) (Faults.unknown_kind table after kind has h2 one two three)
        ]
      ]
    ]

header_decided : (bytes : List ℕ) (table : TableIn) (after : ℕ) (part : List ℕ) → HasTable bytes table after → body_size_of table ≡ Ok (pos (length part))
    → MatchResult (order.header_of table part) (IsHeader table part) (Stands bytes)
unfolding order.header_of
header_decided bytes table after part has size =
    elim (read (header_kind table)) [
      | bad e h1 ↦ rw h1 (Faults.bad_kind table after e has h1)
      | good kind h1 ↦ elim (read (header_table_of table)) [
        | bad e h2 ↦ rw (h1, h2) (Faults.bad_header table after e has h2)
        | good None h2 ↦ rw (h1, h2) (Faults.no_header table after has h2)
        | good (Some inner) h2 ↦ rw (h1, h2) (holds_header bytes table inner part kind h2 h1 (order.header_by kind inner part)
            (kind_decided bytes table inner after part kind has (table, after, has, size) h2 h1))
      ]
    ]

-- the bytes begin with a frame, or nothing can be read in them
metadata_decided : (bytes : List ℕ) → MatchResult (order.metadata bytes) (IsFramed bytes) (λ e. bytes ≢ [] → Stands bytes e)
unfolding order.metadata
metadata_decided bytes =
    elim (read (number_at 4 bytes 0)) [
      | bad e h1 ↦ rw h1 (λ some. Faults.no_frame some (λ metadata f. cc (h1, f.marked)))
      | good mark h1 ↦ elim (cases_eq mark continuation) [
        | inr other ↦ rw (h1, ne_eqb mark continuation other) (λ some. Faults.no_frame some (λ metadata f. other (cc (h1, f.marked))))
        | inl marked ↦ elim (read (number_at 4 bytes 4)) [
          | bad e h2 ↦ rw (h1, marked, h2) (λ some. Faults.no_frame some (λ metadata f. cc (h2, f.size)))
          | good size h2 ↦ elim (read (part_at bytes 8 size)) [
            | bad e h3 ↦ rw (h1, marked, h2, h3) (λ some. Faults.no_frame some (λ metadata f. let same : size ≡ length metadata = cc (h2, f.size) in cc (h3, f.whole, same)))
            | good metadata h3 ↦
                let size_is : length metadata ≡ size = (part_lies bytes 8 size metadata h3).size in
                rw (h1, marked, h2, h3) (record {
                  marked = h1 ∙ ap Ok marked;
                  size = h2 ∙ ap Ok (sym size_is);
                  whole = ap (part_at bytes 8) size_is ∙ h3;
                })
          ]
        ]
      ]
    ]

-- the body at an offset
record HasPart (bytes : List ℕ) (place : ℕ) (table : TableIn) (part : List ℕ) : Type 0 where
  size : body_size_of table ≡ Ok (pos (length part))
  whole : part_at bytes place (length part) ≡ Ok part

body_decided : (bytes metadata : List ℕ) (table : TableIn) (after : ℕ) → 8 + length metadata + after ≡ length bytes → HasTable bytes table after
    → MatchResult (order.body bytes (8 + length metadata) table) (HasPart bytes (8 + length metadata) table) (Stands bytes)
unfolding order.body
body_decided bytes metadata table after whole has =
    elim (read (body_size_of table)) [
      | bad e h1 ↦ rw h1 (Faults.bad_body_size table after e has h1)
      | good (negsuc n) h1 ↦ rw h1 (Faults.negative_body table after n has h1)
      | good (pos size) h1 ↦ elim (read (part_at bytes (8 + length metadata) size)) [
        | bad e h2 ↦ rw (h1, h2) (Faults.no_body table after size has h1 (part_past bytes (8 + length metadata) after size e whole h2))
        | good part h2 ↦
            let size_is : length part ≡ size = (part_lies bytes (8 + length metadata) size part h2).size in
            rw (h1, h2) (record { size = h1 ∙ ap (λ n. Ok (pos n)) (sym size_is); whole = ap (part_at bytes (8 + length metadata)) size_is ∙ h2 })
      ]
    ]

-- a version that is known
record HasVersion (table : TableIn) : Type 0 where
  version : ℤ
  is : version_of table ≡ Ok version
  known : is_known version ≡ true

version_decided : (bytes : List ℕ) (table : TableIn) (after : ℕ) → HasTable bytes table after
    → MatchResult (order.check_version table) (λ _. HasVersion table) (Stands bytes)
unfolding order.check_version
version_decided bytes table after has =
    elim (read (version_of table)) [
      | bad e h1 ↦ rw h1 (Faults.bad_version table after e has h1)
      | good version h1 ↦ elim (cases_Bool (is_known version)) [
        | inr unknown ↦ rw (h1, unknown) (Faults.unknown_version table after version has h1 unknown)
        | inl known ↦ rw (h1, known) (record { version = version; is = h1; known = known })
      ]
    ]

-- all but a schema's inside
record IsFound (bytes : List ℕ) (h : Header) (size : ℕ) : Type 0 where
  metadata : List ℕ
  framed : IsFramed bytes metadata
  table : TableIn
  root : root_at metadata ≡ Ok table
  after : ℕ
  whole : 8 + length metadata + after ≡ length bytes
  version : HasVersion table
  part : List ℕ
  body : HasPart bytes (8 + length metadata) table part
  has_header : IsHeader table part h
  ends : size ≡ 8 + length metadata + length part

abbrev Finds : List ℕ → FoundHeader → Type 0
Finds bytes f = IsFound bytes f.header f.size

abbrev Faulty : List ℕ → IpcFault → Type 0
Faulty bytes e = bytes ≢ [] → Stands bytes e

found_from : (bytes metadata : List ℕ) (table : TableIn) (after : ℕ) (part : List ℕ) → IsFramed bytes metadata → root_at metadata ≡ Ok table
    → 8 + length metadata + after ≡ length bytes → HasVersion table → HasPart bytes (8 + length metadata) table part
    → (r : Result Header IpcFault) → MatchResult r (IsHeader table part) (Stands bytes)
    → MatchResult (r >>= λ inner. Ok (record { header = inner; size = 8 + length metadata + length part })) (Finds bytes) (Faulty bytes)
found_from bytes metadata table after part f root whole v p (Ok h) is = record {
  metadata = metadata;
  framed = f;
  table = table;
  root = root;
  after = after;
  whole = whole;
  version = v;
  part = part;
  body = p;
  has_header = is;
  ends = refl;
}
found_from bytes metadata table after part f root whole v p (Err e) stands = λ _. stands

body_from : (bytes metadata : List ℕ) (table : TableIn) (after : ℕ) → IsFramed bytes metadata → root_at metadata ≡ Ok table → HasTable bytes table after
    → 8 + length metadata + after ≡ length bytes → HasVersion table
    → (r : Result (List ℕ) IpcFault) → MatchResult r (HasPart bytes (8 + length metadata) table) (Stands bytes)
    → MatchResult (r >>= λ part. order.header_of table part >>= λ inner. Ok (record { header = inner; size = 8 + length metadata + length part })) (Finds bytes) (Faulty bytes)
body_from bytes metadata table after f root has whole v (Ok part) p =
    found_from bytes metadata table after part f root whole v p (order.header_of table part) (header_decided bytes table after part has p.size)
body_from bytes metadata table after f root has whole v (Err e) stands = λ _. stands

version_from : (bytes metadata : List ℕ) (table : TableIn) (after : ℕ) → IsFramed bytes metadata → root_at metadata ≡ Ok table → HasTable bytes table after
    → 8 + length metadata + after ≡ length bytes → (r : Result (Unit {0}) IpcFault) → MatchResult r (λ _. HasVersion table) (Stands bytes)
    → MatchResult (r >>= λ _. order.body bytes (8 + length metadata) table >>= λ part. order.header_of table part >>= λ inner.
    Ok (record { header = inner; size = 8 + length metadata + length part })) (Finds bytes) (Faulty bytes)
version_from bytes metadata table after f root has whole (Ok u) v =
    body_from bytes metadata table after f root has whole v (order.body bytes (8 + length metadata) table) (body_decided bytes metadata table after whole has)
version_from bytes metadata table after f root has whole (Err e) stands = λ _. stands

framed_from : (bytes metadata : List ℕ) → IsFramed bytes metadata
    → MatchResult (order.flat (root_at metadata) >>= λ table. order.check_version table >>= λ _. order.body bytes (8 + length metadata) table >>= λ part.
    order.header_of table part >>= λ inner. Ok (record { header = inner; size = 8 + length metadata + length part })) (Finds bytes) (Faulty bytes)
framed_from bytes metadata f =
    elim (read (root_at metadata)) [
      | bad e h1 ↦ rw h1 (λ _. Faults.bad_root metadata e f h1)
      | good table h1 ↦
          let inside : 8 + length metadata ≤ length bytes = (part_lies bytes 8 (length metadata) metadata f.whole).inside in
          let after : ℕ = length bytes - (8 + length metadata) in
          let whole : 8 + length metadata + after ≡ length bytes = omega (arith, inside) in
          let has : HasTable bytes table after = record { metadata = metadata; framed = f; root = h1; whole = whole } in
          rw h1 (version_from bytes metadata table after f h1 has whole (order.check_version table) (version_decided bytes table after has))
    ]

find_from : (bytes : List ℕ) (r : Result (List ℕ) IpcFault) → MatchResult r (IsFramed bytes) (Faulty bytes)
    → MatchResult (r >>= λ metadata. order.flat (root_at metadata) >>= λ table. order.check_version table >>= λ _.
    order.body bytes (8 + length metadata) table >>= λ part. order.header_of table part >>= λ inner.
    Ok (record { header = inner; size = 8 + length metadata + length part })) (Finds bytes) (Faulty bytes)
find_from bytes (Ok metadata) f = framed_from bytes metadata f
find_from bytes (Err e) stands = stands

find_decided : (bytes : List ℕ) → MatchResult (order.find bytes) (Finds bytes) (Faulty bytes)
unfolding order.find
find_decided bytes = find_from bytes (order.metadata bytes) (metadata_decided bytes)

-- the message of a header
message_is : (bytes : List ℕ) (h : Header) (size : ℕ) (is : IsFound bytes h size) (m : IpcMessage) → header_kind is.table ≡ Ok (kind_number m)
    → IsContent is.has_header.inner is.part m → IsMessage bytes m size
message_is bytes h size is m kind content = record {
  metadata = is.metadata;
  framed = is.framed;
  table = is.table;
  root = is.root;
  version = is.version.version;
  has_version = is.version.is;
  known = is.version.known;
  kind = kind;
  header = is.has_header.inner;
  has_header = is.has_header.has_header;
  body = is.part;
  body_size = is.body.size;
  has_body = is.body.whole;
  content = content;
  ends = is.ends;
}

abbrev Gives : List ℕ → IpcMessage × ℕ → Type 0
Gives bytes found = IsMessage bytes found.0 found.1

schema_from : (bytes : List ℕ) (inner : TableIn) (size : ℕ) → IsFound bytes (header.Schema inner) size
    → (r : Result SchemaSpec SchemaRefusal) → schema_of inner ≡ r
    → MatchResult (order.schema_read r >>= λ m. Ok (m, size)) (Gives bytes) (Faulty bytes)
schema_from bytes inner size is (Ok fields) h =
    message_is bytes (header.Schema inner) size is (content.Schema fields) is.has_header.has_kind
    (subst (λ (t : TableIn). schema_of t ≡ Ok fields) is.has_header.content h)
schema_from bytes inner size is (Err e) h =
    let has : HasTable bytes is.table is.after = record { metadata = is.metadata; framed = is.framed; root = is.root; whole = is.whole } in
    λ _. Faults.bad_schema inner e (record {
      table = is.table;
      after = is.after;
      has_table = has;
      has_kind = is.has_header.has_kind;
      has_header = is.has_header.has_header ∙ ap (λ t. Ok (Some t)) (sym is.has_header.content);
    }) (schema_refused inner e h)

message_from : (bytes : List ℕ) (h : Header) (size : ℕ) → IsFound bytes h size
    → MatchResult (order.message_of h >>= λ m. Ok (m, size)) (Gives bytes) (Faulty bytes)
unfolding order.message_of
message_from bytes (header.Schema inner) size is = schema_from bytes inner size is (schema_of inner) refl
message_from bytes (header.Dictionary id delta batch) size is =
    message_is bytes (header.Dictionary id delta batch) size is (content.Dictionary id delta batch) is.has_header.has_kind is.has_header.content
message_from bytes (header.Rows batch) size is =
    message_is bytes (header.Rows batch) size is (content.Rows batch) is.has_header.has_kind is.has_header.content

found_message : (bytes : List ℕ) (r : Result FoundHeader IpcFault) → MatchResult r (Finds bytes) (Faulty bytes)
    → MatchResult (r >>= λ f. order.message_of f.header >>= λ m. Ok (m, f.size)) (Gives bytes) (Faulty bytes)
found_message bytes (Ok f) is = message_from bytes f.header f.size is
found_message bytes (Err e) stands = stands

-- reading decides
pub decided : (bytes : List ℕ) → MatchResult (order.message bytes) (λ found. IsMessage bytes found.0 found.1) (λ e. bytes ≢ [] → Stands bytes e)
unfolding order.message
decided bytes = found_message bytes (order.find bytes) (find_decided bytes)

-- ---- what a call may return

pub stands_refuses : (bytes : List ℕ) (e : IpcFault) → Stands bytes e → Refuses bytes e
stands_refuses bytes Cut s = s
stands_refuses bytes (Flat e) s = s
stands_refuses bytes BadVersion s = s
stands_refuses bytes Compressed s = s
stands_refuses bytes BadBody s = s
stands_refuses bytes Unsupported s = s
stands_refuses bytes (Schema e) s = s
stands_refuses bytes (Memory e) s = tt

pub find_refuses : (bytes : List ℕ) (e : IpcFault) → order.find bytes ≡ Err e → bytes ≢ [] → Refuses bytes e
find_refuses bytes e h filled =
    stands_refuses bytes e (subst (λ (r : Result FoundHeader IpcFault). MatchResult r (Finds bytes) (Faulty bytes)) h (find_decided bytes) filled)

refuses_found : (bytes : List ℕ) (h : Header) (size : ℕ) (e : IpcFault) → IsFound bytes h size → RefusesHeader h e → Refuses bytes e
refuses_found bytes (header.Schema inner) size (Schema refusal) is r =
    let has : HasTable bytes is.table is.after = record { metadata = is.metadata; framed = is.framed; root = is.root; whole = is.whole } in
    Faults.bad_schema inner refusal (record {
      table = is.table;
      after = is.after;
      has_table = has;
      has_kind = is.has_header.has_kind;
      has_header = is.has_header.has_header ∙ ap (λ t. Ok (Some t)) (sym is.has_header.content);
    }) r
refuses_found bytes (header.Schema inner) size (Memory e) is r = tt
refuses_found bytes (header.Schema inner) size Cut is r = absurd r
refuses_found bytes (header.Schema inner) size (Flat e) is r = absurd r
refuses_found bytes (header.Schema inner) size BadVersion is r = absurd r
refuses_found bytes (header.Schema inner) size Compressed is r = absurd r
refuses_found bytes (header.Schema inner) size BadBody is r = absurd r
refuses_found bytes (header.Schema inner) size Unsupported is r = absurd r
refuses_found bytes (header.Dictionary id delta batch) size e is r = absurd r
refuses_found bytes (header.Rows batch) size e is r = absurd r

pub header_refuses : (bytes : List ℕ) (f : FoundHeader) (e : IpcFault) → order.find bytes ≡ Ok f → RefusesHeader f.header e → Refuses bytes e
header_refuses bytes f e h r =
    refuses_found bytes f.header f.size e (subst (λ (r : Result FoundHeader IpcFault). MatchResult r (Finds bytes) (Faulty bytes)) h (find_decided bytes)) r

pub message_given : (bytes : List ℕ) (f : FoundHeader) (m : IpcMessage) → order.find bytes ≡ Ok f → order.message_of f.header ≡ Ok m → IsMessage bytes m f.size
unfolding order.message
message_given bytes f m h1 h2 =
    let read : order.message bytes ≡ Ok (m, f.size) = rw (h1, h2) refl in
    subst (λ (r : Result (IpcMessage × ℕ) IpcFault). MatchResult r (λ found. IsMessage bytes found.0 found.1) (λ e. bytes ≢ [] → Stands bytes e)) read (decided bytes)
