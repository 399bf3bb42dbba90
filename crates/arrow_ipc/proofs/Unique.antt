-- A message at the start of bytes is the only one, and there is no fault beside it.
use Rattle.std.proofs.Common.{◌≡◌, ◌≢◌, ℕ, ◌+◌, ◌≤◌, Bool, List, [], length, Ok, Some, inl, inr, refl, sym, ap, ◌∙◌, subst, arith}
use Rattle.std.specs.Prelude.{ℤ}
use Rattle.std.specs.List.{list_all}
use Rattle.std.proofs.lemmas.Bool.{true≢false}
use Rattle.flat_tables.specs.Tables.{TableIn, root_at}
use Rattle.arrow_schema.specs.declared.spec.SchemaSpec.{SchemaSpec}
use Rattle.arrow_schema.specs.Reading.{schema_of}
use Rattle.arrow_schema.proofs.Exclusion.{read_has_none}
use Rattle.arrow_ipc.specs.declared.fault.IpcFault.{IpcFault}
use Rattle.arrow_ipc.specs.declared.messages.IpcMessage.{IpcMessage}
use Rattle.arrow_ipc.specs.declared.messages.IpcMessage.TheVariants as content
use Rattle.arrow_ipc.specs.declared.header.Header.{Header}
use Rattle.arrow_ipc.specs.declared.header.Header.TheVariants as header
use Rattle.arrow_ipc.specs.Batches.{BatchIn, IsBatch, lies_in}
use Rattle.arrow_ipc.specs.Messages.{IsFramed, IsMessage, IsDictionary, IsContent, version_of, header_kind, header_table_of, body_size_of, is_known, kind_number}
use Rattle.arrow_ipc.specs.Faults
use Rattle.arrow_ipc.specs.Faults.{HasTable, HasHeader, HasBatch, HasBody, Stands}
use Rattle.arrow_ipc.specs.Order as order
use Rattle.arrow_ipc.proofs.Parts.{part_lies}

-- ---- a message that is there is what reading gives

batch_read : (table : TableIn) (part : List ℕ) (batch : BatchIn) → IsBatch table part batch → order.batch_of table part ≡ Ok batch
unfolding order.batch_of
batch_read table part batch b =
    rw (b.rows, b.nodes, b.has_places, b.inside, b.plain) (λ i. Ok (record { rows = batch.rows; nodes = batch.nodes; buffers = sym b.buffers i }))

dictionary_read : (table : TableIn) (part : List ℕ) (id : ℤ) (delta : Bool) (batch : BatchIn) → IsDictionary table part id delta batch
    → order.dictionary_of table part ≡ Ok (header.Dictionary id delta batch)
unfolding order.dictionary_of
dictionary_read table part id delta batch d = rw (d.has_id, d.has_delta, d.has_table, batch_read d.table part batch d.is_batch) refl

-- the header of a message
abbrev header_in : TableIn → IpcMessage → Header
header_in table (content.Schema fields) = header.Schema table
header_in table (content.Dictionary id delta batch) = header.Dictionary id delta batch
header_in table (content.Rows batch) = header.Rows batch

header_read : (table inner : TableIn) (part : List ℕ) (m : IpcMessage) → header_table_of table ≡ Ok (Some inner) → header_kind table ≡ Ok (kind_number m)
    → IsContent inner part m → order.header_of table part ≡ Ok (header_in inner m)
unfolding order.header_of
header_read table inner part (content.Schema fields) h1 h2 h = rw (h2, h1) refl
header_read table inner part (content.Dictionary id delta batch) h1 h2 h = rw (h2, h1, dictionary_read inner part id delta batch h) refl
header_read table inner part (content.Rows batch) h1 h2 h = rw (h2, h1, batch_read inner part batch h) refl

content_read : (inner : TableIn) (part : List ℕ) (m : IpcMessage) → IsContent inner part m → order.message_of (header_in inner m) ≡ Ok m
unfolding order.message_of
content_read inner part (content.Schema fields) h = ap order.schema_read h
content_read inner part (content.Dictionary id delta batch) h = refl
content_read inner part (content.Rows batch) h = refl

metadata_read : (bytes metadata : List ℕ) → IsFramed bytes metadata → order.metadata bytes ≡ Ok metadata
unfolding order.metadata
metadata_read bytes metadata f = rw (f.marked, f.size, f.whole) refl

pub find_read : (bytes : List ℕ) (m : IpcMessage) (size : ℕ) (h : IsMessage bytes m size)
    → order.find bytes ≡ Ok (record { header = header_in h.header m; size = size })
unfolding order.find order.check_version order.body
find_read bytes m size h =
    rw (
      metadata_read bytes h.metadata h.framed,
      h.root,
      h.has_version,
      h.known,
      h.body_size,
      h.has_body,
      header_read h.table h.header h.body m h.has_header h.kind h.content,
    )
    (ap (λ n. Ok (record { header = header_in h.header m; size = n })) (sym h.ends))

pub message_read : (bytes : List ℕ) (m : IpcMessage) (size : ℕ) → IsMessage bytes m size → order.message bytes ≡ Ok (m, size)
unfolding order.message
message_read bytes m size h = rw (find_read bytes m size h, content_read h.header h.body m h.content) refl

pub one_message : (bytes : List ℕ) (m n : IpcMessage) (a b : ℕ) → IsMessage bytes m a → IsMessage bytes n b → (m ≡ n) × (a ≡ b)
one_message bytes m n a b h k =
    let p : IpcMessage × ℕ = (m, a) in
    let q : IpcMessage × ℕ = (n, b) in
    let same : p ≡ q = cc (message_read bytes m a h, message_read bytes n b k) in
    (ap (λ x. x.0) same, ap (λ x. x.1) same)

-- ---- there is no fault beside it

same_metadata : (bytes a b : List ℕ) → IsFramed bytes a → IsFramed bytes b → a ≡ b
same_metadata bytes a b f g = cc (metadata_read bytes a f, metadata_read bytes b g)

same_table : (bytes : List ℕ) (m : IpcMessage) (size : ℕ) (h : IsMessage bytes m size) (table : TableIn) (after : ℕ) → HasTable bytes table after
    → table ≡ h.table
same_table bytes m size h table after has =
    let same : root_at has.metadata ≡ root_at h.metadata = ap root_at (same_metadata bytes has.metadata h.metadata has.framed h.framed) in
    cc (same, has.root, h.root)

same_after : (bytes : List ℕ) (m : IpcMessage) (size : ℕ) (h : IsMessage bytes m size) (table : TableIn) (after : ℕ) → HasTable bytes table after
    → 8 + length h.metadata + after ≡ length bytes
same_after bytes m size h table after has =
    ap (λ part. 8 + length part + after) (sym (same_metadata bytes has.metadata h.metadata has.framed h.framed)) ∙ has.whole

same_header : (bytes : List ℕ) (m : IpcMessage) (size : ℕ) (h : IsMessage bytes m size) (kind : ℕ) (table : TableIn) → HasHeader bytes kind table
    → (kind ≡ kind_number m) × (table ≡ h.header)
same_header bytes m size h kind table has =
    let same : has.table ≡ h.table = same_table bytes m size h has.table has.after has.has_table in
    (cc (ap header_kind same, has.has_kind, h.kind), cc (ap header_table_of same, has.has_header, h.has_header))

same_size : (bytes : List ℕ) (m : IpcMessage) (size : ℕ) (h : IsMessage bytes m size) (n : ℕ) → HasBody bytes n → n ≡ length h.body
same_size bytes m size h n (table, after, has, is) =
    cc (ap body_size_of (same_table bytes m size h table after has), is, h.body_size)

-- what a header of each kind is
schema_told : (bytes : List ℕ) (m : IpcMessage) (size : ℕ) → IsMessage bytes m size → (table : TableIn) → HasHeader bytes 1 table
    → (fields : SchemaSpec) × (schema_of table ≡ Ok fields)
schema_told bytes (content.Schema fields) size h table has =
    (fields, ap schema_of (same_header bytes (content.Schema fields) size h 1 table has).1 ∙ h.content)
schema_told bytes (content.Dictionary id delta batch) size h table has =
    absurd (omega (arith, (same_header bytes (content.Dictionary id delta batch) size h 1 table has).0))
schema_told bytes (content.Rows batch) size h table has = absurd (omega (arith, (same_header bytes (content.Rows batch) size h 1 table has).0))

record Dictionary (table : TableIn) (part : List ℕ) : Type 0 where
  id : ℤ
  delta : Bool
  batch : BatchIn
  is : IsDictionary table part id delta batch

dictionary_told : (bytes : List ℕ) (m : IpcMessage) (size : ℕ) (h : IsMessage bytes m size) (table : TableIn) → HasHeader bytes 2 table → Dictionary table h.body
dictionary_told bytes (content.Schema fields) size h table has =
    absurd (omega (arith, (same_header bytes (content.Schema fields) size h 2 table has).0))
dictionary_told bytes (content.Dictionary id delta batch) size h table has = record {
  id = id;
  delta = delta;
  batch = batch;
  is = subst (λ (t : TableIn). IsDictionary t h.body id delta batch) (sym (same_header bytes (content.Dictionary id delta batch) size h 2 table has).1) h.content;
}
dictionary_told bytes (content.Rows batch) size h table has =
    absurd (omega (arith, (same_header bytes (content.Rows batch) size h 2 table has).0))

rows_told : (bytes : List ℕ) (m : IpcMessage) (size : ℕ) (h : IsMessage bytes m size) (table : TableIn) → HasHeader bytes 3 table
    → (batch : BatchIn) × IsBatch table h.body batch
rows_told bytes (content.Schema fields) size h table has = absurd (omega (arith, (same_header bytes (content.Schema fields) size h 3 table has).0))
rows_told bytes (content.Dictionary id delta batch) size h table has =
    absurd (omega (arith, (same_header bytes (content.Dictionary id delta batch) size h 3 table has).0))
rows_told bytes (content.Rows batch) size h table has =
    (batch, subst (λ (t : TableIn). IsBatch t h.body batch) (sym (same_header bytes (content.Rows batch) size h 3 table has).1) h.content)

batch_told : (bytes : List ℕ) (m : IpcMessage) (size : ℕ) (h : IsMessage bytes m size) (table : TableIn) → HasBatch bytes table
    → (batch : BatchIn) × IsBatch table h.body batch
batch_told bytes m size h table (inl has) = rows_told bytes m size h table has
batch_told bytes m size h table (inr (outer, has, data_is)) =
    let d : Dictionary outer h.body = dictionary_told bytes m size h outer has in
    let same : d.is.table ≡ table = cc (data_is, d.is.has_table) in
    (d.batch, subst (λ (t : TableIn). IsBatch t h.body d.batch) same d.is.is_batch)

known_kind : (m : IpcMessage) (kind : ℕ) → kind ≡ kind_number m → kind ≢ 1 → kind ≢ 2 → kind ≢ 3 → ⊥
known_kind (content.Schema fields) kind h one two three = one h
known_kind (content.Dictionary id delta batch) kind h one two three = two h
known_kind (content.Rows batch) kind h one two three = three h

pub alone : (bytes : List ℕ) (m : IpcMessage) (size : ℕ) (e : IpcFault) → IsMessage bytes m size → Stands bytes e → ⊥
alone bytes m size e h (Faults.no_frame some none) = none h.metadata h.framed
alone bytes m size e h (Faults.no_body table after n has is short) =
    let inside : 8 + length h.metadata + length h.body ≤ length bytes =
    (part_lies bytes (8 + length h.metadata) (length h.body) h.body h.has_body).inside in
    omega (arith, inside, same_size bytes m size h n (table, after, has, is), same_after bytes m size h table after has, short)
alone bytes m size e h (Faults.bad_root metadata fault f is) = cc (ap root_at (same_metadata bytes metadata h.metadata f h.framed), is, h.root)
alone bytes m size e h (Faults.bad_version table after fault has is) = cc (ap version_of (same_table bytes m size h table after has), is, h.has_version)
alone bytes m size e h (Faults.bad_kind table after fault has is) = cc (ap header_kind (same_table bytes m size h table after has), is, h.kind)
alone bytes m size e h (Faults.bad_header table after fault has is) = cc (ap header_table_of (same_table bytes m size h table after has), is, h.has_header)
alone bytes m size e h (Faults.bad_body_size table after fault has is) =
    cc (ap body_size_of (same_table bytes m size h table after has), is, h.body_size)
alone bytes m size e h (Faults.bad_id table fault has is) = cc (is, (dictionary_told bytes m size h table has).is.has_id)
alone bytes m size e h (Faults.bad_data table fault has is) = cc (is, (dictionary_told bytes m size h table has).is.has_table)
alone bytes m size e h (Faults.bad_delta table fault has is) = cc (is, (dictionary_told bytes m size h table has).is.has_delta)
alone bytes m size e h (Faults.bad_rows table fault has is) = cc (is, (batch_told bytes m size h table has).1.rows)
alone bytes m size e h (Faults.bad_nodes table fault has is) = cc (is, (batch_told bytes m size h table has).1.nodes)
alone bytes m size e h (Faults.bad_places table fault has is) = cc (is, (batch_told bytes m size h table has).1.has_places)
alone bytes m size e h (Faults.unknown_version table after version has is unknown) =
    let same : version ≡ h.version = cc (ap version_of (same_table bytes m size h table after has), is, h.has_version) in
    true≢false (sym h.known ∙ ap is_known (sym same) ∙ unknown)
alone bytes m size e h (Faults.compressed table has some) =
    true≢false (sym (rw (batch_told bytes m size h table has).1.plain at some))
alone bytes m size e h (Faults.negative_body table after n has is) = cc (ap body_size_of (same_table bytes m size h table after has), is, h.body_size)
alone bytes m size e h (Faults.negative_rows table n has is) = cc (is, (batch_told bytes m size h table has).1.rows)
alone bytes m size e h (Faults.outside table places n has body is bad) =
    let b : IsBatch table h.body (batch_told bytes m size h table has).0 = (batch_told bytes m size h table has).1 in
    let places_same : places ≡ b.places = cc (is, b.has_places) in
    let size_same : n ≡ length h.body = same_size bytes m size h n body in
    let all_same : list_all (lies_in n) places ≡ list_all (lies_in (length h.body)) b.places = λ i. list_all (lies_in (size_same i)) (places_same i) in
    true≢false (sym b.inside ∙ sym all_same ∙ bad)
alone bytes m size e h (Faults.no_header table after has is) = cc (ap header_table_of (same_table bytes m size h table after has), is, h.has_header)
alone bytes m size e h (Faults.unknown_kind table after kind has is one two three) =
    known_kind m kind (cc (ap header_kind (same_table bytes m size h table after has), is, h.kind)) one two three
alone bytes m size e h (Faults.no_data table has is) = cc (is, (dictionary_told bytes m size h table has).is.has_table)
alone bytes m size e h (Faults.bad_schema table refusal has is) =
    let told : (fields : SchemaSpec) × (schema_of table ≡ Ok fields) = schema_told bytes m size h table has in
    read_has_none table told.0 refusal told.1 is

-- ---- and there is none at the end of the bytes

framed_some : (bytes metadata : List ℕ) → IsFramed bytes metadata → bytes ≢ []
framed_some bytes metadata f empty = absurd (omega (arith, ap length empty, (part_lies bytes 8 (length metadata) metadata f.whole).inside))

table_some : (bytes : List ℕ) (table : TableIn) (after : ℕ) → HasTable bytes table after → bytes ≢ []
table_some bytes table after has = framed_some bytes has.metadata has.framed

header_some : (bytes : List ℕ) (kind : ℕ) (table : TableIn) → HasHeader bytes kind table → bytes ≢ []
header_some bytes kind table has = table_some bytes has.table has.after has.has_table

batch_some : (bytes : List ℕ) (table : TableIn) → HasBatch bytes table → bytes ≢ []
batch_some bytes table (inl has) = header_some bytes 3 table has
batch_some bytes table (inr (outer, has, is)) = header_some bytes 2 outer has

pub stands_some : (bytes : List ℕ) (e : IpcFault) → Stands bytes e → bytes ≢ []
stands_some bytes e (Faults.no_frame some none) = some
stands_some bytes e (Faults.no_body table after n has is short) = table_some bytes table after has
stands_some bytes e (Faults.bad_root metadata fault f is) = framed_some bytes metadata f
stands_some bytes e (Faults.bad_version table after fault has is) = table_some bytes table after has
stands_some bytes e (Faults.bad_kind table after fault has is) = table_some bytes table after has
stands_some bytes e (Faults.bad_header table after fault has is) = table_some bytes table after has
stands_some bytes e (Faults.bad_body_size table after fault has is) = table_some bytes table after has
stands_some bytes e (Faults.bad_id table fault has is) = header_some bytes 2 table has
stands_some bytes e (Faults.bad_data table fault has is) = header_some bytes 2 table has
stands_some bytes e (Faults.bad_delta table fault has is) = header_some bytes 2 table has
stands_some bytes e (Faults.bad_rows table fault has is) = batch_some bytes table has
stands_some bytes e (Faults.bad_nodes table fault has is) = batch_some bytes table has
stands_some bytes e (Faults.bad_places table fault has is) = batch_some bytes table has
stands_some bytes e (Faults.unknown_version table after version has is unknown) = table_some bytes table after has
stands_some bytes e (Faults.compressed table has some) = batch_some bytes table has
stands_some bytes e (Faults.negative_body table after n has is) = table_some bytes table after has
stands_some bytes e (Faults.negative_rows table n has is) = batch_some bytes table has
stands_some bytes e (Faults.outside table places n has body is bad) = batch_some bytes table has
stands_some bytes e (Faults.no_header table after has is) = table_some bytes table after has
stands_some bytes e (Faults.unknown_kind table after kind has is one two three) = table_some bytes table after has
stands_some bytes e (Faults.no_data table has is) = header_some bytes 2 table has
stands_some bytes e (Faults.bad_schema table refusal has is) = header_some bytes 1 table has
