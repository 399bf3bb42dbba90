-- What is written of a batch is read back as the batch.
use Rattle.std.proofs.Common.{◌≡◌, ℕ, ◌<◌, ◌^◌, List, [], ◌∷◌, ◌++◌, length, append_assoc, append-nil, ℤ, pos, refl, sym, ap, ◌∙◌, subst, arith}
use Rattle.std.specs.Prelude.{map, fold}
use Rattle.std.specs.Prelude.{FitsSigned}
use Rattle.std.specs.List.{AllByRecursion}
use Rattle.std.proofs.lemmas.List.{length-append, map-append}
use Rattle.std.proofs.lemmas.Grind.{flat_map-append}
use Rattle.otlp_messages.specs.declared.messages.Message.TheVariants.{BatchArrowRecords, ArrowPayload}
use Rattle.otlp_wire.specs.Wire.{Bytes, spelling}
use Rattle.otlp_wire.specs.Varint.{varint}
use Rattle.otlp_messages.specs.Defects.{IsFine}
use Rattle.otlp_messages.specs.Rows.{said, int32_in, int64_in, bytes_in, parts_of}
use Rattle.otlp_messages.specs.Canon.{signed_row, bytes_row, many_row, canon_row, canon, IsReadBack}
use Rattle.otlp_messages.proofs.Canonical.{rows_read}
use Rattle.otlp_messages.proofs.RowKinds.{part_fits, signed_fits, many_fits, bytes_back, int32_back, int64_back, short_parts, parts_of-many_row}
use Rattle.otap_capture.specs.Batch.{BatchContent, payload_in, payloads_in, batch_content, ReadsBatch, payload_rows, canon_payload, batch_rows, canon_batch, IsRealPayload, IsRealBatch}
use Rattle.otap_capture.specs.BatchWriting.{with_payload}
use Rattle.otap_capture.specs.BatchScanning.{fields_of_payload}
use Rattle.std.specs.Int.{w32, w64, cast_signed, cast_unsigned}
use Rattle.std.proofs.lemmas.Int.{to_z-of_z}
use Rattle.lists.proofs.Every.{every_append, map_back}
use Rattle.lists.specs.Payloads.{PayloadIn}
use Rattle.lists.proofs.Numbers.{wider}

pub canon_payload_is : (schema_id : List ℕ) (kind : ℤ) (bytes : List ℕ) → canon_payload (record { schema_id = schema_id; kind = kind; bytes = bytes }) ≡ fields_of_payload schema_id kind bytes
unfolding canon_payload
canon_payload_is schema_id kind bytes = ap (λ s. canon_row 1 (bytes_row schema_id) ++ (canon_row 2 (signed_row kind) ++ s)) (append-nil (canon_row 3 (bytes_row bytes)))

-- a payload that is written reads back
payload_read : (p : PayloadIn) → IsRealPayload p → length (canon_payload p) < 2 ^ 64 → IsReadBack ArrowPayload 0 (payload_rows p)
unfolding canon_payload
payload_read p real small =
    rows_read ArrowPayload 0 (payload_rows p) refl (
      part_fits ArrowPayload 0 1 p.schema_id (λ _. real.schema_id),
      (
        signed_fits ArrowPayload 0 2 p.kind refl (wider p.kind real.kind),
        (part_fits ArrowPayload 0 3 p.bytes (λ _. tt), tt),
      ),
    ) small

payload_fine : (p : PayloadIn) → IsRealPayload p → length (canon_payload p) < 2 ^ 64 → IsFine ArrowPayload 0 (canon_payload p)
unfolding canon_payload
payload_fine p real small = (payload_read p real small).fine

payload_back : (p : PayloadIn) → IsRealPayload p → length (canon_payload p) < 2 ^ 64 → payload_in (canon_payload p) ≡ p
unfolding canon_payload
payload_back p real small =
    let read = payload_read p real small in
    let e1 : said 1 bytes_in [] (canon (payload_rows p)) ≡ p.schema_id = ap (fold bytes_in []) (read.only 1) ∙ bytes_back p.schema_id in
    let e2 : said 2 int32_in (pos 0) (canon (payload_rows p)) ≡ p.kind = ap (fold int32_in (pos 0)) (read.only 2) ∙ int32_back p.kind real.kind in
    let e3 : said 3 bytes_in [] (canon (payload_rows p)) ≡ p.bytes = ap (fold bytes_in []) (read.only 3) ∙ bytes_back p.bytes in
    λ i. record { schema_id = e1 i; kind = e2 i; bytes = e3 i }

-- and so do those of a batch
all_fine : (ps : List PayloadIn) → AllByRecursion IsRealPayload ps
    → AllByRecursion (λ part. length part < 2 ^ 64 → IsFine ArrowPayload 0 part) (map canon_payload ps)
all_fine [] real = tt
all_fine (p ∷ ps) real = (payload_fine p real.0, all_fine ps real.1)

all_back : (ps : List PayloadIn) → AllByRecursion IsRealPayload ps → AllByRecursion (λ part. length part < 2 ^ 64) (map canon_payload ps)
    → AllByRecursion (λ p. payload_in (canon_payload p) ≡ p) ps
all_back [] real small = tt
all_back (p ∷ ps) real small = (payload_back p real.0 small.0, all_back ps real.1 small.1)

pub batch_back : (b : BatchContent) → IsRealBatch b → length (canon_batch b) < 2 ^ 64 → ReadsBatch (canon_batch b) b
unfolding canon_batch
batch_back b real small =
    let parts = map canon_payload b.payloads in
    let read = rows_read BatchArrowRecords 0 (batch_rows b) refl (
      signed_fits BatchArrowRecords 0 1 b.id refl real.id,
      (many_fits BatchArrowRecords 0 2 parts refl (all_fine b.payloads real.payloads), tt),
    ) small in
    let size = length-append (canon_row 1 (signed_row b.id)) (canon_row 2 (many_row parts) ++ []) in
    let last = append-nil (canon_row 2 (many_row parts)) in
    let parts_small = short_parts 2 parts (omega (arith, size, ap length last)) in
    let id : said 1 int64_in (pos 0) (canon (batch_rows b)) ≡ b.id = ap (fold int64_in (pos 0)) (read.only 1) ∙ int64_back b.id real.id in
    let payloads : payloads_in (canon (batch_rows b)) ≡ b.payloads =
    ap (λ vs. map payload_in (parts_of vs)) (read.only 2) ∙ ap (map payload_in) (parts_of-many_row parts)
    ∙ map_back payload_in canon_payload b.payloads (all_back b.payloads real.payloads parts_small) in
    let same : batch_content (canon (batch_rows b)) ≡ b = λ i. record { id = id i; payloads = payloads i } in
    (read.fine, sym same)

-- a number of 32 bits, as it is passed on
pub as_given : (given z : ℤ) → z ≡ cast_signed w32 (cast_unsigned w32 given) → FitsSigned w32 given → cast_signed w64 (cast_unsigned w64 z) ≡ given
as_given given z is fits = ap (λ y. cast_signed w64 (cast_unsigned w64 y)) (is ∙ to_z-of_z w32 given fits) ∙ to_z-of_z w64 given (wider given fits)

-- bytes after bytes
pub three_appended : (old x y z a b c : List ℕ) → x ≡ old ++ a → y ≡ x ++ b → z ≡ y ++ c → z ≡ old ++ (a ++ (b ++ c))
three_appended old x y z a b c first second third = rw (third, second, first) (simp append_assoc)

pub payload_appended : (old x y z : List ℕ) (n : ℕ) (schema_id : List ℕ) (kind : ℤ) (bytes : List ℕ) → x ≡ old ++ varint 18 → y ≡ x ++ varint n
    → z ≡ y ++ fields_of_payload schema_id kind bytes → n ≡ length (fields_of_payload schema_id kind bytes)
    → z ≡ old ++ canon_row 2 (Bytes (canon_payload (record { schema_id = schema_id; kind = kind; bytes = bytes })) ∷ [])
payload_appended old x y z n schema_id kind bytes first second third len =
    let fields = fields_of_payload schema_id kind bytes in
    let p : PayloadIn = record { schema_id = schema_id; kind = kind; bytes = bytes } in
    let is = canon_payload_is schema_id kind bytes in
    three_appended old x y z (varint 18) (varint n) fields first second third
    ∙ ap (λ s. old ++ (varint 18 ++ s)) (ap (λ k. varint k ++ fields) (len ∙ ap length (sym is)) ∙ ap (λ s. varint (length (canon_payload p)) ++ s) (sym is))
    ∙ ap (λ s. old ++ s) (sym (append-nil (varint 18 ++ (varint (length (canon_payload p)) ++ canon_payload p))))

-- bytes that are the canonical spelling of a batch are read as it
pub record AreWritten (bytes : List ℕ) (b : BatchContent) : Type 0 where
  pub read : batch_content bytes ≡ b
  pub real : IsRealBatch (batch_content bytes)
  pub canonical : bytes ≡ canon_batch (batch_content bytes)

pub written : (bytes : List ℕ) (b : BatchContent) → IsRealBatch b → bytes ≡ canon_batch b → length bytes < 2 ^ 64 → AreWritten bytes b
written bytes b real is small =
    let read : batch_content bytes ≡ b = ap batch_content is ∙ sym (batch_back b real (rw is at small)).1 in
    record { read = read; real = subst IsRealBatch (sym read) real; canonical = is ∙ ap canon_batch (sym read) }

-- a batch without payloads, and one more payload
pub written_first : (bytes : List ℕ) (id : ℤ) → FitsSigned w64 id → bytes ≡ canon_row 1 (signed_row id) → length bytes < 2 ^ 64 → AreWritten bytes (record { id = id; payloads = [] })
unfolding canon_batch
written_first bytes id fits is small =
    written bytes (record { id = id; payloads = [] }) (record { id = fits; payloads = tt }) (is ∙ sym (append-nil (canon_row 1 (signed_row id)))) small

canon_more : (b : BatchContent) (p : PayloadIn) → canon_batch b ++ canon_row 2 (Bytes (canon_payload p) ∷ []) ≡ canon_batch (with_payload b p)
unfolding canon_batch
canon_more b p =
    let front = canon_row 1 (signed_row b.id) in
    let rows = canon_row 2 (many_row (map canon_payload b.payloads)) in
    let last = canon_row 2 (Bytes (canon_payload p) ∷ []) in
    let values : many_row (map canon_payload (b.payloads ++ p ∷ [])) ≡ many_row (map canon_payload b.payloads) ++ Bytes (canon_payload p) ∷ [] =
    ap many_row (map-append canon_payload b.payloads (p ∷ [])) ∙ map-append (λ part. Bytes part) (map canon_payload b.payloads) (canon_payload p ∷ []) in
    let more : canon_row 2 (many_row (map canon_payload (b.payloads ++ p ∷ []))) ≡ rows ++ last =
    ap (canon_row 2) values ∙ flat_map-append (λ v. spelling (record { number = 2; value = v })) (many_row (map canon_payload b.payloads)) (Bytes (canon_payload p) ∷ []) in
    append_assoc front (rows ++ []) last ∙ ap (λ s. front ++ (s ++ last)) (append-nil rows)
    ∙ ap (λ s. front ++ s) (sym (append-nil (rows ++ last)) ∙ ap (λ s. s ++ []) (sym more))

pub written_more : (old bytes : List ℕ) (b : BatchContent) (p : PayloadIn) → AreWritten old b → IsRealPayload p
    → bytes ≡ old ++ canon_row 2 (Bytes (canon_payload p) ∷ []) → length bytes < 2 ^ 64 → AreWritten bytes (with_payload b p)
written_more old bytes b p h real is small =
    let reals = subst IsRealBatch h.read h.real in
    written bytes (with_payload b p) (record { id = reals.id; payloads = every_append IsRealPayload b.payloads (p ∷ []) reals.payloads (real, tt) })
    (is ∙ ap (λ s. s ++ canon_row 2 (Bytes (canon_payload p) ∷ [])) (h.canonical ∙ ap canon_batch h.read) ∙ canon_more b p) small
