-- How long the canonical spelling of a batch is at most.
use Rattle.std.proofs.Common.{ℕ, ◌+◌, ◌*◌, ◌<◌, ◌≤◌, ◌^◌, Bool, true, false, List, [], ◌∷◌, ◌++◌, length, ℤ, ap, arith, append-nil, length-append}
use Rattle.std.specs.Prelude.{map, FitsSigned, ◌==◌, if◌then◌else◌}
use Rattle.std.specs.Int.{w64, cast_unsigned}
use Rattle.std.specs.List.{AllByRecursion}
use Rattle.lists.specs.Payloads.{PayloadIn}
use Rattle.lists.proofs.Numbers.{wider, unsigned_small}
use Rattle.otlp_wire.specs.Limits.{number_limit}
use Rattle.otlp_wire.specs.Varint.{varint}
use Rattle.otlp_wire.specs.Wire.{Varint}
use Rattle.otlp_wire.proofs.Shortest.{ten_at_most}
use Rattle.otlp_messages.specs.Canon.{bytes_row, canon_row, many_row, signed_row}
use Rattle.otap_capture.specs.Batch.{BatchContent, IsRealBatch, IsRealPayload, canon_batch, canon_payload}
use Rattle.otap_produce.specs.Sizes.{size_of}

part_most : (n : ℕ) (part : List ℕ) → n < number_limit → length part < 2 ^ 64 → length (varint (8 * n + 2) ++ (varint (length part) ++ part)) ≤ 20 + length part
part_most n part low small =
    let tag = ten_at_most (8 * n + 2) (omega (arith, low)) in
    let len = ten_at_most (length part) small in
    omega (arith, tag, len, length-append (varint (8 * n + 2)) (varint (length part) ++ part), length-append (varint (length part)) part)

bytes_most : (n : ℕ) (part : List ℕ) → n < number_limit → length part < 2 ^ 64 → length (canon_row n (bytes_row part)) ≤ 20 + length part
bytes_most n [] low small = omega arith
bytes_most n (b ∷ bytes) low small =
    let part = b ∷ bytes in
    let one = varint (8 * n + 2) ++ (varint (length part) ++ part) in
    omega (arith, part_most n part low small, ap length (append-nil one))

number_most : (n x : ℕ) (b : Bool) → n < number_limit → x < 2 ^ 64 → length (canon_row n (if b then [] else Varint x ∷ [])) ≤ 20
number_most n x true low small = omega arith
number_most n x false low small =
    let tag = ten_at_most (8 * n + 0) (omega (arith, low)) in
    let value = ten_at_most x small in
    omega (arith, tag, value, length-append (varint (8 * n + 0)) (varint x), ap length (append-nil (varint (8 * n + 0) ++ varint x)))

signed_most : (n : ℕ) (z : ℤ) → n < number_limit → FitsSigned w64 z → length (canon_row n (signed_row z)) ≤ 20
signed_most n z low fits = number_most n (cast_unsigned w64 z) (cast_unsigned w64 z == 0) low (unsigned_small z fits)

payload_most : (p : PayloadIn) → IsRealPayload p → length p.schema_id + length p.bytes < 2 ^ 60 → length (canon_payload p) ≤ 60 + (length p.schema_id + length p.bytes)
unfolding canon_payload
payload_most p real small =
    let one = canon_row 1 (bytes_row p.schema_id) in
    let two = canon_row 2 (signed_row p.kind) in
    let three = canon_row 3 (bytes_row p.bytes) in
    omega (
      arith,
      bytes_most 1 p.schema_id (omega arith) (omega (arith, small)),
      signed_most 2 p.kind (omega arith) (wider p.kind real.kind),
      bytes_most 3 p.bytes (omega arith) (omega (arith, small)),
      length-append one (two ++ (three ++ [])),
      length-append two (three ++ []),
      length-append three [],
    )

parts_most : (ps : List PayloadIn) → AllByRecursion IsRealPayload ps → size_of ps < 2 ^ 60 → length (canon_row 2 (many_row (map canon_payload ps))) ≤ 80 * length ps + size_of ps
parts_most [] real small = omega arith
parts_most (p ∷ ps) real small =
    let first = payload_most p real.0 (omega (arith, small)) in
    let rest = parts_most ps real.1 (omega (arith, small)) in
    let part = canon_payload p in
    let field = part_most 2 part (omega arith) (omega (arith, first, small)) in
    omega (arith, first, rest, field, length-append (varint (8 * 2 + 2) ++ (varint (length part) ++ part)) (canon_row 2 (many_row (map canon_payload ps))))

pub batch_most : (b : BatchContent) → IsRealBatch b → size_of b.payloads < 2 ^ 60 → length (canon_batch b) ≤ 20 + 80 * length b.payloads + size_of b.payloads
unfolding canon_batch
batch_most b real small =
    let one = canon_row 1 (signed_row b.id) in
    let two = canon_row 2 (many_row (map canon_payload b.payloads)) in
    omega (arith, signed_most 1 b.id (omega arith) real.id, parts_most b.payloads real.payloads small, length-append one (two ++ []), length-append two [])
