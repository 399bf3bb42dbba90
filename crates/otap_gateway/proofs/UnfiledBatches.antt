-- The batches of a file: how they are encoded, and that they fit frames.
use Rattle.std.proofs.Common.{◌≡◌, ℕ, ◌+◌, ◌*◌, ◌<◌, ◌≤◌, ◌^◌, suc, Bool, true, false, List, [], ◌∷◌, ◌++◌, length, take, drop, Result, Ok, Err, OnOk, ℤ, pos, ap, ◌∙◌, append-nil, length-append, arith}
use Rattle.std.specs.Prelude.{All, slice_index_or, codes, if◌then◌else◌, ◌==◌}
use Rattle.std.specs.Int.{w64, cast_unsigned}
use Rattle.std.specs.List.{flat_map}
use Rattle.std.proofs.lemmas.List.{take_all, drop_all}
use Rattle.std.proofs.lemmas.List.Elements.{All-nil, All-cons}
use Rattle.otlp_wire.specs.Varint.{varint}
use Rattle.otlp_wire.specs.Wire.{Varint, Bytes}
use Rattle.otlp_wire.proofs.Shortest.{length_varint}
use Rattle.otlp_messages.specs.Canon.{bytes_row, canon_row, signed_row}
use Rattle.otap_capture.specs.Batch.{canon_batch, canon_payload}
use Rattle.otap_cells.specs.declared.payload.Kind.{Kind}
use Rattle.otap_cells.specs.Payload.{number_of}
use Rattle.otap_cells.proofs.KindsApart.{number_small}
use Rattle.arrow_file.specs.declared.block.Block.{Block}
use Rattle.arrow_file.specs.Files.{AreMessagesOf, File}
use Rattle.arrow_file.specs.Limits.{max_file}
use Rattle.arrow_file.specs.Views.{FileIn}
use Rattle.arrow_file.proofs.Finding.{length_at}
use Rattle.otap_gateway.specs.Unfiling.{batch_of}
use Rattle.otap_gateway.specs.UnfilingSteps.{FitsFrames}

pub on_ok : {T E P Q : Type 0} (r : Result T E) → (P → Q) → OnOk r P → OnOk r Q
on_ok (Ok x) f h = f h
on_ok (Err e) f h = tt

-- a record that is closed field by field
pub closed : (kind : Kind) (id : ℕ) (k i : ℤ) (bytes a b c d e : List ℕ) (n m : ℕ) → n ≡ length bytes → a ≡ canon_row 3 (bytes_row (take n bytes)) ++ drop n bytes
    → k ≡ pos (number_of kind) → b ≡ canon_row 2 (signed_row k) ++ a → c ≡ canon_row 1 (bytes_row (codes "0")) ++ b → m ≡ length c
    → d ≡ canon_row 2 (Bytes (take m c) ∷ []) ++ drop m c → i ≡ pos id → e ≡ canon_row 1 (signed_row i) ++ d → e ≡ canon_batch (batch_of kind id bytes)
unfolding canon_batch canon_payload
closed kind id k i bytes a b c d e n m long first number second third long' fourth same fifth =
    let record_is : a ≡ canon_row 3 (bytes_row bytes) ++ [] = first ∙ (λ j. canon_row 3 (bytes_row (whole j)) ++ none j) in
    let payload : c ≡ canon_payload (record { schema_id = codes "0"; kind = pos (number_of kind); bytes = bytes }) =
    third ∙ ap (λ l. canon_row 1 (bytes_row (codes "0")) ++ l) (second ∙ (λ j. canon_row 2 (signed_row (number j)) ++ record_is j)) in
    let message : d ≡ canon_row 2 (Bytes c ∷ []) ++ [] = fourth ∙ (λ j. canon_row 2 (Bytes (whole' j) ∷ []) ++ none' j) in
    fifth ∙ (λ j. canon_row 1 (signed_row (same j)) ++ (message ∙ ap (λ l. canon_row 2 (Bytes l ∷ []) ++ []) payload) j)
  where
    whole : take n bytes ≡ bytes
    whole = take_all n bytes (omega (arith, long))

    none : drop n bytes ≡ []
    none = drop_all n bytes (omega (arith, long))

    whole' : take m c ≡ c
    whole' = take_all m c (omega (arith, long'))

    none' : drop m c ≡ []
    none' = drop_all m c (omega (arith, long'))

-- ---- how long a batch is

bytes_most : (n k : ℕ) (part : List ℕ) → 8 * n + 2 < 128 → length part < 128 ^ suc k → length (canon_row n (Bytes part ∷ [])) ≤ 2 + k + length part
bytes_most n k part low small =
    let tag = length_varint 0 (8 * n + 2) (omega (arith, low)) in
    let len = length_varint k (length part) small in
    omega (arith, tag, len, length-append (varint (8 * n + 2)) (varint (length part) ++ part), length-append (varint (length part)) part, ap length (append-nil (varint (8 * n + 2) ++ (varint (length part) ++ part))))

row_most : (n k : ℕ) (part : List ℕ) → 8 * n + 2 < 128 → length part < 128 ^ suc k → length (canon_row n (bytes_row part)) ≤ 2 + k + length part
row_most n k [] low small = omega arith
row_most n k (b ∷ part) low small = bytes_most n k (b ∷ part) low small

number_most : (n k x : ℕ) (b : Bool) → 8 * n + 0 < 128 → x < 128 ^ suc k → length (canon_row n (if b then [] else Varint x ∷ [])) ≤ 2 + k
number_most n k x true low small = omega arith
number_most n k x false low small =
    let tag = length_varint 0 (8 * n + 0) (omega (arith, low)) in
    let value = length_varint k x small in
    omega (arith, tag, value, length-append (varint (8 * n + 0)) (varint x), ap length (append-nil (varint (8 * n + 0) ++ varint x)))

pub message_most : (kind : Kind) (id : ℕ) (bytes : List ℕ) → id < 2 ^ 32 → length bytes < 2 ^ 30 → length (canon_batch (batch_of kind id bytes)) ≤ length bytes + 23
unfolding canon_batch canon_payload
message_most kind id bytes few small =
    let p = canon_payload (record { schema_id = codes "0"; kind = pos (number_of kind); bytes = bytes }) in
    let name = canon_row 1 (bytes_row (codes "0")) in
    let number = canon_row 2 (signed_row (pos (number_of kind))) in
    let data_row = canon_row 3 (bytes_row bytes) in
    let first = canon_row 1 (signed_row (pos id)) in
    let second = canon_row 2 (Bytes p ∷ []) in
    let kinds = number_small kind in
    let a = row_most 1 0 (codes "0") (omega arith) (omega arith) in
    let b = number_most 2 0 (cast_unsigned w64 (pos (number_of kind))) (cast_unsigned w64 (pos (number_of kind)) == 0) (omega arith) (omega (arith, kinds)) in
    let c = row_most 3 4 bytes (omega arith) (omega (arith, small)) in
    let whole : length p ≤ length bytes + 11 = omega (arith, a, b, c, length-append name (number ++ (data_row ++ [])), length-append number (data_row ++ []), length-append data_row []) in
    let d = bytes_most 2 4 p (omega arith) (omega (arith, whole, small)) in
    let e = number_most 1 4 (cast_unsigned w64 (pos id)) (cast_unsigned w64 (pos id) == 0) (omega arith) (omega (arith, few)) in
    omega (arith, whole, d, e, length-append first (second ++ []), length-append second [])

-- ---- the messages of a file fit in it

messages_fit : (bytes : List ℕ) (kind from : ℕ) (blocks : List Block) (messages : List (List ℕ)) → AreMessagesOf bytes kind from blocks messages → from ≤ length bytes
    → from + length (flat_map (λ m. m) messages) ≤ length bytes
messages_fit bytes kind from [] [] are inside = omega (arith, inside)
messages_fit bytes kind from [] (m ∷ messages) are inside = absurd are
messages_fit bytes kind from (b ∷ blocks) [] are inside = absurd are
messages_fit bytes kind from (b ∷ blocks) (m ∷ messages) are inside =
    let first = are.0 in
    let after = first.after in
    let here = (length_at bytes kind first.offset m first.is).1 in
    let rest = messages_fit bytes kind (first.offset + length m) blocks messages are.1 here in
    omega (arith, after, rest, length-append m (flat_map (λ m. m) messages))

each_fits : (bytes : List ℕ) (kind from : ℕ) (blocks : List Block) (messages : List (List ℕ)) → AreMessagesOf bytes kind from blocks messages → All (λ m. from + length m ≤ length bytes) messages
each_fits bytes kind from [] [] are = All-nil (λ m. from + length m ≤ length bytes)
each_fits bytes kind from [] (m ∷ messages) are = absurd are
each_fits bytes kind from (b ∷ blocks) [] are = absurd are
each_fits bytes kind from (b ∷ blocks) (m ∷ messages) are =
    let first = are.0 in
    let after = first.after in
    let here = (length_at bytes kind first.offset m first.is).1 in
    All-cons (λ x. from + length x ≤ length bytes) m messages (omega (arith, after, here))
    (all_of (λ x. first.offset + length m + length x ≤ length bytes) (λ x. from + length x ≤ length bytes) (λ x h. omega (arith, after, h)) messages
    (each_fits bytes kind (first.offset + length m) blocks messages are.1))
  where
    all_of : (P Q : List ℕ → Type 0) → ((x : List ℕ) → P x → Q x) → (xs : List (List ℕ)) → All P xs → All Q xs
    all_of P Q weaker xs all = λ k d within. weaker (slice_index_or xs k d) (all k d within)

pub frames_fit : (bytes : List ℕ) (file : FileIn) → length bytes ≤ max_file → File bytes file.schema file.dictionaries file.batches → FitsFrames file
frames_fit bytes file short f =
    let schema = (length_at bytes 1 8 file.schema f.schema_at) in
    let size = f.schema_at.is.ends in
    let dictionaries = messages_fit bytes 2 (8 + length file.schema) f.dictionary_blocks file.dictionaries f.dictionaries_at schema.1 in
    λ k d within.
    let row = slice_index_or file.batches k d in
    let all = flat_map (λ (m : List ℕ). m) file.dictionaries in
    let rows = each_fits bytes 3 (8 + length file.schema) f.batch_blocks file.batches f.batches_at k d within in
    let long = schema.0 in
    let inside = schema.1 in
    omega (arith, short, long, inside, size, dictionaries, rows, length-append file.schema (all ++ row), length-append all row)
