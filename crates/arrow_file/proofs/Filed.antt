-- A finished file: its messages are at their blocks' offsets.
use Rattle.std.proofs.Common.{◌≡◌, ℕ, ◌+◌, ◌-◌, ◌≤◌, List, [], ◌∷◌, ◌++◌, length, take, drop, Ok, refl, sym, ap, ◌∙◌, subst, append_assoc, length-append, arith}
use Rattle.std.proofs.lemmas.List.{take_at, drop_at, append_cancel_left, append-nil}
use Rattle.byteorder.specs.Endian.{little_bytes}
use Rattle.lists.specs.EachAfter.{AllAfter}
use Rattle.flat_tables.proofs.Standing.{stands_later}
use Rattle.arrow_schema.specs.declared.spec.SchemaSpec.{SchemaSpec}
use Rattle.arrow_schema.specs.Readable.{IsReadable}
use Rattle.arrow_schema.specs.Writing.{IsSchemaTable}
use Rattle.arrow_ipc.specs.declared.messages.IpcMessage.{IpcMessage}
use Rattle.arrow_ipc.specs.declared.messages.IpcMessage.TheVariants.{Schema, Rows}
use Rattle.arrow_ipc.specs.Batches.{BatchIn}
use Rattle.arrow_ipc.specs.Messages.{IsMessage, kind_number}
use Rattle.arrow_ipc.specs.Written.{Appends, most_of_schema}
use Rattle.arrow_ipc.proofs.Appending.{message_more}
use Rattle.arrow_file.specs.Files.{magic, head, IsMessageAt, AreMessagesOf}
use Rattle.arrow_file.specs.Written.{WrittenBatch, written_blocks, messages_of, message_bytes, IsWrittenAt, HoldsBlocks, end_mark, IsWrittenFile}
use Rattle.arrow_file.specs.Writers.{WriterIn, StandsFor}
use Rattle.arrow_file.specs.Footers.{IsFooter}
use Rattle.arrow_file.proofs.RowsAdded.{message_bytes-push}

-- a message between other bytes
message_here : (bytes front m rest : List ℕ) (message : IpcMessage) → bytes ≡ front ++ (m ++ rest) → IsMessage m message (length m)
    → IsMessageAt bytes (kind_number message) (length front) m
message_here bytes front m rest message whole is =
    let dropped : drop (length front) bytes ≡ m ++ rest = ap (drop (length front)) whole ∙ drop_at front (m ++ rest) (length front) refl in
    record {
      reads = message;
      size = length m;
      is = subst (λ (b : List ℕ). IsMessage b message (length m)) (sym dropped) (message_more m rest message (length m) is);
      kind_is = refl;
      same = sym (ap (take (length m)) dropped ∙ take_at m rest (length m) refl);
    }

batches_here : (bytes start tail : List ℕ) (before rest : List WrittenBatch) (from : ℕ) → bytes ≡ (start ++ message_bytes before) ++ (message_bytes rest ++ tail)
    → AllAfter (λ before b. IsWrittenAt (length start + length (message_bytes before)) b) before rest → from ≤ length start + length (message_bytes before)
    → AreMessagesOf bytes 3 from (written_blocks rest) (messages_of rest)
batches_here bytes start tail before [] from whole all least = tt
batches_here bytes start tail before (b ∷ rest) from whole (here, all) least =
    let front : List ℕ = start ++ message_bytes before in
    let more : List ℕ = message_bytes rest ++ tail in
    let first : bytes ≡ front ++ (b.message ++ more) = whole ∙ ap (λ (end : List ℕ). front ++ end) (append_assoc b.message (message_bytes rest) tail) in
    let grown : start ++ message_bytes (before ++ b ∷ []) ≡ front ++ b.message =
    ap (λ (end : List ℕ). start ++ end) (message_bytes-push before b) ∙ sym (append_assoc start (message_bytes before) b.message) in
    let next : bytes ≡ (start ++ message_bytes (before ++ b ∷ [])) ++ more =
    first ∙ sym (append_assoc front b.message more) ∙ ap (λ (f : List ℕ). f ++ more) (sym grown) in (
      record {
        offset = length start + length (message_bytes before);
        named_is = here.offset_is;
        after = least;
        is = subst (λ (n : ℕ). IsMessageAt bytes 3 n b.message) (length-append start (message_bytes before)) (message_here bytes front b.message more (Rows b.batch) first here.laid.is);
      },
      batches_here bytes start tail (before ++ b ∷ []) rest (length start + length (message_bytes before) + length b.message) next all
          (omega (arith, ap length (message_bytes-push before b), length-append (message_bytes before) b.message)),
    )

-- the bytes after the messages
abbrev pub tail_of : List ℕ → List ℕ
tail_of footer = end_mark ++ (footer ++ (little_bytes 4 (length footer) ++ magic))

pub file_written : (w : WriterIn) (bytes footer : List ℕ) → IsFooter w.footer w.schema w.blocks footer → bytes ≡ w.bytes ++ tail_of footer
    → (spec : SchemaSpec) (batches : List BatchIn) → StandsFor spec batches w → IsWrittenFile spec batches bytes
file_written w bytes footer f finished spec batches s =
    let m : List ℕ = message_bytes s.written in
    let sw : List ℕ = s.schema.written in
    let t : IsSchemaTable spec footer (length footer - w.schema) = stands_later (IsSchemaTable spec) w.footer footer w.schema f.grows s.footer_has in
    let whole : bytes ≡ s.start ++ (m ++ tail_of footer) =
    finished ∙ ap (λ (b : List ℕ). b ++ tail_of footer) s.bytes_are ∙ append_assoc s.start m (tail_of footer) in
    let from_schema : bytes ≡ head ++ (sw ++ (m ++ tail_of footer)) =
    whole ∙ ap (λ (b : List ℕ). b ++ (m ++ tail_of footer)) s.schema.whole ∙ append_assoc head sw (m ++ tail_of footer) in
    let rest : List ℕ = footer ++ (little_bytes 4 (length footer) ++ magic) in
    let framed : bytes ≡ head ++ ((sw ++ (m ++ end_mark)) ++ rest) =
    from_schema ∙ ap (λ (end : List ℕ). head ++ end) (ap (λ (end : List ℕ). sw ++ end) (sym (append_assoc m end_mark rest)) ∙ sym (append_assoc sw (m ++ end_mark) rest)) in
    let says : IsReadable spec → IsMessage sw (Schema spec) (length sw) = λ readable.
    let r : Appends (Schema spec) (most_of_schema spec) head s.start = s.schema.reads readable in
    subst (λ (b : List ℕ). IsMessage b (Schema spec) (length b)) (append_cancel_left head r.written sw (sym r.whole ∙ s.schema.whole)) r.laid.is in
    record {
      start = s.start;
      schema = s.schema;
      written = s.written;
      batches_are = s.batches_are;
      each = s.each;
      footer = footer;
      footer_is = record {
        table = f.table;
        root = f.root;
        version = f.version;
        schema = t.table;
        has_schema = f.has_schema ∙ rw t.read refl;
        place = length footer - w.schema;
        here = t.read;
        writes = t.writes;
        says = t.says;
        dictionaries = f.dictionaries;
        batches = subst (HoldsBlocks f.table 3) s.blocks_are f.batches;
        padded = f.padded;
        zeros = f.zeros;
        aligned = f.aligned;
      };
      whole = whole;
      small = f.small;
      says = says;
      file = λ readable. record {
        dictionary_blocks = [];
        batch_blocks = written_blocks s.written;
        footer = record {
          footer = footer;
          framed = record { content = sw ++ (m ++ end_mark); whole = framed; small = f.small };
          table = f.table;
          root = f.root;
          dictionary_blocks = rw f.dictionaries.has (ap Ok f.dictionaries.holds);
          batch_blocks = rw f.batches.has (ap Ok (f.batches.holds ∙ s.blocks_are));
        };
        schema_at = message_here bytes head sw (m ++ tail_of footer) (Schema spec) from_schema (says readable);
        dictionaries_at = tt;
        batches_at = batches_here bytes s.start (tail_of footer) [] s.written (8 + length sw) (whole ∙ ap (λ (b : List ℕ). b ++ (m ++ tail_of footer)) (sym (append-nil s.start))) s.each
            (omega (arith, ap length s.schema.whole, length-append head sw));
      };
    }
