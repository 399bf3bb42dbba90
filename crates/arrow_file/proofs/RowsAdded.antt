-- A writer after one more record batch.
use Rattle.std.proofs.Common.{◌≡◌, ℕ, ◌+◌, List, [], ◌∷◌, ◌++◌, length, sym, ap, ◌∙◌, subst, append_assoc, length-append, arith}
use Rattle.std.proofs.lemmas.List.{map-append, append-nil}
use Rattle.std.proofs.lemmas.Grind.{flat_map-append}
use Rattle.lists.proofs.Growing.{all_after-push}
use Rattle.flat_tables.specs.Building.{StaysAt}
use Rattle.arrow_schema.specs.Writing.{IsSchemaTable}
use Rattle.arrow_ipc.specs.Batches.{BatchIn}
use Rattle.arrow_file.specs.declared.block.Block.{Block}
use Rattle.arrow_file.specs.Written.{WrittenBatch, message_bytes, IsWrittenAt}
use Rattle.arrow_file.specs.Writers.{WriterIn, AddsRows}
use Rattle.arrow_file.specs.BlockBytes.{AppendsRows}

pub message_bytes-push : (written : List WrittenBatch) (b : WrittenBatch) → message_bytes (written ++ b ∷ []) ≡ message_bytes written ++ b.message
message_bytes-push written b = flat_map-append (λ b. b.message) written (b ∷ []) ∙ ap (λ (end : List ℕ). message_bytes written ++ end) (append-nil b.message)

pub rows_added : (batch : BatchIn) (old new : WriterIn) (block : Block) → AppendsRows batch old.bytes new.bytes block → new.blocks ≡ old.blocks ++ block ∷ []
    → new.footer ≡ old.footer → new.schema ≡ old.schema → AddsRows batch old new
rows_added batch old new block a blocks footer schema = record {
  count = omega (arith, ap length blocks, length-append old.blocks (block ∷ []));
  stands = λ spec batches s.
      let w : WrittenBatch = record { batch = batch; message = a.message; block = block } in
      let at : length old.bytes ≡ length s.start + length (message_bytes s.written) = ap length s.bytes_are ∙ length-append s.start (message_bytes s.written) in
      record {
        start = s.start;
        schema = s.schema;
        written = s.written ++ w ∷ [];
        batches_are = map-append (λ b. b.batch) s.written (w ∷ []) ∙ ap (λ (bs : List BatchIn). bs ++ batch ∷ []) s.batches_are;
        each = all_after-push (λ before b. IsWrittenAt (length s.start + length (message_bytes before)) b) [] s.written w s.each
            (subst (λ (n : ℕ). IsWrittenAt n w) at (a.is s.even));
        bytes_are = a.whole ∙ ap (λ (b : List ℕ). b ++ a.message) s.bytes_are ∙ append_assoc s.start (message_bytes s.written) a.message
            ∙ ap (λ (end : List ℕ). s.start ++ end) (sym (message_bytes-push s.written w));
        even = omega (arith, ap length a.whole, length-append old.bytes a.message, s.even, a.even);
        blocks_are = blocks ∙ ap (λ (b : List Block). b ++ block ∷ []) s.blocks_are ∙ sym (map-append (λ b. b.block) s.written (w ∷ []));
        footer_has = subst (λ (f : List ℕ). StaysAt (IsSchemaTable spec) f new.schema) (sym footer)
            (subst (StaysAt (IsSchemaTable spec) old.footer) (sym schema) s.footer_has);
      };
}
