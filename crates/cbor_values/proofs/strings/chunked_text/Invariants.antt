use Rattle.std.proofs.Common.{◌≡◌, length}
use Rattle.lists.proofs.AllBytes.{IsBytes}
use Rattle.cbor_values.specs.Reading.{open_at, text_chunk_at, chunks_at}
use Rattle.cbor_values.proofs.Loops.{with_text}
use Rattle.cbor_values.proofs.strings.chunked_text.Given as goal

abbrev pub invariant-parts : goal.invariant-parts
invariant-parts l = record {
  told : with_text l.text (open_at text_chunk_at l.rest) ≡ chunks_at text_chunk_at l.bytes;
  fits : IsBytes l.rest;
}

abbrev pub decreases-parts : goal.decreases-parts
decreases-parts l = length l.rest
