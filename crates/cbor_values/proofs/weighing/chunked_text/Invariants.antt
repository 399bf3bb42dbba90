use Rattle.std.proofs.Common.{length}
use Rattle.cbor_values.specs.Reading.{text_chunk_at, chunks_at}
use Rattle.cbor_values.proofs.Telling.{ChunksTold}
use Rattle.cbor_values.proofs.weighing.chunked_text.Given as goal

abbrev pub invariant-parts : goal.invariant-parts
invariant-parts l = ChunksTold text_chunk_at l.len l.rest (chunks_at text_chunk_at l.bytes)

abbrev pub decreases-parts : goal.decreases-parts
decreases-parts l = length l.rest
