use Rattle.std.proofs.Common.{rules, sym}
use Rattle.std.proofs.lemmas.Result.{err_from_is_err_and}
use Rattle.cbor_values.specs.Strings.{IsAny}
use Rattle.cbor_values.specs.Reading.{octets_chunk_at, chunks_at}
use Rattle.cbor_values.proofs.Again.{IsChunk, octets_start}
use Rattle.cbor_values.proofs.ItemTakes.{octets_reader}
use Rattle.cbor_values.proofs.Loops.{shorter}
use Rattle.cbor_values.proofs.Telling.{chunks_done, chunks_fail, chunks_more}
use Rattle.cbor_values.proofs.weighing.chunked_octets.Goals as goal

pub returns-in-Some : goal.returns-in-Some
returns-in-Some c =
    chunks_done octets_chunk_at c.parts.len c.parts.rest.now c.in-Some.after.now (chunks_at octets_chunk_at c.args.bytes.now) (sym c.in-Some.ensures) c.parts.invariant

pub returns-in_err-part : goal.returns-in_err-part
returns-in_err-part c =
    let p = err_from_is_err_and c.from_residual.result c.from_residual.ensures.1 in
    rw (p.1, p.2) (chunks_fail octets_chunk_at octets_start c.parts.len c.parts.rest.now (chunks_at octets_chunk_at c.args.bytes.now) c.in_err-part.field-0.0
    (sym c.in_default.ensures) c.parts.invariant c.in_err-part.ensures.exact)

pub parts-smaller : goal.parts-smaller
parts-smaller c =
    (shorter (IsChunk 2 IsAny) octets_chunk_at octets_reader c.parts.rest.now c.in_ok-part.part.now c.in_ok-part.after.now c.parts.invariant.fits c.in_ok-part.ensures.exact).0

pub parts-preserved : goal.parts-preserved
parts-preserved c =
    chunks_more (IsChunk 2 IsAny) octets_chunk_at octets_reader c.parts.len _ c.parts.rest.now c.in_ok-part.part.now c.in_ok-part.after.now (chunks_at octets_chunk_at c.args.bytes.now)
    (sym c.in_default.ensures) c.parts.invariant c.in_ok-part.ensures.exact (search rules)
