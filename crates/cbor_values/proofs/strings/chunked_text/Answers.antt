use Rattle.std.proofs.Common.{sym}
use Rattle.std.proofs.lemmas.Result.{err_from_is_err_and}
use Rattle.std.specs.Str.{IsUtf8}
use Rattle.cbor_values.specs.Reading.{text_chunk_at, chunks_at}
use Rattle.cbor_values.proofs.Again.{IsChunk, text_start}
use Rattle.cbor_values.proofs.ItemTakes.{text_reader}
use Rattle.cbor_values.proofs.Loops.{shorter, chunks_go_on, chunks_end, chunks_are_done}
use Rattle.cbor_values.proofs.strings.chunked_text.Goals as goal

pub returns-in-Some : goal.returns-in-Some
returns-in-Some c =
    chunks_are_done text_chunk_at c.parts.text c.parts.rest.now c.in-Some.after.now (chunks_at text_chunk_at c.args.bytes.now) (sym c.in-Some.ensures) c.parts.invariant.told

pub returns-in_err-letters : goal.returns-in_err-letters
returns-in_err-letters c =
    let p = err_from_is_err_and c.from_residual.result c.from_residual.ensures.1 in
    rw (p.1, p.2) (chunks_end text_chunk_at text_start c.in_err-letters.field-0.0 c.parts.text c.parts.rest.now (chunks_at text_chunk_at c.args.bytes.now)
    (sym c.in_default.ensures) c.in_err-letters.ensures.reads c.parts.invariant.told)

pub parts-smaller : goal.parts-smaller
parts-smaller c =
    (shorter (IsChunk 3 IsUtf8) text_chunk_at text_reader c.parts.rest.now c.in_ok-letters.letters.now c.in_ok-letters.after.now c.parts.invariant.fits c.in_ok-letters.ensures.reads).0

pub parts-preserved : goal.parts-preserved
parts-preserved c = record {
  told = rw c.in_ok-append_letters.ensures (chunks_go_on (IsChunk 3 IsUtf8) text_chunk_at text_reader c.parts.text c.parts.rest.now c.in_ok-letters.letters.now c.in_ok-letters.after.now
      (chunks_at text_chunk_at c.args.bytes.now) c.parts.invariant.fits (sym c.in_default.ensures) c.in_ok-letters.ensures.reads c.parts.invariant.told);
  fits = (shorter (IsChunk 3 IsUtf8) text_chunk_at text_reader c.parts.rest.now c.in_ok-letters.letters.now c.in_ok-letters.after.now c.parts.invariant.fits c.in_ok-letters.ensures.reads).1;
}
