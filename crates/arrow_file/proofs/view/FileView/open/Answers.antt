use Rattle.std.proofs.Common.{◌∙◌, inl, inr, sym, arith}
use Rattle.std.proofs.lemmas.Result.{err_from_is_err_and}
use Rattle.arrow_file.specs.Blocks.{blocks_of}
use Rattle.arrow_file.specs.Defects
use Rattle.arrow_file.proofs.Opening.{absent, read_vectors, unread_vectors}
use Rattle.arrow_file.proofs.view.FileView.open.Goals as goal

pub returns-then-bytes-gt-MAX_FILE-clause-refused : goal.returns-then-bytes-gt-MAX_FILE-clause-refused
returns-then-bytes-gt-MAX_FILE-clause-refused c = Defects.too_long (omega arith)

pub returns-in_err-vectors-clause-refused : goal.returns-in_err-vectors-clause-refused
returns-in_err-vectors-clause-refused c =
    let p = err_from_is_err_and c.from_residual-in_err-vectors.result c.from_residual-in_err-vectors.ensures.1 in
    rw (p.1, p.2) (unread_vectors c.args.bytes.now c.in_ok-footer.footer.now c.in_err-vectors.field-0.0 (omega arith) c.in_ok-footer.ensures.ok
    (sym c.vectors_of.ensures.value ∙ c.in_err-vectors.was))

pub returns-in_default-clause-refused : goal.returns-in_default-clause-refused
returns-in_default-clause-refused c =
    Defects.bad_schema (blocks_of c.in_ok-vectors.vectors.dictionaries) (blocks_of c.in_ok-vectors.vectors.batches) (omega arith)
    (read_vectors c.args.bytes.now c.in_ok-footer.footer.now c.in_ok-vectors.vectors c.in_ok-footer.ensures.ok (sym c.vectors_of.ensures.value ∙ c.in_ok-vectors.was))
    (absent c.in_ok-schema.field-0 _ c.in_default.not-Some c.in_ok-schema.ensures.none)

pub returns-in_default-2-clause-refused : goal.returns-in_default-2-clause-refused
returns-in_default-2-clause-refused c =
    Defects.bad_block c.in-Some.schema.now (blocks_of c.in_ok-vectors.vectors.dictionaries) (blocks_of c.in_ok-vectors.vectors.batches) (omega arith)
    (read_vectors c.args.bytes.now c.in_ok-footer.footer.now c.in_ok-vectors.vectors c.in_ok-footer.ensures.ok (sym c.vectors_of.ensures.value ∙ c.in_ok-vectors.was))
    (rw c.in-Some.is at c.in_ok-schema.ensures.some)
    (inl (absent c.in_ok-dictionaries.field-0 _ c.in_default-2.not-Some c.in_ok-dictionaries.ensures.none))

pub returns-in_default-3-clause-refused : goal.returns-in_default-3-clause-refused
returns-in_default-3-clause-refused c =
    Defects.bad_block c.in-Some.schema.now (blocks_of c.in_ok-vectors.vectors.dictionaries) (blocks_of c.in_ok-vectors.vectors.batches) (omega arith)
    (read_vectors c.args.bytes.now c.in_ok-footer.footer.now c.in_ok-vectors.vectors c.in_ok-footer.ensures.ok (sym c.vectors_of.ensures.value ∙ c.in_ok-vectors.was))
    (rw c.in-Some.is at c.in_ok-schema.ensures.some)
    (inr (absent c.in_ok-batches.field-0 _ c.in_default-3.not-Some c.in_ok-batches.ensures.none))

pub returns-clause-file : goal.returns-clause-file
returns-clause-file c = record {
  dictionary_blocks = blocks_of c.in_ok-vectors.vectors.dictionaries;
  batch_blocks = blocks_of c.in_ok-vectors.vectors.batches;
  footer = read_vectors c.args.bytes.now c.in_ok-footer.footer.now c.in_ok-vectors.vectors c.in_ok-footer.ensures.ok (sym c.vectors_of.ensures.value ∙ c.in_ok-vectors.was);
  schema_at = rw c.in-Some.is at c.in_ok-schema.ensures.some;
  dictionaries_at = rw c.in-Some-2.is at c.in_ok-dictionaries.ensures.some;
  batches_at = rw c.in-Some-3.is at c.in_ok-batches.ensures.some;
}
