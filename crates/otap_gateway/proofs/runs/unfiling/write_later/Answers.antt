use Rattle.std.proofs.Common.{◌∙◌, sym, ap, arith}
use Rattle.std.specs.Option.{option_copied}
use Rattle.std.proofs.lemmas.Result.{err_from_is_err_and}
use Rattle.otap_gateway.proofs.UnfiledRuns.{fits_later, next_rows, written_more, written_part}
use Rattle.otap_gateway.proofs.runs.unfiling.write_later.Goals as goal

pub write_frame-requires : goal.write_frame-requires
write_frame-requires g c =
    rw c.deref.ensures.value (fits_later c.args.kind c.args.file.now c.batches.place c.in-Some.rows.now _ c.requires (omega arith) (sym c.batch.ensures ∙ ap option_copied c.in-Some.is) c.in-Ok.ensures)

pub returns-in_err-write_frame-clause-writes : goal.returns-in_err-write_frame-clause-writes
returns-in_err-write_frame-clause-writes g c =
    let p = err_from_is_err_and c.from_residual.result c.from_residual.ensures.1 in
    let here = next_rows c.args.file.now.batches c.batches.place c.in-Some.rows.now (sym c.batch.ensures ∙ ap option_copied c.in-Some.is) in
    rw p.1 (written_part c.args.kind c.args.file.now c.batches.place c.in-Some.rows.now _ _ _ c.batches.invariant.so_far here
    (rw (c.deref.ensures.value, c.in-Ok.ensures) at c.in_err-write_frame.ensures.front))

pub batches-preserved : goal.batches-preserved
batches-preserved g c =
    let here = next_rows c.args.file.now.batches c.batches.place c.in-Some.rows.now (sym c.batch.ensures ∙ ap option_copied c.in-Some.is) in
    record {
      so_far = written_more c.args.kind c.args.file.now.batches c.batches.place c.in-Some.rows.now _ _ _ c.batches.invariant.so_far here
          (rw (c.deref.ensures.value, c.in-Ok.ensures) at c.in_ok-write_frame.ensures.whole);
      faults = c.in_ok-write_frame.ensures.count ∙ c.batches.invariant.faults;
    }
