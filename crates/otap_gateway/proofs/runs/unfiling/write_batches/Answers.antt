use Rattle.std.proofs.Common.{◌∙◌, sym, ap}
use Rattle.std.specs.Option.{option_copied}
use Rattle.std.proofs.lemmas.Result.{err_from_is_err_and}
use Rattle.otap_gateway.proofs.UnfiledRuns.{first_part, fits_first, first_rest, then_later}
use Rattle.otap_gateway.proofs.runs.unfiling.write_batches.Goals as goal

pub write_frame-requires : goal.write_frame-requires
write_frame-requires g c =
    rw c.deref.ensures.value (fits_first c.args.kind c.args.file.now c.in-Some.rows.now _ c.requires (sym c.batch.ensures ∙ ap option_copied c.in-Some.is) c.in-Ok.ensures)

pub returns-in_err-write_frame-clause-writes : goal.returns-in_err-write_frame-clause-writes
returns-in_err-write_frame-clause-writes g c =
    let p = err_from_is_err_and c.from_residual.result c.from_residual.ensures.1 in
    let is = first_rest c.args.file.now.batches c.in-Some.rows.now (sym c.batch.ensures ∙ ap option_copied c.in-Some.is) in
    rw p.1 (first_part c.args.kind c.args.file.now c.in-Some.rows.now is.0 is.1 _ _ (rw (c.deref.ensures.value, c.in-Ok.ensures) at c.in_err-write_frame.ensures.front))

pub returns-clause-writes : goal.returns-clause-writes
returns-clause-writes g c =
    let is = first_rest c.args.file.now.batches c.in-Some.rows.now (sym c.batch.ensures ∙ ap option_copied c.in-Some.is) in
    then_later c.args.kind c.args.file.now c.in-Some.rows.now is.0 is.1 _ _ _ c.write_later.result (rw (c.deref.ensures.value, c.in-Ok.ensures) at c.in_ok-write_frame.ensures.whole) c.write_later.ensures.writes
