use Rattle.std.proofs.Common.{ℕ, ◌+◌, refl, ap, ◌∙◌}
use Rattle.arrow_arrays.specs.Found.{bytes_at, value_by_buffers}
use Rattle.arrow_arrays.proofs.Finding.{finds}
use Rattle.arrow_arrays.proofs.found.own_column.Goals as goal

pub returns : goal.returns
returns c =
    let batch = c.args.batch.now in
    let place = c.args.place in
    finds batch place _ c.requires (record {
      rows = c.rows_at.ensures;
      own = c.bytes_at.ensures ∙ ap (bytes_at batch) c.from-first.ensures;
      above = refl;
      top = refl;
      stored = λ row. c.stored_at.ensures row ∙ ap (λ (first : ℕ). value_by_buffers batch (first + 1) place.layout row) c.from-first.ensures;
    })
