use Rattle.std.proofs.Common.{◌≡◌, ◌++◌, ℕ, List, Option, length, sym, ap, ◌∙◌, subst, arith, length-append}
use Rattle.std.specs.Prelude.{map, IfSome}
use Rattle.arrow_arrays.specs.Layouts.{FitsLayout}
use Rattle.std.specs.List.{range_with_len}
use Rattle.std.proofs.lemmas.List.FromFn.{length-map-range_with_len}
use Rattle.arrow_arrays.specs.Cells.{own_cell}
use Rattle.otap_columns.specs.Dictionaries.{DictionaryIn, values_of}
use Rattle.otap_columns.proofs.Appending.{one_more_value, fits_one_more}
use Rattle.otap_columns.proofs.reader.dictionary.Dictionary.append.Goals as goal

pub push-requires : goal.push-requires
push-requires c =
    omega (
      arith,
      ap (λ (d : DictionaryIn). length d.values) c.rows.invariant.values,
      length-append c.args.self.now.values (map (own_cell c.args.batch.now c.args.array) (range_with_len 0 c.rows.row)),
      length-map-range_with_len (own_cell c.args.batch.now c.args.array) 0 c.rows.row,
    )

pub rows-preserved : goal.rows-preserved
rows-preserved c = record {
  values = one_more_value c.args.batch.now c.args.array c.args.self.now c.rows.self c.push.new.self _ c.rows.row c.rows.invariant.values
      (c.cell.ensures ∙ c.view-column.ensures.cells c.rows.row) c.in_ok-push.ensures.ok;
  fits = λ old. fits_one_more c.args.self.now c.rows.self c.push.new.self _ c.args.array (ap (λ (d : DictionaryIn). d.kind) c.rows.invariant.values) c.requires.array c.in_ok-push.ensures.ok
      (subst (λ (cell : Option (List ℕ)). IfSome cell (FitsLayout c.args.array.layout)) (sym c.cell.ensures) (c.view-column.ensures.fits c.rows.row)) (c.rows.invariant.fits old);
}

pub returns-clause-ok : goal.returns-clause-ok
unfolding values_of
returns-clause-ok c =
    let end : c.rows.row ≡ c.args.batch.now.rows = omega arith in
    c.rows.invariant.values ∙ (λ i. record {
      id = c.args.self.now.id;
      kind = c.args.self.now.kind;
      values = c.args.self.now.values ++ map (own_cell c.args.batch.now (c.requires.array i)) (range_with_len 0 (end i));
    })
