use Rattle.std.proofs.Common.{◌≡◌, ◌<◌, ◌+◌, ◌-◌, List, Option, ℕ, length, map, arith, ap, sym, subst, ◌∙◌}
use Rattle.otap_cells.specs.Cells.{seen}
use Rattle.otap_cells.specs.Columns.{base_at}
use Rattle.otap_cells.specs.Tables.{cell_in, column_in}
use Rattle.otap_dicts.specs.Ladders.{is_plain}
use Rattle.otap_columns.specs.declared.forms.ColumnForm.TheVariants as form
use Rattle.otap_columns.specs.Observed.{bytes_for}
use Rattle.otap_columns.specs.SeenInside.{observed_if}
use Rattle.otap_columns.specs.WrittenCells.{place_among}
use Rattle.otap_columns.proofs.Placing.{IsObserved, Laws, all_placed, emptied, none_observed, one_more_observed, plain_from_here}
use Rattle.otap_columns.proofs.SeenOn.{plain_stays, seen_to_last}
use Rattle.otap_columns.proofs.writer.seen.observe_values.Goals as goal

after_one : (row : ℕ) → row + 1 - 1 ≡ row
after_one row = omega arith

pub returns-then-is_plain-clause-ladder : goal.returns-then-is_plain-clause-ladder
returns-then-is_plain-clause-ladder c =
    plain_stays c.a_value_again_changes_nothing.ensures.plain c.args.ladder.now (sym c.form.ensures ∙ c.is_plain.ensures.plain c.if-is_plain.true)
    (map (bytes_for (base_at c.args.table.now.kind c.args.column) form.Wide) (column_in c.args.table.now.rows c.args.column))

pub returns-then-is_plain-2-clause-ladder : goal.returns-then-is_plain-2-clause-ladder
returns-then-is_plain-2-clause-ladder c =
    let holds = base_at c.args.table.now.kind c.args.column in
    let laws : Laws = record {
      twice = c.a_value_again_changes_nothing.ensures.twice;
      plain = c.a_value_again_changes_nothing.ensures.plain;
      stay = c.places_stay.ensures.stay;
      found = c.places_stay.ensures.found;
    } in
    let base_is : c.base_of-base.result ≡ holds = c.base_of-base.ensures ∙ ap (λ k. base_at k c.args.column) c.kind.ensures in
    let low : c.rows.row < length c.args.table.now.rows = omega (arith, c.set_rows-count.ensures.within) in
    plain_from_here laws holds c.args.table.now.rows c.args.column c.rows.row c.args.ladder.now c.rows.ladder c.observe_after.new.ladder c.rows.places.items (bytes_for holds form.Wide (seen c.rows.before)) c.rows.place
    (bytes_for holds form.Wide (seen c.cell-cell.result)) c.rows.invariant.observed low (ap (bytes_for holds form.Wide) c.cell-cell.ensures.value)
    (c.in_ok-place.ensures.ladder ∙ ap (λ b. observed_if c.rows.ladder (bytes_for b form.Wide (seen c.cell-cell.result))) base_is)
    (sym c.form-in-rows.ensures ∙ c.is_plain-in-rows.ensures.plain c.if-is_plain-2.true)

pub rows-init : goal.rows-init
rows-init c = record {
  observed = none_observed (base_at c.args.table.now.kind c.args.column) c.args.table.now.rows c.args.column c.unset_rows-first.result c.args.ladder.now c.resize.new.self.items
      (c.in_ok-resize.ensures.items ∙ emptied c.unset_rows-first.result c.clear.new.self.len c.clear.new.self.items c.clear.ensures.items (omega (arith, c.clear.new.self.ok)))
      c.unset_rows-first.ensures.null (omega (arith, c.unset_rows-first.ensures.within, c.set_rows-count.ensures.within))
      (ap is_plain (sym c.form.ensures) ∙ sym c.is_plain.ensures.is ∙ c.if-is_plain.false);
  last = λ less. absurd (omega (arith, less));
}

pub rows-preserved : goal.rows-preserved
rows-preserved c =
    let holds = base_at c.args.table.now.kind c.args.column in
    let laws : Laws = record {
      twice = c.a_value_again_changes_nothing.ensures.twice;
      plain = c.a_value_again_changes_nothing.ensures.plain;
      stay = c.places_stay.ensures.stay;
      found = c.places_stay.ensures.found;
    } in
    let base_is : c.base_of-base.result ≡ holds = c.base_of-base.ensures ∙ ap (λ k. base_at k c.args.column) c.kind.ensures in
    let low : c.rows.row < length c.args.table.now.rows = omega (arith, c.set_rows-count.ensures.within) in
    let x = bytes_for holds form.Wide (seen c.cell-cell.result) in record {
      observed = subst (λ (ps : List (Option ℕ)). IsObserved holds c.args.table.now.rows c.args.column (c.rows.row + 1) c.args.ladder.now c.observe_after.new.ladder ps x c.in_ok-place.place) (sym c.in_ok-push-2.ensures.items)
          (one_more_observed laws holds c.args.table.now.rows c.args.column c.rows.row c.args.ladder.now c.rows.ladder c.observe_after.new.ladder c.rows.places.items (bytes_for holds form.Wide (seen c.rows.before))
          c.rows.place x c.rows.invariant.observed low (ap (bytes_for holds form.Wide) c.cell-cell.ensures.value)
          (c.in_ok-place.ensures.ladder ∙ ap (λ b. observed_if c.rows.ladder (bytes_for b form.Wide (seen c.cell-cell.result))) base_is)
          c.in_ok-place.place (c.in_ok-place.ensures.place ∙ ap (λ b. place_among c.observe_after.new.ladder.values (bytes_for b form.Wide (seen c.cell-cell.result))) base_is)
          (ap is_plain (sym c.form-in-rows.ensures) ∙ sym c.is_plain-in-rows.ensures.is ∙ c.if-is_plain-2.false));
      last = λ less. ap (cell_in c.args.table.now.rows c.args.column) (after_one c.rows.row) ∙ sym c.cell-cell.ensures.value;
    }

pub rows-preserved-then-is_again : goal.rows-preserved-then-is_again
rows-preserved-then-is_again c =
    let holds = base_at c.args.table.now.kind c.args.column in
    let rows = c.args.table.now.rows in
    let laws : Laws = record {
      twice = c.a_value_again_changes_nothing.ensures.twice;
      plain = c.a_value_again_changes_nothing.ensures.plain;
      stay = c.places_stay.ensures.stay;
      found = c.places_stay.ensures.found;
    } in
    let low : c.rows.row < length rows = omega (arith, c.set_rows-count.ensures.within) in
    let x = bytes_for holds form.Wide (seen c.rows.before) in
    let same = c.is_again.ensures c.if-is_again.true ∙ c.rows.invariant.last (omega arith) in
    record {
      observed = subst (λ (ps : List (Option ℕ)). IsObserved holds rows c.args.column (c.rows.row + 1) c.args.ladder.now c.rows.ladder ps x c.rows.place) (sym c.in_ok-push.ensures.items)
          (one_more_observed laws holds rows c.args.column c.rows.row c.args.ladder.now c.rows.ladder c.rows.ladder c.rows.places.items x c.rows.place x c.rows.invariant.observed low
          (ap (bytes_for holds form.Wide) (sym same)) (sym c.rows.invariant.observed.again) c.rows.place c.rows.invariant.observed.placed c.rows.invariant.observed.climbs);
      last = λ less. ap (cell_in rows c.args.column) (after_one c.rows.row) ∙ same;
    }

pub returns-clause-ladder : goal.returns-clause-ladder
returns-clause-ladder c =
    c.rows.invariant.observed.so_far
    ∙ seen_to_last (base_at c.args.table.now.kind c.args.column) c.args.table.now.rows c.args.column c.rows.row c.args.ladder.now (λ row le. c.set_rows-count.ensures.null row (omega (arith, le)))

pub returns-clause-placed : goal.returns-clause-placed
returns-clause-placed c =
    λ dictionary.
    all_placed (base_at c.args.table.now.kind c.args.column) c.args.table.now.rows c.args.column c.rows.row c.rows.ladder.values c.rows.places.items c.rows.invariant.observed.here
    (omega (arith, c.set_rows-count.ensures.within)) (λ row le. c.set_rows-count.ensures.null row (omega (arith, le)))
