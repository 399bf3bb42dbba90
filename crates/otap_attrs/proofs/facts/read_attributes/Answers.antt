use Rattle.std.proofs.Common.{◌≡◌, ◌∙◌, ◌+◌, ◌-◌, ◌<◌, arith, drop, length, sym}
use Rattle.otap_cells.specs.Continuing.{again_of, ids_in_front, seen_attribute}
use Rattle.otap_cells.proofs.Flags.{first_flag, flags_done, flags_more, no_flags}
use Rattle.otap_cells.proofs.AttributeFlags.{flag_said}
use Rattle.otap_attrs.proofs.FactsFound.{all_found, none_yet, one_more}
use Rattle.otap_attrs.proofs.facts.read_attributes.Goals as goal

pub returns-then-count-eq0-clause-continues : goal.returns-then-count-eq0-clause-continues
returns-then-count-eq0-clause-continues g c =
    let t = g.R.Rows.table c.args.rows.now in
    (λ i. (c.into_facts.ensures.continues i).items) ∙ c.in_ok-with_capacity.ensures.items
    ∙ sym (no_flags (again_of t.kind) (drop (ids_in_front t.kind)) t.rows (omega (arith, c.rows-count.ensures.count)))

pub rows-init : goal.rows-init
rows-init g c =
    let t = g.R.Rows.table c.args.rows.now in
    let some : 0 < length t.rows = omega (arith, c.rows-count.ensures.count) in
    record {
      continues = flags_more (again_of t.kind) (drop (ids_in_front t.kind)) t.rows 0 _ _ _ some
          (sym (first_flag (again_of t.kind) (drop (ids_in_front t.kind)) t.rows)) c.in_ok-with_capacity.ensures.items c.in_ok-add.ensures.continues;
      weights = λ fine.
          one_more t.rows 0 (seen_attribute c.attribute_at-before.result) _ _ some c.attribute_at-before.ensures (c.in_ok-add.ensures.weights fine)
          (λ was. none_yet t.rows _ c.in_ok-with_capacity-2.ensures.items);
      before = c.attribute_at-before.ensures;
    }

pub rows-preserved : goal.rows-preserved
rows-preserved g c =
    let t = g.R.Rows.table c.args.rows.now in
    let within : c.rows.row < length t.rows = omega (arith, c.rows-count.ensures.count) in
    record {
      continues = flags_more (again_of t.kind) (drop (ids_in_front t.kind)) t.rows c.rows.row _ _ _ within
          (c.says_again.ensures ∙ flag_said t.kind t.rows c.rows.row _ _ c.requires (omega arith) within c.rows.invariant.before c.attribute_at-says.ensures)
          c.rows.invariant.continues c.in_ok-add-2.ensures.continues;
      weights = λ fine.
          one_more t.rows c.rows.row (seen_attribute c.attribute_at-says.result) _ _ within c.attribute_at-says.ensures (c.in_ok-add-2.ensures.weights fine)
          c.rows.invariant.weights;
      before =
          let same : (c.rows.row + 1) - 1 ≡ c.rows.row = omega arith in
          rw same c.attribute_at-says.ensures;
    }

pub returns-clause-continues : goal.returns-clause-continues
returns-clause-continues g c =
    let t = g.R.Rows.table c.args.rows.now in
    (λ i. (c.into_facts-2.ensures.continues i).items)
    ∙ flags_done (again_of t.kind) (drop (ids_in_front t.kind)) t.rows c.rows.row _ (omega (arith, c.rows-count.ensures.count)) c.rows.invariant.continues

pub returns-clause-weights : goal.returns-clause-weights
returns-clause-weights g c =
    let t = g.R.Rows.table c.args.rows.now in
    all_found t c.rows.row c.rows.found _ (omega (arith, c.rows-count.ensures.count)) c.into_facts-2.ensures.weights c.rows.invariant.weights
