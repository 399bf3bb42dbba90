use Rattle.std.proofs.Common.{◌≡◌, ◌+◌, ◌-◌, ◌<◌, ◌∙◌, arith, drop, length, sym}
use Rattle.otap_cells.specs.Continuing.{again_of, ids_in_front}
use Rattle.otap_cells.proofs.Flags.{first_flag, flags_done, flags_more, no_flags}
use Rattle.otap_cells.proofs.AttributeFlags.{flag_said}
use Rattle.otap_cells.proofs.continuing.continuing_attributes.Goals as goal

pub returns-then-count-eq0 : goal.returns-then-count-eq0
returns-then-count-eq0 g c =
    let t = g.R.Rows.table c.args.rows.now in
    c.in_ok-found.ensures.items ∙ sym (no_flags (again_of t.kind) (drop (ids_in_front t.kind)) t.rows (omega (arith, c.rows-count.ensures.count)))

pub rows-init : goal.rows-init
rows-init g c =
    let t = g.R.Rows.table c.args.rows.now in
    let some : 0 < length t.rows = omega (arith, c.rows-count.ensures.count) in
    record {
      found = flags_more (again_of t.kind) (drop (ids_in_front t.kind)) t.rows 0 _ _ _ some
          (sym (first_flag (again_of t.kind) (drop (ids_in_front t.kind)) t.rows)) c.in_ok-found.ensures.items c.in_ok-push.ensures.items;
      before = c.attribute_at-before.ensures;
    }

pub rows-preserved : goal.rows-preserved
rows-preserved g c =
    let t = g.R.Rows.table c.args.rows.now in
    let within : c.rows.row < length t.rows = omega (arith, c.rows-count.ensures.count) in
    record {
      found = flags_more (again_of t.kind) (drop (ids_in_front t.kind)) t.rows c.rows.row _ _ _ within
          (c.says_again.ensures ∙ flag_said t.kind t.rows c.rows.row _ _ c.requires (omega arith) within c.rows.invariant.before c.attribute_at-says.ensures)
          c.rows.invariant.found c.in_ok-push-2.ensures.items;
      before =
          let same : (c.rows.row + 1) - 1 ≡ c.rows.row = omega arith in
          rw same c.attribute_at-says.ensures;
    }

pub returns : goal.returns
returns g c =
    let t = g.R.Rows.table c.args.rows.now in
    flags_done (again_of t.kind) (drop (ids_in_front t.kind)) t.rows c.rows.row _ (omega (arith, c.rows-count.ensures.count)) c.rows.invariant.found
