use Rattle.std.proofs.Common.{rules, refl, ◌≡◌, arith, length, slice_index_or}
use Rattle.otap_groups.specs.Inside.{blank}
use Rattle.otap_groups.proofs.StartLaws.{starts_next}
use Rattle.otap_groups.proofs.starts.starts_up_to_last.Goals as goal

pub entries-preserved : goal.entries-preserved
entries-preserved c =
    let count : c.entries.starts.len ≡ length c.entries.starts.items = search rules in
    starts_next c.args.entries.now c.entries.starts.items c.resize.new.self.items c.entries.place (slice_index_or c.args.entries.now c.entries.place blank).parent
    c.requires c.entries-test.true refl (search rules) (λ k d w old. c.in_ok-resize.ensures.by_index.0 k d w (omega (arith, old, count)))
    (λ k d from w. c.in_ok-resize.ensures.by_index.1 k d (search rules) (omega (arith, from, count)) w) c.entries.invariant
