use Rattle.std.proofs.Common.{◌+◌, ◌<◌, ◌∙◌, length, arith}
use Rattle.otap_groups.proofs.StartLaws.{part_between, starts_rise}
use Rattle.otap_groups.proofs.starts.part_of.Goals as goal

pub overflow_sub-starts : goal.overflow_sub-starts
overflow_sub-starts c =
    let told : c.args.parent < length c.args.starts.now = omega (arith, c.if-at-starts.true) in
    starts_rise c.args.parent c.args.entries.now _ _ (c.requires.starts c.args.parent 0 told) (c.requires.starts (c.args.parent + 1) 0 c.if-at-starts.true)

pub returns-then-at-starts : goal.returns-then-at-starts
returns-then-at-starts c =
    let told : c.args.parent < length c.args.starts.now = omega (arith, c.if-at-starts.true) in
    c.split_at-then-at-starts.ensures.front ∙ part_between c.args.parent c.args.entries.now _ _ _ c.split_at.ensures.back
    (c.requires.starts c.args.parent 0 told) (c.requires.starts (c.args.parent + 1) 0 c.if-at-starts.true)
