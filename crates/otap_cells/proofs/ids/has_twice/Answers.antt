use Rattle.std.specs.List.Sorted.{IsPermutation, IsSorted}
use Rattle.std.specs.Ordering.{nat_cmp}
use Rattle.otap_cells.specs.Inside.{numbers}
use Rattle.otap_cells.proofs.Twice.{pair_twice, no_pair_twice}
use Rattle.otap_cells.proofs.ids.has_twice.Goals as goal

pub returns-clause-yes : goal.returns-clause-yes
returns-clause-yes c = λ found.
    let moved : IsPermutation (numbers c.args.ids.now) c.deref.result.now = rw (c.deref.ensures.value, ← c.in_ok-sorted.ensures) c.in_ok-sort.ensures.permutation in
    pair_twice c.args.ids.now c.deref.result.now moved (c.has_pair-found.ensures.yes found)

pub returns-clause-no : goal.returns-clause-no
returns-clause-no c = λ found.
    let moved : IsPermutation (numbers c.args.ids.now) c.deref.result.now = rw (c.deref.ensures.value, ← c.in_ok-sorted.ensures) c.in_ok-sort.ensures.permutation in
    let order : IsSorted nat_cmp c.deref.result.now = rw c.deref.ensures.value c.in_ok-sort.ensures.sorted in
    no_pair_twice c.args.ids.now c.deref.result.now moved order (c.has_pair-found.ensures.no found)
