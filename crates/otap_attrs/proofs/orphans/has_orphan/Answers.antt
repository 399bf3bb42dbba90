use Rattle.std.specs.List.Sorted.{IsPermutation, IsSorted}
use Rattle.std.specs.Ordering.{nat_cmp}
use Rattle.std.proofs.lemmas.List.Sorted.{IsNonDecreasingBy-from_sort}
use Rattle.otap_cells.specs.Inside.{numbers}
use Rattle.otap_attrs.proofs.Parentless.{lacks_orphan, orphan_lacks}
use Rattle.otap_attrs.proofs.orphans.has_orphan.Goals as goal

pub lacks_one-found-requires : goal.lacks_one-found-requires
lacks_one-found-requires c =
    let order : IsSorted nat_cmp c.deref.result.now = rw c.deref.ensures.value c.in_ok-sort.ensures.sorted in
    IsNonDecreasingBy-from_sort (λ n. n) c.deref.result.now order

pub returns-clause-yes : goal.returns-clause-yes
returns-clause-yes c = λ found.
    let moved : IsPermutation (numbers c.args.ids.now) c.deref.result.now = rw (c.deref.ensures.value, ← c.in_ok-sorted.ensures) c.in_ok-sort.ensures.permutation in
    lacks_orphan c.args.parents.now c.args.ids.now c.deref.result.now moved (c.lacks_one-found.ensures.yes found)

pub returns-clause-no : goal.returns-clause-no
returns-clause-no c = λ found orphan.
    let moved : IsPermutation (numbers c.args.ids.now) c.deref.result.now = rw (c.deref.ensures.value, ← c.in_ok-sorted.ensures) c.in_ok-sort.ensures.permutation in
    c.lacks_one-found.ensures.no found (orphan_lacks c.args.parents.now c.args.ids.now c.deref.result.now moved orphan)
