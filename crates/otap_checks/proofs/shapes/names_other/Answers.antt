use Rattle.std.specs.List.Sorted.{IsPermutation, IsSorted}
use Rattle.std.specs.Ordering.{nat_cmp}
use Rattle.std.proofs.lemmas.List.Sorted.{IsNonDecreasingBy-from_sort}
use Rattle.otap_cells.specs.Inside.{numbers}
use Rattle.otap_checks.specs.Shapes.{fits_of}
use Rattle.otap_checks.proofs.OtherParents.{finds_names, names_finds}
use Rattle.otap_checks.proofs.shapes.names_other.Goals as goal

pub finds_other-found-requires-clause-sorted : goal.finds_other-found-requires-clause-sorted
finds_other-found-requires-clause-sorted g c =
    let order : IsSorted nat_cmp c.deref.result.now = rw c.deref.ensures.value c.in_ok-sort.ensures.sorted in
    IsNonDecreasingBy-from_sort (λ n. n) c.deref.result.now order

pub returns-clause-yes : goal.returns-clause-yes
returns-clause-yes g c = λ found.
    let moved : IsPermutation (numbers c.args.parents.now) c.deref.result.now = rw (c.deref.ensures.value, ← c.in_ok-named.ensures) c.in_ok-sort.ensures.permutation in
    finds_names (fits_of c.args.sort) (g.R.Rows.table c.args.rows.now) c.args.parents.now c.args.ids.now c.deref.result.now moved (c.finds_other-found.ensures.yes found)

pub returns-clause-no : goal.returns-clause-no
returns-clause-no g c = λ found names.
    let moved : IsPermutation (numbers c.args.parents.now) c.deref.result.now = rw (c.deref.ensures.value, ← c.in_ok-named.ensures) c.in_ok-sort.ensures.permutation in
    c.finds_other-found.ensures.no found (names_finds (fits_of c.args.sort) (g.R.Rows.table c.args.rows.now) c.args.parents.now c.args.ids.now c.deref.result.now moved names)
