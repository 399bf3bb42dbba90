-- Entries that are sorted by their parents are in one order.
use Rattle.std.proofs.Common.{◌≡◌, ℕ, ◌+◌, ◌≤◌, Bool, false, List, ◌∙◌, arith}
use Rattle.std.specs.Prelude.{nat_lt}
use Rattle.std.specs.List.{slice_index_or}
use Rattle.std.specs.List.Sorted.{IsNonDecreasingBy, IsSortedBy, IsStableByKey}
use Rattle.std.specs.Cmp.{IsStrictWeakOrder}
use Rattle.std.specs.Ordering.{is_lt, nat_cmp}
use Rattle.std.proofs.lemmas.Bool.Decides.{nat_tests}
use Rattle.std.proofs.lemmas.Cmp.{nat_cmp_total}
use Rattle.std.proofs.lemmas.List.Sorted.{ranks_by}
use Rattle.otap_groups.specs.declared.entry.ChildEntry.{ChildEntry}
use Rattle.otap_attrs.specs.Sorting.{sorted_by}
use Rattle.otap_attrs.proofs.StableSort.{stable_sort}
use Rattle.otap_kept.specs.Numbering.{entry_has_lesser_parent}

abbrev by_parent : ChildEntry → ChildEntry → Bool
by_parent a b = is_lt (nat_cmp a.parent b.parent)

in_order : IsStrictWeakOrder by_parent
in_order = ranks_by nat_cmp_total (λ (e : ChildEntry). e.parent)

not_before : (a b : ℕ) → a ≤ b → is_lt (nat_cmp b a) ≡ false
not_before a b up = grind (arith, nat_tests)

before_is : (a b : ℕ) → is_lt (nat_cmp a b) ≡ nat_lt a b
before_is a b = grind (arith, nat_tests)

sorted_from : (xs : List ChildEntry) → IsNonDecreasingBy (λ (e : ChildEntry). e.parent) xs → IsSortedBy by_parent xs
sorted_from xs up k d low within =
    not_before (slice_index_or xs k d).parent (slice_index_or xs (k + 1) d).parent (up k (k + 1) d (omega arith) within)

pub entries_sorted : (xs ys : List ChildEntry) → IsNonDecreasingBy (λ (e : ChildEntry). e.parent) ys → IsStableByKey (λ (e : ChildEntry). e.parent) nat_cmp xs ys
    → ys ≡ sorted_by entry_has_lesser_parent xs
entries_sorted xs ys up stable =
    stable_sort by_parent in_order xs ys (sorted_from ys up) stable ∙ (λ i. sorted_by (λ (a b : ChildEntry). before_is a.parent b.parent i) xs)
