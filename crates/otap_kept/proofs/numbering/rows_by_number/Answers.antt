use Rattle.std.proofs.Common.{◌∙◌, ap, rules}
use Rattle.std.proofs.lemmas.List.Sorted.{IsNonDecreasingBy-from_sort_by_key, answers_always}
use Rattle.otap_groups.specs.declared.entry.ChildEntry.{ChildEntry}
use Rattle.otap_attrs.specs.Sorting.{sorted_by}
use Rattle.otap_kept.specs.Numbering.{entry_has_lesser_parent}
use Rattle.otap_kept.proofs.SortedEntries.{entries_sorted}
use Rattle.otap_kept.proofs.numbering.rows_by_number.Goals as goal

pub returns : goal.returns
returns c =
    entries_sorted _ _ (IsNonDecreasingBy-from_sort_by_key (λ (e : ChildEntry). e.parent) _ c.in_ok-sort_by_key.ensures.sorted (λ a r q k. search rules))
    (c.sort_by_key.ensures.stable (λ (e : ChildEntry). e.parent) (answers_always _ _ _ (λ f a r q h. search rules)))
    ∙ ap (sorted_by entry_has_lesser_parent) c.in_ok-entries.ensures
