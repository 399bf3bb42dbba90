use Rattle.std.proofs.Common.{◌∙◌, ap, rules}
use Rattle.std.proofs.lemmas.List.Sorted.{IsNonDecreasingBy-from_sort_by_key, answers_always}
use Rattle.otap_groups.specs.declared.entry.ChildEntry.{ChildEntry}
use Rattle.otap_groups.specs.Found.{of_parent}
use Rattle.otap_groups.proofs.IndexLaws.{same_parts}
use Rattle.otap_kept.proofs.numbering.Numbering.new.Goals as goal

pub returns : goal.returns
returns c = record {
  rising = IsNonDecreasingBy-from_sort_by_key (λ (e : ChildEntry). e.parent) _ c.in_ok-sort_by_key.ensures.sorted (λ a r q k. search rules);
  finds = λ id.
      same_parts _ _ (c.sort_by_key.ensures.stable (λ (e : ChildEntry). e.parent) (answers_always _ _ _ (λ f a r q h. search rules))) id
      ∙ ap (of_parent id) c.in_ok-entries.ensures;
}
