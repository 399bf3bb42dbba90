use Rattle.std.proofs.Common.{◌∙◌, sym, subst, rules, List}
use Rattle.std.specs.Prelude.{nat_le, nat_lt}
use Rattle.std.specs.List.Sorted.{IsNonDecreasingBy}
use Rattle.std.proofs.lemmas.List.Sorted.{IsNonDecreasingBy-drop, IsPartitionPoint-from_clause, IsPartitionedBy-leb, IsPartitionedBy-ltb}
use Rattle.otap_groups.specs.declared.entry.ChildEntry.{ChildEntry}
use Rattle.otap_groups.proofs.IndexLaws.{part_of_rest}
use Rattle.otap_kept.proofs.numbering.places_at.Goals as goal

pub returns : goal.returns
returns c =
    let rising : IsNonDecreasingBy (λ (e : ChildEntry). e.parent) c.split_at.result.1.now =
    subst (λ (xs : List ChildEntry). IsNonDecreasingBy (λ (e : ChildEntry). e.parent) xs) (sym c.split_at.ensures.back)
    (IsNonDecreasingBy-drop (λ (e : ChildEntry). e.parent) _ _ c.requires) in
    c.split_at-2.ensures.front ∙ part_of_rest c.args.id _ _ _ _ c.split_at.ensures.back c.partition_point-first.ensures.bound
    c.partition_point-count.ensures.bound
    (IsPartitionPoint-from_clause (λ (e : ChildEntry). nat_lt e.parent c.args.id) _ _ c.partition_point-first.ensures.partitioned
    (IsPartitionedBy-ltb (λ (e : ChildEntry). e.parent) _ c.args.id c.requires) (λ a r q k. search rules))
    (IsPartitionPoint-from_clause (λ (e : ChildEntry). nat_le e.parent c.args.id) _ _ c.partition_point-count.ensures.partitioned
    (IsPartitionedBy-leb (λ (e : ChildEntry). e.parent) _ c.args.id rising) (λ a r q k. search rules))
