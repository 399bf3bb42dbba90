use Rattle.std.proofs.Common.{◌≡◌, ◌+◌, ◌-◌, ◌∷◌, length, drop, take, map, sym, ◌∙◌, ap, subst, rules, arith}
use Rattle.std.proofs.lemmas.Grind.{common_steps}
use Rattle.std.proofs.lemmas.List.{length-map}
use Rattle.otap_groups.specs.Flat.{flat_items, flat_scopes}
use Rattle.otap_groups.specs.Stored.{Rising}
use Rattle.otap_groups.specs.Views.{seen_flat}
use Rattle.otap_groups.proofs.FlatSteps.{group_added, grown, items_left, length_flat_scopes, past_grown, past_most, rising_flat, scopes_past_most}
use Rattle.otap_groups.proofs.flat.flatten.Goals as goal

pub past-resource_id-requires : goal.past-resource_id-requires
past-resource_id-requires g c =
    let size : c.len-before.result ≡ length c.groups.found.items = search rules in
    let is = grown seen_flat c.groups.found.items c.add_group.new.found.items c.deref.result.now c.len-before.result _ size c.deref.ensures.value c.in_ok-scope_id.ensures.items in
    let long = length_flat_scopes c.groups.resource_id c.groups.scope_id c.group-item.result.resource c.group-item.result.scopes in
    let elem : drop c.groups.group-index c.args.groups.now ≡ c.group-item.result ∷ drop (c.groups.group-index + 1) c.args.groups.now = grind (arith, common_steps) in
    let left = items_left c.args.groups.now c.groups.group-index c.group-item.result elem in
    let same = sym (length-map (take (length c.deref.result.now - c.len-before.result) (drop c.len-before.result c.deref.result.now)) seen_flat) ∙ ap length is in
    let few = c.groups.invariant.resources in
    omega (arith, same, long, left, few)

pub groups-preserved : goal.groups-preserved
groups-preserved g c =
    let size : c.len-before.result ≡ length c.groups.found.items = search rules in
    let is = grown seen_flat c.groups.found.items c.add_group.new.found.items c.deref.result.now c.len-before.result _ size c.deref.ensures.value c.in_ok-scope_id.ensures.items in
    let next = c.past-resource_id.ensures ∙ past_grown seen_flat c.groups.resource_id _ _ is in
    let long = length_flat_scopes c.groups.resource_id c.groups.scope_id c.group-item.result.resource c.group-item.result.scopes in
    let elem : drop c.groups.group-index c.args.groups.now ≡ c.group-item.result ∷ drop (c.groups.group-index + 1) c.args.groups.now = grind (arith, common_steps) in
    let left = items_left c.args.groups.now c.groups.group-index c.group-item.result elem in
    let most = past_most c.groups.resource_id (flat_scopes c.groups.resource_id c.groups.scope_id c.group-item.result.resource c.group-item.result.scopes) in
    let scopes = scopes_past_most c.groups.scope_id c.group-item.result.scopes in
    let few = c.groups.invariant in
    record {
      items = rw (next, c.in_ok-scope_id.ensures.next) (group_added c.args.groups.now c.groups.group-index c.groups.resource_id c.groups.scope_id c.group-item.result
          _ _ _ elem c.in_ok-scope_id.ensures.items c.groups.invariant.items);
      resources = omega (arith, next, most, long, left, few.resources);
      scopes = omega (arith, c.in_ok-scope_id.ensures.next, scopes, left, few.scopes);
    }

pub returns-clause-items : goal.returns-clause-items
unfolding flat_items
returns-clause-items g c = grind (arith, common_steps)

pub returns-clause-rising : goal.returns-clause-rising
unfolding flat_items
returns-clause-rising g c =
    let is : map seen_flat c.groups.found.items ≡ flat_items c.args.groups.now = grind (arith, common_steps) in
    subst (λ fs. Rising 0 0 fs) (sym is) (rising_flat c.args.groups.now)
