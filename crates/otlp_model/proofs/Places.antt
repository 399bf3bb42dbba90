-- Positions among the items of groups.
use Rattle.std.proofs.Common.{◌≡◌, ℕ, suc, ◌+◌, ◌-◌, ◌<◌, ◌≤◌, List, [], ◌∷◌, ◌++◌, length, get_or, take, drop, refl, sym, ◌∙◌, ap, arith, append_assoc, drop-cons, add-one, length-drop}
use Rattle.std.specs.List.{flat_map}
use Rattle.std.proofs.lemmas.List.{take_rest, drop-drop, get_or_default}
use Rattle.std.proofs.Math.ListN.{drop_of_length-le}
use Rattle.otlp_model.specs.Telemetry.{entries_of_scope_group, item_entries}
use Rattle.otlp_model.specs.Walk.{left_of_scopes, left_of_groups, left, IsRun}
use Rattle.otlp_model.specs.declared.groups.Resource.{Resource}
use Rattle.otlp_model.specs.declared.groups.ScopeGroup.{ScopeGroup}
use Rattle.otlp_model.specs.declared.groups.ResourceGroup.{ResourceGroup}

-- how many steps a walk from a scope group of the first group on takes at most
abbrev pub steps : {I : Type 0} → List (ResourceGroup I) → ℕ → ℕ
steps [] scope = 0
steps (group ∷ groups) scope = 1 + (length group.scopes - scope) + steps groups 0

-- a list from one of its indices on
opened : {A : Type 0} (xs : List A) (i : ℕ) (x : A) → i < length xs → x ≡ get_or xs i x → drop i xs ≡ x ∷ drop (i + 1) xs
opened xs i x h e = rw add-one (drop-cons xs i x h ∙ ap (λ y. y ∷ drop (suc i) xs) (sym e))

scopes_start : {I : Type 0} (r : Resource) (scopes : List (ScopeGroup I)) → left_of_scopes r scopes 0 ≡ flat_map (entries_of_scope_group r) scopes
scopes_start r [] = refl
scopes_start r (s ∷ ss) = refl

groups_start : {I : Type 0} (groups : List (ResourceGroup I)) → left_of_groups groups 0 0 ≡ item_entries groups
groups_start [] = refl
groups_start (g ∷ gs) = ap (λ es. es ++ item_entries gs) (scopes_start g.resource g.scopes)

pub left_start : {I : Type 0} (groups : List (ResourceGroup I)) → left groups 0 0 0 ≡ item_entries groups
unfolding left
left_start groups = groups_start groups

pub left_end : {I : Type 0} (groups : List (ResourceGroup I)) (i p k : ℕ) → length groups ≤ i → left groups i p k ≡ []
unfolding left
left_end groups i p k h = rw (drop_of_length-le groups h) refl

pub left_group : {I : Type 0} (groups : List (ResourceGroup I)) (i p k : ℕ) (g : ResourceGroup I) → i < length groups → g ≡ get_or groups i g
    → length g.scopes ≤ p → left groups (i + 1) 0 0 ≡ left groups i p k
unfolding left
left_group groups i p k g inside e h =
    groups_start (drop (i + 1) groups) ∙ (rw (opened groups i g inside e, drop_of_length-le g.scopes h) refl)

pub left_scope : {I : Type 0} (groups : List (ResourceGroup I)) (i p k : ℕ) (g : ResourceGroup I) (s : ScopeGroup I)
    → i < length groups → g ≡ get_or groups i g → p < length g.scopes → s ≡ get_or g.scopes p s
    → length s.items ≤ k → left groups i (p + 1) 0 ≡ left groups i p k
unfolding left
left_scope groups i p k g s inside e within f h =
    rw (opened groups i g inside e, opened g.scopes p s within f, drop_of_length-le s.items h, scopes_start g.resource (drop (p + 1) g.scopes)) refl

pub run_at : {I : Type 0} (groups : List (ResourceGroup I)) (i p k : ℕ) (g : ResourceGroup I) (s : ScopeGroup I)
    → i < length groups → g ≡ get_or groups i g → p < length g.scopes → s ≡ get_or g.scopes p s
    → k < length s.items → IsRun groups i p k g.resource s.scope (take (length s.items - k) (drop k s.items))
unfolding left
run_at groups i p k g s inside e within f h =
    let items = take_rest s.items k in
    record {
      more = flat_map (entries_of_scope_group g.resource) (drop (p + 1) g.scopes) ++ item_entries (drop (i + 1) groups);
      from = λ n small. rw (items, drop-drop n k s.items, opened groups i g inside e, opened g.scopes p s within f, append_assoc) refl;
      some = rw (items, length-drop k s.items) (omega arith);
      inside = inside;
      whose = λ d. ap (λ x. x.resource) (e ∙ get_or_default groups i g d inside);
    }
