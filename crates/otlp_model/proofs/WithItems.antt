-- Groups without items leave no entries.
use Rattle.std.proofs.Common.{◌≡◌, List, [], ◌∷◌, ◌++◌, length, map, filter, Bool, true, false, refl, sym, ◌∙◌, ap, subst, inl, inr}
use Rattle.std.specs.Prelude.{nat_lt, ◌⊎◌}
use Rattle.std.specs.List.{flat_map, AllZip}
use Rattle.std.proofs.lemmas.Bool.{cases_Bool}
use Rattle.std.proofs.lemmas.List.Folds.{flat_map-map}
use Rattle.lists.proofs.Truths.{empty}
use Rattle.otlp_model.specs.Telemetry.{item_entry, told_as, entries_of_scope_group, entries_of_group, item_entries, trimmed, groups_with_items, with_items, telemetry, span, log_record, metric}
use Rattle.otlp_model.specs.Same.{SameItem, SameEntry, Same}
use Rattle.otlp_model.proofs.Equivalence.{same}
use Rattle.otlp_model.specs.declared.groups.ResourceGroup.{ResourceGroup}
use Rattle.otlp_model.specs.declared.request.Request.{Request}
use Rattle.otlp_model.specs.declared.request.Request.TheVariants.{Traces, Logs, Metrics}

-- what leaves no entry can be left out
kept : {A B : Type 0} (f : A → List B) (p : A → Bool) → ((x : A) → p x ≡ false → f x ≡ []) → (xs : List A)
    → flat_map f (filter p xs) ≡ flat_map f xs
kept f p none [] = refl
kept f p none (x ∷ xs) = split (cases_Bool (p x)) (kept f p none xs) where
  split : ((p x ≡ true) ⊎ (p x ≡ false)) → flat_map f (filter p xs) ≡ flat_map f xs → flat_map f (filter p (x ∷ xs)) ≡ flat_map f (x ∷ xs)
  split (inl some) others = rw some (ap (λ ys. f x ++ ys) others)
  split (inr none_of_x) others = rw (none_of_x, none x none_of_x) others

module _ {I : Type 0} where
  scopes_kept : (group : ResourceGroup I) → entries_of_group (trimmed group) ≡ entries_of_group group
  scopes_kept group = kept (entries_of_scope_group group.resource) (λ scope. nat_lt 0 (length scope.items))
      (λ scope h. ap (map (item_entry group.resource scope.scope)) (empty scope.items h)) group.scopes

  groups_kept : (groups : List (ResourceGroup I)) → item_entries (groups_with_items groups) ≡ item_entries groups
  groups_kept groups =
      kept entries_of_group (λ group. nat_lt 0 (length group.scopes))
      (λ group h. ap (flat_map (entries_of_scope_group group.resource)) (empty group.scopes h)) (map trimmed groups)
      ∙ flat_map-map entries_of_group trimmed groups
      ∙ (λ i. flat_map (λ group. scopes_kept group i) groups)

pub telemetry_kept : (q : Request) → telemetry (with_items q) ≡ telemetry q
telemetry_kept (Traces groups) = ap (map (told_as span)) (groups_kept groups)
telemetry_kept (Logs groups) = ap (map (told_as log_record)) (groups_kept groups)
telemetry_kept (Metrics groups) = ap (map (told_as metric)) (groups_kept groups)

pub same_kept : (q : Request) → Same q (with_items q)
same_kept q = subst (λ entries. AllZip (SameEntry SameItem) (telemetry q) entries) (sym (telemetry_kept q)) (same.itself q)
