-- What holds of lists of real pairs within the profile, and of such items, holds all over a request.
use Rattle.std.proofs.Common.{List, [], ◌∷◌}
use Rattle.std.specs.Prelude.{All, IsTrue}
use Rattle.std.proofs.lemmas.List.Elements.{All-nil, All-cons, All-head, All-tail}
use Rattle.lists.proofs.Every.{all_of_both}
use Rattle.otlp_model.specs.Profile.{IsProfilePair, IsProfileResourceGroup, IsProfileScopeGroup}
use Rattle.otlp_model.specs.Real.{IsRealResourceGroup, IsRealScopeGroup, are_real_pairs}
use Rattle.otlp_model.specs.declared.groups.Resource.{Resource}
use Rattle.otlp_model.specs.declared.groups.Scope.{Scope}
use Rattle.otlp_model.specs.declared.groups.ScopeGroup.{ScopeGroup}
use Rattle.otlp_model.specs.declared.groups.ResourceGroup.{ResourceGroup}
use Rattle.otlp_model.specs.declared.value.Pair.{Pair}
use Rattle.otap_groups.specs.Weighing.{CanWriteGroup, CanWriteScope}

module _ {A : Type 0} (IsReal IsProfile OfItem : A → Type 0) (item : (a : A) → IsReal a → IsProfile a → OfItem a) where
  module _ (OfPairs : List Pair → Type 0) (pairs : (ps : List Pair) → IsTrue (are_real_pairs ps) → All IsProfilePair ps → OfPairs ps) where
    abbrev OfResource : Resource → Type 0
    OfResource resource = OfPairs resource.pairs

    abbrev OfScope : Scope → Type 0
    OfScope scope = OfPairs scope.pairs

    abbrev InScope : ScopeGroup A → Type 0
    InScope = CanWriteScope OfScope OfItem

    abbrev InGroup : ResourceGroup A → Type 0
    InGroup = CanWriteGroup OfResource OfScope OfItem

    real_scopes : (groups : List (ScopeGroup A)) → All (IsRealScopeGroup IsReal) groups → All (IsProfileScopeGroup IsProfile) groups → All InScope groups
    real_scopes [] real is = All-nil InScope
    real_scopes (group ∷ groups) real is =
        let r : IsRealScopeGroup IsReal group = All-head (IsRealScopeGroup IsReal) group groups real in
        let p : IsProfileScopeGroup IsProfile group = All-head (IsProfileScopeGroup IsProfile) group groups is in
        All-cons InScope group groups (pairs group.scope.pairs r.scope.pairs p.scope.pairs.at, all_of_both IsReal IsProfile OfItem item group.items r.items.at p.items.at)
        (real_scopes groups (All-tail (IsRealScopeGroup IsReal) group groups real) (All-tail (IsProfileScopeGroup IsProfile) group groups is))

    pub real_groups : (groups : List (ResourceGroup A)) → All (IsRealResourceGroup IsReal) groups → All (IsProfileResourceGroup IsProfile) groups
        → All (CanWriteGroup (λ (resource : Resource). OfPairs resource.pairs) (λ (scope : Scope). OfPairs scope.pairs) OfItem) groups
    real_groups [] real is = All-nil InGroup
    real_groups (group ∷ groups) real is =
        let r : IsRealResourceGroup IsReal group = All-head (IsRealResourceGroup IsReal) group groups real in
        let p : IsProfileResourceGroup IsProfile group = All-head (IsProfileResourceGroup IsProfile) group groups is in
        All-cons InGroup group groups (pairs group.resource.pairs r.resource.pairs p.resource.pairs.at, real_scopes group.scopes r.scopes.at p.scopes.at)
        (real_groups groups (All-tail (IsRealResourceGroup IsReal) group groups real) (All-tail (IsProfileResourceGroup IsProfile) group groups is))
