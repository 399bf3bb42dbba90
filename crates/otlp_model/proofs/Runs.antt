-- Two walks over groups, run by run.
use Rattle.std.proofs.Common.{◌≡◌, ℕ, ◌+◌, ◌<◌, ◌≤◌, List, [], ◌∷◌, ◌++◌, length, get_or, take, drop, map, refl, sym, ◌∙◌, ap, subst, arith, append_assoc, add-zero, length-append}
use Rattle.std.specs.Prelude.{◌↔◌}
use Rattle.std.specs.List.{AllZip}
use Rattle.std.proofs.lemmas.List.{take-append-drop, map-append, length-map, length-take}
use Rattle.otlp_model.specs.Same.{SameResource, SameScope, SameEntry}
use Rattle.otlp_model.specs.Telemetry.{item_entry}
use Rattle.otlp_model.specs.Walk.{left, IsRun, StartsSame}
use Rattle.lists.proofs.Zipped.{zipped_append, zipped_front, zipped_rest}
use Rattle.otlp_model.specs.declared.groups.Resource.{Resource}
use Rattle.otlp_model.specs.declared.groups.Scope.{Scope}
use Rattle.otlp_model.specs.declared.groups.ResourceGroup.{ResourceGroup}

module _ {I : Type 0} (SameOne : I → I → Type 0) (r q : Resource) (s t : Scope) where
  told_same : (xs ys : List I) → SameResource r q → SameScope s t → AllZip SameOne xs ys
      → AllZip (SameEntry SameOne) (map (item_entry r s) xs) (map (item_entry q t) ys)
  told_same [] [] a b h = tt
  told_same [] (y ∷ ys) a b h = absurd h
  told_same (x ∷ xs) [] a b h = absurd h
  told_same (x ∷ xs) (y ∷ ys) a b h = (record { resource = a; scope = b; item = h.0 }, told_same xs ys a b h.1)

  items_told : (xs ys : List I) → AllZip (SameEntry SameOne) (map (item_entry r s) xs) (map (item_entry q t) ys) → AllZip SameOne xs ys
  items_told [] [] h = tt
  items_told [] (y ∷ ys) h = absurd h
  items_told (x ∷ xs) [] h = absurd h
  items_told (x ∷ xs) (y ∷ ys) h = (h.0.item, items_told xs ys h.1)

  origin_told : (xs ys : List I) → 0 < length xs → AllZip (SameEntry SameOne) (map (item_entry r s) xs) (map (item_entry q t) ys)
      → SameResource r q × SameScope s t
  origin_told [] ys some h = absurd (omega arith)
  origin_told (x ∷ xs) [] some h = absurd h
  origin_told (x ∷ xs) (y ∷ ys) some h = (h.0.resource, h.0.scope)

-- a run is its first n entries, and what is left after them
run_parts : {I : Type 0} (groups : List (ResourceGroup I)) (i p k n : ℕ) (r : Resource) (s : Scope) (xs : List I)
    → IsRun groups i p k r s xs → n ≤ length xs → left groups i p k ≡ map (item_entry r s) (take n xs) ++ left groups i p (k + n)
run_parts groups i p k n r s xs run h =
    let here : left groups i p k ≡ map (item_entry r s) xs ++ run.more = rw (← (add-zero k)) (run.from 0 (omega arith)) in
    let later = run.from n h in
    let parts = ap (map (item_entry r s)) (sym (take-append-drop n xs)) ∙ map-append (item_entry r s) (take n xs) (drop n xs) in
    here ∙ ap (λ es. es ++ run.more) parts ∙ append_assoc (map (item_entry r s) (take n xs)) (map (item_entry r s) (drop n xs)) run.more ∙ ap (λ es. map (item_entry r s) (take n xs) ++ es) (sym later)

pub run_some : {I : Type 0} (groups : List (ResourceGroup I)) (i p k : ℕ) (r : Resource) (s : Scope) (xs : List I)
    → IsRun groups i p k r s xs → left groups i p k ≡ [] → ⊥
run_some groups i p k r s xs run none =
    let whole = run_parts groups i p k (length xs) r s xs run (omega arith) in
    let some = run.some in
    let long = ap length (sym none ∙ whole) in
    omega (arith, simp (length-append, length-map, length-take) at long)

pub run_shorter : {I : Type 0} (groups : List (ResourceGroup I)) (i p k n : ℕ) (r : Resource) (s : Scope) (xs : List I)
    → IsRun groups i p k r s xs → n ≤ length xs → 0 < n → length (left groups i p (k + n)) < length (left groups i p k)
run_shorter groups i p k n r s xs run h some =
    let long = ap length (run_parts groups i p k n r s xs run h) in
    omega (arith, simp (length-append, length-map, length-take) at long)

-- what a walk stepped over changes nothing
pub stepped : {A : Type 0} (R : A → A → Type 0) (xs xs' ys ys' es fs : List A) → xs' ≡ xs → ys' ≡ ys
    → (AllZip R xs ys ↔ AllZip R es fs) → AllZip R xs' ys' ↔ AllZip R es fs
stepped R xs xs' ys ys' es fs a b told = rw (a, b) told

pub none_beside : {A B : Type 0} (R : A → B → Type 0) (xs : List A) (ys : List B) → ys ≡ [] → AllZip R xs ys → xs ≡ []
none_beside R [] ys e h = refl
none_beside R (x ∷ xs) [] e h = absurd h
none_beside R (x ∷ xs) (y ∷ ys) e h = cc

module _ {I : Type 0} (SameOne : I → I → Type 0) (gs hs : List (ResourceGroup I)) (i p k j u m n : ℕ)
    (r q : Resource) (s t : Scope) (xs ys : List I)
    (x : IsRun gs i p k r s xs) (y : IsRun hs j u m q t ys) (in_xs : n ≤ length xs) (in_ys : n ≤ length ys) where
  long : length (map (item_entry r s) (take n xs)) ≡ length (map (item_entry q t) (take n ys))
  long = grind (arith, length-map, length-take)

  split : AllZip (SameEntry SameOne) (left gs i p k) (left hs j u m)
      ↔ AllZip (SameEntry SameOne) (map (item_entry r s) (take n xs) ++ left gs i p (k + n)) (map (item_entry q t) (take n ys) ++ left hs j u (m + n))
  split = rw (run_parts gs i p k n r s xs x in_xs, run_parts hs j u m n q t ys y in_ys) (λ h. h, λ h. h)

  pub starts_told : 0 < n → AllZip (SameEntry SameOne) (left gs i p k) (left hs j u m) → StartsSame SameOne n r q s t xs ys
  starts_told some h =
      let front = zipped_front (SameEntry SameOne) _ _ _ _ long (split.0 h) in
      let origin = origin_told SameOne r q s t (take n xs) (take n ys) (rw (length-take n xs) (omega arith)) front in
      record { resource = origin.0; scope = origin.1; items = items_told SameOne r q s t _ _ front }

  pub starts_gone : StartsSame SameOne n r q s t xs ys
      → AllZip (SameEntry SameOne) (left gs i p (k + n)) (left hs j u (m + n)) ↔ AllZip (SameEntry SameOne) (left gs i p k) (left hs j u m)
  starts_gone start =
      let front = told_same SameOne r q s t (take n xs) (take n ys) start.resource start.scope start.items in (
        λ h. split.1 (zipped_append (SameEntry SameOne) _ _ _ _ front h),
        λ h. zipped_rest (SameEntry SameOne) _ _ _ _ long (split.0 h),
      )

-- whose resources were found to be the same, as far as two lists of groups have them
abbrev pub Compared : {I : Type 0} → List (ResourceGroup I) → List (ResourceGroup I) → ℕ → ℕ → Type 0
Compared {I} gs hs i j = (d e : ResourceGroup I) → i < length gs → j < length hs → SameResource (get_or gs i d).resource (get_or hs j e).resource

module _ {I : Type 0} where
  pub compared_found : (gs hs : List (ResourceGroup I)) (i j p k u m : ℕ) (r q : Resource) (s t : Scope) (xs ys : List I)
      → IsRun gs i p k r s xs → IsRun hs j u m q t ys → Compared gs hs i j → SameResource r q
  compared_found [] hs i j p k u m r q s t xs ys x y found = absurd (omega (arith, x.inside))
  compared_found (g ∷ gs) [] i j p k u m r q s t xs ys x y found = absurd (omega (arith, y.inside))
  compared_found (g ∷ gs) (h ∷ hs) i j p k u m r q s t xs ys x y found =
      subst (λ z. SameResource z q) (sym (x.whose g))
      (subst (λ z. SameResource (get_or (g ∷ gs) i g).resource z) (sym (y.whose h)) (found g h x.inside y.inside))

  pub compared_now : (gs hs : List (ResourceGroup I)) (i j p k u m : ℕ) (r q : Resource) (s t : Scope) (xs ys : List I)
      → IsRun gs i p k r s xs → IsRun hs j u m q t ys → SameResource r q → Compared gs hs i j
  compared_now gs hs i j p k u m r q s t xs ys x y same d e in_gs in_hs =
      subst (λ z. SameResource z (get_or hs j e).resource) (x.whose d) (subst (λ z. SameResource r z) (y.whose e) same)

  pub compared_moved : (gs hs gs' hs' : List (ResourceGroup I)) (i j i' j' : ℕ) → gs' ≡ gs → hs' ≡ hs → i ≡ i' → j ≡ j'
      → Compared gs hs i j → Compared gs' hs' i' j'
  compared_moved gs hs gs' hs' i j i' j' a b e f found = rw (a, b, ← e, ← f) found
