-- What is kept weighs no more than the batch.
use Rattle.std.proofs.Common.{◌≡◌, ℕ, suc, ◌+◌, Bool, true, ◌&&◌, List, [], ◌∷◌, Option, None, Some, refl, sym, ◌∙◌, ap, inl, inr}
use Rattle.std.specs.Prelude.{◌==◌, if◌then◌else◌}
use Rattle.std.specs.List.{AllByRecursion}
use Rattle.std.proofs.lemmas.Bool.{cases_Bool, eqb-true, eq-eqb, false≢true}
use Rattle.otlp_model.specs.Weight.{total, weight_of_pair, weight_of_resource, weight_of_resource_group, weight_of_scope}
use Rattle.otlp_model.specs.declared.value.Pair.{Pair}
use Rattle.otap_cells.specs.declared.payload.Kind.{Kind}
use Rattle.otap_cells.specs.Cells.{Cell}
use Rattle.otap_cells.specs.Continuing.{has_attributes}
use Rattle.otap_cells.specs.Tables.{Table}
use Rattle.otap_groups.specs.Children.{children, unnumbered}
use Rattle.otap_groups.specs.Flat.{PlacedIn, part_rows}
use Rattle.otap_groups.specs.Groups.{regrouped, resource_of, scope_of}
use Rattle.otap_groups.specs.Rows.{ChildRow, MainRow, cell_is, cells_are, id_is, same_resource, same_scope}
use Rattle.otap_groups.proofs.LightGroups.{reordered_weigh}
use Rattle.otap_attrs.specs.Index.{pairs_in}
use Rattle.otap_attrs.specs.Values.{pair_in}
use Rattle.otap_attrs.proofs.TablePairs.{pairs_are}
use Rattle.otap_kept.specs.Numbers.{first_ids, new_number}
use Rattle.otap_kept.specs.Rows.{own_cells, renew, renewed, renewed_from, resource_ids, scope_ids}
use Rattle.otap_kept.specs.Tables.{kept_attributes}
use Rattle.otap_kept.proofs.AttributeTables.{AreLow, kept_has_rows}
use Rattle.otap_kept.proofs.Costs.{cost}
use Rattle.otap_kept.proofs.NewNumbers.{HasNumber, all_numbered, one_number}
use Rattle.otap_kept.proofs.KeptEntries.{AgreeAt, FindsAgain, RenewsItems, all_agree}
use Rattle.otap_kept.proofs.GroupWeights.{groups_weigh, items_weigh, of_resource, of_scope, same_both, whole}

-- new numbers are equal exactly where the ids are
same_number : (ids : List (Option ℕ)) (a b : Option ℕ) → HasNumber ids a → HasNumber ids b → id_is (new_number ids a) (new_number ids b) ≡ id_is a b
same_number ids None None has_a has_b = refl
same_number ids None (Some q) has_a has_b = ap (λ (o : Option ℕ). id_is None o) (has_b q refl).1
same_number ids (Some p) None has_a has_b = ap (λ (o : Option ℕ). id_is o None) (has_a p refl).1
same_number ids (Some p) (Some q) has_a has_b =
    let x = has_a p refl in
    let y = has_b q refl in
    (λ i. id_is (x.1 i) (y.1 i)) ∙ by x.0 y.0 x.1 y.1 where
      by : (k l : ℕ) → new_number ids (Some p) ≡ Some k → new_number ids (Some q) ≡ Some l → (k == l) ≡ (p == q)
      by k l e f = elim (cases_Bool (p == q)) [
        | inl t ↦
            let same : Some k ≡ Some l = sym e ∙ ap (λ (r : ℕ). new_number ids (Some r)) (eqb-true p q t) ∙ f in
            eq-eqb k l (cc same) ∙ sym t
        | inr n ↦ elim (cases_Bool (k == l)) [
          | inl t ↦ absurd (false≢true (sym n ∙ eq-eqb p q (one_number ids p q l (e ∙ ap Some (eqb-true k l t)) f)))
          | inr m ↦ m ∙ sym n
        ]
      ]

module _ {I : Type 0} (weigh : I → ℕ) (d d' e e' : Option ℕ → List Pair) (item item' : Option ℕ → List Cell → I) (resources scopes : List (Option ℕ)) where
  same_r : (m n : ℕ) (x y : MainRow) → HasNumber resources x.resource_id → HasNumber resources y.resource_id
      → same_resource (renew resources scopes m x) (renew resources scopes n y) ≡ same_resource x y
  same_r m n x y a b = ap (λ (t : Bool). t && cells_are x.resource y.resource) (same_number resources x.resource_id y.resource_id a b)

  same_s : (m n : ℕ) (x y : MainRow) → HasNumber scopes x.scope_id → HasNumber scopes y.scope_id
      → same_scope (renew resources scopes m x) (renew resources scopes n y) ≡ same_scope x y
  same_s m n x y a b = ap (λ (t : Bool). t && (cells_are x.scope y.scope && cell_is x.schema_url y.schema_url)) (same_number scopes x.scope_id y.scope_id a b)

  abbrev Agree : MainRow → Type 0
  Agree = AgreeAt d d' e e' item item' resources scopes

  resource_weighs : (n : ℕ) (x : MainRow) → Agree x → of_resource weigh d' e' item' (renew resources scopes n x) ≡ of_resource weigh d e item x
  resource_weighs n x agree = ap (λ pairs. 32 + weight_of_resource (resource_of x.resource pairs)) agree.0

  scope_weighs : (n : ℕ) (x : MainRow) → Agree x → of_scope weigh d' e' item' (renew resources scopes n x) ≡ of_scope weigh d e item x
  scope_weighs n x agree = ap (λ pairs. 32 + weight_of_scope (scope_of x.scope x.schema_url pairs)) agree.1

  cost_r : (n : ℕ) (rows : List MainRow) → AllByRecursion Agree rows → AllByRecursion (HasNumber resources) (resource_ids rows)
      → cost same_resource (of_resource weigh d' e' item') (renewed_from resources scopes n rows) ≡ cost same_resource (of_resource weigh d e item) rows
  cost_r n [] agree has = refl
  cost_r n (x ∷ []) agree has = ap (λ m. m + 0) (resource_weighs n x agree.0)
  cost_r n (x ∷ y ∷ ys) agree has =
      let ih = cost_r (suc n) (y ∷ ys) agree.1 has.1 in
      λ i. (if same_r n (suc n) x y has.0 has.1.0 i then 0 else resource_weighs n x agree.0 i) + ih i

  cost_s : (n : ℕ) (rows : List MainRow) → AllByRecursion Agree rows → AllByRecursion (HasNumber resources) (resource_ids rows) → AllByRecursion (HasNumber scopes) (scope_ids rows)
      → cost same_both (of_scope weigh d' e' item') (renewed_from resources scopes n rows) ≡ cost same_both (of_scope weigh d e item) rows
  cost_s n [] agree has_r has_s = refl
  cost_s n (x ∷ []) agree has_r has_s = ap (λ m. m + 0) (scope_weighs n x agree.0)
  cost_s n (x ∷ y ∷ ys) agree has_r has_s =
      let ih = cost_s (suc n) (y ∷ ys) agree.1 has_r.1 has_s.1 in
      λ i. (if same_r n (suc n) x y has_r.0 has_r.1.0 i && same_s n (suc n) x y has_s.0 has_s.1.0 i then 0 else scope_weighs n x agree.0 i) + ih i

  cost_i : (n : ℕ) (rows : List MainRow) → RenewsItems d d' e e' item item' n rows
      → items_weigh weigh d' e' item' (renewed_from resources scopes n rows) ≡ items_weigh weigh d e item rows
  unfolding items_weigh
  cost_i n [] renews = refl
  cost_i n (x ∷ xs) renews = let ih = cost_i (suc n) xs renews.1 in λ i. (32 + weigh (renews.0 x.own i)) + ih i

-- RENEWED ROWS weigh what the rows do
pub renewed_weigh : {I : Type 0} (weigh : I → ℕ) (d d' e e' : Option ℕ → List Pair) (item item' : Option ℕ → List Cell → I) (rows : List MainRow)
    → FindsAgain d d' (first_ids (resource_ids rows)) → FindsAgain e e' (first_ids (scope_ids rows)) → RenewsItems d d' e e' item item' 0 rows
    → total 32 (weight_of_resource_group weigh) (regrouped d' e' item' (renewed rows)) ≡ total 32 (weight_of_resource_group weigh) (regrouped d e item rows)
unfolding renewed whole
renewed_weigh weigh d d' e e' item item' rows ofr ofs renews =
    let resources = first_ids (resource_ids rows) in
    let scopes = first_ids (scope_ids rows) in
    let has_r = all_numbered (resource_ids rows) in
    let has_s = all_numbered (scope_ids rows) in
    let agree = all_agree d d' e e' item item' resources scopes ofr ofs rows has_r has_s in
    groups_weigh weigh d' e' item' (renewed_from resources scopes 0 rows)
    ∙ (λ i. cost_r weigh d d' e e' item item' resources scopes 0 rows agree has_r i + cost_s weigh d d' e e' item item' resources scopes 0 rows agree has_r has_s i
    + cost_i weigh d d' e e' item item' resources scopes 0 rows renews i)
    ∙ sym (groups_weigh weigh d e item rows)

-- sorted pairs weigh the same
pub kept_pairs_weigh : (kind : Kind) (ps : List (PlacedIn ChildRow)) → has_attributes kind ≡ true → AreLow ps → (parent : Option ℕ)
    → total 32 weight_of_pair (children (λ id cells. pair_in cells) (part_rows unnumbered own_cells 0 ps) parent) ≡ total 32 weight_of_pair (pairs_in (kept_attributes kind ps) parent)
kept_pairs_weigh kind ps kinds low parent =
    let have = kept_has_rows kind ps kinds low in
    let t : Table = kept_attributes kind ps in
    reordered_weigh (λ id cells. pair_in cells) weight_of_pair (part_rows unnumbered own_cells 0 ps) have.0 have.2 parent
    ∙ ap (total 32 weight_of_pair) (ap (λ (rows : List ChildRow). children (λ id cells. pair_in cells) rows parent) have.1.are ∙ pairs_are t have.1.parents parent have.1.above)
