-- Ids that aren't stored in runs: which rows continue a run says nothing of them.
use Rattle.std.proofs.Common.{◌≡◌, ℕ, Bool, List, [], ◌∷◌, drop, Option, None, Some, Result, IfOk, IfErr, inl, inr, refl}
use Rattle.std.specs.Prelude.{◌⊎◌}
use Rattle.std.proofs.lemmas.Result.{IfOk-weaker, IfErr-weaker}
use Rattle.otap_cells.specs.declared.column_ids.IdsRefusal.{IdsRefusal}
use Rattle.otap_cells.specs.declared.column_ids.IdsRefusal.TheVariants as refusal
use Rattle.otap_cells.specs.declared.ids.IdFault.TheVariants as fault
use Rattle.otap_cells.specs.declared.profile.Coding.{Coding}
use Rattle.otap_cells.specs.declared.profile.Coding.TheVariants as coding
use Rattle.otap_cells.specs.Ids.{IdsAfter}
use Rattle.otap_cells.specs.ColumnIds.{IdsOf, RefusesIds, stored_in}
use Rattle.otap_cells.specs.Tables.{Table, coding_in, greatest_in}

plain : (last before other : ℕ) (a b : List Bool) (ns ids : List (Option ℕ)) → IdsAfter coding.Plain last before a ns ids → IdsAfter coding.Plain last other b ns ids
plain last before other a b [] [] is = tt
plain last before other a b (None ∷ ns) (None ∷ ids) is = (is.0, plain last before other (drop 1 a) (drop 1 b) ns ids is.1)
plain last before other a b (Some n ∷ ns) (Some id ∷ ids) is = (is.0, is.1, plain last id id (drop 1 a) (drop 1 b) ns ids is.2)
plain last before other a b [] (id ∷ ids) is = absurd is
plain last before other a b (n ∷ ns) [] is = absurd is
plain last before other a b (None ∷ ns) (Some id ∷ ids) is = absurd is
plain last before other a b (Some n ∷ ns) (None ∷ ids) is = absurd is

pub delta_too : (last before : ℕ) (a b : List Bool) (ns ids : List (Option ℕ)) → IdsAfter coding.Delta last before a ns ids → IdsAfter coding.Delta last before b ns ids
delta_too last before a b [] [] is = tt
delta_too last before a b (None ∷ ns) (None ∷ ids) is = (is.0, delta_too last before (drop 1 a) (drop 1 b) ns ids is.1)
delta_too last before a b (Some n ∷ ns) (Some id ∷ ids) is = (is.0, is.1, delta_too last id (drop 1 a) (drop 1 b) ns ids is.2)
delta_too last before a b [] (id ∷ ids) is = absurd is
delta_too last before a b (n ∷ ns) [] is = absurd is
delta_too last before a b (None ∷ ns) (Some id ∷ ids) is = absurd is
delta_too last before a b (Some n ∷ ns) (None ∷ ids) is = absurd is

-- whichever of the two it is
either : (how : Coding) (last : ℕ) (a b : List Bool) (ns ids : List (Option ℕ)) → (how ≡ coding.Run → ⊥) → IdsAfter how last 0 a ns ids → IdsAfter how last 0 b ns ids
either coding.Plain last a b ns ids other is = plain last 0 0 a b ns ids is
either coding.Delta last a b ns ids other is = delta_too last 0 a b ns ids is
either coding.Run last a b ns ids other is = absurd (other refl)

ids_too : (t : Table) (column : ℕ) (a b : List Bool) (ids : List (Option ℕ)) → (coding_in t column ≡ coding.Run → ⊥) → IdsOf t column a ids → IdsOf t column b ids
ids_too t column a b ids other is = either (coding_in t column) (greatest_in t column) a b (stored_in t column) ids other is

refused_too : (t : Table) (column : ℕ) (a b : List Bool) (why : IdsRefusal) → ((ids : List (Option ℕ)) → IdsOf t column b ids → IdsOf t column a ids)
    → RefusesIds t column a why → RefusesIds t column b why
refused_too t column a b (refusal.Memory error) back refuses = tt
refused_too t column a b (refusal.Ids fault.PastType) back refuses = (refuses.0, λ ids are. refuses.1 ids (back ids are))
refused_too t column a b (refusal.Ids fault.NullParent) back refuses = refuses
refused_too t column a b (refusal.Ids fault.Duplicate) back refuses = refuses

module _ {V : Type 0} (list : V → List (Option ℕ)) (t : Table) (column : ℕ) (a b : List Bool) (r : Result V IdsRefusal) (told : Coding) (is : (told ≡ coding.Plain) ⊎ (told ≡ coding.Delta))
    (found : told ≡ coding_in t column) where
  never : coding_in t column ≡ coding.Run → ⊥
  never runs = go is
    where
      go : (told ≡ coding.Plain) ⊎ (told ≡ coding.Delta) → ⊥
      go (inl plainly) = cc (plainly, found, runs)
      go (inr by_distance) = cc (by_distance, found, runs)

  pub given_too : IfOk r (λ ids. IdsOf t column a (list ids)) → IfOk r (λ ids. IdsOf t column b (list ids))
  given_too given = IfOk-weaker r _ _ (λ ids. ids_too t column a b (list ids) never) given

  pub refusals_too : IfErr r (RefusesIds t column a) → IfErr r (RefusesIds t column b)
  refusals_too refuses = IfErr-weaker r _ _ (λ why. refused_too t column a b why (λ ids. ids_too t column b a ids never)) refuses
