-- Lists: what is found in them, and lists whose elements are changed one after the other.
use Rattle.std.proofs.Common.{◌≡◌, inl, inr, ℕ, ◌+◌, ◌<◌, ◌≤◌, suc, zero, Bool, true, List, [], ◌∷◌, ◌++◌, length, get_or, Some, refl, sym, ap, ◌∙◌, subst, arith}
use Rattle.std.specs.Prelude.{find, map, sum_by, slice_set}
use Rattle.std.specs.List.{AllByRecursion, AllZip}
use Rattle.std.proofs.lemmas.Bool.{cases_Bool, cases_eq}
use Rattle.std.proofs.lemmas.List.{get_or-set_same, get_or-set_other, get_or_default}
use Rattle.std.proofs.lemmas.List.Sums.{sum_by-cons}

-- what is found is in the list, and passes the test
pub record Finds {X : Type 0} (test : X → Bool) (xs : List X) (x : X) : Type 0 where
  pub at : ℕ
  pub inside : at < length xs
  pub is : (d : X) → get_or xs at d ≡ x
  pub passes : test x ≡ true

pub finds : {X : Type 0} (test : X → Bool) (xs : List X) (x : X) → find test xs ≡ Some x → Finds test xs x
finds test [] x found = absurd (cc found)
finds {X} test (y ∷ ys) x found =
    elim (cases_Bool (test y)) [
      | inl passing ↦
          let same : y ≡ x = cc (rw passing at found) in
          record { at = 0; inside = omega arith; is = λ d. same; passes = rw (← same) passing }
      | inr failing ↦
          let later : Finds test ys x = finds test ys x (rw failing at found) in
          record { at = suc later.at; inside = omega (arith, later.inside); is = λ d. later.is d; passes = later.passes }
    ]

-- where one passes, one is found
pub found_some : {X : Type 0} (test : X → Bool) (xs : List X) (k : ℕ) (d : X) → k < length xs → test (get_or xs k d) ≡ true → (x : X) × (find test xs ≡ Some x)
found_some test [] k d inside passes = absurd (omega arith)
found_some {X} test (y ∷ ys) zero d inside passes = (y, rw passes refl)
found_some {X} test (y ∷ ys) (suc k) d inside passes =
    let later : (x : X) × (find test ys ≡ Some x) = found_some test ys k d (omega arith) passes in
    elim (cases_Bool (test y)) [
      | inl passing ↦ (y, rw passing refl)
      | inr failing ↦ (later.0, rw failing later.1)
    ]

-- one more pair
pub zip-push : {A B : Type 0} (R : A → B → Type 0) (xs : List A) (ys : List B) (x : A) (y : B) → AllZip R xs ys → R x y → AllZip R (xs ++ x ∷ []) (ys ++ y ∷ [])
zip-push R [] [] x y zip here = (here, tt)
zip-push R [] (b ∷ ys) x y zip here = absurd zip
zip-push R (a ∷ xs) [] x y zip here = absurd zip
zip-push R (a ∷ xs) (b ∷ ys) x y zip here = (zip.0, zip-push R xs ys x y zip.1 here)

pub zip-length : {A B : Type 0} (R : A → B → Type 0) (xs : List A) (ys : List B) → AllZip R xs ys → length xs ≡ length ys
zip-length R [] [] zip = refl
zip-length R [] (b ∷ ys) zip = absurd zip
zip-length R (a ∷ xs) [] zip = absurd zip
zip-length R (a ∷ xs) (b ∷ ys) zip = ap (λ n. suc n) (zip-length R xs ys zip.1)

-- the elements of a list are those that another list shows of its own
pub map_same : {A B C : Type 0} (f : A → C) (g : B → C) (xs : List A) (ys : List B) → length xs ≡ length ys
    → ((k : ℕ) (a : A) (b : B) → k < length xs → f (get_or xs k a) ≡ g (get_or ys k b)) → map f xs ≡ map g ys
map_same f g [] [] long same = refl
map_same f g [] (y ∷ ys) long same = absurd (omega arith)
map_same f g (x ∷ xs) [] long same = absurd (omega arith)
map_same f g (x ∷ xs) (y ∷ ys) long same =
    let here : f x ≡ g y = same 0 x y (omega arith) in
    let later : map f xs ≡ map g ys = map_same f g xs ys (omega arith) (λ k a b within. same (suc k) a b (omega arith)) in
    λ i. here i ∷ later i

pub sum_same : {A : Type 0} (f g : A → ℕ) (xs : List A) → ((k : ℕ) (d : A) → k < length xs → f (get_or xs k d) ≡ g (get_or xs k d)) → sum_by f xs ≡ sum_by g xs
sum_same f g [] same = refl
sum_same f g (x ∷ xs) same =
    sum_by-cons f x xs ∙ omega (arith, same 0 x (omega arith), sum_same f g xs (λ k d within. same (suc k) d (omega arith)), sum_by-cons g x xs)

pub all_push : {X : Type 0} (P : X → Type 0) (xs : List X) (x : X) → AllByRecursion P xs → P x → AllByRecursion P (xs ++ x ∷ [])
all_push P [] x all here = (here, tt)
all_push P (y ∷ xs) x all here = (all.0, all_push P xs x all.1 here)

-- ---- a list whose elements are changed one after the other

pub record UpTo {A : Type 0} (R : A → A → Type 0) (old new : List A) (place : ℕ) : Type 0 where
  pub done : (i : ℕ) (d : A) → i < place → R (get_or old i d) (get_or new i d)
  pub rest : (i : ℕ) (d : A) → place ≤ i → get_or new i d ≡ get_or old i d

pub up_to_none : {A : Type 0} (R : A → A → Type 0) (xs : List A) → UpTo R xs xs 0
up_to_none R xs = record { done = λ i d below. absurd (omega arith); rest = λ i d above. refl }

pub up_to_more : {A : Type 0} (R : A → A → Type 0) (old xs : List A) (place : ℕ) (e new : A) → length xs ≡ length old → place < length xs → R (get_or xs place e) new → UpTo R old xs place
    → UpTo R old (slice_set xs place new) (place + 1)
up_to_more {A} R old xs place e new long inside changes to = record {
  done = λ i d below.
      elim (cases_eq i place) [
        | inl here ↦
            let was : get_or xs place e ≡ get_or old place d = to.rest place e (omega arith) ∙ get_or_default old place e d (omega (arith, long)) in
            subst (λ (k : ℕ). R (get_or old k d) (get_or (slice_set xs place new) k d)) (sym here)
            (subst (λ (y : A). R (get_or old place d) y) (sym (get_or-set_same xs place new d inside)) (subst (λ (y : A). R y new) was changes))
        | inr other ↦ subst (λ (y : A). R (get_or old i d) y) (sym (get_or-set_other xs place i new d other)) (to.done i d (omega (arith, other)))
      ];
  rest = λ i d above. get_or-set_other xs place i new d (λ same. absurd (omega (arith, same, above))) ∙ to.rest i d (omega arith);
}
