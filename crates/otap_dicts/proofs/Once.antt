-- The distinct values of a list: the same values, each once, and more of them as the list grows.
use Rattle.std.proofs.Common.{◌≡◌, ℕ, Bool, true, false, ◌||◌, if◌then◌else◌, List, [], ◌∷◌, ◌++◌, length, drop, fold, refl, sym, ap, ◌∙◌, append_assoc}
use Rattle.std.specs.Prelude.{bytes_eq}
use Rattle.std.specs.List.{list_any, IsDistinct}
use Rattle.std.proofs.Math.Bool.{or-false, or_assoc}
use Rattle.std.proofs.lemmas.Cmp.{nat_list_eq_equiv}
use Rattle.std.proofs.lemmas.List.{append-nil}
use Rattle.std.proofs.lemmas.List.Folds.{list_any-append}
use Rattle.std.proofs.lemmas.List.Sums.{fold-append}
use Rattle.std.proofs.Math.Seq.{drop-append_seam}
use Rattle.std.proofs.lemmas.Map.Keys.{IsDistinct-push}
use Rattle.std.proofs.lemmas.Map.Steps.{list_any_congr}
use Rattle.otap_dicts.specs.Forms.{with_value, distinct}

-- one more value
once-step : (has : Bool) (values : List (List ℕ)) (value : List ℕ) → list_any (bytes_eq value) values ≡ has → IsDistinct bytes_eq values → IsDistinct bytes_eq (if has then values else values ++ value ∷ [])
once-step true values value is once = once
once-step false values value is once = IsDistinct-push nat_list_eq_equiv values value once is

once-all : (values more : List (List ℕ)) → IsDistinct bytes_eq values → IsDistinct bytes_eq (fold with_value values more)
once-all values [] once = once
once-all values (value ∷ more) once = once-all (with_value values value) more (once-step (list_any (bytes_eq value) values) values value refl once)

pub once-law : (values : List (List ℕ)) → IsDistinct bytes_eq (distinct values)
unfolding distinct IsDistinct
once-law values = once-all [] values tt

-- x is among the values
found : (x : List ℕ) (has : Bool) (values : List (List ℕ)) (value : List ℕ) → list_any (bytes_eq value) values ≡ has
    → list_any (bytes_eq x) (if has then values else values ++ value ∷ []) ≡ (list_any (bytes_eq x) values || bytes_eq x value)
found x true values value is = there (bytes_eq x value) refl
  where
    there : (same : Bool) → bytes_eq x value ≡ same → list_any (bytes_eq x) values ≡ (list_any (bytes_eq x) values || bytes_eq x value)
    there true same = rw (same, list_any_congr nat_list_eq_equiv x value values same, is) refl
    there false same = rw same (sym (or-false (list_any (bytes_eq x) values)))
found x false values value is = list_any-append (bytes_eq x) values (value ∷ []) ∙ ap (λ (b : Bool). list_any (bytes_eq x) values || b) (or-false (bytes_eq x value))

found-all : (x : List ℕ) (values more : List (List ℕ)) → list_any (bytes_eq x) (fold with_value values more) ≡ (list_any (bytes_eq x) values || list_any (bytes_eq x) more)
found-all x values [] = sym (or-false (list_any (bytes_eq x) values))
found-all x values (value ∷ more) =
    found-all x (with_value values value) more ∙ ap (λ (b : Bool). b || list_any (bytes_eq x) more) (found x (list_any (bytes_eq value) values) values value refl)
    ∙ or_assoc (list_any (bytes_eq x) values) (bytes_eq x value) (list_any (bytes_eq x) more)

pub members-law : (values : List (List ℕ)) (value : List ℕ) → list_any (bytes_eq value) (distinct values) ≡ list_any (bytes_eq value) values
unfolding distinct
members-law values value = found-all value [] values

-- values are only added at the end
one-grown : (has : Bool) (values : List (List ℕ)) (value : List ℕ) → (rest : List (List ℕ)) × ((if has then values else values ++ value ∷ []) ≡ values ++ rest)
one-grown true values value = ([], sym (append-nil values))
one-grown false values value = (value ∷ [], refl)

grown : (values more : List (List ℕ)) → (rest : List (List ℕ)) × (fold with_value values more ≡ values ++ rest)
grown values [] = ([], sym (append-nil values))
grown values (value ∷ more) =
    let one = one-grown (list_any (bytes_eq value) values) values value in
    let all = grown (with_value values value) more in
    (one.0 ++ all.0, all.1 ∙ ap (λ (list : List (List ℕ)). list ++ all.0) one.1 ∙ append_assoc values one.0 all.0)

pub grows-law : (values more : List (List ℕ)) → distinct (values ++ more) ≡ distinct values ++ drop (length (distinct values)) (distinct (values ++ more))
unfolding distinct
grows-law values more =
    let old = fold with_value [] values in
    let all = grown old more in
    let is : fold with_value [] (values ++ more) ≡ old ++ all.0 = fold-append with_value [] values more ∙ all.1 in
    is ∙ ap (λ (rest : List (List ℕ)). old ++ rest) (sym (ap (drop (length old)) is ∙ drop-append_seam old all.0))
