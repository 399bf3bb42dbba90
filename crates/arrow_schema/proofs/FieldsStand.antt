-- Fields whose tables are in a builder, one by one.
use Rattle.std.proofs.Common.{◌≡◌, ℕ, ◌+◌, ◌<◌, ◌≤◌, List, [], ◌∷◌, ◌++◌, All, length, take, get_or, length-append, sym, ap, ◌∙◌, subst, arith}
use Rattle.std.proofs.lemmas.List.{take_more}
use Rattle.std.proofs.lemmas.List.Elements.{All-push}
use Rattle.flat_tables.specs.Building.{Grows, StaysAt}
use Rattle.flat_tables.proofs.Standing.{stands_on}
use Rattle.arrow_schema.specs.declared.spec.FieldSpec.{FieldSpec}
use Rattle.arrow_schema.specs.Writing.{WritesField}

abbrev pub AllStand : List FieldSpec → List ℕ → List ℕ → Type 0
AllStand [] [] bytes = Unit {0}
AllStand (f ∷ fs) (place ∷ places) bytes = StaysAt (WritesField f) bytes place × AllStand fs places bytes
AllStand [] (place ∷ places) bytes = ⊥
AllStand (f ∷ fs) [] bytes = ⊥

pub all_stand_on : (fs : List FieldSpec) (places old new : List ℕ) → Grows old new → AllStand fs places old → AllStand fs places new
all_stand_on [] [] old new g h = h
all_stand_on (f ∷ fs) (place ∷ places) old new g h = (stands_on (WritesField f) old new place g h.0, all_stand_on fs places old new g h.1)
all_stand_on [] (place ∷ places) old new g h = h
all_stand_on (f ∷ fs) [] old new g h = h

pub one_more_stands : (fs : List FieldSpec) (places bytes : List ℕ) (f : FieldSpec) (place : ℕ) → AllStand fs places bytes → StaysAt (WritesField f) bytes place
    → AllStand (fs ++ f ∷ []) (places ++ place ∷ []) bytes
one_more_stands [] [] bytes f place h s = (s, tt)
one_more_stands (g ∷ fs) (other ∷ places) bytes f place h s = (h.0, one_more_stands fs places bytes f place h.1 s)
one_more_stands [] (other ∷ places) bytes f place h s = absurd h
one_more_stands (g ∷ fs) [] bytes f place h s = absurd h

-- a step of the loop
pub fields_step : (fs : List FieldSpec) (places more : List ℕ) (i : ℕ) (f : FieldSpec) (place : ℕ) (old new : List ℕ) → i < length fs → f ≡ get_or fs i f → more ≡ places ++ place ∷ [] → Grows old new
    → AllStand (take i fs) places old → StaysAt (WritesField f) new place → AllStand (take (i + 1) fs) more new
fields_step fs places more i f place old new lt is pushed g h s =
    let front : take i fs ++ f ∷ [] ≡ take (i + 1) fs = ap (λ (f : FieldSpec). take i fs ++ f ∷ []) is ∙ sym (take_more fs i f lt) in
    let one = one_more_stands (take i fs) places new f place (all_stand_on (take i fs) places old new g h) s in
    subst (λ (places : List ℕ). AllStand (take (i + 1) fs) places new) (sym pushed) (subst (λ (fs : List FieldSpec). AllStand fs (places ++ place ∷ []) new) front one)

pub within_step : (places more : List ℕ) (place : ℕ) (old new : List ℕ) → more ≡ places ++ place ∷ [] → Grows old new → All (λ place. place ≤ length old) places → place ≤ length new
    → All (λ place. place ≤ length new) more
within_step places more place old new pushed g h le = subst (All (λ (place : ℕ). place ≤ length new)) (sym pushed)
    (All-push (λ (place : ℕ). place ≤ length new) places place (λ k d lt. omega (arith, h k d lt, ap length g.whole, length-append g.more old)) le)
