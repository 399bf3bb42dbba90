-- What the parts of a list weigh in all.
use Rattle.std.proofs.Common.{◌≡◌, ◌∙◌, ℕ, ◌+◌, ◌*◌, ◌^◌, ◌≤◌, min, List, [], ◌∷◌, ◌++◌, length, ap, arith}
use Rattle.std.specs.Prelude.{All}
use Rattle.std.proofs.lemmas.List.Elements.{All-nil, All-cons, All-head, All-tail}
use Rattle.otlp_model.specs.Weight.{total}

pub total_append : {A : Type 0} (each : ℕ) (weigh : A → ℕ) (xs ys : List A) → total each weigh (xs ++ ys) ≡ total each weigh xs + total each weigh ys
total_append each weigh [] ys = omega arith
total_append each weigh (x ∷ xs) ys = let more = total_append each weigh xs ys in omega (arith, more)

-- how many there are, where each weighs at least 32
pub few_parts : {A : Type 0} (weigh : A → ℕ) (parts : List A) → 32 * length parts ≤ total 32 weigh parts
few_parts weigh [] = omega arith
few_parts weigh (part ∷ parts) = let more = few_parts weigh parts in omega (arith, more)

-- what can be said of a part that weighs at most this can be said of each part, where all of them weigh no more
pub parts_can : {A : Type 0} (IsPart OfPart : A → Type 0) (weigh : A → ℕ) (n : ℕ) → ((part : A) → IsPart part → weigh part ≤ n → OfPart part)
    → (parts : List A) → All IsPart parts → total 32 weigh parts ≤ n → All OfPart parts
parts_can IsPart OfPart weigh n can [] all few = All-nil OfPart
parts_can IsPart OfPart weigh n can (part ∷ parts) all few =
    All-cons OfPart part parts (can part (All-head IsPart part parts all) (omega arith)) (parts_can IsPart OfPart weigh n can parts (All-tail IsPart part parts all) (omega arith))

-- what is below has the weight that is asked for, where each part has
pub below_weighs : {C : Type 0} (below : ℕ) (weigh weight : C → ℕ) (parts : List C) → ((part : C) → weigh part ≡ weight part) → below ≡ min (total 32 weigh parts) (2 ^ 63)
    → below ≡ min (total 32 weight parts) (2 ^ 63)
below_weighs {C = C} below weigh weight parts same is = is ∙ ap (λ (w : C → ℕ). min (total 32 w parts) (2 ^ 63)) (λ i part. same part i)
