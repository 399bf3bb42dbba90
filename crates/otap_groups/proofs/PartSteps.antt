-- Rows that are given by their places, one more or one fewer.
use Rattle.std.proofs.Common.{◌≡◌, ℕ, suc, ◌+◌, ◌-◌, ◌<◌, List, [], ◌∷◌, ◌++◌, map, sym, ◌∙◌, ap, append_assoc, arith}
use Rattle.otap_groups.specs.Inside.{part}

pub part_next : {A : Type 0} (row : ℕ → A) (place to : ℕ) → place < to → part row place (to - place) ≡ row place ∷ part row (place + 1) (to - (place + 1))
part_next row place to within =
    let e : to - place ≡ suc (to - (place + 1)) = omega arith in
    ap (part row place) e

pub part_over : {A : Type 0} (row : ℕ → A) (to : ℕ) → part row to (to - to) ≡ []
part_over row to =
    let e : to - to ≡ 0 = omega arith in
    ap (part row to) e

-- one more item
pub pushed : {A I : Type 0} (f : A → I) (row : ℕ → A) (place to : ℕ) (old new : List I) (x : I) (whole : List I) → place < to → x ≡ f (row place)
    → new ≡ old ++ x ∷ [] → old ++ map f (part row place (to - place)) ≡ whole → new ++ map f (part row (place + 1) (to - (place + 1))) ≡ whole
pushed f row place to old new x whole within is grew so_far =
    rw (grew, is) (append_assoc old (f (row place) ∷ []) (map f (part row (place + 1) (to - (place + 1))))
    ∙ sym (ap (λ rows. old ++ map f rows) (part_next row place to within)) ∙ so_far)
