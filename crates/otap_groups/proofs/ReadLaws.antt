-- How a signal shows that its parts are read from their cells as they are.
use Rattle.std.proofs.Common.{◌≡◌, ℕ, suc, List, [], ◌∷◌, Option, map, ap, ◌∙◌}
use Rattle.std.specs.List.{AllByRecursion, flat_map}
use Rattle.otap_cells.specs.Cells.{Cell}
use Rattle.otap_groups.specs.Children.{Agree, ReadsEach, children, numbered}
use Rattle.otap_groups.specs.Flat.{part_rows, placed}
use Rattle.otap_groups.proofs.Joins.{agrees}

-- parts with nothing below
pub reads_alone : {C : Type 0} (own : ℕ → Option ℕ) (cells_of : C → List Cell) (item : Option ℕ → List Cell → C) (P : C → Type 0)
    → ((n : ℕ) (part : C) → P part → item (own n) (cells_of part) ≡ part) → (k : ℕ) (parts : List C) → AllByRecursion P parts → ReadsEach own cells_of item k parts
reads_alone own cells_of item P back k [] all = tt
reads_alone own cells_of item P back k (part ∷ parts) all = (back k part all.0, reads_alone own cells_of item P back (suc k) parts all.1)

-- parts with something below, which is found by their ids
pub reads_with : {C D : Type 0} (cells_of : C → List Cell) (item : List Cell → D → C) (below : C → D) (lookup : Option ℕ → D) (P : C → Type 0)
    → ((part : C) → P part → item (cells_of part) (below part) ≡ part) → (k : ℕ) (parts : List C) → AllByRecursion P parts → Agree lookup k (map below parts)
    → ReadsEach numbered cells_of (λ id cells. item cells (lookup id)) k parts
reads_with cells_of item below lookup P back k [] all agree = tt
reads_with cells_of item below lookup P back k (part ∷ parts) all agree =
    (ap (item (cells_of part)) agree.0 ∙ back part all.0, reads_with cells_of item below lookup P back (suc k) parts all.1 agree.1)

-- one level further: the parts of each parent are found, with what is below them
pub agrees_with : {C D : Type 0} (cells_of : C → List Cell) (item : List Cell → D → C) (below : C → D) (lookup : Option ℕ → D) (P : C → Type 0)
    → ((part : C) → P part → item (cells_of part) (below part) ≡ part) → (lists : List (List C)) → AllByRecursion P (flat_map (λ (parts : List C). parts) lists)
    → Agree lookup 0 (map below (flat_map (λ (parts : List C). parts) lists))
    → Agree (children (λ id cells. item cells (lookup id)) (part_rows numbered cells_of 0 (placed lists))) 0 lists
agrees_with {C = C} cells_of item below lookup P back lists all agree =
    agrees numbered cells_of (λ id cells. item cells (lookup id)) lists (reads_with cells_of item below lookup P back 0 (flat_map (λ (parts : List C). parts) lists) all agree)

-- two things below, found each in its way
pub agree_two : {A C D : Type 0} (f : Option ℕ → C) (g : Option ℕ → D) (p : A → C) (q : A → D) (k : ℕ) (xs : List A) → Agree f k (map p xs) → Agree g k (map q xs)
    → Agree {C = C × D} (λ id. (f id, g id)) k (map (λ x. (p x, q x)) xs)
agree_two f g p q k [] a b = tt
agree_two f g p q k (x ∷ xs) a b = ((λ i. (a.0 i, b.0 i)), agree_two f g p q (suc k) xs a.1 b.1)
