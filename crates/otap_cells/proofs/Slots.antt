-- A column's slots over its bytes.
use Rattle.std.proofs.Common.{◌≡◌, ℕ, zero, suc, ◌+◌, ◌-◌, ◌≤◌, List, [], ◌∷◌, ◌++◌, length, get_or, take, set, replicate, map, refl, sym, ◌∙◌, ap, arith, length-append}
use Rattle.std.specs.Prelude.{All}
use Rattle.std.proofs.Math.Seq.{set-append_seam}
use Rattle.std.proofs.lemmas.List.{length-map, take_all, map-append, map-set}
use Rattle.std.proofs.lemmas.List.Elements.{All-set, All-append, All-replicate}
use Rattle.lists.proofs.Parts.{part_stays}
use Rattle.otap_cells.specs.declared.kept.KeptCell.{KeptCell}
use Rattle.otap_cells.specs.declared.kept.KeptCell.TheVariants as slot
use Rattle.otap_cells.specs.Cells.{Cell, null, bytes}
use Rattle.otap_cells.specs.Inside.{cell_of_slot, reach}

pub cell_stays : (old more : List ℕ) (s : KeptCell) → reach s ≤ length old → cell_of_slot (old ++ more) s ≡ cell_of_slot old s
cell_stays old more slot.Null h = refl
cell_stays old more (slot.Num n) h = refl
cell_stays old more (slot.Bits n) h = refl
cell_stays old more (slot.Flag b) h = refl
cell_stays old more (slot.Bytes from len) h = ap bytes (part_stays from len old more h)

pub cells_stay : (old more : List ℕ) (ss : List KeptCell) → All (λ s. reach s ≤ length old) ss → map (cell_of_slot (old ++ more)) ss ≡ map (cell_of_slot old) ss
cells_stay old more [] h = refl
cells_stay old more (s ∷ ss) h =
    ap (λ cell. cell ∷ map (cell_of_slot (old ++ more)) ss) (cell_stays old more s (h 0 s (omega arith)))
    ∙ ap (λ cells. cell_of_slot old s ∷ cells) (cells_stay old more ss (λ k d lt. h (suc k) d (omega arith)))

pub nulls_of : (kept : List ℕ) (n : ℕ) → map (cell_of_slot kept) (replicate n slot.Null) ≡ replicate n null
nulls_of kept zero = refl
nulls_of kept (suc n) = ap (λ cells. null ∷ cells) (nulls_of kept n)

-- the cell of the slot in a row, and how far it reaches
pub slot_reads : (kept : List ℕ) (ss : List KeptCell) (row : ℕ) → cell_of_slot kept (get_or ss row slot.Null) ≡ get_or (map (cell_of_slot kept) ss) row null
slot_reads kept [] row = refl
slot_reads kept (s ∷ ss) zero = refl
slot_reads kept (s ∷ ss) (suc row) = slot_reads kept ss row

pub slot_within : (kept : List ℕ) (ss : List KeptCell) (row : ℕ) → All (λ s. reach s ≤ length kept) ss → reach (get_or ss row slot.Null) ≤ length kept
slot_within kept [] row within = omega arith
slot_within kept (s ∷ ss) zero within = within 0 s (omega arith)
slot_within kept (s ∷ ss) (suc row) within = slot_within kept ss row (λ k d lt. within (suc k) d (omega arith))

-- bytes that come after leave the cells of the slots
pub as_before : (old more kept : List ℕ) (ss ts : List KeptCell) (cells : List Cell)
    → All (λ t. reach t ≤ length old) ss → kept ≡ old ++ more → ts ≡ ss → map (cell_of_slot old) ss ≡ cells → map (cell_of_slot kept) ts ≡ cells
as_before old more kept ss ts cells within longer same is = rw (longer, same) (cells_stay old more ss within ∙ is)

-- the cells with one written in a row, after nulls where there were too few
pub one_written : (old more kept : List ℕ) (ss ts : List KeptCell) (cells : List Cell) (row n : ℕ) (s : KeptCell) (x : Cell)
    → All (λ t. reach t ≤ length old) ss → kept ≡ old ++ more → map (cell_of_slot old) ss ≡ cells → length cells ≤ row + 1 → n ≡ length ss
    → ts ≡ take (row + 1) ss ++ replicate (row + 1 - n) slot.Null → cell_of_slot kept s ≡ x
    → map (cell_of_slot kept) (set ts row s) ≡ set (cells ++ replicate (row + 1 - length cells) null) row x
one_written old more kept ss ts cells row n s x within longer is short long padded there =
    let many : length cells ≡ length ss = ap length (sym is) ∙ length-map ss (cell_of_slot old) in
    let pad : row + 1 - n ≡ row + 1 - length cells = omega arith in
    let front : map (cell_of_slot kept) (take (row + 1) ss) ≡ cells
    = ap (map (cell_of_slot kept)) (take_all (row + 1) ss (omega arith)) ∙ as_before old more kept ss ss cells within longer refl is in
    let all : map (cell_of_slot kept) ts ≡ cells ++ replicate (row + 1 - length cells) null
    = ap (map (cell_of_slot kept)) padded
    ∙ map-append (cell_of_slot kept) (take (row + 1) ss) (replicate (row + 1 - n) slot.Null)
    ∙ ap (λ front. front ++ map (cell_of_slot kept) (replicate (row + 1 - n) slot.Null)) front
    ∙ ap (λ back. cells ++ back) (nulls_of kept (row + 1 - n) ∙ ap (λ m. replicate m null) pad) in
    map-set (cell_of_slot kept) ts row s ∙ ap (λ xs. set xs row (cell_of_slot kept s)) all ∙ ap (set (cells ++ replicate (row + 1 - length cells) null) row) there

-- and each slot still lies within the bytes
pub all_within : (old more kept : List ℕ) (ss ts : List KeptCell) (cells : List Cell) (row pad : ℕ) (s : KeptCell)
    → All (λ t. reach t ≤ length old) ss → kept ≡ old ++ more → map (cell_of_slot old) ss ≡ cells → length cells ≤ row + 1
    → ts ≡ take (row + 1) ss ++ replicate pad slot.Null → reach s ≤ length kept → All (λ t. reach t ≤ length kept) (set ts row s)
all_within old more kept ss ts cells row pad s within longer is short padded there =
    let many : length cells ≡ length ss = ap length (sym is) ∙ length-map ss (cell_of_slot old) in
    let few : length ss ≤ row + 1 = omega arith in
    let long : length kept ≡ length old + length more = ap length longer ∙ length-append old more in
    let near : (t : KeptCell) → reach t ≤ length old → reach t ≤ length kept = λ t h. omega arith in
    All-set (λ t. reach t ≤ length kept) ts row s there
    (rw (padded, take_all (row + 1) ss few)
    (All-append (λ t. reach t ≤ length kept) ss (replicate pad slot.Null)
    (λ k d lt. near (get_or ss k d) (within k d lt))
    (All-replicate (λ t. reach t ≤ length kept) pad slot.Null (omega arith))))

-- the cells with one written right after them
pub one_pushed : (old more kept : List ℕ) (ss ts : List KeptCell) (cells : List Cell) (row : ℕ) (s : KeptCell) (x : Cell)
    → All (λ t. reach t ≤ length old) ss → kept ≡ old ++ more → map (cell_of_slot old) ss ≡ cells → row ≡ length ss → ts ≡ ss ++ s ∷ [] → cell_of_slot kept s ≡ x
    → map (cell_of_slot kept) ts ≡ set (cells ++ replicate (row + 1 - length cells) null) row x
one_pushed old more kept ss ts cells row s x within longer is last pushed there =
    let many : length cells ≡ length ss = ap length (sym is) ∙ length-map ss (cell_of_slot old) in
    let one : row + 1 - length cells ≡ 1 = omega arith in
    let here : row ≡ length cells = omega arith in
    ap (map (cell_of_slot kept)) pushed ∙ map-append (cell_of_slot kept) ss (s ∷ [])
    ∙ ap (λ front. front ++ cell_of_slot kept s ∷ []) (as_before old more kept ss ss cells within longer refl is)
    ∙ ap (λ y. cells ++ y ∷ []) there
    ∙ sym (ap (λ n. set (cells ++ replicate n null) row x) one ∙ ap (λ n. set (cells ++ null ∷ []) n x) here ∙ set-append_seam cells null [] x)

pub pushed_within : (old more kept : List ℕ) (ss ts : List KeptCell) (s : KeptCell)
    → All (λ t. reach t ≤ length old) ss → kept ≡ old ++ more → ts ≡ ss ++ s ∷ [] → reach s ≤ length kept → All (λ t. reach t ≤ length kept) ts
pushed_within old more kept ss ts s within longer pushed there =
    let long : length kept ≡ length old + length more = ap length longer ∙ length-append old more in
    let near : (t : KeptCell) → reach t ≤ length old → reach t ≤ length kept = λ t h. omega arith in
    rw pushed
    (All-append (λ t. reach t ≤ length kept) ss (s ∷ [])
    (λ k d lt. near (get_or ss k d) (within k d lt))
    (All-replicate (λ t. reach t ≤ length kept) 1 s there))
