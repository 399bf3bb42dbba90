-- What is found below the parents that are kept, before attributes are sorted: pairs, and parts with what is below them.
use Rattle.std.proofs.Common.{◌≡◌, ℕ, suc, ◌+◌, List, [], ◌∷◌, get_or, Option, None, Some, refl, ◌∙◌, ap, arith}
use Rattle.otlp_model.specs.declared.value.Pair.{Pair}
use Rattle.otap_cells.specs.declared.payload.Kind.{Kind}
use Rattle.otap_cells.specs.Cells.{Cell}
use Rattle.otap_cells.specs.Tables.{Table}
use Rattle.otap_groups.specs.Children.{children, numbered, unnumbered}
use Rattle.otap_groups.specs.Flat.{PlacedIn, part_rows}
use Rattle.otap_groups.specs.Rows.{ChildRow, MainRow}
use Rattle.otap_attrs.specs.Index.{attribute_rows_in, pairs_in}
use Rattle.otap_attrs.specs.Values.{pair_in}
use Rattle.otap_kept.specs.Rows.{former_ids, own_cells, own_ids, parts_under, under}
use Rattle.otap_kept.specs.Tables.{kept_attributes}
use Rattle.otap_kept.proofs.ChildrenBelow.{Renews, children_by_number, children_by_place, parts_found, renews_by_place}
use Rattle.otap_kept.proofs.KeptEntries.{FindsAgain, RenewsItems}
use Rattle.otap_kept.proofs.NewNumbers.{AreApart}

abbrev item_of_pair : Option ℕ → List Cell → Pair
item_of_pair id cells = pair_in cells

-- the pairs of kept attributes before they are sorted, by the new numbers of their parents
abbrev pub pairs_under : List (Option ℕ) → Table → Option ℕ → List Pair
pairs_under ids t = children item_of_pair (part_rows unnumbered own_cells 0 (under ids (attribute_rows_in t)))

-- the table of the attributes below parents
abbrev pub attributes_under : Kind → List (Option ℕ) → Table → Table
attributes_under kind ids t = kept_attributes kind (under ids (attribute_rows_in t))

renews_pairs : (k : ℕ) (ps : List (PlacedIn ChildRow)) → Renews item_of_pair item_of_pair unnumbered k ps
renews_pairs k [] = tt
renews_pairs k (p ∷ ps) = (λ cells. refl, renews_pairs (suc k) ps)

pub finds_pairs : (ids : List (Option ℕ)) (t : Table) → FindsAgain (pairs_in t) (pairs_under ids t) ids
finds_pairs ids t = (
  refl,
  λ p n is. children_by_number item_of_pair item_of_pair unnumbered ids (attribute_rows_in t) (under ids (attribute_rows_in t)) (λ n. refl)
      (renews_pairs 0 (under ids (attribute_rows_in t))) p n is,
)

pub pairs_by_place : (ids : List (Option ℕ)) (t : Table) → AreApart ids → (k : ℕ) → pairs_under ids t (Some k) ≡ pairs_in t (get_or ids k None)
pairs_by_place ids t apart k =
    children_by_place item_of_pair item_of_pair unnumbered ids (attribute_rows_in t) (under ids (attribute_rows_in t)) (λ n. refl)
    (renews_pairs 0 (under ids (attribute_rows_in t))) apart k

-- the parts below kept parents before attributes are sorted, by the new numbers of their parents; `before` finds what is below a part
abbrev pub parts_before : {C D : Type 0} → (List Cell → D → C) → List (Option ℕ) → List ChildRow → (Option ℕ → D) → Option ℕ → List C
parts_before part ids rows before = children (λ id cells. part cells (before id)) (part_rows numbered own_cells 0 (parts_under ids rows))

-- where what is below a part is found by its index, the parts below an index are those of the id that is there
pub parts_by_place : {C D : Type 0} (part : List Cell → D → C) (ids : List (Option ℕ)) (rows : List ChildRow) (found before : Option ℕ → D) → AreApart ids
    → ((k : ℕ) → before (Some k) ≡ found (get_or (former_ids (parts_under ids rows)) k None)) → (k : ℕ)
    → parts_before part ids rows before (Some k) ≡ children (λ id cells. part cells (found id)) rows (get_or ids k None)
parts_by_place part ids rows found before apart below k =
    children_by_place (λ id cells. part cells (found id)) (λ id cells. part cells (before id)) numbered ids rows (parts_under ids rows)
    (λ n. parts_found ids n rows) (renews_by_place part found before (parts_under ids rows) below) apart k

-- items below which things are found by index are read again with their new numbers
pub renews_items : {I D : Type 0} (d d' e e' : Option ℕ → List Pair) (item : List Cell → D → I) (found before : Option ℕ → D) (n : ℕ) (rows : List MainRow)
    → ((k : ℕ) → before (Some (n + k)) ≡ found (get_or (own_ids rows) k None))
    → RenewsItems d d' e e' (λ id cells. item cells (found id)) (λ id cells. item cells (before id)) n rows
renews_items d d' e e' item found before n [] agree = tt
renews_items d d' e e' item found before n (row ∷ rows) agree =
    let here : before (Some n) ≡ found row.id = ap (λ m. before (Some m)) (omega arith) ∙ agree 0 in
    (λ cells. ap (item cells) here, renews_items d d' e e' item found before (suc n) rows (λ k. ap (λ m. before (Some m)) (omega arith) ∙ agree (suc k)))
