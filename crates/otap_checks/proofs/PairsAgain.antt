-- Pairs that are written for parents are found again, in whatever order their rows come.
use Rattle.std.proofs.Common.{◌≡◌, ℕ, ◌≤◌, ◌^◌, true, List, [], ◌∷◌, Option, length, map, drop, ap, ◌∙◌, subst}
use Rattle.std.specs.Prelude.{All, IsTrue}
use Rattle.std.specs.List.{AllByRecursion, flat_map}
use Rattle.std.proofs.lemmas.Bool.{and_parts}
use Rattle.std.proofs.lemmas.List.Elements.{All-head, All-tail}
use Rattle.lists.proofs.Every.{every_append}
use Rattle.otlp_model.specs.Depth.{depth_of}
use Rattle.otlp_model.specs.Limits.{depth_limit}
use Rattle.otlp_model.specs.Profile.{IsProfilePair}
use Rattle.otlp_model.specs.Real.{are_real_pairs, is_real_value}
use Rattle.otlp_model.specs.Same.{SameOften}
use Rattle.otlp_model.specs.Weight.{total, weight_of_pair}
use Rattle.otlp_model.specs.declared.groups.Resource.{Resource}
use Rattle.otlp_model.specs.declared.groups.Scope.{Scope}
use Rattle.otlp_model.specs.declared.value.Pair.{Pair}
use Rattle.otap_cells.specs.declared.payload.Kind.{Kind}
use Rattle.otap_cells.specs.Cells.{Cell}
use Rattle.otap_cells.specs.Continuing.{has_attributes}
use Rattle.otap_cells.proofs.ScalarLaws.{text_back}
use Rattle.otap_groups.specs.Children.{Agree, children, unnumbered}
use Rattle.otap_groups.specs.Flat.{part_rows, placed}
use Rattle.otap_groups.specs.Rows.{ChildRow, child_rows}
use Rattle.otap_groups.proofs.Joins.{agrees}
use Rattle.otap_groups.proofs.LightGroups.{reordered_weigh}
use Rattle.otap_groups.proofs.OrderLaws.{reordered}
use Rattle.otap_groups.proofs.ReadLaws.{reads_alone}
use Rattle.otap_attrs.specs.Tables.{attribute_table}
use Rattle.otap_attrs.specs.Values.{pair_cells, pair_in}
use Rattle.otap_attrs.proofs.TableLaws.{table_has_rows}
use Rattle.otap_attrs.proofs.ValueLaws.{value_again}
use Rattle.otap_attrs.specs.Index.{pairs_in}
use Rattle.otap_attrs.proofs.TablePairs.{ids_are}

abbrev pub IsBackPair : Pair → Type 0
IsBackPair pair = pair_in (pair_cells pair) ≡ pair

abbrev pub AreBack : List Pair → Type 0
AreBack pairs = AllByRecursion IsBackPair pairs

abbrev item_of_pair : Option ℕ → List Cell → Pair
item_of_pair id cells = pair_in cells

pair_back : (pair : Pair) → IsTrue (is_real_value pair.value) → depth_of pair.value ≤ depth_limit → IsBackPair pair
unfolding pair_in
pair_back pair real deep = λ i. record pair { key = text_back pair.key i; value = value_again pair.value real deep i }

pub pairs_back : (pairs : List Pair) → IsTrue (are_real_pairs pairs) → All IsProfilePair pairs → AreBack pairs
pairs_back [] real deep = tt
pairs_back (pair ∷ pairs) real deep =
    let both = and_parts _ _ real in
    (pair_back pair (and_parts _ _ both.0).1 (All-head IsProfilePair pair pairs deep), pairs_back pairs both.1 (All-tail IsProfilePair pair pairs deep))

abbrev pub IsBackResource : Resource → Type 0
IsBackResource resource = AreBack resource.pairs

abbrev pub IsBackScope : Scope → Type 0
IsBackScope scope = AreBack scope.pairs

-- what holds of each element of each list holds of all
pub every_list : {A : Type 0} (P : A → Type 0) (lists : List (List A)) → All (λ xs. AllByRecursion P xs) lists → AllByRecursion P (flat_map (λ (xs : List A). xs) lists)
every_list P [] all = tt
every_list {A = A} P (xs ∷ lists) all =
    every_append P xs (flat_map (λ (xs : List A). xs) lists) (All-head (λ xs. AllByRecursion P xs) xs lists all) (every_list P lists (All-tail (λ xs. AllByRecursion P xs) xs lists all))

-- the pairs that are found for each parent, before the rows are sorted
abbrev pub unsorted : List (List Pair) → Option ℕ → List Pair
unsorted lists = children item_of_pair (part_rows unnumbered pair_cells 0 (placed lists))

pub pairs_agree : (lists : List (List Pair)) → All AreBack lists → Agree (unsorted lists) 0 lists
pairs_agree lists all =
    agrees unnumbered pair_cells item_of_pair lists
    (reads_alone unnumbered pair_cells item_of_pair IsBackPair (λ n pair back. back) 0 (flat_map (λ (pairs : List Pair). pairs) lists) (every_list IsBackPair lists all))

-- the table has the same pairs for each, and they weigh the same
module _ (kind : Kind) (lists : List (List Pair)) (kinds : has_attributes kind ≡ true) (few : length lists ≤ 2 ^ 32) (parent : Option ℕ) where
  pub sorted_alike : SameOften (unsorted lists parent) (pairs_in (attribute_table kind lists) parent)
  sorted_alike =
      let have = table_has_rows kind lists kinds few in
      subst (λ (rows : List ChildRow). SameOften (unsorted lists parent) (children item_of_pair rows parent))
      (have.1.are ∙ ap (λ ps. child_rows [] ps (map (drop 1) (attribute_table kind lists).rows)) (ids_are (attribute_table kind lists) 0 have.1.parents have.1.above))
      (reordered item_of_pair (part_rows unnumbered pair_cells 0 (placed lists)) have.0 have.2 parent)

  pub sorted_weigh : total 32 weight_of_pair (unsorted lists parent) ≡ total 32 weight_of_pair (pairs_in (attribute_table kind lists) parent)
  sorted_weigh =
      let have = table_has_rows kind lists kinds few in
      subst (λ (rows : List ChildRow). total 32 weight_of_pair (unsorted lists parent) ≡ total 32 weight_of_pair (children item_of_pair rows parent))
      (have.1.are ∙ ap (λ ps. child_rows [] ps (map (drop 1) (attribute_table kind lists).rows)) (ids_are (attribute_table kind lists) 0 have.1.parents have.1.above))
      (reordered_weigh item_of_pair weight_of_pair (part_rows unnumbered pair_cells 0 (placed lists)) have.0 have.2 parent)
