-- Schemas of columns: leaves, and structs of leaves.
use Rattle.std.specs.Prelude.{◌≡◌, ◌≤◌, ℕ, ◌+◌, ◌*◌, ◌&&◌, not, Bool, true, false, List, [], ◌∷◌, length, map, codes, bytes_eq, Option, None, Some, ℤ}
use Rattle.std.specs.Str.{is_utf8}
use Rattle.std.specs.List.{list_all}
use Rattle.arrow_schema.specs.declared.spec.ArrowType.{ArrowType}
use Rattle.arrow_schema.specs.declared.spec.ArrowType.TheVariants.{Struct}
use Rattle.arrow_schema.specs.declared.spec.DictSpec.{DictSpec}
use Rattle.arrow_schema.specs.declared.spec.Encoding.{Encoding}
use Rattle.arrow_schema.specs.declared.spec.Encoding.TheVariants as encoding
use Rattle.arrow_schema.specs.declared.spec.FieldSpec.{FieldSpec}
use Rattle.arrow_schema.specs.Limits.{max_fields}
use Rattle.arrow_schema.specs.Types.{is_list, is_element_type, takes_dictionary}
use Rattle.arrow_schema.specs.Trees.{sum_of, field_with}
use Rattle.arrow_schema.specs.Readable.{is_supported}
use Rattle.arrow_schema.specs.Writing.{is_named}

-- a column: its name, the type of its values, its dictionary, its encoding, and the type of its elements where it is a list
pub record Leaf : Type 0 where
  pub name : List ℕ
  pub kind : ArrowType
  pub dict : Option DictSpec
  pub encoding : Encoding
  pub item : Option ArrowType

-- a column, or a struct of columns by its name
pub data Branch : Type 0 where
  One : Leaf → Branch
  Under : List ℕ → List Leaf → Branch

-- the child of a list, and the fields of columns
abbrev pub branch_items : Option ArrowType → List FieldSpec
branch_items None = []
branch_items (Some kind) = field_with (codes "item") kind None encoding.None [] ∷ []

abbrev pub leaf_field : Leaf → FieldSpec
leaf_field l = field_with l.name l.kind l.dict l.encoding (branch_items l.item)

abbrev pub branch_field : Branch → FieldSpec
branch_field (One l) = leaf_field l
branch_field (Under name leaves) = field_with name Struct None encoding.None (map leaf_field leaves)

abbrev pub branch_fields : List Branch → List FieldSpec
branch_fields branches = map branch_field branches

-- names of which no two are one
abbrev pub lacks : List ℕ → List (List ℕ) → Bool
lacks name names = list_all (λ other. not (bytes_eq name other)) names

unfoldable pub are_apart : List (List ℕ) → Bool
are_apart [] = true
are_apart (name ∷ names) = lacks name names && are_apart names

abbrev pub name_of_branch : Branch → List ℕ
name_of_branch (One l) = l.name
name_of_branch (Under name leaves) = name

-- how many fields they are, and how many bytes their names have
abbrev pub items_in : Option ArrowType → ℕ
items_in None = 0
items_in (Some kind) = 1

abbrev pub leaf_size : Leaf → ℕ
leaf_size l = 1 + items_in l.item

abbrev pub branch_size : Branch → ℕ
branch_size (One l) = leaf_size l
branch_size (Under name leaves) = 1 + sum_of (map leaf_size leaves)

abbrev pub leaf_names : Leaf → ℕ
leaf_names l = length l.name + 4 * items_in l.item

abbrev pub branch_names : Branch → ℕ
branch_names (One l) = leaf_names l
branch_names (Under name leaves) = length name + sum_of (map leaf_names leaves)

-- no column has an encoding that isn't named
abbrev pub is_branch_named : Branch → Bool
is_branch_named (One l) = is_named l.encoding
is_branch_named (Under name leaves) = list_all (λ l. is_named l.encoding) leaves

-- a dictionary holds values of the type that its id has
abbrev pub FitsTypes : (ℤ → ArrowType) → ArrowType → Option DictSpec → Type 0
FitsTypes types kind None = Unit {0}
FitsTypes types kind (Some dict) = (takes_dictionary kind ≡ true) × (types dict.id ≡ kind)

-- exactly a list has elements
abbrev pub FitsItem : ArrowType → Option ArrowType → Type 0
FitsItem kind None = is_list kind ≡ false
FitsItem kind (Some item) = (is_list kind ≡ true) × (is_element_type item ≡ true)

pub record IsLeaf (types : ℤ → ArrowType) (l : Leaf) : Type 0 where
  pub text : is_utf8 l.name ≡ true
  pub supported : is_supported l.kind ≡ true
  pub dictionary : FitsTypes types l.kind l.dict
  pub item : FitsItem l.kind l.item

abbrev pub AreLeaves : (ℤ → ArrowType) → List Leaf → Type 0
AreLeaves types [] = Unit {0}
AreLeaves types (l ∷ leaves) = IsLeaf types l × AreLeaves types leaves

abbrev pub IsBranch : (ℤ → ArrowType) → Branch → Type 0
IsBranch types (One l) = IsLeaf types l
IsBranch types (Under name leaves) = (is_utf8 name ≡ true) × (are_apart (map (λ l. l.name) leaves) ≡ true) × AreLeaves types leaves

abbrev pub AreEach : (ℤ → ArrowType) → List Branch → Type 0
AreEach types [] = Unit {0}
AreEach types (b ∷ branches) = IsBranch types b × AreEach types branches

-- columns that make a schema, where each dictionary has the type of its id
pub record AreBranches (types : ℤ → ArrowType) (branches : List Branch) : Type 0 where
  pub apart : are_apart (map name_of_branch branches) ≡ true
  pub each : AreEach types branches
  pub few : sum_of (map branch_size branches) ≤ max_fields
