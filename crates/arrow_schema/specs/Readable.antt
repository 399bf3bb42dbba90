-- The schemas that are read: those within the limits.
use Rattle.std.specs.Prelude.{◌≡◌, ℕ, zero, suc, ◌≤◌, ◌==◌, ◌&&◌, ◌||◌, if◌then◌else◌, nat_le, Bool, true, false, List, [], ◌∷◌, Option, None, Some}
use Rattle.std.specs.Str.{is_utf8}
use Rattle.std.specs.List.{list_all}
use Rattle.arrow_schema.specs.Limits.{max_depth, max_fields, max_fixed}
use Rattle.arrow_schema.specs.declared.spec.ArrowType.{ArrowType}
use Rattle.arrow_schema.specs.declared.spec.ArrowType.TheVariants.{Int, Fixed}
use Rattle.arrow_schema.specs.declared.spec.DictSpec.{DictSpec}
use Rattle.arrow_schema.specs.declared.spec.FieldSpec.{FieldSpec}
use Rattle.arrow_schema.specs.Types.{is_struct, is_list, is_element_type, takes_dictionary}
use Rattle.arrow_schema.specs.Trees.{name_in, kind_in, dict_in, children_in, count_of, uses_of, uses_agree, names_differ}

-- integers have 8, 16, 32 or 64 bits, and fixed binaries 1 to 65,536 bytes
abbrev pub is_supported : ArrowType → Bool
is_supported (Int bits signed) = bits == 8 || bits == 16 || bits == 32 || bits == 64
is_supported (Fixed width) = nat_le 1 width && nat_le width max_fixed
is_supported kind = true

-- bools, structs and lists have no dictionary
abbrev pub fits_dictionary : ArrowType → Option DictSpec → Bool
fits_dictionary kind None = true
fits_dictionary kind (Some dict) = takes_dictionary kind

-- a list's child has a type of elements, and no dictionary
abbrev pub has_none : Option DictSpec → Bool
has_none None = true
has_none (Some dict) = false

abbrev pub is_element : FieldSpec → Bool
is_element f = is_element_type (kind_in f) && has_none (dict_in f)

abbrev pub is_one_element : List FieldSpec → Bool
is_one_element [] = false
is_one_element (f ∷ []) = is_element f
is_one_element (f ∷ g ∷ fields) = false

abbrev pub no_fields : List FieldSpec → Bool
no_fields [] = true
no_fields (f ∷ fields) = false

-- a list has one child, structs may have any, and no other type has one
abbrev pub fits_children : ArrowType → List FieldSpec → Bool
fits_children kind children = if is_list kind then is_one_element children else is_struct kind || no_fields children

-- a field whose children are readable by this test
abbrev pub is_readable : (List FieldSpec → Bool) → FieldSpec → Bool
is_readable children f =
    is_utf8 (name_in f) && is_supported (kind_in f) && fits_dictionary (kind_in f) (dict_in f)
    && fits_children (kind_in f) (children_in f) && children (children_in f)

-- the fields of one parent, nested at most this deep: no two have one name
unfoldable pub are_readable : ℕ → List FieldSpec → Bool
are_readable zero fields = no_fields fields
are_readable (suc depth) fields = names_differ fields && list_all (is_readable (are_readable depth)) fields

-- a schema within the limits, in which no dictionary has two types
pub record IsReadable (fields : List FieldSpec) : Type 0 where
  pub count : count_of fields ≤ max_fields
  pub each : are_readable max_depth fields ≡ true
  pub uses : uses_agree (uses_of fields) ≡ true
