-- Fields and their children.
use Rattle.std.specs.Prelude.{ℕ, ◌+◌, ◌&&◌, ◌||◌, not, Bool, true, List, [], ◌∷◌, ◌++◌, Option, None, Some, bytes_eq}
use Rattle.std.specs.List.{flat_map, list_all}
use Rattle.std.specs.Ordering.{int_eq}
use Rattle.arrow_schema.specs.declared.spec.ArrowType.{ArrowType}
use Rattle.arrow_schema.specs.declared.spec.DictSpec.{DictSpec}
use Rattle.arrow_schema.specs.declared.spec.Encoding.{Encoding}
use Rattle.arrow_schema.specs.declared.spec.FieldSpec.{FieldSpec, out-FieldSpec, fold-FieldSpec}
use Rattle.arrow_schema.specs.declared.spec.FieldSpec.TheOpen.{FieldSpec-F}
use Rattle.arrow_schema.specs.declared.agreement.Use.{Use}
use Rattle.arrow_schema.specs.Types.{same_type}
use Rattle.arrow_schema.specs.declared.spec.FieldSpec.TheViews.{roll-FieldSpec}

abbrev pub name_in : FieldSpec → List ℕ
name_in f = (out-FieldSpec f).name

abbrev pub kind_in : FieldSpec → ArrowType
kind_in f = (out-FieldSpec f).kind

abbrev pub dict_in : FieldSpec → Option DictSpec
dict_in f = (out-FieldSpec f).dict

abbrev pub encoding_in : FieldSpec → Encoding
encoding_in f = (out-FieldSpec f).encoding

abbrev pub children_in : FieldSpec → List FieldSpec
children_in f = (out-FieldSpec f).children

-- the field with this name, type, dictionary, encoding and these children
abbrev pub field_with : List ℕ → ArrowType → Option DictSpec → Encoding → List FieldSpec → FieldSpec
field_with name kind dict encoding children =
    roll-FieldSpec (record { name = name; kind = kind; dict = dict; encoding = encoding; children = children })

-- the sum of numbers
abbrev pub sum_of : List ℕ → ℕ
sum_of [] = 0
sum_of (n ∷ ns) = n + sum_of ns

-- how many fields there are, children counted
abbrev pub count_step : FieldSpec-F ℕ → ℕ
count_step f = 1 + sum_of f.children

abbrev pub field_count : FieldSpec → ℕ
field_count = fold-FieldSpec ℕ count_step

abbrev pub count_of : List FieldSpec → ℕ
count_of [] = 0
count_of (f ∷ fields) = field_count f + count_of fields

-- the dictionaries of fields, with the types of their values, children included
abbrev pub use_of : ArrowType → Option DictSpec → List Use
use_of kind None = []
use_of kind (Some dict) = record { id = dict.id; kind = kind } ∷ []

abbrev pub uses_step : FieldSpec-F (List Use) → List Use
uses_step f = use_of f.kind f.dict ++ flat_map (λ uses. uses) f.children

abbrev pub uses_in : FieldSpec → List Use
uses_in = fold-FieldSpec (List Use) uses_step

abbrev pub uses_of : List FieldSpec → List Use
uses_of fields = flat_map uses_in fields

-- two uses of one dictionary have one type
abbrev pub agrees : Use → Use → Bool
agrees a b = not (int_eq a.id b.id) || same_type a.kind b.kind

abbrev pub agrees_with : List Use → Use → Bool
agrees_with uses a = list_all (agrees a) uses

unfoldable pub uses_agree : List Use → Bool
uses_agree uses = list_all (agrees_with uses) uses

-- no two of the fields have one name
abbrev pub lacks_name : List ℕ → List FieldSpec → Bool
lacks_name name fields = list_all (λ f. not (bytes_eq name (name_in f))) fields

unfoldable pub names_differ : List FieldSpec → Bool
names_differ [] = true
names_differ (f ∷ fields) = lacks_name (name_in f) fields && names_differ fields
