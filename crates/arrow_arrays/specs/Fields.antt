-- The fields of a schema, depth first, and the paths of names that lead to them.
use Rattle.std.specs.Prelude.{ℕ, List, [], ◌∷◌, ◌++◌, Option, None, Some}
use Rattle.std.specs.List.{flat_map}
use Rattle.arrow_schema.specs.declared.spec.ArrowType.{ArrowType}
use Rattle.arrow_schema.specs.declared.spec.ArrowType.TheVariants as kind
use Rattle.arrow_schema.specs.declared.spec.DictSpec.{DictSpec}
use Rattle.arrow_schema.specs.declared.spec.Encoding.{Encoding}
use Rattle.arrow_schema.specs.declared.spec.FieldSpec.{FieldSpec, fold-FieldSpec}
use Rattle.arrow_schema.specs.declared.spec.FieldSpec.TheOpen.{FieldSpec-F}
use Rattle.arrow_arrays.specs.declared.spec.ArraySpec.{ArraySpec}

-- a field without its children
pub record FieldIn : Type 0 where
  pub name : List ℕ
  pub kind : ArrowType
  pub dict : Option DictSpec
  pub encoding : Encoding

-- the field of an array
abbrev pub field_of_array : ArraySpec → FieldIn
field_of_array a = record { name = a.name; kind = a.kind; dict = a.dict; encoding = a.encoding }

-- a field, then its children's fields
abbrev pub depth_first_step : FieldSpec-F (List FieldIn) → List FieldIn
depth_first_step f = record { name = f.name; kind = f.kind; dict = f.dict; encoding = f.encoding } ∷ flat_map (λ fields. fields) f.children

abbrev pub depth_first_in : FieldSpec → List FieldIn
depth_first_in = fold-FieldSpec (List FieldIn) depth_first_step

abbrev pub depth_first : List FieldSpec → List FieldIn
depth_first fields = flat_map depth_first_in fields

-- the paths to fields below the end of a path, depth first. What is a child of a list has no path.
abbrev pub Paths : Type 0
Paths = Option (List (List ℕ)) → List (List (List ℕ))

abbrev pub paths_each : List Paths → Paths
paths_each [] above = []
paths_each (paths ∷ later) above = paths above ++ paths_each later above

abbrev pub path_in : Option (List (List ℕ)) → List ℕ → List (List ℕ)
path_in None name = []
path_in (Some path) name = path ++ name ∷ []

abbrev pub path_under : ArrowType → List (List ℕ) → Option (List (List ℕ))
path_under kind.List own = None
path_under other own = Some own

abbrev pub paths_step : FieldSpec-F Paths → Paths
paths_step f above =
    path_in above f.name ∷ paths_each f.children (path_under f.kind (path_in above f.name))

abbrev pub paths_in : FieldSpec → Paths
paths_in = fold-FieldSpec Paths paths_step

abbrev pub paths_below : List FieldSpec → Paths
paths_below [] above = []
paths_below (f ∷ fields) above = paths_in f above ++ paths_below fields above
