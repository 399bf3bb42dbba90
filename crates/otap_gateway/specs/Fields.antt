-- The lines of a schema's fields: each field and after it its children, by their dotted names.
use Rattle.std.specs.Prelude.{ℕ, List, [], ◌++◌, codes, if◌then◌else◌, Option, None, Some}
use Rattle.std.specs.Fmt.{decimal}
use Rattle.std.specs.List.{flat_map}
use Rattle.arrow_schema.specs.declared.spec.ArrowType.{ArrowType}
use Rattle.arrow_schema.specs.declared.spec.ArrowType.TheVariants as type
use Rattle.arrow_schema.specs.declared.spec.DictSpec.{DictSpec}
use Rattle.arrow_schema.specs.declared.spec.FieldSpec.{FieldSpec, fold-FieldSpec}
use Rattle.arrow_schema.specs.declared.spec.FieldSpec.TheOpen.{FieldSpec-F}
use Rattle.otap_gateway.specs.Lines.{line_feed}
use Rattle.otap_gateway.specs.Quoting.{quoted}

abbrev pub type_word : ArrowType → List ℕ
type_word type.Bool = codes "bool"
type_word (type.Int bits signed) = (if signed then codes "i" else codes "u") ++ decimal bits
type_word type.Double = codes "f64"
type_word type.Utf8 = codes "utf8"
type_word type.Binary = codes "binary"
type_word (type.Fixed width) = codes "fixed " ++ decimal width
type_word type.Timestamp = codes "timestamp"
type_word type.Duration = codes "duration"
type_word type.Struct = codes "struct"
type_word type.List = codes "list"

-- what a line has after the type of a field with this dictionary: the type of its indexes
abbrev pub dictionary_word : Option DictSpec → List ℕ
dictionary_word None = []
dictionary_word (Some dict) = if dict.wide then codes " dict u16" else codes " dict u8"

-- the line of a field below a path, which is empty or ends with a dot
abbrev pub field_line_of : List ℕ → List ℕ → ArrowType → Option DictSpec → List ℕ
field_line_of path name kind dict = codes "field " ++ quoted (path ++ name) ++ codes " " ++ type_word kind ++ dictionary_word dict ++ line_feed

-- the path of a field's children
abbrev pub inner_path : List ℕ → List ℕ → List ℕ
inner_path path name = path ++ name ++ codes "."

-- the lines of a field and of its children, depth first
abbrev pub field_step : FieldSpec-F (List ℕ → List ℕ) → List ℕ → List ℕ
field_step f path = field_line_of path f.name f.kind f.dict ++ flat_map (λ child. child (inner_path path f.name)) f.children

abbrev pub field_text : FieldSpec → List ℕ → List ℕ
field_text = fold-FieldSpec (List ℕ → List ℕ) field_step

abbrev pub fields_text : List ℕ → List FieldSpec → List ℕ
fields_text path fields = flat_map (λ f. field_text f path) fields
