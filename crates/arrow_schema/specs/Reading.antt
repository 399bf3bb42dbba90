-- The schema that tables say, or why they say none. Of several refusals it is the first one, in the order of the slots.
use Rattle.std.specs.Prelude.{◌≡◌, ℕ, zero, suc, ◌+◌, ◌-◌, ◌==◌, ◌&&◌, ◌||◌, not, nat_lt, Bool, true, false, if◌then◌else◌, List, [], ◌∷◌, Result, Ok, Err, Option, None, Some, ℤ, unsigned_abs}
use Rattle.std.specs.Str.{is_utf8}
use Rattle.flat_tables.specs.declared.fault.FlatFault.{FlatFault}
use Rattle.lists.specs.Results.{◌>>=◌}
use Rattle.flat_tables.specs.Tables.{TableIn, VectorIn, vector_slot, element_table}
use Rattle.arrow_schema.specs.declared.spec.ArrowType.{ArrowType}
use Rattle.arrow_schema.specs.declared.spec.ArrowType.TheVariants.{Bool as Boolean, Int, Double, Utf8, Binary, Fixed, Timestamp, Duration, Struct, List as ListType}
use Rattle.arrow_schema.specs.declared.spec.DictSpec.{DictSpec}
use Rattle.arrow_schema.specs.declared.refusal.SchemaRefusal.{SchemaRefusal}
use Rattle.arrow_schema.specs.declared.refusal.SchemaRefusal.TheVariants.{Flat, Unsupported, TooManyFields, TooDeep, BadName, DictionaryTypes, Memory}
use Rattle.arrow_schema.specs.declared.spec.Encoding.{Encoding}
use Rattle.arrow_schema.specs.declared.spec.Encoding.TheVariants as encoding
use Rattle.arrow_schema.specs.Limits.{max_depth, max_fields}
use Rattle.arrow_schema.specs.declared.spec.FieldSpec.{FieldSpec}
use Rattle.arrow_schema.specs.Trees.{field_with, names_differ, uses_of, uses_agree}
use Rattle.arrow_schema.specs.Readable.{fits_children}
use Rattle.arrow_schema.specs.Types.{takes_dictionary, is_number, is_int_width, is_fixed_width}
use Rattle.arrow_schema.specs.Slots.{name_slot, kind_slot, int_width, int_sign, precision, timestamp_unit, duration_unit, byte_width, dictionary_slot, dictionary_id}
use Rattle.arrow_schema.specs.Slots.{index_slot, index_width, index_sign, byte_order, fields_slot, children_slot, metadata_slot, key_slot, value_slot}
use Rattle.arrow_schema.specs.Encodings.{is_encoding_key, encoding_by}

-- a fault of the tables is a refusal
abbrev pub flat : {A : Type 0} → Result A FlatFault → Result A SchemaRefusal
flat (Ok x) = Ok x
flat (Err e) = Err (Flat e)

-- what a call returned is what reading gives, unless memory ran out
abbrev pub Fails : {Y : Type 0} → SchemaRefusal → Result Y SchemaRefusal → Type 0
Fails (Memory e) read = Unit {0}
Fails e read = read ≡ Err e

abbrev pub ReturnsReading : {X Y : Type 0} → (X → Y) → Result X SchemaRefusal → Result Y SchemaRefusal → Type 0
ReturnsReading view (Ok x) read = read ≡ Ok (view x)
ReturnsReading view (Err e) read = Fails e read

-- a value is taken where a test holds
abbrev pub where_supported : {A : Type 0} → Bool → A → Result A SchemaRefusal
where_supported true x = Ok x
where_supported false x = Err Unsupported

unfoldable pub name_of : TableIn → Result (List ℕ) SchemaRefusal
name_of t = flat (name_slot t) >>= λ name. if is_utf8 name then Ok name else Err BadName

unfoldable pub int_type_of : TableIn → Result ArrowType SchemaRefusal
int_type_of t = flat (int_width t) >>= λ bits. flat (int_sign t) >>= λ signed. where_supported (is_int_width bits) (Int (unsigned_abs bits) signed)

unfoldable pub fixed_type_of : TableIn → Result ArrowType SchemaRefusal
fixed_type_of t = flat (byte_width t) >>= λ width. where_supported (is_fixed_width width) (Fixed (unsigned_abs width))

-- a type with one number, which is to be this one
unfoldable pub numbered_type : ℕ → ArrowType → Result ℤ FlatFault → Result ArrowType SchemaRefusal
numbered_type n kind read = flat read >>= λ number. where_supported (is_number n number) kind

unfoldable pub type_with : TableIn → ℕ → Result ArrowType SchemaRefusal
type_with t kind =
    if kind == 2 then int_type_of t
    else if kind == 3 then numbered_type 2 Double (precision t)
    else if kind == 4 then Ok Binary
    else if kind == 5 then Ok Utf8
    else if kind == 6 then Ok Boolean
    else if kind == 10 then numbered_type 3 Timestamp (timestamp_unit t)
    else if kind == 12 then Ok ListType
    else if kind == 13 then Ok Struct
    else if kind == 15 then fixed_type_of t
    else if kind == 18 then numbered_type 3 Duration (duration_unit t)
    else Err Unsupported

unfoldable pub type_of : TableIn → Result ArrowType SchemaRefusal
type_of t = flat (kind_slot t) >>= type_with t

-- whether the indexes of a dictionary have 16 bits
unfoldable pub is_wide_index : TableIn → Result Bool SchemaRefusal
is_wide_index u =
    flat (index_width u) >>= λ bits. flat (index_sign u) >>= λ signed.
    where_supported (not signed && (is_number 8 bits || is_number 16 bits)) (is_number 16 bits)

abbrev pub index_type_of : Option TableIn → Result Bool SchemaRefusal
index_type_of None = Err Unsupported
index_type_of (Some u) = is_wide_index u

unfoldable pub dict_of : TableIn → Result DictSpec SchemaRefusal
dict_of d = flat (dictionary_id d) >>= λ id. flat (index_slot d) >>= index_type_of >>= λ wide. Ok (record { id = id; wide = wide })

abbrev pub dict_spec_in : ArrowType → Option TableIn → Result (Option DictSpec) SchemaRefusal
dict_spec_in kind None = Ok None
dict_spec_in kind (Some d) = where_supported (takes_dictionary kind) d >>= dict_of >>= λ dict. Ok (Some dict)

unfoldable pub dict_spec_of : ArrowType → TableIn → Result (Option DictSpec) SchemaRefusal
dict_spec_of kind t = flat (dictionary_slot t) >>= dict_spec_in kind

-- the encoding that a pair names, where none was named before it
abbrev pub encoding_with : Option (List ℕ) → Option (List ℕ) → Encoding → Encoding
encoding_with key value encoding.None = if is_encoding_key key then encoding_by value else encoding.None
encoding_with key value found = found

-- the encoding that a vector's pairs from an index on name, where those before it named this one; each is read
abbrev pub of_pair : Encoding → Option TableIn → Result Encoding FlatFault
of_pair found None = Ok found
of_pair found (Some t) = key_slot t >>= λ key. value_slot t >>= λ value. Ok (encoding_with key value found)

unfoldable pub encoding_from : VectorIn → ℕ → ℕ → Encoding → Result Encoding FlatFault
encoding_from v place zero found = Ok found
encoding_from v place (suc n) found = element_table v place >>= of_pair found >>= encoding_from v (place + 1) n

abbrev pub in_metadata : Option VectorIn → Result Encoding FlatFault
in_metadata None = Ok encoding.None
in_metadata (Some v) = encoding_from v 0 v.count encoding.None

unfoldable pub encoding_of : TableIn → Result Encoding FlatFault
encoding_of t = vector_slot 4 t metadata_slot >>= in_metadata

-- Fields that were read, and how many more the schema may have.
abbrev pub FieldsRead : Type 0
FieldsRead = List FieldSpec × ℕ

-- the fields in a slot of a table, whose vector is read so
abbrev pub in_slot : (ℕ → VectorIn → Result FieldsRead SchemaRefusal) → ℕ → Option VectorIn → Result FieldsRead SchemaRefusal
in_slot vector left None = Ok ([], left)
in_slot vector left (Some v) = vector left v

unfoldable pub slot_of : (ℕ → VectorIn → Result FieldsRead SchemaRefusal) → ℕ → ℕ → TableIn → Result FieldsRead SchemaRefusal
slot_of vector slot left t = flat (vector_slot 4 t slot) >>= in_slot vector left

-- a field, the vector of whose children is read so
unfoldable pub field_of : (ℕ → VectorIn → Result FieldsRead SchemaRefusal) → ℕ → TableIn → Result (FieldSpec × ℕ) SchemaRefusal
field_of vector left t =
    name_of t >>= λ name.
    type_of t >>= λ kind.
    dict_spec_of kind t >>= λ dict.
    flat (encoding_of t) >>= λ named.
    slot_of vector children_slot left t >>= λ fields.
    where_supported (fits_children kind fields.0) (field_with name kind dict named fields.0, fields.1)

-- the field that an element of a vector refers to, and those after it
abbrev pub of_element : (TableIn → Result FieldsRead SchemaRefusal) → ℕ → Option TableIn → Result FieldsRead SchemaRefusal
of_element read left None = Ok ([], left)
of_element read left (Some t) = read t

unfoldable pub fields_from : (ℕ → TableIn → Result (FieldSpec × ℕ) SchemaRefusal) → VectorIn → ℕ → ℕ → ℕ → Result FieldsRead SchemaRefusal
fields_from field v place zero left = Ok ([], left)
fields_from field v place (suc n) left =
    flat (element_table v place) >>= of_element (λ t.
    field left t >>= λ f. fields_from field v (place + 1) n f.1 >>= λ fs. Ok (f.0 ∷ fs.0, fs.1)) left

abbrev pub with_own_names : FieldsRead → Result FieldsRead SchemaRefusal
with_own_names fields = if names_differ fields.0 then Ok fields else Err BadName

-- the fields of a vector, nested at most this deep; all are counted before any is read
unfoldable pub vector_of : ℕ → ℕ → VectorIn → Result FieldsRead SchemaRefusal
vector_of zero left v =
    if v.count == 0 then Ok ([], left)
    else if nat_lt left v.count then Err TooManyFields
    else Err TooDeep
vector_of (suc depth) left v =
    if v.count == 0 then Ok ([], left)
    else if nat_lt left v.count then Err TooManyFields
    else (fields_from (field_of (vector_of depth)) v 0 v.count (left - v.count) >>= with_own_names)

abbrev pub with_agreeing_uses : FieldsRead → Result (List FieldSpec) SchemaRefusal
with_agreeing_uses fields = if uses_agree (uses_of fields.0) then Ok fields.0 else Err DictionaryTypes

-- the schema of a table
unfoldable pub schema_of : TableIn → Result (List FieldSpec) SchemaRefusal
schema_of t =
    flat (byte_order t) >>= λ order.
    where_supported (is_number 0 order) t >>= slot_of (vector_of max_depth) fields_slot max_fields >>= with_agreeing_uses
