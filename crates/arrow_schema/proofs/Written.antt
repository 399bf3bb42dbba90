-- Tables that were written say what they were written for.
use Rattle.std.proofs.Common.{◌≡◌, ℕ, zero, suc, ◌-◌, ◌<◌, ◌≤◌, take, Bool, true, false, List, [], ◌∷◌, ◌++◌, length, Result, Ok, Option, Some, None, refl, sym, subst, inl, inr, arith}
use Rattle.std.proofs.lemmas.List.{take_all}
use Rattle.std.specs.Prelude.{pos, if◌then◌else◌, slice_index_or, slice_index, codes}
use Rattle.flat_tables.specs.declared.fault.FlatFault.{FlatFault}
use Rattle.flat_tables.specs.declared.place.Slot.{Slot}
use Rattle.flat_tables.specs.declared.place.Slot.TheVariants.{Absent, I64, At}
use Rattle.lists.specs.Results.{◌>>=◌}
use Rattle.flat_tables.specs.Tables.{TableIn, VectorIn, table_at, text_at, vector_at, each, or_default, table_slot, vector_slot, reference_slot, element_table, place_of}
use Rattle.flat_tables.specs.Slots.{Holds}
use Rattle.flat_tables.specs.Building.{Grows, StaysAt, IsText, IsPlaces, HasSlots, vector_from}
use Rattle.flat_tables.proofs.Standing.{stands_on, grows_on}
use Rattle.arrow_schema.specs.declared.spec.ArrowType.{ArrowType}
use Rattle.arrow_schema.specs.declared.spec.ArrowType.TheVariants.{Bool as Boolean, Int, Double, Utf8, Binary, Fixed, Timestamp, Duration, Struct, List as ListType}
use Rattle.arrow_schema.specs.declared.spec.DictSpec.{DictSpec}
use Rattle.arrow_schema.specs.declared.spec.Encoding.{Encoding}
use Rattle.arrow_schema.specs.declared.spec.Encoding.TheVariants as encoding
use Rattle.arrow_schema.specs.declared.spec.FieldSpec.{FieldSpec}
use Rattle.arrow_schema.specs.Types.{type_number}
use Rattle.arrow_schema.specs.Slots.{in_type, is_set, byte_order}
use Rattle.arrow_schema.specs.Trees.{name_in, kind_in, dict_in, encoding_in, children_in}
use Rattle.arrow_schema.specs.Encodings.{encoding_named, encoding_of_pairs}
use Rattle.arrow_schema.specs.Says.{SaysNumbers, SaysDictionary, SaysEncoding, HasElements, SaysField, says, SayFields, SaysSchema}
use Rattle.arrow_schema.specs.Writing.{type_slots, index_slots, WritesDict, WritesDictionary, WritesPair, WritesMetadata, field_slots, WritesField, writes, WritesFields, WritesSchema, IsSchemaTable}
use Rattle.arrow_schema.specs.Standing.{DictionaryStands, MetadataStands}
use Rattle.arrow_schema.proofs.Only.{schema_again}
use Rattle.arrow_schema.proofs.FieldsStand.{AllStand, all_stand_on}

-- ---- slots
pub default_is : {A : Type 0} (d x : A) (read : Result (Option A) FlatFault) → read ≡ Ok (Some x) → or_default d read ≡ Ok x
default_is d x read e = rw e refl

pub refers : {A : Type 0} (read : ℕ → Result A FlatFault) (place : ℕ) (x : A) (reference : Result (Option ℕ) FlatFault) → reference ≡ Ok (Some place) → read place ≡ Ok x
    → (reference >>= each read) ≡ Ok (Some x)
refers read place x reference e f = rw (e, f) refl

in_type_is : {A : Type 0} (d x : A) (read : TableIn → Result A FlatFault) (slot : Result (Option TableIn) FlatFault) (u : TableIn) → slot ≡ Ok (Some u) → read u ≡ Ok x
    → (slot >>= in_type d read) ≡ Ok x
in_type_is d x read slot u e f = rw (e, f) refl

set_is : (b : Bool) (read : Result ℕ FlatFault) → read ≡ Ok (if b then 1 else 0) → (read >>= λ n. Ok (is_set n)) ≡ Ok b
set_is true read e = rw e refl
set_is false read e = rw e refl

-- ---- types
abbrev HoldsAll : TableIn → List Slot → Type 0
HoldsAll t slots = (k : ℕ) → Holds t k (slice_index_or slots k Absent)

numbers_said : (t u : TableIn) (kind : ArrowType) → table_slot t 3 ≡ Ok (Some u) → HoldsAll u (type_slots kind) → SaysNumbers t kind
numbers_said t u (Int bits signed) at h = (
  in_type_is (pos 0) (pos bits) _ (table_slot t 3) u at (default_is (pos 0) (pos bits) _ (h 0)),
  set_is signed _ (in_type_is 0 (if signed then 1 else 0) _ (table_slot t 3) u at (default_is 0 (if signed then 1 else 0) _ (h 1))),
)
numbers_said t u Double at h = in_type_is (pos 0) (pos 2) _ (table_slot t 3) u at (default_is (pos 0) (pos 2) _ (h 0))
numbers_said t u Timestamp at h = in_type_is (pos 0) (pos 3) _ (table_slot t 3) u at (default_is (pos 0) (pos 3) _ (h 0))
numbers_said t u Duration at h = in_type_is (pos 1) (pos 3) _ (table_slot t 3) u at (default_is (pos 1) (pos 3) _ (h 0))
numbers_said t u (Fixed width) at h = in_type_is (pos 0) (pos width) _ (table_slot t 3) u at (default_is (pos 0) (pos width) _ (h 0))
numbers_said t u Utf8 at h = tt
numbers_said t u Binary at h = tt
numbers_said t u Boolean at h = tt
numbers_said t u Struct at h = tt
numbers_said t u ListType at h = tt

-- ---- dictionaries
dict_said : (dict : Option DictSpec) (t : TableIn) (slot : Slot) → WritesDictionary dict t.bytes slot → Holds t 4 slot → SaysDictionary t dict
dict_said None t slot h holds = absent t (subst (Holds t 4) h holds)
  where
    absent : (t : TableIn) → place_of t 4 ≡ None → table_slot t 4 ≡ Ok None
    absent t e = rw e refl
dict_said (Some dict) t slot h holds =
    let bytes : List ℕ = t.bytes in
    let w : WritesDict dict bytes (length bytes - h.0) = h.2 in
    let d : TableIn = record { bytes = bytes; place = length bytes - h.0; vtable = w.table.vtable; size = w.table.size } in (
      d,
      refers (table_at bytes) (length bytes - h.0) d (reference_slot t 4) (subst (Holds t 4) h.1 holds) w.table.read,
      record {
        id = default_is (pos 0) dict.id _ (w.table.each 0);
        index = record { bytes = bytes; place = length bytes - w.index; vtable = w.index_table.vtable; size = w.index_table.size };
        at = refers (table_at bytes) (length bytes - w.index) _ _ (w.table.each 1) w.index_table.read;
        says = record {
          width = default_is (pos 0) (pos (if dict.wide then 16 else 8)) _ (w.index_table.each 0);
          sign = set_is false _ (default_is 0 0 _ (w.index_table.each 1));
        };
      },
    )

pub dict_stands : (old new : List ℕ) (index place : ℕ) (dict : DictSpec) → StaysAt (HasSlots (index_slots dict.wide)) old index → Grows old new
    → StaysAt (HasSlots (I64 dict.id ∷ At index ∷ [])) new place → StaysAt (WritesDict dict) new place
dict_stands old new index place dict i g s =
    let later = stands_on (HasSlots (index_slots dict.wide)) old new index g i in
    record { inside = s.inside; always = λ front. record { index = index; table = s.always front; index_table = later.always front } }

pub dict_slot_on : (dict : Option DictSpec) (old new : List ℕ) (slot : Slot) → Grows old new → DictionaryStands dict old slot → DictionaryStands dict new slot
dict_slot_on None old new slot g h = h
dict_slot_on (Some dict) old new slot g h = (h.0, h.1, stands_on (WritesDict dict) old new h.0 g h.2)

dict_written : (dict : Option DictSpec) (bytes front : List ℕ) (slot : Slot) → DictionaryStands dict bytes slot → WritesDictionary dict (front ++ bytes) slot
dict_written None bytes front slot h = h
dict_written (Some dict) bytes front slot h = (h.0, h.1, h.2.always front)

-- ---- custom metadata
pair_said : (word : List ℕ) (t : TableIn) (place : ℕ) → WritesPair word t.bytes (length t.bytes - place) → Holds t 6 (At place) → SaysEncoding t (encoding_named word)
unfolding encoding_of_pairs
pair_said word t place w holds =
    let bytes : List ℕ = t.bytes in
    let u : TableIn = record { bytes = bytes; place = length bytes - w.pair; vtable = w.table.vtable; size = w.table.size } in
    let v : VectorIn = vector_from 4 1 bytes (length bytes - place) in
    record {
      tables = u ∷ [];
      has = inr (
        v,
        refers (vector_at 4 bytes) (length bytes - place) v (reference_slot t 6) holds w.vector.read,
        record {
          count = refl;
          each = one_element v u (refers (table_at bytes) (length bytes - w.pair) u _ (w.vector.each 0 (omega arith)) w.table.read);
        },
      );
      pairs = record { key = Some (codes "encoding"); value = Some word } ∷ [];
      say = (
        record {
          key = refers (text_at bytes) (length bytes - w.key) (codes "encoding") _ (w.table.each 0) w.key_text.read;
          value = refers (text_at bytes) (length bytes - w.value) word _ (w.table.each 1) w.value_text.read;
        },
        tt,
      );
      names = refl;
    }
  where
    one_element : (v : VectorIn) (u : TableIn) → element_table v 0 ≡ Ok (Some u) → (i : ℕ) (d : TableIn) → i < 1 → element_table v i ≡ Ok (Some (slice_index_or (u ∷ []) i d))
    one_element v u at zero d lt = at
    one_element v u at (suc i) d lt = absurd (omega (arith, lt))

metadata_said : (named : Encoding) (t : TableIn) (slot : Slot) → WritesMetadata named t.bytes slot → Holds t 6 slot → SaysEncoding t named
unfolding encoding_of_pairs
metadata_said encoding.None t slot h holds = record { tables = []; has = inl (absent t (subst (Holds t 6) h holds), refl); pairs = []; say = tt; names = refl }
  where
    absent : (t : TableIn) → place_of t 6 ≡ None → vector_slot 4 t 6 ≡ Ok None
    absent t e = rw e refl
metadata_said encoding.Plain t slot h holds = pair_said (codes "plain") t h.0 h.2 (subst (Holds t 6) h.1 holds)
metadata_said encoding.Delta t slot h holds = pair_said (codes "delta") t h.0 h.2 (subst (Holds t 6) h.1 holds)
metadata_said encoding.Run t slot h holds = pair_said (codes "run") t h.0 h.2 (subst (Holds t 6) h.1 holds)
metadata_said encoding.Other t slot h holds = pair_said [] t h.0 h.2 (subst (Holds t 6) h.1 holds)

pub pair_stands : (a b c bytes word : List ℕ) (key value pair place : ℕ) → StaysAt (IsText (codes "encoding")) a key → Grows a b → StaysAt (IsText word) b value → Grows b c
    → StaysAt (HasSlots (At key ∷ At value ∷ [])) c pair → Grows c bytes → StaysAt (IsPlaces (pair ∷ [])) bytes place → StaysAt (WritesPair word) bytes place
pair_stands a b c bytes word key value pair place k g v h p i s =
    let table = stands_on (HasSlots (At key ∷ At value ∷ [])) c bytes pair i p in
    let value_text = stands_on (IsText word) b bytes value (grows_on b c bytes h i) v in
    let key_text = stands_on (IsText (codes "encoding")) a bytes key (grows_on a c bytes (grows_on a b c g h) i) k in
    record {
      inside = s.inside;
      always = λ front. record {
        pair = pair;
        vector = s.always front;
        key = key;
        value = value;
        table = table.always front;
        key_text = key_text.always front;
        value_text = value_text.always front;
      };
    }

pub metadata_slot_on : (named : Encoding) (old new : List ℕ) (slot : Slot) → Grows old new → MetadataStands named old slot → MetadataStands named new slot
metadata_slot_on encoding.None old new slot g h = h
metadata_slot_on encoding.Plain old new slot g h = (h.0, h.1, stands_on (WritesPair (codes "plain")) old new h.0 g h.2)
metadata_slot_on encoding.Delta old new slot g h = (h.0, h.1, stands_on (WritesPair (codes "delta")) old new h.0 g h.2)
metadata_slot_on encoding.Run old new slot g h = (h.0, h.1, stands_on (WritesPair (codes "run")) old new h.0 g h.2)
metadata_slot_on encoding.Other old new slot g h = (h.0, h.1, stands_on (WritesPair []) old new h.0 g h.2)

metadata_written : (named : Encoding) (bytes front : List ℕ) (slot : Slot) → MetadataStands named bytes slot → WritesMetadata named (front ++ bytes) slot
metadata_written encoding.None bytes front slot h = h
metadata_written encoding.Plain bytes front slot h = (h.0, h.1, h.2.always front)
metadata_written encoding.Delta bytes front slot h = (h.0, h.1, h.2.always front)
metadata_written encoding.Run bytes front slot h = (h.0, h.1, h.2.always front)
metadata_written encoding.Other bytes front slot h = (h.0, h.1, h.2.always front)

-- ---- fields
pub field_stands : (bytes : List ℕ) (f : FieldSpec) (children name kind place : ℕ) (dict metadata : Slot) → StaysAt (WritesFields (children_in f)) bytes children → StaysAt (IsText (name_in f)) bytes name
    → StaysAt (HasSlots (type_slots (kind_in f))) bytes kind → DictionaryStands (dict_in f) bytes dict → MetadataStands (encoding_in f) bytes metadata
    → StaysAt (HasSlots (field_slots f name kind dict children metadata)) bytes place → StaysAt (WritesField f) bytes place
field_stands bytes f children name kind place dict metadata c n k d m s = record {
  inside = s.inside;
  always = λ front.
      let w = c.always front in
      writes f (front ++ bytes) (length (front ++ bytes) - place) name kind children dict metadata w.places (s.always front) (n.always front) (k.always front)
      (dict_written (dict_in f) bytes front dict d) (metadata_written (encoding_in f) bytes front metadata m) w.vector w.long w.each;
}

-- fields that are written at offsets
each_written : (fs : List FieldSpec) (places bytes front : List ℕ) → AllStand fs places bytes → (i p : ℕ) (g : FieldSpec) → i < length places
    → WritesField (slice_index_or fs i g) (front ++ bytes) (length (front ++ bytes) - slice_index_or places i p)
each_written [] [] bytes front h i p g lt = absurd (omega (arith, lt))
each_written (f ∷ fs) (place ∷ places) bytes front h zero p g lt = h.0.always front
each_written (f ∷ fs) (place ∷ places) bytes front h (suc i) p g lt = each_written fs places bytes front h.1 i p g (omega (arith, lt))
each_written [] (place ∷ places) bytes front h i p g lt = absurd h
each_written (f ∷ fs) [] bytes front h i p g lt = absurd h

as_many : (fs : List FieldSpec) (places bytes : List ℕ) → AllStand fs places bytes → length places ≡ length fs
as_many [] [] bytes h = refl
as_many (f ∷ fs) (place ∷ places) bytes h = omega (arith, as_many fs places bytes h.1)
as_many [] (place ∷ places) bytes h = absurd h
as_many (f ∷ fs) [] bytes h = absurd h

vector_stands : (bytes places : List ℕ) (fs : List FieldSpec) (place : ℕ) → AllStand fs places bytes → StaysAt (IsPlaces places) bytes place → StaysAt (WritesFields fs) bytes place
vector_stands bytes places fs place h s = record {
  inside = s.inside;
  always = λ front. record { places = places; vector = s.always front; long = as_many fs places bytes h; each = each_written fs places bytes front h };
}

-- all fields are written when the loop ends
pub all_fields_stand : (fs : List FieldSpec) (items places : List ℕ) (i place : ℕ) (old new : List ℕ) → length fs ≤ i → places ≡ items → AllStand (take i fs) items old → Grows old new
    → StaysAt (IsPlaces places) new place → StaysAt (WritesFields fs) new place
all_fields_stand fs items places i place old new le same h g s =
    let all = subst (λ (fs : List FieldSpec). AllStand fs items old) (take_all i fs le) h in
    vector_stands new items fs place (all_stand_on fs items old new g all) (subst (λ (places : List ℕ). StaysAt (IsPlaces places) new place) same s)

-- ---- what the tables of fields say
record SaidField (f : FieldSpec) (bytes : List ℕ) (place : ℕ) : Type 0 where
  table : TableIn
  read : table_at bytes place ≡ Ok table
  says : SaysField table f

record Elements (fs : List FieldSpec) (places bytes : List ℕ) : Type 0 where
  tables : List TableIn
  long : length tables ≡ length places
  at : (i : ℕ) (d : TableIn) (p : ℕ) → i < length tables → table_at bytes (length bytes - slice_index_or places i p) ≡ Ok (slice_index_or tables i d)
  say : SayFields tables fs

abbrev EachSaid : List FieldSpec → List ℕ → List ℕ → Type 0
EachSaid fs places bytes = (i p : ℕ) (g : FieldSpec) → i < length places → SaidField (slice_index_or fs i g) bytes (length bytes - slice_index_or places i p)

elements_of : (fs : List FieldSpec) (places bytes : List ℕ) → length places ≡ length fs → EachSaid fs places bytes → Elements fs places bytes
elements_of [] [] bytes long said = record {
  tables = [];
  long = refl;
  at = λ i d p lt. absurd (omega (arith, lt));
  say = record { long = refl; each = λ i u g lt. absurd (omega (arith, lt)) };
}
elements_of (f ∷ fs) (place ∷ places) bytes long said =
    let one = said 0 0 f (omega arith) in
    let others = elements_of fs places bytes (omega (arith, long)) (λ i p g lt. said (suc i) p g (omega (arith, lt))) in
    record {
      tables = one.table ∷ others.tables;
      long = omega (arith, others.long);
      at = at_each bytes place places one.table others.tables one.read others.at;
      say = record { long = omega (arith, others.say.long); each = say_each one.table others.tables f fs one.says others.say.each };
    }
  where
    at_each : (bytes : List ℕ) (place : ℕ) (places : List ℕ) (t : TableIn) (tables : List TableIn) → table_at bytes (length bytes - place) ≡ Ok t
        → ((i : ℕ) (d : TableIn) (p : ℕ) → i < length tables → table_at bytes (length bytes - slice_index_or places i p) ≡ Ok (slice_index_or tables i d))
        → (i : ℕ) (d : TableIn) (p : ℕ) → i < suc (length tables) → table_at bytes (length bytes - slice_index_or (place ∷ places) i p) ≡ Ok (slice_index_or (t ∷ tables) i d)
    at_each bytes place places t tables here there zero d p lt = here
    at_each bytes place places t tables here there (suc i) d p lt = there i d p (omega (arith, lt))

    say_each : (t : TableIn) (tables : List TableIn) (f : FieldSpec) (fs : List FieldSpec) → SaysField t f
        → ((i : ℕ) (u : TableIn) (g : FieldSpec) → i < length tables → SaysField (slice_index_or tables i u) (slice_index_or fs i g))
        → (i : ℕ) (u : TableIn) (g : FieldSpec) → i < suc (length tables) → SaysField (slice_index_or (t ∷ tables) i u) (slice_index_or (f ∷ fs) i g)
    say_each t tables f fs here there zero u g lt = here
    say_each t tables f fs here there (suc i) u g lt = there i u g (omega (arith, lt))
elements_of [] (place ∷ places) bytes long said = absurd (omega (arith, long))
elements_of (f ∷ fs) [] bytes long said = absurd (omega (arith, long))

-- the tables that the elements of a written vector refer to
has_elements : (fs : List FieldSpec) (places bytes : List ℕ) (place : ℕ) (e : Elements fs places bytes) → IsPlaces places bytes place
    → HasElements (vector_from 4 (length places) bytes place) e.tables
has_elements fs places bytes place e v = record {
  count = sym e.long;
  each = λ i d lt. refers (table_at bytes) (length bytes - slice_index places i) _ _ (v.each i (omega (arith, lt, e.long))) (e.at i d 0 lt);
}

field_said : (f : FieldSpec) (bytes : List ℕ) (place : ℕ) → WritesField f bytes place → SaidField f bytes place
field_said _ _ _ (writes f bytes place name kind children dict metadata places s n k d m c long each) =
    let e = elements_of (children_in f) places bytes long (λ i p g lt. field_said _ _ _ (each i p g lt)) in
    let t : TableIn = record { bytes = bytes; place = place; vtable = s.vtable; size = s.size } in
    let u : TableIn = record { bytes = bytes; place = length bytes - kind; vtable = k.vtable; size = k.size } in
    let v : VectorIn = vector_from 4 (length places) bytes (length bytes - children) in
    record {
      table = t;
      read = s.read;
      says = says t f e.tables
          (default_is [] (name_in f) _ (refers (text_at bytes) (length bytes - name) (name_in f) _ (s.each 0) n.read))
          (default_is 0 (type_number (kind_in f)) _ (s.each 2))
          (numbers_said t u (kind_in f) (refers (table_at bytes) (length bytes - kind) u _ (s.each 3) k.read) k.each)
          (dict_said (dict_in f) t dict d (s.each 4))
          (metadata_said (encoding_in f) t metadata m (s.each 6))
          (inr (v, refers (vector_at 4 bytes) (length bytes - children) v _ (s.each 5) c.read, has_elements (children_in f) places bytes (length bytes - children) e c))
          e.say.long
          e.say.each;
    }

-- ---- the schema
schema_table : (bytes : List ℕ) (fields : List FieldSpec) (place : ℕ) → WritesSchema fields bytes place → IsSchemaTable fields bytes place
schema_table bytes fields place w =
    let places = w.written.places in
    let s = w.table in
    let e = elements_of fields places bytes w.written.long (λ i p g lt. field_said _ _ _ (w.written.each i p g lt)) in
    let t : TableIn = record { bytes = bytes; place = place; vtable = s.vtable; size = s.size } in
    let v : VectorIn = vector_from 4 (length places) bytes (length bytes - w.vector) in
    let it : SaysSchema t fields = record {
      order = no_order t (s.each 0);
      tables = e.tables;
      has = inr (v, refers (vector_at 4 bytes) (length bytes - w.vector) v _ (s.each 1) w.written.vector.read, has_elements fields places bytes (length bytes - w.vector) e w.written.vector);
      say = e.say;
    } in
    record { writes = w; table = t; read = s.read; says = it; reads = λ r. schema_again t fields it r }
  where
    no_order : (t : TableIn) → place_of t 0 ≡ None → byte_order t ≡ Ok (pos 0)
    no_order t e = rw e refl

pub schema_stands : (old new : List ℕ) (fields : List FieldSpec) (vector place : ℕ) → StaysAt (WritesFields fields) old vector → Grows old new → StaysAt (HasSlots (Absent ∷ At vector ∷ [])) new place
    → StaysAt (IsSchemaTable fields) new place
schema_stands old new fields vector place v g s =
    let later = stands_on (WritesFields fields) old new vector g v in
    record {
      inside = s.inside;
      always = λ front. schema_table (front ++ new) fields (length (front ++ new) - place) (record { vector = vector; table = s.always front; written = later.always front });
    }

-- ---- growth
pub grows_over : (a b c d : List ℕ) → Grows a b → Grows b c → Grows c d → Grows a d
grows_over a b c d f g h = grows_on a c d (grows_on a b c f g) h
