-- What is written for a schema is plain: each of its fields is one that was written.
use Rattle.std.proofs.Common.{◌≡◌, ℕ, ◌-◌, ◌<◌, ◌⊎◌, List, [], ◌∷◌, length, Result, Ok, Err, Some, None, refl, sym, ◌∙◌, subst, inl, inr, arith}
use Rattle.std.specs.Prelude.{slice_index_or, slice_index, codes}
use Rattle.lists.proofs.Equals.{ok_is}
use Rattle.lists.specs.Results.{◌>>=◌}
use Rattle.flat_tables.specs.declared.fault.FlatFault.{FlatFault}
use Rattle.flat_tables.specs.declared.place.Slot.{Slot}
use Rattle.flat_tables.specs.declared.place.Slot.TheVariants.{Absent, At}
use Rattle.flat_tables.specs.Tables.{TableIn, VectorIn, table_at, text_at, vector_at, table_slot, vector_slot, reference_slot, element_table, place_of}
use Rattle.flat_tables.specs.Slots.{Holds}
use Rattle.flat_tables.specs.Building.{IsPlaces, vector_from}
use Rattle.arrow_schema.specs.declared.spec.ArrowType.{ArrowType}
use Rattle.arrow_schema.specs.declared.spec.ArrowType.TheVariants.{Int}
use Rattle.arrow_schema.specs.declared.spec.Encoding.{Encoding}
use Rattle.arrow_schema.specs.declared.spec.Encoding.TheVariants as encoding
use Rattle.arrow_schema.specs.declared.spec.FieldSpec.{FieldSpec}
use Rattle.arrow_schema.specs.Defects.{IsChild}
use Rattle.arrow_schema.specs.Plain.{IsFieldOf, own_field, child_field, HasEncodingAlone, IsPlainField, IsPlainSchema}
use Rattle.arrow_schema.specs.Slots.{kind_slot, fields_slot, children_slot}
use Rattle.arrow_schema.specs.Trees.{kind_in, encoding_in, children_in}
use Rattle.arrow_schema.specs.Types.{type_number}
use Rattle.arrow_schema.specs.Writing.{type_slots, WritesPair, WritesMetadata, WritesField, writes, WritesSchema}
use Rattle.arrow_schema.proofs.Elements.{inside}
use Rattle.arrow_schema.proofs.Written.{default_is, refers}

-- a table of a field that was written
record IsWrittenAt (bytes : List ℕ) (t : TableIn) : Type 0 where
  f : FieldSpec
  place : ℕ
  written : WritesField f bytes place
  at : table_at bytes place ≡ Ok t

same_table : (t u : TableIn) (r : Result TableIn FlatFault) → r ≡ Ok t → r ≡ Ok u → t ≡ u
same_table t u r one other = ok_is {E = FlatFault} t u (sym one ∙ other)

-- ---- the children of what was written

abbrev AreWritten : List FieldSpec → List ℕ → List ℕ → Type 0
AreWritten fields places bytes = (i p : ℕ) (g : FieldSpec) → i < length places → WritesField (slice_index_or fields i g) bytes (length bytes - slice_index_or places i p)

element_at : (places bytes : List ℕ) (vplace i : ℕ) (t : TableIn) → IsPlaces places bytes vplace → i < length places → element_table (vector_from 4 (length places) bytes vplace) i ≡ Ok (Some t)
    → table_at bytes (length bytes - slice_index places i) ≡ Ok t
element_at places bytes vplace i t v low at = some_of (table_at bytes (length bytes - slice_index places i)) (rw (v.each i low) at at)
  where
    some_of : (r : Result TableIn FlatFault) → (r >>= λ y. Ok (Some y)) ≡ Ok (Some t) → r ≡ Ok t
    some_of (Ok u) is = cc (is)
    some_of (Err e) is = absurd (cc (is))

child_at : (fields : List FieldSpec) (places bytes : List ℕ) (vplace slot : ℕ) (parent t : TableIn) → IsPlaces places bytes vplace → length places ≡ length fields → AreWritten fields places bytes
    → vector_slot 4 parent slot ≡ Ok (Some (vector_from 4 (length places) bytes vplace)) → IsChild slot parent t → IsWrittenAt bytes t
child_at fields places bytes vplace slot parent t v long each has c =
    let same : c.vector ≡ vector_from 4 (length places) bytes vplace = cc (c.has, has) in
    let at : element_table (vector_from 4 (length places) bytes vplace) c.place ≡ Ok (Some t) = subst (λ (x : VectorIn). element_table x c.place ≡ Ok (Some t)) same c.at in
    let low : c.place < length places = inside (vector_from 4 (length places) bytes vplace) c.place t at in
    by_fields fields each long low (element_at places bytes vplace c.place t v low at)
  where
    by_fields : (fields : List FieldSpec) → AreWritten fields places bytes → length places ≡ length fields → c.place < length places
        → table_at bytes (length bytes - slice_index places c.place) ≡ Ok t → IsWrittenAt bytes t
    by_fields [] each long low at = absurd (omega (arith, long, low))
    by_fields (f ∷ fs) each long low at =
        record { f = slice_index_or (f ∷ fs) c.place f; place = length bytes - slice_index places c.place; written = each c.place 0 f low; at = at }

below : (f : FieldSpec) (bytes : List ℕ) (place : ℕ) (parent t : TableIn) → WritesField f bytes place → table_at bytes place ≡ Ok parent → IsChild children_slot parent t → IsWrittenAt bytes t
below _ _ _ parent t (writes f bytes place name kind children dict metadata places s n k d m c long each) at child =
    let table : TableIn = record { bytes = bytes; place = place; vtable = s.vtable; size = s.size } in
    child_at (children_in f) places bytes (length bytes - children) children_slot table t c long each
    (refers (vector_at 4 bytes) (length bytes - children) (vector_from 4 (length places) bytes (length bytes - children)) (reference_slot table children_slot) (s.each 5) c.read)
    (subst (λ (x : TableIn). IsChild children_slot x t) (same_table parent table (table_at bytes place) at s.read) child)

reached : (fields : List FieldSpec) (bytes : List ℕ) (place : ℕ) (schema t : TableIn) → WritesSchema fields bytes place → table_at bytes place ≡ Ok schema → IsFieldOf schema t → IsWrittenAt bytes t
reached fields bytes place schema _ w at (own_field t child) =
    let s = w.table in
    let places = w.written.places in
    let table : TableIn = record { bytes = bytes; place = place; vtable = s.vtable; size = s.size } in
    child_at fields places bytes (length bytes - w.vector) fields_slot table t w.written.vector w.written.long w.written.each
    (refers (vector_at 4 bytes) (length bytes - w.vector) (vector_from 4 (length places) bytes (length bytes - w.vector)) (reference_slot table fields_slot) (s.each 1) w.written.vector.read)
    (subst (λ (x : TableIn). IsChild fields_slot x t) (same_table schema table (table_at bytes place) at s.read) child)
reached fields bytes place schema _ w at (child_field parent t field child) =
    let p : IsWrittenAt bytes parent = reached fields bytes place schema parent w at field in
    below p.f bytes p.place parent t p.written p.at child

-- ---- each is plain

pair_alone : (word : List ℕ) (t : TableIn) (place : ℕ) → WritesPair word t.bytes (length t.bytes - place) → Holds t 6 (At place) → HasEncodingAlone t
pair_alone word t place w holds =
    let bytes : List ℕ = t.bytes in
    let u : TableIn = record { bytes = bytes; place = length bytes - w.pair; vtable = w.table.vtable; size = w.table.size } in
    let v : VectorIn = vector_from 4 1 bytes (length bytes - place) in
    record {
      vector = v;
      has = refers (vector_at 4 bytes) (length bytes - place) v (reference_slot t 6) holds w.vector.read;
      one = refl;
      pair = u;
      at = refers (table_at bytes) (length bytes - w.pair) u _ (w.vector.each 0 (omega arith)) w.table.read;
      key = refers (text_at bytes) (length bytes - w.key) (codes "encoding") _ (w.table.each 0) w.key_text.read;
    }

metadata_alone : (named : Encoding) (t : TableIn) (slot : Slot) → WritesMetadata named t.bytes slot → Holds t 6 slot → (place_of t 6 ≡ None) ⊎ HasEncodingAlone t
metadata_alone encoding.None t slot h holds = inl (subst (Holds t 6) h holds)
metadata_alone encoding.Plain t slot h holds = inr (pair_alone (codes "plain") t h.0 h.2 (subst (Holds t 6) h.1 holds))
metadata_alone encoding.Delta t slot h holds = inr (pair_alone (codes "delta") t h.0 h.2 (subst (Holds t 6) h.1 holds))
metadata_alone encoding.Run t slot h holds = inr (pair_alone (codes "run") t h.0 h.2 (subst (Holds t 6) h.1 holds))
metadata_alone encoding.Other t slot h holds = inr (pair_alone [] t h.0 h.2 (subst (Holds t 6) h.1 holds))

-- only the table of an Int has a second slot
no_zone : (kind : ArrowType) (u : TableIn) → type_number kind ≡ 10 → Holds u 1 (slice_index_or (type_slots kind) 1 Absent) → place_of u 1 ≡ None
no_zone (Int bits signed) u e h = absurd (omega (arith, e))
no_zone kind u e h = h

plain : (f : FieldSpec) (bytes : List ℕ) (place : ℕ) (t : TableIn) → WritesField f bytes place → table_at bytes place ≡ Ok t → IsPlainField t
plain _ _ _ t (writes f bytes place name kind children dict metadata places s n k d m c long each) at =
    let table : TableIn = record { bytes = bytes; place = place; vtable = s.vtable; size = s.size } in
    let u : TableIn = record { bytes = bytes; place = length bytes - kind; vtable = k.vtable; size = k.size } in
    let type_at : table_slot table 3 ≡ Ok (Some u) = refers (table_at bytes) (length bytes - kind) u _ (s.each 3) k.read in
    let number : kind_slot table ≡ Ok (type_number (kind_in f)) = default_is 0 (type_number (kind_in f)) _ (s.each 2) in
    let here : IsPlainField table = record {
      nullable = s.each 1;
      no_timezone = λ timestamp type has.
          let same : type ≡ u = cc (has, type_at) in
          let ten : type_number (kind_in f) ≡ 10 = cc (number, timestamp) in
          subst (λ (x : TableIn). place_of x 1 ≡ None) (sym same) (no_zone (kind_in f) u ten (k.each 1));
      metadata = metadata_alone (encoding_in f) table metadata m (s.each 6);
    } in
    subst (λ (x : TableIn). IsPlainField x) (same_table table t (table_at bytes place) s.read at) here

pub plain_schema : (fields : List FieldSpec) (bytes : List ℕ) (place : ℕ) (schema : TableIn) → WritesSchema fields bytes place → table_at bytes place ≡ Ok schema → IsPlainSchema schema
plain_schema fields bytes place schema w at =
    let s = w.table in
    let table : TableIn = record { bytes = bytes; place = place; vtable = s.vtable; size = s.size } in
    record {
      no_metadata = subst (λ (x : TableIn). place_of x 2 ≡ None) (same_table table schema (table_at bytes place) s.read at) (s.each 2);
      fields = λ t field. let r : IsWrittenAt bytes t = reached fields bytes place schema t w at field in plain r.f bytes r.place t r.written r.at;
    }
