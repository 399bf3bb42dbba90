-- What the tables say within the limits is read.
use Rattle.std.specs.Prelude.{◌≡◌, ℕ, zero, suc, ◌+◌, ◌-◌, ◌<◌, ◌≤◌, true, List, [], ◌∷◌, length, slice_index_or, Ok, Some}
use Rattle.std.specs.Str.{is_utf8}
use Rattle.std.specs.List.{list_all}
use Rattle.std.proofs.Common.{refl, sym, ap, ◌∙◌, inl, inr, arith}
use Rattle.std.proofs.lemmas.Bool.{eq-eqb, ne_eqb, le-ltb, and_parts}
use Rattle.flat_tables.specs.Tables.{TableIn, VectorIn, element_table}
use Rattle.arrow_schema.specs.Limits.{max_depth, max_fields}
use Rattle.arrow_schema.specs.declared.spec.FieldSpec.{FieldSpec}
use Rattle.arrow_schema.specs.Slots.{fields_slot, children_slot}
use Rattle.arrow_schema.specs.Trees.{field_count, count_of, names_differ, name_in, kind_in, dict_in, encoding_in, children_in}
use Rattle.arrow_schema.specs.Says.{HasElements, HasTables, SaysField, says, SayFields, SaysSchema}
use Rattle.arrow_schema.specs.Readable.{is_supported, fits_dictionary, fits_children, is_readable, are_readable, IsReadable}
use Rattle.arrow_schema.specs.Reading.{slot_of, field_of, fields_from, vector_of, schema_of}
use Rattle.arrow_schema.proofs.Metadata.{encoding_says}
use Rattle.arrow_schema.proofs.Folds.{made_again, count_in_is}
use Rattle.arrow_schema.proofs.FieldParts.{name_says, type_says}
use Rattle.arrow_schema.proofs.DictionaryParts.{dictionary_says}

-- the five tests of a field
pub record Tests (depth : ℕ) (f : FieldSpec) : Type 0 where
  pub text : is_utf8 (name_in f) ≡ true
  pub supported : is_supported (kind_in f) ≡ true
  pub dictionary : fits_dictionary (kind_in f) (dict_in f) ≡ true
  pub fits : fits_children (kind_in f) (children_in f) ≡ true
  pub children : are_readable depth (children_in f) ≡ true

pub tests_of : (depth : ℕ) (f : FieldSpec) → is_readable (are_readable depth) f ≡ true → Tests depth f
tests_of depth f h =
    let a = and_parts _ (are_readable depth (children_in f)) h in
    let b = and_parts _ (fits_children (kind_in f) (children_in f)) a.0 in
    let c = and_parts _ (fits_dictionary (kind_in f) (dict_in f)) b.0 in
    let d = and_parts (is_utf8 (name_in f)) (is_supported (kind_in f)) c.0 in
    record { text = d.0; supported = d.1; dictionary = c.1; fits = b.1; children = a.1 }

-- each field counts
pub length_le_count : (fields : List FieldSpec) → length fields ≤ count_of fields
length_le_count [] = omega arith
length_le_count (f ∷ fields) = omega (arith, length_le_count fields, count_in_is f)

abbrev Reads : ℕ → Type 0
Reads depth = (left : ℕ) (v : VectorIn) (tables : List TableIn) (fields : List FieldSpec) → HasElements v tables → SayFields tables fields → are_readable depth fields ≡ true
    → count_of fields ≤ left → vector_of depth left v ≡ Ok (fields, left - count_of fields)

slot_again : (depth : ℕ) → Reads depth → (slot left : ℕ) (t : TableIn) (tables : List TableIn) (fields : List FieldSpec) → HasTables slot t tables → SayFields tables fields
    → are_readable depth fields ≡ true → count_of fields ≤ left → slot_of (vector_of depth) slot left t ≡ Ok (fields, left - count_of fields)
unfolding slot_of
slot_again depth reads slot left t tables [] (inl empty) say readable le = rw empty.0 (ap (λ (n : ℕ). Ok ([], n)) (omega arith))
slot_again depth reads slot left t tables (f ∷ fields) (inl empty) say readable le = absurd (omega (arith, say.long, ap length empty.1))
slot_again depth reads slot left t tables fields (inr h) say readable le = rw h.1 (reads left h.0 tables fields h.2 say readable le)

field_again : (depth : ℕ) → Reads depth → (left : ℕ) (t : TableIn) (f : FieldSpec) → SaysField t f → is_readable (are_readable depth) f ≡ true → field_count f ≤ left + 1
    → field_of (vector_of depth) left t ≡ Ok (f, left + 1 - field_count f)
unfolding field_of
field_again depth reads left _ _ (says t f tables n k numbers d e has long each) readable le =
    let test = tests_of depth f readable in
    let count = count_in_is f in
    let children = slot_again depth reads children_slot left t tables (children_in f) has (record { long = long; each = each }) test.children (omega (arith, count)) in
    let rest : left - count_of (children_in f) ≡ left + 1 - field_count f = omega (arith, count) in
    rw (
      name_says t (name_in f) n test.text,
      type_says t (kind_in f) k numbers test.supported,
      dictionary_says t (kind_in f) (dict_in f) d test.dictionary,
      encoding_says t
          (encoding_in f) e,
      children,
      test.fits,
      made_again f,
      rest,
    ) refl

elements_again : (depth : ℕ) → Reads depth → (v : VectorIn) (place n left : ℕ) (tables : List TableIn) (fields : List FieldSpec) → length tables ≡ n
    → ((i : ℕ) (d : TableIn) → i < n → element_table v (place + i) ≡ Ok (Some (slice_index_or tables i d))) → SayFields tables fields
    → list_all (is_readable (are_readable depth)) fields ≡ true → count_of fields ≤ left + n
    → fields_from (field_of (vector_of depth)) v place n left ≡ Ok (fields, left + n - count_of fields)
unfolding fields_from
elements_again depth reads v place zero left tables [] size at say readable le = ap (λ (n : ℕ). Ok ([], n)) (omega arith)
elements_again depth reads v place zero left tables (f ∷ fields) size at say readable le = absurd (omega (arith, say.long, size))
elements_again depth reads v place (suc n) left tables [] size at say readable le = absurd (omega (arith, say.long, size))
elements_again depth reads v place (suc n) left [] (f ∷ fields) size at say readable le = absurd (omega (arith, size))
elements_again depth reads v place (suc n) left (t ∷ tables) (f ∷ fields) size at say readable le =
    let both = and_parts (is_readable (are_readable depth) f) (list_all (is_readable (are_readable depth)) fields) readable in
    let here : element_table v place ≡ Ok (Some t) = ap (element_table v) (omega arith) ∙ at 0 t (omega arith) in
    let longer = length_le_count fields in
    let same_size : length tables ≡ length fields = omega (arith, say.long) in
    let one = field_again depth reads left t f (say.each 0 t f (omega arith)) both.0 (omega (arith, size)) in
    let others = elements_again depth reads v (place + 1) n (left + 1 - field_count f) tables fields (omega (arith, size))
    (λ i d lt. ap (element_table v) (omega arith) ∙ at (suc i) d (omega arith))
    (record { long = same_size; each = λ i u g lt. say.each (suc i) u g (omega arith) })
    both.1 (omega (arith, size)) in
    let rest : left + 1 - field_count f + n - count_of fields ≡ left + suc n - (field_count f + count_of fields) = omega (arith, size) in
    rw (here, one, others, rest) refl

pub vector_again : (depth : ℕ) → Reads depth
unfolding vector_of are_readable
vector_again zero left v tables [] has say readable le = rw (eq-eqb v.count 0 (omega (arith, has.count, say.long))) (ap (λ (n : ℕ). Ok ([], n)) (omega arith))
vector_again zero left v tables (f ∷ fields) has say readable le = cc (readable)
vector_again (suc depth) left v tables [] has say readable le = rw (eq-eqb v.count 0 (omega (arith, has.count, say.long))) (ap (λ (n : ℕ). Ok ([], n)) (omega arith))
vector_again (suc depth) left v tables (f ∷ fields) has say readable le =
    let both = and_parts (names_differ (f ∷ fields)) (list_all (is_readable (are_readable depth)) (f ∷ fields)) readable in
    let longer = length_le_count (f ∷ fields) in
    let size : length tables ≡ v.count = sym has.count in
    let fits : v.count ≤ left = omega (arith, say.long) in
    let inner = elements_again depth (vector_again depth) v 0 v.count (left - v.count) tables (f ∷ fields) size (λ i d lt. ap (element_table v) (omega arith) ∙ has.each i d (omega arith)) say both.1 (omega arith) in
    let rest : left - v.count + v.count - count_of (f ∷ fields) ≡ left - count_of (f ∷ fields) = omega arith in
    rw (ne_eqb v.count 0 (λ e. omega (arith, say.long)), le-ltb left v.count fits, inner, both.0, rest) refl

pub schema_again : (t : TableIn) (fields : List FieldSpec) → SaysSchema t fields → IsReadable fields → schema_of t ≡ Ok fields
unfolding schema_of
schema_again t fields s r =
    rw (s.order, slot_again max_depth (vector_again max_depth) fields_slot max_fields t s.tables fields s.has s.say r.each r.count, r.uses) refl
