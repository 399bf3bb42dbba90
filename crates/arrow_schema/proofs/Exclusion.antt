-- Tables that say a schema within the limits have no defect.
use Rattle.std.specs.Prelude.{◌≡◌, ℕ, zero, suc, ◌+◌, ◌<◌, ◌≤◌, true, false, List, [], ◌∷◌, length, slice_index_or, Ok, Option, None, Some, ℤ, pos}
use Rattle.std.proofs.Common.{refl, sym, ap, ◌∙◌, subst, inl, inr, arith}
use Rattle.std.proofs.lemmas.Bool.{and_parts}
use Rattle.flat_tables.specs.declared.fault.FlatFault.{FlatFault}
use Rattle.flat_tables.specs.Tables.{TableIn, VectorIn, element_table, each}
use Rattle.arrow_schema.specs.Limits.{max_depth}
use Rattle.arrow_schema.specs.declared.spec.ArrowType.{ArrowType}
use Rattle.arrow_schema.specs.declared.spec.DictSpec.{DictSpec}
use Rattle.arrow_schema.specs.declared.spec.FieldSpec.{FieldSpec}
use Rattle.arrow_schema.specs.declared.refusal.SchemaRefusal.{SchemaRefusal}
use Rattle.arrow_schema.specs.declared.refusal.SchemaRefusal.TheVariants.{Flat, Unsupported, TooManyFields, TooDeep, BadName, DictionaryTypes, Memory}
use Rattle.arrow_schema.specs.declared.agreement.Use.{Use}
use Rattle.arrow_schema.specs.Types.{type_number, is_number}
use Rattle.arrow_schema.specs.Slots.{name_slot, kind_slot, dictionary_id, fields_slot, children_slot}
use Rattle.arrow_schema.specs.Trees.{name_in, kind_in, dict_in, encoding_in, children_in, field_count, count_of, names_differ, use_of, uses_in, uses_of}
use Rattle.arrow_schema.specs.Says.{SaysNumbers, SaysDictionary, SaysEncoding, HasElements, HasTables, SaysField, says, SayFields, SaysSchema}
use Rattle.arrow_schema.specs.Readable.{no_fields, is_readable, are_readable, IsReadable}
use Rattle.arrow_schema.specs.Reading.{schema_of}
use Rattle.arrow_schema.specs.Defects.{IsChild, IsField, IsParent, HasFlatFault, IsUnsupported}
use Rattle.arrow_schema.specs.Defects.{IsTooDeep, HasBadName, HasUse, HasTwoTypes, HasDefect, below_elements, fields_below}
use Rattle.arrow_schema.specs.Defects as defects
use Rattle.arrow_schema.proofs.Elements.{inside, same_vector, no_vector_fault, one_of}
use Rattle.arrow_schema.proofs.Folds.{count_in_is, uses_in_is}
use Rattle.arrow_schema.proofs.FieldParts.{OwnDefect, faulty, unsupported, no_text, type_says}
use Rattle.arrow_schema.proofs.Clear.{IsClear, no_other_child, no_own_defect}
use Rattle.arrow_schema.proofs.Found.{schema_found}
use Rattle.arrow_schema.proofs.Only.{Tests, tests_of}
use Rattle.arrow_schema.proofs.Lists.{names_once, IsIn, in_left, in_right, use_in, uses_alike}
use Rattle.arrow_schema.proofs.UsesStand.{readable_at}

-- ---- each field of the schema is one of the spec
pub record Reached (fields : List FieldSpec) (depth : ℕ) (t : TableIn) : Type 0 where
  pub f : FieldSpec
  pub says_it : SaysField t f
  pub inner : ℕ
  pub level : depth + inner ≡ max_depth
  pub readable : is_readable (are_readable inner) f ≡ true
  pub uses : (u : Use) → IsIn u (uses_in f) → IsIn u (uses_of fields)

-- a child of what has these fields
child_reached : (all fields : List FieldSpec) (depth slot level : ℕ) (parent t : TableIn) (tables : List TableIn) → HasTables slot parent tables → SayFields tables fields
    → are_readable level fields ≡ true → depth + level ≡ max_depth → ((u : Use) → IsIn u (uses_of fields) → IsIn u (uses_of all)) → IsChild slot parent t → Reached all (suc depth) t
child_reached all [] depth slot level parent t tables has say readable deep uses c =
    let o = one_of slot parent t tables has c in absurd (omega (arith, o.1, say.long))
child_reached all (f ∷ fields) depth slot level parent t tables has say readable deep uses c =
    let o = one_of slot parent t tables has c in
    let lt : o.0 < length (f ∷ fields) = omega (arith, o.1, say.long) in
    let r = readable_at level (f ∷ fields) o.0 f readable lt in
    record {
      f = slice_index_or (f ∷ fields) o.0 f;
      says_it = subst (λ (t : TableIn). SaysField t (slice_index_or (f ∷ fields) o.0 f)) (o.2 parent) (say.each o.0 parent f o.1);
      inner = r.0;
      level = omega (arith, deep, r.1);
      readable = r.2;
      uses = λ u h. uses u (use_in u (f ∷ fields) o.0 f lt h);
    }

-- what a field says of its children
pub record Inner (t : TableIn) (f : FieldSpec) : Type 0 where
  pub tables : List TableIn
  pub has : HasTables children_slot t tables
  pub say : SayFields tables (children_in f)
  pub named : name_slot t ≡ Ok (name_in f)
  pub kind : kind_slot t ≡ Ok (type_number (kind_in f))
  pub numbers : SaysNumbers t (kind_in f)
  pub dict : SaysDictionary t (dict_in f)
  pub encoding : SaysEncoding t (encoding_in f)

inner_of : (t : TableIn) (f : FieldSpec) → SaysField t f → Inner t f
inner_of _ _ (says t f tables n k numbers d e has long each) =
    record { tables = tables; has = has; say = record { long = long; each = each }; named = n; kind = k; numbers = numbers; dict = d; encoding = e }

reached : (schema : TableIn) (fields : List FieldSpec) (depth : ℕ) (t : TableIn) → SaysSchema schema fields → IsReadable fields → IsField schema depth t → Reached fields depth t
reached schema fields _ _ s r (defects.IsField.own t c) = child_reached fields fields 0 fields_slot max_depth schema t s.tables s.has s.say r.each (omega arith) (λ u h. h) c
reached schema fields _ _ s r (defects.IsField.inner depth parent t low f c) =
    let p = reached schema fields depth parent s r f in
    let i = inner_of parent p.f p.says_it in
    let test = tests_of p.inner p.f p.readable in
    child_reached fields (children_in p.f) depth children_slot p.inner parent t i.tables i.has i.say test.children p.level
    (λ u h. p.uses u (subst (IsIn u) (sym (uses_in_is p.f)) (in_right u (use_of (kind_in p.f) (dict_in p.f)) (uses_of (children_in p.f)) h))) c

clear_of : (inner : ℕ) (t : TableIn) (f : FieldSpec) → Inner t f → Tests inner f → IsClear t (name_in f) (kind_in f) (dict_in f) (encoding_in f)
clear_of inner t f i test = record {
  has_name = i.named;
  text = test.text;
  has_kind = i.kind;
  numbers = i.numbers;
  supported = test.supported;
  has_dict = i.dict;
  fits = test.dictionary;
  has_encoding = i.encoding;
}

-- no field has a defect of its own
none_own : (fields : List FieldSpec) (depth : ℕ) (t : TableIn) (e : SchemaRefusal) → Reached fields depth t → OwnDefect t e → ⊥
none_own fields depth t e r d =
    let i = inner_of t r.f r.says_it in
    let test = tests_of r.inner r.f r.readable in
    no_own_defect t (name_in r.f) (kind_in r.f) (dict_in r.f) (children_in r.f) (encoding_in r.f) i.tables e (clear_of r.inner t r.f i test) i.has i.say test.fits d

-- what a parent has in its slot
pub record Own (fields : List FieldSpec) (depth slot : ℕ) (t : TableIn) : Type 0 where
  pub own : List FieldSpec
  pub tables : List TableIn
  pub has : HasTables slot t tables
  pub say : SayFields tables own
  pub level : ℕ
  pub deep : depth + level ≡ max_depth
  pub readable : are_readable level own ≡ true

own_of : (schema : TableIn) (fields : List FieldSpec) (depth slot : ℕ) (t : TableIn) → SaysSchema schema fields → IsReadable fields → IsParent schema depth slot t → Own fields depth slot t
own_of schema fields _ _ _ s r defects.IsParent.root =
    record { own = fields; tables = s.tables; has = s.has; say = s.say; level = max_depth; deep = omega arith; readable = r.each }
own_of schema fields _ _ _ s r (defects.IsParent.field depth t f) =
    let p = reached schema fields depth t s r f in
    let i = inner_of t p.f p.says_it in
    let test = tests_of p.inner p.f p.readable in
    record { own = children_in p.f; tables = i.tables; has = i.has; say = i.say; level = p.inner; deep = p.level; readable = test.children }

-- ---- the count
below_none : (count : TableIn → ℕ) (v : VectorIn) (place : ℕ) (tables : List TableIn) (fields : List FieldSpec) → SayFields tables fields
    → ((i : ℕ) (d : TableIn) → i < length tables → element_table v (place + i) ≡ Ok (Some (slice_index_or tables i d)))
    → ((i : ℕ) (u : TableIn) (g : FieldSpec) → i < length tables → count (slice_index_or tables i u) + 1 ≤ field_count (slice_index_or fields i g))
    → length tables + below_elements count v place (length tables) ≤ count_of fields
unfolding below_elements
below_none count v place [] [] say at each_is = omega arith
below_none count v place [] (f ∷ fields) say at each_is = absurd (omega (arith, say.long))
below_none count v place (t ∷ tables) [] say at each_is = absurd (omega (arith, say.long))
below_none count v place (t ∷ tables) (f ∷ fields) say at each_is =
    let here : element_table v place ≡ Ok (Some t) = ap (element_table v) (omega arith) ∙ at 0 t (omega arith) in
    let one : count t + 1 ≤ field_count f = each_is 0 t f (omega arith) in
    let same_size : length tables ≡ length fields = omega (arith, say.long) in
    let others = below_none count v (place + 1) tables fields (record { long = same_size; each = λ i u g lt. say.each (suc i) u g (omega arith) })
    (λ i d lt. ap (element_table v) (omega arith) ∙ at (suc i) d (omega arith)) (λ i u g lt. each_is (suc i) u g (omega arith)) in
    rw here (omega (arith, one, others))

slot_below : (depth slot : ℕ) (t : TableIn) (tables : List TableIn) (fields : List FieldSpec) → HasTables slot t tables → SayFields tables fields
    → ((i : ℕ) (u : TableIn) (g : FieldSpec) → i < length tables → fields_below depth children_slot (slice_index_or tables i u) + 1 ≤ field_count (slice_index_or fields i g))
    → fields_below (suc depth) slot t ≤ count_of fields
unfolding fields_below
slot_below depth slot t tables fields (inl empty) say each_is = rw empty.0 (omega arith)
slot_below depth slot t tables fields (inr h) say each_is =
    let b = below_none (fields_below depth children_slot) h.0 0 tables fields say (λ i d lt. ap (element_table h.0) (omega arith) ∙ h.2.each i d lt) each_is in
    let all = subst (λ (n : ℕ). n + below_elements (fields_below depth children_slot) h.0 0 n ≤ count_of fields) (sym h.2.count) b in
    rw h.1 all

below_field : (depth : ℕ) (t : TableIn) (f : FieldSpec) → SaysField t f → fields_below depth children_slot t + 1 ≤ field_count f
unfolding fields_below
below_field zero _ _ (says t f tables n k numbers d e has long each) = omega (arith, count_in_is f)
below_field (suc depth) _ _ (says t f tables n k numbers d e has long each) =
    omega (arith, count_in_is f, slot_below depth children_slot t tables (children_in f) has (record { long = long; each = each }) (λ i u g lt. below_field depth _ _ (each i u g lt)))

below_schema : (depth : ℕ) (schema : TableIn) (fields : List FieldSpec) → SaysSchema schema fields → fields_below depth fields_slot schema ≤ count_of fields
unfolding fields_below
below_schema zero schema fields s = omega arith
below_schema (suc depth) schema fields s = slot_below depth fields_slot schema s.tables fields s.has s.say (λ i u g lt. below_field depth _ _ (s.say.each i u g lt))

-- ---- one kind of defect after the other
no_flat : (schema : TableIn) (fields : List FieldSpec) (f : FlatFault) → SaysSchema schema fields → IsReadable fields → HasFlatFault f schema → ⊥
no_flat schema fields f s r (defects.HasFlatFault.in_order at) = cc (s.order, at)
no_flat schema fields f s r (defects.HasFlatFault.in_vector depth slot t parent fault) =
    let o = own_of schema fields depth slot t s r parent in
    no_vector_fault f slot t o.tables o.has (defects.VectorFault.of_vector fault)
no_flat schema fields f s r (defects.HasFlatFault.in_element depth slot t v place parent low at fault) =
    let o = own_of schema fields depth slot t s r parent in
    no_vector_fault f slot t o.tables o.has (defects.VectorFault.of_element v place at fault)
no_flat schema fields f s r (defects.HasFlatFault.in_field depth t field fault) = none_own fields depth t (Flat f) (reached schema fields depth t s r field) (faulty f fault)

no_unsupported : (schema : TableIn) (fields : List FieldSpec) → SaysSchema schema fields → IsReadable fields → IsUnsupported schema → ⊥
no_unsupported schema fields s r (defects.IsUnsupported.other_order n at big) =
    let same : pos 0 ≡ n = cc (s.order, at) in
    cc (subst (λ (z : ℤ). is_number 0 z ≡ false) (sym same) big)
no_unsupported schema fields s r (defects.IsUnsupported.unsupported depth t field h) = none_own fields depth t Unsupported (reached schema fields depth t s r field) (unsupported h)
no_unsupported schema fields s r (defects.IsUnsupported.other_child depth t u field low list child bad) =
    let p = reached schema fields depth t s r field in
    let i = inner_of t p.f p.says_it in
    let test = tests_of p.inner p.f p.readable in
    no_other_child t u (kind_in p.f) (children_in p.f) i.tables i.kind i.has i.say test.fits list child bad

no_deep : (schema : TableIn) (fields : List FieldSpec) → SaysSchema schema fields → IsReadable fields → IsTooDeep schema → ⊥
unfolding are_readable
no_deep schema fields s r d =
    let p = reached schema fields max_depth d.t s r d.deepest in
    let i = inner_of d.t p.f p.says_it in
    let test = tests_of p.inner p.f p.readable in
    let none : p.inner ≡ 0 = omega (arith, p.level) in
    let e = same_vector children_slot d.t d.vector i.tables i.has d.has in
    has_none (children_in p.f) (subst (λ (n : ℕ). are_readable n (children_in p.f) ≡ true) none test.children) (omega (arith, e.count, i.say.long, d.some))
  where
    has_none : (fields : List FieldSpec) → no_fields fields ≡ true → 0 < length fields → ⊥
    has_none [] h lt = omega (arith, lt)
    has_none (f ∷ fields) h lt = cc (h)

-- elements whose fields have two names
named_so : (tables : List TableIn) (own : List FieldSpec) (v : VectorIn) (i : ℕ) (t : TableIn) (f : FieldSpec) (name : List ℕ) → SayFields tables own → HasElements v tables → i < length tables
    → element_table v i ≡ Ok (Some t) → name_slot t ≡ Ok name → name_in (slice_index_or own i f) ≡ name
named_so tables own v i t f name say e lt at named =
    let same : slice_index_or tables i t ≡ t = cc (e.each i t lt, at) in
    let n = (inner_of _ _ (subst (λ (t : TableIn). SaysField t (slice_index_or own i f)) same (say.each i t f lt))).named in
    cc (n, named)

own_names : (level : ℕ) (f : FieldSpec) (own : List FieldSpec) → are_readable level (f ∷ own) ≡ true → names_differ (f ∷ own) ≡ true
unfolding are_readable
own_names zero f own h = cc (h)
own_names (suc level) f own h = (and_parts (names_differ (f ∷ own)) _ h).0

not_twice : (own : List FieldSpec) (tables : List TableIn) (v : VectorIn) (i j : ℕ) (t u : TableIn) (name : List ℕ) (level : ℕ) → SayFields tables own → HasElements v tables
    → are_readable level own ≡ true → i < j → i < length tables → j < length tables → element_table v i ≡ Ok (Some t) → element_table v j ≡ Ok (Some u) → name_slot t ≡ Ok name
    → name_slot u ≡ Ok name → ⊥
not_twice [] tables v i j t u name level say e readable lt i_in j_in i_at j_at i_name j_name = omega (arith, i_in, say.long)
not_twice (f ∷ own) tables v i j t u name level say e readable lt i_in j_in i_at j_at i_name j_name =
    let first = named_so tables (f ∷ own) v i t f name say e i_in i_at i_name in
    let second = named_so tables (f ∷ own) v j u f name say e j_in j_at j_name in
    names_once (f ∷ own) i j f (own_names level f own readable) lt (omega (arith, j_in, say.long)) (first ∙ sym second)

no_name : (schema : TableIn) (fields : List FieldSpec) → SaysSchema schema fields → IsReadable fields → HasBadName schema → ⊥
no_name schema fields s r (defects.HasBadName.no_text depth t name field at fails) = none_own fields depth t BadName (reached schema fields depth t s r field) (no_text name at fails)
no_name schema fields s r (defects.HasBadName.twice depth slot parent v i j t u name p low has lt i_at j_at i_name j_name) =
    let o = own_of schema fields depth slot parent s r p in
    let e = same_vector slot parent v o.tables o.has has in
    let j_in : j < length o.tables = omega (arith, inside v j u j_at, e.count) in
    let i_in : i < length o.tables = omega (arith, lt, j_in) in
    not_twice o.own o.tables v i j t u name o.level o.say e o.readable lt i_in j_in i_at j_at i_name j_name

-- a use that a field has is one of the spec
use_said : (fields : List FieldSpec) (depth : ℕ) (t : TableIn) (id : ℤ) (kind : ArrowType) → Reached fields depth t → HasUse t id kind → IsIn (record { id = id; kind = kind }) (uses_of fields)
use_said fields depth t id kind r h =
    let i = inner_of t r.f r.says_it in
    let test = tests_of r.inner r.f r.readable in
    let read = type_says t (kind_in r.f) i.kind i.numbers test.supported in
    let same : kind_in r.f ≡ kind = cc (read, h.has_type) in
    r.uses _ (subst (IsIn _) (sym (uses_in_is r.f)) (in_left _ (use_of (kind_in r.f) (dict_in r.f)) (uses_of (children_in r.f)) (own_use (kind_in r.f) (dict_in r.f) i.dict same)))
  where
    use_is : (a b : ℤ) (k l : ArrowType) → a ≡ b → k ≡ l → (let u : Use = record { id = a; kind = k } in u ≡ record { id = b; kind = l })
    use_is a b k l e g = cc (e, g)

    own_use : (k : ArrowType) (dict : Option DictSpec) → SaysDictionary t dict → k ≡ kind → IsIn (record { id = id; kind = kind }) (use_of k dict)
    own_use k None d same = cc (d, h.at)
    own_use k (Some dict) d same =
        let table : d.0 ≡ h.dictionary = cc (d.1, h.at) in
        let number : dict.id ≡ id = cc (d.2.id, h.has_id, ap dictionary_id table) in
        inl (use_is id dict.id kind k (sym number) (sym same))

no_two_types : (schema : TableIn) (fields : List FieldSpec) → SaysSchema schema fields → IsReadable fields → HasTwoTypes schema → ⊥
no_two_types schema fields s r d =
    let a = use_said fields d.depth d.t d.id d.kind (reached schema fields d.depth d.t s r d.field) d.use_of in
    let b = use_said fields d.other_depth d.other d.id d.other_kind (reached schema fields d.other_depth d.other s r d.other_field) d.other_use in
    d.differ (uses_alike (uses_of fields) _ _ r.uses a b refl)

pub no_defect : (schema : TableIn) (fields : List FieldSpec) (e : SchemaRefusal) → SaysSchema schema fields → IsReadable fields → HasDefect schema e → ⊥
no_defect schema fields (Flat f) s r d = no_flat schema fields f s r d
no_defect schema fields Unsupported s r d = no_unsupported schema fields s r d
no_defect schema fields TooManyFields s r d = omega (arith, below_schema (max_depth + 1) schema fields s, d, r.count)
no_defect schema fields TooDeep s r d = no_deep schema fields s r d
no_defect schema fields BadName s r d = no_name schema fields s r d
no_defect schema fields DictionaryTypes s r d = no_two_types schema fields s r d
no_defect schema fields (Memory m) s r d = d

-- what is read has no defect
pub read_has_none : (schema : TableIn) (fields : List FieldSpec) (e : SchemaRefusal) → schema_of schema ≡ Ok fields → HasDefect schema e → ⊥
read_has_none schema fields e read d = let f = schema_found schema fields read in no_defect schema fields e f.0 f.1 d
