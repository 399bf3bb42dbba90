-- A refusal is a defect of the tables.
use Rattle.std.specs.Prelude.{◌≡◌, ◌≢◌, ◌⊎◌, ℕ, zero, suc, ◌+◌, ◌-◌, ◌<◌, ◌≤◌, ◌==◌, nat_lt, Bool, true, false, List, [], ◌∷◌, length, slice_index_or, Result, Ok, Err, Option, None, Some}
use Rattle.std.proofs.Common.{refl, sym, ap, ◌∙◌, subst, inl, inr, arith}
use Rattle.std.proofs.lemmas.Bool.{eqb-true, eqb-false, ltb-true, ltb-false}
use Rattle.lists.proofs.Truths.{chosen}
use Rattle.lists.proofs.Equals.{ok_is}
use Rattle.lists.specs.Results.{◌>>=◌}
use Rattle.flat_tables.specs.Tables.{TableIn, VectorIn, vector_slot, element_table}
use Rattle.arrow_schema.specs.Limits.{max_depth, max_fields}
use Rattle.arrow_schema.specs.declared.spec.FieldSpec.{FieldSpec}
use Rattle.arrow_schema.specs.declared.refusal.SchemaRefusal.{SchemaRefusal}
use Rattle.arrow_schema.specs.declared.refusal.SchemaRefusal.TheVariants.{Flat, Unsupported, TooManyFields, TooDeep, BadName, DictionaryTypes}
use Rattle.arrow_schema.specs.Types.{is_number}
use Rattle.arrow_schema.specs.Slots.{name_slot, byte_order, fields_slot, children_slot}
use Rattle.arrow_schema.specs.Trees.{name_in, field_with, names_differ, uses_of, uses_agree}
use Rattle.arrow_schema.specs.Says.{SaysField, says}
use Rattle.arrow_schema.specs.Readable.{fits_children}
use Rattle.arrow_schema.specs.Reading.{flat, name_of, type_of, dict_spec_of, encoding_of, FieldsRead, in_slot, slot_of, field_of, of_element, fields_from, with_own_names, vector_of, with_agreeing_uses, schema_of}
use Rattle.arrow_schema.specs.Defects.{IsChild, IsField, IsParent, FieldFault, VectorFault, HasFlatFault}
use Rattle.arrow_schema.specs.Defects.{IsUnsupported}
use Rattle.arrow_schema.specs.Defects.{UnsupportedField, IsUnsupported, IsTooDeep, HasBadName, HasDefect, of_vector_in, of_table_in, below_elements, fields_below}
use Rattle.arrow_schema.specs.Defects as defects
use Rattle.arrow_schema.proofs.Steps.{bind_ok, bind_err, flat_ok, flat_err, supported_ok, supported_err}
use Rattle.arrow_schema.proofs.FieldParts.{OwnDefect, faulty, unsupported, no_text, name_refused, type_reads, type_refused}
use Rattle.arrow_schema.proofs.DictionaryParts.{dictionary_refused}
use Rattle.arrow_schema.proofs.Elements.{element_there}
use Rattle.arrow_schema.proofs.Metadata.{encoding_refused}
use Rattle.arrow_schema.proofs.Lacking.{HasOtherChild, lacks_children}
use Rattle.arrow_schema.proofs.UsesStand.{two_types}
use Rattle.arrow_schema.proofs.Found.{ElementsSay, slot_says, elements_say, vector_says}
use Rattle.arrow_schema.proofs.Lists.{Twice, names_twice, uses_disagree}

-- how many fields are in a vector and below, down to a depth
abbrev pub below_vector : ℕ → VectorIn → ℕ
below_vector depth v = v.count + below_elements (fields_below depth children_slot) v 0 v.count

-- ---- what was read was counted
abbrev CountsVectors : ℕ → Type 0
CountsVectors depth = (left : ℕ) (v : VectorIn) (fields : List FieldSpec) (rest : ℕ) → vector_of depth left v ≡ Ok (fields, rest) → left ≡ rest + below_vector depth v

in_slot_counts : (depth : ℕ) → CountsVectors depth → (slot left : ℕ) (t : TableIn) (fields : List FieldSpec) (rest : ℕ) (found : Option VectorIn) → vector_slot 4 t slot ≡ Ok found
    → in_slot (vector_of depth) left found ≡ Ok (fields, rest) → left ≡ rest + fields_below (suc depth) slot t
unfolding fields_below
in_slot_counts depth counts slot left t fields rest None at h =
    rw at (omega (arith, ap (λ (p : List FieldSpec × ℕ). p.1) (ok_is ([], left) (fields, rest) h)))
in_slot_counts depth counts slot left t fields rest (Some v) at h = rw at (counts left v fields rest h)

slot_counts : (depth : ℕ) → CountsVectors depth → (slot left : ℕ) (t : TableIn) (fields : List FieldSpec) (rest : ℕ) → slot_of (vector_of depth) slot left t ≡ Ok (fields, rest)
    → left ≡ rest + fields_below (suc depth) slot t
unfolding slot_of
slot_counts depth counts slot left t fields rest h =
    let b = bind_ok (flat (vector_slot 4 t slot)) (in_slot (vector_of depth) left) (fields, rest) h in
    in_slot_counts depth counts slot left t fields rest b.0 (flat_ok (vector_slot 4 t slot) b.0 b.1) b.2

field_counts : (depth : ℕ) → CountsVectors depth → (left : ℕ) (t : TableIn) (f : FieldSpec) (rest : ℕ) → field_of (vector_of depth) left t ≡ Ok (f, rest)
    → left ≡ rest + fields_below (suc depth) children_slot t
unfolding field_of
field_counts depth counts left t f rest h =
    let n = bind_ok (name_of t) _ (f, rest) h in
    let k = bind_ok (type_of t) _ (f, rest) n.2 in
    let d = bind_ok (dict_spec_of k.0 t) _ (f, rest) k.2 in
    let e = bind_ok (flat (encoding_of t)) _ (f, rest) d.2 in
    let c = bind_ok (slot_of (vector_of depth) children_slot left t) _ (f, rest) e.2 in
    let s = supported_ok (fits_children k.0 c.0.0) (field_with n.0 k.0 d.0 e.0 c.0.0, c.0.1) (f, rest) c.2 in
    let same : c.0.1 ≡ rest = ap (λ (p : FieldSpec × ℕ). p.1) s.1 in
    slot_counts depth counts children_slot left t c.0.0 c.0.1 c.1 ∙ ap (λ (r : ℕ). r + fields_below (suc depth) children_slot t) same

sums : (left between r rest a b : ℕ) → left ≡ between + a → between ≡ r + b → r ≡ rest → left ≡ rest + (a + b)
sums left between r rest a b h g e = omega (arith, h, g, e)

elements_count : (depth : ℕ) → CountsVectors depth → (v : VectorIn) (place n left : ℕ) (fields : List FieldSpec) (rest : ℕ) → place + n ≡ v.count
    → fields_from (field_of (vector_of depth)) v place n left ≡ Ok (fields, rest) → left ≡ rest + below_elements (fields_below (suc depth) children_slot) v place n
unfolding fields_from below_elements
elements_count depth counts v place zero left fields rest end h = omega (arith, ap (λ (p : List FieldSpec × ℕ). p.1) (ok_is ([], left) (fields, rest) h))
elements_count depth counts v place (suc n) left fields rest end h =
    let b = bind_ok (flat (element_table v place)) _ (fields, rest) h in
    from_found b.0 (λ between fs r. elements_count depth counts v (place + 1) n between fs r (omega (arith, end))) (flat_ok (element_table v place) b.0 b.1) b.2
  where
    from_found : (found : Option TableIn)
        → ((between : ℕ) (fs : List FieldSpec) (r : ℕ) → fields_from (field_of (vector_of depth)) v (place + 1) n between ≡ Ok (fs, r)
        → between ≡ r + below_elements (fields_below (suc depth) children_slot) v (place + 1) n)
        → element_table v place ≡ Ok found
        → of_element (λ t. field_of (vector_of depth) left t >>= λ f. fields_from (field_of (vector_of depth)) v (place + 1) n f.1 >>= λ fs. Ok (f.0 ∷ fs.0, fs.1)) left found ≡ Ok (fields, rest)
        → left ≡ rest + (of_table_in (fields_below (suc depth) children_slot) (element_table v place) + below_elements (fields_below (suc depth) children_slot) v (place + 1) n)
    from_found None others at g = absurd (element_there v place (omega (arith, end)) at)
    from_found (Some t) others at g =
        let f = bind_ok (field_of (vector_of depth) left t) _ (fields, rest) g in
        let fs = bind_ok (fields_from (field_of (vector_of depth)) v (place + 1) n f.0.1) _ (fields, rest) f.2 in
        let same : fs.0.1 ≡ rest = ap (λ (p : List FieldSpec × ℕ). p.1) (ok_is (f.0.0 ∷ fs.0.0, fs.0.1) (fields, rest) fs.2) in
        rw at (sums left f.0.1 fs.0.1 rest (fields_below (suc depth) children_slot t) (below_elements (fields_below (suc depth) children_slot) v (place + 1) n)
        (field_counts depth counts left t f.0.0 f.0.1 f.1) (others f.0.1 fs.0.0 fs.0.1 fs.1) same)

no_elements : (depth left : ℕ) (v : VectorIn) (fields : List FieldSpec) (rest : ℕ) → v.count ≡ 0 → (let read : Result FieldsRead SchemaRefusal = Ok ([], left) in read ≡ Ok (fields, rest))
    → left ≡ rest + below_vector depth v
unfolding below_elements
no_elements depth left v fields rest none h =
    let same : left ≡ rest = ap (λ (p : List FieldSpec × ℕ). p.1) (ok_is ([], left) (fields, rest) h) in
    rw none (omega (arith, same))

own_rest : (read : FieldsRead) (fields : List FieldSpec) (rest : ℕ) → with_own_names read ≡ Ok (fields, rest) → read.1 ≡ rest
own_rest read fields rest h = elim (chosen (names_differ read.0) (Ok read) (Err BadName) (Ok (fields, rest)) h) [
  | inl c ↦ ap (λ (p : List FieldSpec × ℕ). p.1) (ok_is read (fields, rest) c.1)
  | inr c ↦ cc (c.1)
]

vector_counts : (depth : ℕ) → CountsVectors depth
unfolding vector_of below_elements
vector_counts zero left v fields rest h = elim (chosen (v.count == 0) (Ok ([], left)) _ (Ok (fields, rest)) h) [
  | inl c ↦ no_elements zero left v fields rest (eqb-true v.count 0 c.0) c.1
  | inr c ↦ elim (chosen (nat_lt left v.count) (Err TooManyFields) (Err TooDeep) (Ok (fields, rest)) c.1) [
    | inl d ↦ cc (d.1)
    | inr d ↦ cc (d.1)
  ]
]
vector_counts (suc depth) left v fields rest h = elim (chosen (v.count == 0) (Ok ([], left)) _ (Ok (fields, rest)) h) [
  | inl c ↦ no_elements (suc depth) left v fields rest (eqb-true v.count 0 c.0) c.1
  | inr c ↦ elim (chosen (nat_lt left v.count) (Err TooManyFields) _ (Ok (fields, rest)) c.1) [
    | inl d ↦ cc (d.1)
    | inr d ↦
        let b = bind_ok (fields_from (field_of (vector_of depth)) v 0 v.count (left - v.count)) with_own_names (fields, rest) d.1 in
        let e = elements_count depth (vector_counts depth) v 0 v.count (left - v.count) b.0.0 b.0.1 (omega arith) b.1 in
        let same : b.0.1 ≡ rest = own_rest b.0 fields rest b.2 in
        omega (arith, e, same, ltb-false left v.count d.0)
  ]
]

-- ---- a refusal of a part of the schema: a defect, or more fields than were left
pub data Refused (schema : TableIn) (left many : ℕ) : SchemaRefusal → Type 0 where
  stands : (e : SchemaRefusal) → HasDefect schema e → Refused schema left many e
  too_many : left < many → Refused schema left many TooManyFields

refused_more : (schema : TableIn) (left m n : ℕ) (e : SchemaRefusal) → m ≤ n → Refused schema left m e → Refused schema left n e
refused_more schema left m n _ le (stands e d) = stands e d
refused_more schema left m n _ le (too_many lt) = too_many (omega (arith, le, lt))

-- a refusal after k fields were counted
refused_after : (schema : TableIn) (left between k m : ℕ) (e : SchemaRefusal) → left ≤ between + k → Refused schema between m e → Refused schema left (k + m) e
refused_after schema left between k m _ le (stands e d) = stands e d
refused_after schema left between k m _ le (too_many lt) = too_many (omega (arith, le, lt))

own_stands : (schema : TableIn) (depth : ℕ) (t : TableIn) (e : SchemaRefusal) → IsField schema depth t → OwnDefect t e → HasDefect schema e
own_stands schema depth t _ f (faulty fault h) = defects.HasFlatFault.in_field depth t f h
own_stands schema depth t _ f (unsupported h) = defects.IsUnsupported.unsupported depth t f h
own_stands schema depth t _ f (no_text name read fails) = defects.HasBadName.no_text depth t name f read fails

-- a child is a field, one deeper
pub child_is : (schema : TableIn) (depth slot : ℕ) (parent t : TableIn) → IsParent schema depth slot parent → depth < max_depth → IsChild slot parent t → IsField schema (suc depth) t
child_is schema _ _ _ t defects.IsParent.root low c = defects.IsField.own t c
child_is schema _ _ _ t (defects.IsParent.field depth parent f) low c = defects.IsField.inner depth parent t low f c

-- what is below the root is a field
field_is : (schema : TableIn) (depth slot : ℕ) (t : TableIn) → IsParent schema depth slot t → 0 < depth → (slot ≡ children_slot) × IsField schema depth t
field_is schema _ _ _ defects.IsParent.root lt = absurd (omega (arith, lt))
field_is schema _ _ _ (defects.IsParent.field depth t f) lt = (refl, f)

abbrev VectorsRefuse : ℕ → Type 0
VectorsRefuse rest = (schema : TableIn) (depth slot left : ℕ) (t : TableIn) (v : VectorIn) (e : SchemaRefusal) → IsParent schema depth slot t → depth + rest ≡ max_depth
    → vector_slot 4 t slot ≡ Ok (Some v) → vector_of rest left v ≡ Err e → Refused schema left (below_vector rest v) e

slot_refused : (rest : ℕ) → VectorsRefuse rest → (schema : TableIn) (depth slot left : ℕ) (t : TableIn) (e : SchemaRefusal) → IsParent schema depth slot t → depth + rest ≡ max_depth
    → slot_of (vector_of rest) slot left t ≡ Err e → Refused schema left (fields_below (suc rest) slot t) e
unfolding slot_of fields_below
slot_refused rest refuse schema depth slot left t e parent deep h = elim (bind_err (flat (vector_slot 4 t slot)) (in_slot (vector_of rest) left) e h) [
  | inl fault ↦
      let f = flat_err (vector_slot 4 t slot) e fault in
      subst (Refused schema left _) (sym f.2) (stands (Flat f.0) (defects.HasFlatFault.in_vector depth slot t parent f.1))
  | inr b ↦ from_found b.0 (flat_ok (vector_slot 4 t slot) b.0 b.1) b.2
]
  where
    from_found : (found : Option VectorIn) → vector_slot 4 t slot ≡ Ok found → in_slot (vector_of rest) left found ≡ Err e
        → Refused schema left (of_vector_in (below_vector rest) (vector_slot 4 t slot)) e
    from_found None at g = cc (g)
    from_found (Some v) at g = rw at (refuse schema depth slot left t v e parent deep at g)

-- what a field lacks is a defect of the schema
lacking : (schema : TableIn) (depth : ℕ) (t : TableIn) (rest : ℕ) → IsField schema depth t → depth + rest ≡ max_depth → UnsupportedField t ⊎ HasOtherChild t rest → IsUnsupported schema
lacking schema depth t rest f deep (inl own) = defects.IsUnsupported.unsupported depth t f own
lacking schema depth t rest f deep (inr o) = defects.IsUnsupported.other_child depth t o.u f (omega (arith, deep, o.deep)) o.list o.child o.bad

field_refused : (rest : ℕ) → VectorsRefuse rest → (schema : TableIn) (depth left : ℕ) (t : TableIn) (e : SchemaRefusal) → IsField schema depth t → depth + rest ≡ max_depth
    → field_of (vector_of rest) left t ≡ Err e → Refused schema left (fields_below (suc rest) children_slot t) e
unfolding field_of
field_refused rest refuse schema depth left t e f deep h = elim (bind_err (name_of t) _ e h) [
  | inl fails ↦ stands e (own_stands schema depth t e f (name_refused t e fails))
  | inr n ↦ elim (bind_err (type_of t) _ e n.2) [
    | inl fails ↦ stands e (own_stands schema depth t e f (type_refused t e fails))
    | inr k ↦
        let kind = type_reads t k.0 k.1 in
        elim (bind_err (dict_spec_of k.0 t) _ e k.2) [
          | inl fails ↦ stands e (own_stands schema depth t e f (dictionary_refused t k.0 e kind.0 fails))
          | inr d ↦ elim (bind_err (flat (encoding_of t)) _ e d.2) [
            | inl fails ↦
                let fault = flat_err (encoding_of t) e fails in
                subst (Refused schema left _) (sym fault.2)
                (stands (Flat fault.0) (own_stands schema depth t (Flat fault.0) f (faulty fault.0 (defects.FieldFault.of_metadata (encoding_refused t fault.0 fault.1)))))
            | inr m ↦ elim (bind_err (slot_of (vector_of rest) children_slot left t) _ e m.2) [
              | inl fails ↦ slot_refused rest refuse schema depth children_slot left t e (defects.IsParent.field depth t f) deep fails
              | inr c ↦
                  let s = supported_err (fits_children k.0 c.0.0) (field_with n.0 k.0 d.0 m.0 c.0.0, c.0.1) e c.2 in
                  let says_it = slot_says rest (vector_says rest) children_slot left t c.0.0 c.0.1 c.1 in
                  subst (Refused schema left _) (sym s.1)
                  (stands Unsupported (lacking schema depth t rest f deep (lacks_children t k.0 c.0.0 rest left c.0.1 kind.0 s.0 says_it)))
            ]
          ]
        ]
  ]
]

elements_refused : (rest : ℕ) → VectorsRefuse rest → (schema : TableIn) (depth slot : ℕ) (t : TableIn) (v : VectorIn) (place n left : ℕ) (e : SchemaRefusal) → IsParent schema depth slot t
    → suc depth + rest ≡ max_depth → vector_slot 4 t slot ≡ Ok (Some v) → fields_from (field_of (vector_of rest)) v place n left ≡ Err e
    → Refused schema left (below_elements (fields_below (suc rest) children_slot) v place n) e
unfolding fields_from below_elements
elements_refused rest refuse schema depth slot t v place zero left e parent deep has h = cc (h)
elements_refused rest refuse schema depth slot t v place (suc n) left e parent deep has h = elim (bind_err (flat (element_table v place)) _ e h) [
  | inl fault ↦
      let f = flat_err (element_table v place) e fault in
      subst (Refused schema left _) (sym f.2) (stands (Flat f.0) (defects.HasFlatFault.in_element depth slot t v place parent (omega (arith, deep)) has f.1))
  | inr b ↦ from_found b.0 (λ between g. elements_refused rest refuse schema depth slot t v (place + 1) n between e parent deep has g) (flat_ok (element_table v place) b.0 b.1) b.2
]
  where
    from_found : (found : Option TableIn)
        → ((between : ℕ) → fields_from (field_of (vector_of rest)) v (place + 1) n between ≡ Err e → Refused schema between (below_elements (fields_below (suc rest) children_slot) v (place + 1) n) e)
        → element_table v place ≡ Ok found
        → of_element (λ t. field_of (vector_of rest) left t >>= λ f. fields_from (field_of (vector_of rest)) v (place + 1) n f.1 >>= λ fs. Ok (f.0 ∷ fs.0, fs.1)) left found ≡ Err e
        → Refused schema left (of_table_in (fields_below (suc rest) children_slot) (element_table v place) + below_elements (fields_below (suc rest) children_slot) v (place + 1) n) e
    from_found None others at g = cc (g)
    from_found (Some u) others at g =
        let f = child_is schema depth slot t u parent (omega (arith, deep)) (record { vector = v; has = has; place = place; at = at }) in
        rw at (elim (bind_err (field_of (vector_of rest) left u) _ e g) [
          | inl fails ↦ refused_more schema left (fields_below (suc rest) children_slot u) _ e (omega arith) (field_refused rest refuse schema (suc depth) left u e f deep fails)
          | inr b ↦ elim (bind_err (fields_from (field_of (vector_of rest)) v (place + 1) n b.0.1) _ e b.2) [
            | inl fails ↦ refused_after schema left b.0.1 (fields_below (suc rest) children_slot u) _ e
                (omega (arith, field_counts rest (vector_counts rest) left u b.0.0 b.0.1 b.1)) (others b.0.1 fails)
            | inr c ↦ cc (c.2)
          ]
        ])

name_said : (t : TableIn) (f : FieldSpec) → SaysField t f → name_slot t ≡ Ok (name_in f)
name_said _ _ (says t f tables n k numbers d e has long each) = n

-- two elements with one name
names_stand : (schema : TableIn) (depth slot : ℕ) (parent : TableIn) (v : VectorIn) (fields : List FieldSpec) (inner left rest : ℕ) → IsParent schema depth slot parent → depth < max_depth
    → vector_slot 4 parent slot ≡ Ok (Some v) → ElementsSay inner left v 0 v.count fields rest → Twice fields → HasBadName schema
names_stand schema depth slot parent v [] inner left rest p low has s w = absurd (omega (arith, w.inside))
names_stand schema depth slot parent v (f ∷ fields) inner left rest p low has s w =
    let size : length (f ∷ fields) ≡ v.count = sym s.say.long ∙ s.size in
    let j_in : w.j < v.count = omega (arith, w.inside, size) in
    let i_in : w.i < v.count = omega (arith, w.before, j_in) in
    let d = parent in
    let i_at : element_table v w.i ≡ Ok (Some (slice_index_or s.tables w.i d)) = ap (element_table v) (omega arith) ∙ s.at w.i d i_in in
    let j_at : element_table v w.j ≡ Ok (Some (slice_index_or s.tables w.j d)) = ap (element_table v) (omega arith) ∙ s.at w.j d j_in in
    let i_name = name_said _ _ (s.say.each w.i d f (omega (arith, i_in, s.size))) in
    let j_name = name_said _ _ (s.say.each w.j d f (omega (arith, j_in, s.size))) in
    defects.HasBadName.twice depth slot parent v w.i w.j (slice_index_or s.tables w.i d) (slice_index_or s.tables w.j d) (name_in (slice_index_or (f ∷ fields) w.i f)) p low has w.before i_at j_at
    i_name (j_name ∙ ap Ok (sym (w.same f)))

deepest : (schema : TableIn) (depth slot : ℕ) (t : TableIn) (v : VectorIn) → IsParent schema depth slot t → depth + 0 ≡ max_depth → vector_slot 4 t slot ≡ Ok (Some v) → v.count ≢ 0 → IsTooDeep schema
deepest schema depth slot t v parent deep has some =
    let f = field_is schema depth slot t parent (omega (arith, deep)) in
    let d : depth ≡ max_depth = omega (arith, deep) in
    record {
      t = t;
      deepest = subst (λ (n : ℕ). IsField schema n t) d f.1;
      vector = v;
      has = subst (λ (slot : ℕ). vector_slot 4 t slot ≡ Ok (Some v)) f.0 has;
      some = omega (arith, some);
    }

vector_refused : (rest : ℕ) → VectorsRefuse rest
unfolding vector_of
vector_refused zero schema depth slot left t v e parent deep has h = elim (chosen (v.count == 0) (Ok ([], left)) _ (Err e) h) [
  | inl c ↦ cc (c.1)
  | inr c ↦ elim (chosen (nat_lt left v.count) (Err TooManyFields) (Err TooDeep) (Err e) c.1) [
    | inl d ↦
        let is : TooManyFields ≡ e = cc (d.1) in
        subst (Refused schema left _) is (too_many (omega (arith, ltb-true left v.count d.0)))
    | inr d ↦
        let is : TooDeep ≡ e = cc (d.1) in
        subst (Refused schema left _) is (stands TooDeep (deepest schema depth slot t v parent deep has (eqb-false v.count 0 c.0)))
  ]
]
vector_refused (suc rest) schema depth slot left t v e parent deep has h = elim (chosen (v.count == 0) (Ok ([], left)) _ (Err e) h) [
  | inl c ↦ cc (c.1)
  | inr c ↦ elim (chosen (nat_lt left v.count) (Err TooManyFields) _ (Err e) c.1) [
    | inl d ↦
        let is : TooManyFields ≡ e = cc (d.1) in
        subst (Refused schema left _) is (too_many (omega (arith, ltb-true left v.count d.0)))
    | inr d ↦ elim (bind_err (fields_from (field_of (vector_of rest)) v 0 v.count (left - v.count)) with_own_names e d.1) [
      | inl fails ↦ refused_after schema left (left - v.count) v.count _ e (omega (arith, ltb-false left v.count d.0))
          (elements_refused rest (vector_refused rest) schema depth slot t v 0 v.count (left - v.count) e parent (omega (arith, deep)) has fails)
      | inr b ↦ elim (chosen (names_differ b.0.0) (Ok b.0) (Err BadName) (Err e) b.2) [
        | inl g ↦ cc (g.1)
        | inr g ↦
            let is : BadName ≡ e = cc (g.1) in
            let says_it = elements_say rest (vector_says rest) v 0 v.count (left - v.count) b.0.0 b.0.1 (omega arith) b.1 in
            subst (Refused schema left _) is (stands BadName (names_stand schema depth slot t v b.0.0 rest (left - v.count) b.0.1 parent (omega (arith, deep)) has says_it (names_twice b.0.0 g.0)))
      ]
    ]
  ]
]

-- ---- the schema
schema_defect : (schema : TableIn) (e : SchemaRefusal) → Refused schema max_fields (fields_below (suc max_depth) fields_slot schema) e → HasDefect schema e
schema_defect schema _ (stands e d) = d
schema_defect schema _ (too_many lt) = lt

fields_refused : (schema : TableIn) (e : SchemaRefusal) → (slot_of (vector_of max_depth) fields_slot max_fields schema >>= with_agreeing_uses) ≡ Err e → HasDefect schema e
fields_refused schema e h = elim (bind_err (slot_of (vector_of max_depth) fields_slot max_fields schema) with_agreeing_uses e h) [
  | inl fails ↦ schema_defect schema e (slot_refused max_depth (vector_refused max_depth) schema 0 fields_slot max_fields schema e defects.IsParent.root (omega arith) fails)
  | inr b ↦ elim (chosen (uses_agree (uses_of b.0.0)) (Ok b.0.0) (Err DictionaryTypes) (Err e) b.2) [
    | inl c ↦ cc (c.1)
    | inr c ↦
        let is : DictionaryTypes ≡ e = cc (c.1) in
        let s = slot_says max_depth (vector_says max_depth) fields_slot max_fields schema b.0.0 b.0.1 b.1 in
        subst (HasDefect schema) is (two_types schema s.tables b.0.0 s.has s.say s.readable (uses_disagree (uses_of b.0.0) c.0))
  ]
]

pub schema_refused : (schema : TableIn) (e : SchemaRefusal) → schema_of schema ≡ Err e → HasDefect schema e
unfolding schema_of
schema_refused schema e h = elim (bind_err (flat (byte_order schema)) _ e h) [
  | inl fault ↦
      let f = flat_err (byte_order schema) e fault in
      subst (HasDefect schema) (sym f.2) (defects.HasFlatFault.in_order f.1)
  | inr o ↦ elim (chosen_order (is_number 0 o.0) schema) [
    | inl little ↦ fields_refused schema e (rw little at o.2)
    | inr big ↦
        let is : Unsupported ≡ e = cc (rw big at o.2) in
        subst (HasDefect schema) is (defects.IsUnsupported.other_order o.0 (flat_ok (byte_order schema) o.0 o.1) big)
  ]
]
  where
    chosen_order : (b : Bool) (schema : TableIn) → (b ≡ true) ⊎ (b ≡ false)
    chosen_order true schema = inl refl
    chosen_order false schema = inr refl
