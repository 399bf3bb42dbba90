-- What is read is what the tables say, and it is within the limits.
use Rattle.std.specs.Prelude.{◌≡◌, ℕ, zero, suc, ◌+◌, ◌-◌, ◌<◌, ◌≤◌, ◌==◌, ◌&&◌, nat_lt, Bool, true, List, [], ◌∷◌, length, slice_index_or, Result, Ok, Err, Option, None, Some, pos}
use Rattle.std.specs.Str.{is_utf8}
use Rattle.std.specs.List.{list_all}
use Rattle.std.proofs.Common.{refl, sym, ap, ◌∙◌, subst, inl, inr, get_or, arith}
use Rattle.std.proofs.lemmas.Bool.{eqb-true, ltb-false}
use Rattle.lists.proofs.Truths.{chosen}
use Rattle.lists.proofs.Equals.{ok_is, pair_is}
use Rattle.lists.specs.Results.{◌>>=◌}
use Rattle.flat_tables.specs.Tables.{TableIn, VectorIn, vector_slot, element_table}
use Rattle.arrow_schema.specs.Limits.{max_depth, max_fields}
use Rattle.arrow_schema.specs.declared.spec.ArrowType.{ArrowType}
use Rattle.arrow_schema.specs.declared.spec.DictSpec.{DictSpec}
use Rattle.arrow_schema.specs.declared.spec.Encoding.{Encoding}
use Rattle.arrow_schema.specs.declared.spec.FieldSpec.{FieldSpec}
use Rattle.arrow_schema.specs.declared.refusal.SchemaRefusal.{SchemaRefusal}
use Rattle.arrow_schema.specs.declared.refusal.SchemaRefusal.TheVariants.{TooManyFields, TooDeep, BadName, DictionaryTypes}
use Rattle.arrow_schema.specs.Types.{type_number, is_number}
use Rattle.arrow_schema.specs.Slots.{name_slot, kind_slot, byte_order, fields_slot, children_slot}
use Rattle.arrow_schema.specs.Trees.{field_count, count_of, uses_of, uses_agree, names_differ, field_with}
use Rattle.arrow_schema.specs.Says.{SaysNumbers, SaysDictionary, SaysEncoding, HasElements, HasTables, SaysField, says, SayFields, SaysSchema}
use Rattle.arrow_schema.specs.Readable.{is_supported, fits_dictionary, fits_children, is_readable, are_readable, IsReadable}
use Rattle.arrow_schema.specs.Reading.{flat, where_supported, name_of, type_of, dict_spec_of, encoding_of, FieldsRead, in_slot}
use Rattle.arrow_schema.specs.Reading.{slot_of, field_of, of_element, fields_from, with_own_names, vector_of, with_agreeing_uses, schema_of}
use Rattle.arrow_schema.proofs.Steps.{bind_ok, flat_ok, supported_ok}
use Rattle.arrow_schema.proofs.Folds.{name_in_is, kind_in_is, dict_in_is, encoding_in_is, children_in_is, count_in_is}
use Rattle.arrow_schema.proofs.Elements.{element_there}
use Rattle.arrow_schema.proofs.Metadata.{encoding_reads}
use Rattle.arrow_schema.proofs.FieldParts.{name_reads, type_reads, number_is}
use Rattle.arrow_schema.proofs.DictionaryParts.{dictionary_reads}

-- ---- what is known of fields that were read
pub record VectorSays (depth left : ℕ) (v : VectorIn) (fields : List FieldSpec) (rest : ℕ) : Type 0 where
  pub tables : List TableIn
  pub has : HasElements v tables
  pub say : SayFields tables fields
  pub readable : are_readable depth fields ≡ true
  pub left_is : left ≡ rest + count_of fields

pub record FieldSays (depth left : ℕ) (t : TableIn) (f : FieldSpec) (rest : ℕ) : Type 0 where
  pub says_it : SaysField t f
  pub readable : is_readable (are_readable depth) f ≡ true
  pub left_is : left + 1 ≡ rest + field_count f

pub record SlotSays (depth slot left : ℕ) (t : TableIn) (fields : List FieldSpec) (rest : ℕ) : Type 0 where
  pub tables : List TableIn
  pub has : HasTables slot t tables
  pub say : SayFields tables fields
  pub readable : are_readable depth fields ≡ true
  pub left_is : left ≡ rest + count_of fields

pub say_none : SayFields [] []
say_none = record { long = refl; each = λ i u g lt. absurd (omega (arith, lt)) }

pub none_readable : (depth : ℕ) → are_readable depth [] ≡ true
unfolding are_readable names_differ
none_readable zero = refl
none_readable (suc depth) = refl

-- a field by its parts
pub says_with : (t : TableIn) (name : List ℕ) (kind : ArrowType) (dict : Option DictSpec) (encoding : Encoding) (children : List FieldSpec) (tables : List TableIn) → name_slot t ≡ Ok name
    → kind_slot t ≡ Ok (type_number kind) → SaysNumbers t kind → SaysDictionary t dict → SaysEncoding t encoding → HasTables children_slot t tables → SayFields tables children
    → SaysField t (field_with name kind dict encoding children)
says_with t name kind dict encoding children tables n k numbers d e has say =
    let f = field_with name kind dict encoding children in
    says t f tables
    (n ∙ ap Ok (sym (name_in_is name kind dict encoding children)))
    (k ∙ ap (λ (kind : ArrowType). Ok (type_number kind)) (sym (kind_in_is name kind dict encoding children)))
    (subst (SaysNumbers t) (sym (kind_in_is name kind dict encoding children)) numbers)
    (subst (SaysDictionary t) (sym (dict_in_is name kind dict encoding children)) d)
    (subst (SaysEncoding t) (sym (encoding_in_is name kind dict encoding children)) e)
    has
    (say.long ∙ ap length (sym (children_in_is name kind dict encoding children)))
    (λ i u g lt. subst (λ (fields : List FieldSpec). SaysField (get_or tables i u) (get_or fields i g)) (sym (children_in_is name kind dict encoding children)) (say.each i u g lt))

all_true : (a b c d e : Bool) → a ≡ true → b ≡ true → c ≡ true → d ≡ true → e ≡ true → (a && b && c && d && e) ≡ true
all_true a b c d e ha hb hc hd he = rw (ha, hb, hc, hd, he) refl

pub readable_with : (depth : ℕ) (name : List ℕ) (kind : ArrowType) (dict : Option DictSpec) (encoding : Encoding) (children : List FieldSpec) → is_utf8 name ≡ true → is_supported kind ≡ true
    → fits_dictionary kind dict ≡ true → fits_children kind children ≡ true → are_readable depth children ≡ true → is_readable (are_readable depth) (field_with name kind dict encoding children) ≡ true
readable_with depth name kind dict encoding children text supported dictionary fits inner =
    rw (name_in_is name kind dict encoding children, kind_in_is name kind dict encoding children, dict_in_is name kind dict encoding children, children_in_is name kind dict encoding children)
    (all_true _ _ _ _ _ text supported dictionary fits inner)

-- the fields in a slot, where its vector is read as it says
abbrev pub VectorsSay : ℕ → Type 0
VectorsSay depth = (left : ℕ) (v : VectorIn) (fields : List FieldSpec) (rest : ℕ) → vector_of depth left v ≡ Ok (fields, rest) → VectorSays depth left v fields rest

found_says : (depth : ℕ) → VectorsSay depth → (slot left : ℕ) (t : TableIn) (fields : List FieldSpec) (rest : ℕ) (found : Option VectorIn) → vector_slot 4 t slot ≡ Ok found
    → in_slot (vector_of depth) left found ≡ Ok (fields, rest) → SlotSays depth slot left t fields rest
found_says depth vector slot left t fields rest None at h =
    let is = pair_is ([], left) (fields, rest) (ok_is ([], left) (fields, rest) h) in
    subst (λ (p : List FieldSpec × ℕ). SlotSays depth slot left t p.0 p.1) (ok_is ([], left) (fields, rest) h)
    (record { tables = []; has = inl (at, refl); say = say_none; readable = none_readable depth; left_is = omega arith })
found_says depth vector slot left t fields rest (Some v) at h =
    let s = vector left v fields rest h in
    record { tables = s.tables; has = inr (v, at, s.has); say = s.say; readable = s.readable; left_is = s.left_is }

pub slot_says : (depth : ℕ) → VectorsSay depth → (slot left : ℕ) (t : TableIn) (fields : List FieldSpec) (rest : ℕ) → slot_of (vector_of depth) slot left t ≡ Ok (fields, rest)
    → SlotSays depth slot left t fields rest
unfolding slot_of
slot_says depth vector slot left t fields rest h =
    let b = bind_ok (flat (vector_slot 4 t slot)) (in_slot (vector_of depth) left) (fields, rest) h in
    found_says depth vector slot left t fields rest b.0 (flat_ok (vector_slot 4 t slot) b.0 b.1) b.2

field_made : (depth left : ℕ) (t : TableIn) (name : List ℕ) (kind : ArrowType) (dict : Option DictSpec) (encoding : Encoding) (children : List FieldSpec) (rest : ℕ) → VectorsSay depth
    → name_of t ≡ Ok name → type_of t ≡ Ok kind → dict_spec_of kind t ≡ Ok dict → encoding_of t ≡ Ok encoding → slot_of (vector_of depth) children_slot left t ≡ Ok (children, rest) → fits_children kind children ≡ true
    → FieldSays depth left t (field_with name kind dict encoding children) rest
field_made depth left t name kind dict encoding children rest vector n k d e c fits =
    let named = name_reads t name n in
    let typed = type_reads t kind k in
    let encoded = dictionary_reads t kind dict d in
    let inner = slot_says depth vector children_slot left t children rest c in
    record {
      says_it = says_with t name kind dict encoding children inner.tables named.0 typed.0 typed.1 encoded.0 (encoding_reads t encoding e) inner.has inner.say;
      readable = readable_with depth name kind dict encoding children named.1 typed.2 encoded.1 fits inner.readable;
      left_is = omega (arith, inner.left_is, count_in_is (field_with name kind dict encoding children), ap count_of (children_in_is name kind dict encoding children));
    }

field_says : (depth : ℕ) → VectorsSay depth → (left : ℕ) (t : TableIn) (f : FieldSpec) (rest : ℕ) → field_of (vector_of depth) left t ≡ Ok (f, rest) → FieldSays depth left t f rest
unfolding field_of
field_says depth vector left t f rest h =
    let n = bind_ok (name_of t) _ (f, rest) h in
    let k = bind_ok (type_of t) _ (f, rest) n.2 in
    let d = bind_ok (dict_spec_of k.0 t) _ (f, rest) k.2 in
    let e = bind_ok (flat (encoding_of t)) _ (f, rest) d.2 in
    let c = bind_ok (slot_of (vector_of depth) children_slot left t) _ (f, rest) e.2 in
    let s = supported_ok (fits_children k.0 c.0.0) (field_with n.0 k.0 d.0 e.0 c.0.0, c.0.1) (f, rest) c.2 in
    subst (λ (p : FieldSpec × ℕ). FieldSays depth left t p.0 p.1) s.1 (field_made depth left t n.0 k.0 d.0 e.0 c.0.0 c.0.1 vector n.1 k.1 d.1 (flat_ok (encoding_of t) e.0 e.1) c.1 s.0)

-- ---- the fields of a vector, one after the other
pub record ElementsSay (depth left : ℕ) (v : VectorIn) (place n : ℕ) (fields : List FieldSpec) (rest : ℕ) : Type 0 where
  pub tables : List TableIn
  pub size : length tables ≡ n
  pub at : (i : ℕ) (d : TableIn) → i < n → element_table v (place + i) ≡ Ok (Some (slice_index_or tables i d))
  pub say : SayFields tables fields
  pub readable : list_all (is_readable (are_readable depth)) fields ≡ true
  pub left_is : left + n ≡ rest + count_of fields

one_more : (depth left : ℕ) (v : VectorIn) (place n : ℕ) (t : TableIn) (f : FieldSpec) (between rest : ℕ) (fields : List FieldSpec) → element_table v place ≡ Ok (Some t)
    → FieldSays depth left t f between → ElementsSay depth between v (place + 1) n fields rest → ElementsSay depth left v place (suc n) (f ∷ fields) rest
one_more depth left v place n t f between rest fields at says_f others = record {
  tables = t ∷ others.tables;
  size = omega (arith, others.size);
  at = at_each;
  say = record { long = omega (arith, others.say.long); each = each_says };
  readable = rw (says_f.readable, others.readable) refl;
  left_is = omega (arith, says_f.left_is, others.left_is);
}
  where
    at_each : (i : ℕ) (d : TableIn) → i < suc n → element_table v (place + i) ≡ Ok (Some (slice_index_or (t ∷ others.tables) i d))
    at_each zero d lt = ap (element_table v) (omega arith) ∙ at
    at_each (suc i) d lt = ap (element_table v) (omega arith) ∙ others.at i d (omega arith)

    each_says : (i : ℕ) (u : TableIn) (g : FieldSpec) → i < length (t ∷ others.tables) → SaysField (slice_index_or (t ∷ others.tables) i u) (slice_index_or (f ∷ fields) i g)
    each_says zero u g lt = says_f.says_it
    each_says (suc i) u g lt = others.say.each i u g (omega arith)

pub elements_say : (depth : ℕ) → VectorsSay depth → (v : VectorIn) (place n left : ℕ) (fields : List FieldSpec) (rest : ℕ) → place + n ≡ v.count
    → fields_from (field_of (vector_of depth)) v place n left ≡ Ok (fields, rest) → ElementsSay depth left v place n fields rest
unfolding fields_from
elements_say depth vector v place zero left fields rest end h =
    subst (λ (p : List FieldSpec × ℕ). ElementsSay depth left v place zero p.0 p.1) (ok_is ([], left) (fields, rest) h) (record {
      tables = [];
      size = refl;
      at = λ i d lt. absurd (omega (arith, lt));
      say = say_none;
      readable = refl;
      left_is = refl;
    })
elements_say depth vector v place (suc n) left fields rest end h =
    let b = bind_ok (flat (element_table v place)) _ (fields, rest) h in
    from_found b.0 (λ between fs r. elements_say depth vector v (place + 1) n between fs r (omega (arith, end))) (flat_ok (element_table v place) b.0 b.1) b.2
  where
    from_found : (found : Option TableIn)
        → ((between : ℕ) (fs : List FieldSpec) (r : ℕ) → fields_from (field_of (vector_of depth)) v (place + 1) n between ≡ Ok (fs, r) → ElementsSay depth between v (place + 1) n fs r)
        → element_table v place ≡ Ok found
        → of_element (λ t. field_of (vector_of depth) left t >>= λ f. fields_from (field_of (vector_of depth)) v (place + 1) n f.1 >>= λ fs. Ok (f.0 ∷ fs.0, fs.1)) left found ≡ Ok (fields, rest)
        → ElementsSay depth left v place (suc n) fields rest
    from_found None others at g = absurd (element_there v place (omega (arith, end)) at)
    from_found (Some t) others at g =
        let f = bind_ok (field_of (vector_of depth) left t) _ (fields, rest) g in
        let fs = bind_ok (fields_from (field_of (vector_of depth)) v (place + 1) n f.0.1) _ (fields, rest) f.2 in
        subst (λ (p : List FieldSpec × ℕ). ElementsSay depth left v place (suc n) p.0 p.1) (ok_is (f.0.0 ∷ fs.0.0, fs.0.1) (fields, rest) fs.2)
        (one_more depth left v place n t f.0.0 f.0.1 fs.0.1 fs.0.0 at (field_says depth vector left t f.0.0 f.0.1 f.1) (others f.0.1 fs.0.0 fs.0.1 fs.1))

-- ---- the fields of a vector
empty_says : (depth left : ℕ) (v : VectorIn) (fields : List FieldSpec) (rest : ℕ) → v.count ≡ 0 → (let read : Result FieldsRead SchemaRefusal = Ok ([], left) in read ≡ Ok (fields, rest))
    → VectorSays depth left v fields rest
empty_says depth left v fields rest zero_count h = subst (λ (p : List FieldSpec × ℕ). VectorSays depth left v p.0 p.1) (ok_is ([], left) (fields, rest) h) (record {
  tables = [];
  has = record { count = zero_count; each = λ i d lt. absurd (omega (arith, lt)) };
  say = say_none;
  readable = none_readable depth;
  left_is = omega arith;
})

named_says : (depth left rest : ℕ) (v : VectorIn) (fields : List FieldSpec) → v.count ≤ left → names_differ fields ≡ true → ElementsSay depth (left - v.count) v 0 v.count fields rest
    → VectorSays (suc depth) left v fields rest
unfolding are_readable
named_says depth left rest v fields le differ s = record {
  tables = s.tables;
  has = record { count = sym s.size; each = λ i d lt. ap (element_table v) (omega arith) ∙ s.at i d (omega (arith, s.size)) };
  say = s.say;
  readable = rw (differ, s.readable) refl;
  left_is = omega (arith, s.left_is);
}

pub vector_says : (depth : ℕ) → VectorsSay depth
unfolding vector_of
vector_says zero left v fields rest h = elim (chosen (v.count == 0) (Ok ([], left)) _ (Ok (fields, rest)) h) [
  | inl c ↦ empty_says zero left v fields rest (eqb-true v.count 0 c.0) c.1
  | inr c ↦ elim (chosen (nat_lt left v.count) (Err TooManyFields) (Err TooDeep) (Ok (fields, rest)) c.1) [
    | inl d ↦ cc (d.1)
    | inr d ↦ cc (d.1)
  ]
]
vector_says (suc depth) left v fields rest h = elim (chosen (v.count == 0) (Ok ([], left)) _ (Ok (fields, rest)) h) [
  | inl c ↦ empty_says (suc depth) left v fields rest (eqb-true v.count 0 c.0) c.1
  | inr c ↦ elim (chosen (nat_lt left v.count) (Err TooManyFields) _ (Ok (fields, rest)) c.1) [
    | inl d ↦ cc (d.1)
    | inr d ↦
        let b = bind_ok (fields_from (field_of (vector_of depth)) v 0 v.count (left - v.count)) with_own_names (fields, rest) d.1 in
        elim (chosen (names_differ b.0.0) (Ok b.0) (Err BadName) (Ok (fields, rest)) b.2) [
          | inl g ↦ subst (λ (p : List FieldSpec × ℕ). VectorSays (suc depth) left v p.0 p.1) (ok_is b.0 (fields, rest) g.1)
              (named_says depth left b.0.1 v b.0.0 (ltb-false left v.count d.0) g.0 (elements_say depth (vector_says depth) v 0 v.count (left - v.count) b.0.0 b.0.1 (omega arith) b.1))
          | inr g ↦ cc (g.1)
        ]
  ]
]

-- ---- the schema
uses_checked : (fields : FieldsRead) (found : List FieldSpec) → with_agreeing_uses fields ≡ Ok found → (fields.0 ≡ found) × (uses_agree (uses_of found) ≡ true)
uses_checked fields found h = elim (chosen (uses_agree (uses_of fields.0)) (Ok fields.0) (Err DictionaryTypes) (Ok found) h) [
  | inl c ↦ let is : fields.0 ≡ found = ok_is fields.0 found c.1 in (is, ap (λ (fields : List FieldSpec). uses_agree (uses_of fields)) (sym is) ∙ c.0)
  | inr c ↦ cc (c.1)
]

pub schema_found : (t : TableIn) (fields : List FieldSpec) → schema_of t ≡ Ok fields → SaysSchema t fields × IsReadable fields
unfolding schema_of
schema_found t fields h =
    let o = bind_ok (flat (byte_order t)) _ fields h in
    let b = bind_ok (where_supported (is_number 0 o.0) t >>= slot_of (vector_of max_depth) fields_slot max_fields) with_agreeing_uses fields o.2 in
    let a = bind_ok (where_supported (is_number 0 o.0) t) (slot_of (vector_of max_depth) fields_slot max_fields) b.0 b.1 in
    let s = supported_ok (is_number 0 o.0) t a.0 a.1 in
    let u = uses_checked b.0 fields b.2 in
    let read : slot_of (vector_of max_depth) fields_slot max_fields t ≡ Ok (b.0.0, b.0.1) = ap (slot_of (vector_of max_depth) fields_slot max_fields) s.1 ∙ a.2 in
    let says_it = slot_says max_depth (vector_says max_depth) fields_slot max_fields t b.0.0 b.0.1 read in
    let order : byte_order t ≡ Ok (pos 0) = flat_ok (byte_order t) o.0 o.1 ∙ ap Ok (number_is 0 o.0 s.0) in
    schema_made t b.0.0 fields b.0.1 order says_it u.0 u.1
  where
    schema_made : (t : TableIn) (read fields : List FieldSpec) (rest : ℕ) → byte_order t ≡ Ok (pos 0) → SlotSays max_depth fields_slot max_fields t read rest → read ≡ fields
        → uses_agree (uses_of fields) ≡ true → SaysSchema t fields × IsReadable fields
    schema_made t read fields rest order s is agree = (
      record { order = order; tables = s.tables; has = s.has; say = subst (SayFields s.tables) is s.say },
      record { count = omega (arith, s.left_is, ap count_of is); each = ap (are_readable max_depth) (sym is) ∙ s.readable; uses = agree },
    )
