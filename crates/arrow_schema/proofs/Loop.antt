-- Reading fields one after the other, as a loop does.
use Rattle.std.proofs.Common.{true, false, ◌≡◌, ◌≢◌, ℕ, zero, suc, ◌-◌, ◌+◌, ◌≤◌, ◌<◌, List, [], ◌∷◌, ◌++◌, Result, Ok, Err, None, Some, refl, sym, ap, ◌∙◌, append_assoc, arith}
use Rattle.std.proofs.lemmas.Bool.{lt-ltb, le-ltb, eq-eqb, ne_eqb}
use Rattle.std.proofs.lemmas.List.{append-nil}
use Rattle.lists.specs.Results.{◌>>=◌}
use Rattle.flat_tables.specs.Tables.{TableIn, VectorIn, element_table}
use Rattle.flat_tables.specs.declared.fault.FlatFault.{FlatFault}
use Rattle.arrow_schema.specs.declared.spec.FieldSpec.{FieldSpec}
use Rattle.arrow_schema.specs.declared.refusal.SchemaRefusal.{SchemaRefusal}
use Rattle.arrow_schema.specs.declared.refusal.SchemaRefusal.TheVariants.{Flat, Unsupported, TooManyFields, TooDeep, BadName, DictionaryTypes, Memory}
use Rattle.arrow_schema.specs.Trees.{names_differ}
use Rattle.arrow_schema.specs.Reading.{Fails, FieldsRead, field_of, fields_from, vector_of, with_own_names}

abbrev pub Reader : Type 0
Reader = ℕ → TableIn → Result (FieldSpec × ℕ) SchemaRefusal

-- what was read before, and what is still read
abbrev pub with_front : List FieldSpec → Result FieldsRead SchemaRefusal → Result FieldsRead SchemaRefusal
with_front front read = read >>= λ fs. Ok (front ++ fs.0, fs.1)

regroup : (front : List FieldSpec) (f : FieldSpec) (read : Result FieldsRead SchemaRefusal) → with_front front (read >>= λ fs. Ok (f ∷ fs.0, fs.1)) ≡ with_front (front ++ f ∷ []) read
regroup front f (Ok fs) = ap (λ (fields : List FieldSpec). Ok (fields, fs.1)) (sym (append_assoc front (f ∷ []) fs.0))
regroup front f (Err e) = refl

pub goes_on : (field : Reader) (v : VectorIn) (front : List FieldSpec) (count place left after : ℕ) (t : TableIn) (f : FieldSpec) (all : Result FieldsRead SchemaRefusal) → place < count
    → element_table v place ≡ Ok (Some t) → field left t ≡ Ok (f, after)
    → with_front front (fields_from field v place (count - place) left) ≡ all → with_front (front ++ f ∷ []) (fields_from field v (place + 1) (count - (place + 1)) after) ≡ all
unfolding fields_from
goes_on field v front count place left after t f all lt found read so_far =
    let k : count - place ≡ suc (count - (place + 1)) = omega arith in
    let one : with_front front (fields_from field v place (count - place) left) ≡ with_front (front ++ f ∷ []) (fields_from field v (place + 1) (count - (place + 1)) after) =
    rw (k, found, read) (regroup front f (fields_from field v (place + 1) (count - (place + 1)) after)) in
    sym one ∙ so_far

-- a refusal of a part is one of the whole
pub fails_into : {X Y : Type 0} (e : SchemaRefusal) (part : Result X SchemaRefusal) (whole : Result Y SchemaRefusal) → (part ≡ Err e → whole ≡ Err e) → Fails e part → Fails e whole
fails_into (Memory m) part whole h f = tt
fails_into (Flat e) part whole h f = h f
fails_into Unsupported part whole h f = h f
fails_into TooManyFields part whole h f = h f
fails_into TooDeep part whole h f = h f
fails_into BadName part whole h f = h f
fails_into DictionaryTypes part whole h f = h f

pub element_fails : (field : Reader) (v : VectorIn) (front : List FieldSpec) (count place left : ℕ) (e : FlatFault) (all : Result FieldsRead SchemaRefusal) → place < count
    → element_table v place ≡ Err e → with_front front (fields_from field v place (count - place) left) ≡ all → all ≡ Err (Flat e)
unfolding fields_from
element_fails field v front count place left e all lt fault so_far =
    let k : count - place ≡ suc (count - (place + 1)) = omega arith in
    let one : with_front front (fields_from field v place (count - place) left) ≡ Err (Flat e) = rw (k, fault) refl in
    sym so_far ∙ one

pub field_fails : (field : Reader) (v : VectorIn) (front : List FieldSpec) (count place left : ℕ) (t : TableIn) (e : SchemaRefusal) (all : Result FieldsRead SchemaRefusal) → place < count
    → element_table v place ≡ Ok (Some t) → with_front front (fields_from field v place (count - place) left) ≡ all → field left t ≡ Err e → all ≡ Err e
unfolding fields_from
field_fails field v front count place left t e all lt found so_far read =
    let k : count - place ≡ suc (count - (place + 1)) = omega arith in
    let one : with_front front (fields_from field v place (count - place) left) ≡ Err e = rw (k, found, read) refl in
    sym so_far ∙ one

pub no_element : (field : Reader) (v : VectorIn) (front : List FieldSpec) (count place left : ℕ) (all : Result FieldsRead SchemaRefusal) → place < count
    → element_table v place ≡ Ok None → with_front front (fields_from field v place (count - place) left) ≡ all → all ≡ Ok (front, left)
unfolding fields_from
no_element field v front count place left all lt found so_far =
    let k : count - place ≡ suc (count - (place + 1)) = omega arith in
    let one : with_front front (fields_from field v place (count - place) left) ≡ Ok (front, left) =
    rw (k, found) (ap (λ (fields : List FieldSpec). Ok (fields, left)) (append-nil front)) in
    sym so_far ∙ one

pub is_done : (field : Reader) (v : VectorIn) (front : List FieldSpec) (count place left : ℕ) (all : Result FieldsRead SchemaRefusal) → count ≤ place
    → with_front front (fields_from field v place (count - place) left) ≡ all → all ≡ Ok (front, left)
unfolding fields_from
is_done field v front count place left all le so_far =
    let k : count - place ≡ 0 = omega arith in
    let one : with_front front (fields_from field v place (count - place) left) ≡ Ok (front, left) =
    rw k (ap (λ (fields : List FieldSpec). Ok (fields, left)) (append-nil front)) in
    sym so_far ∙ one

-- a vector without elements, one with too many, one too deep, and any other
pub empty_vector : (depth left : ℕ) (v : VectorIn) → v.count ≡ 0 → vector_of depth left v ≡ Ok ([], left)
unfolding vector_of
empty_vector zero left v e = rw (eq-eqb v.count 0 e) refl
empty_vector (suc depth) left v e = rw (eq-eqb v.count 0 e) refl

pub many_fields : (depth left : ℕ) (v : VectorIn) → left < v.count → vector_of depth left v ≡ Err TooManyFields
unfolding vector_of
many_fields zero left v lt = rw (ne_eqb v.count 0 (λ e. omega arith), lt-ltb left v.count lt) refl
many_fields (suc depth) left v lt = rw (ne_eqb v.count 0 (λ e. omega arith), lt-ltb left v.count lt) refl

pub deep_fields : (depth left : ℕ) (v : VectorIn) → depth ≡ 0 → v.count ≢ 0 → v.count ≤ left → vector_of depth left v ≡ Err TooDeep
unfolding vector_of
deep_fields zero left v e some le = rw (ne_eqb v.count 0 some, le-ltb left v.count le) refl
deep_fields (suc depth) left v e some le = absurd (omega arith)

pub inner_fields : (depth left inner rest : ℕ) (v : VectorIn) → depth ≡ suc inner → rest + v.count ≡ left → v.count ≢ 0
    → vector_of depth left v ≡ (fields_from (field_of (vector_of inner)) v 0 v.count rest >>= with_own_names)
unfolding vector_of
inner_fields zero left inner rest v deep fits some = absurd (omega arith)
inner_fields (suc depth) left inner rest v deep fits some =
    let d : depth ≡ inner = omega arith in
    let n : left - v.count ≡ rest = omega arith in
    rw (ne_eqb v.count 0 some, le-ltb left v.count (omega arith), d, n) refl

pub own_names : (fields : List FieldSpec) (left : ℕ) (read : Result FieldsRead SchemaRefusal) → read ≡ Ok (fields, left) → names_differ fields ≡ true → (read >>= with_own_names) ≡ Ok (fields, left)
own_names fields left read e differ = rw (e, differ) refl

pub shared_names : (fields : List FieldSpec) (left : ℕ) (read : Result FieldsRead SchemaRefusal) → read ≡ Ok (fields, left) → names_differ fields ≡ false → (read >>= with_own_names) ≡ Err BadName
shared_names fields left read e same = rw (e, same) refl
