-- The encoding of a field: what is read is what its custom metadata names, and a fault is one of a part that is needed.
use Rattle.std.specs.Prelude.{◌≡◌, ℕ, zero, suc, ◌+◌, ◌<◌, List, [], ◌∷◌, length, slice_index_or, codes, bytes_eq, Ok, Err, Option, None, Some}
use Rattle.std.proofs.Common.{refl, sym, ap, ◌∙◌, subst, inl, inr, arith}
use Rattle.std.proofs.lemmas.Bool.{cases_Bool}
use Rattle.lists.proofs.Equals.{ok_is}
use Rattle.flat_tables.specs.declared.fault.FlatFault.{FlatFault}
use Rattle.lists.specs.Results.{◌>>=◌}
use Rattle.flat_tables.specs.Tables.{TableIn, VectorIn, vector_slot, element_table}
use Rattle.arrow_schema.specs.declared.spec.Encoding.{Encoding}
use Rattle.arrow_schema.specs.declared.spec.Encoding.TheVariants as encoding
use Rattle.arrow_schema.specs.Slots.{metadata_slot, key_slot, value_slot}
use Rattle.arrow_schema.specs.Encodings.{KeyValue, is_encoding_key, encoding_named, encoding_by, encoding_of_pairs}
use Rattle.arrow_schema.specs.Says.{HasTables, SaysPair, SayPairs, SaysEncoding}
use Rattle.arrow_schema.specs.Reading.{encoding_with, of_pair, encoding_from, in_metadata, encoding_of}
use Rattle.arrow_schema.specs.Defects.{IsChild, MetadataFault}
use Rattle.arrow_schema.specs.Defects as defects
use Rattle.arrow_schema.proofs.Steps.{bind_ok, bind_err}
use Rattle.arrow_schema.proofs.Elements.{element_there, no_vector_fault, one_of}

-- ---- the pairs that name it
abbrev first : Encoding → Encoding → Encoding
first encoding.None later = later
first encoding.Plain later = encoding.Plain
first encoding.Delta later = encoding.Delta
first encoding.Run later = encoding.Run
first encoding.Other later = encoding.Other

abbrev after : Encoding → List KeyValue → Encoding
after found [] = found
after found (pair ∷ pairs) = after (encoding_with pair.key pair.value found) pairs

named_first : (value : List ℕ) (later : Encoding) → first (encoding_named value) later ≡ encoding_named value
named_first value later = elim (cases_Bool (bytes_eq value (codes "plain"))) [
  | inl plain ↦ rw plain refl
  | inr other ↦ elim (cases_Bool (bytes_eq value (codes "delta"))) [
    | inl delta ↦ rw (other, delta) refl
    | inr another ↦ elim (cases_Bool (bytes_eq value (codes "run"))) [
      | inl run ↦ rw (other, another, run) refl
      | inr none ↦ rw (other, another, none) refl
    ]
  ]
]

by_first : (value : Option (List ℕ)) (later : Encoding) → first (encoding_by value) later ≡ encoding_by value
by_first None later = refl
by_first (Some value) later = named_first value later

after_is : (found : Encoding) (pairs : List KeyValue) → after found pairs ≡ first found (encoding_of_pairs pairs)
unfolding encoding_of_pairs
after_is encoding.None [] = refl
after_is encoding.Plain [] = refl
after_is encoding.Delta [] = refl
after_is encoding.Run [] = refl
after_is encoding.Other [] = refl
after_is encoding.None (pair ∷ pairs) = elim (cases_Bool (is_encoding_key pair.key)) [
  | inl key ↦ rw key (after_is (encoding_by pair.value) pairs ∙ by_first pair.value (encoding_of_pairs pairs))
  | inr other ↦ rw other (after_is encoding.None pairs)
]
after_is encoding.Plain (pair ∷ pairs) = after_is encoding.Plain pairs
after_is encoding.Delta (pair ∷ pairs) = after_is encoding.Delta pairs
after_is encoding.Run (pair ∷ pairs) = after_is encoding.Run pairs
after_is encoding.Other (pair ∷ pairs) = after_is encoding.Other pairs

-- ---- what is read
record PairsRead (v : VectorIn) (place n : ℕ) (found named : Encoding) : Type 0 where
  tables : List TableIn
  size : length tables ≡ n
  at : (i : ℕ) (d : TableIn) → i < n → element_table v (place + i) ≡ Ok (Some (slice_index_or tables i d))
  pairs : List KeyValue
  say : SayPairs tables pairs
  is : after found pairs ≡ named

one_more : (v : VectorIn) (place n : ℕ) (found named : Encoding) (t : TableIn) (pair : KeyValue) → element_table v place ≡ Ok (Some t) → SaysPair t pair
    → PairsRead v (place + 1) n (encoding_with pair.key pair.value found) named → PairsRead v place (suc n) found named
one_more v place n found named t pair at says others = record {
  tables = t ∷ others.tables;
  size = omega (arith, others.size);
  at = at_each;
  pairs = pair ∷ others.pairs;
  say = (says, others.say);
  is = others.is;
}
  where
    at_each : (i : ℕ) (d : TableIn) → i < suc n → element_table v (place + i) ≡ Ok (Some (slice_index_or (t ∷ others.tables) i d))
    at_each zero d lt = ap (element_table v) (omega arith) ∙ at
    at_each (suc i) d lt = ap (element_table v) (omega arith) ∙ others.at i d (omega arith)

pairs_read : (v : VectorIn) (place n : ℕ) (found named : Encoding) → place + n ≡ v.count → encoding_from v place n found ≡ Ok named → PairsRead v place n found named
unfolding encoding_from
pairs_read v place zero found named end h = record {
  tables = [];
  size = refl;
  at = λ i d lt. absurd (omega (arith, lt));
  pairs = [];
  say = tt;
  is = ok_is found named h;
}
pairs_read v place (suc n) found named end h =
    let b = bind_ok (element_table v place >>= of_pair found) (encoding_from v (place + 1) n) named h in
    let a = bind_ok (element_table v place) (of_pair found) b.0 b.1 in
    from_found a.0 b.0 (pairs_read v (place + 1) n b.0 named (omega (arith, end)) b.2) a.1 a.2
  where
    from_found : (o : Option TableIn) (between : Encoding) → PairsRead v (place + 1) n between named → element_table v place ≡ Ok o → of_pair found o ≡ Ok between
        → PairsRead v place (suc n) found named
    from_found None between others at g = absurd (element_there v place (omega (arith, end)) at)
    from_found (Some t) between others at g =
        let k = bind_ok (key_slot t) _ between g in
        let w = bind_ok (value_slot t) _ between k.2 in
        let is : encoding_with k.0 w.0 found ≡ between = ok_is (encoding_with k.0 w.0 found) between w.2 in
        one_more v place n found named t (record { key = k.0; value = w.0 }) at (record { key = k.1; value = w.1 })
        (subst (λ (e : Encoding). PairsRead v (place + 1) n e named) (sym is) others)

pub encoding_reads : (t : TableIn) (named : Encoding) → encoding_of t ≡ Ok named → SaysEncoding t named
unfolding encoding_of encoding_of_pairs
encoding_reads t named h =
    let b = bind_ok (vector_slot 4 t metadata_slot) in_metadata named h in
    from_found b.0 b.1 b.2
  where
    from_found : (o : Option VectorIn) → vector_slot 4 t metadata_slot ≡ Ok o → in_metadata o ≡ Ok named → SaysEncoding t named
    from_found None at g = record { tables = []; has = inl (at, refl); pairs = []; say = tt; names = ok_is encoding.None named g }
    from_found (Some v) at g =
        let r = pairs_read v 0 v.count encoding.None named (omega arith) g in
        record {
          tables = r.tables;
          has = inr (v, at, record { count = sym r.size; each = λ i d lt. ap (element_table v) (omega arith) ∙ r.at i d (omega (arith, lt, r.size)) });
          pairs = r.pairs;
          say = r.say;
          names = sym (after_is encoding.None r.pairs) ∙ r.is;
        }

-- ---- and what the pairs name is read
pairs_again : (v : VectorIn) (place n : ℕ) (found : Encoding) (tables : List TableIn) (pairs : List KeyValue) → length tables ≡ n
    → ((i : ℕ) (d : TableIn) → i < n → element_table v (place + i) ≡ Ok (Some (slice_index_or tables i d))) → SayPairs tables pairs
    → encoding_from v place n found ≡ Ok (after found pairs)
unfolding encoding_from
pairs_again v place zero found [] [] size at say = refl
pairs_again v place zero found (t ∷ tables) pairs size at say = absurd (omega (arith, size))
pairs_again v place (suc n) found [] pairs size at say = absurd (omega (arith, size))
pairs_again v place n found [] (pair ∷ pairs) size at say = absurd say
pairs_again v place n found (t ∷ tables) [] size at say = absurd say
pairs_again v place (suc n) found (t ∷ tables) (pair ∷ pairs) size at say =
    let here : element_table v place ≡ Ok (Some t) = ap (element_table v) (omega arith) ∙ at 0 t (omega arith) in
    let others = pairs_again v (place + 1) n (encoding_with pair.key pair.value found) tables pairs (omega (arith, size))
    (λ i d lt. ap (element_table v) (omega arith) ∙ at (suc i) d (omega arith)) say.1 in
    rw (here, say.0.key, say.0.value) others

pub encoding_says : (t : TableIn) (named : Encoding) → SaysEncoding t named → encoding_of t ≡ Ok named
unfolding encoding_of encoding_of_pairs
encoding_says t named s = from_has s.tables s.pairs s.has s.say s.names
  where
    from_has : (tables : List TableIn) (pairs : List KeyValue) → HasTables metadata_slot t tables → SayPairs tables pairs → encoding_of_pairs pairs ≡ named
        → (vector_slot 4 t metadata_slot >>= in_metadata) ≡ Ok named
    from_has [] [] (inl none) say names = rw none.0 (ap Ok names)
    from_has [] (pair ∷ pairs) (inl none) say names = absurd say
    from_has (t ∷ tables) pairs (inl none) say names = absurd (omega (arith, ap length none.1))
    from_has tables pairs (inr h) say names =
        let again = pairs_again h.0 0 h.0.count encoding.None tables pairs (sym h.2.count)
        (λ i d lt. ap (element_table h.0) (omega arith) ∙ h.2.each i d (omega (arith, lt, h.2.count))) say in
        rw h.1 (again ∙ ap Ok (after_is encoding.None pairs ∙ names))

-- ---- a fault, and none where the encoding is read
data PairsFault (e : FlatFault) (v : VectorIn) : Type 0 where
  element : (place : ℕ) → element_table v place ≡ Err e → PairsFault e v
  key : (place : ℕ) (t : TableIn) → element_table v place ≡ Ok (Some t) → key_slot t ≡ Err e → PairsFault e v
  value : (place : ℕ) (t : TableIn) → element_table v place ≡ Ok (Some t) → value_slot t ≡ Err e → PairsFault e v

pairs_fault : (v : VectorIn) (place n : ℕ) (found : Encoding) (e : FlatFault) → encoding_from v place n found ≡ Err e → PairsFault e v
unfolding encoding_from
pairs_fault v place zero found e h = cc (h)
pairs_fault v place (suc n) found e h = elim (bind_err (element_table v place >>= of_pair found) (encoding_from v (place + 1) n) e h) [
  | inl fails ↦ elim (bind_err (element_table v place) (of_pair found) e fails) [
    | inl fault ↦ element place fault
    | inr a ↦ in_pair a.0 a.1 a.2
  ]
  | inr b ↦ pairs_fault v (place + 1) n b.0 e b.2
]
  where
    in_pair : (o : Option TableIn) → element_table v place ≡ Ok o → of_pair found o ≡ Err e → PairsFault e v
    in_pair None at g = cc (g)
    in_pair (Some t) at g = elim (bind_err (key_slot t) _ e g) [
      | inl fault ↦ key place t at fault
      | inr k ↦ elim (bind_err (value_slot t) _ e k.2) [ inl fault ↦ value place t at fault | inr w ↦ cc (w.2) ]
    ]

pub encoding_refused : (t : TableIn) (e : FlatFault) → encoding_of t ≡ Err e → MetadataFault e t
unfolding encoding_of
encoding_refused t e h = elim (bind_err (vector_slot 4 t metadata_slot) in_metadata e h) [
  | inl fault ↦ defects.MetadataFault.of_pairs (defects.VectorFault.of_vector fault)
  | inr b ↦ from_found b.0 b.1 b.2
]
  where
    of_fault : (v : VectorIn) → vector_slot 4 t metadata_slot ≡ Ok (Some v) → PairsFault e v → MetadataFault e t
    of_fault v at (element place fault) = defects.MetadataFault.of_pairs (defects.VectorFault.of_element v place at fault)
    of_fault v at (key place u here fault) = defects.MetadataFault.of_key u (record { vector = v; has = at; place = place; at = here }) fault
    of_fault v at (value place u here fault) = defects.MetadataFault.of_value u (record { vector = v; has = at; place = place; at = here }) fault

    from_found : (o : Option VectorIn) → vector_slot 4 t metadata_slot ≡ Ok o → in_metadata o ≡ Err e → MetadataFault e t
    from_found None at g = cc (g)
    from_found (Some v) at g = of_fault v at (pairs_fault v 0 v.count encoding.None e g)

pair_said : (tables : List TableIn) (pairs : List KeyValue) (i : ℕ) (d : TableIn) → SayPairs tables pairs → i < length tables → (pair : KeyValue) × SaysPair (slice_index_or tables i d) pair
pair_said [] pairs i d say lt = absurd (omega (arith, lt))
pair_said (t ∷ tables) [] i d say lt = absurd say
pair_said (t ∷ tables) (pair ∷ pairs) zero d say lt = (pair, say.0)
pair_said (t ∷ tables) (pair ∷ pairs) (suc i) d say lt = pair_said tables pairs i d say.1 (omega (arith, lt))

child_said : (t pair : TableIn) (named : Encoding) → SaysEncoding t named → IsChild metadata_slot t pair → (p : KeyValue) × SaysPair pair p
child_said t pair named s c =
    let o = one_of metadata_slot t pair s.tables s.has c in
    let p = pair_said s.tables s.pairs o.0 t s.say o.1 in
    (p.0, subst (λ (u : TableIn). SaysPair u p.0) (o.2 t) p.1)

pub no_metadata_fault : (t : TableIn) (named : Encoding) (f : FlatFault) → SaysEncoding t named → MetadataFault f t → ⊥
no_metadata_fault t named f s (defects.MetadataFault.of_pairs fault) = no_vector_fault f metadata_slot t s.tables s.has fault
no_metadata_fault t named f s (defects.MetadataFault.of_key pair c fault) = let p = child_said t pair named s c in cc (p.1.key, fault)
no_metadata_fault t named f s (defects.MetadataFault.of_value pair c fault) = let p = child_said t pair named s c in cc (p.1.value, fault)
