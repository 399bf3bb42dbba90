-- The dictionary of a field: what is read is what the tables say, and a refusal is a defect.
use Rattle.std.specs.Prelude.{◌≡◌, ◌⊎◌, ◌&&◌, ◌||◌, not, Bool, true, false, Result, Ok, Err, Option, None, Some, ℤ, pos}
use Rattle.std.proofs.Common.{refl, sym, ap, ◌∙◌, subst, inl, inr}
use Rattle.flat_tables.specs.declared.fault.FlatFault.{FlatFault}
use Rattle.lists.specs.Results.{◌>>=◌}
use Rattle.flat_tables.specs.Tables.{TableIn}
use Rattle.arrow_schema.specs.declared.spec.ArrowType.{ArrowType}
use Rattle.arrow_schema.specs.declared.spec.ArrowType.TheVariants.{Bool as Boolean, Int, Double, Utf8, Binary, Fixed, Timestamp, Duration, Struct, List as ListType}
use Rattle.arrow_schema.specs.declared.spec.DictSpec.{DictSpec}
use Rattle.arrow_schema.specs.declared.refusal.SchemaRefusal.{SchemaRefusal}
use Rattle.arrow_schema.specs.Types.{type_number, takes_dictionary, is_number}
use Rattle.arrow_schema.specs.Slots.{kind_slot, dictionary_slot, dictionary_id, index_slot, index_width, index_sign}
use Rattle.arrow_schema.specs.Says.{SaysIndex, SaysDict, SaysDictionary}
use Rattle.arrow_schema.specs.Readable.{fits_dictionary}
use Rattle.arrow_schema.specs.Reading.{flat, where_supported, is_wide_index, index_type_of, dict_of, dict_spec_in, dict_spec_of}
use Rattle.arrow_schema.specs.Defects.{DictionaryFault, of_table, of_id, of_index}
use Rattle.arrow_schema.specs.Defects.{of_index_width, of_index_sign, FieldFault, of_dictionary}
use Rattle.arrow_schema.specs.Defects.{takes_no_dictionary, UnsupportedField, no_index, other_index, signed_index}
use Rattle.arrow_schema.specs.Defects as defects
use Rattle.arrow_schema.proofs.Steps.{bind_ok, bind_err, flat_ok, supported_ok, supported_err}
use Rattle.arrow_schema.proofs.FieldParts.{OwnDefect, own_fault, own_unsupported, number_is}

either : (a b : Bool) → (a || b) ≡ true → (a ≡ true) ⊎ ((a ≡ false) × (b ≡ true))
either true b h = inl refl
either false b h = inr (refl, h)

index_reads : (u : TableIn) (bits : ℤ) (signed : Bool) → index_width u ≡ Ok bits → index_sign u ≡ Ok signed → (not signed && (is_number 8 bits || is_number 16 bits)) ≡ true
    → SaysIndex u (is_number 16 bits)
index_reads u bits true width sign fits = cc (fits)
index_reads u bits false width sign fits = elim (either (is_number 8 bits) (is_number 16 bits) fits) [
  | inl eight ↦
      let is : bits ≡ pos 8 = number_is 8 bits eight in
      subst (λ (z : ℤ). SaysIndex u (is_number 16 z)) (sym is) (record { width = width ∙ ap Ok is; sign = sign })
  | inr more ↦
      let is : bits ≡ pos 16 = number_is 16 bits more.1 in
      subst (λ (z : ℤ). SaysIndex u (is_number 16 z)) (sym is) (record { width = width ∙ ap Ok is; sign = sign })
]

wide_reads : (u : TableIn) (wide : Bool) → is_wide_index u ≡ Ok wide → SaysIndex u wide
unfolding is_wide_index
wide_reads u wide h =
    let a = bind_ok (flat (index_width u)) _ wide h in
    let b = bind_ok (flat (index_sign u)) _ wide a.2 in
    let s = supported_ok (not b.0 && (is_number 8 a.0 || is_number 16 a.0)) (is_number 16 a.0) wide b.2 in
    subst (SaysIndex u) s.1 (index_reads u a.0 b.0 (flat_ok (index_width u) a.0 a.1) (flat_ok (index_sign u) b.0 b.1) s.0)

wide_says : (u : TableIn) (wide : Bool) → SaysIndex u wide → is_wide_index u ≡ Ok wide
unfolding is_wide_index
wide_says u true says = rw (says.width, says.sign) refl
wide_says u false says = rw (says.width, says.sign) refl

index_of_reads : (found : Option TableIn) (wide : Bool) → index_type_of found ≡ Ok wide → (u : TableIn) × (found ≡ Some u) × SaysIndex u wide
index_of_reads None wide h = cc (h)
index_of_reads (Some u) wide h = (u, refl, wide_reads u wide h)

dict_reads : (d : TableIn) (dict : DictSpec) → dict_of d ≡ Ok dict → SaysDict d dict
unfolding dict_of
dict_reads d dict h =
    let a = bind_ok (flat (dictionary_id d)) _ dict h in
    let w = bind_ok (flat (index_slot d) >>= index_type_of) _ dict a.2 in
    let f = bind_ok (flat (index_slot d)) index_type_of w.0 w.1 in
    let u = index_of_reads f.0 w.0 f.2 in
    let is : record { id = a.0; wide = w.0 } ≡ dict = cc (w.2) in
    subst (SaysDict d) is (record {
      id = flat_ok (dictionary_id d) a.0 a.1;
      index = u.0;
      at = flat_ok (index_slot d) f.0 f.1 ∙ ap Ok u.1;
      says = u.2;
    })

dict_says : (d : TableIn) (dict : DictSpec) → SaysDict d dict → dict_of d ≡ Ok dict
unfolding dict_of
dict_says d dict says = rw (says.id, says.at, wide_says says.index dict.wide says.says) refl

pub dictionary_reads : (t : TableIn) (kind : ArrowType) (dict : Option DictSpec) → dict_spec_of kind t ≡ Ok dict → SaysDictionary t dict × (fits_dictionary kind dict ≡ true)
unfolding dict_spec_of
dictionary_reads t kind dict h =
    let a = bind_ok (flat (dictionary_slot t)) (dict_spec_in kind) dict h in
    found_reads t kind dict a.0 (flat_ok (dictionary_slot t) a.0 a.1) a.2
  where
    found_reads : (t : TableIn) (kind : ArrowType) (dict : Option DictSpec) (found : Option TableIn) → dictionary_slot t ≡ Ok found → dict_spec_in kind found ≡ Ok dict
        → SaysDictionary t dict × (fits_dictionary kind dict ≡ true)
    found_reads t kind dict None slot h =
        let is : None ≡ dict = cc (h) in
        subst (λ (dict : Option DictSpec). SaysDictionary t dict × (fits_dictionary kind dict ≡ true)) is (slot, refl)
    found_reads t kind dict (Some d) slot h =
        let w = bind_ok (where_supported (takes_dictionary kind) d >>= dict_of) _ dict h in
        let f = bind_ok (where_supported (takes_dictionary kind) d) dict_of w.0 w.1 in
        let s = supported_ok (takes_dictionary kind) d f.0 f.1 in
        let is : Some w.0 ≡ dict = cc (w.2) in
        subst (λ (dict : Option DictSpec). SaysDictionary t dict × (fits_dictionary kind dict ≡ true)) is
        ((d, slot, dict_reads d w.0 (ap dict_of s.1 ∙ f.2)), s.0)

pub dictionary_says : (t : TableIn) (kind : ArrowType) (dict : Option DictSpec) → SaysDictionary t dict → fits_dictionary kind dict ≡ true → dict_spec_of kind t ≡ Ok dict
unfolding dict_spec_of
dictionary_says t kind None says fits = rw says refl
dictionary_says t kind (Some dict) says fits = rw (says.1, fits, dict_says says.0 dict says.2) refl

-- a dictionary that isn't read
no_dictionary : (kind : ArrowType) → takes_dictionary kind ≡ false → takes_no_dictionary (type_number kind) ≡ true
no_dictionary Boolean h = refl
no_dictionary Struct h = refl
no_dictionary ListType h = refl
no_dictionary (Int bits signed) h = cc (h)
no_dictionary (Fixed width) h = cc (h)
no_dictionary Double h = cc (h)
no_dictionary Utf8 h = cc (h)
no_dictionary Binary h = cc (h)
no_dictionary Timestamp h = cc (h)
no_dictionary Duration h = cc (h)

own_dictionary_fault : {A : Type 0} (t : TableIn) (r : Result A FlatFault) (e : SchemaRefusal) → ((f : FlatFault) → r ≡ Err f → DictionaryFault f t) → flat r ≡ Err e → OwnDefect t e
own_dictionary_fault t r e fault h = own_fault t r e (λ f is. defects.FieldFault.of_dictionary (fault f is)) h

other_sign : (t d u : TableIn) (bits : ℤ) (signed : Bool) → dictionary_slot t ≡ Ok (Some d) → index_slot d ≡ Ok (Some u) → index_width u ≡ Ok bits → index_sign u ≡ Ok signed
    → (not signed && (is_number 8 bits || is_number 16 bits)) ≡ false → UnsupportedField t
other_sign t d u bits true slot index width sign fits = signed_index d u slot index sign
other_sign t d u bits false slot index width sign fits = other_index d u bits slot index width fits

index_refused : (t d u : TableIn) (e : SchemaRefusal) → dictionary_slot t ≡ Ok (Some d) → index_slot d ≡ Ok (Some u) → is_wide_index u ≡ Err e → OwnDefect t e
unfolding is_wide_index
index_refused t d u e slot index h = elim (bind_err (flat (index_width u)) _ e h) [
  | inl fault ↦ own_dictionary_fault t (index_width u) e (λ f r. of_index_width d u slot index r) fault
  | inr a ↦ elim (bind_err (flat (index_sign u)) _ e a.2) [
    | inl fault ↦ own_dictionary_fault t (index_sign u) e (λ f r. of_index_sign d u slot index r) fault
    | inr b ↦
        let s = supported_err (not b.0 && (is_number 8 a.0 || is_number 16 a.0)) (is_number 16 a.0) e b.2 in
        own_unsupported t e (other_sign t d u a.0 b.0 slot index (flat_ok (index_width u) a.0 a.1) (flat_ok (index_sign u) b.0 b.1) s.0) s.1
  ]
]

index_of_refused : (t d : TableIn) (found : Option TableIn) (e : SchemaRefusal) → dictionary_slot t ≡ Ok (Some d) → index_slot d ≡ Ok found → index_type_of found ≡ Err e → OwnDefect t e
index_of_refused t d None e slot index h = own_unsupported t e (no_index d slot index) (cc (h))
index_of_refused t d (Some u) e slot index h = index_refused t d u e slot index h

dict_refused : (t d : TableIn) (e : SchemaRefusal) → dictionary_slot t ≡ Ok (Some d) → dict_of d ≡ Err e → OwnDefect t e
unfolding dict_of
dict_refused t d e slot h = elim (bind_err (flat (dictionary_id d)) _ e h) [
  | inl fault ↦ own_dictionary_fault t (dictionary_id d) e (λ f r. of_id d slot r) fault
  | inr a ↦ elim (bind_err (flat (index_slot d) >>= index_type_of) _ e a.2) [
    | inl fails ↦ elim (bind_err (flat (index_slot d)) index_type_of e fails) [
      | inl fault ↦ own_dictionary_fault t (index_slot d) e (λ f r. of_index d slot r) fault
      | inr b ↦ index_of_refused t d b.0 e slot (flat_ok (index_slot d) b.0 b.1) b.2
    ]
    | inr b ↦ cc (b.2)
  ]
]

in_refused : (t : TableIn) (kind : ArrowType) (found : Option TableIn) (e : SchemaRefusal) → kind_slot t ≡ Ok (type_number kind) → dictionary_slot t ≡ Ok found
    → dict_spec_in kind found ≡ Err e → OwnDefect t e
in_refused t kind None e read slot h = cc (h)
in_refused t kind (Some d) e read slot h = elim (bind_err (where_supported (takes_dictionary kind) d >>= dict_of) _ e h) [
  | inl fails ↦ elim (bind_err (where_supported (takes_dictionary kind) d) dict_of e fails) [
    | inl lacks ↦
        let s = supported_err (takes_dictionary kind) d e lacks in
        own_unsupported t e (defects.UnsupportedField.of_dictionary (type_number kind) d read (no_dictionary kind s.0) slot) s.1
    | inr b ↦
        let s = supported_ok (takes_dictionary kind) d b.0 b.1 in
        dict_refused t d e slot (ap dict_of s.1 ∙ b.2)
  ]
  | inr b ↦ cc (b.2)
]

pub dictionary_refused : (t : TableIn) (kind : ArrowType) (e : SchemaRefusal) → kind_slot t ≡ Ok (type_number kind) → dict_spec_of kind t ≡ Err e → OwnDefect t e
unfolding dict_spec_of
dictionary_refused t kind e read h = elim (bind_err (flat (dictionary_slot t)) (dict_spec_in kind) e h) [
  | inl fault ↦ own_dictionary_fault t (dictionary_slot t) e (λ f r. of_table r) fault
  | inr b ↦ in_refused t kind b.0 e read (flat_ok (dictionary_slot t) b.0 b.1) b.2
]
