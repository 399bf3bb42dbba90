-- What one more message does to a sub-stream.
use Rattle.std.proofs.Common.{◌≡◌, ◌≢◌, ℕ, Bool, true, false, List, [], ◌∷◌, ◌++◌, get_or, Option, Some, None, refl, sym, ap, ◌∙◌, subst, append-nil, ◌⊎◌, inl, inr}
use Rattle.std.specs.Prelude.{ℤ, All, map, not}
use Rattle.std.specs.List.{flat_map, list_any}
use Rattle.std.specs.Ordering.{int_eq}
use Rattle.std.proofs.lemmas.Bool.{cases_Bool}
use Rattle.std.proofs.lemmas.Grind.{flat_map-append}
use Rattle.std.proofs.lemmas.List.{map-append}
use Rattle.std.proofs.lemmas.List.Elements.{All-map, All-nil}
use Rattle.lists.specs.Since.{since}
use Rattle.lists.proofs.Latest.{since-append}
use Rattle.arrow_schema.specs.declared.spec.ArrowType.{ArrowType}
use Rattle.arrow_schema.specs.declared.spec.DictSpec.{DictSpec}
use Rattle.arrow_schema.specs.declared.spec.FieldSpec.{FieldSpec}
use Rattle.arrow_ipc.specs.declared.messages.IpcMessage.{IpcMessage}
use Rattle.arrow_ipc.specs.declared.messages.IpcMessage.TheVariants.{Schema, Dictionary, Rows}
use Rattle.arrow_ipc.specs.Batches.{BatchIn}
use Rattle.arrow_arrays.specs.declared.spec.ArraySpec.{ArraySpec}
use Rattle.arrow_arrays.specs.Arrays.{arrays_of}
use Rattle.otap_columns.specs.Dictionaries.{values_of, dictionary_batches, batches_of, dictionary_over, DictionaryIn, with_dictionary, with_dictionaries, empty_dictionaries, filled, dictionaries_in, kept, grown_if}
use Rattle.otap_columns.specs.Dictionaries.{all_grown, is_for}
use Rattle.otap_columns.specs.Reading.{opened, with_batch}
use Rattle.otap_columns.specs.Steps.{FitsIn, FitsValue}
use Rattle.otap_columns.specs.Substreams.{SubstreamIn, schema_in, substream_of, substream_in}

-- the values of marked batches from the latest that is no delta on
abbrev pub joined : ArrowType → List (Bool × BatchIn) → List (Option (List ℕ))
joined kind bs = flat_map (λ (b : Bool × BatchIn). values_of kind b.1) (since (λ (b : Bool × BatchIn). not b.0) bs)

pub joined-push : (kind : ArrowType) (bs : List (Bool × BatchIn)) (delta : Bool) (batch : BatchIn) → joined kind (bs ++ (delta, batch) ∷ []) ≡ kept delta (joined kind bs) ++ values_of kind batch
joined-push kind bs true batch =
    rw (
      since-append (λ (b : Bool × BatchIn). not b.0) bs ((true, batch) ∷ []),
      flat_map-append (λ (b : Bool × BatchIn). values_of kind b.1) (since (λ b. not b.0) bs) ((true, batch) ∷ []),
      append-nil (values_of kind batch),
    ) refl
joined-push kind bs false batch =
    rw (since-append (λ (b : Bool × BatchIn). not b.0) bs ((false, batch) ∷ []), append-nil (values_of kind batch)) refl

batches_of-push : (id : ℤ) (ms : List IpcMessage) (m : IpcMessage) → batches_of id (ms ++ m ∷ []) ≡ batches_of id ms ++ dictionary_batches id m
batches_of-push id ms m = rw (flat_map-append (dictionary_batches id) ms (m ∷ []), append-nil (dictionary_batches id m)) refl

pub dictionary-own : (kind : ArrowType) (i id : ℤ) (delta : Bool) (batch : BatchIn) (ms : List IpcMessage) → int_eq i id ≡ true
    → dictionary_over kind i (ms ++ Dictionary id delta batch ∷ []) ≡ kept delta (dictionary_over kind i ms) ++ values_of kind batch
unfolding dictionary_over
dictionary-own kind i id delta batch ms own =
    let here : batches_of i ms ++ dictionary_batches i (Dictionary id delta batch) ≡ batches_of i ms ++ (delta, batch) ∷ [] = rw own refl in
    ap (joined kind) (batches_of-push i ms (Dictionary id delta batch) ∙ here) ∙ joined-push kind (batches_of i ms) delta batch

pub dictionary-other : (kind : ArrowType) (i : ℤ) (ms : List IpcMessage) (m : IpcMessage) → dictionary_batches i m ≡ [] → dictionary_over kind i (ms ++ m ∷ []) ≡ dictionary_over kind i ms
unfolding dictionary_over
dictionary-other kind i ms m none = ap (joined kind) (batches_of-push i ms m ∙ ap (λ bs. batches_of i ms ++ bs) none ∙ append-nil (batches_of i ms))

-- one dictionary after a batch
filled-batch : (id : ℤ) (delta : Bool) (batch : BatchIn) (ms : List IpcMessage) (d : DictionaryIn) → filled (ms ++ Dictionary id delta batch ∷ []) d ≡ grown_if id delta batch (filled ms d)
filled-batch id delta batch ms d = by_test (cases_Bool (int_eq d.id id))
  where
    by_test : (int_eq d.id id ≡ true) ⊎ (int_eq d.id id ≡ false) → filled (ms ++ Dictionary id delta batch ∷ []) d ≡ grown_if id delta batch (filled ms d)
    by_test (inl own) = rw own (λ i. record { id = d.id; kind = d.kind; values = dictionary-own d.kind d.id id delta batch ms own i })
    by_test (inr other) = rw other (λ i. record { id = d.id; kind = d.kind; values = dictionary-other d.kind d.id ms (Dictionary id delta batch) (rw other refl) i })

filled-batches : (id : ℤ) (delta : Bool) (batch : BatchIn) (ms : List IpcMessage) (ds : List DictionaryIn)
    → map (filled (ms ++ Dictionary id delta batch ∷ [])) ds ≡ map (grown_if id delta batch) (map (filled ms) ds)
filled-batches id delta batch ms [] = refl
filled-batches id delta batch ms (d ∷ ds) = λ i. filled-batch id delta batch ms d i ∷ filled-batches id delta batch ms ds i

filled-rows : (batch : BatchIn) (ms : List IpcMessage) (ds : List DictionaryIn) → map (filled (ms ++ Rows batch ∷ [])) ds ≡ map (filled ms) ds
filled-rows batch ms [] = refl
filled-rows batch ms (d ∷ ds) = λ i. record { id = d.id; kind = d.kind; values = dictionary-other d.kind d.id ms (Rows batch) refl i } ∷ filled-rows batch ms ds i

pub dictionaries_in-batch : (arrays : List ArraySpec) (id : ℤ) (delta : Bool) (batch : BatchIn) (ms : List IpcMessage)
    → dictionaries_in arrays (ms ++ Dictionary id delta batch ∷ []) ≡ all_grown id delta batch (dictionaries_in arrays ms)
unfolding dictionaries_in all_grown
dictionaries_in-batch arrays id delta batch ms = filled-batches id delta batch ms (empty_dictionaries arrays)

pub dictionaries_in-rows : (arrays : List ArraySpec) (batch : BatchIn) (ms : List IpcMessage) → dictionaries_in arrays (ms ++ Rows batch ∷ []) ≡ dictionaries_in arrays ms
unfolding dictionaries_in
dictionaries_in-rows arrays batch ms = filled-rows batch ms (empty_dictionaries arrays)

-- ---- the schema stays

pub schema_in-stays : (ms ns : List IpcMessage) (fields : List FieldSpec) → schema_in ms ≡ Some fields → schema_in (ms ++ ns) ≡ Some fields
schema_in-stays [] ns fields h = absurd (cc)
schema_in-stays (Schema f ∷ ms) ns fields h = h
schema_in-stays (Dictionary id delta batch ∷ ms) ns fields h = absurd (cc)
schema_in-stays (Rows batch ∷ ms) ns fields h = absurd (cc)

-- a sub-stream has a schema
pub record Has (ms : List IpcMessage) (s : SubstreamIn) : Type 0 where
  pub fields : List FieldSpec
  pub schema : schema_in ms ≡ Some fields
  pub is : substream_of ms fields ≡ s

pub has : (ms : List IpcMessage) (s : SubstreamIn) → substream_in ms ≡ Some s → Has ms s
unfolding substream_in
has ms s h = by_schema (schema_in ms) refl
  where
    by_schema : (o : Option (List FieldSpec)) → schema_in ms ≡ o → Has ms s
    by_schema None none = absurd (no (rw none at h))
      where
        no : {A : Type 0} {x : A} → None ≡ Some x → ⊥
        no e = cc
    by_schema (Some fields) some =
        let here : Some (substream_of ms fields) ≡ Some s = rw some at h in
        record { fields = fields; schema = some; is = cc }

pub substream_from : (ms : List IpcMessage) (fields : List FieldSpec) → schema_in ms ≡ Some fields → substream_in ms ≡ Some (substream_of ms fields)
unfolding substream_in
substream_from ms fields h = rw h refl

-- after a dictionary batch
pub substream-batch : (ms : List IpcMessage) (s : SubstreamIn) (id : ℤ) (delta : Bool) (batch : BatchIn) → substream_in ms ≡ Some s
    → substream_in (ms ++ Dictionary id delta batch ∷ []) ≡ Some (with_batch id delta batch s)
substream-batch ms s id delta batch h =
    let g : Has ms s = has ms s h in
    substream_from (ms ++ Dictionary id delta batch ∷ []) g.fields (schema_in-stays ms (Dictionary id delta batch ∷ []) g.fields g.schema)
    ∙ (λ i. Some (record { arrays = arrays_of g.fields; dictionaries = dictionaries_in-batch (arrays_of g.fields) id delta batch ms i }))
    ∙ ap (λ s. Some (with_batch id delta batch s)) g.is

-- after a record batch
pub substream-rows : (ms : List IpcMessage) (s : SubstreamIn) (batch : BatchIn) → substream_in ms ≡ Some s → substream_in (ms ++ Rows batch ∷ []) ≡ Some s
substream-rows ms s batch h =
    let g : Has ms s = has ms s h in
    substream_from (ms ++ Rows batch ∷ []) g.fields (schema_in-stays ms (Rows batch ∷ []) g.fields g.schema)
    ∙ (λ i. Some (record { arrays = arrays_of g.fields; dictionaries = dictionaries_in-rows (arrays_of g.fields) batch ms i }))
    ∙ ap Some g.is

-- a sub-stream comes after at least one message
pub some_messages : (ms : List IpcMessage) (s : SubstreamIn) → substream_in ms ≡ Some s → ms ≢ []
unfolding substream_in
some_messages ms s h empty = no (ap (λ ms. substream_in ms) (sym empty) ∙ h)
  where
    no : {A : Type 0} {x : A} → None ≡ Some x → ⊥
    no e = cc

-- ---- a schema opens one

-- without values
abbrev pub emptied : DictionaryIn → DictionaryIn
emptied d = record { id = d.id; kind = d.kind; values = [] }

with-emptied : (ds : List DictionaryIn) (kind : ArrowType) (dict : Option DictSpec) → map emptied ds ≡ ds → map emptied (with_dictionary ds kind dict) ≡ with_dictionary ds kind dict
with-emptied ds kind None h = h
with-emptied ds kind (Some dict) h = by_test (cases_Bool (list_any (is_for kind dict.id) ds))
  where
    by_test : (list_any (is_for kind dict.id) ds ≡ true) ⊎ (list_any (is_for kind dict.id) ds ≡ false) → map emptied (with_dictionary ds kind (Some dict)) ≡ with_dictionary ds kind (Some dict)
    by_test (inl there) = rw there h
    by_test (inr none) = rw none (map-append emptied ds (record { id = dict.id; kind = kind; values = [] } ∷ []) ∙ ap (λ front. front ++ record { id = dict.id; kind = kind; values = [] } ∷ []) h)

with-all-emptied : (ds : List DictionaryIn) (arrays : List ArraySpec) → map emptied ds ≡ ds → map emptied (with_dictionaries ds arrays) ≡ with_dictionaries ds arrays
with-all-emptied ds [] h = h
with-all-emptied ds (a ∷ arrays) h = with-all-emptied (with_dictionary ds a.kind a.dict) arrays (with-emptied ds a.kind a.dict h)

pub empties : (arrays : List ArraySpec) → map emptied (empty_dictionaries arrays) ≡ empty_dictionaries arrays
unfolding empty_dictionaries
empties arrays = with-all-emptied [] arrays refl

opened-dictionaries : (fields : List FieldSpec) (arrays : List ArraySpec) → dictionaries_in arrays (Schema fields ∷ []) ≡ empty_dictionaries arrays
unfolding dictionaries_in dictionary_over
opened-dictionaries fields arrays = empties arrays

pub substream-opened : (fields : List FieldSpec) → substream_in (Schema fields ∷ []) ≡ Some (opened fields)
substream-opened fields =
    substream_from (Schema fields ∷ []) fields refl ∙ (λ i. Some (record { arrays = arrays_of fields; dictionaries = opened-dictionaries fields (arrays_of fields) i }))

pub substream-none : substream_in [] ≡ None
unfolding substream_in
substream-none = refl

-- none of which has a value that doesn't fit
pub empties_fit : (arrays : List ArraySpec) → All FitsIn (empty_dictionaries arrays)
empties_fit arrays =
    subst (λ (ds : List DictionaryIn). All FitsIn ds) (empties arrays)
    (All-map FitsIn emptied (empty_dictionaries arrays) (λ k d below. All-nil (FitsValue (get_or (empty_dictionaries arrays) k d).kind)))
