-- The dictionaries of a schema's fields, and looking one up.
use Rattle.std.proofs.Common.{◌≡◌, ℕ, suc, zero, Bool, true, false, List, [], ◌∷◌, Option, Some, None, refl, sym, ap, ◌∙◌, ◌⊎◌, inl, inr}
use Rattle.std.specs.Prelude.{ℤ, map, slice_get, find}
use Rattle.std.specs.List.{AllByRecursion, list_any, list_all}
use Rattle.std.specs.Ordering.{int_eq}
use Rattle.std.proofs.lemmas.Bool.{cases_Bool, and_parts, and_from, or_cases, or_left, or_right, false≢true}
use Rattle.std.proofs.lemmas.Bool.Decides.{Decides-int_eq}
use Rattle.std.proofs.lemmas.Cmp.{int_eq_equiv}
use Rattle.std.proofs.lemmas.List.Folds.{list_any-append}
use Rattle.lists.proofs.Every.{every_append}
use Rattle.arrow_schema.specs.declared.spec.ArrowType.{ArrowType}
use Rattle.arrow_schema.specs.declared.spec.DictSpec.{DictSpec}
use Rattle.arrow_schema.specs.Types.{same_type}
use Rattle.arrow_schema.proofs.Lists.{same_type_is, same_type_refl}
use Rattle.arrow_ipc.specs.declared.messages.IpcMessage.{IpcMessage}
use Rattle.arrow_arrays.specs.declared.spec.ArraySpec.{ArraySpec}
use Rattle.otap_columns.specs.Dictionaries.{dictionary_over, DictionaryIn, has_id, is_for, with_dictionary, with_dictionaries, empty_dictionaries, filled, dictionaries_in, values_if, values_for}

-- tests of all
pub all_by : {A B : Type 0} (test : B → Bool) (f : A → B) (xs : List A) → AllByRecursion (λ x. test (f x) ≡ true) xs → list_all test (map f xs) ≡ true
all_by test f [] h = refl
all_by test f (x ∷ xs) h = and_from (test (f x)) (list_all test (map f xs)) h.0 (all_by test f xs h.1)

pub none_by : {A B : Type 0} (test : B → Bool) (f : A → B) (xs : List A) → AllByRecursion (λ x. test (f x) ≡ false) xs → list_any test (map f xs) ≡ false
none_by test f [] h = refl
none_by test f (x ∷ xs) h = rw h.0 (none_by test f xs h.1)

-- ---- a dictionary is there

any_kept-one : (p : DictionaryIn → Bool) (ds : List DictionaryIn) (kind : ArrowType) (dict : Option DictSpec) → list_any p ds ≡ true → list_any p (with_dictionary ds kind dict) ≡ true
any_kept-one p ds kind None h = h
any_kept-one p ds kind (Some dict) h = by (cases_Bool (list_any (is_for kind dict.id) ds))
  where
    by : (list_any (is_for kind dict.id) ds ≡ true) ⊎ (list_any (is_for kind dict.id) ds ≡ false) → list_any p (with_dictionary ds kind (Some dict)) ≡ true
    by (inl there) = rw there h
    by (inr none) = rw none (list_any-append p ds (record { id = dict.id; kind = kind; values = [] } ∷ []) ∙ or_left (list_any p ds) _ h)

any_kept : (p : DictionaryIn → Bool) (ds : List DictionaryIn) (arrays : List ArraySpec) → list_any p ds ≡ true → list_any p (with_dictionaries ds arrays) ≡ true
any_kept p ds [] h = h
any_kept p ds (a ∷ arrays) h = any_kept p (with_dictionary ds a.kind a.dict) arrays (any_kept-one p ds a.kind a.dict h)

is_for-own : (kind : ArrowType) (id : ℤ) → is_for kind id (record { id = id; kind = kind; values = [] }) ≡ true
is_for-own kind id = and_from (int_eq id id) (same_type kind kind) (int_eq_equiv.refl id) (same_type_refl kind)

any_added : (ds : List DictionaryIn) (kind : ArrowType) (dict : DictSpec) → list_any (is_for kind dict.id) (with_dictionary ds kind (Some dict)) ≡ true
any_added ds kind dict = by (cases_Bool (list_any (is_for kind dict.id) ds))
  where
    by : (list_any (is_for kind dict.id) ds ≡ true) ⊎ (list_any (is_for kind dict.id) ds ≡ false) → list_any (is_for kind dict.id) (with_dictionary ds kind (Some dict)) ≡ true
    by (inl there) = rw there there
    by (inr none) =
        rw none (list_any-append (is_for kind dict.id) ds (record { id = dict.id; kind = kind; values = [] } ∷ [])
        ∙ or_right (list_any (is_for kind dict.id) ds) _ (or_left (is_for kind dict.id (record { id = dict.id; kind = kind; values = [] })) false (is_for-own kind dict.id)))

any_there : (ds : List DictionaryIn) (arrays : List ArraySpec) (place : ℕ) (a : ArraySpec) (dict : DictSpec) → slice_get arrays place ≡ Some a → a.dict ≡ Some dict
    → list_any (is_for a.kind dict.id) (with_dictionaries ds arrays) ≡ true
any_there ds [] place a dict at is = absurd (cc)
any_there ds (b ∷ arrays) zero a dict at is =
    let same : b ≡ a = cc in
    let own : b.dict ≡ Some dict = ap (λ (x : ArraySpec). x.dict) same ∙ is in
    let here : list_any (is_for a.kind dict.id) (with_dictionary ds b.kind b.dict) ≡ true =
    (λ i. list_any (is_for (sym same i).kind dict.id) (with_dictionary ds b.kind (own i))) ∙ any_added ds b.kind dict in
    any_kept (is_for a.kind dict.id) (with_dictionary ds b.kind b.dict) arrays here
any_there ds (b ∷ arrays) (suc place) a dict at is = any_there (with_dictionary ds b.kind b.dict) arrays place a dict at is

found_filled : (kind : ArrowType) (id : ℤ) (ms : List IpcMessage) (ds : List DictionaryIn) → list_any (is_for kind id) ds ≡ true
    → values_if (find (is_for kind id) (map (filled ms) ds)) ≡ dictionary_over kind id ms
found_filled kind id ms [] h = absurd (false≢true h)
found_filled kind id ms (d ∷ ds) h = by (cases_Bool (is_for kind id d)) (found_filled kind id ms ds)
  where
    by : (is_for kind id d ≡ true) ⊎ (is_for kind id d ≡ false) → (list_any (is_for kind id) ds ≡ true → values_if (find (is_for kind id) (map (filled ms) ds)) ≡ dictionary_over kind id ms)
        → values_if (find (is_for kind id) (map (filled ms) (d ∷ ds))) ≡ dictionary_over kind id ms
    by (inl is) rest =
        let parts = and_parts (int_eq d.id id) (same_type d.kind kind) is in
        let same_id : d.id ≡ id = (Decides-int_eq d.id id).0 parts.0 in
        let same_kind : d.kind ≡ kind = same_type_is d.kind kind parts.1 in
        rw is (λ i. dictionary_over (same_kind i) (same_id i) ms)
    by (inr not) rest = rw not (rest (rw not at h))

-- THE VALUES OF A FIELD'S DICTIONARY are those after the messages
pub values_found : (arrays : List ArraySpec) (ms : List IpcMessage) (place : ℕ) (a : ArraySpec) (dict : DictSpec) → slice_get arrays place ≡ Some a → a.dict ≡ Some dict
    → values_for a.kind dict.id (dictionaries_in arrays ms) ≡ dictionary_over a.kind dict.id ms
unfolding dictionaries_in empty_dictionaries
values_found arrays ms place a dict at is = found_filled a.kind dict.id ms (with_dictionaries [] arrays) (any_there [] arrays place a dict at is)

-- and it is known by its id
known_filled : (kind : ArrowType) (id : ℤ) (ms : List IpcMessage) (ds : List DictionaryIn) → list_any (is_for kind id) ds ≡ true → list_any (has_id id) (map (filled ms) ds) ≡ true
known_filled kind id ms [] h = absurd (false≢true h)
known_filled kind id ms (d ∷ ds) h = by (or_cases (is_for kind id d) (list_any (is_for kind id) ds) h) (known_filled kind id ms ds)
  where
    by : (is_for kind id d ≡ true) ⊎ (list_any (is_for kind id) ds ≡ true) → (list_any (is_for kind id) ds ≡ true → list_any (has_id id) (map (filled ms) ds) ≡ true)
        → list_any (has_id id) (map (filled ms) (d ∷ ds)) ≡ true
    by (inl is) rest = or_left (int_eq d.id id) _ (and_parts (int_eq d.id id) (same_type d.kind kind) is).0
    by (inr later) rest = or_right (int_eq d.id id) _ (rest later)

pub id_known : (arrays : List ArraySpec) (ms : List IpcMessage) (place : ℕ) (a : ArraySpec) (dict : DictSpec) → slice_get arrays place ≡ Some a → a.dict ≡ Some dict
    → list_any (has_id dict.id) (dictionaries_in arrays ms) ≡ true
unfolding dictionaries_in empty_dictionaries
id_known arrays ms place a dict at is = known_filled a.kind dict.id ms (with_dictionaries [] arrays) (any_there [] arrays place a dict at is)

-- ---- each dictionary is some field's

each_with-one : (Q : ArrowType → ℤ → Type 0) (ds : List DictionaryIn) (kind : ArrowType) (dict : Option DictSpec) → AllByRecursion (λ (d : DictionaryIn). Q d.kind d.id) ds
    → ((own : DictSpec) → dict ≡ Some own → Q kind own.id) → AllByRecursion (λ (d : DictionaryIn). Q d.kind d.id) (with_dictionary ds kind dict)
each_with-one Q ds kind None h here = h
each_with-one Q ds kind (Some dict) h here = by (cases_Bool (list_any (is_for kind dict.id) ds))
  where
    by : (list_any (is_for kind dict.id) ds ≡ true) ⊎ (list_any (is_for kind dict.id) ds ≡ false)
        → AllByRecursion (λ (d : DictionaryIn). Q d.kind d.id) (with_dictionary ds kind (Some dict))
    by (inl there) = rw there h
    by (inr none) = rw none (every_append (λ (d : DictionaryIn). Q d.kind d.id) ds (record { id = dict.id; kind = kind; values = [] } ∷ []) h (here dict refl, tt))

each_with : (Q : ArrowType → ℤ → Type 0) (ds : List DictionaryIn) (arrays : List ArraySpec) → AllByRecursion (λ (d : DictionaryIn). Q d.kind d.id) ds
    → ((place : ℕ) (a : ArraySpec) (dict : DictSpec) → slice_get arrays place ≡ Some a → a.dict ≡ Some dict → Q a.kind dict.id)
    → AllByRecursion (λ (d : DictionaryIn). Q d.kind d.id) (with_dictionaries ds arrays)
each_with Q ds [] h here = h
each_with Q ds (a ∷ arrays) h here =
    each_with Q (with_dictionary ds a.kind a.dict) arrays (each_with-one Q ds a.kind a.dict h (λ own is. here 0 a own refl is)) (λ place b dict at is. here (suc place) b dict at is)

pub each_dictionary : (Q : ArrowType → ℤ → Type 0) (arrays : List ArraySpec) → ((place : ℕ) (a : ArraySpec) (dict : DictSpec) → slice_get arrays place ≡ Some a → a.dict ≡ Some dict → Q a.kind dict.id)
    → AllByRecursion (λ (d : DictionaryIn). Q d.kind d.id) (empty_dictionaries arrays)
unfolding empty_dictionaries
each_dictionary Q arrays here = each_with Q [] arrays tt here
