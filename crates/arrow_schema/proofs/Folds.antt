-- Fields, and folds over them, a level at a time.
use Rattle.std.specs.Prelude.{◌≡◌, ℕ, ◌+◌, List, [], ◌∷◌, ◌++◌, map, Option}
use Rattle.std.specs.List.{flat_map}
use Rattle.std.proofs.Common.{refl, ap, rules}
use Rattle.arrow_schema.specs.declared.spec.ArrowType.{ArrowType}
use Rattle.arrow_schema.specs.declared.spec.DictSpec.{DictSpec}
use Rattle.arrow_schema.specs.declared.spec.Encoding.{Encoding}
use Rattle.arrow_schema.specs.declared.spec.FieldSpec.{FieldSpec, the_lemmas}
use Rattle.arrow_schema.specs.declared.agreement.Use.{Use}
use Rattle.arrow_schema.specs.Trees.{sum_of, field_count, count_of, use_of, uses_in, uses_of, name_in, kind_in, dict_in, encoding_in, children_in, field_with}

-- the parts of a field that was made of them
pub name_in_is : (name : List ℕ) (kind : ArrowType) (dict : Option DictSpec) (encoding : Encoding) (children : List FieldSpec) → name_in (field_with name kind dict encoding children) ≡ name
name_in_is name kind dict encoding children = search (rules, the_lemmas)

pub kind_in_is : (name : List ℕ) (kind : ArrowType) (dict : Option DictSpec) (encoding : Encoding) (children : List FieldSpec) → kind_in (field_with name kind dict encoding children) ≡ kind
kind_in_is name kind dict encoding children = search (rules, the_lemmas)

pub dict_in_is : (name : List ℕ) (kind : ArrowType) (dict : Option DictSpec) (encoding : Encoding) (children : List FieldSpec) → dict_in (field_with name kind dict encoding children) ≡ dict
dict_in_is name kind dict encoding children = search (rules, the_lemmas)

pub encoding_in_is : (name : List ℕ) (kind : ArrowType) (dict : Option DictSpec) (encoding : Encoding) (children : List FieldSpec) → encoding_in (field_with name kind dict encoding children) ≡ encoding
encoding_in_is name kind dict encoding children = search (rules, the_lemmas)

pub children_in_is : (name : List ℕ) (kind : ArrowType) (dict : Option DictSpec) (encoding : Encoding) (children : List FieldSpec) → children_in (field_with name kind dict encoding children) ≡ children
children_in_is name kind dict encoding children = search (rules, the_lemmas)

-- and the field that is made of the parts of one
pub made_again : (f : FieldSpec) → field_with (name_in f) (kind_in f) (dict_in f) (encoding_in f) (children_in f) ≡ f
made_again f = search (rules, the_lemmas)

total_of : (fs : List FieldSpec) → sum_of (map field_count fs) ≡ count_of fs
total_of [] = refl
total_of (f ∷ fs) = ap (λ (n : ℕ). field_count f + n) (total_of fs)

pub count_in_is : (f : FieldSpec) → field_count f ≡ 1 + count_of (children_in f)
count_in_is f = search (rules, the_lemmas, total_of)

flat_uses : (fs : List FieldSpec) → flat_map (λ uses. uses) (map uses_in fs) ≡ uses_of fs
flat_uses [] = refl
flat_uses (f ∷ fs) = ap (λ (uses : List Use). uses_in f ++ uses) (flat_uses fs)

pub uses_in_is : (f : FieldSpec) → uses_in f ≡ use_of (kind_in f) (dict_in f) ++ uses_of (children_in f)
uses_in_is f = search (rules, the_lemmas, flat_uses)
