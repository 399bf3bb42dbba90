-- Each use of a dictionary is at a field of the schema.
use Rattle.std.specs.Prelude.{◌≡◌, ℕ, ◌+◌, zero, suc, ◌<◌, true, List, [], ◌∷◌, length, slice_index_or, Ok, Option, None, Some, ℤ}
use Rattle.std.proofs.Common.{refl, sym, subst, inl, inr, arith}
use Rattle.std.proofs.lemmas.Bool.{and_parts}
use Rattle.lists.proofs.Every.{all_pass_at}
use Rattle.flat_tables.specs.Tables.{TableIn}
use Rattle.arrow_schema.specs.Limits.{max_depth}
use Rattle.arrow_schema.specs.declared.spec.ArrowType.{ArrowType}
use Rattle.arrow_schema.specs.declared.spec.DictSpec.{DictSpec}
use Rattle.arrow_schema.specs.declared.spec.FieldSpec.{FieldSpec}
use Rattle.arrow_schema.specs.Types.{type_number}
use Rattle.arrow_schema.specs.Slots.{kind_slot, fields_slot, children_slot}
use Rattle.arrow_schema.specs.Trees.{kind_in, dict_in, children_in, names_differ, use_of, uses_in, uses_of}
use Rattle.arrow_schema.specs.Says.{SaysNumbers, SaysDictionary, HasTables, SaysField, says, SayFields}
use Rattle.arrow_schema.specs.Readable.{is_supported, is_readable, are_readable}
use Rattle.arrow_schema.specs.Defects.{IsField}
use Rattle.arrow_schema.specs.Defects.{HasUse, HasTwoTypes}
use Rattle.arrow_schema.specs.Defects as defects
use Rattle.arrow_schema.proofs.FieldParts.{type_says}
use Rattle.arrow_schema.proofs.Elements.{parent_child}
use Rattle.arrow_schema.proofs.Only.{tests_of}
use Rattle.arrow_schema.proofs.Folds.{uses_in_is}
use Rattle.arrow_schema.proofs.Lists.{IsIn, in_either, use_at, Disagree}
use Rattle.arrow_schema.specs.declared.agreement.Use.{Use}

-- a use of a field or below it, by the field that has it
pub record UseStands (schema : TableIn) (u : Use) : Type 0 where
  pub depth : ℕ
  pub t : TableIn
  pub field : IsField schema depth t
  pub has : HasUse t u.id u.kind

own_use : (schema : TableIn) (depth : ℕ) (t : TableIn) (kind : ArrowType) (dict : Option DictSpec) (u : Use) → IsField schema depth t → kind_slot t ≡ Ok (type_number kind) → SaysNumbers t kind
    → is_supported kind ≡ true → SaysDictionary t dict → IsIn u (use_of kind dict) → UseStands schema u
own_use schema depth t kind None u f k numbers supported d h = absurd h
own_use schema depth t kind (Some dict) u f k numbers supported d (inr h) = absurd h
own_use schema depth t kind (Some dict) u f k numbers supported d (inl same) = subst (UseStands schema) (sym same) (record {
  depth = depth;
  t = t;
  field = f;
  has = record { dictionary = d.0; at = d.1; has_id = d.2.id; has_type = type_says t kind k numbers supported };
})

-- the fields of a parent are readable one level down
pub readable_at : (depth : ℕ) (fields : List FieldSpec) (i : ℕ) (d : FieldSpec) → are_readable depth fields ≡ true → i < length fields
    → (inner : ℕ) × (depth ≡ suc inner) × (is_readable (are_readable inner) (slice_index_or fields i d) ≡ true)
unfolding are_readable
readable_at zero [] i d h lt = absurd (omega (arith, lt))
readable_at zero (f ∷ fields) i d h lt = cc (h)
readable_at (suc inner) fields i d h lt = (inner, refl, all_pass_at (is_readable (are_readable inner)) fields i d (and_parts (names_differ fields) _ h).1 lt)

use_found : (schema : TableIn) (depth inner : ℕ) (t : TableIn) (f : FieldSpec) (u : Use) → SaysField t f → IsField schema depth t → depth + inner ≡ max_depth → is_readable (are_readable inner) f ≡ true
    → IsIn u (uses_in f) → UseStands schema u
use_found schema depth inner _ _ u (says t f tables n k numbers d e has long each) field deep readable h =
    let test = tests_of inner f readable in
    elim (in_either u (use_of (kind_in f) (dict_in f)) (uses_of (children_in f)) (subst (IsIn u) (uses_in_is f) h)) [
      | inl own ↦ own_use schema depth t (kind_in f) (dict_in f) u field k numbers test.supported d own
      | inr below ↦
          let r = use_at u (children_in f) below in
          let deeper = readable_at inner (children_in f) r.0 f test.children r.1 in
          let in_tables : r.0 < length tables = omega (arith, r.1, long) in
          use_found schema (suc depth) deeper.0 _ _ u (each r.0 t f in_tables)
          (defects.IsField.inner depth t _ (omega (arith, deep, deeper.1)) field (parent_child children_slot t tables r.0 t has in_tables)) (omega (arith, deep, deeper.1)) deeper.2 (r.2 f)
    ]

use_of_schema : (schema : TableIn) (tables : List TableIn) (fields : List FieldSpec) (u : Use) → HasTables fields_slot schema tables → SayFields tables fields → are_readable max_depth fields ≡ true
    → IsIn u (uses_of fields) → UseStands schema u
use_of_schema schema tables [] u has say readable h = absurd h
use_of_schema schema tables (f ∷ fields) u has say readable h =
    let r = use_at u (f ∷ fields) h in
    let deeper = readable_at max_depth (f ∷ fields) r.0 f readable r.1 in
    let in_tables : r.0 < length tables = omega (arith, r.1, say.long) in
    use_found schema 1 deeper.0 _ _ u (say.each r.0 schema f in_tables) (defects.IsField.own _ (parent_child fields_slot schema tables r.0 schema has in_tables)) (omega (arith, deeper.1)) deeper.2 (r.2 f)

pub two_types : (schema : TableIn) (tables : List TableIn) (fields : List FieldSpec) → HasTables fields_slot schema tables → SayFields tables fields → are_readable max_depth fields ≡ true
    → Disagree (uses_of fields) → HasTwoTypes schema
two_types schema tables fields has say readable d =
    let a = use_of_schema schema tables fields d.a has say readable d.a_in in
    let b = use_of_schema schema tables fields d.b has say readable d.b_in in
    record {
      id = d.a.id;
      depth = a.depth;
      t = a.t;
      field = a.field;
      kind = d.a.kind;
      use_of = a.has;
      other_depth = b.depth;
      other = b.t;
      other_field = b.field;
      other_kind = d.b.kind;
      other_use = subst (λ (id : ℤ). HasUse b.t id d.b.kind) (sym d.same) b.has;
      differ = d.differ;
    }
