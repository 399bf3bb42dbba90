-- What is wrong with the cells of a value, by its type.
use Rattle.std.proofs.Common.{◌≡◌, ℕ, List, Some, Result, Ok, Err, sym, ap, subst, ◌∙◌, arith, inl, inr}
use Rattle.std.specs.Prelude.{OnOk}
use Rattle.cbor_values.specs.declared.refusal.CborRefusal.{CborRefusal}
use Rattle.cbor_values.specs.declared.weighing.Nesting.{Nesting}
use Rattle.cbor_values.specs.declared.weighing.Nesting.TheVariants as nesting
use Rattle.cbor_values.specs.declared.weighing.WeighedValue.{WeighedValue}
use Rattle.cbor_values.specs.Refusals.{Stands}
use Rattle.cbor_values.specs.Weighing.{IsWeighed, nesting_of}
use Rattle.otap_cells.specs.Cells.{Cell}
use Rattle.otap_attrs.specs.declared.refusal.RowRefusal.{RowRefusal}
use Rattle.otap_attrs.specs.declared.refusal.RowRefusal.TheVariants as row
use Rattle.otap_attrs.specs.Values.{BadValue, nested_in, value_type_in}
use Rattle.otap_attrs.specs.Inside.{BadNested}

-- a nested value of the wanted shape
pub nested_is_fine : (wanted : Nesting) (part : List ℕ) (told : WeighedValue) → IsWeighed part told → ((refusal : CborRefusal) → Stands refusal part → ⊥)
    → told.nesting ≡ wanted → (why : RowRefusal) → BadNested wanted part why → ⊥
nested_is_fine wanted part told weighed fine same row.BadValueType other =
    let one : Some other.value ≡ Some weighed.value = sym other.is ∙ weighed.is in
    let shape : nesting_of other.value ≡ wanted =
    (let value : other.value ≡ weighed.value = cc in ap nesting_of value) ∙ sym (ap (λ (w : WeighedValue). w.nesting) weighed.of) ∙ same in
    other.other shape
nested_is_fine wanted part told weighed fine same (row.BadCbor refusal) stands = fine refusal stands
nested_is_fine wanted part told weighed fine same (row.Ids fault) bad = bad
nested_is_fine wanted part told weighed fine same row.Orphan bad = bad
nested_is_fine wanted part told weighed fine same row.Disagree bad = bad
nested_is_fine wanted part told weighed fine same row.TwoValues bad = bad
nested_is_fine wanted part told weighed fine same row.BadKind bad = bad
nested_is_fine wanted part told weighed fine same (row.Memory error) bad = bad

-- cells of a map and of an array whose nested value is fine
pub map_is_fine : (cells : List Cell) → value_type_in cells ≡ 5 → ((why : RowRefusal) → BadNested nesting.Map (nested_in cells) why → ⊥)
    → (why : RowRefusal) → BadValue cells why → ⊥
map_is_fine cells is fine row.BadValueType (inl high) = omega arith
map_is_fine cells is fine row.BadValueType (inr (inl map)) = fine row.BadValueType map.1
map_is_fine cells is fine row.BadValueType (inr (inr array)) = let six = array.0 in omega arith
map_is_fine cells is fine (row.BadCbor refusal) bad = fine (row.BadCbor refusal) bad.1
map_is_fine cells is fine (row.Ids fault) bad = bad
map_is_fine cells is fine row.Orphan bad = bad
map_is_fine cells is fine row.Disagree bad = bad
map_is_fine cells is fine row.TwoValues bad = bad
map_is_fine cells is fine row.BadKind bad = bad
map_is_fine cells is fine (row.Memory error) bad = bad

pub array_is_fine : (cells : List Cell) → value_type_in cells ≡ 6 → ((why : RowRefusal) → BadNested nesting.Array (nested_in cells) why → ⊥)
    → (why : RowRefusal) → BadValue cells why → ⊥
array_is_fine cells is fine row.BadValueType (inl high) = omega arith
array_is_fine cells is fine row.BadValueType (inr (inl map)) = let five = map.0 in omega arith
array_is_fine cells is fine row.BadValueType (inr (inr array)) = fine row.BadValueType array.1
array_is_fine cells is fine (row.BadCbor refusal) bad = fine (row.BadCbor refusal) bad.1
array_is_fine cells is fine (row.Ids fault) bad = bad
array_is_fine cells is fine row.Orphan bad = bad
array_is_fine cells is fine row.Disagree bad = bad
array_is_fine cells is fine row.TwoValues bad = bad
array_is_fine cells is fine row.BadKind bad = bad
array_is_fine cells is fine (row.Memory error) bad = bad

-- what a check of the nested value says of the cells
pub map_fine : (cells : List Cell) (part : List ℕ) (r : Result (Unit {0}) RowRefusal) → value_type_in cells ≡ 5 → part ≡ nested_in cells
    → OnOk r ((why : RowRefusal) → BadNested nesting.Map part why → ⊥) → OnOk r ((why : RowRefusal) → BadValue cells why → ⊥)
map_fine cells part (Ok done) is same fine = map_is_fine cells is (subst (λ (b : List ℕ). (why : RowRefusal) → BadNested nesting.Map b why → ⊥) same fine)
map_fine cells part (Err why) is same fine = tt

pub array_fine : (cells : List Cell) (part : List ℕ) (r : Result (Unit {0}) RowRefusal) → value_type_in cells ≡ 6 → part ≡ nested_in cells
    → OnOk r ((why : RowRefusal) → BadNested nesting.Array part why → ⊥) → OnOk r ((why : RowRefusal) → BadValue cells why → ⊥)
array_fine cells part (Ok done) is same fine = array_is_fine cells is (subst (λ (b : List ℕ). (why : RowRefusal) → BadNested nesting.Array b why → ⊥) same fine)
array_fine cells part (Err why) is same fine = tt
