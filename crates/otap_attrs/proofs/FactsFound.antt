-- What one pass over attributes finds: the weight of a value and of a pair by what a row says.
use Rattle.std.proofs.Common.{◌≡◌, ℕ, suc, ◌+◌, ◌<◌, ◌≤◌, ◌^◌, true, List, [], ◌∷◌, ◌++◌, drop, map, take, min, length, get_or, sym, ap, ◌∙◌, subst, arith, refl}
use Rattle.std.specs.Global.{Vec}
use Rattle.std.proofs.lemmas.List.{map_more, take_all}
use Rattle.otlp_model.specs.Weight.{weight_of_value}
use Rattle.otlp_model.specs.declared.value.Value as values
use Rattle.cbor_values.specs.declared.weighing.Nesting.TheVariants as nesting
use Rattle.cbor_values.specs.Values.{value_of}
use Rattle.otap_cells.specs.Cells.{Cell, bytes_in, cell_at, nat_in}
use Rattle.otap_cells.specs.Continuing.{AttributeIn, attribute_in, bytes_by}
use Rattle.otap_cells.specs.Tables.{Table}
use Rattle.otap_attrs.specs.declared.facts.Found.{Found}
use Rattle.otap_attrs.specs.declared.refusal.RowRefusal.{RowRefusal}
use Rattle.otap_attrs.specs.Facts.{AddsWeight, HasFinePair, HasFineValue, HasWeights, HasWeightsSoFar, WeighsPair, WeighsValue, bytes_of_type}
use Rattle.otap_attrs.specs.Index.{pair_weight_in}
use Rattle.otap_attrs.specs.Inside.{BadNested}
use Rattle.otap_attrs.specs.Values.{BadValue, pair_in, value_type_in}
use Rattle.otap_attrs.proofs.PairRows.{after_both}
use Rattle.otap_attrs.proofs.TablePairs.{values_more}
use Rattle.otap_attrs.proofs.ValueCells.{weight_of_array, weight_of_map, weight_of_octets, weight_of_other, weight_of_text}
use Rattle.otap_attrs.proofs.ValueFaults.{array_is_fine, map_is_fine}
use Rattle.otap_attrs.proofs.ValueLaws.{flat_is_fine}
use Rattle.std.specs.Prelude.{IfSome, Option, None, Some, unwrap_or}

-- ---- values by their types

pub no_bytes : (kind : ℕ) (bytes : List ℕ) → kind ≤ 4 → (kind ≡ 1 → ⊥) → WeighsValue kind bytes 0
no_bytes kind bytes low other cells is are = record {
  weighs =
      let none = weight_of_other cells (λ e. other (sym is ∙ e)) (λ e. omega (arith, is, e, low)) (λ e. omega (arith, is, e, low)) (λ e. omega (arith, is, e, low)) in
      omega (arith, none);
  fine = flat_is_fine cells (omega (arith, is, low)) (λ e. omega (arith, is, e, low)) (λ e. omega (arith, is, e, low));
}

pub text_weight : (bytes : List ℕ) (weight : ℕ) → weight ≡ min (length bytes) (2 ^ 63) → WeighsValue 1 bytes weight
text_weight bytes weight of cells is are = record {
  weighs = of ∙ ap (λ n. min n (2 ^ 63)) (ap length are ∙ sym (weight_of_text cells is));
  fine = flat_is_fine cells (omega (arith, is)) (λ e. omega (arith, is, e)) (λ e. omega (arith, is, e));
}

pub octets_weight : (bytes : List ℕ) (weight : ℕ) → weight ≡ min (length bytes) (2 ^ 63) → WeighsValue 7 bytes weight
octets_weight bytes weight of cells is are = record {
  weighs = of ∙ ap (λ n. min n (2 ^ 63)) (ap length are ∙ sym (weight_of_octets cells is));
  fine = flat_is_fine cells (omega (arith, is)) (λ e. omega (arith, is, e)) (λ e. omega (arith, is, e));
}

pub map_weight : (bytes : List ℕ) (weight : ℕ) → ((why : RowRefusal) → BadNested nesting.Map bytes why → ⊥)
    → weight ≡ min (weight_of_value (unwrap_or (value_of bytes) values.Empty)) (2 ^ 63) → WeighsValue 5 bytes weight
map_weight bytes weight fine of cells is are = record {
  weighs = of ∙ ap (λ b. min (weight_of_value (unwrap_or (value_of b) values.Empty)) (2 ^ 63)) are ∙ ap (λ n. min n (2 ^ 63)) (sym (weight_of_map cells is));
  fine = map_is_fine cells is (subst (λ b. (why : RowRefusal) → BadNested nesting.Map b why → ⊥) are fine);
}

pub array_weight : (bytes : List ℕ) (weight : ℕ) → ((why : RowRefusal) → BadNested nesting.Array bytes why → ⊥)
    → weight ≡ min (weight_of_value (unwrap_or (value_of bytes) values.Empty)) (2 ^ 63) → WeighsValue 6 bytes weight
array_weight bytes weight fine of cells is are = record {
  weighs = of ∙ ap (λ b. min (weight_of_value (unwrap_or (value_of b) values.Empty)) (2 ^ 63)) are ∙ ap (λ n. min n (2 ^ 63)) (sym (weight_of_array cells is));
  fine = array_is_fine cells is (subst (λ b. (why : RowRefusal) → BadNested nesting.Array b why → ⊥) are fine);
}

pub map_some : (kind : ℕ) (bytes : List ℕ) (r : Option ℕ) → kind ≡ 5 → IfSome r (λ weight. (why : RowRefusal) → BadNested nesting.Map bytes why → ⊥)
    → IfSome r (λ weight. weight ≡ min (weight_of_value (unwrap_or (value_of bytes) values.Empty)) (2 ^ 63)) → IfSome r (WeighsValue kind bytes)
map_some kind bytes None is fine of = tt
map_some kind bytes (Some weight) is fine of = subst (λ k. WeighsValue k bytes weight) (sym is) (map_weight bytes weight fine of)

pub array_some : (kind : ℕ) (bytes : List ℕ) (r : Option ℕ) → kind ≡ 6 → IfSome r (λ weight. (why : RowRefusal) → BadNested nesting.Array bytes why → ⊥)
    → IfSome r (λ weight. weight ≡ min (weight_of_value (unwrap_or (value_of bytes) values.Empty)) (2 ^ 63)) → IfSome r (WeighsValue kind bytes)
array_some kind bytes None is fine of = tt
array_some kind bytes (Some weight) is fine of = subst (λ k. WeighsValue k bytes weight) (sym is) (array_weight bytes weight fine of)

-- ---- pairs

bytes_said : (kind : ℕ) (cells : List Cell) → bytes_by kind cells ≡ bytes_of_type kind (drop 1 cells)
bytes_said kind [] = refl
bytes_said kind (cell ∷ cells) = refl

type_said : (cells : List Cell) → value_type_in (drop 1 cells) ≡ nat_in (cell_at cells 1)
type_said [] = refl
type_said (cell ∷ cells) = refl

pub fine_pair : (says : AttributeIn) (value weight : ℕ) → WeighsValue says.kind says.bytes value
    → weight ≡ min (min (length says.key) (2 ^ 63) + value) (2 ^ 63) → WeighsPair says weight
unfolding attribute_in pair_in
fine_pair says value weight weighs of row is =
    let cells : List Cell = drop 1 row in
    let kind : value_type_in (drop 1 cells) ≡ says.kind = type_said cells ∙ sym (ap (λ (a : AttributeIn). a.kind) is) in
    let bytes : says.bytes ≡ bytes_of_type says.kind (drop 1 cells) =
    ap (λ (a : AttributeIn). a.bytes) is ∙ ap (λ n. bytes_by n cells) (sym (ap (λ (a : AttributeIn). a.kind) is)) ∙ bytes_said says.kind cells in
    let has : HasFineValue (drop 1 cells) value = weighs (drop 1 cells) kind bytes in
    let key : length says.key ≡ length (bytes_in (cell_at cells 0)) = ap (λ (a : AttributeIn). length a.key) is in record {
      weighs = let w = has.weighs in omega (arith, of, key, w);
      fine = subst (λ part. (why : RowRefusal) → BadValue part why → ⊥) (after_both row) has.fine;
    }

-- ---- one row more

pub one_more : (rows : List (List Cell)) (k : ℕ) (says : AttributeIn) (old new : Found) → k < length rows
    → says ≡ attribute_in (drop 1 (get_or rows k [])) → AddsWeight old new says
    → (old.fine ≡ true → HasWeightsSoFar rows k old.weights.items) → HasWeightsSoFar rows (k + 1) new.weights.items
one_more rows k says old new within is adds so_far =
    let before = so_far adds.fine in
    let pair : HasFinePair (get_or rows k []) adds.weight = adds.is (get_or rows k []) is in record {
      are = adds.pushed ∙ (λ i. before.are i ++ pair.weighs i ∷ []) ∙ sym (map_more pair_weight_in rows k [] within);
      fine = values_more rows 2 k before.fine pair.fine;
    }

pub none_yet : (rows : List (List Cell)) (weights : List ℕ) → weights ≡ [] → HasWeightsSoFar rows 0 weights
none_yet rows weights none = record { are = none; fine = λ k below. absurd (omega (arith, below)) }

pub all_found : (t : Table) (count : ℕ) (found : Found) (r : Option (Vec ℕ)) → length t.rows ≤ count
    → IfSome r (λ (weights : Vec ℕ). (weights ≡ found.weights) × (found.fine ≡ true))
    → (found.fine ≡ true → HasWeightsSoFar t.rows count found.weights.items) → IfSome r (λ (weights : Vec ℕ). HasWeights t weights.items)
all_found t count found None all is so_far = tt
all_found t count found (Some weights) all is so_far =
    let so = so_far is.1 in record {
      are = (λ i. (is.0 i).items) ∙ so.are ∙ ap (map pair_weight_in) (take_all count t.rows all);
      fine = λ why wrong. let there = wrong.there in so.fine wrong.row (omega (arith, there, all)) why wrong.is;
    }
