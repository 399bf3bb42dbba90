-- Dictionaries to which values are appended.
use Rattle.std.proofs.Common.{◌≡◌, ℕ, ◌+◌, List, [], ◌∷◌, ◌++◌, length, Option, Some, None, sym, ap, ◌∙◌, subst, append_assoc, arith, length-append}
use Rattle.std.specs.Prelude.{map, IfSome}
use Rattle.std.specs.List.{range_with_len}
use Rattle.std.specs.Option.{ForSome}
use Rattle.std.proofs.lemmas.List.Elements.{All-push}
use Rattle.std.proofs.lemmas.List.FromFn.{length-map-range_with_len, map-range_with_len_more}
use Rattle.arrow_schema.specs.declared.spec.ArrowType.{ArrowType}
use Rattle.arrow_ipc.specs.Batches.{BatchIn}
use Rattle.arrow_arrays.specs.declared.place.ArrayPlace.{ArrayPlace}
use Rattle.arrow_arrays.specs.Cells.{own_cell, place_of_values}
use Rattle.arrow_arrays.specs.Layouts.{FitsLayout, layout_of_values}
use Rattle.otap_columns.specs.Dictionaries.{DictionaryIn, values_of}
use Rattle.otap_columns.specs.Steps.{FitsIn, FitsValue}

for_some : {A : Type 0} (P : A → Type 0) (o : Option A) → IfSome o P → ForSome o P
for_some P None h = λ x is. absurd (cc)
for_some P (Some y) h = λ x is. let same : y ≡ x = cc in subst P same h

-- a dictionary with one more value
pub fits_one_more : (old so_far new : DictionaryIn) (v : Option (List ℕ)) (array : ArrayPlace) → so_far.kind ≡ old.kind → array ≡ place_of_values old.kind
    → new ≡ record { id = so_far.id; kind = so_far.kind; values = so_far.values ++ v ∷ [] } → IfSome v (FitsLayout array.layout) → FitsIn so_far → FitsIn new
fits_one_more old so_far new v array kind is more fits all =
    let layout : array.layout ≡ layout_of_values so_far.kind = ap (λ (a : ArrayPlace). a.layout) is ∙ ap layout_of_values (sym kind) in
    let here : FitsValue so_far.kind v = subst (λ l. ForSome v (FitsLayout l)) layout (for_some (FitsLayout array.layout) v fits) in
    subst FitsIn (sym more) (All-push (FitsValue so_far.kind) so_far.values v all here)

-- the cells of one more row
pub one_more_value : (batch : BatchIn) (array : ArrayPlace) (old so_far new : DictionaryIn) (v : Option (List ℕ)) (row : ℕ)
    → so_far ≡ record { id = old.id; kind = old.kind; values = old.values ++ map (own_cell batch array) (range_with_len 0 row) } → v ≡ own_cell batch array row
    → new ≡ record { id = so_far.id; kind = so_far.kind; values = so_far.values ++ v ∷ [] }
    → new ≡ record { id = old.id; kind = old.kind; values = old.values ++ map (own_cell batch array) (range_with_len 0 (row + 1)) }
one_more_value batch array old so_far new v row is here more =
    let cells = map (own_cell batch array) (range_with_len 0 row) in
    let values : (old.values ++ cells) ++ v ∷ [] ≡ old.values ++ map (own_cell batch array) (range_with_len 0 (row + 1)) =
    append_assoc old.values cells (v ∷ []) ∙ ap (λ vs. old.values ++ vs) ((λ i. cells ++ here i ∷ []) ∙ sym (map-range_with_len_more (own_cell batch array) 0 row row (omega arith))) in
    more ∙ (λ i. record { id = (is i).id; kind = (is i).kind; values = (is i).values ++ v ∷ [] }) ∙ (λ i. record { id = old.id; kind = old.kind; values = values i })

-- how many values there are after a batch
pub grown_len : (values : List (Option (List ℕ))) (kind : ArrowType) (batch : BatchIn) → length (values ++ values_of kind batch) ≡ length values + batch.rows
unfolding values_of
grown_len values kind batch =
    length-append values (map (own_cell batch (place_of_values kind)) (range_with_len 0 batch.rows))
    ∙ ap (λ n. length values + n) (length-map-range_with_len (own_cell batch (place_of_values kind)) 0 batch.rows)
