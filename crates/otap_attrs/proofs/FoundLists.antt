-- What is found through references: how much there is of it, what holds of each, and its table of attributes.
use Rattle.std.proofs.Common.{◌≡◌, List, map, sym, ap, ◌∙◌}
use Rattle.std.specs.Prelude.{All}
use Rattle.std.proofs.lemmas.List.Elements.{All-map}
use Rattle.lists.proofs.Every.{found_all, map_over}
use Rattle.otlp_model.specs.declared.value.Pair.{Pair}
use Rattle.otap_cells.specs.declared.payload.Kind.{Kind}
use Rattle.otap_cells.specs.Tables.{Table}
use Rattle.otap_attrs.specs.Tables.{attribute_table}

pub found_table : {B X : Type 0} (kind : Kind) (deref : B → X) (pairs : X → List Pair) (found : List B) (xs : List X) (t : Table) → map deref found ≡ xs
    → t ≡ attribute_table kind (map (λ b. pairs (deref b)) found) → t ≡ attribute_table kind (map pairs xs)
found_table kind deref pairs found xs t is made = made ∙ ap (attribute_table kind) (map_over deref pairs found ∙ ap (map pairs) is)

-- the same, where what is found is itself seen through others
pub found_through : {A B X : Type 0} (kind : Kind) (deref : B → X) (seen : A → X) (pairs : X → List Pair) (found : List B) (xs : List A) (t : Table) → map deref found ≡ map seen xs
    → t ≡ attribute_table kind (map (λ b. pairs (deref b)) found) → t ≡ attribute_table kind (map (λ a. pairs (seen a)) xs)
found_through kind deref seen pairs found xs t is made =
    found_table kind deref pairs found (map seen xs) t is made ∙ ap (attribute_table kind) (sym (map_over seen pairs xs))

pub all_through : {A B X : Type 0} (deref : B → X) (seen : A → X) (P : X → Type 0) (found : List B) (xs : List A) → map deref found ≡ map seen xs → All (λ a. P (seen a)) xs
    → All (λ b. P (deref b)) found
all_through deref seen P found xs is all = found_all deref P found (map seen xs) is (All-map P seen xs all)
