-- What the rows of a load's requests weigh at most, for items of any signal.
use Rattle.std.proofs.Common.{◌≡◌, ◌⊎◌, inl, inr, ℕ, ◌+◌, ◌*◌, ◌%◌, ◌<◌, ◌≤◌, Bool, true, false, List, [], ◌∷◌, length, get_or, refl, sym, ap, ◌∙◌, subst, rules, arith}
use Rattle.std.specs.Prelude.{◌==◌, codes, map, nat_lt, pos, sum_by, if◌then◌else◌}
use Rattle.std.specs.List.{range_with_len}
use Rattle.std.proofs.lemmas.Bool.{cases_Bool}
use Rattle.std.proofs.lemmas.List.{length-map}
use Rattle.std.proofs.lemmas.List.Elements.{All-map}
use Rattle.std.proofs.lemmas.List.Sums.{sum_by-cons, sum_by-le}
use Rattle.otlp_model.specs.Weight.{total, weight_of_pair, weight_of_value}
use Rattle.otlp_model.specs.declared.groups.Resource.{Resource}
use Rattle.otlp_model.specs.declared.groups.Scope.{Scope}
use Rattle.otlp_model.specs.declared.groups.ResourceGroup.{ResourceGroup}
use Rattle.otlp_model.specs.declared.value.Pair.{Pair}
use Rattle.otlp_model.specs.declared.value.Value.{Value, the_lemmas}
use Rattle.otlp_model.specs.declared.value.Value as values
use Rattle.otlp_load.specs.Pairs.{double_bits, numbered_text, load_value, load_pair, pairs_of}
use Rattle.otlp_load.specs.Load.{items_each, item_number, places_below, requests_at_most, service_of, host_of, load_resource, scope_of_all, group_of, groups_of}
use Rattle.otlp_load.proofs.ItemsLight.{numbered_at_most, pairs_at_most}
use Rattle.otlp_load.proofs.LoadCounted.{places_counted}
use Rattle.otap_cells.specs.Weights.{row_weight_limit}
use Rattle.otap_groups.specs.Weighing.{cells_weight, front_weight, parts_weight, rows_of_groups}
use Rattle.otap_groups.proofs.RowSums.{rows_split, rows_some, rows_none}
use Rattle.otap_attrs.specs.Values.{pair_cells, value_cells}
use Rattle.otap_attrs.proofs.AttributesWeighed.{str_weighs, int_weighs, double_weighs, bool_weighs, pair_weighs}

-- ---- values: as cells they weigh what they weigh themselves

abbrev pub IsPlain : Value → Type 0
IsPlain value = cells_weight (value_cells value) ≡ weight_of_value value

pub str_plain : (text : List ℕ) → IsPlain (values.Str text)
str_plain text = let same : weight_of_value (values.Str text) ≡ length text = search (rules, the_lemmas) in str_weighs text ∙ sym same

int_plain : (n : ℕ) → IsPlain (values.Int (pos n))
int_plain n = let same : weight_of_value (values.Int (pos n)) ≡ 0 = search (rules, the_lemmas) in int_weighs (pos n) ∙ sym same

bool_plain : (b : Bool) → IsPlain (values.Bool b)
bool_plain b = let same : weight_of_value (values.Bool b) ≡ 0 = search (rules, the_lemmas) in bool_weighs b ∙ sym same

double_plain : (bits : ℕ) → IsPlain (values.Double bits)
double_plain bits = let same : weight_of_value (values.Double bits) ≡ 0 = search (rules, the_lemmas) in double_weighs bits ∙ sym same

either_plain : (b : Bool) (x y : Value) → IsPlain x → IsPlain y → IsPlain (if b then x else y)
either_plain true x y first second = first
either_plain false x y first second = second

value_plain : (r n place : ℕ) → IsPlain (load_value r n place)
value_plain r n place =
    either_plain (place == 8) _ _ (str_plain _) (either_plain (place % 4 == 0) _ _ (str_plain _) (either_plain (place % 4 == 1) _ _ (int_plain (n % 1000))
    (either_plain (place % 4 == 2) _ _ (bool_plain (n % 2 == 1)) (double_plain (double_bits n)))))

-- ---- pairs

plain_rows : (pair_of : ℕ → Pair) → ((place : ℕ) → IsPlain (pair_of place).value) → (places : List ℕ)
    → parts_weight pair_cells (map pair_of places) ≡ total 32 weight_of_pair (map pair_of places)
plain_rows pair_of plain [] = refl
plain_rows pair_of plain (place ∷ places) =
    let first = pair_weighs (pair_of place) in
    let own = plain place in
    let split = sum_by-cons (λ (pair : Pair). 32 + cells_weight (pair_cells pair)) (pair_of place) (map pair_of places) in
    let others = plain_rows pair_of plain places in
    omega (arith, first, own, split, others)

pub pairs_rows : (r n : ℕ) → r < requests_at_most → parts_weight pair_cells (pairs_of r n) ≤ 528
unfolding pairs_of
pairs_rows r n request = subst (λ (weight : ℕ). weight ≤ 528) (sym (plain_rows (load_pair r n) (value_plain r n) (range_with_len 0 12))) (pairs_at_most r n request)

resource_rows : (g : ℕ) → g < 10 → parts_weight pair_cells (load_resource g).pairs ≤ 100
resource_rows g few =
    let service = pair_weighs (service_of g) in
    let host = pair_weighs (host_of g) in
    let name : cells_weight (value_cells (values.Str (numbered_text (codes "svc-") g))) ≡ length (numbered_text (codes "svc-") g) = str_weighs (numbered_text (codes "svc-") g) in
    let short : length (numbered_text (codes "svc-") g) ≤ 5 = numbered_at_most 1 g (codes "svc-") (omega arith) (omega arith) (omega arith) in
    let number : cells_weight (value_cells (values.Int (pos g))) ≡ 0 = int_weighs (pos g) in
    let a = sum_by-cons (λ (pair : Pair). 32 + cells_weight (pair_cells pair)) (service_of g) (host_of g ∷ []) in
    let b = sum_by-cons (λ (pair : Pair). 32 + cells_weight (pair_cells pair)) (host_of g) [] in
    omega (arith, service, host, name, short, number, a, b)

-- ---- groups

abbrev pub rows_beside : {I : Type 0} → (I → ℕ) → List (ResourceGroup I) → ℕ
rows_beside of_item groups = rows_of_groups (λ resource. parts_weight pair_cells resource.pairs) (λ scope. parts_weight pair_cells scope.pairs) of_item groups

-- a resource with one scope
abbrev group_with : {I : Type 0} → Resource → Scope → List I → ResourceGroup I
group_with resource scope items = record { resource = resource; scopes = record { scope = scope; items = items } ∷ [] }

-- the rows of its items, and of the pairs beside them
abbrev rows_with : {I : Type 0} → (I → ℕ) → Resource → Scope → List I → ℕ
rows_with of_item resource scope items =
    parts_weight pair_cells resource.pairs + (parts_weight pair_cells scope.pairs + sum_by (λ item. front_weight resource scope + of_item item) items)

group_rows : {I : Type 0} (of_item : I → ℕ) (resource : Resource) (scope : Scope) (items : List I)
    → rows_beside of_item (group_with resource scope items ∷ []) ≤ rows_with of_item resource scope items
group_rows of_item resource scope items = by (cases_Bool (nat_lt 0 (length items)))
  where
    by : (nat_lt 0 (length items) ≡ true) ⊎ (nat_lt 0 (length items) ≡ false) → rows_beside of_item (group_with resource scope items ∷ []) ≤ rows_with of_item resource scope items
    by (inl some) =
        let rows = rows_some (λ (resource : Resource). parts_weight pair_cells resource.pairs) (λ (scope : Scope). parts_weight pair_cells scope.pairs) of_item (group_with resource scope items) (rw some refl) in
        let same = rw some at rows in
        omega (arith, same)
    by (inr none) =
        let rows = rows_none (λ (resource : Resource). parts_weight pair_cells resource.pairs) (λ (scope : Scope). parts_weight pair_cells scope.pairs) of_item (group_with resource scope items) (rw none refl) in
        omega (arith, rows)

-- where each item weighs at most so much
items_rows : {I : Type 0} (of_item : I → ℕ) (g : ℕ) (item_at : ℕ → I) → ((k : ℕ) → of_item (item_at k) ≤ 800) → (places : List ℕ)
    → sum_by (λ item. front_weight (load_resource g) scope_of_all + of_item item) (map item_at places) ≤ length places * 836
items_rows of_item g item_at each places =
    let most = sum_by-le (λ item. front_weight (load_resource g) scope_of_all + of_item item) 836 (map item_at places)
    (All-map (λ item. front_weight (load_resource g) scope_of_all + of_item item ≤ 836) item_at places (λ k d below. let own = each (get_or places k d) in omega arith)) in
    subst (λ (n : ℕ). sum_by (λ item. front_weight (load_resource g) scope_of_all + of_item item) (map item_at places) ≤ n * 836) (length-map places item_at) most

place_rows : {I : Type 0} (of_item : I → ℕ) (g : ℕ) → g < 10 → (item_at : ℕ → I) → ((k : ℕ) → of_item (item_at k) ≤ 800) → (places : List ℕ)
    → rows_beside of_item (group_with (load_resource g) scope_of_all (map item_at places) ∷ []) ≤ 100 + length places * 836
place_rows of_item g few item_at each places =
    let rows = group_rows of_item (load_resource g) scope_of_all (map item_at places) in
    let resource = resource_rows g few in
    let items = items_rows of_item g item_at each places in
    omega (arith, rows, resource, items)

three_groups : {I : Type 0} (of_item : I → ℕ) (a b c : ResourceGroup I) → rows_beside of_item (a ∷ b ∷ c ∷ []) ≡ rows_beside of_item (a ∷ []) + (rows_beside of_item (b ∷ []) + rows_beside of_item (c ∷ []))
three_groups of_item a b c =
    let first = rows_split (λ (resource : Resource). parts_weight pair_cells resource.pairs) (λ (scope : Scope). parts_weight pair_cells scope.pairs) of_item a (b ∷ c ∷ []) in
    let second = rows_split (λ (resource : Resource). parts_weight pair_cells resource.pairs) (λ (scope : Scope). parts_weight pair_cells scope.pairs) of_item b (c ∷ []) in
    first ∙ ap (λ n. rows_beside of_item (a ∷ []) + n) second

bounded : (w a b c p q s n : ℕ) → w ≡ a + (b + c) → a ≤ 100 + p * 836 → b ≤ 100 + q * 836 → c ≤ 100 + s * 836 → p + q + s ≡ n → n ≡ items_each → w ≤ row_weight_limit
bounded w a b c p q s n is fa fb fc all many = omega (arith, is, fa, fb, fc, all, many)

pub load_rows : {I : Type 0} (of_item : I → ℕ) (item_of : ℕ → ℕ → I) (r : ℕ) → ((n : ℕ) → of_item (item_of r n) ≤ 800) → rows_beside of_item (groups_of item_of r) ≤ row_weight_limit
load_rows of_item item_of r each =
    let rows : (g : ℕ) → g < 10 → rows_beside of_item (group_of item_of r g ∷ []) ≤ 100 + length (places_below items_each g) * 836
    = λ g few. place_rows of_item g few (λ k. item_of r (item_number r k)) (λ k. each (item_number r k)) (places_below items_each g) in
    bounded _ _ _ _ (length (places_below items_each 0)) (length (places_below items_each 1)) (length (places_below items_each 2)) items_each
    (three_groups of_item (group_of item_of r 0) (group_of item_of r 1) (group_of item_of r 2)) (rows 0 (omega arith)) (rows 1 (omega arith)) (rows 2 (omega arith)) (places_counted items_each) refl
