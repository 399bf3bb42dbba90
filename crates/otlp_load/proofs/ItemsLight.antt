-- What the items of the load weigh at most.
use Rattle.std.proofs.Common.{◌≡◌, ◌≤◌, ◌<◌, ℕ, ◌+◌, ◌*◌, ◌%◌, ◌^◌, Bool, true, false, List, [], ◌∷◌, length, get_or, refl, subst, arith, rules, length-append}
use Rattle.std.specs.Prelude.{All, ◌==◌, map, codes, pos, if◌then◌else◌}
use Rattle.std.specs.Fmt.{decimal}
use Rattle.std.specs.List.{range_with_len}
use Rattle.std.proofs.Math.Nat.{mod-lt}
use Rattle.std.proofs.lemmas.Fmt.{length-decimal-le}
use Rattle.std.proofs.lemmas.List.Elements.{All-map, All-head, All-tail}
use Rattle.std.proofs.lemmas.List.FromFn.{length-map-range_with_len, length-range_with_len, get_or-range_with_len}
use Rattle.otlp_model.specs.Weight.{total, weight_of_value, weight_of_pair, weight_of_span, weight_of_log_record, weight_of_point, weight_of_metric, weight_of_shape}
use Rattle.otlp_model.specs.declared.value.Value.{Value, the_lemmas}
use Rattle.otlp_model.specs.declared.value.Value as values
use Rattle.otlp_model.specs.declared.metrics.Number.{Number}
use Rattle.otlp_model.specs.declared.metrics.Number.TheVariants as numbers
use Rattle.otlp_load.specs.Pairs.{numbered_text, double_bits, load_value, load_pair, pairs_of}
use Rattle.otlp_load.specs.Items.{load_span, load_log_record, load_point, load_shape, load_metric}
use Rattle.otlp_load.specs.Load.{requests_at_most}

-- where each part weighs at most so much
pub total_at_most : {A : Type 0} (each bound : ℕ) (weigh : A → ℕ) (parts : List A) → All (λ part. weigh part ≤ bound) parts → total each weigh parts ≤ length parts * (each + bound)
total_at_most each bound weigh [] light = grind arith
total_at_most each bound weigh (part ∷ parts) light =
    let first = All-head (λ x. weigh x ≤ bound) part parts light in
    let others = total_at_most each bound weigh parts (All-tail (λ x. weigh x ≤ bound) part parts light) in
    grind (arith, first, others)

pub counted_at_most : {A : Type 0} (n each bound : ℕ) (weigh : A → ℕ) (parts : List A) → length parts ≡ n → All (λ part. weigh part ≤ bound) parts → total each weigh parts ≤ n * (each + bound)
counted_at_most n each bound weigh parts many light = subst (λ (k : ℕ). total each weigh parts ≤ k * (each + bound)) many (total_at_most each bound weigh parts light)

-- a text of at most `front` bytes with a number of at most `digits` digits after it
pub numbered_at_most : (digits n : ℕ) (text : List ℕ) → 0 < digits → n < 10 ^ digits → n < 2 ^ 64 → length (numbered_text text n) ≤ length text + digits
numbered_at_most digits n text some few fits =
    let few_digits = length-decimal-le digits n some few fits in
    rw (length-append text (decimal n)) (omega arith)

pub str_at_most : (text : List ℕ) (bound : ℕ) → length text ≤ bound → weight_of_value (values.Str text) ≤ bound
str_at_most text bound few =
    let same : weight_of_value (values.Str text) ≡ length text = search (rules, the_lemmas) in
    rw same few

pub int_at_most : (n bound : ℕ) → weight_of_value (values.Int (pos n)) ≤ bound
int_at_most n bound =
    let same : weight_of_value (values.Int (pos n)) ≡ 0 = search (rules, the_lemmas) in
    rw same (omega arith)

bool_at_most : (b : Bool) (bound : ℕ) → weight_of_value (values.Bool b) ≤ bound
bool_at_most b bound =
    let same : weight_of_value (values.Bool b) ≡ 0 = search (rules, the_lemmas) in
    rw same (omega arith)

double_at_most : (bits bound : ℕ) → weight_of_value (values.Double bits) ≤ bound
double_at_most bits bound =
    let same : weight_of_value (values.Double bits) ≡ 0 = search (rules, the_lemmas) in
    rw same (omega arith)

either_at_most : (b : Bool) (x y : Value) (bound : ℕ) → weight_of_value x ≤ bound → weight_of_value y ≤ bound → weight_of_value (if b then x else y) ≤ bound
either_at_most true x y bound first second = first
either_at_most false x y bound first second = second

remainder_below : (n m : ℕ) → 0 < m → m < 1000 → n % m < 1000
remainder_below n m some few =
    let below : n % m < m = mod-lt n some in
    omega arith

value_at_most : (r n place : ℕ) → r < requests_at_most → place < 12 → weight_of_value (load_value r n place) ≤ 9
value_at_most r n place request below =
    let few : (n + place) % (64 * (place + 1)) < 1000 = remainder_below (n + place) (64 * (place + 1)) (omega arith) (omega arith) in
    either_at_most (place == 8) _ _ 9 (str_at_most _ 9 (numbered_at_most 3 r (codes "batch-") (omega arith) (omega arith) (omega arith)))
    (either_at_most (place % 4 == 0) _ _ 9 (str_at_most _ 9 (let v = numbered_at_most 3 _ (codes "v") (omega arith) few (omega arith) in omega arith))
    (either_at_most (place % 4 == 1) _ _ 9 (int_at_most (n % 1000) 9)
    (either_at_most (place % 4 == 2) _ _ 9 (bool_at_most (n % 2 == 1) 9) (double_at_most (double_bits n) 9))))

pair_at_most : (r n place : ℕ) → r < requests_at_most → place < 12 → weight_of_pair (load_pair r n place) ≤ 12
pair_at_most r n place request below =
    let key = numbered_at_most 2 place (codes "k") (omega arith) (omega arith) (omega arith) in
    let value = value_at_most r n place request below in
    omega arith

place_below : (k d : ℕ) → k < length (range_with_len 0 12) → get_or (range_with_len 0 12) k d < 12
place_below k d below =
    let many : length (range_with_len 0 12) ≡ 12 = length-range_with_len 0 12 in
    let few : k < 12 = omega arith in
    rw (get_or-range_with_len 0 12 k d few) (omega arith)

pub pairs_at_most : (r n : ℕ) → r < requests_at_most → total 32 weight_of_pair (pairs_of r n) ≤ 528
unfolding pairs_of
pairs_at_most r n request =
    let each : All (λ pair. weight_of_pair pair ≤ 12) (map (load_pair r n) (range_with_len 0 12)) =
    All-map (λ pair. weight_of_pair pair ≤ 12) (load_pair r n) (range_with_len 0 12) (λ k d below.
    pair_at_most r n (get_or (range_with_len 0 12) k d) request (place_below k d below)) in
    counted_at_most 12 32 12 weight_of_pair (map (load_pair r n) (range_with_len 0 12)) (length-map-range_with_len (load_pair r n) 0 12) each

pub span_at_most : (r n : ℕ) → r < requests_at_most → weight_of_span (load_span r n) ≤ 700
span_at_most r n request =
    let name = numbered_at_most 3 (n % 300) (codes "op-") (omega arith) (remainder_below n 300 (omega arith) (omega arith)) (let b = remainder_below n 300 (omega arith) (omega arith) in omega arith) in
    let pairs = pairs_at_most r n request in
    omega arith

pub log_record_at_most : (r n : ℕ) → r < requests_at_most → weight_of_log_record (load_log_record r n) ≤ 700
log_record_at_most r n request =
    let few : n % 5000 < 5000 = mod-lt n (omega arith) in
    let body : weight_of_value (values.Str (numbered_text (codes "message ") (n % 5000))) ≤ 12 = str_at_most _ 12 (numbered_at_most 4 (n % 5000) (codes "message ") (omega arith) (omega arith) (omega arith)) in
    let pairs = pairs_at_most r n request in
    omega arith

point_at_most : (r n : ℕ) (value : Number) → r < requests_at_most → weight_of_point (load_point r n value) ≤ 528
point_at_most r n value request =
    let pairs = pairs_at_most r n request in
    omega arith

shape_at_most : (r n : ℕ) → r < requests_at_most → (b : Bool) → n % 2 == 1 ≡ b → weight_of_shape (load_shape r n) ≤ 560
shape_at_most r n request true odd = rw odd (let point = point_at_most r n (numbers.Int (pos n)) request in omega arith)
shape_at_most r n request false even = rw even (let point = point_at_most r n (numbers.Double (double_bits n)) request in omega arith)

pub metric_at_most : (r n : ℕ) → r < requests_at_most → weight_of_metric (load_metric r n) ≤ 700
metric_at_most r n request =
    let few : n % 300 < 300 = mod-lt n (omega arith) in
    let name = numbered_at_most 3 (n % 300) (codes "m-") (omega arith) (omega arith) (omega arith) in
    let shape = shape_at_most r n request (n % 2 == 1) refl in
    omega arith
