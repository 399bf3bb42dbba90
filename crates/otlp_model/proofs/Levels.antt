-- The folds over a value, constructor by constructor.
use Rattle.std.proofs.Common.{◌≡◌, ℕ, ◌+◌, ◌^◌, ◌&&◌, Bool, List, [], ◌∷◌, map, length, refl, ap, rules}
use Rattle.std.specs.Prelude.{nat_lt, ℤ}
use Rattle.std.specs.List.{list_all}
use Rattle.std.proofs.lemmas.List.{length-map}
use Rattle.std.proofs.lemmas.List.Folds.{list_all-map}
use Rattle.otlp_model.specs.declared.value.Value.{Value, the_lemmas}
use Rattle.otlp_model.specs.declared.value.Value as values
use Rattle.otlp_model.specs.declared.value.Pair.{Pair}
use Rattle.lists.specs.Bytes.{is_real_text, is_real_octets}
use Rattle.otlp_model.specs.Depth.{depth_of, greatest}
use Rattle.otlp_model.specs.PairDepth.{depth_of_pair}
use Rattle.otlp_model.specs.Weight.{weight_of_value, weight_of_pair, total}
use Rattle.otlp_model.specs.Real.{is_real_value, is_real_pair, fits_i64}

pub depth_of_empty : depth_of values.Empty ≡ 1
depth_of_empty = search (rules, the_lemmas)

pub depth_of_str : (text : List ℕ) → depth_of (values.Str text) ≡ 1
depth_of_str text = search (rules, the_lemmas)

pub depth_of_bool : (b : Bool) → depth_of (values.Bool b) ≡ 1
depth_of_bool b = search (rules, the_lemmas)

pub depth_of_int : (z : ℤ) → depth_of (values.Int z) ≡ 1
depth_of_int z = search (rules, the_lemmas)

pub depth_of_double : (bits : ℕ) → depth_of (values.Double bits) ≡ 1
depth_of_double bits = search (rules, the_lemmas)

pub depth_of_bytes : (octets : List ℕ) → depth_of (values.Bytes octets) ≡ 1
depth_of_bytes octets = search (rules, the_lemmas)

pub depth_of_array : (members : List Value) → depth_of (values.Array members) ≡ greatest (map depth_of members) + 1
depth_of_array members = search (rules, the_lemmas)

pub depth_of_map : (pairs : List Pair) → depth_of (values.Map pairs) ≡ greatest (map depth_of_pair pairs) + 1
depth_of_map pairs = search (rules, the_lemmas)

pub weight_of_empty : weight_of_value values.Empty ≡ 0
weight_of_empty = search (rules, the_lemmas)

pub weight_of_str : (text : List ℕ) → weight_of_value (values.Str text) ≡ length text
weight_of_str text = search (rules, the_lemmas)

pub weight_of_bool : (b : Bool) → weight_of_value (values.Bool b) ≡ 0
weight_of_bool b = search (rules, the_lemmas)

pub weight_of_int : (z : ℤ) → weight_of_value (values.Int z) ≡ 0
weight_of_int z = search (rules, the_lemmas)

pub weight_of_double : (bits : ℕ) → weight_of_value (values.Double bits) ≡ 0
weight_of_double bits = search (rules, the_lemmas)

pub weight_of_bytes : (octets : List ℕ) → weight_of_value (values.Bytes octets) ≡ length octets
weight_of_bytes octets = search (rules, the_lemmas)

-- a total of weights that are computed first
total-map : {A : Type 0} (each : ℕ) (weigh : A → ℕ) (parts : List A) → total each (λ weight. weight) (map weigh parts) ≡ total each weigh parts
total-map each weigh [] = refl
total-map each weigh (part ∷ parts) = ap (λ n. each + weigh part + n) (total-map each weigh parts)

pub weight_of_array : (members : List Value) → weight_of_value (values.Array members) ≡ total 32 weight_of_value members
weight_of_array members = search (rules, the_lemmas, total-map)

pub weight_of_map : (pairs : List Pair) → weight_of_value (values.Map pairs) ≡ total 32 weight_of_pair pairs
weight_of_map pairs = search (rules, the_lemmas, total-map)

pub is_real_str : (text : List ℕ) → is_real_value (values.Str text) ≡ is_real_text text
is_real_str text = search (rules, the_lemmas)

pub is_real_int : (z : ℤ) → is_real_value (values.Int z) ≡ fits_i64 z
is_real_int z = search (rules, the_lemmas)

pub is_real_double : (bits : ℕ) → is_real_value (values.Double bits) ≡ nat_lt bits (2 ^ 64)
is_real_double bits = search (rules, the_lemmas)

pub is_real_bytes : (octets : List ℕ) → is_real_value (values.Bytes octets) ≡ is_real_octets octets
is_real_bytes octets = search (rules, the_lemmas)

pub is_real_array : (members : List Value)
    → is_real_value (values.Array members) ≡ (list_all is_real_value members && nat_lt (length members) (2 ^ 64))
is_real_array members = search (rules, the_lemmas, length-map, list_all-map)

pub is_real_map : (pairs : List Pair)
    → is_real_value (values.Map pairs) ≡ (list_all is_real_pair pairs && nat_lt (length pairs) (2 ^ 64))
is_real_map pairs = search (rules, the_lemmas, length-map, list_all-map)
