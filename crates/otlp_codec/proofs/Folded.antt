-- What one pass over the fields of a value, of an array, of a key-value list or of a pair gives is what it says.
use Rattle.std.proofs.Common.{◌≡◌, ℕ, zero, suc, List, [], ◌∷◌, refl}
use Rattle.std.specs.Prelude.{fold}
use Rattle.otlp_wire.specs.Wire.{Entry}
use Rattle.otlp_wire.specs.Fields.{fields_of}
use Rattle.otlp_codec.specs.Values.{any_of, any_value_at, key_value_at}
use Rattle.otlp_codec.specs.Steps.{array_at, map_at, pair_step, array_step, map_step, no_pair}
use Rattle.otlp_messages.proofs.Parts.{part_of}
use Rattle.otlp_messages.specs.Rows.{bytes_in, embedded_in, many_in}

pub value_is : (levels : ℕ) (bytes : List ℕ) → any_of (array_at levels) (map_at levels) bytes ≡ any_value_at levels bytes
unfolding any_value_at array_at map_at key_value_at
value_is zero bytes = refl
value_is (suc levels) bytes = refl

pub array_is : (levels : ℕ) (bytes : List ℕ) → fold (array_step levels) [] (fields_of bytes) ≡ array_at levels bytes
unfolding array_at
array_is zero bytes = stays (fields_of bytes)
  where
    stays : (fs : List Entry) → fold (array_step zero) [] fs ≡ []
    stays [] = refl
    stays (f ∷ fs) = stays fs
array_is (suc levels) bytes = part_of (array_step (suc levels)) (λ values. values) 1 (many_in (any_value_at levels)) (λ r f. refl) [] (fields_of bytes)

pub map_is : (levels : ℕ) (bytes : List ℕ) → fold (map_step levels) [] (fields_of bytes) ≡ map_at levels bytes
unfolding map_at
map_is zero bytes = stays (fields_of bytes)
  where
    stays : (fs : List Entry) → fold (map_step zero) [] fs ≡ []
    stays [] = refl
    stays (f ∷ fs) = stays fs
map_is (suc levels) bytes = part_of (map_step (suc levels)) (λ values. values) 1 (many_in (key_value_at levels)) (λ r f. refl) [] (fields_of bytes)

pub pair_is : (levels : ℕ) (bytes : List ℕ) → fold (pair_step levels) no_pair (fields_of bytes) ≡ key_value_at levels bytes
unfolding key_value_at
pair_is levels bytes =
    let key = part_of (pair_step levels) (λ p. p.key) 1 bytes_in (λ r f. refl) no_pair (fields_of bytes) in
    let value = part_of (pair_step levels) (λ p. p.value) 2 (embedded_in (any_value_at levels)) (λ r f. refl) no_pair (fields_of bytes) in
    λ i. record { key = key i; value = value i }
