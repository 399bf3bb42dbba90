-- What the custom metadata of a field says of its encoding (Arrow's Schema.fbs: `KeyValue`).
use Rattle.std.specs.Prelude.{ℕ, Bool, false, List, [], ◌∷◌, Option, None, Some, codes, bytes_eq, if◌then◌else◌}
use Rattle.arrow_schema.specs.declared.spec.Encoding.{Encoding}
use Rattle.arrow_schema.specs.declared.spec.Encoding.TheVariants as encoding

-- a pair: its key and its value, each of which may be absent
pub record KeyValue : Type 0 where
  pub key : Option (List ℕ)
  pub value : Option (List ℕ)

-- the key that names an encoding
abbrev pub is_encoding_key : Option (List ℕ) → Bool
is_encoding_key None = false
is_encoding_key (Some key) = bytes_eq key (codes "encoding")

-- the encoding that a value names
abbrev pub encoding_named : List ℕ → Encoding
encoding_named value =
    if bytes_eq value (codes "plain") then encoding.Plain
    else if bytes_eq value (codes "delta") then encoding.Delta
    else if bytes_eq value (codes "run") then encoding.Run
    else encoding.Other

abbrev pub encoding_by : Option (List ℕ) → Encoding
encoding_by None = encoding.Other
encoding_by (Some value) = encoding_named value

-- the encoding that pairs name: by the first one that has the key
unfoldable pub encoding_of_pairs : List KeyValue → Encoding
encoding_of_pairs [] = encoding.None
encoding_of_pairs (pair ∷ pairs) = if is_encoding_key pair.key then encoding_by pair.value else encoding_of_pairs pairs
