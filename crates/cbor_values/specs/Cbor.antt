-- The value that bytes encode (RFC 8949).
use Rattle.std.specs.Prelude.{ℕ, ◌^◌, ◌<◌, true, false, List, [], ◌∷◌, ◌++◌, length, pos, negsuc}
use Rattle.std.specs.Str.{IsUtf8}
use Rattle.byteorder.specs.Endian.{big_bytes}
use Rattle.otlp_model.specs.declared.value.Value.{Value}
use Rattle.otlp_model.specs.declared.value.Value as values
use Rattle.otlp_model.specs.declared.value.Pair.{Pair}
use Rattle.cbor_values.specs.Floats.{of_half, of_single}
use Rattle.cbor_values.specs.Heads.{IsHead}
use Rattle.cbor_values.specs.Strings.{IsAny, IsString}

mutual
  -- the bytes are one item with this value
  pub data Cbor : List ℕ → Value → Type 0 where
    is_null : Cbor (246 ∷ []) values.Empty
    is_false : Cbor (244 ∷ []) (values.Bool false)
    is_true : Cbor (245 ∷ []) (values.Bool true)
    is_whole : (n : ℕ) (head : List ℕ) → IsHead 0 n head → n < 2 ^ 63 → Cbor head (values.Int (pos n))
    is_negative : (n : ℕ) (head : List ℕ) → IsHead 1 n head → n < 2 ^ 63 → Cbor head (values.Int (negsuc n))
    is_half : (bits : ℕ) → bits < 2 ^ 16 → Cbor (249 ∷ big_bytes 2 bits) (values.Double (of_half bits))
    is_single : (bits : ℕ) → bits < 2 ^ 32 → Cbor (250 ∷ big_bytes 4 bits) (values.Double (of_single bits))
    is_double : (bits : ℕ) → bits < 2 ^ 64 → Cbor (251 ∷ big_bytes 8 bits) (values.Double bits)
    is_bytes : (bytes s : List ℕ) → IsString 2 IsAny bytes s → Cbor bytes (values.Bytes s)
    is_text : (bytes s : List ℕ) → IsString 3 IsUtf8 bytes s → Cbor bytes (values.Str s)
    is_array : (head bytes : List ℕ) (members : List Value) → IsHead 4 (length members) head
        → Members bytes members → Cbor (head ++ bytes) (values.Array members)
    is_open_array : (bytes : List ℕ) (members : List Value) → Members bytes members
        → Cbor (159 ∷ (bytes ++ 255 ∷ [])) (values.Array members)
    is_map : (head bytes : List ℕ) (pairs : List Pair) → IsHead 5 (length pairs) head
        → Pairs bytes pairs → Cbor (head ++ bytes) (values.Map pairs)
    is_open_map : (bytes : List ℕ) (pairs : List Pair) → Pairs bytes pairs
        → Cbor (191 ∷ (bytes ++ 255 ∷ [])) (values.Map pairs)

  -- the bytes are items with these values, one after the other
  pub data Members : List ℕ → List Value → Type 0 where
    no_member : Members [] []
    one_member : (bytes others : List ℕ) (member : Value) (members : List Value) → Cbor bytes member
        → Members others members → Members (bytes ++ others) (member ∷ members)

  -- the bytes are pairs of a text and an item with its value, one after the other
  pub data Pairs : List ℕ → List Pair → Type 0 where
    no_pair : Pairs [] []
    one_pair : (key_bytes bytes others : List ℕ) (key : List ℕ) (value : Value) (pairs : List Pair)
        → IsString 3 IsUtf8 key_bytes key → Cbor bytes value → Pairs others pairs
        → Pairs (key_bytes ++ (bytes ++ others)) (record { key = key; value = value } ∷ pairs)
