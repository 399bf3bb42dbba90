-- Items whatever they mean: texts that aren't UTF-8, integers out of range, keys that are no texts and any depth are
-- among them (RFC 8949, section 1.2, "well-formed").
use Rattle.std.specs.Prelude.{ℕ, zero, suc, List, [], ◌∷◌, ◌++◌, length, ◌≡◌}
use Rattle.cbor_values.specs.Heads.{IsHead}
use Rattle.cbor_values.specs.Strings.{IsAny, IsString}

mutual
  -- the bytes are one item
  pub data IsItem : List ℕ → Type 0 where
    item_null : IsItem (246 ∷ [])
    item_false : IsItem (244 ∷ [])
    item_true : IsItem (245 ∷ [])
    item_whole : (n : ℕ) (head : List ℕ) → IsHead 0 n head → IsItem head
    item_negative : (n : ℕ) (head : List ℕ) → IsHead 1 n head → IsItem head
    item_half : (bits : List ℕ) → length bits ≡ 2 → IsItem (249 ∷ bits)
    item_single : (bits : List ℕ) → length bits ≡ 4 → IsItem (250 ∷ bits)
    item_double : (bits : List ℕ) → length bits ≡ 8 → IsItem (251 ∷ bits)
    item_bytes : (bytes s : List ℕ) → IsString 2 IsAny bytes s → IsItem bytes
    item_text : (bytes s : List ℕ) → IsString 3 IsAny bytes s → IsItem bytes
    item_array : (n : ℕ) (head bytes : List ℕ) → IsHead 4 n head → AreItems n bytes → IsItem (head ++ bytes)
    item_open_array : (n : ℕ) (bytes : List ℕ) → AreItems n bytes → IsItem (159 ∷ (bytes ++ 255 ∷ []))
    item_map : (n : ℕ) (head bytes : List ℕ) → IsHead 5 n head → ArePairs n bytes → IsItem (head ++ bytes)
    item_open_map : (n : ℕ) (bytes : List ℕ) → ArePairs n bytes → IsItem (191 ∷ (bytes ++ 255 ∷ []))

  -- the bytes are n items
  pub data AreItems : ℕ → List ℕ → Type 0 where
    no_item : AreItems zero []
    one_item : (n : ℕ) (bytes others : List ℕ) → IsItem bytes → AreItems n others
        → AreItems (suc n) (bytes ++ others)

  -- the bytes are n pairs of items
  pub data ArePairs : ℕ → List ℕ → Type 0 where
    no_pair : ArePairs zero []
    one_pair : (n : ℕ) (key bytes others : List ℕ) → IsItem key → IsItem bytes → ArePairs n others
        → ArePairs (suc n) (key ++ (bytes ++ others))
