-- When a refusal applies to bytes.
use Rattle.std.specs.Prelude.{◌≡◌, ◌≢◌, ℕ, suc, ◌+◌, ◌*◌, ◌/◌, ◌%◌, ◌^◌, ◌<◌, ◌≤◌, ◌==◌, ◌||◌, ◌⊎◌, Bool, true, false, nat_lt, if◌then◌else◌, List, [], ◌∷◌, ◌++◌, length}
use Rattle.std.specs.Str.{IsUtf8}
use Rattle.otlp_model.specs.Limits.{depth_limit}
use Rattle.cbor_values.specs.declared.refusal.CborRefusal.{CborRefusal}
use Rattle.cbor_values.specs.declared.refusal.CborRefusal.TheVariants.{Cut, BadHead, BadKey, BadUtf8, OutOfRange, TooDeep, Trailing, Memory}
use Rattle.cbor_values.specs.Heads.{IsHead, argument_len}
use Rattle.cbor_values.specs.Strings.{IsAny, Chunks}
use Rattle.cbor_values.specs.Items.{IsItem, AreItems, ArePairs}

-- What is due at an offset, and whether a break may be there: an item, alone or in an array; the key of a pair; the value of
-- a pair.
pub data Due : Type 0 where
  item : Bool → Due
  key : Bool → Due
  value : Due

-- a break may be there: it ends an array or a map of indefinite length
abbrev pub may_break : Due → Bool
may_break (item may) = may
may_break (key may) = may
may_break value = false

-- whether an item that is read begins so: major type, additional information
abbrev pub begins : ℕ → ℕ → Bool
begins major info =
    if nat_lt major 2 then nat_lt info 28
    else if nat_lt major 6 then nat_lt info 28 || info == 31
    else if major == 7 then info == 20 || info == 21 || info == 22 || info == 25 || info == 26 || info == 27
    else false

-- the head at the front runs past the bytes
abbrev pub IsCutHead : List ℕ → Type 0
IsCutHead [] = Unit {0}
IsCutHead (first ∷ rest) = (24 ≤ first % 32) × (first % 32 < 28) × (length rest < argument_len (first % 32))

-- the string at the front, of that major type and definite length, runs past the bytes
pub record IsCutString (major : ℕ) (bytes : List ℕ) : Type 0 where
  pub n : ℕ
  pub head : List ℕ
  pub rest : List ℕ
  pub is : bytes ≡ head ++ rest
  pub is_head : IsHead major n head
  pub short : length rest < n

-- the front is no head of an item, and no break that may be there
abbrev pub IsBadHead : Bool → List ℕ → Type 0
IsBadHead may [] = ⊥
IsBadHead may (first ∷ rest) = (begins (first / 32) (first % 32) ≡ false) × (first ≡ 255 → may ≡ false)

-- a key that is no text, and no break that may be there, or a break instead of a value
abbrev pub IsBadKey : Due → List ℕ → Type 0
IsBadKey place [] = ⊥
IsBadKey (item may) (first ∷ rest) = ⊥
IsBadKey (key may) (first ∷ rest) = (first / 32 ≢ 3) × (first ≡ 255 → may ≡ false)
IsBadKey value (first ∷ rest) = first ≡ 255

-- the string at the front, a text of definite length, isn't UTF-8
pub record IsBadText (bytes : List ℕ) : Type 0 where
  pub head : List ℕ
  pub text : List ℕ
  pub rest : List ℕ
  pub is : bytes ≡ head ++ (text ++ rest)
  pub is_head : IsHead 3 (length text) head
  pub bad : IsUtf8 text → ⊥

-- an integer below -2^63 or above 2^63 - 1
pub record IsOutOfRange (bytes : List ℕ) : Type 0 where
  pub major : ℕ
  pub n : ℕ
  pub head : List ℕ
  pub rest : List ℕ
  pub integer : major < 2
  pub is : bytes ≡ head ++ rest
  pub is_head : IsHead major n head
  pub large : 2 ^ 63 ≤ n

-- an item begins inside as many arrays and maps as a value may be deep
abbrev pub IsTooDeep : ℕ → List ℕ → Type 0
IsTooDeep inside [] = ⊥
IsTooDeep inside (first ∷ rest) = (first ≢ 255) × (depth_limit ≤ inside)

-- what is wrong at the front of the bytes, where that is due, inside that number of arrays and maps
abbrev pub Faults : CborRefusal → Due → ℕ → List ℕ → Type 0
Faults Cut place inside bytes = IsCutHead bytes ⊎ IsCutString 2 bytes ⊎ IsCutString 3 bytes
Faults BadHead place inside bytes = IsBadHead (may_break place) bytes
Faults BadKey place inside bytes = IsBadKey place bytes
Faults BadUtf8 place inside bytes = IsBadText bytes
Faults OutOfRange place inside bytes = IsOutOfRange bytes
Faults TooDeep place inside bytes = IsTooDeep inside bytes
Faults Trailing place inside bytes = ⊥
Faults (Memory error) place inside bytes = ⊥

-- the front is no chunk of the major type, and no break
abbrev pub IsOtherChunk : ℕ → List ℕ → Type 0
IsOtherChunk major [] = ⊥
IsOtherChunk major (first ∷ rest) = (first ≢ 255) × ((first / 32 ≢ major) ⊎ (28 ≤ first % 32))

-- what is wrong at the front of the bytes, where a chunk of a string of that major type is due
abbrev pub ChunkFaults : CborRefusal → ℕ → List ℕ → Type 0
ChunkFaults Cut major bytes = IsCutHead bytes ⊎ IsCutString major bytes
ChunkFaults BadHead major bytes = IsOtherChunk major bytes
ChunkFaults BadUtf8 major bytes = (major ≡ 3) × IsBadText bytes
ChunkFaults _ major bytes = ⊥

-- The head of an array or a map that goes on after k members or pairs, and whether a break may follow them.
pub data HasNextMember (major k : ℕ) : Bool → List ℕ → Type 0 where
  definite : (n : ℕ) (head : List ℕ) → IsHead major n head → k < n → HasNextMember major k false head
  indefinite : HasNextMember major k true ((32 * major + 31) ∷ [])

-- The refusal applies to the front of the bytes, where that is due, inside that number of arrays and maps: to the front itself,
-- or within the string, array or map that begins there, after chunks, items and pairs.
pub data Within (refusal : CborRefusal) : Due → ℕ → List ℕ → Type 0 where
  at_front : (place : Due) (inside : ℕ) (bytes : List ℕ) → Faults refusal place inside bytes
      → Within refusal place inside bytes
  in_bytes : (place : Due) (inside : ℕ) (chunks joined rest : List ℕ) → Chunks 2 IsAny chunks joined
      → ChunkFaults refusal 2 rest → Within refusal place inside (95 ∷ (chunks ++ rest))
  in_text : (place : Due) (inside : ℕ) (chunks joined rest : List ℕ) → Chunks 3 IsAny chunks joined
      → ChunkFaults refusal 3 rest → Within refusal place inside (127 ∷ (chunks ++ rest))
  in_array : (place : Due) (inside k : ℕ) (may : Bool) (head members rest : List ℕ) → HasNextMember 4 k may head
      → AreItems k members → Within refusal (item may) (suc inside) rest
      → Within refusal place inside (head ++ (members ++ rest))
  in_key : (place : Due) (inside k : ℕ) (may : Bool) (head pairs rest : List ℕ) → HasNextMember 5 k may head
      → ArePairs k pairs → Within refusal (key may) (suc inside) rest
      → Within refusal place inside (head ++ (pairs ++ rest))
  in_value : (place : Due) (inside k : ℕ) (may : Bool) (head pairs key_bytes rest : List ℕ) → HasNextMember 5 k may head
      → ArePairs k pairs → IsItem key_bytes → Within refusal value (suc inside) rest
      → Within refusal place inside (head ++ (pairs ++ (key_bytes ++ rest)))

-- bytes after an item
pub record IsTrailing (bytes : List ℕ) : Type 0 where
  pub item_bytes : List ℕ
  pub first : ℕ
  pub rest : List ℕ
  pub is_item : IsItem item_bytes
  pub is : bytes ≡ item_bytes ++ first ∷ rest

-- the refusal applies to the bytes, which are to be one item
abbrev pub Stands : CborRefusal → List ℕ → Type 0
Stands Trailing bytes = IsTrailing bytes
Stands (Memory error) bytes = ⊥
Stands refusal bytes = Within refusal (item false) 0 bytes

-- what a reader may return: a refusal that applies, or that memory ran out
abbrev pub Refuses : List ℕ → CborRefusal → Type 0
Refuses bytes (Memory error) = Unit {0}
Refuses bytes refusal = Stands refusal bytes
