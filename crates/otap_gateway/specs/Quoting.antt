-- Texts as they are between double quotes.
use Rattle.std.specs.Prelude.{ℕ, ◌==◌, ◌||◌, nat_lt, Bool, if◌then◌else◌, List, [], ◌∷◌, ◌++◌, codes}
use Rattle.std.specs.List.{flat_map}
use Rattle.hex.specs.Hex.{encode_lower}

-- the control characters, the double quote and the backslash
abbrev pub is_special : ℕ → Bool
is_special byte = nat_lt byte 0x20 || byte == 0x22 || byte == 0x5c || byte == 0x7f

-- a byte by its two hexadecimal digits
abbrev pub escaped : ℕ → List ℕ
escaped byte = codes "\\x" ++ encode_lower (byte ∷ [])

abbrev pub quoted_byte : ℕ → List ℕ
quoted_byte byte = if is_special byte then escaped byte else byte ∷ []

abbrev pub quoted : List ℕ → List ℕ
quoted text = flat_map quoted_byte text
