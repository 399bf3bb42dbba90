-- The written form of a value: definite lengths, the shortest heads, doubles of 64 bits (RFC 8949, section 4.1).
use Rattle.std.specs.Prelude.{ℕ, ◌+◌, ◌*◌, ◌^◌, nat_lt, if◌then◌else◌, List, [], ◌∷◌, ◌++◌, length, ℤ, pos, negsuc}
use Rattle.byteorder.specs.Endian.{big_bytes}
use Rattle.otlp_model.specs.declared.value.Value.{Value, fold-Value}
use Rattle.otlp_model.specs.declared.value.Value.TheOpen.{Value-F, Pair-F}
use Rattle.cbor_values.specs.Heads.{argument_len}

-- a head whose argument follows the first byte
abbrev pub long_head : ℕ → ℕ → ℕ → List ℕ
long_head major info n = (32 * major + info) ∷ big_bytes (argument_len info) n

-- the shortest head of this major type with the argument n
unfoldable pub head : ℕ → ℕ → List ℕ
head major n =
    if nat_lt n 24 then (32 * major + n) ∷ []
    else if nat_lt n (2 ^ 8) then long_head major 24 n
    else if nat_lt n (2 ^ 16) then long_head major 25 n
    else if nat_lt n (2 ^ 32) then long_head major 26 n
    else long_head major 27 n

-- a head with the length of the string, and the string
abbrev pub string : ℕ → List ℕ → List ℕ
string major s = head major (length s) ++ s

-- what is written for each, joined
abbrev pub all_of : {A : Type 0} → (A → List ℕ) → List A → List ℕ
all_of write [] = []
all_of write (x ∷ xs) = write x ++ all_of write xs

abbrev pub int : ℤ → List ℕ
int (pos n) = head 0 n
int (negsuc n) = head 1 n

-- what is written for a value whose members have these forms
abbrev pub written_step : Value-F (List ℕ) (List ℕ) → List ℕ
written_step Value-F.Empty = 246 ∷ []
written_step (Value-F.Str text) = string 3 text
written_step (Value-F.Bool flag) = (if flag then 245 else 244) ∷ []
written_step (Value-F.Int z) = int z
written_step (Value-F.Double bits) = 251 ∷ big_bytes 8 bits
written_step (Value-F.Array members) = head 4 (length members) ++ all_of (λ form. form) members
written_step (Value-F.Map pairs) = head 5 (length pairs) ++ all_of (λ form. form) pairs
written_step (Value-F.Bytes bytes) = string 2 bytes

abbrev pub written_pair_step : Pair-F (List ℕ) (List ℕ) → List ℕ
written_pair_step pair = string 3 pair.key ++ pair.value

-- the written form of a value
abbrev pub cbor_of : Value → List ℕ
cbor_of = fold-Value (List ℕ) (List ℕ) written_step written_pair_step
