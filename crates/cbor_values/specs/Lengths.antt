-- What is written for the parts of a value, and how long it is: words of private contracts.
use Rattle.std.specs.Prelude.{ℕ, ◌+◌, ◌^◌, nat_lt, if◌then◌else◌, List, [], ◌∷◌, ◌++◌, length, ℤ, pos, negsuc}
use Rattle.otlp_model.specs.declared.value.Pair.{Pair}
use Rattle.cbor_values.specs.Written.{string, cbor_of}

-- the written form of a pair
abbrev pub cbor_of_pair : Pair → List ℕ
cbor_of_pair pair = string 3 pair.key ++ cbor_of pair.value

-- how long the shortest head is
unfoldable pub head_len : ℕ → ℕ
head_len n =
    if nat_lt n 24 then 1
    else if nat_lt n (2 ^ 8) then 2
    else if nat_lt n (2 ^ 16) then 3
    else if nat_lt n (2 ^ 32) then 5
    else 9

-- how long all is that is written for each
abbrev pub lengths : {A : Type 0} → (A → List ℕ) → List A → ℕ
lengths write [] = 0
lengths write (x ∷ xs) = length (write x) + lengths write xs

-- the number in an integer's head
abbrev pub int_argument : ℤ → ℕ
int_argument (pos n) = n
int_argument (negsuc n) = n
