-- Reading from left to right, with the first refusal that is met.
use Rattle.std.specs.Prelude.{ℕ, zero, suc, ◌/◌, ◌%◌, ◌^◌, ◌==◌, true, false, nat_lt, if◌then◌else◌, List, [], ◌∷◌, ◌++◌, length, take, drop, Option, Some, None, Result, Ok, Err, pos, negsuc}
use Rattle.std.specs.Str.{is_utf8}
use Rattle.lists.specs.Results.{◌>>=◌}
use Rattle.byteorder.specs.Endian.{big_number}
use Rattle.otlp_model.specs.Limits.{depth_limit}
use Rattle.otlp_model.specs.declared.value.Value.{Value}
use Rattle.otlp_model.specs.declared.value.Value as values
use Rattle.otlp_model.specs.declared.value.Pair.{Pair}
use Rattle.cbor_values.specs.declared.refusal.CborRefusal.{CborRefusal}
use Rattle.cbor_values.specs.declared.refusal.CborRefusal.TheVariants.{Cut, BadHead, BadKey, BadUtf8, OutOfRange, TooDeep, Trailing}
use Rattle.cbor_values.specs.declared.heads.Head.{Head}
use Rattle.cbor_values.specs.declared.heads.Head.TheVariants as heads
use Rattle.cbor_values.specs.Floats.{of_half, of_single}
use Rattle.cbor_values.specs.Heads.{argument_len}

-- a value and the bytes after it, or the first refusal
abbrev pub ValueReading : Type 0 → Type 0
ValueReading A = Result (A × List ℕ) CborRefusal

abbrev pub front_part : ℕ → List ℕ → ValueReading (List ℕ)
front_part n bytes = if nat_lt (length bytes) n then Err Cut else Ok (take n bytes, drop n bytes)

-- the argument of a head, None for an indefinite length
unfoldable pub argument_at : ℕ → List ℕ → ValueReading (Option ℕ)
argument_at info bytes =
    if nat_lt info 24 then Ok (Some info, bytes)
    else if nat_lt info 28 then
    (front_part (argument_len info) bytes >>= λ part. Ok (Some (big_number (argument_len info) part.0), part.1))
    else if info == 31 then Ok (None, bytes)
    else Err BadHead

abbrev pub head_of_argument : (ℕ → Head) → Option ℕ → Result Head CborRefusal
head_of_argument make (Some n) = Ok (make n)
head_of_argument make None = Err BadHead

unfoldable pub head_by : ℕ → Option ℕ → Result Head CborRefusal
head_by major argument =
    if major == 0 then head_of_argument heads.Whole argument
    else if major == 1 then head_of_argument heads.Negative argument
    else if major == 2 then Ok (heads.Bytes argument)
    else if major == 3 then Ok (heads.Text argument)
    else if major == 4 then Ok (heads.Array argument)
    else if major == 5 then Ok (heads.Map argument)
    else Err BadHead

abbrev pub float_at : (ℕ → ℕ) → ℕ → List ℕ → ValueReading Head
float_at widen width bytes = front_part width bytes >>= λ part. Ok (heads.Double (widen (big_number width part.0)), part.1)

unfoldable pub head_at : List ℕ → ValueReading Head
head_at [] = Err Cut
head_at (first ∷ rest) =
    if first == 244 then Ok (heads.Bool false, rest)
    else if first == 245 then Ok (heads.Bool true, rest)
    else if first == 246 then Ok (heads.Null, rest)
    else if first == 249 then float_at of_half 2 rest
    else if first == 250 then float_at of_single 4 rest
    else if first == 251 then float_at (λ bits. bits) 8 rest
    else (argument_at (first % 32) rest >>= λ argument.
    head_by (first / 32) argument.0 >>= λ head. Ok (head, argument.1))

-- the bytes after a break
abbrev pub break_at : List ℕ → Option (List ℕ)
break_at [] = None
break_at (first ∷ rest) = if first == 255 then Some rest else None

abbrev pub unless_broken : {X : Type 0} → Option (List ℕ) → ValueReading (List X) → ValueReading (List X)
unless_broken (Some rest) reading = Ok ([], rest)
unless_broken None reading = reading

-- exactly n of them
unfoldable pub many_at : {X : Type 0} → (List ℕ → ValueReading X) → ℕ → List ℕ → ValueReading (List X)
many_at one zero bytes = Ok ([], bytes)
many_at one (suc n) bytes = one bytes >>= λ first. many_at one n first.1 >>= λ others. Ok (first.0 ∷ others.0, others.1)

-- up to a break; the number is above the number of those that can come, each having a byte
unfoldable pub until_at : {X : Type 0} → (List ℕ → ValueReading X) → ℕ → List ℕ → ValueReading (List X)
until_at one zero bytes = unless_broken (break_at bytes) (Err Cut)
until_at one (suc n) bytes = unless_broken (break_at bytes)
    (one bytes >>= λ first. until_at one n first.1 >>= λ others. Ok (first.0 ∷ others.0, others.1))

unfoldable pub open_at : {X : Type 0} → (List ℕ → ValueReading X) → List ℕ → ValueReading (List X)
open_at one bytes = until_at one (length bytes) bytes

abbrev pub joined : List (List ℕ) → List ℕ
joined [] = []
joined (part ∷ parts) = part ++ joined parts

-- chunks up to a break, joined
abbrev pub chunks_at : (List ℕ → ValueReading (List ℕ)) → List ℕ → ValueReading (List ℕ)
chunks_at one bytes = open_at one bytes >>= λ parts. Ok (joined parts.0, parts.1)

-- a text of that length
unfoldable pub letters_at : ℕ → List ℕ → ValueReading (List ℕ)
letters_at n bytes = front_part n bytes >>= λ part. if is_utf8 part.0 then Ok part else Err BadUtf8

abbrev pub octets_of_head : Head → List ℕ → ValueReading (List ℕ)
octets_of_head (heads.Bytes (Some n)) bytes = front_part n bytes
octets_of_head _ bytes = Err BadHead

abbrev pub letters_of_head : Head → List ℕ → ValueReading (List ℕ)
letters_of_head (heads.Text (Some n)) bytes = letters_at n bytes
letters_of_head _ bytes = Err BadHead

unfoldable pub octets_chunk_at : List ℕ → ValueReading (List ℕ)
octets_chunk_at bytes = head_at bytes >>= λ head. octets_of_head head.0 head.1

unfoldable pub text_chunk_at : List ℕ → ValueReading (List ℕ)
text_chunk_at bytes = head_at bytes >>= λ head. letters_of_head head.0 head.1

unfoldable pub octets_at : Option ℕ → List ℕ → ValueReading (List ℕ)
octets_at (Some n) bytes = front_part n bytes
octets_at None bytes = chunks_at octets_chunk_at bytes

unfoldable pub text_at : Option ℕ → List ℕ → ValueReading (List ℕ)
text_at (Some n) bytes = letters_at n bytes
text_at None bytes = chunks_at text_chunk_at bytes

abbrev pub key_of_head : Head → List ℕ → ValueReading (List ℕ)
key_of_head (heads.Text length) bytes = text_at length bytes
key_of_head _ bytes = Err BadKey

unfoldable pub key_at : List ℕ → ValueReading (List ℕ)
key_at bytes = head_at bytes >>= λ head. key_of_head head.0 head.1

unfoldable pub pair_at : (List ℕ → ValueReading Value) → List ℕ → ValueReading Pair
pair_at one bytes = key_at bytes >>= λ key. one key.1 >>= λ value. Ok (record { key = key.0; value = value.0 }, value.1)

abbrev pub whole_of : ℕ → Result ℕ CborRefusal
whole_of n = if nat_lt n (2 ^ 63) then Ok n else Err OutOfRange

-- the value of an item after its head, one reading an item within it
unfoldable pub body_at : (List ℕ → ValueReading Value) → Head → List ℕ → ValueReading Value
body_at one heads.Null bytes = Ok (values.Empty, bytes)
body_at one (heads.Bool flag) bytes = Ok (values.Bool flag, bytes)
body_at one (heads.Whole n) bytes = whole_of n >>= λ n. Ok (values.Int (pos n), bytes)
body_at one (heads.Negative n) bytes = whole_of n >>= λ n. Ok (values.Int (negsuc n), bytes)
body_at one (heads.Double bits) bytes = Ok (values.Double bits, bytes)
body_at one (heads.Bytes length) bytes = octets_at length bytes >>= λ s. Ok (values.Bytes s.0, s.1)
body_at one (heads.Text length) bytes = text_at length bytes >>= λ s. Ok (values.Str s.0, s.1)
body_at one (heads.Array (Some n)) bytes = many_at one n bytes >>= λ members. Ok (values.Array members.0, members.1)
body_at one (heads.Array None) bytes = open_at one bytes >>= λ members. Ok (values.Array members.0, members.1)
body_at one (heads.Map (Some n)) bytes = many_at (pair_at one) n bytes >>= λ pairs. Ok (values.Map pairs.0, pairs.1)
body_at one (heads.Map None) bytes = open_at (pair_at one) bytes >>= λ pairs. Ok (values.Map pairs.0, pairs.1)

-- the value of an item, which has at most that depth
unfoldable pub item_at : ℕ → List ℕ → ValueReading Value
item_at zero bytes = head_at bytes >>= λ head. Err TooDeep
item_at (suc depth) bytes = head_at bytes >>= λ head. body_at (item_at depth) head.0 head.1

abbrev pub whole_item : Value × List ℕ → Result Value CborRefusal
whole_item (value, []) = Ok value
whole_item (value, first ∷ rest) = Err Trailing

-- all of the bytes
unfoldable pub all_at : List ℕ → Result Value CborRefusal
all_at bytes = item_at depth_limit bytes >>= whole_item
