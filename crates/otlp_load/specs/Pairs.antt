-- The texts and the pairs of an item of the load.
use Rattle.std.specs.Prelude.{ℕ, ◌+◌, ◌*◌, ◌%◌, ◌==◌, List, ◌++◌, map, codes, pos, to_bits, if◌then◌else◌}
use Rattle.std.specs.List.{range_with_len}
use Rattle.std.specs.Fmt.{decimal}
use lib.Ieee.{binary64, of_int}
use Rattle.otlp_load.specs.Limits.{pairs_each}
use Rattle.otlp_model.specs.declared.value.Value.{Value}
use Rattle.otlp_model.specs.declared.value.Value.TheVariants as values
use Rattle.otlp_model.specs.declared.value.Pair.{Pair}

-- the bits of the double that is this number (IEEE 754 binary64)
abbrev pub double_bits : ℕ → ℕ
double_bits number = to_bits binary64 (of_int binary64 (pos number))

-- a text with a number after it, in decimal
abbrev pub numbered_text : List ℕ → ℕ → List ℕ
numbered_text text number = text ++ decimal number

-- the value at an index among the pairs of item `number`, which is in request r
abbrev pub load_value : ℕ → ℕ → ℕ → Value
load_value r number place =
    if place == 8 then values.Str (numbered_text (codes "batch-") r)
    else if place % 4 == 0 then values.Str (numbered_text (codes "v") ((number + place) % (64 * (place + 1))))
    else if place % 4 == 1 then values.Int (pos (number % 1000))
    else if place % 4 == 2 then values.Bool (number % 2 == 1)
    else values.Double (double_bits number)

abbrev pub load_pair : ℕ → ℕ → ℕ → Pair
load_pair r number place = record { key = numbered_text (codes "k") place; value = load_value r number place }

-- the pairs
unfoldable pub pairs_of : ℕ → ℕ → List Pair
pairs_of r number = map (load_pair r number) (range_with_len 0 pairs_each)
