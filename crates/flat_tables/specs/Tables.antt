-- Tables, texts and vectors in bytes (FlatBuffers Internals).
use Rattle.std.specs.Prelude.{ℕ, ◌+◌, ◌*◌, ◌%◌, ◌==◌, ◌||◌, not, Bool, List, take, drop, nat_lt, if◌then◌else◌, Result, Ok, Err, Option, None, Some, unwrap_or, ℤ, pos, negsuc, ◌-ℤ◌}
use Rattle.std.specs.Int.{Width, w32}
use Rattle.std.specs.Option.{option_map}
use Rattle.flat_tables.specs.declared.fault.FlatFault.{FlatFault}
use Rattle.flat_tables.specs.declared.fault.FlatFault.TheVariants.{OutOfRange, BadVtable}
use Rattle.lists.specs.Results.{◌>>=◌}
use Rattle.flat_tables.specs.Bytes.{part_at, number_in, number_at, signed_at}

-- a table: the bytes that it lies in, its offset, the offset of its vtable, and the size that the vtable gives itself
pub record TableIn : Type 0 where
  pub bytes : List ℕ
  pub place : ℕ
  pub vtable : ℕ
  pub size : ℕ

-- a vector: the bytes that it lies in, the offset of its first element, how many it has, and how many bytes each takes
pub record VectorIn : Type 0 where
  pub bytes : List ℕ
  pub first : ℕ
  pub count : ℕ
  pub width : ℕ

-- an offset may not lie before the bytes
abbrev pub natural : ℤ → Result ℕ FlatFault
natural (pos n) = Ok n
natural (negsuc n) = Err OutOfRange

-- a size that no vtable has: it has two sizes of two bytes each, and entries of two bytes each
abbrev pub is_bad_size : ℕ → Bool
is_bad_size size = nat_lt size 4 || not (size % 2 == 0)

-- "Tables": a table begins with an i32, which subtracted from the table's offset gives the offset of the vtable
unfoldable pub vtable_at : List ℕ → ℕ → Result ℕ FlatFault
vtable_at bytes place = signed_at w32 4 bytes place >>= λ distance. natural (pos place -ℤ distance)

-- the size that a vtable gives itself, where all of it lies in the bytes
unfoldable pub size_at : List ℕ → ℕ → Result ℕ FlatFault
size_at bytes vtable =
    part_at bytes vtable 4 >>= λ _.
    number_at 2 bytes vtable >>= λ size.
    if is_bad_size size then Err BadVtable else (part_at bytes vtable size >>= λ _. Ok size)

-- a table, with its vtable
unfoldable pub table_at : List ℕ → ℕ → Result TableIn FlatFault
table_at bytes place =
    vtable_at bytes place >>= λ vtable.
    size_at bytes vtable >>= λ size.
    Ok (record { bytes = bytes; place = place; vtable = vtable; size = size })

-- the offset that the u32 at an offset refers to: that many bytes after it
unfoldable pub referred : List ℕ → ℕ → Result ℕ FlatFault
referred bytes place = number_at 4 bytes place >>= λ distance. Ok (place + distance)

-- the root table: the first four bytes say how far it is from the start
unfoldable pub root_at : List ℕ → Result TableIn FlatFault
root_at bytes = number_at 4 bytes 0 >>= table_at bytes

-- "Strings and Vectors": a text is a u32 count and exactly that number of bytes
unfoldable pub text_at : List ℕ → ℕ → Result (List ℕ) FlatFault
text_at bytes place = number_at 4 bytes place >>= λ count. part_at bytes (place + 4) count

-- a vector is a u32 count and exactly that number of elements
unfoldable pub vector_at : ℕ → List ℕ → ℕ → Result VectorIn FlatFault
vector_at width bytes place =
    number_at 4 bytes place >>= λ count.
    part_at bytes (place + 4) (count * width) >>= λ _.
    Ok (record { bytes = bytes; first = place + 4; count = count; width = width })

-- what is read at an offset, where there is one
abbrev pub each : {A B : Type 0} → (A → Result B FlatFault) → Option A → Result (Option B) FlatFault
each read None = Ok None
each read (Some x) = read x >>= λ y. Ok (Some y)

-- how far a slot's value is from the table's offset: 0 where it is absent, and so where the vtable has no entry for it
unfoldable pub distance_at : TableIn → ℕ → ℕ
distance_at t slot = if nat_lt t.size (6 + 2 * slot) then 0 else number_in 2 t.bytes (t.vtable + 4 + 2 * slot)

-- the offset of a slot's value
unfoldable pub place_of : TableIn → ℕ → Option ℕ
place_of t slot = if distance_at t slot == 0 then None else Some (t.place + distance_at t slot)

-- the offset that a slot refers to
abbrev pub reference_slot : TableIn → ℕ → Result (Option ℕ) FlatFault
reference_slot t slot = each (referred t.bytes) (place_of t slot)

-- the byte, the signed number, the table, the text and the vector of a slot
abbrev pub byte_slot : TableIn → ℕ → Result (Option ℕ) FlatFault
byte_slot t slot = each (number_at 1 t.bytes) (place_of t slot)

abbrev pub signed_slot : Width → ℕ → TableIn → ℕ → Result (Option ℤ) FlatFault
signed_slot w n t slot = each (signed_at w n t.bytes) (place_of t slot)

abbrev pub table_slot : TableIn → ℕ → Result (Option TableIn) FlatFault
table_slot t slot = reference_slot t slot >>= each (table_at t.bytes)

abbrev pub text_slot : TableIn → ℕ → Result (Option (List ℕ)) FlatFault
text_slot t slot = reference_slot t slot >>= each (text_at t.bytes)

abbrev pub vector_slot : ℕ → TableIn → ℕ → Result (Option VectorIn) FlatFault
vector_slot width t slot = reference_slot t slot >>= each (vector_at width t.bytes)

-- a number that is absent is its default
abbrev pub or_default : {A : Type 0} → A → Result (Option A) FlatFault → Result A FlatFault
or_default default read = read >>= λ found. Ok (unwrap_or found default)

-- the offset of a vector's element
unfoldable pub element_place : VectorIn → ℕ → Option ℕ
element_place v i = if nat_lt i v.count then Some (v.first + i * v.width) else None

-- the bytes of a vector's element
unfoldable pub element_part : VectorIn → ℕ → Option (List ℕ)
element_part v i = option_map (λ place. take v.width (drop place v.bytes)) (element_place v i)

-- the offset that a vector's element refers to
abbrev pub element_reference : VectorIn → ℕ → Result (Option ℕ) FlatFault
element_reference v i = each (referred v.bytes) (element_place v i)

-- the table that a vector's element refers to
abbrev pub element_table : VectorIn → ℕ → Result (Option TableIn) FlatFault
element_table v i = element_reference v i >>= each (table_at v.bytes)
