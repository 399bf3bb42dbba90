-- Record batches (Arrow columnar format, "RecordBatch message"; Message.fbs).
use Rattle.std.specs.Prelude.{◌≡◌, ℕ, ◌+◌, Bool, true, false, nat_le, List, [], length, take, drop, map, Result, Ok, Option, None, Some, unwrap_or, ℤ, pos, unsigned_abs}
use Rattle.std.specs.Int.{w64, cast_signed}
use Rattle.std.specs.List.{list_all, range_with_len}
use Rattle.byteorder.specs.Endian.{little_number}
use Rattle.flat_tables.specs.declared.fault.FlatFault.{FlatFault}
use Rattle.lists.specs.Results.{◌>>=◌}
use Rattle.flat_tables.specs.Tables.{TableIn, VectorIn, or_default, signed_slot, vector_slot, element_part, place_of}

-- a record batch: how many rows it has, its nodes (a column's length and null count), and the bytes of its buffers
pub record BatchIn : Type 0 where
  pub rows : ℕ
  pub nodes : List (ℤ × ℤ)
  pub buffers : List (List ℕ)

-- a struct of two 64-bit numbers: FieldNode (length, null count), Buffer (offset, length)
abbrev pub struct_of : List ℕ → ℤ × ℤ
struct_of part = (cast_signed w64 (little_number 8 part), cast_signed w64 (little_number 8 (drop 8 part)))

-- the struct at an index of a vector
abbrev pub struct_at : VectorIn → ℕ → ℤ × ℤ
struct_at v i = struct_of (unwrap_or (element_part v i) [])

-- the structs of a vector
abbrev pub structs_in : VectorIn → List (ℤ × ℤ)
structs_in v = map (struct_at v) (range_with_len 0 v.count)

-- a vector that is absent has none
abbrev pub structs_of : Option VectorIn → List (ℤ × ℤ)
structs_of None = []
structs_of (Some v) = structs_in v

-- a buffer from an offset on, of a length, lies in a body of this size
abbrev pub lies_from : ℕ → ℤ → ℤ → Bool
lies_from size (pos offset) (pos length) = nat_le (offset + length) size
lies_from size _ _ = false

abbrev pub lies_in : ℕ → ℤ × ℤ → Bool
lies_in size place = lies_from size place.0 place.1

-- the bytes of a buffer in a body
abbrev pub buffer_of : List ℕ → ℤ × ℤ → List ℕ
buffer_of body place = take (unsigned_abs place.1) (drop (unsigned_abs place.0) body)

-- table RecordBatch: the number of rows (slot 0), the nodes (1), the offsets and lengths of the buffers (2)
unfoldable pub row_count : TableIn → Result ℤ FlatFault
row_count t = or_default (pos 0) (signed_slot w64 8 t 0)

unfoldable pub nodes_of : TableIn → Result (List (ℤ × ℤ)) FlatFault
nodes_of t = vector_slot 16 t 1 >>= λ nodes. Ok (structs_of nodes)

unfoldable pub places_of : TableIn → Result (List (ℤ × ℤ)) FlatFault
places_of t = vector_slot 16 t 2 >>= λ buffers. Ok (structs_of buffers)

-- The table and the body hold this record batch: its rows aren't below zero, each buffer lies in the body, and none is
-- compressed (slot 3 is absent).
pub record IsBatch (table : TableIn) (body : List ℕ) (batch : BatchIn) : Type 0 where
  pub rows : row_count table ≡ Ok (pos batch.rows)
  pub nodes : nodes_of table ≡ Ok batch.nodes
  pub places : List (ℤ × ℤ)
  pub has_places : places_of table ≡ Ok places
  pub inside : list_all (lies_in (length body)) places ≡ true
  pub buffers : batch.buffers ≡ map (buffer_of body) places
  pub plain : place_of table 3 ≡ None
