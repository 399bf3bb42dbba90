-- The limits of batches and messages that are written.
use Rattle.std.specs.Prelude.{ℕ}

-- how many nodes, and how many buffers, a batch has at most
abbrev pub max_parts : ℕ
max_parts = 65536

-- a number of rows or of nulls is below this: they are written as signed numbers of 64 bits
abbrev pub max_count : ℕ
max_count = 9223372036854775808

-- a body has less than this number of bytes
abbrev pub max_body : ℕ
max_body = 536870912

-- at most this number of bytes is written for a message beside its parts
abbrev pub message_most : ℕ
message_most = 2048

-- for a node, and for the offset and the length of a buffer
abbrev pub node_most : ℕ
node_most = 16

abbrev pub place_most : ℕ
place_most = 24

-- and for a field, beside its name
abbrev pub field_most : ℕ
field_most = 2048
