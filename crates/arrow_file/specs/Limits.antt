-- The limits of files.
use Rattle.std.specs.Prelude.{ℕ}

-- how many bytes a file that is read has at most
abbrev pub max_file : ℕ
max_file = 268435456

-- how many record batches a file that is written has at most
abbrev pub max_batches : ℕ
max_batches = 65536
