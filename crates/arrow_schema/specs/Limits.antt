-- The limits of schemas.
use Rattle.std.specs.Prelude.{ℕ}

-- how many fields a schema that is read has at most, children counted, and how deep they are nested; its own fields have depth 1
abbrev pub max_fields : ℕ
max_fields = 128

abbrev pub max_depth : ℕ
max_depth = 3

-- how many bytes the cells of a fixed binary have at most
abbrev pub max_fixed : ℕ
max_fixed = 65536

-- how many fields a schema that is written has at most, children counted, how many bytes their names have together, and
-- how many bytes a builder may hold before a schema is added
abbrev pub max_written_fields : ℕ
max_written_fields = 1024

abbrev pub max_written_names : ℕ
max_written_names = 1048576

abbrev pub max_size_before : ℕ
max_size_before = 4194304

-- how many bytes a field that is written takes at most, beside its name
abbrev pub max_field_size : ℕ
max_field_size = 1500

-- and how many a schema that is written takes at most, beside its fields
abbrev pub max_schema_size : ℕ
max_schema_size = 512
