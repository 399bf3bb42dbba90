-- How long messages may be: used in private contracts.
use Rattle.std.specs.Prelude.{ℕ, ◌+◌, ◌*◌, List, [], ◌∷◌, length}
use Rattle.lists.specs.Payloads.{PayloadIn}
use Rattle.otap_cells.specs.Tables.{Table}
use Rattle.otap_columns.specs.Limits.{record_limit, records_limit, tables_limit}
use Rattle.otap_produce.specs.Limits.{schema_id_limit}

-- the bytes of the schema ids and the records of payloads
abbrev pub size_of : List PayloadIn → ℕ
size_of [] = 0
size_of (p ∷ payloads) = length p.schema_id + length p.bytes + size_of payloads

-- how many these are at most for the payloads of tables
abbrev pub payloads_most : List Table → ℕ
payloads_most [] = 0
payloads_most (t ∷ tables) = schema_id_limit + record_limit t + payloads_most tables

-- and for the tables of a request
abbrev pub size_limit : ℕ
size_limit = records_limit + tables_limit * schema_id_limit
