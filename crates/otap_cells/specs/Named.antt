-- The table of a kind among the tables of a batch.
use Rattle.std.specs.Prelude.{if◌then◌else◌, List, [], ◌∷◌}
use Rattle.otap_cells.specs.declared.payload.Kind.{Kind}
use Rattle.otap_cells.specs.Payload.{is_kind}
use Rattle.otap_cells.specs.Tables.{Table, profile_table}

-- a table that isn't there has no rows
abbrev pub table_named : Kind → List Table → Table
table_named kind [] = profile_table kind []
table_named kind (t ∷ ts) = if is_kind t.kind kind then t else table_named kind ts
