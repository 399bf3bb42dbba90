-- All columns of a table as they are read, for Arrow files: no dictionaries, ids in 32 bits, and fields that name how these are
-- stored.
use Rattle.std.specs.Prelude.{List, [], if◌then◌else◌}
use Rattle.arrow_schema.specs.declared.spec.FieldSpec.{FieldSpec}
use Rattle.arrow_ipc.specs.Batches.{BatchIn}
use Rattle.otap_cells.specs.Columns.{is_id_at}
use Rattle.otap_cells.specs.Tables.{Table, coding_in}
use Rattle.otap_columns.specs.declared.forms.ColumnForm.TheVariants.{Plain, Coded}
use Rattle.otap_columns.specs.Schemas.{Forms, schema_for}
use Rattle.otap_columns.specs.WrittenPayloads.{HoldsRows}

-- the form of each column
abbrev pub plain_forms : Table → Forms
plain_forms t column = if is_id_at t.kind column then Coded (coding_in t column) else Plain

-- THE SCHEMA OF A TABLE, with all columns of its kind
abbrev pub plain_schema : Table → List FieldSpec
plain_schema t = schema_for t.kind (plain_forms t)

-- A RECORD BATCH UNDER IT holds the cells of the table
abbrev pub HoldsPlain : Table → BatchIn → Type 0
HoldsPlain t batch = HoldsRows t.kind (plain_forms t) (λ column. []) t batch
