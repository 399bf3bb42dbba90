-- How the writer builds the columns of a batch, and how much they take: used in private contracts.
use Rattle.std.specs.Prelude.{◌≡◌, ℕ, ◌+◌, ◌*◌, ◌/◌, ◌<◌, ◌≤◌, map, List, [], ◌∷◌, ◌++◌, length, sum_by, Option, Some, None, option_map, pos}
use Rattle.std.specs.Int.{FitsUnsignedBits}
use Rattle.std.specs.List.{AllByRecursion, flat_map}
use Rattle.byteorder.specs.Endian.{little_bytes}
use Rattle.arrow_buffers.specs.declared.builder.Buffers.{Buffers}
use Rattle.arrow_buffers.specs.declared.width.Width.{Width}
use Rattle.arrow_buffers.specs.declared.width.Width.TheVariants as width
use Rattle.arrow_ipc.specs.Batches.{BatchIn}
use Rattle.arrow_ipc.specs.Limits.{max_parts, max_body}
use Rattle.arrow_ipc.specs.Written.{body_size}
use Rattle.arrow_arrays.specs.Written.{PartIn, elements_part}
use Rattle.otap_cells.specs.declared.profile.Base.{Base}
use Rattle.otap_cells.specs.declared.profile.Base.TheVariants as base
use Rattle.otap_cells.specs.Cells.{Cell, number}
use Rattle.otap_cells.specs.Columns.{base_at}
use Rattle.otap_cells.specs.Tables.{Table, cell_in, column_in}
use Rattle.otap_cells.specs.Weights.{cell_weight, weight_of_table}
use Rattle.otap_dicts.specs.Limits.{narrow_limit, value_limit}
use Rattle.otap_columns.specs.Limits.{row_limit, rows_rest}
use Rattle.otap_columns.specs.declared.forms.ColumnForm.{ColumnForm}
use Rattle.otap_columns.specs.declared.forms.ColumnForm.TheVariants as form
use Rattle.otap_columns.specs.declared.writer.cells.CellBytes.{CellBytes}
use Rattle.otap_columns.specs.declared.writer.cells.CellBytes.TheVariants as bytes
use Rattle.otap_cells.specs.Groups.{Member, Group, Alone, Under}
use Rattle.otap_columns.specs.Observed.{id_width}

-- an id that fits a form
abbrev pub id_bits : ColumnForm → ℕ
id_bits form.Wide = 32
id_bits (form.Coded how) = 32
id_bits other = 16

abbrev pub FitsForm : Base → ColumnForm → Cell → Type 0
FitsForm (base.Id wide) form (number n) = FitsUnsignedBits (id_bits form) n
FitsForm holds form cell = Unit {0}

-- the bytes that are written for a cell, none where it is null
abbrev pub shown_bytes : CellBytes → Option (List ℕ)
shown_bytes bytes.Null = None
shown_bytes (bytes.One part) = Some part
shown_bytes (bytes.Two part) = Some part
shown_bytes (bytes.Four part) = Some part
shown_bytes (bytes.Eight part) = Some part
shown_bytes (bytes.Part part) = Some part.now

-- how many bytes an index has
abbrev pub index_size : ColumnForm → ℕ
index_size form.Dict8 = 1
index_size other = 2

-- an index as bytes
abbrev pub index_of : ColumnForm → Option ℕ → Option (List ℕ)
index_of form place = option_map (little_bytes (index_size form)) place

-- no cell is null, each has so many bytes, and these are the bytes of them all
abbrev pub AreParts : ℕ → List (Option (List ℕ)) → List ℕ → Type 0
AreParts size cells values = (parts : List (List ℕ)) × AllByRecursion (λ part. length part ≡ size) parts × (map (λ part. Some part) parts ≡ cells) × (flat_map (λ part. part) parts ≡ values)

-- an index is one that the form reaches
abbrev pub IsIndexFor : ColumnForm → Option ℕ → Type 0
IsIndexFor form None = Unit {0}
IsIndexFor form.Dict8 (Some place) = place < narrow_limit
IsIndexFor other (Some place) = place < value_limit

-- how the cells of a column are stored
abbrev pub plain_width : Base → ColumnForm → Width
plain_width base.U8 form = width.Fixed 1
plain_width base.U16 form = width.Fixed 2
plain_width base.U32 form = width.Fixed 4
plain_width base.U64 form = width.Fixed 8
plain_width base.I32 form = width.Fixed 4
plain_width base.I64 form = width.Fixed 8
plain_width base.Double form = width.Fixed 8
plain_width base.Bool form = width.Bit
plain_width base.Utf8 form = width.Var
plain_width base.Binary form = width.Var
plain_width base.Fixed16 form = width.Fixed 16
plain_width base.Fixed8 form = width.Fixed 8
plain_width base.Timestamp form = width.Fixed 8
plain_width base.Duration form = width.Fixed 8
plain_width base.ListU64 form = width.List 8
plain_width base.ListF64 form = width.List 8
plain_width (base.Id wide) form = width.Fixed (id_width form)

abbrev pub width_for : Base → ColumnForm → Width
width_for holds form.Dict8 = width.Fixed 1
width_for holds form.Dict16 = width.Fixed 2
width_for holds form.Absent = plain_width holds form.Absent
width_for holds form.Plain = plain_width holds form.Plain
width_for holds form.Wide = plain_width holds form.Wide
width_for holds (form.Coded how) = plain_width holds (form.Coded how)

-- each cell of a column of a table fits the form
abbrev pub FitsColumn : ColumnForm → Table → ℕ → Type 0
FitsColumn form t column = (row : ℕ) → row < length t.rows → FitsForm (base_at t.kind column) form (cell_in t.rows column row)

-- ---- parts of a batch

-- what the buffers of a column add to a batch; the elements of lists are a part of their own
abbrev pub batch_parts : Width → Buffers → List PartIn
batch_parts width.Bit b = record { rows = b.rows; nulls = b.nulls; buffers = b.validity.items ∷ b.values.items ∷ [] } ∷ []
batch_parts (width.Fixed n) b = record { rows = b.rows; nulls = b.nulls; buffers = b.validity.items ∷ b.values.items ∷ [] } ∷ []
batch_parts width.Var b = record { rows = b.rows; nulls = b.nulls; buffers = b.validity.items ∷ b.offsets.items ∷ b.values.items ∷ [] } ∷ []
batch_parts (width.List n) b =
    record { rows = b.rows; nulls = b.nulls; buffers = b.validity.items ∷ b.offsets.items ∷ [] } ∷ elements_part (length b.values.items / 8) b.values.items ∷ []

-- a batch with one more part
abbrev pub with_part : BatchIn → PartIn → BatchIn
with_part batch p = record { rows = batch.rows; nodes = batch.nodes ++ (pos p.rows, pos p.nulls) ∷ []; buffers = batch.buffers ++ p.buffers }

abbrev pub with_parts : BatchIn → List PartIn → BatchIn
with_parts batch [] = batch
with_parts batch (p ∷ parts) = with_parts (with_part batch p) parts

-- ---- how much a batch takes

-- there is room for this number of parts, each of at most two nodes and four buffers, and for the bytes of their buffers, each
-- padded
pub record HasRoom (batch : BatchIn) (parts bytes : ℕ) : Type 0 where
  pub nodes : length batch.nodes + 2 * parts ≤ max_parts
  pub buffers : length batch.buffers + 4 * parts ≤ max_parts
  pub body : body_size batch.buffers + bytes < max_body

-- a batch was given no more than these
pub record GrowsBy (parts bytes : ℕ) (old new : BatchIn) : Type 0 where
  pub nodes : length new.nodes ≤ length old.nodes + 2 * parts
  pub buffers : length new.buffers ≤ length old.buffers + 4 * parts
  pub body : body_size new.buffers ≤ body_size old.buffers + bytes

-- how many bytes of buffers each row of a column takes at most, whatever its form, the bytes of texts and lists aside: the bit of
-- the bitmap counts as a byte, an index has at most 2, an offset or a wide id 4
abbrev pub row_most : Base → ℕ
row_most base.U8 = 3
row_most base.U16 = 3
row_most base.U32 = 5
row_most base.U64 = 9
row_most base.I32 = 5
row_most base.I64 = 9
row_most base.Double = 9
row_most base.Bool = 3
row_most base.Utf8 = 5
row_most base.Binary = 5
row_most base.Fixed16 = 17
row_most base.Fixed8 = 9
row_most base.Timestamp = 9
row_most base.Duration = 9
row_most base.ListU64 = 5
row_most base.ListF64 = 5
row_most (base.Id wide) = 5

-- what the cells of a column weigh, and how many bytes its buffers take at most
abbrev pub column_weight : Table → ℕ → ℕ
column_weight t column = sum_by cell_weight (column_in t.rows column)

abbrev pub column_most : Table → ℕ → ℕ
column_most t column = row_most (base_at t.kind column) * length t.rows + column_weight t column + 32

-- the same for columns, and for a group: its parts, and the bytes of their buffers
abbrev pub columns_most : Table → List Member → ℕ
columns_most t members = sum_by (λ m. column_most t m.column) members

abbrev pub group_parts : Group → ℕ
group_parts (Alone m) = 1
group_parts (Under struct members) = 1 + length members

abbrev pub group_most : Table → Group → ℕ
group_most t (Alone m) = column_most t m.column
group_most t (Under struct members) = columns_most t members

-- how many bytes the record batch of a table takes at most
abbrev pub rows_most : Table → ℕ
rows_most t = row_limit * length t.rows + weight_of_table t + rows_rest
