-- What the views keep: parts that lie in the bytes.
use Rattle.std.specs.Prelude.{◌+◌, ◌*◌, ◌≤◌, length}
use Rattle.flat_tables.specs.Tables.{TableIn, VectorIn}
use Rattle.flat_tables.specs.declared.views.TableView.TheInside as table
use Rattle.flat_tables.specs.declared.views.VectorView.TheInside as vector

abbrev pub table_in : table.Inside → TableIn
table_in t = record { bytes = t.bytes.now; place = t.place; vtable = t.vtable; size = t.size }

-- the table begins in the bytes, and all of its vtable lies in them
pub record IsTableInside (t : table.Inside) : Type 0 where
  pub place : t.place ≤ length t.bytes.now
  pub vtable : t.vtable + t.size ≤ length t.bytes.now

abbrev pub vector_in : vector.Inside → VectorIn
vector_in v = record { bytes = v.bytes.now; first = v.first; count = v.count; width = v.width }

-- all of the elements lie in the bytes
pub record IsVectorInside (v : vector.Inside) : Type 0 where
  pub elements : v.first + v.count * v.width ≤ length v.bytes.now
