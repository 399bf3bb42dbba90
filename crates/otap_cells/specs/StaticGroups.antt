-- The groups that the program's tables have, as the definitions name them.
use Rattle.std.specs.Prelude.{ℕ, ◌<◌, map, All}
use Rattle.otap_cells.specs.declared.grouping.ColumnGroup.{ColumnGroup}
use Rattle.otap_cells.specs.declared.grouping.ColumnGroup.TheVariants as own
use Rattle.otap_cells.specs.declared.grouping.GroupMember.{GroupMember}
use Rattle.otap_cells.specs.Groups as groups

abbrev pub member_in : GroupMember → groups.Member
member_in m = record { column = m.column; name = m.name.now }

abbrev pub group_in : ColumnGroup → groups.Group
group_in (own.Alone m) = groups.Alone (member_in m)
group_in (own.Under name members) = groups.Under name.now (map member_in members.now)

-- the columns of a group are below this number
abbrev pub IsWithin : ℕ → ColumnGroup → Type 0
IsWithin width (own.Alone m) = m.column < width
IsWithin width (own.Under name members) = All (λ m. m.column < width) members.now
