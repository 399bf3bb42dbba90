-- What the cells of a column hold.
use Rattle.std.specs.Prelude.{Bool, true, false}
use Rattle.otap_cells.specs.declared.profile.Base.{Base}
use Rattle.otap_cells.specs.declared.profile.Base.TheVariants as base

-- the bases of bytes
abbrev pub holds_bytes : Base → Bool
holds_bytes base.Utf8 = true
holds_bytes base.Binary = true
holds_bytes base.Fixed16 = true
holds_bytes base.Fixed8 = true
holds_bytes base.ListU64 = true
holds_bytes base.ListF64 = true
holds_bytes _ = false

-- the numbers of rows
abbrev pub is_id : Base → Bool
is_id (base.Id wide) = true
is_id _ = false
