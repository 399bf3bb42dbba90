use Rattle.std.proofs.Common.{◌≡◌, map, drop}
use Rattle.std.specs.List.{join_with_byte, position_from}
use Rattle.std.specs.Str.{bytes_eq}
use Rattle.otap_cells.specs.Columns.{columns_of}
use Rattle.otap_cells.proofs.paths.column_of.Given as goal

abbrev pub invariant-columns : goal.invariant-columns
invariant-columns l =
    position_from (λ column. bytes_eq (join_with_byte 46 (map (λ name. name.now) l.path)) column.name) l.place (drop l.place (columns_of l.fn.kind))
    ≡ position_from (λ column. bytes_eq (join_with_byte 46 (map (λ name. name.now) l.path)) column.name) 0 (columns_of l.fn.kind)
