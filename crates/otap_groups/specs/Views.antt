-- What the values that borrow a request show.
use Rattle.std.specs.Prelude.{List, [], ◌∷◌}
use Rattle.otap_cells.specs.Cells.{Cell, seen}
use Rattle.otap_groups.specs.declared.cells.FrontCells.{FrontCells}
use Rattle.otap_groups.specs.declared.flat.Flat.{Flat}
use Rattle.otap_groups.specs.declared.flat.Placed.{Placed}
use Rattle.otap_groups.specs.Flat.{FlatIn, PlacedIn}

abbrev pub seen_flat : {I : Type 0} → Flat I → FlatIn I
seen_flat f = record {
  resource_id = f.resource_id;
  scope_id = f.scope_id;
  resource = f.resource.now;
  scope = f.scope.now;
  item = f.item.now;
}

abbrev pub seen_placed : {C : Type 0} → Placed C → PlacedIn C
seen_placed p = record { parent = p.parent; part = p.part.now }

abbrev pub front_cells : FrontCells → List Cell
front_cells front = seen front.id ∷ seen front.resource_id ∷ seen front.resource_url ∷ seen front.resource_dropped ∷ seen front.scope_id
    ∷ seen front.scope_name ∷ seen front.scope_version ∷ seen front.scope_dropped ∷ seen front.schema_url ∷ []
