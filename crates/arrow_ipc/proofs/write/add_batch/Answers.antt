use Rattle.std.proofs.Common.{◌≡◌, ℕ, List, ◌∙◌, subst, arith}
use Rattle.std.specs.Int.{w64}
use Rattle.std.proofs.lemmas.Int.{to_z_pos}
use Rattle.flat_tables.specs.Building.{Grows, StaysAt, IsParts}
use Rattle.flat_tables.proofs.Standing.{stands_on, grows_on}
use Rattle.arrow_ipc.specs.Laying.{pairs_bytes}
use Rattle.arrow_ipc.proofs.TablesBuilt.{batch_stands}
use Rattle.arrow_ipc.proofs.write.add_batch.Goals as goal

-- a vector that was added before is still there, with the bytes that were made of its structs
still : (old new parts bytes : List ℕ) (place : ℕ) → parts ≡ bytes → Grows old new → StaysAt (IsParts 16 parts) old place → StaysAt (IsParts 16 bytes) new place
still old new parts bytes place same g s = subst (λ (made : List ℕ). StaysAt (IsParts 16 made) new place) same (stands_on (IsParts 16 parts) old new place g s)

pub returns-clause-table : goal.returns-clause-table
returns-clause-table c =
    let later : Grows c.add_parts-2.new.self c.add_table.new.self = c.in_ok-table.ensures.grows in
    let nodes : StaysAt (IsParts 16 (pairs_bytes c.args.nodes.now)) c.add_table.new.self c.in_ok-node_vector.node_vector =
    still c.add_parts.new.self c.add_table.new.self c.deref.result.now (pairs_bytes c.args.nodes.now) c.in_ok-node_vector.node_vector
    (c.deref.ensures.value ∙ c.in_ok-node_bytes.ensures.value)
    (grows_on c.add_parts.new.self c.add_parts-2.new.self c.add_table.new.self c.in_ok-place_vector.ensures.grows later)
    c.in_ok-node_vector.ensures.parts in
    let places : StaysAt (IsParts 16 (pairs_bytes c.args.places.now)) c.add_table.new.self c.in_ok-place_vector.place_vector =
    still c.add_parts-2.new.self c.add_table.new.self c.deref-2.result.now (pairs_bytes c.args.places.now) c.in_ok-place_vector.place_vector
    (c.deref-2.ensures.value ∙ c.in_ok-place_bytes.ensures.value) later c.in_ok-place_vector.ensures.parts in
    batch_stands c.args.rows _ c.args.nodes.now c.args.places.now c.add_table.new.self c.in_ok-node_vector.node_vector c.in_ok-place_vector.place_vector
    c.in_ok-table.table (to_z_pos w64 c.args.rows (omega arith)) c.in_ok-table.ensures.slots nodes places c.in_ok-node_bytes.ensures.fit c.in_ok-place_bytes.ensures.fit
