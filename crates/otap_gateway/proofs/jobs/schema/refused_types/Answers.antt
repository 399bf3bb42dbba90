use Rattle.std.proofs.Common.{◌≡◌, to_z, of_z, w32, w64, rules}
use Rattle.std.proofs.lemmas.Int.{to_z-of_z}
use Rattle.otap_gateway.proofs.jobs.schema.refused_types.Goals as goal

pub returns-in-PayloadType : goal.returns-in-PayloadType
returns-in-PayloadType c =
    let id : to_z w64 (of_z w64 c.args.id) ≡ c.args.id = to_z-of_z w64 c.args.id c.ranges.id in
    let kind : to_z w32 (of_z w32 c.in-PayloadType.kind) ≡ c.in-PayloadType.kind = search rules in
    rw c.in-PayloadType.is (rw (id, kind) at c.refused_batch.ensures)

pub returns-in-PayloadTwice : goal.returns-in-PayloadTwice
returns-in-PayloadTwice c =
    let id : to_z w64 (of_z w64 c.args.id) ≡ c.args.id = to_z-of_z w64 c.args.id c.ranges.id in
    let kind : to_z w32 (of_z w32 c.in-PayloadTwice.kind) ≡ c.in-PayloadTwice.kind = search rules in
    rw c.in-PayloadTwice.is (rw (id, kind) at c.refused_batch-in-PayloadTwice.ensures)
