use Rattle.std.proofs.Common.{◌≡◌, true, take}
use Rattle.std.specs.List.{list_all}
use Rattle.arrow_ipc.specs.Batches.{structs_in, lies_in}
use Rattle.arrow_ipc.proofs.header.all_lie_in.Given as goal

-- the buffers so far lie in the body
abbrev pub invariant-loop-place : goal.invariant-loop-place
invariant-loop-place l = list_all (lies_in l.size) (take l.place (structs_in l.buffers)) ≡ true
