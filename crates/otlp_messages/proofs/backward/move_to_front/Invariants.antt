use Rattle.std.proofs.Common.{◌≡◌, ◌≤◌, ◌-◌, length, take, drop}
use Rattle.otlp_messages.proofs.backward.move_to_front.Given as goal

abbrev pub decreases-pieces : goal.decreases-pieces
decreases-pieces l = l.len - l.place

abbrev pub invariant-pieces : goal.invariant-pieces
invariant-pieces l =
    (l.place ≤ l.len) × (length l.bytes ≡ length l.initial.bytes) × (take l.place l.bytes ≡ take l.place (drop l.start l.initial.bytes)) × (drop l.place l.bytes ≡ drop l.place l.initial.bytes)
