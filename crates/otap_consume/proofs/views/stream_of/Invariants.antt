use Rattle.std.proofs.Common.{◌≡◌, drop, find}
use Rattle.otap_consume.specs.Views.{is_stream_of}
use Rattle.otap_consume.proofs.views.stream_of.Given as goal

abbrev pub invariant-streams : goal.invariant-streams
invariant-streams l = find (is_stream_of l.kind) (drop l.stream-index l.streams) ≡ find (is_stream_of l.kind) l.streams
