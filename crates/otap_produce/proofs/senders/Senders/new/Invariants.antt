use Rattle.std.proofs.Common.{◌≡◌, take, []}
use Rattle.std.specs.Prelude.{All}
use Rattle.otap_produce.specs.Senders.{HasSentTables, kinds_in}
use Rattle.otap_produce.proofs.senders.Senders.new.Given as goal

abbrev pub invariant-kinds : goal.invariant-kinds
invariant-kinds l = record { kinds : kinds_in l.senders.items ≡ take l.kind-index l.kind-items; sent : All (HasSentTables [] []) l.senders.items }
