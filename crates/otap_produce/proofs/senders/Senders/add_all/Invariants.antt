use Rattle.std.proofs.Common.{◌≡◌, take}
use Rattle.otap_cells.specs.Sets.{tables_in}
use Rattle.otap_produce.specs.Senders.{kinds_in}
use Rattle.otap_produce.specs.SentMessages.{Adds}
use Rattle.otap_produce.proofs.senders.Senders.add_all.Given as goal

abbrev pub invariant-tables : goal.invariant-tables
invariant-tables l = record {
  adds : Adds (tables_in (λ t. t) (take l.table-index l.tables)) l.initial.self l.self l.initial.batch l.batch;
  kinds : kinds_in l.self.senders ≡ kinds_in l.initial.self.senders;
}
