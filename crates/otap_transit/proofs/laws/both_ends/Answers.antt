use Rattle.std.proofs.Common.{[]}
use Rattle.std.proofs.lemmas.List.Elements.{recursion_from_All}
use Rattle.otap_columns.proofs.Simulated.{far_end}
use Rattle.otap_signals.specs.BySignal.{meaning_by, rows_by}
use Rattle.otap_produce.specs.Policy.{IsExported}
use Rattle.otap_transit.proofs.Coming.{all_received}
use Rattle.otap_transit.proofs.Arriving.{new_segment}
use Rattle.otap_transit.proofs.laws.both_ends.Goals as goal

pub returns : goal.returns
returns c = λ signal requests messages exported each.
    all_received far_end (meaning_by signal) (rows_by signal) (c.tables_are_faithful.ensures signal) [] [] requests messages (new_segment (rows_by signal))
    (recursion_from_All (IsExported (rows_by signal)) requests exported) each
