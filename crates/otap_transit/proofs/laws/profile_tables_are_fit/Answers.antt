use Rattle.otap_transit.proofs.FitTables.{fit}
use Rattle.otap_transit.proofs.laws.profile_tables_are_fit.Goals as goal

pub returns : goal.returns
returns c = λ signal tables order profile items rows fine.
    fit c.requests_read_alike.ensures c.row_defects_are_decided.ensures.alike signal tables (c.profile_tables_can_be_written.ensures signal tables order profile) profile items rows fine
