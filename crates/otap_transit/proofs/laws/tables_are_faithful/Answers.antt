use Rattle.otap_transit.proofs.Faithful.{faithful}
use Rattle.otap_transit.proofs.laws.tables_are_faithful.Goals as goal

pub returns : goal.returns
returns c = faithful c.requests_come_back.ensures c.requests_read_alike.ensures c.row_defects_are_decided.ensures.alike
