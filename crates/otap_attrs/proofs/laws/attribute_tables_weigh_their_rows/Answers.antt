use Rattle.otap_attrs.proofs.AttributesWeighed.{table_weighs}
use Rattle.otap_attrs.proofs.laws.attribute_tables_weigh_their_rows.Goals as goal

pub returns : goal.returns
returns c = table_weighs
