use Rattle.otap_attrs.proofs.TableLaws.{table_has_rows}
use Rattle.otap_attrs.proofs.laws.attribute_tables_have_their_rows.Goals as goal

pub returns : goal.returns
returns c = table_has_rows
