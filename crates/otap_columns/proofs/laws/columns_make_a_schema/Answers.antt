use Rattle.otap_columns.proofs.Keeping.{schema_readable}
use Rattle.otap_columns.proofs.Located.{schema_fits, count_is, slot_at, items_at, column_found, column_absent}
use Rattle.otap_columns.proofs.laws.columns_make_a_schema.Goals as goal

pub returns-clause-readable : goal.returns-clause-readable
returns-clause-readable c = schema_readable

pub returns-clause-fits : goal.returns-clause-fits
returns-clause-fits c = schema_fits

pub returns-clause-count : goal.returns-clause-count
returns-clause-count c = count_is

pub returns-clause-arrays : goal.returns-clause-arrays
returns-clause-arrays c = slot_at

pub returns-clause-items : goal.returns-clause-items
returns-clause-items c = items_at

pub returns-clause-found : goal.returns-clause-found
returns-clause-found c = column_found

pub returns-clause-absent : goal.returns-clause-absent
returns-clause-absent c = column_absent
