-- The columns of the tables of logs.
use Rattle.std.proofs.Common.{refl}
use Rattle.otap_cells.specs.declared.payload.Kind.TheVariants as table
use Rattle.otap_cells.specs.Columns.{logs}
use Rattle.otap_attrs.specs.Values.{HasValueAt}

pub has_body : HasValueAt table.Logs 15
unfolding logs
has_body = record { names = refl; bases = refl }
