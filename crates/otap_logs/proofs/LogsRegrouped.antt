-- The request that tables of logs make.
use Rattle.std.proofs.Common.{◌≡◌, List, [], refl, ap}
use Rattle.std.specs.Prelude.{All}
use Rattle.otap_cells.specs.declared.payload.Kind.TheVariants as table
use Rattle.otap_cells.specs.GivenIds.{ReadAs}
use Rattle.otap_cells.specs.Named.{table_named}
use Rattle.otap_cells.specs.Tables.{Table, profile_table}
use Rattle.otap_checks.specs.Reading.{HasAllIds}
use Rattle.otap_checks.proofs.MainKinds.{logs_are_main}
use Rattle.otap_checks.proofs.NamedAlike.{pairs_alike}
use Rattle.otap_checks.proofs.Regrouped.{no_groups, request_alike}
use Rattle.otap_logs.specs.Records.{record_of}
use Rattle.otap_logs.specs.Requests.{record_in, regrouped_logs}

-- no rows make no groups
pub no_logs : (tables : List Table) → table_named table.Logs tables ≡ profile_table table.Logs [] → regrouped_logs tables ≡ []
unfolding regrouped_logs
no_logs = no_groups table.Logs record_in

-- tables that read as others make their request
pub same_request : (tables others : List Table) → ReadAs tables others → All HasAllIds others → regrouped_logs tables ≡ regrouped_logs others
unfolding regrouped_logs
same_request tables others reads given =
    request_alike table.Logs record_in tables others reads given logs_are_main
    (λ id cells. ap (record_of cells) (pairs_alike tables others reads given table.LogAttrs refl id))
