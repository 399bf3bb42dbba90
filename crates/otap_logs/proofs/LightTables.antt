-- The request that the tables of a request make weighs no more than the request.
use Rattle.std.proofs.Common.{◌≡◌, ◌≤◌, List, refl, sym, ◌∙◌, ap, arith}
use Rattle.otlp_model.specs.Limits.{weight_limit}
use Rattle.otlp_model.specs.Profile.{IsProfile}
use Rattle.otlp_model.specs.Real.{IsReal}
use Rattle.otlp_model.specs.Telemetry.{groups_with_items}
use Rattle.otlp_model.specs.Weight.{total, weight_of, weight_of_log_record, weight_of_pair, weight_of_resource_group}
use Rattle.otlp_model.specs.declared.groups.ResourceGroup.{ResourceGroup}
use Rattle.otlp_model.specs.declared.logs.LogRecord.{LogRecord}
use Rattle.otlp_model.specs.declared.request.Request.TheVariants.{Logs}
use Rattle.otlp_model.specs.declared.value.Pair.{Pair}
use Rattle.otap_cells.specs.declared.payload.Kind.TheVariants as table
use Rattle.otap_cells.specs.Cells.{Cell}
use Rattle.otap_cells.specs.Tables.{Table}
use Rattle.otap_groups.specs.Flat.{flat_items, numbered_rows, resource_pairs, scope_pairs}
use Rattle.otap_groups.proofs.LightGroups.{kept_weigh, regrouped_weigh}
use Rattle.otap_attrs.specs.Tables.{attribute_table}
use Rattle.otap_attrs.specs.Index.{pairs_in}
use Rattle.otap_checks.proofs.PairsAgain.{sorted_weigh, unsorted}
use Rattle.otap_logs.specs.Records.{record_cells, record_of}
use Rattle.otap_logs.specs.Requests.{regrouped_logs}
use Rattle.otap_logs.specs.Tables.{record_pairs, tables_of_logs}
use Rattle.otap_logs.proofs.BackAgain.{few_l, few_r, few_s, regrouped_is, unsorted_back}
use Rattle.otap_logs.proofs.ReadAgain.{groups_again}

record_weighs : (cells : List Cell) (xs ys : List Pair) → total 32 weight_of_pair xs ≡ total 32 weight_of_pair ys
    → weight_of_log_record (record_of cells xs) ≡ weight_of_log_record (record_of cells ys)
unfolding record_of
record_weighs cells xs ys same = omega (arith, same)

pub light_tables : (groups : List (ResourceGroup LogRecord)) → IsReal (Logs groups) → IsProfile (Logs groups) → weight_of (Logs groups) ≤ weight_limit
    → weight_of (Logs (regrouped_logs (tables_of_logs groups))) ≤ weight_of (Logs groups)
light_tables groups real is light =
    let r : Table = attribute_table table.ResourceAttrs (resource_pairs groups) in
    let s : Table = attribute_table table.ScopeAttrs (scope_pairs groups) in
    let l : Table = attribute_table table.LogAttrs (record_pairs groups) in
    let found = regrouped_weigh weight_of_log_record (unsorted (resource_pairs groups)) (pairs_in r) (unsorted (scope_pairs groups)) (pairs_in s)
    (λ id cells. record_of cells (unsorted (record_pairs groups) id)) (λ id cells. record_of cells (pairs_in l id))
    (sorted_weigh table.ResourceAttrs (resource_pairs groups) refl (few_r groups light)) (sorted_weigh table.ScopeAttrs (scope_pairs groups) refl (few_s groups light))
    (λ id cells. record_weighs cells (unsorted (record_pairs groups) id) (pairs_in l id) (sorted_weigh table.LogAttrs (record_pairs groups) refl (few_l groups light) id))
    (numbered_rows record_cells 0 (flat_items groups)) in
    let here : total 32 (weight_of_resource_group weight_of_log_record) (groups_with_items groups) ≡ weight_of (Logs (regrouped_logs (tables_of_logs groups))) =
    ap (total 32 (weight_of_resource_group weight_of_log_record)) (sym (unsorted_back groups (groups_again groups real.at is.at))) ∙ found
    ∙ ap (total 32 (weight_of_resource_group weight_of_log_record)) (regrouped_is groups light) in
    let most = kept_weigh weight_of_log_record groups in
    omega (arith, here, most)
