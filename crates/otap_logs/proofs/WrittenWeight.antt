-- What the tables of a request of logs weigh, and which of its parts can be written.
use Rattle.std.proofs.Common.{◌≡◌, ℕ, ◌+◌, ◌≤◌, ◌^◌, List, [], ◌∷◌, map, sym, ap, ◌∙◌, subst, arith}
use Rattle.std.specs.Prelude.{All, min, sum_by}
use Rattle.std.proofs.lemmas.List.Sums.{sum_by-cons}
use Rattle.otlp_model.specs.declared.groups.Resource.{Resource}
use Rattle.otlp_model.specs.declared.groups.Scope.{Scope}
use Rattle.otlp_model.specs.declared.groups.ResourceGroup.{ResourceGroup}
use Rattle.otlp_model.specs.declared.logs.LogRecord.{LogRecord}
use Rattle.otlp_model.specs.declared.request.Request.TheVariants.{Logs}
use Rattle.otlp_model.specs.Limits.{weight_limit}
use Rattle.otlp_model.specs.Profile.{IsProfile, IsProfileLogRecord}
use Rattle.otlp_model.specs.Weight.{weight_of, weight_of_log_record}
use Rattle.otap_cells.specs.declared.payload.Kind.TheVariants as table
use Rattle.otap_cells.specs.Tables.{Table}
use Rattle.otap_cells.specs.Weights.{weight_of_table, weight_of_tables}
use Rattle.otap_groups.specs.Flat.{items_of, resource_pairs, resources_of, scope_pairs, scopes_of}
use Rattle.otap_groups.specs.Weighing.{CanWriteGroup, cells_weight, parts_weight, rows_of_groups}
use Rattle.otap_groups.proofs.RowsApart.{rows_apart}
use Rattle.otap_groups.proofs.RowsWeighed.{main_weighs}
use Rattle.otap_groups.proofs.WritableGroups.{groups_can, IsLightResource, IsLightScope}
use Rattle.otap_attrs.specs.Tables.{attribute_table}
use Rattle.otap_attrs.specs.Values.{pair_cells}
use Rattle.otap_attrs.proofs.AttributesWeighed.{table_weighs}
use Rattle.otap_checks.specs.Written.{Written, pairs_below, table_of}
use Rattle.otap_checks.proofs.AllWritten.{weighs}
use Rattle.lists.proofs.MadeSums.{sum_of_map}
use Rattle.otap_logs.specs.Records.{record_cells}
use Rattle.otap_logs.specs.Tables.{below_logs, record_pairs, tables_of_logs}
use Rattle.otap_logs.specs.Writable.{CanWriteRecord}

-- ---- what can be written

record_can : (log : LogRecord) → IsProfileLogRecord log → weight_of_log_record log ≤ weight_limit → CanWriteRecord log
record_can log is few = record { trace_id = is.trace_id; span_id = is.span_id; body = omega arith; pairs = omega arith }

abbrev pub CanWrite : ResourceGroup LogRecord → Type 0
CanWrite = CanWriteGroup IsLightResource IsLightScope CanWriteRecord

pub all_can : (groups gs : List (ResourceGroup LogRecord)) → gs ≡ groups → IsProfile (Logs groups) → weight_of (Logs groups) ≤ weight_limit → All CanWrite gs
all_can groups gs same is few = subst (All CanWrite) (sym same) (groups_can IsProfileLogRecord weight_of_log_record weight_limit CanWriteRecord record_can groups is.at few)

-- ---- weights

three : (f : Written → ℕ) (a b c : Written) → sum_by f (a ∷ b ∷ c ∷ []) ≡ f a + f b + f c
three f a b c = let w3 = sum_by-cons f c [] in let w2 = sum_by-cons f b (c ∷ []) in let w1 = sum_by-cons f a (b ∷ c ∷ []) in omega (arith, w1, w2, w3)

pub tables_weigh : (groups : List (ResourceGroup LogRecord))
    → rows_of_groups (λ resource. parts_weight pair_cells resource.pairs) (λ scope. parts_weight pair_cells scope.pairs)
    (λ log. cells_weight (record_cells log) + parts_weight pair_cells log.pairs) groups ≡ weight_of_tables (tables_of_logs groups)
unfolding tables_of_logs
tables_weigh groups =
    let r : Table = attribute_table table.ResourceAttrs (map (λ (resource : Resource). resource.pairs) (resources_of groups)) in
    let s : Table = attribute_table table.ScopeAttrs (map (λ (scope : Scope). scope.pairs) (scopes_of groups)) in
    let l : Table = attribute_table table.LogAttrs (map (λ (log : LogRecord). log.pairs) (items_of groups)) in
    let all = weighs table.Logs record_cells (below_logs groups) groups in
    let below : sum_by (λ w. weight_of_table (table_of w)) (below_logs groups) ≡ weight_of_table r + weight_of_table s + weight_of_table l =
    three (λ w. weight_of_table (table_of w)) (pairs_below table.ResourceAttrs table.Logs 1 (resource_pairs groups))
    (pairs_below table.ScopeAttrs table.Logs 4 (scope_pairs groups)) (pairs_below table.LogAttrs table.Logs 0 (record_pairs groups)) in
    let wr : weight_of_table r ≡ sum_by (λ (resource : Resource). parts_weight pair_cells resource.pairs) (resources_of groups) =
    table_weighs table.ResourceAttrs (map (λ (resource : Resource). resource.pairs) (resources_of groups))
    ∙ sum_of_map (parts_weight pair_cells) (λ (resource : Resource). resource.pairs) (resources_of groups) in
    let ws : weight_of_table s ≡ sum_by (λ (scope : Scope). parts_weight pair_cells scope.pairs) (scopes_of groups) =
    table_weighs table.ScopeAttrs (map (λ (scope : Scope). scope.pairs) (scopes_of groups))
    ∙ sum_of_map (parts_weight pair_cells) (λ (scope : Scope). scope.pairs) (scopes_of groups) in
    let wl : weight_of_table l ≡ sum_by (λ (log : LogRecord). parts_weight pair_cells log.pairs) (items_of groups) =
    table_weighs table.LogAttrs (map (λ (log : LogRecord). log.pairs) (items_of groups))
    ∙ sum_of_map (parts_weight pair_cells) (λ (log : LogRecord). log.pairs) (items_of groups) in
    let wm = main_weighs record_cells table.Logs groups in
    let apart = rows_apart (λ (resource : Resource). parts_weight pair_cells resource.pairs) (λ (scope : Scope). parts_weight pair_cells scope.pairs)
    (λ (log : LogRecord). cells_weight (record_cells log)) (λ (log : LogRecord). parts_weight pair_cells log.pairs) groups in
    omega (arith, all, below, wr, ws, wl, wm, apart)

pub weighed : (groups gs : List (ResourceGroup LogRecord)) (n : ℕ) → gs ≡ groups
    → n ≡ min (rows_of_groups (λ resource. parts_weight pair_cells resource.pairs) (λ scope. parts_weight pair_cells scope.pairs)
    (λ log. cells_weight (record_cells log) + parts_weight pair_cells log.pairs) gs) (2 ^ 63)
    → n ≡ min (weight_of_tables (tables_of_logs groups)) (2 ^ 63)
weighed groups gs n same is =
    is ∙ ap (λ m. min m (2 ^ 63)) (tables_weigh gs) ∙ ap (λ gs. min (weight_of_tables (tables_of_logs gs)) (2 ^ 63)) same
