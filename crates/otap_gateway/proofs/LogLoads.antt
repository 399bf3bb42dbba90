-- The tables of a load of logs aren't too heavy.
use Rattle.std.proofs.Common.{◌≡◌, ℕ, ◌+◌, ◌%◌, ◌<◌, ◌≤◌, ◌^◌, List, length, refl, subst, arith}
use Rattle.std.specs.Prelude.{codes, min}
use Rattle.std.proofs.Math.Nat.{mod-lt}
use Rattle.otlp_model.specs.declared.value.Value as values
use Rattle.otlp_load.specs.Pairs.{numbered_text}
use Rattle.otlp_load.specs.Items.{load_log_record}
use Rattle.otlp_load.specs.Load.{groups_of, requests_at_most}
use Rattle.otlp_load.proofs.ItemsLight.{numbered_at_most}
use Rattle.otap_cells.specs.Weights.{row_weight_limit, weight_of_tables}
use Rattle.otap_groups.specs.Weighing.{cells_weight, parts_weight}
use Rattle.otap_attrs.specs.Values.{pair_cells, value_cells}
use Rattle.otap_attrs.proofs.AttributesWeighed.{str_weighs}
use Rattle.otap_logs.specs.Records.{record_cells}
use Rattle.otap_logs.specs.Tables.{tables_of_logs}
use Rattle.otap_logs.proofs.RecordRows.{own_weight}
use Rattle.otap_logs.proofs.WrittenWeight.{tables_weigh}
use Rattle.otap_gateway.proofs.LoadRows.{pairs_rows, load_rows}

record_rows : (r n : ℕ) → r < requests_at_most → cells_weight (record_cells (load_log_record r n)) + parts_weight pair_cells (load_log_record r n).pairs ≤ 800
record_rows r n request =
    let few : n % 5000 < 5000 = mod-lt n (omega arith) in
    let text : List ℕ = numbered_text (codes "message ") (n % 5000) in
    let short : length text ≤ 12 = numbered_at_most 4 (n % 5000) (codes "message ") (omega arith) (omega arith) (omega arith) in
    let body : length text ≡ min (cells_weight (value_cells (values.Str text))) (2 ^ 63) = rw (str_weighs text) (omega (arith, short)) in
    let own : length text ≡ min (cells_weight (record_cells (load_log_record r n))) (2 ^ 63) =
    own_weight (load_log_record r n) 0 0 0 0 (length text) (length text) refl refl refl body refl (omega (arith, short)) in
    let pairs = pairs_rows r n request in
    omega (arith, own, short, pairs)

pub log_rows : (r : ℕ) → r < requests_at_most → weight_of_tables (tables_of_logs (groups_of load_log_record r)) ≤ row_weight_limit
log_rows r request =
    subst (λ (weight : ℕ). weight ≤ row_weight_limit) (tables_weigh (groups_of load_log_record r))
    (load_rows (λ log. cells_weight (record_cells log) + parts_weight pair_cells log.pairs) load_log_record r (λ n. record_rows r n request))
