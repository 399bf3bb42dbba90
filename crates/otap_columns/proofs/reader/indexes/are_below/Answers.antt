use Rattle.std.proofs.Common.{◌≡◌, ℕ, List, length, true, false, Option, Some, None, refl, sym, arith}
use Rattle.std.proofs.lemmas.Bool.{lt-ltb}
use Rattle.byteorder.specs.Endian.{little_number}
use Rattle.arrow_buffers.proofs.EachBelow.{all_below-each, all_below-fails}
use Rattle.arrow_arrays.specs.Views.{cell_seen, HoldsBelow}
use Rattle.otap_columns.specs.Substreams.{is_index_below}
use Rattle.otap_columns.proofs.reader.indexes.are_below.Goals as goal

below : (count : ℕ) (cell : Option (List ℕ)) → HoldsBelow count cell → is_index_below count cell ≡ true
below count None holds = refl
below count (Some index) holds = lt-ltb (little_number (length index) index) count holds

pub returns-then-is_below : goal.returns-then-is_below
returns-then-is_below c =
    let test = λ (row : ℕ). is_index_below c.args.count (cell_seen c.args.column.now row) in
    let each : (row : ℕ) → test row ≡ true = λ row. below c.args.count (cell_seen c.args.column.now row) (c.is_below.ensures c.if-is_below.true row) in
    sym (all_below-each test c.args.rows (λ row less. each row))

pub returns-then-not-is_below : goal.returns-then-not-is_below
returns-then-not-is_below c =
    let test = λ (row : ℕ). is_index_below c.args.count (cell_seen c.args.column.now row) in
    let here : test c.rows.row ≡ false = cc in
    sym (all_below-fails test c.args.rows c.rows.row here (omega arith))
