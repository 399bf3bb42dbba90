use Rattle.std.proofs.Common.{◌∙◌, ◌+◌, ◌*◌, ℕ, ap, sym}
use Rattle.arrow_arrays.specs.Views.{part_between, value_seen}
use Rattle.arrow_arrays.proofs.BytesBelow.{cells_below}
use Rattle.arrow_arrays.proofs.column.ColumnView.is_below.Goals as goal

pub returns-in-Fixed-default-eq1 : goal.returns-in-Fixed-default-eq1
unfolding value_seen
returns-in-Fixed-default-eq1 c = λ below row. cells_below c.args.self.now c.in-Fixed-default-eq1.bytes.now c.args.count row
    (ap (λ s. value_seen s row) c.in-Fixed-default-eq1.is ∙ ap (λ (w : ℕ). part_between c.in-Fixed-default-eq1.bytes.now (row * w) ((row + 1) * w)) (sym c.in-Fixed-default-eq1.field-1-is ∙ c.in-Fixed-default-eq1.field-1-test))
    (c.are_below.ensures below)
