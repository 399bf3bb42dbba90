use Rattle.std.proofs.Common.{sym, ◌∙◌}
use Rattle.otap_cells.specs.Columns.{columns_of}
use Rattle.otap_cells.proofs.Dotted.{found_at, passed_at}
use Rattle.otap_cells.proofs.paths.column_of.Goals as goal

pub returns-then-is_joined : goal.returns-then-is_joined
returns-then-is_joined c =
    found_at _ (columns_of c.args.kind) _ _ c.args.path.now _ _ c.columns-columns.ensures.table c.columns-test.true
    c.as_bytes.ensures.value c.is_joined.ensures c.columns.invariant c.if-is_joined.true (sym c.some_dot.ensures ∙ c.if-some_dot.false)

pub columns-preserved : goal.columns-preserved
columns-preserved c =
    passed_at _ (columns_of c.args.kind) _ _ c.args.path.now _ _ c.columns-columns.ensures.table c.columns-test.true
    c.as_bytes.ensures.value c.is_joined.ensures c.columns.invariant c.if-is_joined.false
