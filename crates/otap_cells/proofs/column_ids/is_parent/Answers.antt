use Rattle.std.proofs.Common.{◌∙◌, sym, ap, codes, arith}
use Rattle.std.specs.Str.{bytes_eq}
use Rattle.std.proofs.lemmas.Slice.Eq.{bytes_eq-Decides}
use Rattle.otap_cells.specs.Columns.{name_at}
use Rattle.otap_cells.proofs.ColumnSteps.{name_here}
use Rattle.otap_cells.proofs.column_ids.is_parent.Goals as goal

pub returns : goal.returns
returns c =
    let name = name_here c.columns.result.now c.args.kind c.args.column _ c.columns.ensures.table (omega (arith, c.requires, c.columns.ensures.width)) in
    let decides = bytes_eq-Decides (name_at c.args.kind c.args.column) (codes "parent_id") in
    let same = c.eq.ensures ∙ ap (λ name. bytes_eq name (codes "parent_id")) name in
    (λ hit. decides.0 (sym same ∙ hit), λ named. same ∙ decides.1 named)
