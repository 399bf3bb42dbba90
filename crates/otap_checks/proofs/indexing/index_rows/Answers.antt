use Rattle.std.proofs.Common.{◌∙◌, List, drop, length, sym, ap}
use Rattle.std.proofs.lemmas.List.{length-map}
use Rattle.otap_cells.specs.Cells.{Cell}
use Rattle.otap_cells.specs.GivenIds.{HasIds}
use Rattle.otap_cells.specs.Named.{table_named}
use Rattle.otap_groups.specs.Children.{children}
use Rattle.otap_groups.specs.Rows.{child_rows}
use Rattle.otap_checks.proofs.MissingRows.{parts_are}
use Rattle.otap_attrs.proofs.TablePairs.{ids_long}
use Rattle.otap_checks.proofs.indexing.index_rows.Goals as goal

pub new-requires : goal.new-requires
new-requires g c =
    let t = table_named c.args.kind c.args.set.now in
    let above : HasIds t 1 c.of-parents.result.now = rw c.of-parents.ensures (c.requires.known 1 c.requires.part.parent).are in
    ids_long t 1 c.of-parents.result.now above ∙ sym (length-map t.rows (drop 2)) ∙ ap length (sym c.requires.rows)

pub returns : goal.returns
returns g c = λ parent.
    let t = table_named c.args.kind c.args.set.now in
    let own : HasIds t 0 c.of-ids.result.now = rw c.of-ids.ensures (c.requires.known 0 c.requires.part.id).are in
    let above : HasIds t 1 c.of-parents.result.now = rw c.of-parents.ensures (c.requires.known 1 c.requires.part.parent).are in
    c.in_ok-made.ensures parent
    ∙ ap (λ (cells : List (List Cell)). children (g.S.RowReader.item c.args.reader) (child_rows c.of-ids.result.now c.of-parents.result.now cells) parent) c.requires.rows
    ∙ parts_are (g.S.RowReader.item c.args.reader) t c.of-ids.result.now c.of-parents.result.now own above parent
