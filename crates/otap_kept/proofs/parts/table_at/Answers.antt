use Rattle.std.proofs.Common.{◌<◌, ◌∙◌, length, map, sym, ap, subst}
use Rattle.std.specs.Prelude.{All}
use Rattle.otap_cells.specs.Tables.{Table}
use Rattle.otap_groups.specs.declared.entry.ChildEntry.{ChildEntry}
use Rattle.otap_kept.specs.Tables.{kept_parts}
use Rattle.otap_kept.specs.Writing.{part_at}
use Rattle.otap_kept.proofs.UnderRows.{no_entries}
use Rattle.otap_kept.proofs.parts.table_at.Goals as goal

pub returns-in_default : goal.returns-in_default
returns-in_default g c =
    let entries = c.args.entries.now in
    c.new.ensures
    ∙ no_entries c.args.kind entries
    (subst (λ (t : Table). All (λ (e : ChildEntry). e.place < length t.rows) entries) c.in_default.ensures.table c.requires.within)
    ∙ ap (λ (t : Table). kept_parts c.args.kind (map (part_at t.rows) entries)) (sym c.in_default.ensures.table)

pub write_parts-requires-clause-within : goal.write_parts-requires-clause-within
write_parts-requires-clause-within g c =
    subst (λ (t : Table). All (λ (e : ChildEntry). e.place < length t.rows) c.args.entries.now) c.in-Some.ensures.table c.requires.within

pub returns : goal.returns
returns g c =
    let entries = c.args.entries.now in
    c.in_ok-table.ensures
    ∙ ap (λ kind. kept_parts kind (map (part_at (g.R.Rows.table c.in-Some.rows.now).rows) entries)) c.in-Some.ensures.of_kind
    ∙ ap (λ (t : Table). kept_parts c.args.kind (map (part_at t.rows) entries)) (sym c.in-Some.ensures.table)
