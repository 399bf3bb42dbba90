use Rattle.std.proofs.Common.{◌≡◌, ◌<◌, ◌∙◌, length, map, sym, ap, subst}
use Rattle.std.specs.Prelude.{All}
use Rattle.otap_cells.specs.GivenIds.{HasIds}
use Rattle.otap_cells.specs.Named.{table_named}
use Rattle.otap_groups.specs.declared.entry.ChildEntry.{ChildEntry}
use Rattle.otap_groups.specs.Inside.{entries_from}
use Rattle.otap_groups.specs.Rows.{id_at}
use Rattle.otap_attrs.specs.Sorting.{sorted_by}
use Rattle.otap_kept.specs.Numbering.{entry_has_lesser_parent}
use Rattle.otap_kept.specs.Numbers.{new_number}
use Rattle.otap_kept.specs.Tables.{kept_parts}
use Rattle.otap_kept.specs.Writing.{part_at}
use Rattle.otap_kept.proofs.UnderRows.{former_are, part_table_is, places_there}
use Rattle.otap_kept.proofs.parts.parts_below.Goals as goal

pub table_at-requires-clause-within : goal.table_at-requires-clause-within
table_at-requires-clause-within g c =
    let t = table_named c.args.kind c.args.set.now in
    let own : HasIds t 0 c.of-2.result.now = rw c.of-2.ensures (c.requires.known 0 c.requires.part.id).are in
    let above : HasIds t 1 c.of.result.now = rw c.of.ensures (c.requires.known 1 c.requires.part.parent).are in
    let entries : c.deref-3.result.now ≡ sorted_by entry_has_lesser_parent (entries_from 0 (map (new_number c.args.kept.now) c.of.result.now)) =
    c.deref-3.ensures.value ∙ c.in_ok-entries.ensures
    ∙ ap (λ numbers. sorted_by entry_has_lesser_parent (entries_from 0 numbers)) (c.deref.ensures.value ∙ c.in_ok-numbers.ensures) in
    subst (All (λ (e : ChildEntry). e.place < length t.rows)) (sym entries) (places_there c.args.kept.now t c.of-2.result.now c.of.result.now own above)

pub returns-clause-table : goal.returns-clause-table
returns-clause-table g c =
    let t = table_named c.args.kind c.args.set.now in
    let own : HasIds t 0 c.of-2.result.now = rw c.of-2.ensures (c.requires.known 0 c.requires.part.id).are in
    let above : HasIds t 1 c.of.result.now = rw c.of.ensures (c.requires.known 1 c.requires.part.parent).are in
    let entries : c.deref-3.result.now ≡ sorted_by entry_has_lesser_parent (entries_from 0 (map (new_number c.args.kept.now) c.of.result.now)) =
    c.deref-3.ensures.value ∙ c.in_ok-entries.ensures
    ∙ ap (λ numbers. sorted_by entry_has_lesser_parent (entries_from 0 numbers)) (c.deref.ensures.value ∙ c.in_ok-numbers.ensures) in
    c.in_ok-table.ensures ∙ ap (λ entries. kept_parts c.args.kind (map (part_at t.rows) entries)) entries
    ∙ part_table_is c.args.kept.now t c.of-2.result.now c.of.result.now own above c.args.kind

pub returns-clause-ids : goal.returns-clause-ids
returns-clause-ids g c =
    let t = table_named c.args.kind c.args.set.now in
    let own : HasIds t 0 c.of-2.result.now = rw c.of-2.ensures (c.requires.known 0 c.requires.part.id).are in
    let above : HasIds t 1 c.of.result.now = rw c.of.ensures (c.requires.known 1 c.requires.part.parent).are in
    let entries : c.deref-2.result.now ≡ sorted_by entry_has_lesser_parent (entries_from 0 (map (new_number c.args.kept.now) c.of.result.now)) =
    c.deref-2.ensures.value ∙ c.in_ok-entries.ensures
    ∙ ap (λ numbers. sorted_by entry_has_lesser_parent (entries_from 0 numbers)) (c.deref.ensures.value ∙ c.in_ok-numbers.ensures) in
    c.in_ok-ids.ensures ∙ ap (map (λ (e : ChildEntry). id_at c.of-2.result.now e.place)) entries
    ∙ former_are c.args.kept.now t c.of-2.result.now c.of.result.now own above
