use Rattle.std.proofs.Common.{◌∙◌, ◌<◌, length, drop, sym, ap, subst, arith}
use Rattle.std.proofs.lemmas.List.{length-map}
use Rattle.std.proofs.lemmas.List.Elements.{All-get_or}
use Rattle.otap_groups.specs.declared.entry.ChildEntry.{ChildEntry}
use Rattle.otap_groups.specs.Inside.{blank}
use Rattle.otap_groups.specs.Found.{of_parent}
use Rattle.otap_attrs.specs.Index.{IsIndexOf}
use Rattle.otap_attrs.proofs.IndexedPairs.{are_pairs, below_rows, pairs_done}
use Rattle.otap_attrs.proofs.index.PairIndex.pairs_of.Goals as goal

pub add-requires : goal.add-requires
add-requires g c =
    let t = g.R.Rows.table c.args.rows.now in
    let are = c.entries_of-entries.ensures ∙ ap (of_parent c.args.parent) c.deref.ensures.value in
    let is = subst (IsIndexOf t) (sym c.self.view_is) c.requires in
    let below = below_rows t _ c.args.parent is c.entries_of-entries.result.now are c.self.invariant.below in
    let low = All-get_or (λ (e : ChildEntry). e.place < length t.rows) c.entries_of-entries.result.now c.entries.entry-index blank (omega arith) below in
    omega (arith, low, length-map t.rows (drop 1))

pub returns : goal.returns
returns g c =
    let t = g.R.Rows.table c.args.rows.now in
    let are = c.entries_of-entries.ensures ∙ ap (of_parent c.args.parent) c.deref.ensures.value in
    let is = subst (IsIndexOf t) (sym c.self.view_is) c.requires in
    pairs_done t.rows c.entries_of-entries.result.now c.entries.pairs c.entries.entry-index (omega arith) c.entries.invariant
    ∙ are_pairs t _ c.args.parent is c.entries_of-entries.result.now are
